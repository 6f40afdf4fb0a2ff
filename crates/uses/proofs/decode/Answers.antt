use mathlib.Core.Path.{◌∙◌}
use Rattle.uses.proofs.Typed.{decoded_kind, decoded_field, decoded_one, typed_words}
use Rattle.uses.proofs.decode.Goals as goal

pub returns-then-kind-ge10 : goal.returns-then-kind-ge10
returns-then-kind-ge10 c = decoded_kind _ _ _ c.word_at-kind.ensures c.if-kind-ge10.true

pub returns-then-fits : goal.returns-then-fits
returns-then-fits c = decoded_one _ _ _ c.word_at-kind.ensures c.if-kind-ge10.false _ (c.fields_fit-fits.ensures ∙ typed_words _ _ _ _ _ _ _ c.word_at-kind.ensures c.word_at.ensures c.word_at-2.ensures c.word_at-3.ensures c.word_at-4.ensures) _ c.if-fits.true c.use_at.ensures

pub returns-else-fits : goal.returns-else-fits
returns-else-fits c = decoded_field _ _ _ c.word_at-kind.ensures c.if-kind-ge10.false _ (c.fields_fit-fits.ensures ∙ typed_words _ _ _ _ _ _ _ c.word_at-kind.ensures c.word_at.ensures c.word_at-2.ensures c.word_at-3.ensures c.word_at-4.ensures) c.if-fits.false
