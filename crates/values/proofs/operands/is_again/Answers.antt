use native.Mathlib.Omega.{arith}
use mathlib.Core.Path.{◌∙◌}
use Rattle.values.proofs.Search.{next_less, taken_is}
use Rattle.values.proofs.operands.is_again.Goals as goal

pub find_from-requires : goal.find_from-requires
find_from-requires c = omega (arith, next_less _ _ _ c.args.index.now.chained _ _ c.requires c.word_at-before.ensures)

pub returns : goal.returns
returns c = c.is_some.ensures ∙ taken_is _ _ _ c.args.index.now.chained _ _ _ _ c.requires c.word_at-slot.ensures c.word_at-before.ensures c.find_from.ensures
