use mathlib.Core.Path.{ap}
use mathlib.Core.List.{[], ◌∷◌, ◌++◌}
use Prim.Native.Nat.{ℕ}
use native.Mathlib.Omega.{arith}
use Rattle.lines.specs.Wrote.{fields_text, index_text}
use Rattle.lines.specs.Laws.{then, as_text}
use Rattle.register_sheet.specs.Typed.{vreg_tail}
use Rattle.register_sheet.specs.Texts.{flag_is}
use Rattle.register_sheet.proofs.vreg_tail.Goals as goal

pub returns : goal.returns
unfolding vreg_tail
returns c = as_text 64 _ (then c.put_index-a.ensures (then c.put_fields-b.ensures c.put_bytes.ensures)) (omega arith)
    (ap (λ (k : ℕ). (9 ∷ index_text c.args.group) ++ (fields_text (c.args.index ∷ k ∷ []) ++ (10 ∷ []))) (flag_is _ _ c.from.ensures))
