use mathlib.Core.Path.{ap, ◌∙◌}
use Prim.Native.Nat.{ℕ, ◌/◌, ◌^◌}
use lib.Dec.{eqb}
use Rattle.entry_book.proofs.Sizes.{mask_test}
use Rattle.entry_book.proofs.mask_known.Goals as goal

pub returns : goal.returns
returns c = ap (λ (m : ℕ). eqb (m / 2 ^ c.args.n) 0) c.from.ensures ∙ mask_test c.args.mask c.args.n
