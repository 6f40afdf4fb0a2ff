-- One column of a table. Assumes nothing.
use Prim.Native.Nat.{ℕ, ◌+◌, ◌*◌, ◌<◌}
use mathlib.Core.Path.{◌≡◌}
use mathlib.Core.Bool.{true}
use mathlib.Core.List.{List}
use lib.Dec.{ltb}
use lib.ListN.{get_or}
use borrow.Author.Tests.{ltb-true}
use Rattle.job.specs.declared.Table.{Table}
use Rattle.job_shape.specs.Shape.{word_in, all_below}
use Rattle.job_shape.proofs.Every.{every_row}

-- each word of the column of a table that passes
pub below_row : (W : List ℕ) (t : Table) (stride col bound : ℕ) → all_below W t stride col bound ≡ true → (i : ℕ) → i < t.n → get_or W (t.at + i * stride + col) 0 < bound
unfolding all_below
below_row W t stride col bound e i h = ltb-true _ _ (every_row (λ x. ltb x bound) (word_in col) W t.at stride t.n e i h)
