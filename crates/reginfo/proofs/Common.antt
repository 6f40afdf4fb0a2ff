-- Laws that the code of the register book is proved by. Assumes nothing.
use mathlib.Core.Path.{◌≡◌, sym, ap, ◌∙◌}
use mathlib.Core.List.{List}
use Prim.Native.Nat.{ℕ, ◌+◌, ◌*◌, ◌≤◌, ◌<◌}
use native.Mathlib.Omega.{arith}
use lib.Bits.{bit_and}
use lib.ListN.{length, get_or}
use Rattle.words.specs.RowsAt.{rows_at, get_or_rows_at, length_rows_at}
use Rattle.definition.specs.declared.RegClass.{RegClass}
use Rattle.definition.specs.declared.ClassData.{ClassData}
use Rattle.definition.specs.Types.{Job}
use Rattle.definition.specs.RegInfo.{no_class, class_at, lowest, common_subclass}
use Rattle.std.proofs.Math.ListN.{get_or-eq_default}
use Rattle.reginfo.specs.Rows.{found_of, class_row, classes_at, mask_in}

-- the mask of a class of the table, and of one past it
pub mask_known : (W : List ℕ) (at n k w : ℕ) (c : RegClass) → k ≡ c.0 → k < n → w ≡ get_or W (at + k * 4) 0 → w ≡ mask_in (classes_at W at n) c
unfolding mask_in classes_at class_row
mask_known W at n k w c e l h = h ∙ ap (λ (d : ClassData). d.mask) (sym (get_or_rows_at class_row W at 4 n k no_class l)) ∙ ap (λ (j : ℕ). (get_or (rows_at class_row W at 4 n) j no_class).mask) e

pub mask_past : (W : List ℕ) (at n k : ℕ) (c : RegClass) → k ≡ c.0 → n ≤ k → 0 ≡ mask_in (classes_at W at n) c
unfolding mask_in classes_at
mask_past W at n k c e l =
    let p : length (rows_at class_row W at 4 n) ≤ c.0 = omega (arith, length_rows_at class_row W at 4 n) in
    ap (λ (d : ClassData). d.mask) (sym (get_or-eq_default (rows_at class_row W at 4 n) no_class {n = c.0} p))

pub common_of : (W : List ℕ) (at n x y : ℕ) (a b : RegClass) → x ≡ mask_in (classes_at W at n) a → y ≡ mask_in (classes_at W at n) b
    → (job : Job) → job.classes ≡ classes_at W at n → found_of (lowest (bit_and x y)) ≡ found_of (common_subclass job a b)
unfolding common_subclass class_at mask_in
common_of W at n x y a b ex ey job e = rw (ex, ey, e)
