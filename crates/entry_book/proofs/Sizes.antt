-- Masks: no bit of an unknown class, and the walk over the classes of a mask. Assumes nothing.
use Prim.Native.Nat.{ℕ, ◌+◌, ◌-◌, ◌*◌, ◌/◌, ◌%◌, ◌^◌, ◌≤◌, ◌<◌}
use native.Mathlib.Omega.{arith}
use native.Mathlib.Nat.{div-eq_of_lt, div-lt_iff_lt-mul}
use mathlib.Core.Path.{◌≡◌, refl, sym, ap}
use mathlib.Core.Bool.{Bool, true, false, ◌||◌}
use mathlib.Core.List.{List}
use lib.Dec.{eqb, ltb}
use lib.Pow.{pow_pos}
use lib.ListN.{get_or}
use borrow.Author.Tests.{eq-eqb, ne_eqb, ltb-true, ltb-false}
use Rattle.words.specs.RowsAt.{rows_at, rows_at_start, rows_at_more, rows_at_done}
use Rattle.definition.specs.declared.ClassData.{ClassData}
use Rattle.definition.specs.Entry.{sized}
use Rattle.reginfo.specs.Rows.{class_row, classes_at}

-- ---- a shift by n leaves nothing where there is no bit from bit n on

pub mask_test : (m n : ℕ) → eqb (m / 2 ^ n) 0 ≡ ltb m (2 ^ n)
mask_test m n = go (ltb m (2 ^ n)) refl
  where
    go : (b : Bool) → ltb m (2 ^ n) ≡ b → eqb (m / 2 ^ n) 0 ≡ b
    go true e = eq-eqb _ _ (div-eq_of_lt (ltb-true m (2 ^ n) e))
    go false e =
        ne_eqb _ _
        (λ (z : m / 2 ^ n ≡ 0).
        let l : m / 2 ^ n < 1 = rw z (omega arith) in
        let k : m < 1 * 2 ^ n = (div-lt_iff_lt-mul (pow_pos n)).0 l in
        let g : 2 ^ n ≤ m = ltb-false m (2 ^ n) e in
        omega arith)

-- ---- the walk: it stands before class i, with m the mask from bit i on

-- class i, of size c, is not in the mask or has size s
abbrev pub agrees : ℕ → ℕ → ℕ → Bool
agrees m c s = eqb (m % 2) 0 || eqb c s

module _ (W : List ℕ) (at n s : ℕ) where
  -- the classes from class i on
  abbrev pub classes_from : ℕ → List ClassData
  classes_from i = rows_at class_row W (at + i * 4) 4 (n - i)

  pub sized_first : (m : ℕ) → sized m s (classes_at W at n) ≡ sized m s (classes_from 0)
  unfolding classes_at
  sized_first m = ap (λ (cs : List ClassData). sized m s cs) (sym (rows_at_start class_row W at 4 n))

  pub sized_next : (m i : ℕ) → i < n → agrees m (get_or W (at + i * 4 + 2) 0) s ≡ true → sized m s (classes_from i) ≡ sized (m / 2) s (classes_from (i + 1))
  unfolding sized class_row
  sized_next m i h e = rw (rows_at_more class_row W at 4 n i h, e)

  pub sized_not : (m i : ℕ) → i < n → agrees m (get_or W (at + i * 4 + 2) 0) s ≡ false → sized m s (classes_from i) ≡ false
  unfolding sized class_row
  sized_not m i h e = rw (rows_at_more class_row W at 4 n i h, e)

  pub sized_last : (m i : ℕ) → n ≤ i → sized m s (classes_from i) ≡ true
  unfolding sized
  sized_last m i h = rw (rows_at_done class_row W at 4 n i h)
