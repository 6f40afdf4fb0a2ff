-- One class's tests on its words. Assumes nothing.
use Prim.Native.Nat.{ℕ, ◌+◌, ◌^◌}
use mathlib.Core.Path.{◌≡◌, sym}
use mathlib.Core.Bool.{Bool, ◌||◌}
use mathlib.Core.List.{List, [], ◌∷◌}
use lib.Dec.{leb, ltb}
use lib.ListN.{get_or}
use lib.Ieee.{binary32, of_bits}
use Rattle.words.specs.RowsAt.{length_rows_at}
use Rattle.definition.specs.declared.ClassData.{ClassData}
use Rattle.definition.specs.Entry.{conj, small, sized, class_ok}
use Rattle.reginfo.specs.Rows.{class_row, classes_at}

-- the tests of a class with mask m, cost of bits w and size z, among the classes cs, n of them
abbrev pub tests_of : List ClassData → ℕ → ℕ → ℕ → ℕ → List Bool
tests_of cs n m w z = ltb m (2 ^ n) ∷ small (of_bits binary32 w) ∷ leb 1 z ∷ leb z 8 ∷ (ltb z 2 || sized m z cs) ∷ []

pub class_tests : (W : List ℕ) (at n i : ℕ) {m w z : ℕ} → m ≡ get_or W i 0 → w ≡ get_or W (i + 1) 0 → z ≡ get_or W (i + 2) 0
    → conj (tests_of (classes_at W at n) n m w z) ≡ class_ok (classes_at W at n) (class_row W i)
unfolding class_ok class_row classes_at
class_tests W at n i a b c = λ x. conj (tests_of (classes_at W at n) (sym (length_rows_at class_row W at 4 n) x) (a x) (b x) (c x))
