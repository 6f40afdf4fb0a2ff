-- A test of every row of a table: what it says of each row. Assumes nothing.
use Prim.Native.Nat.{ℕ, zero, suc, ◌+◌, ◌*◌, ◌<◌}
use native.Mathlib.Omega.{arith}
use native.Mathlib.Nat.{zero-add, add-zero}
use mathlib.Core.Path.{◌≡◌, refl}
use mathlib.Core.Bool.{Bool, true, ◌&&◌}
use mathlib.Core.List.{List}
use Rattle.words.specs.Tab.{tab}
use Rattle.words.specs.RowsAt.{rows_at}
use Rattle.definition.specs.Entry.{every}
use Rattle.definition.proofs.Entries.{and_both}

-- ---- each row of a table that passes

every_tab : {A : Type 0} (f : A → Bool) (g : ℕ → A) (i k : ℕ) → every f (tab g i k) ≡ true → (j : ℕ) → j < k → f (g (i + j)) ≡ true
unfolding every
every_tab f g i zero e j h = absurd (omega arith)
every_tab f g i (suc k) e zero h = rw (add-zero i) (and_both (f (g i)) (every f (tab g (i + 1) k)) e).0
every_tab f g i (suc k) e (suc j) h =
    let a : i + suc j ≡ i + 1 + j = omega arith in
    rw a (every_tab f g (i + 1) k (and_both (f (g i)) (every f (tab g (i + 1) k)) e).1 j (omega arith))

pub every_row : {A : Type 0} (f : A → Bool) (row : List ℕ → ℕ → A) (W : List ℕ) (at s n : ℕ) → every f (rows_at row W at s n) ≡ true
    → (j : ℕ) → j < n → f (row W (at + j * s)) ≡ true
unfolding rows_at
every_row f row W at s n e j h = rw (zero-add j) at (every_tab f (λ k. row W (at + k * s)) 0 n e j h)

-- ---- two tests that agree on the rows

same_tab : {A B : Type 0} (f : A → Bool) (f' : B → Bool) (g : ℕ → A) (g' : ℕ → B) → ((j : ℕ) → f (g j) ≡ f' (g' j)) → (i k : ℕ) → every f (tab g i k) ≡ every f' (tab g' i k)
unfolding every
same_tab f f' g g' e i zero = refl
same_tab f f' g g' e i (suc k) = λ x. e i x && same_tab f f' g g' e (i + 1) k x

pub every_same : {A B : Type 0} (f : A → Bool) (f' : B → Bool) (row : List ℕ → ℕ → A) (row' : List ℕ → ℕ → B) (W : List ℕ)
    → ((i : ℕ) → f (row W i) ≡ f' (row' W i)) → (at s n : ℕ) → every f (rows_at row W at s n) ≡ every f' (rows_at row' W at s n)
unfolding rows_at
every_same f f' row row' W e at s n = same_tab f f' (λ k. row W (at + k * s)) (λ k. row' W (at + k * s)) (λ j. e (at + j * s)) 0 n
