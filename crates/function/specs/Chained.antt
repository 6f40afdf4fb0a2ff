-- `(1..n).all(test)` on each index and the one before it is the definition's `chained` over the rows. Assumes nothing.
use Rattle.std.specs.Prelude.{ℕ, zero, suc, ◌+◌, ◌-◌, ◌*◌, ◌≡◌, refl, Bool, List, ◌&&◌}
use Rattle.std.proofs.Common.{ap, ◌∙◌, arith}
use Rattle.std.proofs.iter.Yields.{nat_range_steps}
use Rattle.std.proofs.lemmas.Iterator.{YieldsList-from_range}
use Rattle.std.proofs.lemmas.Iterator.Search.{all_from_yields_List}
use Rattle.std.specs.Fn.{Called}
use Rattle.std.specs.Iterator.{ChecksAll}
use Rattle.std.specs.List.{list_all, range_with_len}
use Rattle.std.specs.declared.ops.Range.{Range}
use denote.Param.Members.{Mut}
use Rattle.words.specs.Tab.{tab}
use Rattle.words.specs.RowsAt.{rows_at}
use Rattle.definition.specs.Entry.{chained}

-- the indices behind i, each with the one before it
chained_behind : {A : Type 0} (p : A → A → Bool) (f : ℕ → A) (i k : ℕ) → list_all (λ j. p (f (j - 1)) (f j)) (range_with_len (i + 1) k) ≡ chained p (tab f i (suc k))
unfolding chained
chained_behind p f i zero = refl
chained_behind p f i (suc k) =
    let e : i + 1 - 1 ≡ i = omega arith in
    ap (λ j. p (f j) (f (i + 1)) && list_all (λ m. p (f (m - 1)) (f m)) (range_with_len (i + 1 + 1) k)) e
    ∙ ap (λ b. p (f i) (f (i + 1)) && b) (chained_behind p f (i + 1) k)

chained_of_range : {A : Type 0} (p : A → A → Bool) (f : ℕ → A) (n : ℕ) → list_all (λ j. p (f (j - 1)) (f j)) (range_with_len 1 (n - 1)) ≡ chained p (tab f 0 n)
unfolding chained
chained_of_range p f zero = refl
chained_of_range p f (suc k) =
    let e : suc k - 1 ≡ k = omega arith in
    rw e (chained_behind p f 0 k)

-- each of the first n and the next one: the closure h says of index x whether p holds of f (x - 1) and f x
pub chained_from_all : {A F : Type 0} {g : Mut F (ℕ × Unit {0}) Bool} (p : A → A → Bool) (f : ℕ → A) (n : ℕ) {u : Range ℕ} {h : F} {r : Bool} → ChecksAll nat_range_steps g (record { start = 1; end = n }) h r u → ((x : ℕ) (b : Bool) (q : F) → Called g h (x, tt) b q → (q ≡ h) × (b ≡ p (f (x - 1)) (f x))) → r ≡ chained p (tab f 0 n)
chained_from_all p f n {u} {h} {r} ran is = all_from_yields_List (λ x. p (f (x - 1)) (f x)) u h r ran (YieldsList-from_range 1 n (n - 1) refl refl) is ∙ chained_of_range p f n

-- the same of n rows, s words apart
pub chained_row_from_all : {A F : Type 0} {g : Mut F (ℕ × Unit {0}) Bool} (p : A → A → Bool) (row : List ℕ → ℕ → A) (W : List ℕ) (at s n : ℕ) {u : Range ℕ} {h : F} {r : Bool} → ChecksAll nat_range_steps g (record { start = 1; end = n }) h r u → ((x : ℕ) (b : Bool) (q : F) → Called g h (x, tt) b q → (q ≡ h) × (b ≡ p (row W (at + (x - 1) * s)) (row W (at + x * s)))) → r ≡ chained p (rows_at row W at s n)
unfolding rows_at
chained_row_from_all p row W at s n ran is = chained_from_all p (λ k. row W (at + k * s)) n ran is
