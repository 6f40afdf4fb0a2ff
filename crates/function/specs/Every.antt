-- `(0..n).all(test)` is the definition's `every` over the rows that the test reads. Assumes nothing.
use Rattle.std.specs.Prelude.{ℕ, zero, suc, ◌+◌, ◌*◌, ◌≡◌, refl, Bool, List, ◌&&◌}
use Rattle.std.proofs.Common.{ap, ◌∙◌}
use Rattle.std.proofs.iter.Yields.{nat_range_steps}
use Rattle.std.proofs.lemmas.Iterator.{YieldsList-from_range}
use Rattle.std.proofs.lemmas.Iterator.Search.{all_from_yields_List}
use Rattle.std.specs.Fn.{Called}
use Rattle.std.specs.Iterator.{ChecksAll}
use Rattle.std.specs.List.{list_all, range_with_len}
use Rattle.std.specs.declared.ops.Range.{Range}
use denote.Param.Members.{Mut}
use native.Mathlib.Nat.{sub-zero}
use Rattle.words.specs.Tab.{tab}
use Rattle.words.specs.RowsAt.{rows_at}
use Rattle.definition.specs.Entry.{every}

every_of_range : {A : Type 0} (p : A → Bool) (f : ℕ → A) (i k : ℕ) → list_all (λ j. p (f j)) (range_with_len i k) ≡ every p (tab f i k)
unfolding every
every_of_range p f i zero = refl
every_of_range p f i (suc k) = ap (λ b. p (f i) && b) (every_of_range p f (i + 1) k)

-- each of the first n: the closure h says of index x whether p holds of f x
pub every_from_all : {A F : Type 0} {g : Mut F (ℕ × Unit {0}) Bool} (p : A → Bool) (f : ℕ → A) (n : ℕ) {u : Range ℕ} {h : F} {r : Bool} → ChecksAll nat_range_steps g (record { start = 0; end = n }) h r u → ((x : ℕ) (b : Bool) (q : F) → Called g h (x, tt) b q → (q ≡ h) × (b ≡ p (f x))) → r ≡ every p (tab f 0 n)
every_from_all p f n {u} {h} {r} ran is = all_from_yields_List (λ x. p (f x)) u h r ran (YieldsList-from_range 0 n n refl (sub-zero n)) is ∙ every_of_range p f 0 n

-- the same of n rows, s words apart
pub every_row_from_all : {A F : Type 0} {g : Mut F (ℕ × Unit {0}) Bool} (p : A → Bool) (row : List ℕ → ℕ → A) (W : List ℕ) (at s n : ℕ) {u : Range ℕ} {h : F} {r : Bool} → ChecksAll nat_range_steps g (record { start = 0; end = n }) h r u → ((x : ℕ) (b : Bool) (q : F) → Called g h (x, tt) b q → (q ≡ h) × (b ≡ p (row W (at + x * s)))) → r ≡ every p (rows_at row W at s n)
unfolding rows_at
every_row_from_all p row W at s n ran is = every_from_all p (λ k. row W (at + k * s)) n ran is
