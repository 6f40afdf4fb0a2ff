-- The scan for a cut's place in a use list. Assumes nothing.
use mathlib.Core.Path.{◌≡◌, refl, sym, ap, ◌∙◌}
use mathlib.Core.Bool.{Bool, true, false}
use mathlib.Core.List.{List, [], ◌∷◌}
use Prim.Native.Nat.{ℕ, ◌+◌, ◌-◌, ◌*◌, ◌≤◌, ◌<◌}
use native.Mathlib.Omega.{arith}
use lib.Dec.{ltb}
use lib.ListN.{length, get_or, take, drop}
use borrow.Author.Tests.{le-ltb, lt-ltb}
use Rattle.words.specs.RowsAt.{rows_at, rows_at_start, rows_at_more, rows_at_done}
use Rattle.definition.specs.declared.Inst.{Inst}
use Rattle.definition.specs.declared.Use.{Use}
use Rattle.definition.specs.Cuts.{uses_before, uses_from}
use Rattle.uses.specs.Rows.{use_row, uses_at}

-- i uses come before p, and so do some of those that are left
unfoldable pub CountsOn : List ℕ → ℕ → ℕ → Inst → ℕ → Type 0
CountsOn W at n p i = length (uses_before p (uses_at W at n)) ≡ i + length (uses_before p (rows_at use_row W (at + i * 6) 6 (n - i)))

pub counts_start : (W : List ℕ) (at n : ℕ) (p : Inst) → CountsOn W at n p 0
unfolding CountsOn uses_at
counts_start W at n p = rw (rows_at_start use_row W at 6 n) (omega arith)

before_yes : (p : Inst) (u : Use) (us : List Use) → u.pos.0 < p.0 → uses_before p (u ∷ us) ≡ u ∷ uses_before p us
unfolding uses_before
before_yes p u us h = rw (lt-ltb _ _ h, uses_before)

before_no : (p : Inst) (u : Use) (us : List Use) → p.0 ≤ u.pos.0 → uses_before p (u ∷ us) ≡ []
unfolding uses_before
before_no p u us h = rw (le-ltb _ _ h, uses_before)

pub counts_next : (W : List ℕ) (at n : ℕ) (p : Inst) (i w : ℕ) → CountsOn W at n p i → i < n → w ≡ get_or W (at + i * 6 + 1) 0 → w < p.0 → CountsOn W at n p (i + 1)
unfolding CountsOn use_row
counts_next W at n p i w c l e h =
    let m = ap (λ (us : List Use). i + length (uses_before p us)) (rows_at_more use_row W at 6 n i l) in
    let y = ap (λ (us : List Use). i + length us) (before_yes p (use_row W (at + i * 6)) (rows_at use_row W (at + (i + 1) * 6) 6 (n - (i + 1))) (omega (arith, e))) in
    let s : i + length (use_row W (at + i * 6) ∷ uses_before p (rows_at use_row W (at + (i + 1) * 6) 6 (n - (i + 1)))) ≡ i + 1 + length (uses_before p (rows_at use_row W (at + (i + 1) * 6) 6 (n - (i + 1)))) = omega arith in
    c ∙ m ∙ y ∙ s

pub counts_stop : (W : List ℕ) (at n : ℕ) (p : Inst) (i w : ℕ) → CountsOn W at n p i → i < n → w ≡ get_or W (at + i * 6 + 1) 0 → p.0 ≤ w → i ≡ length (uses_before p (uses_at W at n))
unfolding CountsOn use_row
counts_stop W at n p i w c l e h =
    let m = ap (λ (us : List Use). i + length (uses_before p us)) (rows_at_more use_row W at 6 n i l) in
    let y = ap (λ (us : List Use). i + length us) (before_no p (use_row W (at + i * 6)) (rows_at use_row W (at + (i + 1) * 6) 6 (n - (i + 1))) (omega (arith, e))) in
    let s : i + length {A = Use} [] ≡ i = omega arith in
    sym (c ∙ m ∙ y ∙ s)

pub counts_end : (W : List ℕ) (at n : ℕ) (p : Inst) (i : ℕ) → CountsOn W at n p i → n ≤ i → i ≡ length (uses_before p (uses_at W at n))
unfolding CountsOn uses_before
counts_end W at n p i c l =
    let m = ap (λ (us : List Use). i + length (uses_before p us)) (rows_at_done use_row W at 6 n i l) in
    let s : i + length {A = Use} [] ≡ i = omega arith in
    sym (c ∙ m ∙ s)

-- the uses before p are the first of the list, and those from p on the rest
pub before_take : (p : Inst) (us : List Use) → uses_before p us ≡ take (length (uses_before p us)) us
unfolding uses_before
before_take p [] = refl
before_take p (u ∷ us) = go (ltb u.pos.0 p.0) refl (before_take p us)
  where
    go : (b : Bool) → ltb u.pos.0 p.0 ≡ b → uses_before p us ≡ take (length (uses_before p us)) us
        → uses_before p (u ∷ us) ≡ take (length (uses_before p (u ∷ us))) (u ∷ us)
    go true e ih = rw (e, uses_before) (ap (λ (l : List Use). u ∷ l) ih)
    go false e ih = rw (e, uses_before)

pub from_drop : (p : Inst) (us : List Use) → uses_from p us ≡ drop (length (uses_before p us)) us
unfolding uses_before uses_from
from_drop p [] = refl
from_drop p (u ∷ us) = go (ltb u.pos.0 p.0) refl (from_drop p us)
  where
    go : (b : Bool) → ltb u.pos.0 p.0 ≡ b → uses_from p us ≡ drop (length (uses_before p us)) us
        → uses_from p (u ∷ us) ≡ drop (length (uses_before p (u ∷ us))) (u ∷ us)
    go true e ih = rw (e, uses_before, uses_from) ih
    go false e ih = rw (e, uses_before, uses_from)
