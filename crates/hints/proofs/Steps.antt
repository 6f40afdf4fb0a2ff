-- Each way through `key` and `hint_between`. Assumes nothing.
use mathlib.Core.Path.{◌≡◌, refl, sym, ap, ◌∙◌}
use mathlib.Core.Bool.{Bool, true, false, cond, ◌&&◌}
use mir.Val.{bool_byte}
use mathlib.Core.List.{List}
use Prim.Native.Nat.{ℕ, ◌+◌, ◌*◌, ◌≤◌, ◌<◌}
use native.Mathlib.Omega.{arith}
use lib.Dec.{leb, eqb}
use lib.ListN.{drop, drop_of_length-le}
use lib.Seq.{drop-cons}
use Rattle.words.specs.RowsAt.{rows_at, length_rows_at, get_or_rows_at}
use Rattle.definition.specs.declared.Value.{Value}
use Rattle.definition.specs.declared.Hint.{Hint}
use Rattle.definition.specs.Hints.{as_key, hinted}
use Rattle.definition.specs.Entry.{chained, not_after}
use Rattle.hints.specs.Hints.{hint_at, first_hint}
use Rattle.hints.specs.Laws.{first_hits, hinted_first}

-- the number of a bool
pub byte_is : (b : Bool) → bool_byte b ≡ cond b 1 0
byte_is true = refl
byte_is false = refl

-- ---- the first hint that the search finds

module _ (W : List ℕ) (at n : ℕ) (v : Value) (a b i k : ℕ) (sorted : chained not_after (rows_at hint_at W at 3 n) ≡ true) (e : k ≡ 2 * a)
    (f : i ≡ first_hint v (k + 1) (rows_at hint_at W at 3 n)) where
  found : hinted (rows_at hint_at W at 3 n) v a b ≡ first_hits v b (drop i (rows_at hint_at W at 3 n))
  found =
      hinted_first v a b (rows_at hint_at W at 3 n) sorted
      ∙ ap (λ (x : ℕ). first_hits v b (drop (first_hint v (x + 1) (rows_at hint_at W at 3 n)) (rows_at hint_at W at 3 n))) (sym e)
      ∙ ap (λ (x : ℕ). first_hits v b (drop x (rows_at hint_at W at 3 n))) (sym f)

  pub found_none : n ≤ i → false ≡ hinted (rows_at hint_at W at 3 n) v a b
  found_none l =
      sym (found ∙ ap (λ (r : List Hint). first_hits v b r) (drop_of_length-le (rows_at hint_at W at 3 n) {i = i} (omega (arith, length_rows_at hint_at W at 3 n))))

  -- the hint found decides
  found_one : (h : Hint) → i < n → h ≡ hint_at W (at + i * 3) → hinted (rows_at hint_at W at 3 n) v a b ≡ (eqb h.value.0 v.0 && leb (as_key h) (2 * b))
  found_one h l g =
      found ∙ ap (λ (r : List Hint). first_hits v b r) (drop-cons (rows_at hint_at W at 3 n) i h (omega (arith, length_rows_at hint_at W at 3 n)))
      ∙ ap (λ (x : Hint). eqb x.value.0 v.0 && leb (as_key x) (2 * b)) (get_or_rows_at hint_at W at 3 n i h l ∙ sym g)

  pub found_other : (h : Hint) → i < n → h ≡ hint_at W (at + i * 3) → (r : Bool) → r ≡ eqb h.value.0 v.0 → r ≡ false → r ≡ hinted (rows_at hint_at W at 3 n) v a b
  found_other h l g r d f = f ∙ sym (found_one h l g ∙ rw (← d, f))

  pub found_same : (h : Hint) (x y : ℕ) → i < n → h ≡ hint_at W (at + i * 3) → (r : Bool) → r ≡ eqb h.value.0 v.0 → r ≡ true → x ≡ as_key h → y ≡ 2 * b
      → leb x y ≡ hinted (rows_at hint_at W at 3 n) v a b
  found_same h x y l g r d f p q = sym (found_one h l g ∙ rw (← d, f, p, q))
