-- The search: rows before `low` are below the key, rows from `high` on are not. Assumes nothing.
use mathlib.Core.Path.{◌≡◌, sym, ap, ◌∙◌}
use mathlib.Core.Bool.{Bool, true, false}
use mathlib.Core.List.{List}
use Prim.Native.Nat.{ℕ, ◌+◌, ◌*◌, ◌≤◌, ◌<◌}
use native.Mathlib.Omega.{arith}
use lib.ListN.{length, get_or}
use Rattle.words.specs.RowsAt.{rows_at, length_rows_at, get_or_rows_at}
use Rattle.definition.specs.declared.Value.{Value}
use Rattle.definition.specs.declared.Hint.{Hint}
use Rattle.definition.specs.Entry.{chained, not_after}
use Rattle.hints.specs.Hints.{hint_at, key_below, first_hint}
use Rattle.hints.specs.Laws.{below_before, above_behind, first_hint_is}

-- row j
abbrev hint : List ℕ → ℕ → ℕ → Hint
hint W at j = hint_at W (at + j * 3)

pub record Searching (W : List ℕ) (at n : ℕ) (v : Value) (k low high : ℕ) : Type 0 where
  pub within : low ≤ high
  pub inside : high ≤ n
  pub below : (j : ℕ) → j < low → key_below v k (hint W at j) ≡ true
  pub above : (j : ℕ) → high ≤ j → j < n → key_below v k (hint W at j) ≡ false

pub search_start : (W : List ℕ) (at n : ℕ) (v : Value) (k : ℕ) → Searching W at n v k 0 n
search_start W at n v k = record { within = omega arith; inside = omega arith; below = λ j h. absurd (omega arith); above = λ j h l. absurd (omega arith) }

module _ {W : List ℕ} {at n : ℕ} {v : Value} {k low high : ℕ} (s : Searching W at n v k low high) where
  pub search_up : {h : Hint} {t : Bool} (mid : ℕ) → chained not_after (rows_at hint_at W at 3 n) ≡ true → low ≤ mid → mid < high
      → h ≡ hint_at W (at + mid * 3) → t ≡ key_below v k h → t ≡ true → Searching W at n v k (mid + 1) high
  search_up {h} {t} mid sorted l m e f g =
      record {
        within = omega arith;
        inside = s.inside;
        below = λ j p.
            sym (ap (key_below v k) (row j (omega (arith, s.inside))))
            ∙ below_before v k rows h sorted j mid (omega arith) (omega (arith, s.inside, long)) (ap (key_below v k) (row mid (omega (arith, s.inside)) ∙ sym e) ∙ sym f ∙ g);
        above = s.above;
      }
    where
      rows : List Hint
      rows = rows_at hint_at W at 3 n

      long : length rows ≡ n
      long = length_rows_at hint_at W at 3 n

      row : (j : ℕ) → j < n → get_or rows j h ≡ hint W at j
      row j p = get_or_rows_at hint_at W at 3 n j h p

  pub search_down : {h : Hint} {t : Bool} (mid : ℕ) → chained not_after (rows_at hint_at W at 3 n) ≡ true → low ≤ mid → mid < high
      → h ≡ hint_at W (at + mid * 3) → t ≡ key_below v k h → t ≡ false → Searching W at n v k low mid
  search_down {h} {t} mid sorted l m e f g =
      record {
        within = l;
        inside = omega (arith, s.inside);
        below = s.below;
        above = λ j p q.
            sym (ap (key_below v k) (row j q))
            ∙ above_behind v k rows h sorted mid j p (omega (arith, long)) (ap (key_below v k) (row mid (omega (arith, s.inside)) ∙ sym e) ∙ sym f ∙ g);
      }
    where
      rows : List Hint
      rows = rows_at hint_at W at 3 n

      long : length rows ≡ n
      long = length_rows_at hint_at W at 3 n

      row : (j : ℕ) → j < n → get_or rows j h ≡ hint W at j
      row j p = get_or_rows_at hint_at W at 3 n j h p

  pub search_done : high ≤ low → low ≡ first_hint v k (rows_at hint_at W at 3 n)
  search_done p =
      sym (first_hint_is v k rows d low (omega (arith, s.within, s.inside, long)) (λ j q. ap (key_below v k) (row j (omega (arith, s.within, s.inside))) ∙ s.below j q)
      (λ q. ap (key_below v k) (row low (omega (arith, long))) ∙ s.above low p (omega (arith, long))))
    where
      rows : List Hint
      rows = rows_at hint_at W at 3 n

      long : length rows ≡ n
      long = length_rows_at hint_at W at 3 n

      d : Hint
      d = hint_at W at

      row : (j : ℕ) → j < n → get_or rows j d ≡ hint W at j
      row j q = get_or_rows_at hint_at W at 3 n j d q
