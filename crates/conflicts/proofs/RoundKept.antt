-- Rows by their words, and what stays where only words of rows change. Assumes nothing.
use mathlib.Core.Path.{◌≡◌, refl, sym, ap, ◌∙◌, subst}
use mathlib.Core.Bool.{cond}
use mathlib.Core.Option.{none, some}
use mathlib.Core.List.{List, [], ◌∷◌}
use Prim.Native.Nat.{ℕ, ◌+◌, ◌-◌, ◌*◌, ◌/◌, ◌≤◌, ◌<◌}
use native.Mathlib.Omega.{arith}
use lib.Dec.{eqb}
use lib.ListN.{length, get_or}
use Rattle.words.specs.Tab.{length_tab, tab_more, tab_done}
use Rattle.words.specs.Words.{word_count, words_of}
use Rattle.words.specs.Laws.{length_words}
use Rattle.definition.specs.Types.{State, Turned, val}
use Rattle.values.proofs.Rows.{long}
use Rattle.uses.specs.Rows.{use_row}
use Rattle.job.specs.declared.Layout.{Layout}
use Rattle.virt_regs.specs.declared.OutLayout.{OutLayout}
use Rattle.job.specs.declared.work.WorkLayout.{WorkLayout}
use Rattle.constraints.specs.Ready.{Ready, Stands}
use Rattle.constraints.proofs.Kept as kept
use Rattle.pieces.specs.Conflict.{row_use, turned_row_at, turned_rows_of, RowsOk}
use Rattle.conflicts.specs.declared.round.RowWords.{RowWords}
use Rattle.conflicts.specs.Rounds.{row_words, TurnedApart, Elsewhere}

-- ---- a row by its words

abbrev pub row_of : List ℕ → Layout → RowWords → Turned
row_of W lay r = record {
  value = val r.value;
  use' = use_row W (lay.uses.at + r.number * 6);
  param = cond (eqb r.has 0) none (some r.param);
}

pub row_by : (K : List ℕ) (turned : ℕ) (W : List ℕ) (lay : Layout) (k : ℕ) → turned_row_at K turned W lay k ≡ row_of W lay (row_words K (turned + k * 4))
unfolding turned_row_at row_use row_words
row_by K turned W lay k = refl

pub row_use_lem : (K : List ℕ) (turned : ℕ) (W : List ℕ) (lay : Layout) (k : ℕ) → (turned_row_at K turned W lay k).use' ≡ row_use K turned W lay k
unfolding turned_row_at
row_use_lem K turned W lay k = refl

pub rows_equal : (K K' : List ℕ) (turned : ℕ) (W : List ℕ) (lay : Layout) (k m : ℕ) → row_words K' (turned + k * 4) ≡ row_words K (turned + m * 4) → turned_row_at K' turned W lay k ≡ turned_row_at K turned W lay m
rows_equal K K' turned W lay k m e = row_by K' turned W lay k ∙ ap (λ (r : RowWords). row_of W lay r) e ∙ sym (row_by K turned W lay m)

pub row_number : (K K' : List ℕ) (turned k m : ℕ) → row_words K' (turned + k * 4) ≡ row_words K (turned + m * 4) → get_or K' (turned + k * 4 + 1) 0 ≡ get_or K (turned + m * 4 + 1) 0
unfolding row_words
row_number K K' turned k m e = ap (λ (r : RowWords). r.number) e

-- four words that are as they were
pub row_same : (K K' : List ℕ) (k : ℕ) → ((n : ℕ) → k ≤ n → n < k + 4 → get_or K' n 0 ≡ get_or K n 0) → row_words K' k ≡ row_words K k
unfolding row_words
row_same K K' k f =
    let a : get_or K' k 0 ≡ get_or K k 0 = f k (omega arith) (omega arith) in
    let b : get_or K' (k + 1) 0 ≡ get_or K (k + 1) 0 = f (k + 1) (omega arith) (omega arith) in
    let c : get_or K' (k + 2) 0 ≡ get_or K (k + 2) 0 = f (k + 2) (omega arith) (omega arith) in
    let d : get_or K' (k + 3) 0 ≡ get_or K (k + 3) 0 = f (k + 3) (omega arith) (omega arith) in
    λ x. record { value = a x; number = b x; has = c x; param = d x }

-- ---- rows as a list

module _ (K : List ℕ) (turned : ℕ) (W : List ℕ) (lay : Layout) (a b : ℕ) where
  pub rows_more : a < b → turned_rows_of K turned W lay a b ≡ turned_row_at K turned W lay a ∷ turned_rows_of K turned W lay (a + 1) b
  unfolding turned_rows_of
  rows_more l = tab_more (turned_row_at K turned W lay) a b l

  pub rows_none : b ≤ a → turned_rows_of K turned W lay a b ≡ []
  unfolding turned_rows_of
  rows_none l = tab_done (turned_row_at K turned W lay) a b l

  pub rows_long : length (turned_rows_of K turned W lay a b) ≡ b - a
  unfolding turned_rows_of
  rows_long = length_tab (turned_row_at K turned W lay) a (b - a)

-- ---- words of rows a to b - 1 change

pub elsewhere_none : (turned a b : ℕ) (K : List ℕ) → Elsewhere turned a b K K
elsewhere_none turned a b K = record { long = refl; before = λ n l. refl; behind = λ n l. refl }

-- ---- what admission reads is as it was

module _ (lay : Layout) (wl : WorkLayout) (a b : ℕ) (K K' : List ℕ) (o : Elsewhere wl.turned a b K K') (m : TurnedApart lay wl) where
  pub ready_kept : (t w : ℕ) (W : List ℕ) → Ready t w W K lay wl → Ready t w W K' lay wl
  ready_kept t w W r =
      kept.ready_kept K' r (λ i h. o.before (wl.heads + i) (omega (arith, r.index.apart, m.index))) (λ i h. o.before (wl.nexts + i) (omega (arith, m.index)))
      (λ i h. o.before (wl.starts + i) (omega (arith, m.starts)))

  pub stands_kept : (ol : OutLayout) (O W : List ℕ) (st : State) → Stands ol O W K lay wl st → Stands ol O W K' lay wl st
  stands_kept ol O W st s =
      record {
        tables = s.tables;
        mapped = record { is = λ k h. o.before (wl.mapping + k) (omega (arith, m.mapping, long W lay.operands.at lay.operands.n)) ∙ s.mapped.is k h };
      }

-- ---- of slices

pub ready_now : (t : ℕ) (W s₀ s : List ℕ) (lay : Layout) (wl : WorkLayout) (a b : ℕ) → Elsewhere wl.turned a b (words_of s₀) (words_of s) → TurnedApart lay wl → length s ≡ length s₀
    → Ready t (word_count s₀) W (words_of s₀) lay wl → Ready t (word_count s) W (words_of s) lay wl
ready_now t W s₀ s lay wl a b o m e r =
    subst (λ (n : ℕ). Ready t (n / 4) W (words_of s) lay wl) (sym e) (ready_kept lay wl a b (words_of s₀) (words_of s) o m t (word_count s₀) W r)

pub rows_now : (s₀ s K : List ℕ) (turned : ℕ) (lay : Layout) (a b : ℕ) → length s ≡ length s₀ → RowsOk (word_count s₀) K turned lay a b → RowsOk (word_count s) K turned lay a b
rows_now s₀ s K turned lay a b e r = subst (λ (n : ℕ). RowsOk (n / 4) K turned lay a b) (sym e) r

pub count_is : (s₀ s : List ℕ) → length s ≡ length s₀ → word_count s₀ ≡ length (words_of s)
count_is s₀ s e = sym (length_words s ∙ ap (λ (n : ℕ). n / 4) e)

-- rows c to d - 1 of rows a to b - 1
pub rows_part : (w : ℕ) (K : List ℕ) (turned : ℕ) (lay : Layout) (a b c d : ℕ) → RowsOk w K turned lay a b → a ≤ c → c ≤ d → d ≤ b → RowsOk w K turned lay c d
rows_part w K turned lay a b c d r l m n = record { order = m; within = omega (arith, r.within); known = λ k x y. r.known k (omega arith) (omega arith) }
