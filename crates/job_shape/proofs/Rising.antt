-- The scan of the use counts. Assumes nothing.
use Prim.Native.Nat.{ℕ, ◌+◌, ◌-◌, ◌*◌, ◌≤◌, ◌<◌}
use native.Mathlib.Omega.{arith}
use mathlib.Core.Path.{◌≡◌, sym, ap, ◌∙◌}
use mathlib.Core.Bool.{false}
use mathlib.Core.List.{List}
use lib.Dec.{leb}
use lib.ListN.{get_or}
use borrow.Author.Tests.{le-leb, lt-leb}
use Rattle.words.specs.RowsAt.{rows_at, rows_at_start, rows_at_more, rows_at_done, get_or_rows_at}
use Rattle.job.specs.declared.Layout.{Layout}
use Rattle.job_shape.specs.Shape.{word_in, rises, use_counts}

module _ (W : List ℕ) (lay : Layout) where
  -- the use counts from segment i on
  abbrev pub from : ℕ → List ℕ
  from i = rows_at (word_in 4) W (lay.segments.at + i * 5) 5 (lay.segments.n - i)

  pub rise_first : rises 0 (use_counts W lay) lay.uses.n ≡ rises 0 (from 0) lay.uses.n
  unfolding use_counts
  rise_first = ap (λ (xs : List ℕ). rises 0 xs lay.uses.n) (sym (rows_at_start (word_in 4) W lay.segments.at 5 lay.segments.n))

  module _ (last x i : ℕ) (h : i < lay.segments.n) (e : x ≡ get_or W (lay.segments.at + i * 5 + 4) 0) where
    pub rise_next : last ≤ x → rises last (from i) lay.uses.n ≡ rises x (from (i + 1)) lay.uses.n
    unfolding rises
    rise_next l = rw (rows_at_more (word_in 4) W lay.segments.at 5 lay.segments.n i h, ← e, le-leb last x l)

    pub rise_not : x < last → rises last (from i) lay.uses.n ≡ false
    unfolding rises
    rise_not l = rw (rows_at_more (word_in 4) W lay.segments.at 5 lay.segments.n i h, ← e, lt-leb last x l)

  pub rise_last : (last i : ℕ) → lay.segments.n ≤ i → rises last (from i) lay.uses.n ≡ leb last lay.uses.n
  unfolding rises
  rise_last last i h = rw (rows_at_done (word_in 4) W lay.segments.at 5 lay.segments.n i h)

  -- ---- the first count

  pub begins_none : lay.segments.n ≡ 0 → get_or (use_counts W lay) 0 lay.uses.n ≡ lay.uses.n
  unfolding use_counts rows_at
  begins_none e = rw e

  pub begins_at : (x : ℕ) → (lay.segments.n ≡ 0 → ⊥) → x ≡ get_or W (lay.segments.at + 4) 0 → get_or (use_counts W lay) 0 lay.uses.n ≡ x
  unfolding use_counts
  begins_at x h e =
      let l : 0 < lay.segments.n = omega arith in
      let a : lay.segments.at + 0 * 5 + 4 ≡ lay.segments.at + 4 = omega arith in
      get_or_rows_at (word_in 4) W lay.segments.at 5 lay.segments.n 0 lay.uses.n l ∙ ap (λ (k : ℕ). get_or W k 0) a ∙ sym e
