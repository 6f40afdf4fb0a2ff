-- The uses of all segments are those of the use table, so that test 2 bounds it. Assumes nothing.
use Prim.Native.Nat.{ℕ, zero, suc, ◌+◌, ◌-◌, ◌*◌, ◌≤◌, ◌<◌}
use native.Mathlib.Omega.{arith}
use mathlib.Core.Path.{◌≡◌, sym, ap, ◌∙◌}
use mathlib.Core.Bool.{true}
use mathlib.Core.List.{List}
use lib.ListN.{length}
use borrow.Author.Tests.{leb-true, lt-ltb, le-ltb}
use Rattle.words.specs.Tab.{tab}
use Rattle.words.specs.RowsAt.{length_rows_at}
use Rattle.definition.specs.Types.{Segment}
use Rattle.definition.specs.Place.{total}
use Rattle.definition.specs.Entry.{limit_tests, limits_ok}
use Rattle.uses.specs.Rows.{raw_row}
use Rattle.job.specs.declared.Layout.{Layout}
use Rattle.job.specs.Layout.{seg_row, seg_at, next_use, job_uses, segment_of}
use Rattle.job.specs.Job.{raw_job}
use Rattle.entry_function.proofs.Scans.{conj_at}
use Rattle.entry_function.proofs.Tables.{raw_segments}
use Rattle.entry_uses.specs.ListTests.{Rising}

module _ (W : List ℕ) (lay : Layout) where
  abbrev first_of : ℕ → ℕ
  first_of i = (seg_at W lay i).first

  abbrev uses_from : ℕ → ℕ → ℕ
  uses_from i k = total (λ (s : Segment). length s.uses) (tab (segment_of raw_row W lay) i k)

  next_last : (i : ℕ) → lay.segments.n ≤ i + 1 → next_use W lay i ≡ lay.uses.n
  unfolding next_use
  next_last i h = rw (le-ltb _ _ h)

  next_first : (i : ℕ) → i + 1 < lay.segments.n → next_use W lay i ≡ first_of (i + 1)
  unfolding next_use seg_at seg_row
  next_first i h = rw (lt-ltb _ _ h)

  -- counts that begin at 0 and do not fall on the way to the number of uses do not pass it
  below_all : ((i : ℕ) → i < lay.segments.n → first_of i ≤ next_use W lay i) → (i k : ℕ) → i + suc k ≡ lay.segments.n → next_use W lay i ≤ lay.uses.n
  below_all r i zero e = omega (arith, next_last i (omega arith))
  below_all r i (suc k) e = omega (arith, next_first i (omega arith), r (i + 1) (omega arith), below_all r (i + 1) k (omega arith))

  pub rising_of : (0 < lay.segments.n → first_of 0 ≡ 0) → ((i : ℕ) → i < lay.segments.n → first_of i ≤ next_use W lay i) → Rising W lay
  rising_of f r =
      record { first = f; rise = r; within = λ i h. below_all r i (lay.segments.n - (i + 1)) (omega arith) }

  one_count : (i : ℕ) → length (segment_of raw_row W lay i).uses ≡ next_use W lay i - first_of i
  unfolding segment_of job_uses
  one_count i = length_rows_at raw_row W (lay.uses.at + first_of i * 6) 6 (next_use W lay i - first_of i)

  all_count : Rising W lay → (i k : ℕ) → i + suc k ≡ lay.segments.n → uses_from i (suc k) ≡ lay.uses.n - first_of i
  unfolding total
  all_count r i zero e =
      let n : next_use W lay i ≡ lay.uses.n = next_last i (omega arith) in
      omega (arith, one_count i, n)
  all_count r i (suc k) e =
      let h : uses_from (i + 1) (suc k) ≡ lay.uses.n - first_of (i + 1) = all_count r (i + 1) k (omega arith) in
      let n : next_use W lay i ≡ first_of (i + 1) = next_first i (omega arith) in
      omega (arith, one_count i, n, h, r.rise i (omega arith), r.within i (omega arith))

  -- where there is a segment, the use table has at most 4,096 rows
  pub uses_few : Rising W lay → limits_ok (raw_job W lay) ≡ true → 0 < lay.segments.n → lay.uses.n ≤ 4096
  unfolding limits_ok
  uses_few r e h =
      let a : 0 + suc (lay.segments.n - 1) ≡ lay.segments.n = omega arith in
      let b : suc (lay.segments.n - 1) ≡ lay.segments.n = omega arith in
      let t : uses_from 0 lay.segments.n ≡ lay.uses.n - first_of 0 = ap (λ (k : ℕ). uses_from 0 k) (sym b) ∙ all_count r 0 (lay.segments.n - 1) a in
      let l : total (λ (s : Segment). length s.uses) (raw_job W lay).segments ≤ 4096 = leb-true _ 4096 (conj_at (limit_tests (raw_job W lay)) 7 e (omega arith)) in
      let q : total (λ (s : Segment). length s.uses) (raw_job W lay).segments ≡ uses_from 0 lay.segments.n =
      ap (λ (ss : List Segment). total (λ (s : Segment). length s.uses) ss) (raw_segments W lay) in
      omega (arith, t, l, q, r.first h)
