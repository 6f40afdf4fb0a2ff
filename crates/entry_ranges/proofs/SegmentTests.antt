-- Test 6 on the words of a job. Assumes nothing.
use Prim.Native.Nat.{ℕ, ◌+◌, ◌*◌, ◌%◌}
use mathlib.Core.Path.{◌≡◌, refl, sym, ap}
use mathlib.Core.Bool.{Bool, true, false, ◌&&◌, ◌||◌}
use mathlib.Core.List.{List}
use lib.Dec.{leb, ltb, eqb}
use Rattle.words.specs.Tab.{tab}
use Rattle.definition.specs.declared.ValueSet.{ValueSet}
use Rattle.definition.specs.Types.{Job}
use Rattle.definition.specs.RegInfo.{set_of}
use Rattle.definition.specs.Entry.{conj, every, chained, insts, segment_ok, in_order, segments_ok}
use Rattle.values.specs.ValueRows.{values_at}
use Rattle.uses.specs.Rows.{raw_row}
use Rattle.job.specs.declared.Layout.{Layout}
use Rattle.job.specs.declared.SegRow.{SegRow}
use Rattle.job.specs.Layout.{seg_row, seg_at, segment_of}
use Rattle.job.specs.Job.{raw_job}
use Rattle.entry_function.proofs.Tables.{raw_values, raw_segments, values_count}
use Rattle.entry_ranges.specs.SegmentTests.{span_ok}

-- ---- a segment

five : (a b c d e : Bool) → a && (b && (c && (d && (e && true)))) ≡ b && (a && (c && (d && e)))
five false false c d e = refl
five false true c d e = refl
five true false c d e = refl
five true true false d e = refl
five true true true false e = refl
five true true true true false = refl
five true true true true true = refl

-- its row's fields
module _ (W : List ℕ) (lay : Layout) (i : ℕ) (s : SegRow) (r : s ≡ seg_row W (lay.segments.at + i * 5)) where
  pub seg_value : (segment_of raw_row W lay i).value ≡ s.value
  unfolding segment_of seg_at
  seg_value = ap (λ (x : SegRow). x.value) (sym r)

  pub seg_from : (segment_of raw_row W lay i).«from» ≡ s.«from»
  unfolding segment_of seg_at
  seg_from = ap (λ (x : SegRow). x.«from») (sym r)

  pub seg_to : (segment_of raw_row W lay i).to ≡ s.to
  unfolding segment_of seg_at
  seg_to = ap (λ (x : SegRow). x.to) (sym r)

  module _ (n : ℕ) (e : n ≡ insts (raw_job W lay)) where
    pub segment_is : segment_ok (raw_job W lay) (segment_of raw_row W lay i) ≡ ltb s.value.0 lay.values.n && span_ok s.«from» s.to n
    unfolding segment_ok conj span_ok
    segment_is =
        rw (seg_value, seg_from, seg_to, values_count W lay, ← e)
        (five (ltb s.«from».0 s.to.0) (ltb s.value.0 lay.values.n) (ltb (s.«from».0 % 4) 3) (ltb (s.to.0 % 4) 3) (leb s.to.0 (4 * n)))

-- ---- two segments

module _ (W : List ℕ) (lay : Layout) (i j : ℕ) (s t : SegRow) (p : s ≡ seg_row W (lay.segments.at + i * 5)) (q : t ≡ seg_row W (lay.segments.at + j * 5)) (a b : ValueSet)
    (f : (job : Job) → job.values ≡ values_at W lay.values.at lay.values.n → a ≡ set_of job s.value)
    (g : (job : Job) → job.values ≡ values_at W lay.values.at lay.values.n → b ≡ set_of job t.value) where
  pub order_is : in_order (raw_job W lay) (segment_of raw_row W lay i) (segment_of raw_row W lay j) ≡ ltb a.0 b.0 || (eqb a.0 b.0 && leb s.to.0 t.«from».0)
  unfolding in_order
  order_is =
      rw (seg_value W lay i s p, seg_value W lay j t q, seg_to W lay i s p, seg_from W lay j t q, ← f (raw_job W lay) (raw_values W lay), ← g (raw_job W lay) (raw_values W lay))

-- ---- the whole test

module _ (W : List ℕ) (lay : Layout) where
  pub segments_is : segments_ok (raw_job W lay)
      ≡ every (segment_ok (raw_job W lay)) (tab (segment_of raw_row W lay) 0 lay.segments.n) && chained (in_order (raw_job W lay)) (tab (segment_of raw_row W lay) 0 lay.segments.n)
  unfolding segments_ok
  segments_is = rw (raw_segments W lay)
