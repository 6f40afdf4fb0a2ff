-- The set and the top class of a segment off the job's tables, and the runs of segments of one set. Assumes nothing.
use mathlib.Core.Path.{◌≡◌, refl, sym, ap, subst, ◌∙◌}
use mathlib.Core.List.{List, ◌∷◌}
use Prim.Native.Nat.{ℕ, ◌+◌, ◌*◌, ◌≤◌, ◌<◌}
use native.Mathlib.Nat.{mul-one}
use native.Mathlib.Omega.{arith}
use lib.ListN.{length, get_or, get_or-eq_default}
use Rattle.words.specs.RowsAt.{rows_at, get_or_rows_at, length_rows_at}
use Rattle.definition.specs.declared.Value.{Value}
use Rattle.definition.specs.declared.ValueSet.{ValueSet}
use Rattle.definition.specs.declared.ValueData.{ValueData}
use Rattle.definition.specs.declared.RegBank.{RegBank}
use Rattle.definition.specs.declared.RegClass.{RegClass}
use Rattle.definition.specs.Types.{Segment, Job, cls}
use Rattle.definition.specs.RegInfo.{no_value, value_at, set_of, top_of}
use Rattle.definition.specs.Build.{runs, same_set}
use Rattle.reginfo.specs.Rows.{bank_row}
use Rattle.values.specs.ValueRows.{value_row, values_at}
use Rattle.uses.specs.Rows.{use_row}
use Rattle.job.specs.declared.Layout.{Layout}
use Rattle.job.specs.declared.SegRow.{SegRow}
use Rattle.job.specs.Layout.{seg_row, seg_at, segment_of}
use Rattle.job.specs.Job.{job_by, job_of}
use Rattle.set_runs.specs.Runs.{Running, running_start, running_next, running_stop, running_end}
use Rattle.set_runs.specs.Sets.{segs_from, seg_value}

module _ (W : List ℕ) (lay : Layout) where
  -- ---- one segment

  pub job_values : (job_of W lay).values ≡ values_at W lay.values.at lay.values.n
  unfolding job_of job_by
  job_values = refl

  -- a segment's row begins five words behind the one before it
  row_at : (i : ℕ) (s : SegRow) → s ≡ seg_row W (lay.segments.at + i * 5) → s ≡ seg_at W lay i
  unfolding seg_at
  row_at i s h = h

  pub set_is : (i : ℕ) (s : SegRow) (r : ValueSet) → s ≡ seg_row W (lay.segments.at + i * 5)
      → ((job : Job) → job.values ≡ values_at W lay.values.at lay.values.n → r ≡ set_of job s.value) → r ≡ set_of (job_of W lay) (seg_at W lay i).value
  set_is i s r h g = g (job_of W lay) job_values ∙ ap (λ (x : SegRow). set_of (job_of W lay) x.value) (row_at i s h)

  pub bank_known : (v : Value) (k : ℕ) (d : ValueData) → k ≡ v.0 → k < lay.values.n → d ≡ value_row W (lay.values.at + k * 3) → d.bank ≡ (value_at (job_of W lay) v).bank
  unfolding value_at job_of job_by values_at
  bank_known v k d e l h =
      ap (λ (x : ValueData). x.bank)
      (h ∙ sym (get_or_rows_at value_row W lay.values.at 3 lay.values.n k no_value l) ∙ ap (λ (j : ℕ). get_or (rows_at value_row W lay.values.at 3 lay.values.n) j no_value) e)

  pub bank_past : (v : Value) (k : ℕ) → k ≡ v.0 → lay.values.n ≤ k → no_value.bank ≡ (value_at (job_of W lay) v).bank
  unfolding value_at job_of job_by values_at
  bank_past v k e l =
      let p : length (rows_at value_row W lay.values.at 3 lay.values.n) ≤ v.0 = omega (arith, length_rows_at value_row W lay.values.at 3 lay.values.n) in
      ap (λ (x : ValueData). x.bank) (sym (get_or-eq_default (rows_at value_row W lay.values.at 3 lay.values.n) no_value p))

  pub top_known : (b : RegBank) (k : ℕ) (r : RegClass) → k ≡ b.0 → k < lay.banks.n → r ≡ bank_row W (lay.banks.at + k) → r ≡ get_or (job_of W lay).banks b.0 (cls 0)
  unfolding job_of job_by
  top_known b k r e l h =
      h
      ∙ ap (λ (j : ℕ). bank_row W (lay.banks.at + j)) (sym (mul-one k))
      ∙ sym (get_or_rows_at bank_row W lay.banks.at 1 lay.banks.n k (cls 0) l)
      ∙ ap (λ (j : ℕ). get_or (rows_at bank_row W lay.banks.at 1 lay.banks.n) j (cls 0)) e

  pub top_past : (b : RegBank) (k : ℕ) → k ≡ b.0 → lay.banks.n ≤ k → cls 0 ≡ get_or (job_of W lay).banks b.0 (cls 0)
  unfolding job_of job_by
  top_past b k e l =
      let p : length (rows_at bank_row W lay.banks.at 1 lay.banks.n) ≤ b.0 = omega (arith, length_rows_at bank_row W lay.banks.at 1 lay.banks.n) in
      sym (get_or-eq_default (rows_at bank_row W lay.banks.at 1 lay.banks.n) (cls 0) p)

  pub top_is : (i : ℕ) (s : SegRow) (b : RegBank) (r : RegClass) → s ≡ seg_row W (lay.segments.at + i * 5) → b ≡ (value_at (job_of W lay) s.value).bank
      → r ≡ get_or (job_of W lay).banks b.0 (cls 0) → r ≡ top_of (job_of W lay) (seg_at W lay i).value
  unfolding top_of
  top_is i s b r h g q =
      q
      ∙ ap (λ (x : RegBank). get_or (job_of W lay).banks x.0 (cls 0)) g
      ∙ ap (λ (x : SegRow). get_or (job_of W lay).banks (value_at (job_of W lay) x.value).bank.0 (cls 0)) (row_at i s h)

  -- ---- the run of segment a's set

  -- the number of segment m's set
  abbrev pub set_number : ℕ → ℕ
  set_number m = (set_of (job_of W lay) (seg_at W lay m).value).0

  abbrev set_key : Segment → ℕ
  set_key s = (set_of (job_of W lay) s.value).0

  key_is : (m : ℕ) → set_key (segment_of use_row W lay m) ≡ set_number m
  key_is m = ap (λ (v : Value). (set_of (job_of W lay) v).0) (seg_value W lay m)

  module _ (a : ℕ) where
    -- the run of segment a's set ends before segment e
    abbrev pub SetEnd : ℕ → Type 0
    SetEnd e =
        (a < e) × (e ≤ lay.segments.n)
        × (runs (same_set (job_of W lay)) (segs_from W lay a lay.segments.n) ≡ segs_from W lay a e ∷ runs (same_set (job_of W lay)) (segs_from W lay e lay.segments.n))

    pub set_start : (x : ValueSet) → x ≡ set_of (job_of W lay) (seg_at W lay a).value → a < lay.segments.n → Running set_number a lay.segments.n x.0 (a + 1)
    set_start x h l = running_start set_number a lay.segments.n x.0 (ap (λ (y : ValueSet). y.0) h) l

    module _ (p e : ℕ) (v : Running set_number a lay.segments.n p e) where
      pub set_next : (x : ValueSet) → x ≡ set_of (job_of W lay) (seg_at W lay e).value → x.0 ≡ p → e < lay.segments.n → Running set_number a lay.segments.n p (e + 1)
      set_next x h q l = running_next set_number a lay.segments.n p e v x.0 (ap (λ (y : ValueSet). y.0) h) q l

      pub set_stop : (x : ValueSet) → x ≡ set_of (job_of W lay) (seg_at W lay e).value → (x.0 ≡ p → ⊥) → SetEnd e
      unfolding segs_from
      set_stop x h q = running_stop set_number a lay.segments.n p e v set_key (segment_of use_row W lay) key_is x.0 (ap (λ (y : ValueSet). y.0) h) q

      pub set_done : lay.segments.n ≤ e → SetEnd lay.segments.n
      unfolding segs_from
      set_done l =
          let z : e ≡ lay.segments.n = omega (arith, v.high) in
          subst SetEnd z (running_end set_number a lay.segments.n p e v set_key (segment_of use_row W lay) key_is l)
