-- A job that passed tests 4 and 7 has no field beyond its UseKind type, so that it is the same read either way. Assumes nothing.
use Prim.Native.Nat.{ℕ, ◌+◌, ◌-◌, ◌*◌, ◌<◌}
use native.Mathlib.Omega.{arith}
use native.Mathlib.Nat.{zero-add}
use mathlib.Core.Path.{◌≡◌, refl, sym, ap, ◌∙◌}
use mathlib.Core.Bool.{Bool, true, false, ◌&&◌}
use mathlib.Core.List.{List}
use lib.Dec.{eqb, ltb}
use lib.ListN.{length}
use borrow.Author.Tests.{lt-ltb, ltb-true, eqb-true}
use Rattle.words.specs.Tab.{tab, tab_ext}
use Rattle.words.specs.RowsAt.{rows_at, rows_at_ext}
use Rattle.definition.specs.declared.Inst.{Inst}
use Rattle.definition.specs.declared.Value.{Value}
use Rattle.definition.specs.declared.RegClass.{RegClass}
use Rattle.definition.specs.declared.Use.{Use}
use Rattle.definition.specs.Types.{Job, Segment, cls}
use Rattle.definition.specs.Entry.{every, vgroup_values, function_ok, group_use_ok, kind_ok, use_tests, use_ok, uses_ok}
use Rattle.std.specs.Prelude.{Option, Some, None}
use Rattle.values.specs.OperandRows.{op_at, last_place, fits_found}
use Rattle.values.proofs.Twice.{never}
use Rattle.values.proofs.Only.{found_at, group_use_found}
use Rattle.uses.specs.Rows.{raw_kind, raw_row, use_row, fit, typed_kind, typed_row}
use Rattle.uses.proofs.Typed.{typed_row_lem}
use Rattle.job.specs.declared.Layout.{Layout}
use Rattle.job.specs.Layout.{seg_at, next_use, job_uses, segment_of}
use Rattle.job.specs.Job.{job_by, raw_job, job_of}
use Rattle.definition.proofs.Entries.{and_both}
use Rattle.entry_function.proofs.Scans.{each_at, conj_at}
use Rattle.entry_function.proofs.Tables.{raw_segments}
use Rattle.entry_function.proofs.Passed.{operand_fits, members_few, passed_apart}

-- slots and an index that fit
fit_of : (a b i : ℕ) → a < 65536 → b < 65536 → i < 256 → fit a b i ≡ true
unfolding fit
fit_of a b i h k l = rw (lt-ltb _ _ h, lt-ltb _ _ k, lt-ltb _ _ l)

-- the other kinds have no field that may be too wide
rest : (k a b c d : ℕ) → eqb k 2 ≡ false → eqb k 4 ≡ false → eqb k 5 ≡ false → eqb k 6 ≡ false → eqb k 7 ≡ false → typed_kind k a b c d ≡ true
unfolding typed_kind
rest k a b c d n2 n4 n5 n6 n7 = rw (n2, n4, n5, n6, n7)

module _ (job : Job) (p : function_ok job ≡ true) (v : Value) (q : Inst) where
  -- a group use has the slot of an operand and the place of a member
  group_typed : (s : ℕ) (c : RegClass) (i : ℕ) → group_use_ok job v q s c i ≡ true → (s < 65536) × (i < 256)
  group_typed s c i e = go (last_place job.operands (length job.operands) q.0 s) refl (sym (group_use_found job v q s c i (passed_apart job p)) ∙ e)
    where
      go : (f : Option ℕ) → last_place job.operands (length job.operands) q.0 s ≡ f → fits_found job v c i f ≡ true → (s < 65536) × (i < 256)
      go (Some k) g h =
          let a = found_at job.operands (length job.operands) q.0 s k g in
          let o = op_at job.operands k in
          let w = operand_fits job p k a.0 in
          let m = (and_both (ltb i (length (vgroup_values job o.vgroup))) _ (and_both (eqb o.class.0 c.0) _ h).1).0 in (
            omega (arith, w.slot, eqb-true o.slot s (and_both (eqb o.inst.0 q.0) (eqb o.slot s) a.1).1),
            omega (arith, ltb-true i (length (vgroup_values job o.vgroup)) m, members_few job p o.vgroup w.vgroup),
          )
      go None g h = never (sym h)

  tied : (a b c d : ℕ) → kind_ok job v q (raw_kind 2 a b c d) ≡ true → typed_kind 2 a b c d ≡ true
  unfolding kind_ok raw_kind typed_kind fit
  tied a b c d e = all (ltb a 65536) (ltb b 65536) (ltb c (length job.classes)) (ltb d 256) e
    where
      all : (s t u w : Bool) → s && t && u && w ≡ true → s && (t && w) ≡ true
      all true true true w h = h
      all true true false w h = never (sym h)
      all true false u w h = never (sym h)
      all false t u w h = never (sym h)

  classed : (a b c d : ℕ) → kind_ok job v q (raw_kind 4 a b c d) ≡ true → typed_kind 4 a b c d ≡ true
  unfolding kind_ok raw_kind typed_kind
  classed a b c d e = fit_of a 0 0 (ltb-true a 65536 (and_both _ _ e).0) (omega arith) (omega arith)

  classed_def : (a b c d : ℕ) → kind_ok job v q (raw_kind 5 a b c d) ≡ true → typed_kind 5 a b c d ≡ true
  unfolding kind_ok raw_kind typed_kind
  classed_def a b c d e = fit_of a 0 0 (ltb-true a 65536 (and_both _ _ e).0) (omega arith) (omega arith)

  grouped : (a b c d : ℕ) → kind_ok job v q (raw_kind 6 a b c d) ≡ true → typed_kind 6 a b c d ≡ true
  unfolding kind_ok raw_kind typed_kind
  grouped a b c d e = let g = group_typed a (cls b) c e in fit_of a 0 c g.0 (omega arith) g.1

  grouped_def : (a b c d : ℕ) → kind_ok job v q (raw_kind 7 a b c d) ≡ true → typed_kind 7 a b c d ≡ true
  unfolding kind_ok raw_kind typed_kind
  grouped_def a b c d e = let g = group_typed a (cls b) c e in fit_of a 0 c g.0 (omega arith) g.1

  -- fields that pass test 7 fit their types
  pub kind_typed : (k a b c d : ℕ) → kind_ok job v q (raw_kind k a b c d) ≡ true → typed_kind k a b c d ≡ true
  kind_typed k a b c d e = two (eqb k 2) refl
    where
      moved : (n : ℕ) → eqb k n ≡ true → (kind_ok job v q (raw_kind n a b c d) ≡ true → typed_kind n a b c d ≡ true) → typed_kind k a b c d ≡ true
      moved n h f =
          let s : k ≡ n = eqb-true k n h in
          ap (λ (m : ℕ). typed_kind m a b c d) s ∙ f (ap (λ (m : ℕ). kind_ok job v q (raw_kind m a b c d)) (sym s) ∙ e)

      seven : eqb k 2 ≡ false → eqb k 4 ≡ false → eqb k 5 ≡ false → eqb k 6 ≡ false → (t : Bool) → eqb k 7 ≡ t → typed_kind k a b c d ≡ true
      seven n2 n4 n5 n6 true h = moved 7 h (grouped_def a b c d)
      seven n2 n4 n5 n6 false h = rest k a b c d n2 n4 n5 n6 h

      six : eqb k 2 ≡ false → eqb k 4 ≡ false → eqb k 5 ≡ false → (t : Bool) → eqb k 6 ≡ t → typed_kind k a b c d ≡ true
      six n2 n4 n5 true h = moved 6 h (grouped a b c d)
      six n2 n4 n5 false h = seven n2 n4 n5 h (eqb k 7) refl

      five : eqb k 2 ≡ false → eqb k 4 ≡ false → (t : Bool) → eqb k 5 ≡ t → typed_kind k a b c d ≡ true
      five n2 n4 true h = moved 5 h (classed_def a b c d)
      five n2 n4 false h = six n2 n4 h (eqb k 6) refl

      four : eqb k 2 ≡ false → (t : Bool) → eqb k 4 ≡ t → typed_kind k a b c d ≡ true
      four n2 true h = moved 4 h (classed a b c d)
      four n2 false h = five n2 h (eqb k 5) refl

      two : (t : Bool) → eqb k 2 ≡ t → typed_kind k a b c d ≡ true
      two true h = moved 2 h (tied a b c d)
      two false h = four h (eqb k 4) refl

module _ (W : List ℕ) (lay : Layout) (p : function_ok (raw_job W lay) ≡ true) (e : every (uses_ok (raw_job W lay)) (raw_job W lay).segments ≡ true) where
  -- a use that passes reads alike
  use_same : (s : Segment) (i : ℕ) → use_ok (raw_job W lay) s (raw_row W i) ≡ true → raw_row W i ≡ use_row W i
  unfolding use_ok raw_row typed_row
  use_same s i h =
      sym (typed_row_lem W i (kind_typed (raw_job W lay) p s.value (raw_row W i).pos _ _ _ _ _ (conj_at (use_tests (raw_job W lay) s (raw_row W i)) 1 h (omega arith))))

  uses_pass : (k : ℕ) → k < lay.segments.n → uses_ok (raw_job W lay) (segment_of raw_row W lay k) ≡ true
  uses_pass k h =
      ap (λ (j : ℕ). uses_ok (raw_job W lay) (segment_of raw_row W lay j)) (sym (zero-add k))
      ∙ each_at (uses_ok (raw_job W lay)) (segment_of raw_row W lay) 0 lay.segments.n k (ap (λ (ss : List Segment). every (uses_ok (raw_job W lay)) ss) (sym (raw_segments W lay)) ∙ e) h

  uses_same : (k : ℕ) → k < lay.segments.n → (segment_of raw_row W lay k).uses ≡ (segment_of use_row W lay k).uses
  unfolding uses_ok segment_of job_uses rows_at
  uses_same k h =
      let at : ℕ = lay.uses.at + (seg_at W lay k).first * 6 in
      let n : ℕ = next_use W lay k - (seg_at W lay k).first in
      let f : every (use_ok (raw_job W lay) (segment_of raw_row W lay k)) (tab (λ (j : ℕ). raw_row W (at + j * 6)) 0 n) ≡ true = (and_both _ _ (uses_pass k h)).0 in
      rows_at_ext raw_row use_row W W at at 6 n
      (λ j l.
      use_same (segment_of raw_row W lay k) (at + j * 6)
      (ap (λ (m : ℕ). use_ok (raw_job W lay) (segment_of raw_row W lay k) (raw_row W (at + m * 6))) (sym (zero-add j))
      ∙ each_at (use_ok (raw_job W lay) (segment_of raw_row W lay k)) (λ (m : ℕ). raw_row W (at + m * 6)) 0 n j f l))

  segment_same : (k : ℕ) → k < lay.segments.n → segment_of raw_row W lay k ≡ segment_of use_row W lay k
  unfolding segment_of
  segment_same k h =
      ap (λ (us : List Use). record { value = (seg_at W lay k).value; «from» = (seg_at W lay k).«from»; to = (seg_at W lay k).to; flags = (seg_at W lay k).flags; uses = us }) (uses_same k h)

  -- the job as its words stand is the job that code reads
  pub raw_is_job : raw_job W lay ≡ job_of W lay
  unfolding raw_job job_of job_by
  raw_is_job =
      ap
      (λ (ss : List Segment). record {
        options = (job_of W lay).options;
        banks = (job_of W lay).banks;
        classes = (job_of W lay).classes;
        memory = (job_of W lay).memory;
        blocks = (job_of W lay).blocks;
        values = (job_of W lay).values;
        vgroups = (job_of W lay).vgroups;
        operands = (job_of W lay).operands;
        hints = (job_of W lay).hints;
        segments = ss;
      })
      (tab_ext (segment_of raw_row W lay) (segment_of use_row W lay) 0 0 lay.segments.n
      (λ k l. ap (segment_of raw_row W lay) (zero-add k) ∙ segment_same k l ∙ ap (segment_of use_row W lay) (sym (zero-add k))))
