-- The definition's build as a loop over segment numbers: set after set, each from segment a to b - 1. Assumes nothing.
use Rattle.std.specs.Prelude.{ℕ, ◌+◌, ◌≤◌, ◌<◌, ◌≡◌, refl, true, length}
use Rattle.std.proofs.Common.{arith, sym, subst, ◌∙◌, ltb-true}
use Rattle.std.proofs.Math.Path.{ap}
use Rattle.std.proofs.Math.Option.{none}
use mathlib.Core.List.{List, [], ◌∷◌}
use Rattle.words.specs.RowsAt.{length_rows_at}
use Rattle.definition.specs.declared.Value.{Value}
use Rattle.definition.specs.Types.{Segment, Job, Room, State, Out, done}
use Rattle.definition.specs.RegInfo.{set_of, top_of}
use Rattle.definition.specs.Place.{◌>>=◌, empty}
use Rattle.definition.specs.Build.{Result, conflicts, runs, same_inst, same_set, build_set, build_sets, build, result_of}
use Rattle.definition.specs.Entry.{entry, segment_ok, segment_tests}
use Rattle.definition.proofs.Places.{All}
use Rattle.definition.proofs.Entries.{conj_all}
use Rattle.definition.proofs.Fuel.{run}
use Rattle.values.specs.ValueRows.{value_row, values_at}
use Rattle.job.specs.declared.Layout.{Layout}
use Rattle.job.specs.Layout.{seg_at, segment_of}
use Rattle.job.specs.Job.{job_by, job_of}
use Rattle.set_runs.specs.Sets.{segs_from, all_segs, first_seg, seg_value}
use Rattle.build.specs.Rules.{segments_passed}
use Rattle.build.specs.BeginSets.{job_seg, segs_none, all_from}

-- a set that begins with s: the steps over its segments, then the conflict registers
set_by : (J : Job) (room : Room) (s : Segment) (ss : List Segment) (st : State)
    → build_set J room (s ∷ ss) st
    ≡ (run J room (set_of J s.value) (top_of J s.value) st (s ∷ ss) [] >>= λ r. conflicts J room (set_of J s.value) (top_of J s.value) (runs same_inst r.turned) r.state)
unfolding build_set run
set_by J room s ss st = refl

-- the answer where all sets are built
abbrev pub finished : State → Out Result
finished st = done (result_of st)

module _ (W : List ℕ) (lay : Layout) (room : Room) where
  -- what is built of the segments from a on
  unfoldable pub build_from : ℕ → State → Out State
  unfolding build_sets runs segs_from job_of
  build_from a st = build_sets (job_of W lay) room (runs (same_set (job_of W lay)) (segs_from W lay a lay.segments.n)) st

  -- all of them, from the empty state
  pub build_begins : build (job_of W lay) room ≡ (build_from 0 empty >>= λ st. finished st)
  unfolding build build_from
  build_begins =
      ap (λ (ss : List Segment). build_sets (job_of W lay) room (runs (same_set (job_of W lay)) ss) empty >>= λ st. finished st)
      (sym (all_segs W lay))

  -- no segment is left
  pub build_ends : (a : ℕ) (st : State) → lay.segments.n ≤ a → build_from a st ≡ done st
  unfolding build_from build_sets runs
  build_ends a st h = ap (λ (ss : List Segment). build_sets (job_of W lay) room (runs (same_set (job_of W lay)) ss) st) (segs_none W lay a lay.segments.n h)

  -- one set, then those behind it
  pub build_set_lem : (a b : ℕ) (st : State)
      → runs (same_set (job_of W lay)) (segs_from W lay a lay.segments.n) ≡ segs_from W lay a b ∷ runs (same_set (job_of W lay)) (segs_from W lay b lay.segments.n)
      → build_from a st ≡ (build_set (job_of W lay) room (segs_from W lay a b) st >>= λ st'. build_from b st')
  unfolding build_from build_sets
  build_set_lem a b st q = ap (λ (rs : List (List Segment)). build_sets (job_of W lay) room rs st) q

  -- the set by its first segment's value: the steps over its segments, then the conflict registers
  pub set_runs : (a b : ℕ) (st : State) (v : Value) → a < b → v ≡ (seg_at W lay a).value
      → build_set (job_of W lay) room (segs_from W lay a b) st
      ≡ (run (job_of W lay) room (set_of (job_of W lay) v) (top_of (job_of W lay) v) st (segs_from W lay a b) []
      >>= λ r. conflicts (job_of W lay) room (set_of (job_of W lay) v) (top_of (job_of W lay) v) (runs same_inst r.turned) r.state)
  set_runs a b st v h e =
      let J = job_of W lay in
      let m = sym (first_seg W lay a b h) in
      let q : (job_seg W lay a).value ≡ v = seg_value W lay a ∙ sym e in
      let p = set_by J room (job_seg W lay a) (segs_from W lay (a + 1) b) st in
      subst (λ (ss : List Segment). build_set J room ss st ≡ (run J room (set_of J v) (top_of J v) st ss [] >>= λ r. conflicts J room (set_of J v) (top_of J v) (runs same_inst r.turned) r.state)) m
      (subst (λ (x : Value). build_set J room (job_seg W lay a ∷ segs_from W lay (a + 1) b) st
      ≡ (run J room (set_of J x) (top_of J x) st (job_seg W lay a ∷ segs_from W lay (a + 1) b) [] >>= λ r. conflicts J room (set_of J x) (top_of J x) (runs same_inst r.turned) r.state)) q p)

-- ---- the value of a segment is one of the job's

job_values : (W : List ℕ) (lay : Layout) → length (job_of W lay).values ≡ lay.values.n
unfolding job_of job_by values_at
job_values W lay = length_rows_at value_row W lay.values.at 3 lay.values.n

pub value_known : (W : List ℕ) (lay : Layout) → entry (job_of W lay) ≡ none → (i : ℕ) → i < lay.segments.n → (seg_at W lay i).value.0 < lay.values.n
unfolding segment_ok segment_of
value_known W lay e i h =
    let J = job_of W lay in
    let p : All (λ s. segment_ok J s ≡ true) (job_seg W lay i ∷ segs_from W lay (i + 1) (i + 1)) =
    subst (λ (ss : List Segment). All (λ s. segment_ok J s ≡ true) ss) (first_seg W lay i (i + 1) (omega arith)) (all_from W lay (λ s. segment_ok J s ≡ true) i (i + 1) (omega arith) (omega arith) (segments_passed J e)) in
    omega (arith, job_values W lay, ltb-true (seg_at W lay i).value.0 (length J.values) (conj_all (segment_tests J (job_seg W lay i)) p.0).1.0)
