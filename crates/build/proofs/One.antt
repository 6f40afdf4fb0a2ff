-- One set: its part laid out, the steps over it, and the conflict registers. Assumes nothing.
use mathlib.Core.Path.{◌≡◌, refl, sym, ap, ◌∙◌, subst}
use mathlib.Core.List.{List, []}
use Prim.Native.Nat.{ℕ, ◌-◌, ◌<◌}
use native.Mathlib.Omega.{arith}
use Rattle.definition.specs.declared.RegClass.{RegClass}
use Rattle.definition.specs.declared.ValueSet.{ValueSet}
use Rattle.definition.specs.Types.{Job, State, Turned, Out, done, refused}
use Rattle.definition.specs.RegInfo.{set_of, top_of}
use Rattle.definition.specs.Place.{◌>>=◌}
use Rattle.definition.specs.Build.{Built, conflicts, runs, same_inst, build_set}
use Rattle.definition.proofs.Fuel.{run}
use Rattle.job.specs.declared.Layout.{Layout}
use Rattle.job.specs.Layout.{seg_at, next_use}
use Rattle.job.specs.Job.{job_of}
use Rattle.set_part.specs.declared.SetPart.{SetPart}
use Rattle.set_part.specs.Part.{part_segs, whole_part}
use Rattle.virt_regs.specs.declared.OutLayout.{OutLayout}
use Rattle.virt_regs.specs.declared.Counts.{Counts}
use Rattle.virt_regs.specs.Encoding.{room_of}
use Rattle.job.specs.declared.work.WorkLayout.{WorkLayout}
use Rattle.constraints.specs.Ready.{Ready}
use Rattle.pieces.specs.Maps.{MapApart}
use Rattle.pieces.specs.Conflict.{turned_rows_of, RowsOk}
use Rattle.conflicts.proofs.RoundKept.{rows_none}
use Rattle.std.specs.Prelude.{Result, Ok, Err}
use Rattle.placing.specs.declared.end.NotPlaced.{NotPlaced}
use Rattle.placing.specs.EndEnds.{Placed}
use Rattle.build_part.specs.declared.StepsEnd.{StepsEnd}
use Rattle.steps.specs.Turns.{TurnRoom}
use Rattle.steps.specs.Laid.{Laid}
use Rattle.steps.specs.Built.{Changed}
use Rattle.steps.specs.Builds.{Builds}
use Rattle.steps.specs.Fits.{StandsAs}
use Rattle.build_part.specs.Steps.{BuiltFit}
use Rattle.set_runs.specs.Sets.{segs_from}
use Rattle.build.specs.Begun.{Begun, Onward, KeptFrom, kept_none}
use Rattle.build.specs.Laid.{whole_segs, laid, onward_next, onward_set}
use Rattle.build.specs.Loop.{set_runs}
use Rattle.conflicts.specs.Conflicts.{Between, EndsAs}
use Rattle.build.specs.SetsSets.{SetReady}

-- the conflict registers change the mapping and turned rows alone
kept_between : {w : ℕ} {W : List ℕ} {lay : Layout} {wl : WorkLayout} (g : Begun w W lay wl) (f : ℕ) (K K' : List ℕ) → Between lay wl K K' → KeptFrom wl f K K'
kept_between g f K K' b = record {
  index = λ j h. b.before j h;
  starts = λ j h l. b.until j (omega (arith, g.mapping.starts)) (omega (arith, g.turns.marks));
  marks = λ j h l. b.until j (omega (arith, g.mapping.marks)) l;
}

module _ (J : Job) (ol : OutLayout) (W : List ℕ) (lay : Layout) (wl : WorkLayout) (O K : List ℕ) (r : Result StepsEnd NotPlaced) where
  -- steps that are done have left a state and turned uses
  built_state : (o : Out Built) (e : StepsEnd) → BuiltFit J ol W lay wl O K r o → r ≡ Ok e
      → (b : Built) × (o ≡ done b) × StandsAs J ol O W K lay wl e.counts b.state × (turned_rows_of K wl.turned W lay 0 e.turned ≡ b.turned)
  unfolding BuiltFit
  built_state (done b) e a d = let n = subst (λ (y : Result StepsEnd NotPlaced). BuiltFit J ol W lay wl O K y (done b)) d a in (b, refl, n.stands, n.turned)
  built_state (refused f) e a d = absurd (subst (λ (y : Result StepsEnd NotPlaced). BuiltFit J ol W lay wl O K y (refused f)) d a)

  -- and where they are not, that is the end
  built_not : (o : Out Built) (k : Built → Out State) (v : NotPlaced) → BuiltFit J ol W lay wl O K r o → r ≡ Err v → EndsAs J ol W lay wl O K (Err v) (o >>= k)
  unfolding BuiltFit EndsAs
  built_not (done b) k v a d = absurd (subst (λ (y : Result StepsEnd NotPlaced). BuiltFit J ol W lay wl O K y (done b)) d a)
  built_not (refused f) k v a d = subst (λ (y : Result StepsEnd NotPlaced). BuiltFit J ol W lay wl O K y (refused f)) d a

module _ (t w o : ℕ) (W K O : List ℕ) (lay : Layout) (wl : WorkLayout) (ol : OutLayout) (a b : ℕ) (c : Counts) (g : SetReady t w o W K O lay wl ol a b c) (sp : SetPart) (is : sp ≡ whole_part W lay a b) where
  -- the set's part is laid out for the steps
  pub set_laid : Laid t w W K lay wl sp 0
  set_laid =
      subst (λ (x : SetPart). Laid t w W K lay wl x 0) (sym is)
      (laid g.begun a b g.some_seg g.within (runs _ (segs_from W lay b lay.segments.n)) g.onward g.first)

  module _ (vs : ValueSet) (top : RegClass) (eset : vs ≡ set_of (job_of W lay) (seg_at W lay a).value) (etop : top ≡ top_of (job_of W lay) (seg_at W lay a).value) where
    abbrev J : Job
    J = job_of W lay

    abbrev ran : State → Out Built
    ran st = run J (room_of ol) vs top st (part_segs K wl.marks W lay sp) (turned_rows_of K wl.turned W lay 0 0)

    abbrev thence : Built → Out State
    thence r = conflicts J (room_of ol) vs top (runs same_inst r.turned) r.state

    -- the definition's set: the steps over the part, then the conflict registers
    set_is : (st : State) → build_set J (room_of ol) (segs_from W lay a b) st ≡ (ran st >>= λ r. thence r)
    set_is st =
        let v = (seg_at W lay a).value in
        let segs : segs_from W lay a b ≡ part_segs K wl.marks W lay sp =
        sym (whole_segs g.begun a b g.some_seg g.within g.onward) ∙ ap (λ (x : SetPart). part_segs K wl.marks W lay x) (sym is) in
        let none : [] ≡ turned_rows_of K wl.turned W lay 0 0 = sym (rows_none K wl.turned W lay 0 0 (omega arith)) in
        let es = sym eset in
        let et = sym etop in
        set_runs W lay (room_of ol) a b st v g.some_seg refl
        ∙ (λ i. run J (room_of ol) (es i) (et i) st (segs i) (none i) >>= λ r. conflicts J (room_of ol) (es i) (et i) (runs same_inst r.turned) r.state)

    -- the steps ended with r and the words K₁ and O₁
    module _ (K₁ O₁ : List ℕ) (r : Result StepsEnd NotPlaced) (ch : Changed lay wl sp 0 K K₁)
        (k : (st : State) → StandsAs (job_of W lay) ol O W K lay wl c st
        → BuiltFit (job_of W lay) ol W lay wl O₁ K₁ r (run (job_of W lay) (room_of ol) vs top st (part_segs K wl.marks W lay sp) (turned_rows_of K wl.turned W lay 0 0))) where
      changed : Changed lay wl (whole_part W lay a b) 0 K K₁
      changed = subst (λ (x : SetPart). Changed lay wl x 0 K K₁) is ch

      -- not done
      pub set_stop : (v : NotPlaced) → r ≡ Err v → (x : Placed) → x ≡ Err v
          → (b < lay.segments.n → Onward t w W K₁ lay wl (seg_at W lay b).first)
          × ((st : State) → StandsAs (job_of W lay) ol O W K lay wl c st → EndsAs (job_of W lay) ol W lay wl O₁ K₁ x (build_set (job_of W lay) (room_of ol) (segs_from W lay a b) st))
      set_stop v d x e = (
        λ m. onward_set g.begun a b g.some_seg g.within g.onward changed (kept_none wl (next_use W lay (b - 1)) K₁) m,
        λ st s.
            subst (λ (y : Placed). EndsAs J ol W lay wl O₁ K₁ y (build_set J (room_of ol) (segs_from W lay a b) st)) (sym e)
            (subst (λ (y : Out State). EndsAs J ol W lay wl O₁ K₁ (Err v) y) (sym (set_is st)) (built_not J ol W lay wl O₁ K₁ r (ran st) (λ x. thence x) v (k st s) d)),
      )

      -- what the conflict registers need, of slices of w' and o' words now
      pub set_turns : (w' o' : ℕ) → w ≡ w' → o ≡ o' → (e : StepsEnd) → r ≡ Ok e → RowsOk w' K₁ wl.turned lay 0 e.turned
          → Ready t w' W K₁ lay wl × MapApart lay wl × TurnRoom w' lay wl × Builds o' W lay ol × (0 < lay.segments.n) × RowsOk w' K₁ wl.turned lay 0 e.turned
          × ((st : State) × StandsAs (job_of W lay) ol O₁ W K₁ lay wl e.counts st)
      set_turns w' o' ew eo e d rows =
          let x = built_state J ol W lay wl O₁ K₁ r (ran g.st) e (k g.st g.stands) d in (
            subst (λ (n : ℕ). Ready t n W K₁ lay wl) ew (onward_next g.begun a b g.some_seg g.within g.onward changed (kept_none wl (next_use W lay (b - 1)) K₁)).ready,
            g.begun.mapping,
            subst (λ (n : ℕ). TurnRoom n lay wl) ew g.begun.turns,
            subst (λ (n : ℕ). Builds n W lay ol) eo g.builds,
            omega (arith, g.some_seg, g.within),
            rows,
            (x.0.state, x.2),
          )

      -- and what they leave
      pub set_done : (e : StepsEnd) → r ≡ Ok e → (K₂ O₂ : List ℕ) (x : Placed) → Between lay wl K₁ K₂
          → ((st : State) → StandsAs (job_of W lay) ol O₁ W K₁ lay wl e.counts st
          → EndsAs (job_of W lay) ol W lay wl O₂ K₂ x (conflicts (job_of W lay) (room_of ol) vs top (runs same_inst (turned_rows_of K₁ wl.turned W lay 0 e.turned)) st))
          → (b < lay.segments.n → Onward t w W K₂ lay wl (seg_at W lay b).first)
          × ((st : State) → StandsAs (job_of W lay) ol O W K lay wl c st → EndsAs (job_of W lay) ol W lay wl O₂ K₂ x (build_set (job_of W lay) (room_of ol) (segs_from W lay a b) st))
      set_done e d K₂ O₂ x bt h = (
        λ m. onward_set g.begun a b g.some_seg g.within g.onward changed (kept_between g.begun (next_use W lay (b - 1)) K₁ K₂ bt) m,
        λ st s.
            let p = built_state J ol W lay wl O₁ K₁ r (ran st) e (k st s) d in
            let y : build_set J (room_of ol) (segs_from W lay a b) st ≡ conflicts J (room_of ol) vs top (runs same_inst (turned_rows_of K₁ wl.turned W lay 0 e.turned)) p.0.state =
            set_is st ∙ ap (λ (z : Out Built). z >>= λ u. thence u) p.1 ∙ ap (λ (us : List Turned). conflicts J (room_of ol) vs top (runs same_inst us) p.0.state) (sym p.3) in
            subst (λ (z : Out State). EndsAs J ol W lay wl O₂ K₂ x z) (sym y) (h p.0.state p.2),
      )
