-- A part is cut, and the part before the cut is placed. Assumes nothing.
use mathlib.Core.Path.{◌≡◌, sym, ap, subst, ◌∙◌}
use mathlib.Core.Bool.{true}
use mathlib.Core.List.{List}
use Prim.Native.Nat.{ℕ, ◌*◌, ◌≤◌, ◌<◌}
use native.Mathlib.Omega.{arith}
use Rattle.words.specs.RowsAt.{rows_at}
use Rattle.definition.specs.declared.Inst.{Inst}
use Rattle.definition.specs.declared.RegClass.{RegClass}
use Rattle.definition.specs.declared.ValueSet.{ValueSet}
use Rattle.definition.specs.Types.{Job, Out, done, refused, Segment, State, Turned}
use Rattle.definition.specs.Entry.{chained, not_after}
use Rattle.definition.specs.Cuts.{left_cut, right_cut}
use Rattle.definition.specs.Admit.{cut, move, scan, through, fresh}
use Rattle.definition.specs.Place.{◌>>=◌, place, uses_of}
use Rattle.definition.specs.Build.{Built, as_own}
use Rattle.definition.proofs.Fuel.{run}
use Rattle.hints.specs.Hints.{hint_at}
use Rattle.job.specs.declared.Layout.{Layout}
use Rattle.job.specs.Job.{job_of}
use Rattle.set_part.specs.declared.SetPart.{SetPart}
use Rattle.set_part.specs.Part.{PartOk, part_segs}
use Rattle.set_part.proofs.Bounds.{first_le_end}
use Rattle.set_part.specs.declared.cuts.Parts.{Parts}
use Rattle.set_part.specs.Cut.{cut_part}
use Rattle.set_part.proofs.CutsKept.{Sides}
use Rattle.virt_regs.specs.declared.Counts.{Counts}
use Rattle.virt_regs.specs.declared.OutLayout.{OutLayout}
use Rattle.virt_regs.specs.Encoding.{room_of, tables_end}
use Rattle.job.specs.declared.work.WorkLayout.{WorkLayout}
use Rattle.constraints.specs.declared.Held.{Held}
use Rattle.constraints.specs.Held.{held_of}
use Rattle.constraints.specs.Ready.{Ready}
use Rattle.pieces.specs.Maps.{Outside}
use Rattle.pieces.specs.Conflict.{turned_rows_of, RowsOk}
use Rattle.vreg_weight.specs.Fair.{Fair}
use Rattle.std.specs.Prelude.{Result, Ok, Err}
use Rattle.placing.specs.declared.end.NotPlaced.{NotPlaced}
use Rattle.placing.specs.EndEnds.{Placed, placed_state, Answers, Ends}
use Rattle.place.specs.Asked.{new_pieces, Asked}
use Rattle.placing.specs.Held.{HeldFits}
use Rattle.steps.specs.Builds.{Builds}
use Rattle.steps.specs.Fits.{StandsAs}
use Rattle.steps.specs.Laid.{uses_left, Laid}
use Rattle.steps.proofs.Run.{run_cut}
use Rattle.steps.proofs.Cut.{rows_kept, rows_ok_kept, cut_bounds, cut_parts, left_segs, left_kinds, fair_left, right_kept, right_left, laid_right}
use Rattle.steps.proofs.Changed.{changed_none, changed_cut}
use Rattle.build_part.specs.declared.Step.{Step}
use Rattle.build_part.specs.declared.Step.TheVariants.{On}
use Rattle.build_part.specs.Steps.{BuiltFit, OnwardBy, Stepped, StepTo}
use Rattle.steps.specs.Built.{Changed}
use Rattle.build_part.proofs.Parts.{held_ok, state_ok, asked_ok}

module _ {t w n : ℕ} {W K : List ℕ} {lay : Layout} {wl : WorkLayout} {sp : SetPart} (l : Laid t w W K lay wl sp n) (st : State) (top : RegClass) (p : Inst)
    (m : move (job_of W lay) st top (uses_of (part_segs K wl.marks W lay sp)) ≡ cut p) where
  abbrev J : Job
  J = job_of W lay

  abbrev ss : List Segment
  ss = part_segs K wl.marks W lay sp

  abbrev ts : List Turned
  ts = turned_rows_of K wl.turned W lay 0 n

  abbrev sides : Parts
  sides = cut_part (job_of W lay).hints W lay p sp

  abbrev before : List Segment
  before = left_cut (job_of W lay).hints p (part_segs K wl.marks W lay sp)

  parts : Sides W lay sp (cut_part (job_of W lay).hints W lay p sp)
  parts = cut_parts t w W K lay wl sp n l st top p m

  -- what the cut asks
  pub front_asked : (o : ℕ) (ol : OutLayout) → Builds o W lay ol
      → Ready t w W K lay wl × (tables_end ol ≤ o) × PartOk W lay sp × (sp.«from».0 < 4 * p.0) × (4 * p.0 < sp.to.0)
      × (chained not_after (rows_at hint_at W lay.hints.at 3 lay.hints.n) ≡ true)
  front_asked o ol b = let c = cut_bounds t w W K lay wl sp n l st top p m in (l.ready, b.long, l.ok, c.0, c.1, l.hints)

  pub front_fair : (q : SetPart) → q ≡ (cut_part (job_of W lay).hints W lay p sp).left → Fair (job_of W lay) 4096 (new_pieces K wl W lay q)
  front_fair q e = subst (λ (x : SetPart). Fair J 4096 (new_pieces K wl W lay x)) (sym e) (fair_left t w W K lay wl sp n l st top p m)

  -- the words of the work slice
  module _ (K' : List ℕ) (o : Outside lay wl K K') (q : SetPart) (eq : q ≡ (cut_part (job_of W lay).hints W lay p sp).right) where
    on : Laid t w W K' lay wl q n
    on = subst (λ (x : SetPart). Laid t w W K' lay wl x n) (sym eq) (laid_right t w W K lay wl sp n l st top p m K' o)

    less : uses_left W K' lay wl q < uses_left W K lay wl sp
    less = subst (λ (x : SetPart). uses_left W K' lay wl x < uses_left W K lay wl sp) (sym eq) (right_left t w W K lay wl sp n l st top p m K' o)

    first : sp.first ≤ q.first
    first =
        subst (λ (x : SetPart). sp.first ≤ x.first) (sym eq)
        (omega (arith, first_le_end W lay (cut_part (job_of W lay).hints W lay p sp).left parts.left_side, parts.first, parts.meet))

    last : q.end ≡ sp.end
    last = ap (λ (x : SetPart). x.end) eq ∙ parts.end

    changed : Changed lay wl sp n K K'
    changed = changed_cut W lay wl sp n K K' K' sides l.mapping parts o (changed_none lay wl sides.right n K')

    rows : RowsOk w K' wl.turned lay 0 n
    rows = rows_ok_kept lay wl K K' o l.mapping W w 0 n l.rows

    -- the part before it is placed, or not
    pub cut_stepped : (c : Counts) → Stepped t w W K K' lay wl sp n (Ok (On q c n))
    unfolding OnwardBy
    cut_stepped c = record { changed = changed; rows = rows; goes = record { laid = on; less = less; first = first; end = last; more = omega arith } }

    pub stop_stepped : (v : NotPlaced) (x : Result Step NotPlaced) → x ≡ Err v → Stepped t w W K K' lay wl sp n x
    stop_stepped v x e = subst (λ (y : Result Step NotPlaced). Stepped t w W K K' lay wl sp n y) (sym e) (record { changed = changed; rows = tt; goes = tt })

  -- the state
  module _ {o : ℕ} {O : List ℕ} {ol : OutLayout} {c : Counts} (b : Builds o W lay ol) (s : StandsAs (job_of W lay) ol O W K lay wl c st) (h : Held)
      (sc : scan (job_of W lay) st (uses_of (left_cut (job_of W lay).hints p (part_segs K wl.marks W lay sp))) (fresh top) ≡ through (held_of h)) where
    pub front_held : HeldFits (job_of W lay) st h
    front_held = held_ok l b s top before h (left_kinds t w W K lay wl sp n l st top p m) sc

    pub place_asked : (q : SetPart) → q ≡ (cut_part (job_of W lay).hints W lay p sp).left → Asked t w o W K O lay ol wl q h c
    place_asked q e =
        asked_ok l b s top before h (left_kinds t w W K lay wl sp n l st top p m) sc q (subst (λ (x : SetPart). PartOk W lay x) (sym e) parts.left_side) (front_fair q e)

    module _ (vs : ValueSet) (r : Placed) (O' K' : List ℕ) (a q : SetPart) (ea : a ≡ (cut_part (job_of W lay).hints W lay p sp).left) (eq : q ≡ (cut_part (job_of W lay).hints W lay p sp).right)
        (d : Ends (job_of W lay) ol W lay wl K O' K' r (place (job_of W lay) (room_of ol) vs (held_of h) (new_pieces K wl W lay a) st)) where
      abbrev front : Out State
      front = place (job_of W lay) (room_of ol) vs (held_of h) (as_own (left_cut (job_of W lay).hints p (part_segs K wl.marks W lay sp))) st

      segs : part_segs K wl.marks W lay a ≡ left_cut (job_of W lay).hints p (part_segs K wl.marks W lay sp)
      segs = ap (λ (x : SetPart). part_segs K wl.marks W lay x) ea ∙ sym (left_segs t w W K lay wl sp n l st top p m)

      placed : Answers (job_of W lay) ol W lay wl O' K' r (place (job_of W lay) (room_of ol) vs (held_of h) (as_own (left_cut (job_of W lay).hints p (part_segs K wl.marks W lay sp))) st)
      placed = subst (λ (x : List Segment). Answers J ol W lay wl O' K' r (place J (room_of ol) vs (held_of h) (as_own x) st)) segs d.answers

      step : run (job_of W lay) (room_of ol) vs top st (part_segs K wl.marks W lay sp) (turned_rows_of K wl.turned W lay 0 n)
          ≡ (place (job_of W lay) (room_of ol) vs (held_of h) (as_own (left_cut (job_of W lay).hints p (part_segs K wl.marks W lay sp))) st
          >>= λ st'. run (job_of W lay) (room_of ol) vs top st' (right_cut (job_of W lay).hints p (part_segs K wl.marks W lay sp)) (turned_rows_of K wl.turned W lay 0 n))
      step = run_cut J (room_of ol) vs top st ss ts 0 l.fair.fit p (held_of h) m sc

      pub stop_to : (v : NotPlaced) → r ≡ Err v → (x : Result Step NotPlaced) → x ≡ Err v
          → StepTo W lay ol wl vs top O' K' x (run (job_of W lay) (room_of ol) vs top st (part_segs K wl.marks W lay sp) (turned_rows_of K wl.turned W lay 0 n))
      unfolding StepTo BuiltFit Answers
      stop_to v er x e =
          subst (λ (y : Result Step NotPlaced). StepTo W lay ol wl vs top O' K' y (run J (room_of ol) vs top st ss ts)) (sym e)
          (subst (λ (y : Out Built). BuiltFit J ol W lay wl O' K' (Err v) y) (sym step) (go front (subst (λ (y : Placed). Answers J ol W lay wl O' K' y front) er placed)))
        where
          go : (y : Out State) → Answers (job_of W lay) ol W lay wl O' K' (Err v) y
              → BuiltFit (job_of W lay) ol W lay wl O' K' (Err v)
              (y >>= λ st'. run (job_of W lay) (room_of ol) vs top st' (right_cut (job_of W lay).hints p (part_segs K wl.marks W lay sp)) (turned_rows_of K wl.turned W lay 0 n))
          go (done st') x = absurd x
          go (refused f) x = x

      pub cut_to : (c' : Counts) → r ≡ Ok c'
          → StepTo W lay ol wl vs top O' K' (Ok (On q c' n)) (run (job_of W lay) (room_of ol) vs top st (part_segs K wl.marks W lay sp) (turned_rows_of K wl.turned W lay 0 n))
      unfolding StepTo
      cut_to c' ed =
          let x = placed_state J ol W lay wl O' K' r front c' placed ed in
          let rest : part_segs K' wl.marks W lay q ≡ right_cut (job_of W lay).hints p ss =
          ap (λ (y : SetPart). part_segs K' wl.marks W lay y) eq ∙ right_kept t w W K lay wl sp n l st top p m K' d.outside in
          record {
            state = x.0;
            stands = state_ok l b s top before h (left_kinds t w W K lay wl sp n l st top p m) sc vs c' O' K' x.0 x.1 x.2;
            same =
                step
                ∙ ap (λ (y : Out State). y >>= λ st'. run J (room_of ol) vs top st' (right_cut (job_of W lay).hints p ss) ts) x.1
                ∙ ap (λ (y : List Segment). run J (room_of ol) vs top x.0 y ts) (sym rest)
                ∙ ap (λ (y : List Turned). run J (room_of ol) vs top x.0 (part_segs K' wl.marks W lay q) y) (sym (rows_kept lay wl K K' d.outside l.mapping W 0 n));
          }
