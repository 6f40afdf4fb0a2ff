-- A use of a part is turned, and the steps go on. Assumes nothing.
use mathlib.Core.Path.{◌≡◌, refl, sym, ap, subst, ◌∙◌}
use mathlib.Core.List.{List}
use Prim.Native.Nat.{ℕ, ◌+◌, ◌<◌}
use native.Mathlib.Omega.{arith}
use lib.ListN.{length}
use Rattle.definition.specs.declared.RegClass.{RegClass}
use Rattle.definition.specs.declared.ValueSet.{ValueSet}
use Rattle.definition.specs.Types.{Job, Segment, State, Turned}
use Rattle.definition.specs.Admit.{turn, move}
use Rattle.definition.specs.Place.{uses_of}
use Rattle.definition.specs.Build.{turn_at}
use Rattle.definition.proofs.Moves.{ClassAt, move_turn}
use Rattle.definition.proofs.Fuel.{run}
use Rattle.job.specs.declared.Layout.{Layout}
use Rattle.job.specs.Job.{job_of}
use Rattle.set_part.specs.declared.SetPart.{SetPart}
use Rattle.set_part.specs.Part.{PartOk, part_segs}
use Rattle.set_part.specs.declared.mark.TurnedRow.{TurnedRow}
use Rattle.set_part.specs.Turned.{turned_row}
use Rattle.virt_regs.specs.declared.Counts.{Counts}
use Rattle.virt_regs.specs.declared.OutLayout.{OutLayout}
use Rattle.virt_regs.specs.Encoding.{room_of}
use Rattle.job.specs.declared.work.WorkLayout.{WorkLayout}
use Rattle.pieces.specs.Conflict.{turned_rows_of}
use Rattle.steps.specs.Fits.{StandsAs}
use Rattle.steps.specs.Turns.{turned_once, TurnRoom}
use Rattle.steps.specs.Laid.{Laid}
use Rattle.steps.proofs.Run.{run_turn}
use Rattle.steps.proofs.Turn.{row_number, once_stands, turn_inside, turn_number, turn_rows, turn_segs, turn_left, turn_room, laid_turn}
use Rattle.steps.proofs.Changed.{changed_none, changed_turn}
use Rattle.std.specs.Prelude.{Result, Ok}
use Rattle.placing.specs.declared.end.NotPlaced.{NotPlaced}
use Rattle.build_part.specs.declared.Step.{Step}
use Rattle.build_part.specs.declared.Step.TheVariants.{On}
use Rattle.build_part.specs.Steps.{OnwardBy, Stepped, StepTo}

module _ {t w n : ℕ} {W K : List ℕ} {lay : Layout} {wl : WorkLayout} {sp : SetPart} (l : Laid t w W K lay wl sp n) (ew : w ≡ length K) (st : State) (top : RegClass) (i : ℕ)
    (m : move (job_of W lay) st top (uses_of (part_segs K wl.marks W lay sp)) ≡ turn i) where
  abbrev J : Job
  J = job_of W lay

  abbrev ss : List Segment
  ss = part_segs K wl.marks W lay sp

  abbrev ts : List Turned
  ts = turned_rows_of K wl.turned W lay 0 n

  abbrev row : TurnedRow
  row = turned_row K wl.marks W lay sp i

  abbrev K₁ : List ℕ
  K₁ = turned_once K wl n row

  picked : ClassAt (uses_of (part_segs K wl.marks W lay sp)) i
  picked = move_turn J st top (uses_of ss) i m

  pub few : n < lay.uses.n
  few = turn_room t w W K lay wl sp n i l picked

  pub room : TurnRoom (length K) lay wl
  room = subst (λ (x : ℕ). TurnRoom x lay wl) ew l.turns

  pub inside : sp.first + i < sp.end
  inside = turn_inside K W lay wl sp n i l.mapping room l.ok few picked

  pub number : (turned_row K wl.marks W lay sp i).number < lay.uses.n
  number = turn_number K W lay wl sp n i l.mapping room l.ok few picked

  pub turn_asked : PartOk W lay sp × TurnRoom w lay wl × (sp.first + i < sp.end) × (n < lay.uses.n)
  turn_asked = (l.ok, l.turns, inside, few)

  pub once : (c : Counts) → Stepped t w W K (turned_once K wl n (turned_row K wl.marks W lay sp i)) lay wl sp n (Ok (On sp c (n + 1)))
  unfolding OnwardBy
  once c =
      let on : Laid t w W K₁ lay wl sp (n + 1) = laid_turn t w W K lay wl sp n i ew l few picked in
      let num : row.number ≡ sp.first + i = row_number K wl.marks W lay sp i in
      record {
        changed =
            changed_turn lay wl sp n K K₁ K₁ row l.mapping room few number (omega (arith, num)) (omega (arith, num, inside)) refl
            (changed_none lay wl sp (n + 1) K₁);
        rows = on.rows;
        goes = record { laid = on; less = omega (arith, turn_left K W lay wl sp n i l.mapping room l.ok few picked); first = omega arith; end = refl; more = omega arith };
      }

  pub turn_stepped : (K' : List ℕ) → K' ≡ turned_once K wl n (turned_row K wl.marks W lay sp i) → (c : Counts) (x : Result Step NotPlaced) → x ≡ Ok (On sp c (n + 1)) → Stepped t w W K K' lay wl sp n x
  turn_stepped K' e c x ex =
      subst (λ (y : Result Step NotPlaced). Stepped t w W K K' lay wl sp n y) (sym ex)
      (subst (λ (k : List ℕ). Stepped t w W K k lay wl sp n (Ok (On sp c (n + 1)))) (sym e) (once c))

  pub same : (ol : OutLayout) (vs : ValueSet)
      → run (job_of W lay) (room_of ol) vs top st (part_segs K wl.marks W lay sp) (turned_rows_of K wl.turned W lay 0 n)
      ≡ run (job_of W lay) (room_of ol) vs top st (part_segs (turned_once K wl n (turned_row K wl.marks W lay sp i)) wl.marks W lay sp) (turned_rows_of (turned_once K wl n (turned_row K wl.marks W lay sp i)) wl.turned W lay 0 (n + 1))
  same ol vs =
      run_turn J (room_of ol) vs top st ss ts 0 l.fair.fit i m
      ∙ ap (λ (y : List Turned). run J (room_of ol) vs top st (turn_at i ss) y) (sym (turn_rows K W lay wl sp n i l.mapping room l.ok few picked))
      ∙ ap (λ (y : List Segment). run J (room_of ol) vs top st y (turned_rows_of K₁ wl.turned W lay 0 (n + 1))) (sym (turn_segs K W lay wl sp n i l.mapping room l.ok few picked))

  pub turn_to : (ol : OutLayout) (vs : ValueSet) (O : List ℕ) (c : Counts) → StandsAs (job_of W lay) ol O W K lay wl c st → (K' : List ℕ) → K' ≡ turned_once K wl n (turned_row K wl.marks W lay sp i)
      → (x : Result Step NotPlaced) → x ≡ Ok (On sp c (n + 1))
      → StepTo W lay ol wl vs top O K' x (run (job_of W lay) (room_of ol) vs top st (part_segs K wl.marks W lay sp) (turned_rows_of K wl.turned W lay 0 n))
  unfolding StepTo
  turn_to ol vs O c s K' e x ex =
      subst (λ (y : Result Step NotPlaced). StepTo W lay ol wl vs top O K' y (run J (room_of ol) vs top st ss ts)) (sym ex)
      (subst (λ (k : List ℕ). StepTo W lay ol wl vs top O k (Ok (On sp c (n + 1))) (run J (room_of ol) vs top st ss ts)) (sym e)
      (record { state = st; stands = record { stands = once_stands K lay wl n row l.mapping room few number ol O W st s.stands; counts = s.counts; fits = s.fits }; same = same ol vs }))
