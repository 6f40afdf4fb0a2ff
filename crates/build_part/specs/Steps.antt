-- What a step over a working part leaves, and what all steps leave. Assumes nothing.
use Rattle.std.specs.Prelude.{◌≡◌, List, ℕ, ◌≤◌, ◌<◌, Result, Ok, Err, IfOk, Option, Some, None}
use Rattle.definition.specs.declared.Inst.{Inst}
use Rattle.definition.specs.declared.RegClass.{RegClass}
use Rattle.definition.specs.declared.Stop.{Stop}
use Rattle.definition.specs.declared.ValueSet.{ValueSet}
use Rattle.definition.specs.Types.{Job, State, Out, done, refused}
use Rattle.definition.specs.Cuts.{left_cut}
use Rattle.definition.specs.Admit.{Move, whole, cut, halt, move, scan, through, fresh}
use Rattle.definition.specs.Place.{uses_of}
use Rattle.definition.specs.Build.{Built}
use Rattle.definition.proofs.Fits.{SegsFit}
use Rattle.definition.proofs.Fuel.{run}
use Rattle.job.specs.declared.Layout.{Layout}
use Rattle.job.specs.Job.{job_of}
use Rattle.set_part.specs.declared.SetPart.{SetPart}
use Rattle.set_part.specs.Part.{part_segs, marked_use}
use Rattle.set_part.specs.Cut.{cut_part}
use Rattle.virt_regs.specs.declared.OutLayout.{OutLayout}
use Rattle.virt_regs.specs.declared.Counts.{Counts}
use Rattle.virt_regs.specs.Encoding.{room_of}
use Rattle.job.specs.declared.work.WorkLayout.{WorkLayout}
use Rattle.constraints.specs.declared.Held.{Held}
use Rattle.constraints.specs.Held.{held_of}
use Rattle.constraints.specs.Ready.{Stands}
use Rattle.pieces.specs.Conflict.{turned_rows_of, RowsOk}
use Rattle.placing.specs.declared.end.NotPlaced.{NotPlaced}
use Rattle.placing.specs.EndEnds.{end_of}
use Rattle.steps.specs.Builds.{Builds}
use Rattle.steps.specs.Fits.{StandsAs}
use Rattle.scans.specs.Answers.{Passed}
use Rattle.steps.specs.Laid.{uses_left, Laid}
use Rattle.steps.specs.Built.{Changed}
use Rattle.build_part.specs.declared.Next.{Next}
use Rattle.build_part.specs.declared.StepsEnd.{StepsEnd}
use Rattle.build_part.specs.declared.Step.{Step}
use Rattle.build_part.specs.declared.Step.TheVariants.{On, Over}

-- ---- all steps

-- the state that the slices stand for, and the uses that were turned
pub record BuiltNow (J : Job) (ol : OutLayout) (W : List ℕ) (lay : Layout) (wl : WorkLayout) (O K : List ℕ) (r : StepsEnd) (b : Built) : Type 0 where
  pub stands : StandsAs J ol O W K lay wl r.counts b.state
  pub turned : turned_rows_of K wl.turned W lay 0 r.turned ≡ b.turned

-- by the definition's answer
unfoldable pub BuiltFit : Job → OutLayout → List ℕ → Layout → WorkLayout → List ℕ → List ℕ → Result StepsEnd NotPlaced → Out Built → Type 0
BuiltFit J ol W lay wl O K (Ok r) (done b) = BuiltNow J ol W lay wl O K r b
BuiltFit J ol W lay wl O K (Err e) (refused f) = end_of f e
BuiltFit J ol W lay wl O K (Ok r) (refused f) = ⊥
BuiltFit J ol W lay wl O K (Err e) (done b) = ⊥

-- for every state that the slices stand for, the definition's answer
abbrev pub BuildsTo : List ℕ → Layout → OutLayout → WorkLayout → ValueSet → RegClass → List ℕ → List ℕ → SetPart → Counts → ℕ → List ℕ → List ℕ → Result StepsEnd NotPlaced → Type 0
BuildsTo W lay ol wl vs top O K sp c n O' K' r =
    (st : State) → StandsAs (job_of W lay) ol O W K lay wl c st
    → BuiltFit (job_of W lay) ol W lay wl O' K' r (run (job_of W lay) (room_of ol) vs top st (part_segs K wl.marks W lay sp) (turned_rows_of K wl.turned W lay 0 n))

-- ---- one step

-- The part sp is laid out behind n turned rows, the job is accepted, and the slices stand for some state. The job has t words, the work slice w, the result tables o.
pub record StepReady (t w o : ℕ) (W K O : List ℕ) (lay : Layout) (ol : OutLayout) (wl : WorkLayout) (sp : SetPart) (c : Counts) (n : ℕ) : Type 0 where
  pub laid : Laid t w W K lay wl sp n
  pub builds : Builds o W lay ol
  pub state : State
  pub stands : StandsAs (job_of W lay) ol O W K lay wl c state

-- the scans over the part's uses lead to m, for every state that the slices stand for
abbrev pub Moves : List ℕ → List ℕ → List ℕ → Layout → OutLayout → WorkLayout → RegClass → SetPart → Move → Type 0
Moves W K O lay ol wl top sp m = (st : State) → Stands ol O W K lay wl st → move (job_of W lay) st top (uses_of (part_segs K wl.marks W lay sp)) ≡ m

-- sp is cut: the part q is the side before the cut, b the side behind it, and the scan over q comes to what h holds
pub record CutInto (W K O : List ℕ) (lay : Layout) (ol : OutLayout) (wl : WorkLayout) (top : RegClass) (sp q : SetPart) (h : Held) (b : SetPart) : Type 0 where
  pub at : Inst
  pub moves : Moves W K O lay ol wl top sp (cut at)
  pub left : q ≡ (cut_part (job_of W lay).hints W lay at sp).left
  pub right : b ≡ (cut_part (job_of W lay).hints W lay at sp).right
  pub holds : (st : State) → Stands ol O W K lay wl st → SegsFit 0 (part_segs K wl.marks W lay sp)
      → move (job_of W lay) st top (uses_of (part_segs K wl.marks W lay sp)) ≡ cut at
      → scan (job_of W lay) st (uses_of (left_cut (job_of W lay).hints at (part_segs K wl.marks W lay sp))) (fresh top) ≡ through (held_of h)

-- the part q is to be placed as h says: it is all of sp, or sp is cut and the other side stays
unfoldable pub NextIs : List ℕ → List ℕ → List ℕ → Layout → OutLayout → WorkLayout → RegClass → SetPart → SetPart → Held → Option SetPart → Type 0
NextIs W K O lay ol wl top sp q h None = (q ≡ sp) × Moves W K O lay ol wl top sp (whole (held_of h))
NextIs W K O lay ol wl top sp q h (Some b) = CutInto W K O lay ol wl top sp q h b

-- the same of an answer, or the scans lead to its stop
unfoldable pub NextOr : List ℕ → List ℕ → List ℕ → Layout → OutLayout → WorkLayout → RegClass → SetPart → Result Next Stop → Type 0
NextOr W K O lay ol wl top sp (Ok x) = NextIs W K O lay ol wl top sp x.part x.held x.behind
NextOr W K O lay ol wl top sp (Err s) = Moves W K O lay ol wl top sp (halt s)

-- the scan from the part's first use goes through up to use number e and comes to what h holds, for every such state
abbrev pub Passes : List ℕ → List ℕ → List ℕ → Layout → OutLayout → WorkLayout → RegClass → SetPart → ℕ → Held → Type 0
Passes W K O lay ol wl top sp e h = (st : State) → Stands ol O W K lay wl st → Passed (job_of W lay) st (marked_use K wl.marks W lay) top sp.first e h

-- the part q that is left, behind m turned rows, lies within sp, and a class use less is left
pub record Onward (t w : ℕ) (W K K' : List ℕ) (lay : Layout) (wl : WorkLayout) (sp : SetPart) (n : ℕ) (q : SetPart) (m : ℕ) : Type 0 where
  pub laid : Laid t w W K' lay wl q m
  pub less : uses_left W K' lay wl q < uses_left W K lay wl sp
  pub first : sp.first ≤ q.first
  pub end : q.end ≡ sp.end
  pub more : n ≤ m

-- how many uses are turned then
abbrev pub turned_by : Step → ℕ
turned_by (On q c m) = m
turned_by (Over e) = e.turned

-- the same of a step, if the steps go on
unfoldable pub OnwardBy : ℕ → ℕ → List ℕ → List ℕ → List ℕ → Layout → WorkLayout → SetPart → ℕ → Step → Type 0
OnwardBy t w W K K' lay wl sp n (On q c m) = Onward t w W K K' lay wl sp n q m
OnwardBy t w W K K' lay wl sp n (Over e) = Unit {0}

-- what a step does to the words K of the work slice
pub record Stepped (t w : ℕ) (W K K' : List ℕ) (lay : Layout) (wl : WorkLayout) (sp : SetPart) (n : ℕ) (r : Result Step NotPlaced) : Type 0 where
  pub changed : Changed lay wl sp n K K'
  pub rows : IfOk r (λ x. RowsOk w K' wl.turned lay 0 (turned_by x))
  pub goes : IfOk r (λ x. OnwardBy t w W K K' lay wl sp n x)

-- a state that the slices stand for, from which the steps over the part q, behind m turned rows, answer o
pub record GoesOn (W : List ℕ) (lay : Layout) (ol : OutLayout) (wl : WorkLayout) (vs : ValueSet) (top : RegClass) (O K : List ℕ) (q : SetPart) (c : Counts) (m : ℕ) (o : Out Built) : Type 0 where
  pub state : State
  pub stands : StandsAs (job_of W lay) ol O W K lay wl c state
  pub same : o ≡ run (job_of W lay) (room_of ol) vs top state (part_segs K wl.marks W lay q) (turned_rows_of K wl.turned W lay 0 m)

-- the answer o: at once, or by the steps that follow
unfoldable pub StepTo : List ℕ → Layout → OutLayout → WorkLayout → ValueSet → RegClass → List ℕ → List ℕ → Result Step NotPlaced → Out Built → Type 0
StepTo W lay ol wl vs top O K (Ok (On q c m)) o = GoesOn W lay ol wl vs top O K q c m o
StepTo W lay ol wl vs top O K (Ok (Over e)) o = BuiltFit (job_of W lay) ol W lay wl O K (Ok e) o
StepTo W lay ol wl vs top O K (Err e) o = BuiltFit (job_of W lay) ol W lay wl O K (Err e) o

-- for every state that the slices stand for, the step r
abbrev pub StepsTo : List ℕ → Layout → OutLayout → WorkLayout → ValueSet → RegClass → List ℕ → List ℕ → SetPart → Counts → ℕ → List ℕ → List ℕ → Result Step NotPlaced → Type 0
StepsTo W lay ol wl vs top O K sp c n O' K' r =
    (st : State) → StandsAs (job_of W lay) ol O W K lay wl c st
    → StepTo W lay ol wl vs top O' K' r (run (job_of W lay) (room_of ol) vs top st (part_segs K wl.marks W lay sp) (turned_rows_of K wl.turned W lay 0 n))
