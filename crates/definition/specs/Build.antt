-- builder.rs: one part, what is behind a cut, the conflict registers, a set, all sets. Assumes nothing.
use Rattle.std.specs.Prelude.{ℕ, zero, suc, ◌+◌, ◌-◌, ◌*◌, Bool, true, false, ◌&&◌, cond, List, [], ◌∷◌, ◌++◌, map, reverse, ltb, eqb, length, get_or}
use Rattle.std.proofs.Math.Option.{Option, none, some}
use Rattle.definition.specs.Types.{Inst, Value, ValueSet, RegClass, VirtReg, ConstraintConflict, BlockparamIn, Use, Segment, Job, Room, Held, Own, Conflict, Piece, Register, State, Turned, NoStart, ValuesDiffer, NoneAdmitted, Stopped, Out, done, refused, val, point}
use Rattle.definition.specs.RegInfo.{set_of, top_of}
use Rattle.definition.specs.Uses.{is_class_use, param_of}
use Rattle.definition.specs.Cuts.{left_cut, right_cut}
use Rattle.definition.specs.Admit.{fresh, admit, Scan, through, fails_at, scan, Move, whole, turn, cut, halt, move, no_use}
use Rattle.definition.specs.Place.{◌>>=◌, place, uses_of, empty}

-- ---- turning

-- "A turned use stands in its own piece as kind 3, at the same place and instruction."
abbrev pub turned_use : Use → Use
turned_use u = record { pos = u.pos; kind = ConstraintConflict }

abbrev pub with_uses : List Use → Segment → Segment
with_uses us s = record { value = s.value; «from» = s.«from»; to = s.to; flags = s.flags; uses = us }

unfoldable pub turn_in : ℕ → List Use → List Use
turn_in n [] = []
turn_in zero (u ∷ us) = turned_use u ∷ us
turn_in (suc n) (u ∷ us) = u ∷ turn_in n us

-- the use at place n of all uses is turned
unfoldable pub turn_at : ℕ → List Segment → List Segment
unfolding turn_in
turn_at n [] = []
turn_at n (s ∷ ss) =
    elim (ltb n (length s.uses)) [ true ↦ with_uses (turn_in n s.uses) s ∷ ss | false ↦ s ∷ turn_at (n - length s.uses) ss ]

-- the block parameter where a list of uses began with a BlockparamIn at p
unfoldable pub param_at : Inst → List Use → Option ℕ
param_at p [] = none
param_at p (u ∷ us) = cond (eqb u.pos.0 p.0) (param_of u.kind) none

unfoldable pub turned_of : ℕ → Segment → Turned
unfolding param_at
turned_of n s = let u = get_or s.uses n no_use in record { value = s.value; use' = u; param = param_at u.pos s.uses }

-- what is kept of the use at place n, as its list stands when it is turned
unfoldable pub turned_at : ℕ → List Segment → Turned
unfolding turned_of
turned_at n [] = record { value = val 0; use' = no_use; param = none }
turned_at n (s ∷ ss) = elim (ltb n (length s.uses)) [ true ↦ turned_of n s | false ↦ turned_at (n - length s.uses) ss ]

-- ---- a part of the segments

abbrev pub as_own : List Segment → List Piece
as_own ss = map (λ s. record { origin = Own; seg = s }) ss

-- The part before a cut: its uses are all admitted (`front_admitted` in `proofs/Fuel.antt`), so the second clause never answers.
unfoldable pub place_scan : Job → Room → ValueSet → List Segment → State → Scan → Out State
unfolding place
place_scan job room set' ss st (through h) = place job room set' h (as_own ss) st
place_scan job room set' ss st (fails_at n) = refused (Stopped NoStart)

unfoldable pub place_front : Job → Room → ValueSet → RegClass → List Segment → State → Out State
unfolding scan fresh place_scan uses_of
place_front job room set' top ss st = place_scan job room set' ss st (scan job st (uses_of ss) (fresh top))

pub record Built : Type 0 where
  pub state : State
  pub turned : List Turned

-- One step: all is placed; or a use is turned "and the scan restarts"; or "a cut is made and the part before it is placed first", and `k` goes on:
-- "The part behind the cut is built by the same steps again."
unfoldable pub step : Job → Room → ValueSet → RegClass → State → List Segment → List Turned → (State → List Segment → List Turned → Out Built) → Move → Out Built
unfolding place turn_at turned_at place_front left_cut right_cut
step job room set' top st ss ts k (whole h) = place job room set' h (as_own ss) st >>= λ st'. done (record { state = st'; turned = ts })
step job room set' top st ss ts k (turn n) = k st (turn_at n ss) (ts ++ (turned_at n ss ∷ []))
step job room set' top st ss ts k (cut p) = place_front job room set' top (left_cut job.hints p ss) st >>= λ st'. k st' (right_cut job.hints p ss) ts
step job room set' top st ss ts k (halt s) = refused (Stopped s)

-- The first argument counts the steps that are left: with more than class uses, the clause for none left never answers (`run_step` in `proofs/Fuel.antt`).
unfoldable pub steps : ℕ → Job → Room → ValueSet → RegClass → State → List Segment → List Turned → Out Built
unfolding move step uses_of
steps zero job room set' top st ss ts = refused (Stopped NoStart)
steps (suc f) job room set' top st ss ts =
    step job room set' top st ss ts (λ st' ss' ts'. steps f job room set' top st' ss' ts') (move job st top (uses_of ss))

abbrev pub one : Bool → ℕ
one true = 1
one false = 0

-- "remaining class uses falling"
unfoldable pub class_uses : List Use → ℕ
class_uses [] = 0
class_uses (u ∷ us) = one (is_class_use u.kind) + class_uses us

-- ---- conflict registers

-- the last one first
abbrev pub last_first' : List Turned → List Turned
last_first' [] = []
last_first' (t ∷ ts) = t ∷ reverse ts

abbrev pub last_first : List Turned → List Turned
last_first ts = last_first' (reverse ts)

pub record Round : Type 0 where
  pub held : Held
  pub taken : List Turned
  pub left : List Turned

-- "the turned uses are tried in the order turned; one not admitted trades places with the last untried one". The first argument counts the tries that are left:
-- with as many as untried uses, the clause for none left meets no untried use (`try_step` in `proofs/Rounds.antt`).
unfoldable pub try : ℕ → Job → State → Held → List Turned → List Turned → List Turned → Round
unfolding admit
try zero job st h taken us left = record { held = h; taken = taken; left = left }
try (suc f) job st h taken [] left = record { held = h; taken = taken; left = left }
try (suc f) job st h taken (t ∷ us) left =
    elim (admit job st h t.use') [ some g ↦ try f job st g (taken ++ (t ∷ [])) us left | none ↦ try f job st h taken (last_first us) (t ∷ left) ]

-- "If the list of the first turned use began with a BlockparamIn at p, the piece begins with it too; else it is live-in." The first one is that of the run, and
-- its list is taken as it stood when that use was turned: all registers of a run begin alike, those of another run of the same instruction need not.
abbrev pub opening : Inst → Option ℕ → List Use
opening p none = []
opening p (some q) = record { pos = p; kind = BlockparamIn q } ∷ []

abbrev pub is_nothing : Option ℕ → Bool
is_nothing none = true
is_nothing (some q) = false

-- the uses as they were before they were turned
abbrev pub uses_turned : List Turned → List Use
uses_turned ts = map (λ t. t.use') ts

-- "A conflict piece covers [4p, 4p+2)."
unfoldable pub conflict_piece : Value → Inst → Option ℕ → List Turned → Piece
conflict_piece v p param ts = record {
  origin = Conflict;
  seg = record {
    value = v;
    «from» = point (4 * p.0);
    to = point (4 * p.0 + 2);
    flags = record { livein = is_nothing param; liveout = false; fixedhint = false; fixeddef = false };
    uses = opening p param ++ uses_turned ts;
  };
}

-- one register of a run of turned uses whose first one is t; a stop where "a round that admits none of the conflict uses left" comes
unfoldable pub place_round : Job → Room → ValueSet → Turned → State → Round → List Turned → (State → List Turned → Out State) → Out State
unfolding place conflict_piece
place_round job room set' t st r [] k = refused (Stopped NoneAdmitted)
place_round job room set' t st r (u ∷ us) k =
    place job room set' r.held (conflict_piece t.value t.use'.pos t.param (u ∷ us) ∷ []) st >>= λ st'. k st' r.left

-- "From the top class, the turned uses are tried"; "those left over start the next register". The first argument counts the rounds that are left:
-- with as many as uses, the clause for uses left and no round never answers (`rounds_step` in `proofs/Rounds.antt`).
unfoldable pub rounds : ℕ → Job → Room → ValueSet → RegClass → Turned → State → List Turned → Out State
unfolding try fresh place_round
rounds zero job room set' top t st [] = done st
rounds zero job room set' top t st (u ∷ us) = refused (Stopped NoneAdmitted)
rounds (suc f) job room set' top t st [] = done st
rounds (suc f) job room set' top t st (u ∷ us) =
    let r = try (length (u ∷ us)) job st (fresh top) [] (u ∷ us) [] in
    place_round job room set' t st r r.taken λ st' left. rounds f job room set' top t st' left

abbrev pub all_of : Value → List Turned → Bool
all_of v [] = true
all_of v (t ∷ ts) = eqb t.value.0 v.0 && all_of v ts

-- The conflict registers of a run: neighbours among the turned uses that are of one instruction. A stop where "conflict uses of one instruction differ in value",
-- judged over the run, before any register of it is placed: an instruction with two runs is judged twice, each run for itself.
unfoldable pub at_inst : Job → Room → ValueSet → RegClass → State → List Turned → Out State
unfolding rounds
at_inst job room set' top st [] = done st
at_inst job room set' top st (t ∷ ts) =
    cond (all_of t.value ts) (rounds (length (t ∷ ts)) job room set' top t st (t ∷ ts)) (refused (Stopped ValuesDiffer))

-- runs of neighbours that are alike
module _ {A : Type 0} (alike : A → A → Bool) where
  abbrev pub onto : A → List (List A) → List (List A)
  onto a [] = (a ∷ []) ∷ []
  onto a ([] ∷ cs) = (a ∷ []) ∷ cs
  onto a ((c ∷ cs) ∷ ds) = cond (alike a c) ((a ∷ c ∷ cs) ∷ ds) ((a ∷ []) ∷ (c ∷ cs) ∷ ds)

  unfoldable pub runs : List A → List (List A)
  runs [] = []
  runs (a ∷ rest) = onto a (runs rest)

abbrev pub same_inst : Turned → Turned → Bool
same_inst t u = eqb t.use'.pos.0 u.use'.pos.0

-- "Conflict registers come after the set's others, instruction by instruction."
unfoldable pub conflicts : Job → Room → ValueSet → RegClass → List (List Turned) → State → Out State
unfolding at_inst
conflicts job room set' top [] st = done st
conflicts job room set' top (c ∷ cs) st = at_inst job room set' top st c >>= λ st'. conflicts job room set' top cs st'

-- ---- a set and all sets

-- the class uses of a set and one step more are steps enough
unfoldable pub build_set : Job → Room → List Segment → State → Out State
unfolding steps class_uses uses_of set_of top_of conflicts runs
build_set job room [] st = done st
build_set job room (s ∷ ss) st =
    let set' = set_of job s.value in
    let top = top_of job s.value in
    steps (suc (class_uses (uses_of (s ∷ ss)))) job room set' top st (s ∷ ss) []
    >>= λ b. conflicts job room set' top (runs same_inst b.turned) b.state

unfoldable pub build_sets : Job → Room → List (List Segment) → State → Out State
unfolding build_set
build_sets job room [] st = done st
build_sets job room (ss ∷ rest) st = build_set job room ss st >>= λ st'. build_sets job room rest st'

abbrev pub same_set : Job → Segment → Segment → Bool
same_set job s t = eqb (set_of job s.value).0 (set_of job t.value).0

pub record Result : Type 0 where
  pub registers : List Register
  pub groups : List (List (Option VirtReg))

-- the result that a state leaves
abbrev pub result_of : State → Result
result_of st = record { registers = st.registers; groups = st.groups }

-- "It takes the value sets by rising number": what the rules define for a job that passes the entry rules
unfoldable pub build : Job → Room → Out Result
unfolding build_sets runs set_of
build job room =
    build_sets job room (runs (same_set job) job.segments) empty
    >>= λ st. done (result_of st)
