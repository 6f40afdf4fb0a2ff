-- The marked cases A to J: one table, one lemma, computed. Behind them jobs for what none of the marked ones shows. Assumes nothing.
use Prim.Native.Nat.{ℕ, ◌/◌, ◌%◌}
use mathlib.Core.Path.{◌≡◌, refl}
use mathlib.Core.Bool.{Bool, true, false, cond}
use mathlib.Core.Option.{Option, none, some}
use mathlib.Core.List.{List, [], ◌∷◌, map}
use lib.Dec.{eqb}
use lib.Ieee.{Float, binary32, of_bits}
use Rattle.definition.specs.Types.{BadBook, BadFunction, BadHint, BadSegment, BadUse, BlockData, BlockparamOut, ClassData, ClassDef, ClassUse, Conflict, ConstraintConflict, Early, GroupClassUse, Inst, Job, Late, Never, NoStart, NoneAdmitted, Operand, Out, OverALimit, Own, Piece, Register, Segment, Side, Stop, Stopped, TurnedDef, Use, UseFlags, UseKind, Value, ValueData, VirtReg, VirtRegGroup, cls, done, inst, point, refused, val, vreg, vrgroup, vset}
use Rattle.definition.specs.Limits.{vregs_room}
use Rattle.definition.specs.LiveRange.{live_insts}
use Rattle.definition.specs.Build.{Result}
use Rattle.definition.specs.Entry.{answer, find_cut}
use Rattle.definition.specs.Lines.{Line, end_line_lem, printed, seg_line_lem, use_line_lem, vreg_line_lem}
use Rattle.definition.specs.Promised.{added_in, by_first, own_of, valued}

-- ---- records as the sheets write them

f32 : ℕ → Float
unfolding of_bits
f32 b = of_bits binary32 b

one : Float
unfolding f32
one = f32 0x3f800000

abbrev is_one : ℕ → Bool
is_one n = eqb n 1

flags_of : ℕ → UseFlags
flags_of n = record { livein = is_one (n % 2); liveout = is_one (n / 2 % 2); fixedhint = is_one (n / 4 % 2); fixeddef = is_one (n / 8 % 2) }

-- a class of cost 1 without spillslots: its mask and its size
sized : ℕ → ℕ → ClassData
unfolding one
sized m n = record { mask = m; cost = one; size = n; spillslots = false }

-- a class of size 1: its mask and its cost
costing : ℕ → ℕ → ClassData
unfolding f32
costing m c = record { mask = m; cost = f32 c; size = 1; spillslots = false }

class : ℕ → ClassData
unfolding sized
class m = sized m 1

block : ℕ → ℕ → BlockData
unfolding f32
block n f = record { insts = n; frequency = f32 f }

-- a value of bank 0 that is led by value n
led : ℕ → ValueData
led n = record { bank = record { 0 = 0 }; leader = val n; remat = Never }

operand : ℕ → ℕ → ℕ → Operand
operand p g c = record { inst = inst p; slot = 0; vgroup = record { 0 = g }; class = cls c }

use' : ℕ → UseKind → Use
use' p k = record { pos = inst p; kind = k }

-- class uses at slot s and definitions, and group uses at slot 0, by the number of their class
uses : ℕ → ℕ → ℕ → Use
unfolding use'
uses p s c = use' p (ClassUse s (cls c))

defines : ℕ → ℕ → Use
unfolding use'
defines p c = use' p (ClassDef 0 (cls c))

group_use : ℕ → ℕ → ℕ → Use
unfolding use'
group_use p c i = use' p (GroupClassUse 0 (cls c) i)

mark : ℕ → Use
unfolding use'
mark p = use' p ConstraintConflict

seg : ℕ → ℕ → ℕ → ℕ → List Use → Segment
unfolding flags_of
seg v a b f us = record { value = val v; «from» = point a; to = point b; flags = flags_of f; uses = us }

register : ℕ → ℕ → ℕ → Option VirtRegGroup → ℕ → List Piece → Register
unfolding f32
register s c w g i ps = record { set = vset s; class = cls c; weight = f32 w; group = g; index = i; pieces = ps }

-- a register of set 0 in no group: its class, its weight, its pieces
plain : ℕ → ℕ → List Piece → Register
unfolding register
plain c w ps = register 0 c w none 0 ps

-- a register in group g
member : ℕ → ℕ → ℕ → ℕ → ℕ → List Piece → Register
unfolding register
member s c w g i ps = register s c w (some (vrgroup g)) i ps

own : Segment → Piece
own s = record { origin = Own; seg = s }

added : Segment → Piece
added s = record { origin = Conflict; seg = s }

-- a job with one bank, whose top class is 0
job : List ClassData → List BlockData → List ValueData → List (List Value) → List Operand → List Segment → Job
unfolding one
job cs bs vs gs os ss = record {
  options = record { adjust = 0; cheaper_than_move = one; cheaper_than_load = one; indirect = one };
  banks = cls 0 ∷ [];
  classes = cs;
  memory = [];
  blocks = bs;
  values = vs;
  vgroups = gs;
  operands = os;
  hints = [];
  segments = ss;
}

blocks_a : List BlockData
unfolding block
blocks_a = block 2 0x3f800000 ∷ block 2 0x3f000000 ∷ []

-- a job of one value in A's blocks
single : List ClassData → List Segment → Job
unfolding job blocks_a led
single cs ss = job cs blocks_a (led 0 ∷ []) [] [] ss

book_a : List ClassData
unfolding class
book_a = class 7 ∷ class 2 ∷ class 4 ∷ []

accept : List Register → List (List (Option VirtReg)) → Out Result
accept rs gs = done (record { registers = rs; groups = gs })

stop : Stop → Out Result
stop s = refused (Stopped s)

-- ---- the marked cases: one table, one lemma

case_a : Job
unfolding single book_a seg uses defines
case_a = single book_a (seg 0 2 14 0 (defines 0 1 ∷ uses 3 0 2 ∷ []) ∷ [])

case_e : Job
unfolding single book_a seg uses
case_e = single book_a (seg 0 0 6 1 (uses 1 0 1 ∷ uses 1 1 2 ∷ []) ∷ [])

blocks_f : List BlockData
unfolding block
blocks_f = block 4 0x40400000 ∷ block 4 0x40000000 ∷ block 4 0x40000000 ∷ []

blocks_g : List BlockData
unfolding block
blocks_g = block 4 0x40400000 ∷ block 4 0x40000000 ∷ block 4 0x3f800000 ∷ []

-- what a marked case asks: the answer to a job, a cut, or the instructions that segments touch
data Question : Type 0 where
  answer_to : Job → Question
  cut_in : List BlockData → (after before : ℕ) → Side → Question
  insts_of : List Segment → Question

data Reply : Type 0 where
  answered : Out Result → Reply
  cut_at : Out Inst → Reply
  counted : ℕ → Reply

reply : Question → Reply
unfolding answer find_cut live_insts
reply (answer_to j) = answered (answer j vregs_room)
reply (cut_in bs after before side) = cut_at (find_cut bs (inst after) (inst before) side)
reply (insts_of ss) = counted (live_insts ss)

marked : List (Question × Reply)
unfolding case_a case_e single book_a blocks_f blocks_g class seg uses defines mark plain own added accept stop
marked =
    -- A
    (answer_to case_a, answered (accept (plain 1 0x3f000000 (own (seg 0 2 8 2 (defines 0 1 ∷ [])) ∷ []) ∷ plain 2 0x3e800000 (own (seg 0 8 14 1 (uses 3 0 2 ∷ [])) ∷ []) ∷ []) []))
    -- B, C: the class shares nothing with the top
    ∷ (answer_to (single (class 3 ∷ class 2 ∷ class 4 ∷ []) (seg 0 0 6 0 (uses 1 0 2 ∷ []) ∷ [])), answered (stop NoneAdmitted))
    ∷ (answer_to (single (class 3 ∷ class 2 ∷ class 4 ∷ []) (seg 0 2 6 0 (defines 0 2 ∷ []) ∷ [])), answered (stop TurnedDef))
    -- D: forward the first use leaves class 1, which shares nothing with class 4; backward class 2 serves both, so there is no start
    ∷ (answer_to (single (class 0x1f ∷ class 2 ∷ class 4 ∷ class 0xe ∷ class 0x14 ∷ []) (seg 0 0 14 0 (uses 1 0 3 ∷ uses 3 0 4 ∷ []) ∷ [])), answered (stop NoStart))
    -- E: two uses of one instruction
    ∷ (
      answer_to case_e,
      answered (accept (plain 1 0x3f400000 (own (seg 0 0 6 1 (uses 1 0 1 ∷ mark 1 ∷ [])) ∷ []) ∷ plain 2 0x7f800000 (added (seg 0 4 6 1 (uses 1 1 2 ∷ [])) ∷ []) ∷ []) []),
    )
    -- F: frequencies 3, 2, 2; early and late
    ∷ (cut_in blocks_f 1 10 Early, cut_at (done (inst 4)))
    ∷ (cut_in blocks_f 1 10 Late, cut_at (done (inst 10)))
    -- G: a cheaper block at `before`; and ends that are refused
    ∷ (cut_in blocks_g 1 8 Early, cut_at (done (inst 8)))
    ∷ (cut_in blocks_g 8 8 Early, cut_at (refused BadFunction))
    ∷ (cut_in blocks_g 8 12 Early, cut_at (refused BadFunction))
    -- H: [2,4),[4,6) and [0,1),[1,2)
    ∷ (insts_of (seg 0 2 4 0 [] ∷ seg 0 4 6 0 [] ∷ []), counted 2)
    ∷ (insts_of (seg 0 0 1 0 [] ∷ seg 0 1 2 0 [] ∷ []), counted 1)
    -- I: [0,8) and [0,4)
    ∷ (answer_to (single book_a (seg 0 0 8 2 (uses 0 0 1 ∷ []) ∷ [])), answered (accept (plain 1 0x3f000000 (own (seg 0 0 8 2 (uses 0 0 1 ∷ [])) ∷ []) ∷ []) []))
    ∷ (answer_to (single book_a (seg 0 0 4 2 (uses 0 0 1 ∷ []) ∷ [])), answered (accept (plain 1 0x7f800000 (own (seg 0 0 4 2 (uses 0 0 1 ∷ [])) ∷ []) ∷ []) []))
    -- J: no segments
    ∷ (answer_to (single book_a []), answered (accept [] []))
    ∷ []

marked_hold : map (λ c. reply c.0) marked ≡ map (λ c. c.1) marked
unfolding reply marked
marked_hold = refl

-- ---- the side of a cut, change request 7: class 1 is held forwards, and class 2 backwards

-- a book of three classes like A's, with the costs of classes 1 and 2
leaning : ℕ → ℕ → List ClassData
unfolding class costing
leaning c d = class 7 ∷ costing 2 c ∷ costing 4 d ∷ []

-- A's value in A's blocks
like_a : List ClassData → Job
unfolding single seg uses defines
like_a cs = single cs (seg 0 2 14 0 (defines 0 1 ∷ uses 3 0 2 ∷ []) ∷ [])

-- the same with a failing use of class 3, whose lowest class in common with the top is class 2
like_a₃ : Job
unfolding single seg uses defines class costing
like_a₃ =
    single (class 15 ∷ costing 2 0x3f000000 ∷ class 4 ∷ costing 12 0x3e800000 ∷ [])
    (seg 0 2 14 0 (defines 0 1 ∷ uses 3 0 3 ∷ []) ∷ [])

-- three blocks, the middle one of half the frequency; it ends at instruction 4
blocks_k : List BlockData
unfolding block
blocks_k = block 2 0x3f800000 ∷ block 2 0x3f000000 ∷ block 2 0x3f800000 ∷ []

across_k : List ClassData → Job
unfolding job blocks_k led seg uses defines
across_k cs = job cs blocks_k (led 0 ∷ []) [] [] (seg 0 2 22 0 (defines 0 1 ∷ uses 5 0 2 ∷ []) ∷ [])

-- the registers of two pieces, parted at a point: the first one's class use defines at 0, the second one's is the other
parted_at : ℕ → ℕ → ℕ → ℕ → Use → List Register
unfolding plain own seg defines
parted_at at end w x u =
    plain 1 w (own (seg 0 2 at 2 (defines 0 1 ∷ [])) ∷ []) ∷ plain 2 x (own (seg 0 at end 1 (u ∷ [])) ∷ []) ∷ []

sides : List (Job × Out Result)
unfolding leaning like_a like_a₃ across_k parted_at accept uses
sides =
    -- A with class 1's cost halved: the end's class costs more, and the cut is late, at 12
    (like_a (leaning 0x3f000000 0x3f800000), accept (parted_at 12 14 0x3e2aaaab 0x7f800000 (uses 3 0 2)) [])
    -- with class 2's halved instead: early, at 8
    ∷ (like_a (leaning 0x3f800000 0x3f000000), accept (parted_at 8 14 0x3f000000 0x3e000000 (uses 3 0 2)) [])
    -- late at the end of a block that costs less than the end's: 16, where the early rule has 8
    ∷ (across_k (leaning 0x3f000000 0x3f800000), accept (parted_at 16 22 0x3e000000 0x3f000000 (uses 5 0 2)) [])
    -- equal costs: early
    ∷ (across_k (leaning 0x3f000000 0x3f000000), accept (parted_at 8 22 0x3e800000 0x3e000000 (uses 5 0 2)) [])
    -- Classes held are compared, not those of the uses: the failing use is of class 3, which costs least, and class 2
    -- is held, which costs most.
    ∷ (like_a₃, accept (parted_at 12 14 0x3e2aaaab 0x7f800000 (uses 3 0 3)) [])
    ∷ []

sides_hold : map (λ c. answer c.0 vregs_room) sides ≡ map (λ c. c.1) sides
unfolding answer sides
sides_hold = refl

-- ---- traps that A to J do not show

-- Value 1 is cut behind its first group use and before its second, whose operand is mapped to the group with the register of its first piece, of class 2.
-- That register is merged into: its class and the top have class 2 in common. The use's own class 3 and the top have class 1, which shares nothing with class 2.
merged : Job
unfolding job sized class block led operand seg uses group_use
merged =
    job (class 0x1f ∷ sized 2 2 ∷ sized 4 2 ∷ sized 0xe 2 ∷ class 0x10 ∷ []) (block 5 0x3f800000 ∷ []) (led 0 ∷ led 1 ∷ []) ((val 0 ∷ val 1 ∷ []) ∷ [])
    (operand 1 0 2 ∷ operand 3 0 3 ∷ [])
    (seg 0 0 16 0 (group_use 1 2 0 ∷ group_use 3 3 0 ∷ []) ∷ seg 1 0 16 0 (group_use 1 2 1 ∷ uses 2 0 4 ∷ group_use 3 3 1 ∷ []) ∷ [])

-- Two vgroups whose value sets differ at place 1: value 0 is cut between its group uses, so values 1 and 2, of two sets, go into two groups.
-- Were the value sets not compared, value 2's piece would be merged into value 1's register.
differ : Job
unfolding job sized class block led operand seg group_use
differ =
    job (class 3 ∷ sized 2 2 ∷ []) (block 5 0x3f800000 ∷ []) (led 0 ∷ led 1 ∷ led 2 ∷ []) ((val 0 ∷ val 1 ∷ []) ∷ (val 0 ∷ val 2 ∷ []) ∷ [])
    (operand 1 0 1 ∷ operand 3 1 1 ∷ [])
    (seg 0 0 16 0 (group_use 1 1 0 ∷ group_use 3 1 0 ∷ []) ∷ seg 1 4 8 0 (group_use 1 1 1 ∷ []) ∷ seg 2 12 16 0 (group_use 3 1 1 ∷ []) ∷ [])

traps : List (Job × Out Result)
unfolding merged differ accept register member own seg uses group_use
traps = (
  merged,
  accept (member 0 2 0x3f000000 0 0 (own (seg 0 0 16 0 (group_use 1 2 0 ∷ group_use 3 3 0 ∷ [])) ∷ [])
      ∷ member 1 2 0x3f000000 0 1 (own (seg 1 0 8 2 (group_use 1 2 1 ∷ [])) ∷ own (seg 1 12 16 1 (group_use 3 3 1 ∷ [])) ∷ [])
      ∷ register 1 4 0x7f800000 none 0 (own (seg 1 8 12 3 (uses 2 0 4 ∷ [])) ∷ []) ∷ [])
      ((some (vreg 0) ∷ some (vreg 1) ∷ []) ∷ []),
)
    ∷ (
      differ,
      accept (member 0 1 0x3f000000 0 0 (own (seg 0 0 8 2 (group_use 1 1 0 ∷ [])) ∷ [])
          ∷ member 0 1 0x3f000000 1 0 (own (seg 0 8 16 1 (group_use 3 1 0 ∷ [])) ∷ [])
          ∷ member 1 1 0x3f000000 0 1 (own (seg 1 4 8 0 (group_use 1 1 1 ∷ [])) ∷ [])
          ∷ member 2 1 0x3f000000 1 1 (own (seg 2 12 16 0 (group_use 3 1 1 ∷ [])) ∷ []) ∷ [])
          ((some (vreg 0) ∷ some (vreg 2) ∷ []) ∷ (some (vreg 1) ∷ some (vreg 3) ∷ []) ∷ []),
    )
    ∷ []

traps_hold : map (λ c. answer c.0 vregs_room) traps ≡ map (λ c. c.1) traps
unfolding answer traps
traps_hold = refl

-- ---- "Tests 1 to 7 go by number, lowest first"

-- a job that breaks rule n where the n-th entry is `true`: k above its limit; an unknown top class; a leader that does not lead itself;
-- a hint past the last instruction; an empty segment; a use of kind 3
wrong : Bool → Bool → Bool → Bool → Bool → Bool → Job
unfolding one class block led use' seg
wrong limit book function hint segment kind = record {
  options = record { adjust = cond limit 65536 0; cheaper_than_move = one; cheaper_than_load = one; indirect = one };
  banks = cls (cond book 3 0) ∷ [];
  classes = class 1 ∷ [];
  memory = [];
  blocks = block 2 0x3f800000 ∷ [];
  values = led (cond function 1 0) ∷ [];
  vgroups = [];
  operands = [];
  hints = record { value = val 0; inst = inst (cond hint 3 1); incoming = true } ∷ [];
  segments = seg 0 0 (cond segment 0 8) 0 (use' 0 (cond kind ConstraintConflict BlockparamOut) ∷ []) ∷ [];
}

orders : List (Job × Out Result)
unfolding wrong accept plain own seg use'
orders =
    (wrong true true true true true true, refused OverALimit)
    ∷ (wrong false true true true true true, refused BadBook)
    ∷ (wrong false false true true true true, refused BadFunction)
    ∷ (wrong false false false true true true, refused BadHint)
    ∷ (wrong false false false false true true, refused BadSegment)
    ∷ (wrong false false false false false true, refused BadUse)
    ∷ (wrong false false false false false false, accept (plain 0 0 (own (seg 0 0 8 0 (use' 0 BlockparamOut ∷ [])) ∷ []) ∷ []) [])
    ∷ []

orders_hold : map (λ c. answer c.0 vregs_room) orders ≡ map (λ c. c.1) orders
unfolding answer orders
orders_hold = refl

-- ---- the words of the promises on A and E: A's lines; E's own pieces in order, with the second use marked in its place, and its conflict piece

registers_of : Out Result → List Register
registers_of (done r) = r.registers
registers_of (refused r) = []

lines_of : Out Result → List Line
lines_of (done r) = printed r
lines_of (refused r) = []

a_printed : lines_of (answer case_a vregs_room)
    ≡ vreg_line_lem 0 (vset 0) (cls 1) 0x3f000000 none 0 false ∷ seg_line_lem (val 0) (point 2) (point 8) (flags_of 2) Own ∷ use_line_lem (defines 0 1)
    ∷ vreg_line_lem 1 (vset 0) (cls 2) 0x3e800000 none 0 false ∷ seg_line_lem (val 0) (point 8) (point 14) (flags_of 1) Own ∷ use_line_lem (uses 3 0 2) ∷ end_line_lem 2 0 ∷ []
unfolding answer lines_of printed case_a flags_of uses defines
a_printed = refl

e_order : valued (by_first (own_of (vset 0) (registers_of (answer case_e vregs_room)))) ≡ (val 0, uses 1 0 1) ∷ (val 0, mark 1) ∷ []
unfolding answer registers_of valued by_first own_of case_e uses mark
e_order = refl

e_turned : valued (added_in (registers_of (answer case_e vregs_room))) ≡ (val 0, uses 1 1 2) ∷ []
unfolding answer registers_of valued added_in case_e uses
e_turned = refl
