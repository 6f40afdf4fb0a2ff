-- live_range.rs: points, and the instructions that segments touch. Assumes nothing.
use Rattle.std.specs.Prelude.{ℕ, ◌+◌, ◌-◌, ◌*◌, ◌/◌, max, List, [], ◌∷◌}
use Rattle.definition.specs.declared.Slot.{Slot}
use Rattle.definition.specs.declared.Slot.TheVariants.{Boundary, Normal}
use Rattle.definition.specs.Types.{Inst, LiveRangePoint, Segment, point}

-- "A point is 4 × instruction + slot (0 Boundary, 1 Early, 2 Normal)."
abbrev pub slot_number : Slot → ℕ
slot_number Boundary = 0
slot_number Slot.Early = 1
slot_number Normal = 2

abbrev pub point_at : Inst → Slot → LiveRangePoint
point_at i s = point (4 * i.0 + slot_number s)

-- the instruction of a point
abbrev pub inst_of : LiveRangePoint → ℕ
inst_of q = q.0 / 4

-- a point rounded up to a Boundary, as the number of that instruction
abbrev pub next_inst : LiveRangePoint → ℕ
next_inst q = (q.0 + 3) / 4

-- "`live_insts` counts the different instructions that a sorted list touches": those below n are counted already. This is the Rust's sum;
-- `live_insts_counts` (`proofs/Touched.antt`) says that it is the count of the sentence.
unfoldable pub touched : ℕ → List Segment → ℕ
touched n [] = 0
touched n (s ∷ ss) = (next_inst s.to - max n (inst_of s.«from»)) + touched (next_inst s.to) ss

unfoldable pub live_insts : List Segment → ℕ
unfolding touched
live_insts ss = touched 0 ss
