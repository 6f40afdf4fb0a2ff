-- "Entry rules and the numbers given": numbers 2 to 7 on a job that was read, lowest first; the answer to a job; the cut finder. Assumes nothing.
use Rattle.std.specs.Prelude.{ℕ, ◌+◌, ◌*◌, ◌/◌, ◌%◌, ◌^◌, Bool, false, ◌&&◌, ◌||◌, cond, pos, leb, ltb, eqb, length, get_or, Float}
use Rattle.std.proofs.Math.Bool.{true, not}
use Rattle.std.proofs.Math.Option.{Option, none, some}
use mathlib.Core.List.{List, [], ◌∷◌}
use Rattle.std.specs.Float.{nan, inf, fin}
use Rattle.std.specs.Float.Ieee.{le}
use Rattle.definition.specs.Types.{Inst, Value, ValueGroup, RegClass, UseKind, FixedDef, FixedUse, TiedUse, ConstraintConflict, ClassUse, ClassDef, GroupClassUse, GroupClassDef, BlockparamIn, BlockparamOut, Use, BlockData, ClassData, ValueData, Operand, Hint, Segment, Job, Room, Side, Refusal, OverALimit, BadBook, BadFunction, BadHint, BadSegment, BadUse, Out, done, refused, inst, val}
use Rattle.definition.specs.Limits.{max_insts, max_blocks, max_values, max_vgroups, max_operands, max_hints, max_segments, max_uses, max_classes, max_banks, max_regs, max_adjust, max_group, slots, indices, words}
use Rattle.definition.specs.RegInfo.{class_at, set_of}
use Rattle.definition.specs.Uses.{end_point}
use Rattle.definition.specs.SplitPlacement.{early_cut, late_cut}
pub use Rattle.definition.specs.SplitPlacement.{side_of}
use Rattle.definition.specs.Hints.{as_key}
use Rattle.definition.specs.Place.{total}
use Rattle.definition.specs.Build.{Result, build}

-- ---- tests over tables

-- all of them pass
unfoldable pub conj : List Bool → Bool
conj [] = true
conj (b ∷ bs) = b && conj bs

module _ {A : Type 0} where
  unfoldable pub every : (A → Bool) → List A → Bool
  every f [] = true
  every f (x ∷ xs) = f x && every f xs

  -- each element and the next one
  unfoldable pub chained : (A → A → Bool) → List A → Bool
  chained f [] = true
  chained f (x ∷ []) = true
  chained f (x ∷ y ∷ ys) = f x y && chained f (y ∷ ys)

  unfoldable pub some_is : (A → Bool) → List A → Bool
  some_is f [] = false
  some_is f (x ∷ xs) = f x || some_is f xs

  -- no two are alike
  unfoldable pub apart : (A → A → Bool) → List A → Bool
  unfolding some_is
  apart f [] = true
  apart f (x ∷ xs) = not (some_is (f x) xs) && apart f xs

-- how many instructions the blocks have
unfoldable pub insts_of : List BlockData → ℕ
unfolding total
insts_of bs = total (λ b. b.insts) bs

unfoldable pub insts : Job → ℕ
unfolding insts_of
insts job = insts_of job.blocks

-- ---- 2: "a count or k above its limit"
abbrev pub limit_tests : Job → List Bool
limit_tests job =
    leb (insts job) max_insts ∷ leb (length job.blocks) max_blocks ∷ leb (length job.values) max_values ∷ leb (length job.vgroups) max_vgroups
    ∷ leb (length job.operands) max_operands ∷ leb (length job.hints) max_hints ∷ leb (length job.segments) max_segments
    ∷ leb (total (λ s. length s.uses) job.segments) max_uses ∷ leb (length job.classes) max_classes ∷ leb (length job.banks) max_banks
    ∷ leb (length job.memory) max_regs ∷ leb job.options.adjust max_adjust ∷ []

unfoldable pub limits_ok : Job → Bool
unfolding conj insts total
limits_ok job = conj (limit_tests job)

-- ---- 3: "unknown top class, value's bank or mask bit; bad cost, scale; group size not 1 to 8; class of size 2 or more with a subclass of another size"

-- "Every float is finite and not negative (no minus zero)"
abbrev pub plain : Float → Bool
plain nan = false
plain (inf s) = false
plain (fin s m e) = not s

-- "costs and scales at most 2^20"
unfoldable pub small : Float → Bool
unfolding le
small x = plain x && le x (fin false 1 (pos 20))

-- the classes of mask m, from number c on, have size n
unfoldable pub sized : ℕ → ℕ → List ClassData → Bool
sized m n [] = true
sized m n (c ∷ cs) = (eqb (m % 2) 0 || eqb c.size n) && sized (m / 2) n cs

abbrev pub class_tests : List ClassData → ClassData → List Bool
class_tests cs c =
    ltb c.mask (2 ^ length cs) ∷ small c.cost ∷ leb 1 c.size ∷ leb c.size max_group
    ∷ (ltb c.size 2 || sized c.mask c.size cs) ∷ []

unfoldable pub class_ok : List ClassData → ClassData → Bool
unfolding conj small sized
class_ok cs c = conj (class_tests cs c)

abbrev pub book_tests : Job → List Bool
book_tests job =
    every (λ t. ltb t.0 (length job.classes)) job.banks ∷ every (λ v. ltb v.bank.0 (length job.banks)) job.values
    ∷ every (class_ok job.classes) job.classes
    ∷ small job.options.cheaper_than_move ∷ small job.options.cheaper_than_load ∷ small job.options.indirect ∷ []

unfoldable pub book_ok : Job → Bool
unfolding conj every class_ok small
book_ok job = conj (book_tests job)

-- ---- 4: "block empty or of bad frequency; leader not leading itself; vgroup not 2 to 8 known values; operand twice, out of range, or class size not the vgroup's"

unfoldable pub block_ok : BlockData → Bool
block_ok b = leb 1 b.insts && plain b.frequency

unfoldable pub leader_ok : Job → ValueData → Bool
unfolding set_of
leader_ok job v = ltb v.leader.0 (length job.values) && eqb (set_of job v.leader).0 v.leader.0

abbrev pub vgroup_tests : Job → List Value → List Bool
vgroup_tests job ms =
    leb 2 (length ms) ∷ leb (length ms) max_group ∷ every (λ v. ltb v.0 (length job.values)) ms ∷ []

unfoldable pub vgroup_ok : Job → List Value → Bool
unfolding conj every
vgroup_ok job ms = conj (vgroup_tests job ms)

unfoldable pub vgroup_values : Job → ValueGroup → List Value
vgroup_values job g = get_or job.vgroups g.0 []

abbrev pub operand_tests : Job → Operand → List Bool
operand_tests job o =
    ltb o.inst.0 (insts job) ∷ ltb o.slot slots ∷ ltb o.vgroup.0 (length job.vgroups) ∷ ltb o.class.0 (length job.classes)
    ∷ eqb (class_at job o.class).size (length (vgroup_values job o.vgroup)) ∷ []

unfoldable pub operand_ok : Job → Operand → Bool
unfolding conj insts vgroup_values class_at
operand_ok job o = conj (operand_tests job o)

abbrev pub same_place : Operand → Operand → Bool
same_place o r = eqb o.inst.0 r.inst.0 && eqb o.slot r.slot

abbrev pub function_tests : Job → List Bool
function_tests job =
    every block_ok job.blocks ∷ every (leader_ok job) job.values ∷ every (vgroup_ok job) job.vgroups
    ∷ every (operand_ok job) job.operands ∷ apart same_place job.operands ∷ []

unfoldable pub function_ok : Job → Bool
unfolding conj every block_ok leader_ok vgroup_ok operand_ok apart
function_ok job = conj (function_tests job)

-- ---- 5: "hint's value unknown, instruction above the count; keys falling"

abbrev pub not_after : Hint → Hint → Bool
not_after h k = ltb h.value.0 k.value.0 || (eqb h.value.0 k.value.0 && leb (as_key h) (as_key k))

unfoldable pub hints_ok : Job → Bool
unfolding every chained insts
hints_ok job = every (λ h. ltb h.value.0 (length job.values) && leb h.inst.0 (insts job)) job.hints && chained not_after job.hints

-- ---- 6: "segment empty, of no value, slot 3, past the last instruction, overlapping or unsorted in its set; sets not rising"

abbrev pub segment_tests : Job → Segment → List Bool
segment_tests job s =
    ltb s.«from».0 s.to.0 ∷ ltb s.value.0 (length job.values) ∷ ltb (s.«from».0 % 4) 3 ∷ ltb (s.to.0 % 4) 3 ∷ leb s.to.0 (4 * insts job) ∷ []

unfoldable pub segment_ok : Job → Segment → Bool
unfolding conj insts
segment_ok job s = conj (segment_tests job s)

-- the sets rise, and in one set the segments are sorted and do not overlap
unfoldable pub in_order : Job → Segment → Segment → Bool
unfolding set_of
in_order job s t =
    ltb (set_of job s.value).0 (set_of job t.value).0
    || (eqb (set_of job s.value).0 (set_of job t.value).0 && leb s.to.0 t.«from».0)

unfoldable pub segments_ok : Job → Bool
unfolding every chained segment_ok in_order
segments_ok job = every (segment_ok job) job.segments && chained (in_order job) job.segments

-- ---- 7: "use falling in position, unknown instruction, class or register, field beyond its UseKind type, kind 3; `from` not below the next Boundary, or `end_point` above `to`;
-- group use without its operand, of another class, or whose index has no member or another value"

-- the operand of a group use is there, of this class, and its group has value v at place i
abbrev pub group_use_tests : Job → Value → Inst → ℕ → RegClass → ℕ → Operand → List Bool
group_use_tests job v p s c i o =
    eqb o.inst.0 p.0 ∷ eqb o.slot s ∷ eqb o.class.0 c.0 ∷ ltb i (length (vgroup_values job o.vgroup))
    ∷ eqb (get_or (vgroup_values job o.vgroup) i (val 0)).0 v.0 ∷ []

unfoldable pub group_use_ok : Job → Value → Inst → ℕ → RegClass → ℕ → Bool
unfolding some_is conj vgroup_values
group_use_ok job v p s c i =
    some_is (λ o. conj (group_use_tests job v p s c i o)) job.operands

unfoldable pub kind_ok : Job → Value → Inst → UseKind → Bool
unfolding group_use_ok
kind_ok job v p (FixedDef r) = ltb r.0 (length job.memory)
kind_ok job v p (FixedUse r) = ltb r.0 (length job.memory)
kind_ok job v p (TiedUse u d c i) = ltb u slots && ltb d slots && ltb c.0 (length job.classes) && ltb i indices
kind_ok job v p ConstraintConflict = false
kind_ok job v p (ClassUse s c) = ltb s slots && ltb c.0 (length job.classes)
kind_ok job v p (ClassDef s c) = ltb s slots && ltb c.0 (length job.classes)
kind_ok job v p (GroupClassUse s c i) = group_use_ok job v p s c i
kind_ok job v p (GroupClassDef s c i) = group_use_ok job v p s c i
kind_ok job v p (BlockparamIn q) = ltb q words
kind_ok job v p BlockparamOut = true

abbrev pub use_tests : Job → Segment → Use → List Bool
use_tests job s u =
    ltb u.pos.0 (insts job) ∷ kind_ok job s.value u.pos u.kind ∷ ltb s.«from».0 (4 * u.pos.0 + 4) ∷ leb (end_point u).0 s.to.0 ∷ []

unfoldable pub use_ok : Job → Segment → Use → Bool
unfolding conj insts kind_ok end_point
use_ok job s u = conj (use_tests job s u)

unfoldable pub uses_ok : Job → Segment → Bool
unfolding every chained use_ok
uses_ok job s = every (use_ok job s) s.uses && chained (λ u w. leb u.pos.0 w.pos.0) s.uses

-- ---- "Tests 1 to 7 go by number, lowest first"

unfoldable pub lowest_of : List (Bool × Refusal) → Option Refusal
lowest_of [] = none
lowest_of (t ∷ ts) = let r = lowest_of ts in cond t.0 r (some t.1)

abbrev pub entry_tests : Job → List (Bool × Refusal)
entry_tests job =
    (limits_ok job, OverALimit) ∷ (book_ok job, BadBook) ∷ (function_ok job, BadFunction) ∷ (hints_ok job, BadHint)
    ∷ (segments_ok job, BadSegment) ∷ (every (uses_ok job) job.segments, BadUse) ∷ []

unfoldable pub entry : Job → Option Refusal
unfolding lowest_of limits_ok book_ok function_ok hints_ok segments_ok every uses_ok
entry job = lowest_of (entry_tests job)

unfoldable pub answer_to : Option Refusal → Job → Room → Out Result
unfolding build
answer_to (some r) job room = refused r
answer_to none job room = build job room

-- "A job is accepted if the rules give it no number; its result is the one they define."
unfoldable pub answer : Job → Room → Out Result
unfolding entry answer_to
answer job room = answer_to (entry job) job room

-- ---- the cut finder. "Public, over blocks, both ends and a side." A count above its limit is 2; a block empty or of bad frequency, or
-- "cut ends not `after` < `before` < instructions", is 4. (A side off its list, 1, is no `Side`.)

abbrev pub cut_tests : List BlockData → Inst → Inst → List (Bool × Refusal)
cut_tests bs after before =
    (leb (length bs) max_blocks && leb (insts_of bs) max_insts, OverALimit)
    ∷ (every block_ok bs && (ltb after.0 before.0 && ltb before.0 (insts_of bs)), BadFunction) ∷ []

unfoldable pub cut_to : Option Refusal → List BlockData → Inst → Inst → Side → Out Inst
unfolding early_cut late_cut
cut_to (some r) bs after before side = refused r
cut_to none bs after before side = done (inst (side_of side bs after.0 before.0))

unfoldable pub find_cut : List BlockData → Inst → Inst → Side → Out Inst
unfolding lowest_of insts_of every block_ok cut_to
find_cut bs after before side = cut_to (lowest_of (cut_tests bs after before)) bs after before side
