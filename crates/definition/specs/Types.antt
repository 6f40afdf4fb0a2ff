-- The data of document 01: the job, what a register under construction holds, the result, the answer.
-- Indices, uses and the records that code passes by value are the types that `src/` declares; here stand the nested records over them.
-- Floats are values of `lib.Ieee`; a sheet's eight digits are their bits. Assumes nothing.
use Rattle.std.specs.Prelude.{ℕ, Bool, List, Float}
use Rattle.std.proofs.Math.Option.{Option}
pub use Rattle.definition.specs.declared.Inst.{Inst}
pub use Rattle.definition.specs.declared.Value.{Value}
pub use Rattle.definition.specs.declared.ValueGroup.{ValueGroup}
pub use Rattle.definition.specs.declared.ValueSet.{ValueSet}
pub use Rattle.definition.specs.declared.RegBank.{RegBank}
pub use Rattle.definition.specs.declared.RegClass.{RegClass}
pub use Rattle.definition.specs.declared.PhysReg.{PhysReg}
pub use Rattle.definition.specs.declared.VirtReg.{VirtReg}
pub use Rattle.definition.specs.declared.VirtRegGroup.{VirtRegGroup}
pub use Rattle.definition.specs.declared.LiveRangePoint.{LiveRangePoint}
pub use Rattle.definition.specs.declared.UseKind.{UseKind}
pub use Rattle.definition.specs.declared.UseKind.TheVariants.{FixedDef, FixedUse, TiedUse, ConstraintConflict, ClassUse, ClassDef, GroupClassUse, GroupClassDef, BlockparamIn, BlockparamOut}
pub use Rattle.definition.specs.declared.Use.{Use}
pub use Rattle.definition.specs.declared.UseFlags.{UseFlags}
pub use Rattle.definition.specs.declared.Options.{Options}
pub use Rattle.definition.specs.declared.BlockData.{BlockData}
pub use Rattle.definition.specs.declared.ClassData.{ClassData}
pub use Rattle.definition.specs.declared.Remat.{Remat}
pub use Rattle.definition.specs.declared.Remat.TheVariants.{Never, CheaperThanMove, CheaperThanLoad, Indirect}
pub use Rattle.definition.specs.declared.ValueData.{ValueData}
pub use Rattle.definition.specs.declared.Operand.{Operand}
pub use Rattle.definition.specs.declared.Hint.{Hint}
pub use Rattle.definition.specs.declared.Origin.{Origin}
pub use Rattle.definition.specs.declared.Origin.TheVariants.{Own, Conflict}
pub use Rattle.definition.specs.declared.Side.{Side}
pub use Rattle.definition.specs.declared.Side.TheVariants.{Early, Late}
pub use Rattle.definition.specs.declared.Stop.{Stop}
pub use Rattle.definition.specs.declared.Stop.TheVariants.{NoStart, TurnedDef, ValuesDiffer, MappedTwice, Overlap, NoneAdmitted}
pub use Rattle.definition.specs.declared.Refusal.{Refusal}
pub use Rattle.definition.specs.declared.Refusal.TheVariants.{NotARecord, OverALimit, BadBook, BadFunction, BadHint, BadSegment, BadUse, Stopped, Full}

-- ---- an index of each kind from its number

abbrev pub inst : ℕ → Inst
inst n = record { 0 = n }

abbrev pub val : ℕ → Value
val n = record { 0 = n }

abbrev pub vset : ℕ → ValueSet
vset n = record { 0 = n }

abbrev pub cls : ℕ → RegClass
cls n = record { 0 = n }

abbrev pub vreg : ℕ → VirtReg
vreg n = record { 0 = n }

abbrev pub vrgroup : ℕ → VirtRegGroup
vrgroup n = record { 0 = n }

abbrev pub point : ℕ → LiveRangePoint
point n = record { 0 = n }

-- ---- the job: "The register book is bank, class and reg; the function, block to operand; the options, opt."

-- "seg (value, from, to, flags), each followed by its use lines"
pub record Segment : Type 0 where
  pub value : Value
  pub «from» : LiveRangePoint
  pub to : LiveRangePoint
  pub flags : UseFlags
  pub uses : List Use

-- Each list is the records of one kind, in order; an index is a place in it. `memory` has an entry for each reg record.
pub record Job : Type 0 where
  pub options : Options
  pub banks : List RegClass
  pub classes : List ClassData
  pub memory : List Bool
  pub blocks : List BlockData
  pub values : List ValueData
  pub vgroups : List (List Value)
  pub operands : List Operand
  pub hints : List Hint
  pub segments : List Segment

-- how many entries the lent result tables hold
pub record Room : Type 0 where
  pub registers : ℕ
  pub segments : ℕ
  pub uses : ℕ
  pub groups : ℕ

-- ---- what a register under construction holds ("the class held", "the group index held", "a mapping held before")

pub record HeldGroup : Type 0 where
  pub index : ℕ
  pub mapped : Option VirtRegGroup
  pub sets : List ValueSet

pub record Held : Type 0 where
  pub class : RegClass
  pub group : Option HeldGroup
  pub target : Option VirtReg

-- ---- the result

pub record Piece : Type 0 where
  pub origin : Origin
  pub seg : Segment

pub record Register : Type 0 where
  pub set : ValueSet
  pub class : RegClass
  pub weight : Float
  pub group : Option VirtRegGroup
  pub index : ℕ
  pub pieces : List Piece

pub record Mapped : Type 0 where
  pub inst : Inst
  pub slot : ℕ
  pub group : VirtRegGroup

pub record State : Type 0 where
  pub registers : List Register
  pub groups : List (List (Option VirtReg))
  pub mapping : List Mapped

-- a turned use: the value it is a use of, the use as it was, and the block parameter that its list began with at its instruction
pub record Turned : Type 0 where
  pub value : Value
  pub use' : Use
  pub param : Option ℕ

-- ---- the answer

-- "Entry rules and the numbers given": the table's number for each cause
abbrev pub number_of : Refusal → ℕ
number_of NotARecord = 1
number_of OverALimit = 2
number_of BadBook = 3
number_of BadFunction = 4
number_of BadHint = 5
number_of BadSegment = 6
number_of BadUse = 7
number_of (Stopped s) = 8
number_of Full = 9

-- a step's answer: what it makes, or the refusal that ends the run
pub data Out (A : Type 0) : Type 0 where
  done : A → Out A
  refused : Refusal → Out A
