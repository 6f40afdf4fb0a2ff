-- The lines of a result: "vreg: number, set, class, weight, group or -, group index, fixed hint (1 if a piece has flag 4). seg: value, from, to, flags, own or conflict (added).
-- Then `group` lines (number, members, - for an empty place); end: registers, groups." Their bytes are those of `RegisterSheet`. Assumes nothing.
use Rattle.std.specs.Prelude.{ℕ, suc, ◌+◌, Bool, false, ◌||◌, cond, List, [], ◌∷◌, ◌++◌, length}
use Rattle.std.proofs.Math.Option.{Option}
use Rattle.std.specs.Float.{binary32}
use Rattle.std.specs.Float.Ieee.{to_bits}
use Rattle.definition.specs.Types.{Value, ValueSet, RegClass, VirtReg, VirtRegGroup, LiveRangePoint, UseKind, FixedDef, FixedUse, TiedUse, ConstraintConflict, ClassUse, ClassDef, GroupClassUse, GroupClassDef, BlockparamIn, BlockparamOut, Use, UseFlags, Origin, Piece, Register}
use Rattle.definition.specs.Build.{Result}

-- "use lines (kind, instruction, the kind's fields as in UseKind)". "Kinds 0 to 9 follow UseKind's order."
abbrev pub numbers_of : UseKind → ℕ → List ℕ
numbers_of (FixedDef r) p = 0 ∷ p ∷ r.0 ∷ []
numbers_of (FixedUse r) p = 1 ∷ p ∷ r.0 ∷ []
numbers_of (TiedUse u d c i) p = 2 ∷ p ∷ u ∷ d ∷ c.0 ∷ i ∷ []
numbers_of ConstraintConflict p = 3 ∷ p ∷ []
numbers_of (ClassUse s c) p = 4 ∷ p ∷ s ∷ c.0 ∷ []
numbers_of (ClassDef s c) p = 5 ∷ p ∷ s ∷ c.0 ∷ []
numbers_of (GroupClassUse s c i) p = 6 ∷ p ∷ s ∷ c.0 ∷ i ∷ []
numbers_of (GroupClassDef s c i) p = 7 ∷ p ∷ s ∷ c.0 ∷ i ∷ []
numbers_of (BlockparamIn q) p = 8 ∷ p ∷ q ∷ []
numbers_of BlockparamOut p = 9 ∷ p ∷ []

abbrev pub use_numbers : Use → List ℕ
use_numbers u = numbers_of u.kind u.pos.0

-- "Flags: 1 live-in, 2 live-out, 4 fixed hint, 8 fixed def."
abbrev pub flags_number : UseFlags → ℕ
flags_number f = cond f.livein 1 0 + cond f.liveout 2 0 + cond f.fixedhint 4 0 + cond f.fixeddef 8 0

pub data Line : Type 0 where
  vreg_line_lem : (number : ℕ) → (set : ValueSet) → (class : RegClass) → (weight : ℕ) → (group : Option VirtRegGroup) → (index : ℕ) → (hint : Bool) → Line
  seg_line_lem : (value : Value) → («from» to : LiveRangePoint) → (flags : UseFlags) → (origin : Origin) → Line
  use_line_lem : Use → Line
  group_line_lem : (number : ℕ) → (members : List (Option VirtReg)) → Line
  end_line_lem : (registers groups : ℕ) → Line

unfoldable pub use_lines : List Use → List Line
use_lines [] = []
use_lines (u ∷ us) = use_line_lem u ∷ use_lines us

abbrev pub seg_line : Piece → Line
seg_line p = seg_line_lem p.seg.value p.seg.«from» p.seg.to p.seg.flags p.origin

unfoldable pub seg_lines : List Piece → List Line
unfolding use_lines
seg_lines [] = []
seg_lines (p ∷ ps) = seg_line p ∷ (use_lines p.seg.uses ++ seg_lines ps)

-- "fixed hint (1 if a piece has flag 4)"
unfoldable pub hint_in : List Piece → Bool
hint_in [] = false
hint_in (p ∷ ps) = p.seg.flags.fixedhint || hint_in ps

abbrev pub vreg_line : ℕ → Register → Line
vreg_line n r = vreg_line_lem n r.set r.class (to_bits binary32 r.weight) r.group r.index (hint_in r.pieces)

unfoldable pub vreg_lines : ℕ → List Register → List Line
unfolding seg_lines to_bits hint_in
vreg_lines n [] = []
vreg_lines n (r ∷ rs) = vreg_line n r ∷ (seg_lines r.pieces ++ vreg_lines (suc n) rs)

unfoldable pub group_lines : ℕ → List (List (Option VirtReg)) → List Line
group_lines n [] = []
group_lines n (ms ∷ gs) = group_line_lem n ms ∷ group_lines (suc n) gs

-- "Results are equal if the vreg, seg, use, group and end lines for them are the same."
unfoldable pub printed : Result → List Line
unfolding vreg_lines group_lines
printed res = vreg_lines 0 res.registers ++ (group_lines 0 res.groups ++ (end_line_lem (length res.registers) (length res.groups) ∷ []))
