-- The lines of a register sheet from the plain numbers of a result table. Assumes nothing.
use Rattle.std.specs.Prelude.{List, [], ◌∷◌, ◌++◌, map, cond, ℕ, zero, suc, get_or, eqb}
use Rattle.std.proofs.Math.Option.{Option, none, some}
use Rattle.definition.specs.declared.VirtReg.{VirtReg}
use Rattle.definition.specs.declared.VirtRegGroup.{VirtRegGroup}
use Rattle.definition.specs.declared.Origin.{Origin}
use Rattle.definition.specs.declared.Origin.TheVariants.{Own, Conflict}
use Rattle.definition.specs.Types.{val, vset, cls, point, vreg, vrgroup}
use Rattle.definition.specs.Lines.{vreg_line_lem, seg_line_lem, use_line_lem, group_line_lem, end_line_lem}
use Rattle.definition.specs.Text.{bytes, decimal, eight_digits, line}
use Rattle.definition.specs.JobSheet.{use_of, flags_of}
use Rattle.definition.specs.RegisterSheet.{line_bytes, origin_field}
use Rattle.lines.specs.Wrote.{fields_text, index_text}

-- "group or -": 0 is none, and 1 stands for 0
abbrev pub group_of : ℕ → Option VirtRegGroup
group_of zero = none
group_of (suc n) = some (vrgroup n)

abbrev pub member_of : ℕ → Option VirtReg
member_of zero = none
member_of (suc n) = some (vreg n)

-- 1 is a conflict's piece
abbrev pub origin_of : ℕ → Origin
origin_of o = cond (eqb o 1) Conflict Own

unfoldable pub flag_number : ℕ → ℕ
flag_number h = cond (eqb h 1) 1 0

-- the numbers of a use line: "kind, instruction, the kind's fields"
unfoldable pub use_length : ℕ → ℕ
use_length k = get_or (3 ∷ 3 ∷ 6 ∷ 2 ∷ 4 ∷ 4 ∷ 5 ∷ 5 ∷ 3 ∷ 2 ∷ []) k 0

-- ---- the lines

unfoldable pub vreg_head : ℕ → ℕ → ℕ → ℕ → List ℕ
vreg_head n s c w = bytes "vreg" ++ (fields_text (n ∷ s ∷ c ∷ []) ++ (9 ∷ eight_digits w))

unfoldable pub vreg_tail : ℕ → ℕ → ℕ → List ℕ
vreg_tail g i h = (9 ∷ index_text g) ++ (fields_text (i ∷ flag_number h ∷ []) ++ (10 ∷ []))

unfoldable pub origin_end : ℕ → List ℕ
origin_end o = 9 ∷ (origin_field (origin_of o) ++ (10 ∷ []))

unfoldable pub vreg_line : ℕ → ℕ → ℕ → ℕ → ℕ → ℕ → ℕ → List ℕ
vreg_line n s c w g i h = line_bytes (vreg_line_lem n (vset s) (cls c) w (group_of g) i (eqb h 1))

unfoldable pub seg_line : ℕ → ℕ → ℕ → ℕ → ℕ → List ℕ
seg_line v a b f o = line_bytes (seg_line_lem (val v) (point a) (point b) (flags_of f) (origin_of o))

unfoldable pub use_numbers_line : List ℕ → List ℕ
use_numbers_line ns = bytes "use" ++ (fields_text ns ++ (10 ∷ []))

unfoldable pub use_line : List ℕ → List ℕ
use_line row = line_bytes (use_line_lem (use_of row))

unfoldable pub group_line : ℕ → List ℕ → List ℕ
group_line n ms = line_bytes (group_line_lem n (map member_of ms))

unfoldable pub end_line : ℕ → ℕ → List ℕ
end_line r g = line_bytes (end_line_lem r g)

-- "A refusal prints `refused` and its number alone."
unfoldable pub refused_line : ℕ → List ℕ
refused_line n = line "refused" (decimal n ∷ [])
