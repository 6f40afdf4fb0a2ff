-- The register sheet of an answer, byte for byte. Assumes nothing.
use Rattle.std.specs.Prelude.{ℕ, Bool, true, false, List, [], ◌∷◌, ◌++◌, map}
use Rattle.std.proofs.Math.Option.{Option, none, some}
use Rattle.definition.specs.Types.{VirtReg, VirtRegGroup, Origin, Own, Conflict, Out, done, refused, number_of}
use Rattle.definition.specs.Build.{Result}
use Rattle.definition.specs.Lines.{Line, vreg_line_lem, seg_line_lem, use_line_lem, group_line_lem, end_line_lem, use_numbers, flags_number, printed}
use Rattle.definition.specs.Text.{bytes, decimal, eight_digits, line}

-- "group or -"
abbrev pub group_field : Option VirtRegGroup → List ℕ
group_field none = bytes "-"
group_field (some g) = decimal g.0

-- "members, - for an empty place"
abbrev pub member_field : Option VirtReg → List ℕ
member_field none = bytes "-"
member_field (some r) = decimal r.0

-- "own or conflict (added)"
abbrev pub origin_field : Origin → List ℕ
origin_field Own = bytes "own"
origin_field Conflict = bytes "conflict"

-- "fixed hint (1 if a piece has flag 4)"
abbrev pub hint_field : Bool → List ℕ
hint_field true = decimal 1
hint_field false = decimal 0

-- "vreg: number, set, class, weight, group or -, group index, fixed hint (1 if a piece has flag 4). seg: value, from, to, flags, own or conflict (added).
-- Then `group` lines (number, members, - for an empty place); end: registers, groups." A use line is that of a job sheet.
unfoldable pub line_bytes : Line → List ℕ
unfolding decimal eight_digits
line_bytes (vreg_line_lem n s c w g i h) =
    line "vreg" (decimal n ∷ decimal s.0 ∷ decimal c.0 ∷ eight_digits w ∷ group_field g ∷ decimal i ∷ hint_field h ∷ [])
line_bytes (seg_line_lem v a b f o) = line "seg" (decimal v.0 ∷ decimal a.0 ∷ decimal b.0 ∷ decimal (flags_number f) ∷ origin_field o ∷ [])
line_bytes (use_line_lem u) = line "use" (map decimal (use_numbers u))
line_bytes (group_line_lem n ms) = line "group" (decimal n ∷ map member_field ms)
line_bytes (end_line_lem r g) = line "end" (decimal r ∷ decimal g ∷ [])

unfoldable pub lines_bytes : List Line → List ℕ
unfolding line_bytes
lines_bytes [] = []
lines_bytes (l ∷ ls) = line_bytes l ++ lines_bytes ls

-- "A refusal prints `refused` and its number alone."
unfoldable pub register_sheet : Out Result → List ℕ
unfolding lines_bytes printed decimal
register_sheet (done res) = lines_bytes (printed res)
register_sheet (refused r) = line "refused" (decimal (number_of r) ∷ [])
