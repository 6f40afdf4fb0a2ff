-- What is left of a register sheet at a cursor. Assumes nothing.
use Rattle.std.specs.Prelude.{◌≡◌, false, cond, List, [], ◌∷◌, ◌++◌, ℕ, ◌+◌, ◌-◌, ◌≤◌, length, take, drop}
use Rattle.definition.specs.declared.Use.{Use}
use Rattle.definition.specs.Types.{Piece, State, vreg}
use Rattle.definition.specs.Place.{uses_of, segs_of}
use Rattle.definition.specs.Lines.{Line, end_line_lem, use_lines, seg_lines, vreg_lines, group_lines}
use Rattle.definition.specs.RegisterSheet.{lines_bytes}
use Rattle.virt_regs.specs.declared.OutLayout.{OutLayout}
use Rattle.virt_regs.specs.Encoding.{all_pieces}
use Rattle.virt_regs.specs.Reads.{first_piece, first_use}
use Rattle.sheet_output.specs.declared.Cursor.{Cursor}

-- before the first line
abbrev pub at_start : Cursor
at_start = record { regs = 0; segs = 0; segs_end = 0; uses = 0; uses_end = 0; groups = 0; ended = false }

-- the uses of the first s pieces but the first u, and the pieces of the first r registers but the first s
abbrev pub uses_left : State → ℕ → ℕ → List Use
uses_left st s u = drop u (uses_of (segs_of (take s (all_pieces st.registers))))

abbrev pub pieces_left : State → ℕ → ℕ → List Piece
pieces_left st r s = drop s (all_pieces (take r st.registers))

-- the lines left when r registers, s pieces, u uses and g groups are printed and the end is not
unfoldable pub open_lines : State → ℕ → ℕ → ℕ → ℕ → List Line
unfolding use_lines seg_lines vreg_lines group_lines uses_of all_pieces
open_lines st r s u g =
    use_lines (uses_left st s u) ++ (seg_lines (pieces_left st r s)
    ++ (vreg_lines r (drop r st.registers) ++ (group_lines g (drop g st.groups) ++ (end_line_lem (length st.registers) (length st.groups) ∷ []))))

unfoldable pub lines_left : State → Cursor → List Line
unfolding open_lines
lines_left st c = cond c.ended [] (open_lines st c.regs c.segs c.uses c.groups)

-- their bytes
unfoldable pub text_left : State → Cursor → List ℕ
unfolding lines_left lines_bytes
text_left st c = lines_bytes (lines_left st c)

-- the cursor is one of st's sheet
pub record Stands (st : State) (c : Cursor) : Type 0 where
  pub uses : c.uses ≤ c.uses_end
  pub uses_end_lem : c.uses_end ≡ first_use st c.segs
  pub segs : c.segs ≤ c.segs_end
  pub segs_end_lem : c.segs_end ≡ first_piece st (vreg c.regs)
  pub regs : c.regs ≤ length st.registers
  pub groups : c.groups ≤ length st.groups

-- how many lines there can be from the cursor on
abbrev pub rows_left : OutLayout → ℕ → ℕ → Cursor → ℕ
rows_left ol regs groups c = (ol.uses - c.uses) + (ol.segs - c.segs) + (regs - c.regs) + (groups - c.groups) + cond c.ended 0 1
