-- The line of each row of the result tables, and the cursor behind it. Assumes nothing.
use Rattle.std.specs.Prelude.{true, false, List, [], ◌∷◌, ℕ, ◌+◌, ◌*◌, get_or, take}
use Rattle.words.specs.Tab.{tab}
use Rattle.definition.specs.Types.{vset, cls}
use Rattle.virt_regs.specs.declared.OutLayout.{OutLayout}
use Rattle.virt_regs.specs.declared.RegisterRow.{RegisterRow}
use Rattle.virt_regs.specs.declared.PieceRow.{PieceRow}
use Rattle.virt_regs.specs.Encoding.{seg_base, use_base, group_base}
use Rattle.virt_regs.specs.Reads.{piece_in}
use Rattle.register_sheet.specs.Typed.{vreg_line, seg_line, use_line, group_line}
use Rattle.sheet_output.specs.declared.Cursor.{Cursor}

-- n words from word i on
unfoldable pub row_in : List ℕ → ℕ → ℕ → List ℕ
row_in O i n = tab (λ k. get_or O (i + k) 0) 0 n

-- the register whose row begins at word i
unfoldable pub register_in : List ℕ → ℕ → RegisterRow
register_in O i = record {
  set = vset (get_or O i 0);
  class = cls (get_or O (i + 1) 0);
  weight = get_or O (i + 2) 0;
  group = get_or O (i + 3) 0;
  index = get_or O (i + 4) 0;
  hint = get_or O (i + 5) 0;
  first = get_or O (i + 6) 0;
  count = get_or O (i + 7) 0;
}

-- the words of the use whose row begins at word i, and of the places of a group
unfoldable pub use_in : List ℕ → ℕ → List ℕ
use_in O i = get_or O i 0 ∷ get_or O (i + 1) 0 ∷ get_or O (i + 2) 0 ∷ get_or O (i + 3) 0 ∷ get_or O (i + 4) 0 ∷ get_or O (i + 5) 0 ∷ []

unfoldable pub members_in : List ℕ → ℕ → List ℕ
members_in O i =
    get_or O (i + 1) 0 ∷ get_or O (i + 2) 0 ∷ get_or O (i + 3) 0 ∷ get_or O (i + 4) 0 ∷ get_or O (i + 5) 0 ∷ get_or O (i + 6) 0 ∷ get_or O (i + 7) 0 ∷ get_or O (i + 8) 0 ∷ []

-- ---- lines

unfoldable pub use_text : OutLayout → List ℕ → ℕ → List ℕ
unfolding use_in use_line
use_text ol O i = use_line (use_in O (use_base ol + i * 6))

abbrev pub seg_row_text : PieceRow → List ℕ
seg_row_text p = seg_line p.value.0 p.«from».0 p.to.0 p.flags p.origin

unfoldable pub seg_text : OutLayout → List ℕ → ℕ → List ℕ
unfolding piece_in seg_line
seg_text ol O i = seg_row_text (piece_in O (seg_base ol + i * 7))

abbrev pub vreg_row_text : ℕ → RegisterRow → List ℕ
vreg_row_text n r = vreg_line n r.set.0 r.class.0 r.weight r.group r.index r.hint

unfoldable pub vreg_text : List ℕ → ℕ → List ℕ
unfolding register_in vreg_line
vreg_text O n = vreg_row_text n (register_in O (n * 8))

unfoldable pub group_text : OutLayout → List ℕ → ℕ → List ℕ
unfolding members_in group_line
group_text ol O g = let i = group_base ol + g * 9 in group_line g (take (get_or O i 0) (members_in O i))

-- ---- the cursor behind a line

abbrev pub behind_use : Cursor → Cursor
behind_use c =
    record { regs = c.regs; segs = c.segs; segs_end = c.segs_end; uses = c.uses + 1; uses_end = c.uses_end; groups = c.groups; ended = false }

-- a piece's uses follow, and a register's pieces
abbrev pub behind_seg_row : PieceRow → Cursor → Cursor
behind_seg_row p c =
    record { regs = c.regs; segs = c.segs + 1; segs_end = c.segs_end; uses = c.uses; uses_end = p.first + p.uses; groups = c.groups; ended = false }

unfoldable pub behind_seg : OutLayout → List ℕ → Cursor → Cursor
unfolding piece_in
behind_seg ol O c = behind_seg_row (piece_in O (seg_base ol + c.segs * 7)) c

abbrev pub behind_vreg_row : RegisterRow → Cursor → Cursor
behind_vreg_row r c =
    record { regs = c.regs + 1; segs = c.segs; segs_end = r.first + r.count; uses = c.uses; uses_end = c.uses_end; groups = c.groups; ended = false }

unfoldable pub behind_vreg : List ℕ → Cursor → Cursor
unfolding register_in
behind_vreg O c = behind_vreg_row (register_in O (c.regs * 8)) c

abbrev pub behind_group : Cursor → Cursor
behind_group c =
    record { regs = c.regs; segs = c.segs; segs_end = c.segs_end; uses = c.uses; uses_end = c.uses_end; groups = c.groups + 1; ended = false }

abbrev pub behind_end : Cursor → Cursor
behind_end c =
    record { regs = c.regs; segs = c.segs; segs_end = c.segs_end; uses = c.uses; uses_end = c.uses_end; groups = c.groups; ended = true }
