-- The rows of the result tables, and what it is for a list of words to hold a state's registers and groups. Assumes nothing.
use Rattle.std.specs.Prelude.{◌≡◌, Bool, cond, List, [], ◌∷◌, ◌++◌, ℕ, ◌+◌, ◌≤◌, ◌<◌, length, get_or, Float}
use Rattle.std.proofs.Math.Option.{Option, none, some}
use Rattle.std.specs.Float.{binary32}
use Rattle.std.specs.Float.Ieee.{to_bits, of_bits}
use Rattle.words.specs.Tab.{tab}
use Rattle.words.specs.AnyRows.{rows_of}
use Rattle.definition.specs.declared.VirtReg.{VirtReg}
use Rattle.definition.specs.declared.VirtRegGroup.{VirtRegGroup}
use Rattle.definition.specs.declared.Use.{Use}
use Rattle.definition.specs.declared.UseKind.{UseKind}
use Rattle.definition.specs.declared.UseKind.TheVariants.{FixedDef, FixedUse, TiedUse, ConstraintConflict, ClassUse, ClassDef, GroupClassUse, GroupClassDef, BlockparamIn, BlockparamOut}
use Rattle.definition.specs.declared.Origin.{Origin}
use Rattle.definition.specs.declared.Origin.TheVariants.{Own, Conflict}
use Rattle.definition.specs.Limits.{max_group}
use Rattle.definition.specs.Types.{Piece, Register, State, Room}
use Rattle.definition.specs.Place.{pieces_in, uses_in, uses_of, segs_of}
use Rattle.definition.specs.Lines.{use_numbers, flags_number, hint_in}
use Rattle.virt_regs.specs.declared.OutLayout.{OutLayout}
use Rattle.virt_regs.specs.declared.Counts.{Counts}
use Rattle.virt_regs.specs.declared.RegisterRow.{RegisterRow}
use Rattle.virt_regs.specs.declared.PieceRow.{PieceRow}
use Rattle.words.specs.Tables.{Table, table, base_of, end_of, Tabled}
use Rattle.virt_regs.specs.Each.{Each}

-- the words of a group's row: the number of its places, and a word for each
abbrev pub group_row : ℕ
group_row = max_group + 1

-- ---- the tables of a result, in their order: the words in a row, and the rows that each can hold

abbrev pub tables : OutLayout → List Table
tables ol = table 8 ol.regs ∷ table 7 ol.segs ∷ table 6 ol.uses ∷ table group_row ol.groups ∷ []

-- where they begin, in words: registers at 0
abbrev pub seg_base : OutLayout → ℕ
seg_base ol = base_of 1 (tables ol)

abbrev pub use_base : OutLayout → ℕ
use_base ol = base_of 2 (tables ol)

abbrev pub group_base : OutLayout → ℕ
group_base ol = base_of 3 (tables ol)

abbrev pub tables_end : OutLayout → ℕ
tables_end ol = end_of (tables ol)

abbrev pub room_of : OutLayout → Room
room_of ol = record { registers = ol.regs; segments = ol.segs; uses = ol.uses; groups = ol.groups }

-- ---- rows

-- a number and 1 more, 0 for none
abbrev pub group_word : Option VirtRegGroup → ℕ
group_word none = 0
group_word (some g) = g.0 + 1

abbrev pub place_word : Option VirtReg → ℕ
place_word none = 0
place_word (some r) = r.0 + 1

abbrev pub origin_word : Origin → ℕ
origin_word Own = 0
origin_word Conflict = 1

abbrev pub hint_word : Bool → ℕ
hint_word b = cond b 1 0

-- the words of a register's row and of a piece's
abbrev pub register_words : RegisterRow → List ℕ
register_words r = r.set.0 ∷ r.class.0 ∷ r.weight ∷ r.group ∷ r.index ∷ r.hint ∷ r.first ∷ r.count ∷ []

abbrev pub piece_words : PieceRow → List ℕ
piece_words p = p.value.0 ∷ p.«from».0 ∷ p.to.0 ∷ p.flags ∷ p.origin ∷ p.first ∷ p.uses ∷ []

-- a register whose first piece is piece f, and a piece whose first use is use f
abbrev pub register_row : ℕ → Register → RegisterRow
register_row f r = record {
  set = r.set;
  class = r.class;
  weight = to_bits binary32 r.weight;
  group = group_word r.group;
  index = r.index;
  hint = hint_word (hint_in r.pieces);
  first = f;
  count = length r.pieces;
}

abbrev pub piece_row : ℕ → Piece → PieceRow
piece_row f p = record {
  value = p.seg.value;
  «from» = p.seg.«from»;
  to = p.seg.to;
  flags = flags_number p.seg.flags;
  origin = origin_word p.origin;
  first = f;
  uses = length p.seg.uses;
}

-- "kind, instruction, the kind's fields", zeros behind them
abbrev pub use_words : Use → List ℕ
use_words u = tab (λ i. get_or (use_numbers u) i 0) 0 6

-- the number of places, and a word for each that a group may have
abbrev pub group_words : List (Option VirtReg) → List ℕ
group_words ms = length ms ∷ tab (λ i. place_word (get_or ms i none)) 0 max_group

-- ---- tables

-- every register's pieces, in order
unfoldable pub all_pieces : List Register → List Piece
all_pieces [] = []
all_pieces (r ∷ rs) = r.pieces ++ all_pieces rs

-- the running values: the piece behind a register's, the use behind a piece's
abbrev pub past_pieces : ℕ → Register → ℕ
past_pieces f r = f + length r.pieces

abbrev pub used_by : ℕ → Piece → ℕ
used_by f p = f + length p.seg.uses

abbrev pub still : {A : Type 0} → Unit {0} → A → Unit {0}
still u a = u

abbrev pub each_register : ℕ → Register → List ℕ
each_register f r = register_words (register_row f r)

abbrev pub each_piece : ℕ → Piece → List ℕ
each_piece f p = piece_words (piece_row f p)

abbrev pub each_use : Unit {0} → Use → List ℕ
each_use _ u = use_words u

abbrev pub each_group : Unit {0} → List (Option VirtReg) → List ℕ
each_group _ ms = group_words ms

-- the rows of registers whose pieces begin at piece f, of pieces whose uses begin at use f, of uses and of groups
abbrev pub register_rows : ℕ → List Register → List ℕ
register_rows f rs = rows_of each_register past_pieces f rs

abbrev pub piece_rows : ℕ → List Piece → List ℕ
piece_rows f ps = rows_of each_piece used_by f ps

abbrev pub use_rows : List Use → List ℕ
use_rows us = rows_of each_use still tt us

abbrev pub group_rows : List (List (Option VirtReg)) → List ℕ
group_rows gs = rows_of each_group still tt gs

abbrev pub counts_of : State → Counts
counts_of st = record { regs = length st.registers; segs = pieces_in st; uses = uses_in st; groups = length st.groups }

-- a weight that its bits stand for: no NaN, not negative
unfoldable pub Weighs : Float → Type 0
Weighs w = (of_bits binary32 (to_bits binary32 w) ≡ w) × (to_bits binary32 w ≤ 2139095040)

-- a group among n registers: as many places as a group may have, whose members are registers
unfoldable pub Placed : ℕ → List (Option VirtReg) → Type 0
Placed n ms = (length ms ≤ max_group) × ((i : ℕ) (r : VirtReg) → get_or ms i none ≡ some r → r.0 < n)

-- the fields of a use fit their UseKind types
unfoldable pub TypedKind : UseKind → Type 0
TypedKind (FixedDef r) = Unit {0}
TypedKind (FixedUse r) = Unit {0}
TypedKind (TiedUse s d c i) = (s < 65536) × (d < 65536) × (i < 256)
TypedKind ConstraintConflict = Unit {0}
TypedKind (ClassUse s c) = s < 65536
TypedKind (ClassDef s c) = s < 65536
TypedKind (GroupClassUse s c i) = (s < 65536) × (i < 256)
TypedKind (GroupClassDef s c i) = (s < 65536) × (i < 256)
TypedKind (BlockparamIn q) = Unit {0}
TypedKind BlockparamOut = Unit {0}

abbrev pub Typed : Use → Type 0
Typed u = TypedKind u.kind

-- the rows of each table, in the order of `tables`
abbrev pub contents : State → List (List ℕ)
contents st =
    register_rows 0 st.registers
    ∷ piece_rows 0 (all_pieces st.registers)
    ∷ use_rows (uses_of (segs_of (all_pieces st.registers)))
    ∷ group_rows st.groups
    ∷ []

-- The words O hold the registers and groups of st, with zeros behind the rows of each table.
pub record Holds (ol : OutLayout) (O : List ℕ) (st : State) : Type 0 where
  pub tabled : Tabled (tables ol) (contents st) O
  pub typed : Each Typed (uses_of (segs_of (all_pieces st.registers)))
  pub weights : Each (λ r. Weighs r.weight) st.registers
  pub members : Each (Placed (length st.registers)) st.groups
