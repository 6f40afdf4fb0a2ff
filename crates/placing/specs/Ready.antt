-- What is asked before a register is placed, what is left behind, and the counts. Assumes nothing.
use Rattle.std.specs.Prelude.{◌≡◌, Bool, List, ℕ, ◌+◌, ◌^◌, ◌≤◌, ◌<◌, length}
use Rattle.definition.specs.declared.ValueSet.{ValueSet}
use Rattle.definition.specs.declared.RegClass.{RegClass}
use Rattle.definition.specs.declared.VirtReg.{VirtReg}
use Rattle.definition.specs.Types.{Job, Piece, State}
use Rattle.definition.specs.LiveRange.{live_insts}
use Rattle.definition.specs.Lines.{hint_in}
use Rattle.definition.specs.Admit.{register_at}
use Rattle.definition.specs.Place.{uses_of_pieces, uses_of, segs_of, with_pieces, update, inserted, first_from}
use Rattle.virt_regs.specs.declared.OutLayout.{OutLayout}
use Rattle.virt_regs.specs.declared.Counts.{Counts}
use Rattle.virt_regs.specs.declared.RegisterRow.{RegisterRow}
use Rattle.virt_regs.specs.Each.{Each}
use Rattle.virt_regs.specs.Encoding.{hint_word, counts_of, Typed, Holds}
use Rattle.vregs_write.specs.Written.{Written}
use Rattle.vreg_weight.specs.Weighed.{Inside}
use Rattle.placing.specs.declared.row.Rows.{Rows}

-- the tables have room for a register of np pieces with nu uses
pub record Space (ol : OutLayout) (c : Counts) (np nu : ℕ) : Type 0 where
  pub regs : c.regs < ol.regs
  pub segs : c.segs + np ≤ ol.segs
  pub uses : c.uses + nu ≤ ol.uses
  pub small : (c.regs + 1 < 2 ^ 32) × (c.segs + np < 2 ^ 32) × (c.uses + nu < 2 ^ 32)

-- pieces that a weight is made from: uses of the job's instructions, 1 to 4096 instructions touched
pub record Weighed (J : Job) (ps : List Piece) : Type 0 where
  pub inside : Inside J (uses_of (segs_of ps))
  pub least : 1 ≤ live_insts (segs_of ps)
  pub most : live_insts (segs_of ps) ≤ 4096

-- these are the rows of the pieces ps
pub record RowsOf (ps : List Piece) (r : Rows) : Type 0 where
  pub pieces : length ps ≡ r.pieces
  pub uses : uses_of_pieces ps ≡ r.uses
  pub hinted : r.hint ≡ hint_in ps

-- The words O held the state st, with the counts c; then the pieces ps and their uses were written behind the rows in use, which made them O'.
pub record Ready (J : Job) (ol : OutLayout) (O : List ℕ) (c : Counts) (np nu : ℕ) (hint : Bool) (st : State) (ps : List Piece) (O' : List ℕ) : Type 0 where
  pub holds : Holds ol O st
  pub counts : c ≡ counts_of st
  pub written : Written ol O c.segs c.uses ps (uses_of (segs_of ps)) O'
  pub pieces : length ps ≡ np
  pub uses : uses_of_pieces ps ≡ nu
  pub hinted : hint ≡ hint_in ps
  pub typed : Each Typed (uses_of (segs_of ps))
  pub weighed : Weighed J ps

-- the pieces of register v with new ones behind those that end where they begin
abbrev pub all_of : VirtReg → List Piece → State → List Piece
all_of v new st = inserted (first_from new) new (register_at st v).pieces

abbrev pub with_new : VirtReg → List Piece → State → State
with_new v new st = record { registers = update (with_pieces (all_of v new st)) v.0 st.registers; groups = st.groups; mapping = st.mapping }

-- The words O hold st, whose counts are c, with the pieces `new` among those of register v.
pub record Filled (J : Job) (ol : OutLayout) (c : Counts) (np nu : ℕ) (v : VirtReg) (st : State) (new : List Piece) (O : List ℕ) : Type 0 where
  pub holds : Holds ol O (with_new v new st)
  pub counts : c ≡ counts_of st
  pub here : v.0 < length st.registers
  pub pieces : length new ≡ np
  pub uses : uses_of_pieces new ≡ nu
  pub weighed : Weighed J (all_of v new st)

-- the words hold the state, and these are its counts
pub record Left (ol : OutLayout) (O : List ℕ) (c : Counts) (st : State) : Type 0 where
  pub holds : Holds ol O st
  pub counts : c ≡ counts_of st

-- the new register's row: its pieces begin behind those held
abbrev pub row_of : Counts → ValueSet → RegClass → ℕ → ℕ → ℕ → ℕ → Bool → RegisterRow
row_of c set class w group i np hint = record {
  set = set;
  class = class;
  weight = w;
  group = group;
  index = i;
  hint = hint_word hint;
  first = c.segs;
  count = np;
}

-- a register, a group, or pieces more
abbrev pub one_more : Counts → ℕ → ℕ → Counts
one_more c np nu = record { regs = c.regs + 1; segs = c.segs + np; uses = c.uses + nu; groups = c.groups }

abbrev pub group_more : Counts → Counts
group_more c = record { regs = c.regs; segs = c.segs; uses = c.uses; groups = c.groups + 1 }

abbrev pub pieces_more : Counts → ℕ → ℕ → Counts
pieces_more c np nu = record { regs = c.regs; segs = c.segs + np; uses = c.uses + nu; groups = c.groups }
