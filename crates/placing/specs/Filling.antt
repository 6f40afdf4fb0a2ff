-- By the plan: what is asked before gaps are opened and before the register is finished, what then stands in the
-- tables, and what is left. Assumes nothing.
use Rattle.std.specs.Prelude.{◌≡◌, ℕ, ◌+◌, ◌*◌, ◌^◌, ◌≤◌, ◌<◌, List, length, get_or}
use Rattle.definition.specs.declared.RegClass.{RegClass}
use Rattle.definition.specs.declared.VirtReg.{VirtReg}
use Rattle.definition.specs.declared.VirtRegGroup.{VirtRegGroup}
use Rattle.definition.specs.Types.{Job, Piece, State, Out, done, refused}
use Rattle.definition.specs.RegInfo.{class_at, zero_f}
use Rattle.definition.specs.LiveRange.{live_insts}
use Rattle.definition.specs.Weights.{sum_segs}
use Rattle.definition.specs.Admit.{register_at, members_at}
use Rattle.definition.specs.Place.{segs_of}
use Rattle.virt_regs.specs.declared.OutLayout.{OutLayout}
use Rattle.virt_regs.specs.declared.Counts.{Counts}
use Rattle.vregs_write.specs.ChangeFlat.{Spreadable}
use Rattle.vregs_write.specs.declared.insert.Gaps.{Gaps}
use Rattle.vregs_write.specs.Ask.{Ask}
use Rattle.vregs_write.specs.Opened.{Opened}
use Rattle.emit.specs.declared.tally.Tally.{Tally}
use Rattle.placing.specs.declared.row.Rows.{Rows}
use Rattle.placing.specs.Ready.{Space, Ready, Filled, Left, all_of, one_more, group_more, pieces_more}
use Rattle.placing.specs.declared.plan.Plan.{Plan}
use Rattle.placing.specs.Asked.{RowIn}
use Rattle.placing.specs.declared.plan.Plan.TheVariants as plans

-- ---- where the pieces go: behind the rows in use, or into gaps among those of a register

abbrev pub Openable : OutLayout → List ℕ → Counts → Rows → Plan → Type 0
Openable ol O c n plans.Alone = Unit {0}
Openable ol O c n (plans.Lead i) = Unit {0}
Openable ol O c n (plans.Join g i) = Unit {0}
Openable ol O c n (plans.Merge g v i k) = Ask ol O c v k n.pieces n.uses
Openable ol O c n (plans.Stop s) = Unit {0}
Openable ol O c n plans.Full = Unit {0}

-- nothing is moved, and the pieces go behind the rows in use
pub record Behind (O : List ℕ) (c : Counts) (r : Gaps) (O₁ : List ℕ) : Type 0 where
  pub same : O₁ ≡ O
  pub piece : r.pieces ≡ c.segs
  pub use' : r.uses ≡ c.uses

abbrev pub Opens : OutLayout → State → List ℕ → Counts → Rows → Gaps → List ℕ → Plan → Type 0
Opens ol st O c n r O₁ plans.Alone = Behind O c r O₁
Opens ol st O c n r O₁ (plans.Lead i) = Behind O c r O₁
Opens ol st O c n r O₁ (plans.Join g i) = Behind O c r O₁
Opens ol st O c n r O₁ (plans.Merge g v i k) =
    v.0 < length st.registers → k ≤ length (register_at st v).pieces → Opened ol st c v k n.pieces n.uses n.hint r.pieces r.uses O₁
Opens ol st O c n r O₁ (plans.Stop s) = Behind O c r O₁
Opens ol st O c n r O₁ plans.Full = Behind O c r O₁

-- ---- before the register is finished

-- pieces more among those of register v, whose row and whose group's lie in the tables
pub record Merging (ol : OutLayout) (O : List ℕ) (c : Counts) (n : Rows) (g : VirtRegGroup) (v : VirtReg) : Type 0 where
  pub members : Spreadable ol g O
  pub here : v.0 < ol.regs
  pub segs : c.segs + n.pieces < 2 ^ 32
  pub uses : c.uses + n.uses < 2 ^ 32
  pub rows : get_or O (v.0 * 8 + 6) 0 + get_or O (v.0 * 8 + 7) 0 ≤ ol.segs

-- room for a register, and what is read of its group's row; nothing is finished where none is placed
abbrev pub Finishable : OutLayout → List ℕ → Counts → Rows → Plan → Type 0
Finishable ol O c n plans.Alone = Space ol c n.pieces n.uses
Finishable ol O c n (plans.Lead i) = Space ol c n.pieces n.uses × (c.groups < ol.groups) × (c.groups + 1 < 2 ^ 32) × (i < 8)
Finishable ol O c n (plans.Join g i) = Space ol c n.pieces n.uses × Spreadable ol g O × (g.0 + 1 < 2 ^ 32) × (i < 8)
Finishable ol O c n (plans.Merge g v i k) = Merging ol O c n g v
Finishable ol O c n (plans.Stop s) = ⊥
Finishable ol O c n plans.Full = ⊥

-- the pieces ps with their uses stand where the plan says: the words O held st, and are O₁ with them
abbrev pub Filling : Job → OutLayout → RegClass → List ℕ → Counts → Rows → State → List Piece → List ℕ → Plan → Type 0
Filling J ol k O c n st ps O₁ plans.Alone = Ready J ol O c n.pieces n.uses n.hint st ps O₁
Filling J ol k O c n st ps O₁ (plans.Lead i) = Ready J ol O c n.pieces n.uses n.hint st ps O₁ × (i < (class_at J k).size) × ((class_at J k).size ≤ 8)
Filling J ol k O c n st ps O₁ (plans.Join g i) = Ready J ol O c n.pieces n.uses n.hint st ps O₁ × (g.0 < length st.groups) × (i < length (members_at st g))
Filling J ol k O c n st ps O₁ (plans.Merge g v i a) = Filled J ol c n.pieces n.uses v st ps O₁ × (g.0 < length st.groups)
Filling J ol k O c n st ps O₁ (plans.Stop s) = ⊥
Filling J ol k O c n st ps O₁ plans.Full = ⊥

-- ---- its weight

-- the pieces that the register then has
abbrev pub pieces_by : State → List Piece → Plan → List Piece
pieces_by st ps plans.Alone = ps
pieces_by st ps (plans.Lead i) = ps
pieces_by st ps (plans.Join g i) = ps
pieces_by st ps (plans.Merge g v i k) = all_of v ps st
pieces_by st ps (plans.Stop s) = ps
pieces_by st ps plans.Full = ps

-- what a walk over the pieces ps told of them: the sum of their costs, and the instructions that they touch
pub record Tells (J : Job) (ps : List Piece) (t : Tally) : Type 0 where
  pub sum : t.costs.total.value ≡ sum_segs J zero_f (segs_of ps)
  pub insts : t.insts ≡ live_insts (segs_of ps)

-- the row of a register that is merged into lies in the tables, and so do those of its pieces
abbrev pub RowWithin : OutLayout → List ℕ → Plan → Type 0
RowWithin ol O plans.Alone = Unit {0}
RowWithin ol O (plans.Lead i) = Unit {0}
RowWithin ol O (plans.Join g i) = Unit {0}
RowWithin ol O (plans.Merge g v i k) = RowIn ol O v
RowWithin ol O (plans.Stop s) = Unit {0}
RowWithin ol O plans.Full = Unit {0}

pub row_within : (ol : OutLayout) (O : List ℕ) (c : Counts) (n : Rows) (p : Plan) → Finishable ol O c n p → RowWithin ol O p
row_within ol O c n plans.Alone f = tt
row_within ol O c n (plans.Lead i) f = tt
row_within ol O c n (plans.Join g i) f = tt
row_within ol O c n (plans.Merge g v i k) f = (f.here, f.rows)
row_within ol O c n (plans.Stop s) f = tt
row_within ol O c n plans.Full f = tt

-- ---- what is left

-- how many rows are in use then, whatever the tables hold
abbrev pub counts_by : Plan → Counts → Rows → Counts
counts_by plans.Alone c n = one_more c n.pieces n.uses
counts_by (plans.Lead i) c n = group_more (one_more c n.pieces n.uses)
counts_by (plans.Join g i) c n = one_more c n.pieces n.uses
counts_by (plans.Merge g v i k) c n = pieces_more c n.pieces n.uses
counts_by (plans.Stop s) c n = c
counts_by plans.Full c n = c

-- the state that was to be made is in the tables
abbrev pub LeftBy : OutLayout → List ℕ → Counts → Out State → Type 0
LeftBy ol O n (done st) = Left ol O n st
LeftBy ol O n (refused r) = ⊥
