-- What the builder's code needs of the job and of the work slice, and when its slices stand for a state. Assumes nothing.
use Rattle.std.specs.Prelude.{ℕ, ◌+◌, ◌-◌, ◌*◌, ◌≤◌, ◌<◌, ◌≡◌, true, List, [], length, get_or, Option, Some, None}
use Rattle.definition.specs.declared.Inst.{Inst}
use Rattle.definition.specs.declared.Operand.{Operand}
use Rattle.definition.specs.declared.Use.{Use}
use Rattle.definition.specs.Types.{Job, State, Mapped}
use Rattle.definition.specs.Admit.{mapped_at, sets_of, sets_at}
use Rattle.definition.specs.Entry.{some_is, apart, same_place, insts_of}
use Rattle.function.specs.Blocks.{blocks_at, Starts}
use Rattle.values.specs.ValueRows.{vgroup_row, vgroups_at}
use Rattle.values.specs.OperandRows.{operands_at, op_at, is_at}
use Rattle.values.specs.Chains.{Under, Chained}
use Rattle.values.specs.Chains as chains
use Rattle.uses.specs.Rows.{use_row}
use Rattle.job.specs.declared.Layout.{Layout}
use Rattle.job.specs.Layout.{Fits}
use Rattle.job.specs.Job.{job_of}
use Rattle.virt_regs.specs.declared.OutLayout.{OutLayout}
use Rattle.virt_regs.specs.Encoding.{group_word, Holds}
use Rattle.constraints.specs.Places.{option_of}
use Rattle.constraints.specs.declared.Ask.{Ask}
use Rattle.constraints.specs.declared.Ask.TheVariants.{Any, Class, Group}
use Rattle.job.specs.declared.work.WorkLayout.{WorkLayout}
use Rattle.job.specs.Regions.{chains_in}
use Rattle.constraints.specs.declared.OperandGroup.{OperandGroup}
use Rattle.constraints.specs.Asks.{ask_of}

-- the operands of the job with the words W
abbrev pub operands_in : List ℕ → Layout → List Operand
operands_in W lay = operands_at W lay.operands.at lay.operands.n

-- a word for each operand: the words of K from word `at` on say which group each operand is mapped to
pub record Mapping (K : List ℕ) (at : ℕ) (os : List Operand) (ms : List Mapped) : Type 0 where
  pub is : (k : ℕ) → k < length os → get_or K (at + k) 0 ≡ group_word (mapped_at ms (op_at os k).inst (op_at os k).slot)

-- "group use without its operand" is refused: there is one
abbrev pub HasOperand : Job → Inst → ℕ → Type 0
HasOperand job p s = some_is (is_at p.0 s) job.operands ≡ true

unfoldable pub BackedAsk : Job → Inst → Ask → Type 0
BackedAsk job p Any = Unit {0}
BackedAsk job p (Class c) = Unit {0}
BackedAsk job p (Group g) = HasOperand job p g.slot

-- a use has its operand, if it is a group use
unfoldable pub Backed : Job → Use → Type 0
unfolding BackedAsk
Backed job u = BackedAsk job u.pos (ask_of u.kind)

-- The job with the words W, t of them, is accepted, and the work slice with the words K, w of them, has its index of the operands and its table of block starts, and room for the rest.
pub record Ready (t w : ℕ) (W K : List ℕ) (lay : Layout) (wl : WorkLayout) : Type 0 where
  pub fits : Fits t lay
  -- the operands and their index
  pub index : chains.Fits t w (chains_in lay wl)
  pub chained : Chained K (chains_in lay wl) (operands_in W lay)
  pub under : Under (wl.nexts - wl.heads) (operands_in W lay)
  pub single : apart same_place (operands_in W lay) ≡ true
  pub grouped : (k : ℕ) → k < lay.operands.n → (op_at (operands_in W lay) k).vgroup.0 < lay.vgroups.n
  pub width : (g : ℕ) → g < lay.vgroups.n → length (vgroup_row W (lay.vgroups.at + g * 9)) ≤ 8
  pub mapping : wl.mapping + lay.operands.n ≤ w
  -- the blocks and the table of their starts
  pub some_block : 0 < lay.blocks.n
  pub few_blocks : lay.blocks.n ≤ 512
  pub few_insts : insts_of (blocks_at W lay.blocks.at lay.blocks.n) ≤ 4096
  pub room : wl.starts + lay.blocks.n * 2 + 2 ≤ w
  pub starts : Starts K wl.starts (blocks_at W lay.blocks.at lay.blocks.n)
  -- the marks of the uses; every use is one of a segment's, if there are segments
  pub marks : wl.marks + lay.uses.n ≤ w
  pub within : 0 < lay.segments.n → (n : ℕ) → n < lay.uses.n → (use_row W (lay.uses.at + n * 6)).pos.0 < insts_of (blocks_at W lay.blocks.at lay.blocks.n)
  pub backed : 0 < lay.segments.n → (n : ℕ) → n < lay.uses.n → Backed (job_of W lay) (use_row W (lay.uses.at + n * 6))

-- The words O of the result tables and K of the work slice stand for st.
pub record Stands (ol : OutLayout) (O W K : List ℕ) (lay : Layout) (wl : WorkLayout) (st : State) : Type 0 where
  pub tables : Holds ol O st
  pub mapped : Mapping K wl.mapping (operands_in W lay) st.mapping

-- ---- what an operand says

-- operand k
pub record OperandIs (W K : List ℕ) (lay : Layout) (wl : WorkLayout) (k : ℕ) (r : OperandGroup) : Type 0 where
  pub mapped : get_or K (wl.mapping + k) 0 ≡ group_word (option_of r.mapped)
  pub sets : r.sets ≡ sets_of (job_of W lay) (get_or (vgroups_at W lay.vgroups.at lay.vgroups.n) (op_at (operands_in W lay) k).vgroup.0 [])

-- the operand at instruction p and slot s
pub record Says (W K : List ℕ) (lay : Layout) (wl : WorkLayout) (p : Inst) (s : ℕ) (r : OperandGroup) : Type 0 where
  pub mapped : (ms : List Mapped) → Mapping K wl.mapping (operands_in W lay) ms → option_of r.mapped ≡ mapped_at ms p s
  pub sets : r.sets ≡ sets_at (job_of W lay) p s

-- it is there
unfoldable pub Said : List ℕ → List ℕ → Layout → WorkLayout → Inst → ℕ → Option OperandGroup → Type 0
Said W K lay wl p s None = ⊥
Said W K lay wl p s (Some r) = Says W K lay wl p s r
