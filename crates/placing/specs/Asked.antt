-- What a plan is made from. Assumes nothing.
use Rattle.std.specs.Prelude.{◌≡◌, ℕ, ◌+◌, ◌*◌, ◌≤◌, ◌<◌, Bool, true, false, not, Option, None, Some, is_none, List, length, get_or}
use Rattle.definition.specs.declared.VirtReg.{VirtReg}
use Rattle.definition.specs.Types.{Piece, State}
use Rattle.definition.specs.Place as place
use Rattle.definition.specs.Place.{uses_of_pieces, first_from, last_to}
use Rattle.virt_regs.specs.declared.OutLayout.{OutLayout}
use Rattle.virt_regs.specs.Encoding.{tables_end}
use Rattle.constraints.specs.declared.Held.{Held}
use Rattle.constraints.specs.declared.HeldGroup.{HeldGroup}
use Rattle.placing.specs.declared.plan.Measures.{Measures}
use Rattle.placing.specs.Plan.{maps_to}

-- these are the measures of the pieces ps
pub record Measured (ps : List Piece) (m : Measures) : Type 0 where
  pub pieces : m.pieces ≡ length ps
  pub uses : m.uses ≡ uses_of_pieces ps
  pub begin : m.«from» ≡ first_from ps
  pub end : m.to ≡ last_to ps

-- whether a new group is to be made
abbrev pub leads : Option HeldGroup → Bool
leads None = false
leads (Some g) = is_none g.mapped

-- where it is, b says whether all operands can be mapped
abbrev pub Free : Held → Bool → List Piece → State → Type 0
Free h b ps st = leads h.group ≡ true → not b ≡ place.is_none (maps_to ps st)

-- the row of register v and those of its pieces lie in the tables
abbrev pub RowIn : OutLayout → List ℕ → VirtReg → Type 0
RowIn ol O v = (v.0 < ol.regs) × (get_or O (v.0 * 8 + 6) 0 + get_or O (v.0 * 8 + 7) 0 ≤ ol.segs)

-- a register to merge into is one of the state's
abbrev pub TargetIn : Held → State → Type 0
TargetIn h st = (g : HeldGroup) (v : VirtReg) → h.group ≡ Some g → h.target ≡ Some v → v.0 < length st.registers

-- what the tables must be for the plan to be read off them
pub record Asked (n : ℕ) (O : List ℕ) (ol : OutLayout) (h : Held) : Type 0 where
  pub long : tables_end ol ≤ n
  pub target : (g : HeldGroup) (v : VirtReg) → h.group ≡ Some g → h.target ≡ Some v → RowIn ol O v
