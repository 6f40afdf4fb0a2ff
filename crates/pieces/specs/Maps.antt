-- Group operands mapped in the work slice: a word of the mapping for each operand, its group + 1, 0 for none. Assumes nothing.
use Rattle.std.specs.Prelude.{ℕ, ◌+◌, ◌≤◌, ◌<◌, ◌≡◌, Bool, true, false, List, length, get_or, set, Some, None}
use Rattle.std.specs.Prelude as code
use Rattle.std.proofs.Math.Option.{Option, none, some}
use Rattle.definition.specs.declared.Use.{Use}
use Rattle.definition.specs.declared.VirtRegGroup.{VirtRegGroup}
use Rattle.definition.specs.Types.{Mapped}
use Rattle.definition.specs.Uses.{slot_of}
use Rattle.definition.specs.Admit.{mapped_at}
use Rattle.definition.specs.Place.{map_one}
use Rattle.job.specs.declared.Layout.{Layout}
use Rattle.job.specs.declared.work.WorkLayout.{WorkLayout}
use Rattle.constraints.specs.Ready.{operands_in, Mapping}

-- the slot of a group use
abbrev pub slot_given : Option ℕ → code.Option ℕ
slot_given none = None
slot_given (some s) = Some s

-- the mapping lies behind the index of the operands and before the other parts of the work slice
pub record MapApart (lay : Layout) (wl : WorkLayout) : Type 0 where
  pub index : wl.nexts + lay.operands.n ≤ wl.mapping
  pub starts : wl.mapping + lay.operands.n ≤ wl.starts
  pub marks : wl.mapping + lay.operands.n ≤ wl.marks
  pub turned : wl.mapping + lay.operands.n ≤ wl.turned

-- K' is K but for the words of the mapping
pub record Outside (lay : Layout) (wl : WorkLayout) (K K' : List ℕ) : Type 0 where
  pub long : length K' ≡ length K
  pub before : (j : ℕ) → j < wl.mapping → get_or K' j 0 ≡ get_or K j 0
  pub behind : (j : ℕ) → wl.mapping + lay.operands.n ≤ j → get_or K' j 0 ≡ get_or K j 0

-- the answer r with the words K', by what the mapping becomes; none where an operand is mapped twice
unfoldable pub MapsTo : List ℕ → Layout → WorkLayout → List ℕ → Bool → Option (List Mapped) → Type 0
MapsTo W lay wl K' r none = r ≡ false
MapsTo W lay wl K' r (some ms) = (r ≡ true) × Mapping K' wl.mapping (operands_in W lay) ms

-- r and K' answer what f makes of each mapping that the words K hold
pub record Maps (W K : List ℕ) (lay : Layout) (wl : WorkLayout) (f : List Mapped → Option (List Mapped)) (r : Bool) (K' : List ℕ) : Type 0 where
  pub outside : Outside lay wl K K'
  pub answers : (ms : List Mapped) → Mapping K wl.mapping (operands_in W lay) ms → MapsTo W lay wl K' r (f ms)

-- group g put into word n, if it is 0; K' are the words then
pub record PutAt (K : List ℕ) (n g : ℕ) (r : Bool) (K' : List ℕ) : Type 0 where
  pub taken : r ≡ false → (get_or K n 0 ≡ 0 → ⊥) × (K' ≡ K)
  pub free : r ≡ true → (get_or K n 0 ≡ 0) × (K' ≡ set K n (g + 1))

-- one use
unfoldable pub map_use : VirtRegGroup → Use → List Mapped → Option (List Mapped)
unfolding mapped_at
map_use g u ms = map_one u.pos (slot_of u.kind) g ms
