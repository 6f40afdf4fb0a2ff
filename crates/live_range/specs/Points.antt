-- The slot of a point. Assumes nothing.
use Rattle.std.specs.Prelude.{◌≡◌, refl, ℕ, zero, suc, ◌+◌, ◌*◌, ◌/◌, ◌%◌, ◌<◌}
use Rattle.std.proofs.Common.{ap, arith}
use Rattle.definition.specs.declared.Slot.{Slot}
use Rattle.definition.specs.declared.Slot.TheVariants.{Boundary, Normal}
use Rattle.definition.specs.declared.LiveRangePoint.{LiveRangePoint}
use Rattle.definition.specs.Types.{inst, point}
use Rattle.definition.specs.LiveRange.{slot_number, point_at, inst_of}

abbrev pub slot_at : ℕ → Slot
slot_at zero = Boundary
slot_at (suc zero) = Slot.Early
slot_at (suc (suc n)) = Normal

-- 3 is no slot: rule 6 refuses it
abbrev pub slot_of : LiveRangePoint → Slot
slot_of q = slot_at (q.0 % 4)

slot_number_lem : (n : ℕ) → n < 3 → slot_number (slot_at n) ≡ n
slot_number_lem zero h = refl
slot_number_lem (suc zero) h = refl
slot_number_lem (suc (suc zero)) h = refl
slot_number_lem (suc (suc (suc n))) h = absurd (omega arith)

-- a point is the point at its slot of its instruction
pub point_parts : (q : LiveRangePoint) → q.0 % 4 < 3 → point_at (inst (inst_of q)) (slot_of q) ≡ q
point_parts q h = let e : 4 * (q.0 / 4) + slot_number (slot_at (q.0 % 4)) ≡ q.0 = omega (arith, slot_number_lem (q.0 % 4) h) in ap point e

pub slot_rest : (n : ℕ) → (n ≡ 0 → ⊥) → (n ≡ 1 → ⊥) → slot_at n ≡ Normal
slot_rest zero a b = absurd (a refl)
slot_rest (suc zero) a b = absurd (b refl)
slot_rest (suc (suc n)) a b = refl
