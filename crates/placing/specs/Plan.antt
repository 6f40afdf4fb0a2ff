-- Placing a register told in two: what is decided, which reads only, and what is carried out. Assumes nothing.
use Rattle.std.specs.Prelude.{ℕ, Bool, true, false, cond, ◌||◌, List, [], length}
use Rattle.std.proofs.Math.Option.{Option, none, some}
use Rattle.definition.specs.declared.VirtReg.{VirtReg}
use Rattle.definition.specs.declared.VirtRegGroup.{VirtRegGroup}
use Rattle.definition.specs.declared.ValueSet.{ValueSet}
use Rattle.definition.specs.declared.Stop.TheVariants.{MappedTwice, Overlap}
use Rattle.definition.specs.declared.Refusal.TheVariants.{Stopped, Full}
use Rattle.definition.specs.Types.{Job, Room, HeldGroup, Held, Piece, Mapped, State, Out, done, refused, vrgroup}
use Rattle.definition.specs.Admit.{register_at}
use Rattle.definition.specs.Place.{has_room, first_from, last_to, overlaps, segs_of, uses_of, map_uses, is_none, or_else, alone_state, lead_state, join_state, merge_state}
use Rattle.vregs_write.specs.Ends.{ends_by}
use Rattle.placing.specs.declared.plan.Plan.{Plan}
use Rattle.placing.specs.declared.plan.Plan.TheVariants as plans

-- ---- the way, by what is held

-- "A new group maps every group operand of its register": what the mapping becomes, none where an operand is mapped twice
unfoldable pub maps_to : List Piece → State → Option (List Mapped)
unfolding map_uses uses_of
maps_to new st = map_uses (vrgroup (length st.groups)) (uses_of (segs_of new)) st.mapping

-- in a group: a new one, an empty place of it, or the register there; `twice`: an operand would be mapped twice
unfoldable pub way_group : Bool → ℕ → List Piece → State → Option VirtRegGroup → Option VirtReg → Plan
unfolding overlaps first_from last_to register_at ends_by
way_group twice i new st none t = cond twice (plans.Stop MappedTwice) (plans.Lead i)
way_group twice i new st (some g) none = plans.Join g i
way_group twice i new st (some g) (some v) =
    cond (overlaps (first_from new) (last_to new) (register_at st v).pieces) (plans.Stop Overlap) (plans.Merge g v i (ends_by (first_from new) (register_at st v).pieces))

unfoldable pub way_by : Bool → List Piece → State → Option HeldGroup → Option VirtReg → Plan
unfolding way_group
way_by twice new st none t = plans.Alone
way_by twice new st (some hg) t = way_group twice hg.index new st hg.mapped t

-- ---- room for it

abbrev pub is_stop : Plan → Bool
is_stop plans.Alone = false
is_stop (plans.Lead i) = false
is_stop (plans.Join g i) = false
is_stop (plans.Merge g v i k) = false
is_stop (plans.Stop s) = true
is_stop plans.Full = false

-- the registers that it adds: "merging adds no register"
abbrev pub registers_more : Plan → ℕ
registers_more plans.Alone = 1
registers_more (plans.Lead i) = 1
registers_more (plans.Join g i) = 1
registers_more (plans.Merge g v i k) = 0
registers_more (plans.Stop s) = 0
registers_more plans.Full = 0

-- the groups that it adds
abbrev pub groups_more : Plan → ℕ
groups_more plans.Alone = 0
groups_more (plans.Lead i) = 1
groups_more (plans.Join g i) = 0
groups_more (plans.Merge g v i k) = 0
groups_more (plans.Stop s) = 0
groups_more plans.Full = 0

-- "8 if one register meets both": a stop stays one, whatever room there is
unfoldable pub by_room : Room → List Piece → State → Plan → Plan
unfolding has_room
by_room room new st p = cond (is_stop p || has_room room st (registers_more p) (groups_more p) new) p plans.Full

-- ---- the plan

unfoldable pub plan_from : Bool → Room → Held → List Piece → State → Plan
unfolding by_room way_by
plan_from twice room h new st = by_room room new st (way_by twice new st h.group h.target)

unfoldable pub plan_of : Room → Held → List Piece → State → Plan
unfolding plan_from maps_to
plan_of room h new st = plan_from (is_none (maps_to new st)) room h new st

-- ---- what is carried out

-- a place in a group, of which the four states ask no more
abbrev pub held_at : ℕ → HeldGroup
held_at i = record { index = i; mapped = none; sets = [] }

unfoldable pub carry_out : Job → ValueSet → Held → List Piece → State → Plan → Out State
unfolding alone_state lead_state join_state merge_state maps_to
carry_out job set' h new st plans.Alone = done (alone_state job set' h new st)
carry_out job set' h new st (plans.Lead i) = done (lead_state job set' h (held_at i) new st (or_else (maps_to new st) []))
carry_out job set' h new st (plans.Join g i) = done (join_state job set' h (held_at i) g new st)
carry_out job set' h new st (plans.Merge g v i k) = done (merge_state job h (held_at i) g v new st)
carry_out job set' h new st (plans.Stop s) = refused (Stopped s)
carry_out job set' h new st plans.Full = refused Full
