-- To place is to plan and to carry out: the definition's `place` falls into the two. Assumes nothing.
use Rattle.std.specs.Prelude.{◌≡◌, refl, ℕ, Bool, true, false, cond, ◌||◌, List, []}
use Rattle.std.proofs.Common.{sym, arith}
use Rattle.std.proofs.Math.Option.{Option, none, some}
use Rattle.definition.specs.declared.ValueSet.{ValueSet}
use Rattle.definition.specs.declared.VirtReg.{VirtReg}
use Rattle.definition.specs.declared.VirtRegGroup.{VirtRegGroup}
use Rattle.definition.specs.declared.Stop.{Stop}
use Rattle.definition.specs.declared.Stop.TheVariants.{MappedTwice, Overlap}
use Rattle.definition.specs.Types.{Job, Room, HeldGroup, Held, Piece, State, done}
use Rattle.definition.specs.Admit.{register_at}
use Rattle.definition.specs.Place.{if_room, gate, has_room, first_from, last_to, overlaps, is_none, or_else, alone_state, lead_state, join_state, merge_state, alone, lead, join, merge, place_group, place_by, place}
use Rattle.vregs_write.specs.Ends.{ends_by}
use Rattle.placing.specs.declared.plan.Plan.{Plan}
use Rattle.placing.specs.declared.plan.Plan.TheVariants as plans
use Rattle.placing.specs.Plan.{maps_to, way_group, way_by, is_stop, registers_more, groups_more, by_room, plan_from, plan_of, carry_out}

module _ (job : Job) (room : Room) (vs : ValueSet) (h : Held) (new : List Piece) (st : State) where
  -- room for a way is room for its state
  room_gate : (s m : Bool) (p : Plan) (st' : State) → s ≡ false → carry_out job vs h new st p ≡ done st' → if_room m st' ≡ carry_out job vs h new st (cond (s || m) p plans.Full)
  unfolding if_room carry_out
  room_gate false true p st' n e = sym e
  room_gate false false p st' n e = refl
  room_gate true m p st' n e = absurd (let z : ◌≡◌ {A = ℕ} 0 1 = cc in omega arith)

  carry_room : (p : Plan) (st' : State) → is_stop p ≡ false → carry_out job vs h new st p ≡ done st'
      → if_room (has_room room st (registers_more p) (groups_more p) new) st' ≡ carry_out job vs h new st (by_room room new st p)
  unfolding by_room
  carry_room p st' n e = room_gate (is_stop p) (has_room room st (registers_more p) (groups_more p) new) p st' n e

  -- the gate of a state is the gate of its plan
  carry_gate : (b : Bool) (s : Stop) (p : Plan) (st' : State) → is_stop p ≡ false → carry_out job vs h new st p ≡ done st'
      → gate b s (has_room room st (registers_more p) (groups_more p) new) st' ≡ carry_out job vs h new st (by_room room new st (cond b (plans.Stop s) p))
  unfolding gate by_room carry_out
  carry_gate true s p st' n e = refl
  carry_gate false s p st' n e = carry_room p st' n e

  carry_group : (hg : HeldGroup) (g : Option VirtRegGroup) (t : Option VirtReg)
      → place_group job room vs h new st hg g t ≡ carry_out job vs h new st (by_room room new st (way_group (is_none (maps_to new st)) hg.index new st g t))
  unfolding place_group way_group lead join merge carry_out maps_to lead_state join_state merge_state
  carry_group hg none t = carry_gate (is_none (maps_to new st)) MappedTwice (plans.Lead hg.index) (lead_state job vs h hg new st (or_else (maps_to new st) [])) refl refl
  carry_group hg (some g) none = carry_room (plans.Join g hg.index) (join_state job vs h hg g new st) refl refl
  carry_group hg (some g) (some v) =
      carry_gate (overlaps (first_from new) (last_to new) (register_at st v).pieces) Overlap (plans.Merge g v hg.index (ends_by (first_from new) (register_at st v).pieces)) (merge_state job h hg g v new st) refl refl

  carry_by : (hg : Option HeldGroup) → place_by job room vs h new st hg ≡ carry_out job vs h new st (by_room room new st (way_by (is_none (maps_to new st)) new st hg h.target))
  unfolding place_by way_by alone carry_out
  carry_by none = carry_room plans.Alone (alone_state job vs h new st) refl refl
  carry_by (some hg) = carry_group hg hg.mapped h.target

  -- the law
  pub place_planned : place job room vs h new st ≡ carry_out job vs h new st (plan_of room h new st)
  unfolding place plan_of plan_from
  place_planned = carry_by h.group
