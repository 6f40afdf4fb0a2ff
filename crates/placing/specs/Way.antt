-- What a plan says of the state and the pieces that it was made for. Assumes nothing.
use Rattle.std.specs.Prelude.{◌≡◌, refl, ℕ, Bool, true, false, cond, ◌||◌, Option, is_none, None, Some, List, Ok}
use Rattle.std.proofs.Common.{sym, ap, ◌∙◌, subst, arith}
use Rattle.std.proofs.Math.Option as math
use Rattle.definition.specs.declared.VirtReg.{VirtReg}
use Rattle.definition.specs.declared.VirtRegGroup.{VirtRegGroup}
use Rattle.definition.specs.declared.Stop.TheVariants.{MappedTwice, Overlap}
use Rattle.definition.specs.Types.{Room, Piece, State}
use Rattle.definition.specs.Admit.{register_at}
use Rattle.definition.specs.Place.{has_room, overlaps, first_from, last_to}
use Rattle.vregs_write.specs.Ends.{ends_by}
use Rattle.constraints.specs.Places.{option_of}
use Rattle.constraints.specs.declared.Held.{Held}
use Rattle.constraints.specs.declared.HeldGroup.{HeldGroup}
use Rattle.constraints.specs.Held.{group_of, held_of}
use Rattle.placing.specs.declared.plan.Plan.{Plan}
use Rattle.placing.specs.declared.plan.Plan.TheVariants as plans
use Rattle.placing.specs.Plan.{is_stop, registers_more, groups_more, way_group, way_by, by_room, plan_from}
use Rattle.placing.specs.Asked.{leads}
use Rattle.placing.specs.PlanEnds.{placed_by}

-- what is held has a place i of a group, mapped so
pub record Grouped (h : Held) (m : Option VirtRegGroup) (i : ℕ) : Type 0 where
  pub group : HeldGroup
  pub held : h.group ≡ Some group
  pub mapped : group.mapped ≡ m
  pub index : group.index ≡ i

pub record LeadWay (twice : Bool) (h : Held) (i : ℕ) : Type 0 where
  pub free : twice ≡ false
  pub grouped : Grouped h None i

pub record MergeWay (h : Held) (ps : List Piece) (st : State) (g : VirtRegGroup) (v : VirtReg) (i k : ℕ) : Type 0 where
  pub apart : overlaps (first_from ps) (last_to ps) (register_at st v).pieces ≡ false
  pub grouped : Grouped h (Some g) i
  pub target : h.target ≡ Some v
  pub place : k ≡ ends_by (first_from ps) (register_at st v).pieces

-- what a way says of what is held; a stop and a full table are none
abbrev pub Way : Bool → Held → List Piece → State → Plan → Type 0
Way twice h ps st plans.Alone = h.group ≡ None
Way twice h ps st (plans.Lead i) = LeadWay twice h i
Way twice h ps st (plans.Join g i) = Grouped h (Some g) i
Way twice h ps st (plans.Merge g v i k) = MergeWay h ps st g v i k
Way twice h ps st (plans.Stop s) = ⊥
Way twice h ps st plans.Full = ⊥

-- a plan that is one of the four ways, and the room that it found
pub record Planned (twice : Bool) (room : Room) (h : Held) (ps : List Piece) (st : State) (p : Plan) : Type 0 where
  pub room' : has_room room st (registers_more p) (groups_more p) ps ≡ true
  pub way : Way twice h ps st p

module _ (twice : Bool) (h : Held) (ps : List Piece) (st : State) where
  in_group : (g : HeldGroup) (m : Option VirtRegGroup) (t : Option VirtReg) → h.group ≡ Some g → g.mapped ≡ m → h.target ≡ t
      → placed_by (way_group twice g.index ps st (option_of m) (option_of t)) ≡ Ok tt → Way twice h ps st (way_group twice g.index ps st (option_of m) (option_of t))
  unfolding way_group
  in_group g None t e q r = go twice refl
    where
      go : (b : Bool) → twice ≡ b → placed_by (cond b (plans.Stop MappedTwice) (plans.Lead g.index)) ≡ Ok tt → Way twice h ps st (cond b (plans.Stop MappedTwice) (plans.Lead g.index))
      go true x w = absurd (let z : ◌≡◌ {A = ℕ} 0 1 = cc in omega arith)
      go false x w = record { free = x; grouped = record { group = g; held = e; mapped = q; index = refl } }
  in_group g (Some m) None e q r = λ w. record { group = g; held = e; mapped = q; index = refl }
  in_group g (Some m) (Some v) e q r = go (overlaps (first_from ps) (last_to ps) (register_at st v).pieces) refl
    where
      go : (b : Bool) → overlaps (first_from ps) (last_to ps) (register_at st v).pieces ≡ b
          → placed_by (cond b (plans.Stop Overlap) (plans.Merge m v g.index (ends_by (first_from ps) (register_at st v).pieces))) ≡ Ok tt
          → Way twice h ps st (cond b (plans.Stop Overlap) (plans.Merge m v g.index (ends_by (first_from ps) (register_at st v).pieces)))
      go true x w = absurd (let z : ◌≡◌ {A = ℕ} 0 1 = cc in omega arith)
      go false x w = record { apart = x; grouped = record { group = g; held = e; mapped = q; index = refl }; target = r; place = refl }

  by_held : (o : Option HeldGroup) → h.group ≡ o → placed_by (way_by twice ps st (group_of o) (option_of h.target)) ≡ Ok tt → Way twice h ps st (way_by twice ps st (group_of o) (option_of h.target))
  unfolding way_by
  by_held None e w = e
  by_held (Some g) e w = in_group g g.mapped h.target e refl refl w

-- no stop is a way
stop_placed : (q : Plan) → is_stop q ≡ true → placed_by q ≡ Ok tt → ⊥
stop_placed plans.Alone e w = let z : ◌≡◌ {A = ℕ} 0 1 = cc in omega arith
stop_placed (plans.Lead i) e w = let z : ◌≡◌ {A = ℕ} 0 1 = cc in omega arith
stop_placed (plans.Join g i) e w = let z : ◌≡◌ {A = ℕ} 0 1 = cc in omega arith
stop_placed (plans.Merge g v i k) e w = let z : ◌≡◌ {A = ℕ} 0 1 = cc in omega arith
stop_placed (plans.Stop s) e w = let z : ◌≡◌ {A = ℕ} 0 1 = cc in omega arith
stop_placed plans.Full e w = let z : ◌≡◌ {A = ℕ} 0 1 = cc in omega arith

-- where a plan is a way, it is the one that what is held leads, and there is room for it
passed : (s m : Bool) (q p : Plan) → is_stop q ≡ s → p ≡ cond (s || m) q plans.Full → placed_by p ≡ Ok tt → (m ≡ true) × (p ≡ q)
passed true m q p es e w = absurd (stop_placed q es (sym (ap placed_by e) ∙ w))
passed false true q p es e w = (refl, e)
passed false false q p es e w = absurd (let x = sym (ap placed_by e) ∙ w in let z : ◌≡◌ {A = ℕ} 0 1 = cc in omega arith)

pub planned_way : (twice : Bool) (room : Room) (h : Held) (ps : List Piece) (st : State) (p : Plan) → p ≡ plan_from twice room (held_of h) ps st → placed_by p ≡ Ok tt → Planned twice room h ps st p
unfolding plan_from by_room held_of
planned_way twice room h ps st p e w =
    let q : Plan = way_by twice ps st (group_of h.group) (option_of h.target) in
    let k = passed (is_stop q) (has_room room st (registers_more q) (groups_more q) ps) q p refl e w in
    record {
      room' = ap (λ (x : Plan). has_room room st (registers_more x) (groups_more x) ps) k.1 ∙ k.0;
      way = subst (λ (x : Plan). Way twice h ps st x) (sym k.1) (by_held twice h ps st h.group refl (sym (ap placed_by k.1) ∙ w));
    }

-- the plan asks whether an operand would be mapped twice only where a new group is to be made
pub plan_agrees : (twice x : Bool) (room : Room) (h : Held) (ps : List Piece) (st : State) → (leads h.group ≡ true → twice ≡ x) → plan_from twice room (held_of h) ps st ≡ plan_from x room (held_of h) ps st
unfolding plan_from way_by way_group held_of
plan_agrees twice x room h ps st f = ap (λ (p : Plan). by_room room ps st p) (go h.group f)
  where
    by : (g : HeldGroup) (m : Option VirtRegGroup) (t : Option VirtReg) → (is_none m ≡ true → twice ≡ x)
        → way_group twice g.index ps st (option_of m) (option_of t) ≡ way_group x g.index ps st (option_of m) (option_of t)
    by g None t k = ap (λ (y : Bool). way_group y g.index ps st math.none (option_of t)) (k refl)
    by g (Some m) None k = refl
    by g (Some m) (Some v) k = refl

    go : (o : Option HeldGroup) → (leads o ≡ true → twice ≡ x) → way_by twice ps st (group_of o) (option_of h.target) ≡ way_by x ps st (group_of o) (option_of h.target)
    go None k = refl
    go (Some g) k = by g g.mapped h.target k
