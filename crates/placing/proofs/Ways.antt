-- Each way through the code answers the definition's plan. Assumes nothing.
use Rattle.std.specs.Prelude.{◌≡◌, refl, ℕ, Bool, true, false, cond, not, ◌||◌, List, None, Some}
use Rattle.std.specs.Prelude as code
use Rattle.std.proofs.Common.{sym, ap, ◌∙◌, arith}
use mathlib.Core.Path.{ap₂}
use Rattle.std.proofs.Math.Option.{none, some}
use Rattle.definition.specs.declared.LiveRangePoint.{LiveRangePoint}
use Rattle.definition.specs.declared.VirtReg.{VirtReg}
use Rattle.definition.specs.declared.VirtRegGroup.{VirtRegGroup}
use Rattle.definition.specs.declared.Stop.TheVariants.{MappedTwice, Overlap}
use Rattle.definition.specs.Types.{Room, Piece, State}
use Rattle.definition.specs.Admit.{register_at}
use Rattle.definition.specs.Place.{has_room, overlaps, first_from, last_to}
use Rattle.vregs_write.specs.Ends.{ends_by, pick_place, place_of}
use Rattle.constraints.specs.Places.{option_of}
use Rattle.constraints.specs.declared.Held.{Held}
use Rattle.constraints.specs.declared.HeldGroup.{HeldGroup}
use Rattle.constraints.specs.Held.{group_of, held_of}
use Rattle.placing.specs.declared.plan.Plan.{Plan}
use Rattle.placing.specs.declared.plan.Plan.TheVariants as plans
use Rattle.placing.specs.declared.plan.Measures.{Measures}
use Rattle.placing.specs.Plan.{is_stop, registers_more, groups_more, way_group, way_by, by_room, plan_from}
use Rattle.placing.specs.Asked.{Measured}

-- ---- the way in a group

-- a new group
module _ (i : ℕ) (st : State) (ps : List Piece) where
  pub to_lead : (free : Bool) (t : _) → free ≡ true → plans.Lead i ≡ way_group (not free) i ps st none t
  unfolding way_group
  to_lead true t e = refl
  to_lead false t e = absurd (let z : ◌≡◌ {A = ℕ} 0 1 = cc in omega arith)

  pub to_twice : (free : Bool) (t : _) → free ≡ false → plans.Stop MappedTwice ≡ way_group (not free) i ps st none t
  unfolding way_group
  to_twice false t e = refl
  to_twice true t e = absurd (let z : ◌≡◌ {A = ℕ} 0 1 = cc in omega arith)

-- an empty place of a group, or the register there
module _ (twice : Bool) (g : VirtRegGroup) (i : ℕ) (st : State) (ps : List Piece) (t : code.Option VirtReg) where
  pub to_join : t ≡ None → plans.Join g i ≡ way_group twice i ps st (some g) (option_of t)
  unfolding way_group
  to_join e = ap (λ (x : code.Option VirtReg). way_group twice i ps st (some g) (option_of x)) (sym e)

  module _ (v : VirtReg) (e : t ≡ Some v) (m : Measures) (s : Measured ps m) (x : code.Option ℕ) (ex : x ≡ place_of m.«from» m.to (register_at st v).pieces) where
    there : x ≡ pick_place (overlaps (first_from ps) (last_to ps) (register_at st v).pieces) (ends_by (first_from ps) (register_at st v).pieces)
    unfolding place_of
    there = ex ∙ ap₂ (λ (a b : LiveRangePoint). place_of a b (register_at st v).pieces) s.begin s.end

    target : way_group twice i ps st (some g) (some v) ≡ way_group twice i ps st (some g) (option_of t)
    target = ap (λ (y : code.Option VirtReg). way_group twice i ps st (some g) (option_of y)) (sym e)

    pub to_overlap : x ≡ None → plans.Stop Overlap ≡ way_group twice i ps st (some g) (option_of t)
    unfolding way_group
    to_overlap n = go (overlaps (first_from ps) (last_to ps) (register_at st v).pieces) (sym n ∙ there) ∙ target
      where
        go : (b : Bool) → None ≡ pick_place b (ends_by (first_from ps) (register_at st v).pieces) → plans.Stop Overlap ≡ cond b (plans.Stop Overlap) (plans.Merge g v i (ends_by (first_from ps) (register_at st v).pieces))
        go true f = refl
        go false f = absurd (let z : ◌≡◌ {A = ℕ} 0 1 = cc in omega arith)

    pub to_merge : (k : ℕ) → x ≡ Some k → plans.Merge g v i k ≡ way_group twice i ps st (some g) (option_of t)
    unfolding way_group
    to_merge k n = go (overlaps (first_from ps) (last_to ps) (register_at st v).pieces) (sym n ∙ there) ∙ target
      where
        go : (b : Bool) → Some k ≡ pick_place b (ends_by (first_from ps) (register_at st v).pieces) → plans.Merge g v i k ≡ cond b (plans.Stop Overlap) (plans.Merge g v i (ends_by (first_from ps) (register_at st v).pieces))
        go true f = absurd (let z : ◌≡◌ {A = ℕ} 0 1 = cc in omega arith)
        go false f = let q : k ≡ ends_by (first_from ps) (register_at st v).pieces = cc in ap (λ (n : ℕ). plans.Merge g v i n) q

-- ---- by what is held

module _ (twice : Bool) (st : State) (ps : List Piece) (h : Held) where
  pub to_alone : h.group ≡ None → plans.Alone ≡ way_by twice ps st (group_of h.group) (option_of h.target)
  unfolding way_by
  to_alone e = ap (λ (o : code.Option HeldGroup). way_by twice ps st (group_of o) (option_of h.target)) (sym e)

  pub to_group : (g : HeldGroup) → h.group ≡ Some g → (m : code.Option VirtRegGroup) → g.mapped ≡ m → way_group twice g.index ps st (option_of m) (option_of h.target) ≡ way_by twice ps st (group_of h.group) (option_of h.target)
  unfolding way_by
  to_group g e m q =
      ap (λ (x : code.Option VirtRegGroup). way_group twice g.index ps st (option_of x) (option_of h.target)) (sym q)
      ∙ ap (λ (o : code.Option HeldGroup). way_by twice ps st (group_of o) (option_of h.target)) (sym e)

-- ---- with the room for it

module _ (twice : Bool) (room : Room) (st : State) (ps : List Piece) (h : Held) (p : Plan) (e : p ≡ way_by twice ps st (group_of h.group) (option_of h.target)) where
  planned : by_room room ps st p ≡ plan_from twice room (held_of h) ps st
  unfolding plan_from held_of
  planned = ap (λ (q : Plan). by_room room ps st q) e

  pub to_stop : is_stop p ≡ true → p ≡ plan_from twice room (held_of h) ps st
  unfolding by_room
  to_stop s = ap (λ (b : Bool). cond (b || has_room room st (registers_more p) (groups_more p) ps) p plans.Full) (sym s) ∙ planned

  module _ (r g : ℕ) (er : r ≡ registers_more p) (eg : g ≡ groups_more p) (b : Bool) (eb : b ≡ has_room room st r g ps) (s : is_stop p ≡ false) where
    said : b ≡ has_room room st (registers_more p) (groups_more p) ps
    said = eb ∙ ap₂ (λ (m n : ℕ). has_room room st m n ps) er eg

    looked : cond b p plans.Full ≡ plan_from twice room (held_of h) ps st
    unfolding by_room
    looked = ap₂ (λ (x y : Bool). cond (x || y) p plans.Full) (sym s) said ∙ planned

    pub to_way : b ≡ true → p ≡ plan_from twice room (held_of h) ps st
    to_way t = ap (λ (x : Bool). cond x p plans.Full) (sym t) ∙ looked

    pub to_full : b ≡ false → plans.Full ≡ plan_from twice room (held_of h) ps st
    to_full t = ap (λ (x : Bool). cond x p plans.Full) (sym t) ∙ looked
