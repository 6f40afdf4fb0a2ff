-- What holds of the cuts that the definition's moves make, on a job that meets the entry rules: `cut_least`,
-- `cut_reason`, `cut_elsewhere`. Assumes nothing.
use mathlib.Core.Path.{◌≡◌, refl, sym, ap, ◌∙◌, subst}
use mathlib.Core.Bool.{Bool, true, false, not, cond}
use mathlib.Core.Option.{none}
use mathlib.Core.List.{List}
use Prim.Native.Nat.{ℕ}
use lib.Dec.{T}
use lib.Ieee.{Float, lt}
use Rattle.definition.specs.declared.BlockData.{BlockData}
use Rattle.definition.specs.declared.ClassData.{ClassData}
use Rattle.definition.specs.declared.Inst.{Inst}
use Rattle.definition.specs.declared.RegClass.{RegClass}
use Rattle.definition.specs.declared.Side.{Side}
use Rattle.definition.specs.declared.Side.TheVariants.{Early, Late}
use Rattle.definition.specs.declared.Use.{Use}
use Rattle.definition.specs.Types.{Job, State}
use Rattle.definition.specs.RegInfo.{no_class, class_at}
use Rattle.definition.specs.SplitPlacement.{early_cut, side_of}
use Rattle.definition.specs.Admit.{cut, cut_side, forward_class, end_class, move}
use Rattle.definition.specs.Entry.{block_ok, book_ok, book_tests, class_ok, class_tests, entry, entry_tests, every}
use Rattle.definition.specs.Entry.{function_ok, function_tests, plain}
use Rattle.definition.proofs.Places.{all_get_d, all_map}
use Rattle.definition.proofs.Entries.{every_all, conj_all, lowest_none}
use Rattle.definition.proofs.Moves.{CutAt, pos_at, side_at, move_cut}
use Rattle.weights.proofs.Bits.{le_not_lt, small_plain}
use Rattle.split_placement.specs.Places.{LeastOpen}
use Rattle.split_placement.proofs.Rules.{early_rule, late_rule}

-- the cut of each side is a least one of its open places
pub side_least : (side : Side) (bs : List BlockData) (after before : ℕ) → every block_ok bs ≡ true
    → LeastOpen side bs after before (side_of side bs after before)
side_least Early bs after before ok =
    let r = early_rule bs after before ok in
    record { place = r.place; least = r.least }
side_least Late bs after before ok =
    let r = late_rule bs after before ok in
    record { place = r.place; least = r.least }

plain_of : (cs : List ClassData) (d : ClassData) → class_ok cs d ≡ true → T (plain d.cost)
unfolding class_ok
plain_of cs d e = small_plain d.cost (subst T (sym (conj_all (class_tests cs d) e).1.0) tt)

module _ (job : Job) (ok : entry job ≡ none) where
  blocks_ok : every block_ok job.blocks ≡ true
  unfolding function_ok entry
  blocks_ok = (conj_all (function_tests job) (lowest_none (entry_tests job) ok).1.1.0).0

  cost_plain : (c : RegClass) → T (plain (class_at job c).cost)
  unfolding book_ok class_at entry
  cost_plain c =
      let book = (conj_all (book_tests job) (lowest_none (entry_tests job) ok).1.0).1.1.0 in
      all_get_d (λ (d : ClassData). T (plain d.cost)) job.classes c.0 no_class
      (all_map (λ (d : ClassData). class_ok job.classes d ≡ true) (λ (d : ClassData). T (plain d.cost))
      (plain_of job.classes) job.classes (every_all (class_ok job.classes) job.classes book)) tt

  module _ (st : State) (top : RegClass) (us : List Use) (p : Inst) (m : move job st top us ≡ cut p) where
    -- the start and the end that the scans found
    abbrev pub found : CutAt job st top us p
    found = move_cut job st top us p m

    abbrev pub side : Side
    side = side_at job st top us found.end

    abbrev pub after : ℕ
    after = pos_at job st top us found.start

    abbrev pub before : ℕ
    before = pos_at job st top us found.end

    -- the costs that are compared
    abbrev pub forward_cost : Float
    forward_cost = (class_at job (forward_class job st top us)).cost

    abbrev pub end_cost : Float
    end_cost = (class_at job (end_class job st top us found.end)).cost

    -- No open place of the cut's side, between that start and that end, has a lower frequency. Ruled out: a cut at the
    -- end of the dearer of two blocks; the least place between two other instructions.
    pub cut_least : LeastOpen side job.blocks after before p.0
    cut_least =
        subst (LeastOpen side job.blocks after before) (sym found.place)
        (side_least side job.blocks after before blocks_ok)

    leans : side ≡ cond (lt forward_cost end_cost) Late Early
    unfolding cut_side
    leans =
        ap (λ (t : Bool). cond t Early Late) (le_not_lt end_cost forward_cost (cost_plain _) (cost_plain _))
        ∙ go (lt forward_cost end_cost)
      where
        go : (t : Bool) → cond (not t) Early Late ≡ cond t Late Early
        go true = refl
        go false = refl

    -- No cut without a reason: it is late exactly where the class at the end costs more. (The side is the one by which
    -- the cut has its place, `found.place`.) Ruled out: a late cut between equal costs; an early one where the end
    -- costs more.
    pub cut_reason : (side ≡ Late → lt forward_cost end_cost ≡ true) × (lt forward_cost end_cost ≡ true → side ≡ Late)
    cut_reason =
        (λ e. go (lt forward_cost end_cost) refl (sym e ∙ leans), λ e. leans ∙ ap (λ (t : Bool). cond t Late Early) e)
      where
        go : (t : Bool) → lt forward_cost end_cost ≡ t → Late ≡ cond t Late Early → lt forward_cost end_cost ≡ true
        go true e f = e
        go false e f = cc

    -- so a cut lies elsewhere than the early rule has it only where the class at the end costs more
    pub cut_elsewhere : (p.0 ≡ early_cut job.blocks after before → ⊥) → lt forward_cost end_cost ≡ true
    cut_elsewhere n = go side refl
      where
        go : (d : Side) → side ≡ d → lt forward_cost end_cost ≡ true
        go Late e = cut_reason.0 e
        go Early e = absurd (n (found.place ∙ ap (λ (d : Side). side_of d job.blocks after before) e))
