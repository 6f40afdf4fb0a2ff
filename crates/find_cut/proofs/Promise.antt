-- What an answer without a refusal says, in document 01's words. Assumes nothing.
use Prim.Native.Nat.{ℕ, ◌-◌}
use native.Mathlib.Omega.{arith}
use mathlib.Core.Path.{◌≡◌, refl, sym, ap, ◌∙◌, subst}
use mathlib.Core.Bool.{Bool, true, false}
use mathlib.Core.Option.{Option, none, some}
use mathlib.Core.List.{List}
use Rattle.definition.specs.declared.Inst.{Inst}
use Rattle.definition.specs.declared.BlockData.{BlockData}
use Rattle.definition.specs.declared.Side.{Side}
use Rattle.definition.specs.declared.Refusal.{Refusal}
use Rattle.definition.specs.Types.{inst}
use Rattle.definition.specs.Entry.{cut_to, side_of}
use Rattle.definition.specs.SplitPlacement.{freq_at}
use Rattle.split_placement.specs.Places.{EarlyPlace, LatePlace, EarliestLeast, LatestLeast}
use Rattle.split_placement.proofs.Rules.{early_rule, late_rule}
use Rattle.find_cut.specs.declared.Cut.{Cut}
use Rattle.find_cut.specs.Answer.{blocks_in, side_named, readable, cut_of, cut_answer, cut_refusal}
use Rattle.find_cut.proofs.Tests.{Passed, was_passed}
use Rattle.find_cut.proofs.Answers.{answered, numbered, closed, opened}

by_none : (o : Option Refusal) (bs : List BlockData) (a b : Inst) (side : Side) (i : ℕ) → cut_of (cut_to o bs a b side) ≡ answered 0 i → (o ≡ none) × (i ≡ side_of side bs a.0 b.0)
unfolding cut_of cut_to
by_none none bs a b side i e = (refl, sym (ap (λ (c : Cut). c.inst) e))
by_none (some r) bs a b side i e = absurd (numbered r (sym (ap (λ (c : Cut). c.number) e)))

module _ (s : List ℕ) (a b side i : ℕ) (e : cut_answer s a b side ≡ answered 0 i) where
  could_read : readable s side ≡ true
  unfolding cut_answer cut_of
  could_read = go (readable s side) refl
    where
      go : (t : Bool) → readable s side ≡ t → readable s side ≡ true
      go true f = f
      go false f = absurd (let z : ◌≡◌ {A = ℕ} 1 0 = ap (λ (c : Cut). c.number) (sym (ap cut_of (closed s a b side f)) ∙ e) in omega arith)

  none_failed : (cut_refusal s a b ≡ none) × (i ≡ side_of (side_named side) (blocks_in s) a b)
  unfolding cut_answer
  none_failed = by_none (cut_refusal s a b) (blocks_in s) (inst a) (inst b) (side_named side) i (sym (ap cut_of (opened s a b side could_read)) ∙ e)

  pub all_passed : Passed s a b
  all_passed = was_passed s a b none_failed.0

-- side 0: "among `after`+1 and the block starts above it up to `before`, the earliest whose block frequency is least"
pub early_answer : (s : List ℕ) (after before i : ℕ) → cut_answer s after before 0 ≡ answered 0 i
    → EarliestLeast (EarlyPlace (blocks_in s) after before) (freq_at (blocks_in s)) i
unfolding side_named
early_answer s a b i e =
    subst (λ (c : ℕ). EarliestLeast (EarlyPlace (blocks_in s) a b) (freq_at (blocks_in s)) c) (sym (none_failed s a b 0 i e).1) (early_rule (blocks_in s) a b (all_passed s a b 0 i e).blocks_ok)

-- side 1: "among `before` and the block ends (the instruction after the last) from `after`+1 to it, the latest whose preceding instruction's block frequency is least"
pub late_answer : (s : List ℕ) (after before i : ℕ) → cut_answer s after before 1 ≡ answered 0 i
    → LatestLeast (LatePlace (blocks_in s) after before) (λ p. freq_at (blocks_in s) (p - 1)) i
unfolding side_named
late_answer s a b i e =
    subst (λ (c : ℕ). LatestLeast (LatePlace (blocks_in s) a b) (λ p. freq_at (blocks_in s) (p - 1)) c) (sym (none_failed s a b 1 i e).1) (late_rule (blocks_in s) a b (all_passed s a b 1 i e).blocks_ok)
