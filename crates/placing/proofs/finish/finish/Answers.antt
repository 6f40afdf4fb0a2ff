use native.Mathlib.Omega.{arith}
use mathlib.Core.Path.{refl, sym, ap, subst, ◌∙◌}
use Rattle.words.specs.Words.{words_of}
use Rattle.words.specs.Laws.{length_words}
use Rattle.placing.specs.Ready.{group_more}
use Rattle.placing.specs.Laws.{spreadable_row, left_alone, left_lead, left_join, left_merge}
use Rattle.placing.specs.declared.plan.Plan.{Plan}
use Rattle.placing.specs.Plan.{held_at}
use Rattle.placing.specs.Filling.{Finishable, counts_by}
use Rattle.placing.proofs.Arms.{arm_alone, arm_lead, arm_join, arm_merge}
use Rattle.placing.proofs.finish.finish.Goals as goal

pub class_data-size-requires : goal.class_data-size-requires
class_data-size-requires c = c.requires.0

pub spread-requires : goal.spread-requires
spread-requires c = let a = c.requires in
    let p = c.add_register-n-in-Join in
    let k = subst (λ (q : Plan). Finishable c.args.fr.now.ol (words_of c.args.out.now) c.args.c.now c.args.new.now q) c.in-Join.is a.2 in
    (omega (arith, a.1, p), spreadable_row _ _ _ _ _ _ p.ensures.1 k.0.regs (omega (arith, a.1, length_words c.args.out.now)) k.1)

pub returns-in-Alone-clause-left : goal.returns-in-Alone-clause-left
returns-in-Alone-clause-left c = let p = c.add_register.ensures in
    let k = subst (λ (q : Plan). Finishable c.args.fr.now.ol (words_of c.args.out.now) c.args.c.now c.args.new.now q) c.in-Alone.is c.requires.2 in
    λ O st ps h ek. arm_alone _ _ _ O _ _ st ps _ _ _ h _ _ _ c.in-Alone.is (λ r b. left_alone _ _ O _ _ _ _ _ st ps r k _ _ h _ _ _ b c.args.w.weighs ek p.0 p.1)

pub returns-in-Lead-clause-left : goal.returns-in-Lead-clause-left
returns-in-Lead-clause-left c = let p = c.add_register-n.ensures in
    let k = subst (λ (q : Plan). Finishable c.args.fr.now.ol (words_of c.args.out.now) c.args.c.now c.args.new.now q) c.in-Lead.is c.requires.2 in
    λ O st ps h ek.
    arm_lead _ _ _ O _ _ st ps _ _ _ h _ _ _ _ c.in-Lead.is
    (λ r hi hs b. left_lead _ _ O _ _ _ _ _ st ps r k.0 _ _ h (held_at _) _ _ _ _ _ _ _ _ b c.args.w.weighs ek refl k.1 hi hs p.0 p.1 c.class_data-size.ensures.0 (ap group_more refl) c.add_group.ensures)

pub returns-in-Join-clause-left : goal.returns-in-Join-clause-left
returns-in-Join-clause-left c = let p = c.add_register-n-in-Join.ensures in
    let l = c.least_weight-least in
    let k = subst (λ (q : Plan). Finishable c.args.fr.now.ol (words_of c.args.out.now) c.args.c.now c.args.new.now q) c.in-Join.is c.requires.2 in
    λ O st ps h ek.
    arm_join _ _ _ O _ _ st ps _ _ _ h _ _ _ _ _ c.in-Join.is
    (λ r here hi b. left_join _ _ O _ _ _ _ _ st ps r k.0 _ _ h (held_at _) _ _ _ _ _ _ _ _ b l.ensures l.result.weighs ek refl here hi p.0 p.1 c.spread.ensures c.set_member.ensures)

pub returns-in-Merge-clause-left : goal.returns-in-Merge-clause-left
returns-in-Merge-clause-left c = let l = c.least_weight-least-in-Merge in
    λ O st ps h ek.
    arm_merge _ _ _ O _ _ st ps _ _ _ h _ _ _ _ _ _ _ c.in-Merge.is
    (λ f here b. left_merge _ _ _ _ _ _ _ _ _ st ps _ h (held_at _) _ _ _ _ f b l.ensures l.result.weighs ek refl here refl c.spread-in-Merge.ensures)

-- how many rows are in use then
pub returns-in-Alone-clause-counted : goal.returns-in-Alone-clause-counted
returns-in-Alone-clause-counted c =
    c.add_register.ensures.0 ∙ ap (λ (q : Plan). counts_by q c.args.c.now c.args.new.now) (sym c.in-Alone.is)

pub returns-in-Lead-clause-counted : goal.returns-in-Lead-clause-counted
returns-in-Lead-clause-counted c =
    ap group_more c.add_register-n.ensures.0
    ∙ ap (λ (q : Plan). counts_by q c.args.c.now c.args.new.now) (sym c.in-Lead.is)

pub returns-in-Join-clause-counted : goal.returns-in-Join-clause-counted
returns-in-Join-clause-counted c =
    c.add_register-n-in-Join.ensures.0 ∙ ap (λ (q : Plan). counts_by q c.args.c.now c.args.new.now) (sym c.in-Join.is)

pub returns-in-Merge-clause-counted : goal.returns-in-Merge-clause-counted
returns-in-Merge-clause-counted c = ap (λ (q : Plan). counts_by q c.args.c.now c.args.new.now) (sym c.in-Merge.is)
