use Rattle.std.proofs.Common.{refl, ◌∙◌, sym, arith, rules}
use Rattle.vregs_answer.proofs.Replaying.{missed_one, replaying_start, replaying_out}
use Rattle.vregs_answer.proofs.Replaying.{replaying_end, replaying_unwritten, replaying_next}
use Rattle.vregs_answer.proofs.report.replay.Goals as goal

pub loop-init : goal.loop-init
loop-init g c = (refl, refl, refl, replaying_start _ _ _ _ _ _ c.requires.0 c.requires.1)

pub next_answer-requires : goal.next_answer-requires
next_answer-requires g c = let i = c.loop.invariant in
    let p = c.requires in
    (i.3.in_bound, omega (arith, i.1, p.2), omega (arith, i.2, p.3))

pub overflow_add-answers : goal.overflow_add-answers
overflow_add-answers g c = omega (arith, c.loop.invariant.3.few, c.loop-test.true)

pub overflow_add-differ : goal.overflow_add-differ
overflow_add-differ g c = let i = c.loop.invariant in
    omega (arith, i.3.few, i.3.less, c.loop-test.true, c.missed-differ.ensures, missed_one c.in-Ok.same)

pub tell-requires : goal.tell-requires
tell-requires g c = c.loop.invariant.3.out_bound

pub returns-then-cut : goal.returns-then-cut
returns-then-cut g c = replaying_unwritten _ _ _ _ _ _ _ _ _ _ _ _ c.loop.invariant.3 _ _ c.in-Ok.ensures _ _ _ c.tell.ensures (sym c.is_err-cut.ensures.value ∙ c.if-cut.true)

pub loop-preserved : goal.loop-preserved
loop-preserved g c = let i = c.loop.invariant in
    let a = c.next_answer in (
      c.tell.auto.paper ∙ i.0,
      a.auto.sheet ∙ i.1,
      a.auto.answer ∙ i.2,
      replaying_next _ _ _ _ _ _ _ _ _ _ _ _ i.3 _ _ c.in-Ok.ensures _ _ _ c.tell.ensures _ c.missed-differ.ensures (sym c.is_err-cut.ensures.value ∙ c.if-cut.false),
    )

pub returns-in-Err-Ended : goal.returns-in-Err-Ended
returns-in-Err-Ended g c = replaying_end _ _ _ _ _ _ _ _ _ _ _ _ c.loop.invariant.3 _ _
    (rw (c.in-Err-Ended.is, c.in-Err-Ended.field-0-is) at c.next_answer.ensures) _ refl refl _ _ _ c.sum_up-w.ensures _ c.or.ensures

pub returns-in-Err-Other : goal.returns-in-Err-Other
returns-in-Err-Other g c = replaying_end _ _ _ _ _ _ _ _ _ _ _ _ c.loop.invariant.3 _ _
    (rw (c.in-Err-Other.is, c.in-Err-Other.field-0-is) at c.next_answer.ensures) _ refl refl _ _ _ c.sum_up-w-in-Err-Other.ensures _ c.or-in-Err-Other.ensures

pub returns : goal.returns
returns g c = replaying_out _ _ _ _ _ _ _ _ _ _ _ _ c.loop.invariant.3 (search rules)
