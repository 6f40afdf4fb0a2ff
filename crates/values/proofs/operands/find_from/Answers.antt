use mathlib.Core.Path.{refl}
use Rattle.values.proofs.Search.{search_next, search_stop, next_less}
use native.Mathlib.Omega.{arith}
use Rattle.values.proofs.Links.{follow_start, follow_end}
use Rattle.values.proofs.operands.find_from.Goals as goal

pub loop-link-init : goal.loop-link-init
loop-link-init c = follow_start _ _ _ _ (omega arith)

pub returns-then-word_at-slot : goal.returns-then-word_at-slot
returns-then-word_at-slot c = search_stop _ c.args.index.now.chains _ _ c.loop-link.invariant c.loop-link-test.true refl c.word_at.ensures c.if-word_at-slot.true

pub loop-link-smaller : goal.loop-link-smaller
loop-link-smaller c = omega (arith, next_less _ _ _ c.args.index.now.chained _ _ (omega (arith, c.loop-link.invariant.within)) c.word_at-link.ensures)

pub loop-link-preserved : goal.loop-link-preserved
loop-link-preserved c = search_next _ _ _ c.args.index.now.chained _ _ _ c.loop-link.invariant c.loop-link-test.true refl
    c.word_at.ensures c.if-word_at-slot.false c.word_at-link.ensures

pub returns : goal.returns
returns c = follow_end c.loop-link.invariant (omega arith)
