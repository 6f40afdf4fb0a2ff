use mathlib.Core.Path.{sym}
use borrow.Author.Tests.{eqb-true, eqb-false}
use Rattle.split_placement.proofs.Chosen.{early_next, early_start, late_before, late_end}
use Rattle.split_placement.proofs.cut.Goals as goal

pub returns-in-Early : goal.returns-in-Early
returns-in-Early c =
    early_next _ _ _ _ _ _ _ c.requires.1 c.judging-from.ensures.1 c.judging-to.ensures.1 c.least-best.ensures.0 c.in-Early.is
    (eqb-true _ _ (sym c.if-eq.ensures))

pub returns-in-Early-2 : goal.returns-in-Early-2
returns-in-Early-2 c =
    early_start _ _ _ _ _ _ _ c.requires.1 c.judging-from.ensures.1 c.judging-to.ensures.1 c.least-best.ensures.0 _ c.in-Early.is
    (eqb-false _ _ (sym c.if-eq.ensures)) c.start_at.ensures

pub returns-in-Late : goal.returns-in-Late
returns-in-Late c =
    late_before _ _ _ _ _ _ _ c.requires.1 c.judging-from.ensures.1 c.judging-to.ensures.1 c.least-best.ensures.0 c.in-Late.is
    (eqb-true _ _ (sym c.if-eq-2.ensures))

pub returns-in-Late-2 : goal.returns-in-Late-2
returns-in-Late-2 c =
    late_end _ _ _ _ _ _ _ c.requires.1 c.judging-from.ensures.1 c.judging-to.ensures.1 c.least-best.ensures.0 _ c.in-Late-2.is
    (eqb-false _ _ (sym c.if-eq-2.ensures)) c.start_at-in-Late-2.ensures
