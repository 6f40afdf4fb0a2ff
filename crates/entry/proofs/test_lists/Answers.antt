use Rattle.entry.proofs.Numbers.{fails, passes, all_pass}
use Rattle.entry.proofs.test_lists.Goals as goal

pub returns-then-not-hints_ok : goal.returns-then-not-hints_ok
returns-then-not-hints_ok c = fails _ _ c.if-not-hints_ok.true-raw c.hints_ok.ensures

pub returns-then-not-segments_ok : goal.returns-then-not-segments_ok
returns-then-not-segments_ok c = passes _ _ c.if-not-hints_ok.false-raw c.hints_ok.ensures (fails _ _ c.if-not-segments_ok.true-raw c.segments_ok.ensures)

pub returns-then-not-uses_ok : goal.returns-then-not-uses_ok
returns-then-not-uses_ok c = passes _ _ c.if-not-hints_ok.false-raw c.hints_ok.ensures
    (passes _ _ c.if-not-segments_ok.false-raw c.segments_ok.ensures (fails _ _ c.if-not-uses_ok.true-raw c.uses_ok.ensures))

pub returns : goal.returns
returns c = passes _ _ c.if-not-hints_ok.false-raw c.hints_ok.ensures
    (passes _ _ c.if-not-segments_ok.false-raw c.segments_ok.ensures (passes _ _ c.if-not-uses_ok.false-raw c.uses_ok.ensures all_pass))
