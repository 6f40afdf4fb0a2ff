use native.Mathlib.Omega.{arith}
use Rattle.find_cut.proofs.Tests.{refuses, passes, many, long, bad, unordered, past, passing}
use Rattle.find_cut.proofs.tested.Goals as goal

pub returns-then-blocks-gt512 : goal.returns-then-blocks-gt512
returns-then-blocks-gt512 c = refuses _ (many _ _ _ c.if-blocks-gt512.true)

pub returns-then-long : goal.returns-then-long
returns-then-long c = refuses _ (long _ _ _ _ c.count_insts-total.ensures c.if-long.true)

pub returns-then-not-blocks_ok : goal.returns-then-not-blocks_ok
returns-then-not-blocks_ok c =
    refuses _ (bad _ _ _ _ c.if-blocks-gt512.false c.count_insts-total.ensures c.if-long.false c.if-not-blocks_ok.ensures)

pub returns-then-crossed : goal.returns-then-crossed
returns-then-crossed c =
    refuses _ (unordered _ _ _ _ c.if-blocks-gt512.false c.count_insts-total.ensures c.if-long.false c.if-crossed.true)

pub returns-then-total-from : goal.returns-then-total-from
returns-then-total-from c =
    refuses _ (past _ _ _ _ c.if-blocks-gt512.false c.count_insts-total.ensures c.if-long.false (omega (arith, c.from.ensures)))

pub returns : goal.returns
returns c =
    passes _ (passing _ _ _ _ c.if-blocks-gt512.false c.count_insts-total.ensures c.if-long.false c.if-not-blocks_ok.ensures
    c.if-crossed.false (omega (arith, c.from.ensures)))
