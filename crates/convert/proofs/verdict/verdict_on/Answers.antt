use mathlib.Core.Path.{refl}
use Rattle.std.proofs.lemmas.Result.{err_from_is_err_and}
use Rattle.convert.proofs.VerdictLemmas.{settled_same, settled_judged}
use Rattle.convert.proofs.verdict.verdict_on.Goals as goal

pub returns-then-is_already : goal.returns-then-is_already
returns-then-is_already c = settled_same _ _ _ c.is_already.ensures _ _ c.if-is_already.true

pub returns-in_err-judge : goal.returns-in_err-judge
returns-in_err-judge c = let p = err_from_is_err_and c.from_residual.result c.from_residual.ensures.1 in
    rw (p.1, p.2) (settled_judged _ _ _ c.is_already.ensures _ _ _ _ _ c.requires.1 c.requires.2
    c.in_err-judge.ensures refl c.if-is_already.false)

pub returns : goal.returns
returns c = settled_judged _ _ _ c.is_already.ensures _ _ _ _ _ c.requires.1 c.requires.2 c.in_ok-judge.ensures refl
    c.if-is_already.false
