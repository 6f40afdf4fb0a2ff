use Rattle.constraints.specs.Held.{held_of}
use Rattle.constraints.proofs.Admitted.{into_yes, into_none, into_no, held_class, held_target}
use Rattle.constraints.proofs.admit_into.Goals as goal

pub returns-then-not-group_fits : goal.returns-then-not-group_fits
returns-then-not-group_fits c st hs = let a = c.args in
    into_no _ st a.held a.k _ a.g _ c.group_fits.ensures c.if-not-group_fits.true

pub returns-in_err-n : goal.returns-in_err-n
returns-in_err-n c st hs = let a = c.args in
    rw c.from_residual.ensures (into_none _ st a.held a.k _ a.g _ c.group_fits.ensures _ c.if-not-group_fits.false (c.in_group.ensures st (held_of a.held) hs (held_class a.held) (held_target a.held)) c.in_err-n.was)

pub returns : goal.returns
returns c st hs = let a = c.args in
    into_yes _ st a.held a.k _ a.g _ c.group_fits.ensures _ _ c.if-not-group_fits.false (c.in_group.ensures st (held_of a.held) hs (held_class a.held) (held_target a.held)) c.in_ok-n.was
