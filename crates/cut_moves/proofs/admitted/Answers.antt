use mathlib.Core.Path.{sym}
use Rattle.std.proofs.Common.{rules}
use Rattle.cut_moves.proofs.Numbers.{failed, short, fine}
use Rattle.cut_moves.proofs.admitted.Goals as goal

pub returns-in_err-named : goal.returns-in_err-named
returns-in_err-named c = let a = c.args in
    let h = failed a.blocks.now a.after a.before a.side a.places _ (sym c.in_err-named.ensures) in
    search (rules, h)

pub returns-then-places-blocks : goal.returns-then-places-blocks
returns-then-places-blocks c = let a = c.args in
    short a.blocks.now a.after a.before a.side a.places _ (sym c.in_ok-named.ensures) c.if-places-blocks.true

pub returns : goal.returns
returns c = let a = c.args in
    fine a.blocks.now a.after a.before a.side a.places _ (sym c.in_ok-named.ensures) c.if-places-blocks.false
