use native.Mathlib.Omega.{arith}
use mathlib.Core.Path.{refl}
use Rattle.conflicts.proofs.RoundKept.{stands_kept, ready_now, rows_now, count_is}
use Rattle.conflicts.proofs.Trying.{trying_start, trying_yes, trying_no, trying_end}
use Rattle.conflicts.proofs.round.try_rows.Goals as goal

pub loop-i-init : goal.loop-i-init
loop-i-init c = (trying_start _ _ _ _ _ _ _ _ _ _ c.requires.3, refl)

pub admit_row-requires : goal.admit_row-requires
admit_row-requires c = let v = c.loop-i.invariant in
    let t = c.loop-i-test.true in
    (ready_now _ _ _ _ _ _ _ _ v.0.elsewhere c.requires.2 v.1 c.requires.0, c.requires.1, omega (arith, t, v.0.high, v.0.rows.within, v.1), v.0.rows.known c.loop-i.i v.0.low (omega (arith, t, v.0.high)), c.requires.4)

pub loop-i-preserved-in-Some : goal.loop-i-preserved-in-Some
loop-i-preserved-in-Some c = let v = c.loop-i.invariant in (
  trying_yes _ _ _ _ _ _ _ _ _ _ _ _ _ _ v.0 c.loop-i-test.true _
      (λ st hs. c.admit_row.ensures st (stands_kept _ _ _ _ _ _ v.0.elsewhere c.requires.2 _ _ _ st hs)) _ c.in-Some.is,
  v.1,
)

pub loop-i-preserved : goal.loop-i-preserved
loop-i-preserved c = let v = c.loop-i.invariant in (
  trying_no _ _ _ _ _ _ _ _ _ _ _ _ _ _ v.0 c.loop-i-test.true _
      (λ st hs. c.admit_row.ensures st (stands_kept _ _ _ _ _ _ v.0.elsewhere c.requires.2 _ _ _ st hs)) c.in-None.is _ refl _ c.swap_rows.ensures (count_is c.args.work.now c.loop-i.work v.1),
  omega (arith, v.1, c.swap_rows.auto.work),
)

pub returns : goal.returns
returns c = let v = c.loop-i.invariant in
    record { parted = (v.0.low, omega (arith, v.0.mid, v.0.high), v.0.elsewhere, rows_now c.args.work.now c.loop-i.work _ _ _ _ _ v.1 v.0.rows); tried = trying_end _ _ _ _ _ _ _ _ _ _ _ _ _ _ v.0 _ c.fresh_held-held.ensures c.loop-i-test.false }
