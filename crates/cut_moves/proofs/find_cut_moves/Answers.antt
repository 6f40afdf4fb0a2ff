use native.Mathlib.Omega.{arith}
use mathlib.Core.Path.{sym}
use lib.ListN.{length}
use Rattle.find_cut.proofs.Answers.{rows_there}
use Rattle.cut_moves.proofs.Numbers.{was_admitted_moves}
use Rattle.cut_moves.proofs.Whole.{left_empty, part_zero, Accepted, rows_fit, left_moves}
use Rattle.cut_moves.proofs.find_cut_moves.Goals.{In-Ok}
use Rattle.cut_moves.proofs.find_cut_moves.Goals as goal

-- a call that is admitted
accepted : (c : In-Ok) → Accepted c.args.blocks.now c.args.after c.args.before c.args.side (length c.args.list.now) c.clear.new.s c.in-Ok.side
accepted c = let a = c.args in
    record {
      zeros = c.clear.ensures.zeroed;
      free = was_admitted_moves a.blocks.now a.after a.before a.side _ _ (sym c.in-Ok.ensures);
    }

pub returns-in-Err : goal.returns-in-Err
returns-in-Err c =
    let a = c.args in
    let both =
    left_empty a.blocks.now a.after a.before a.side (length a.list.now) _ c.clear.ensures.zeroed _ _ (sym c.in-Err.ensures)
    c.number.ensures in
    record { value = both.0; list_after = both.1 }

pub overflow_cast-n : goal.overflow_cast-n
overflow_cast-n c = let o = accepted (goal.at.overflow_cast-n c).In-Ok in
    omega (arith, o.free.passed.blocks_few)

pub put_sorted-count-requires : goal.put_sorted-count-requires
put_sorted-count-requires c =
    let a = c.args in
    let o = accepted (goal.at.put_sorted-count-requires c).In-Ok in
    let p = o.free.passed in (
      rows_there a.blocks.now a.side o.free.read,
      p.blocks_few,
      omega arith,
      omega arith,
      rows_fit o,
      p.order,
      p.within,
      p.insts_few,
      p.blocks_ok,
      part_zero (length a.list.now) c.clear.new.s c.clear.ensures.zeroed,
    )

pub returns-in-Ok : goal.returns-in-Ok
returns-in-Ok c =
    let o = accepted (goal.at.returns-in-Ok c).In-Ok in
    let r = c.put_sorted-count in
    let both = left_moves o _ _ r.auto.list (λ i. omega (arith, c.type_inv.list i)) r.ensures.0 r.ensures.1 in
    record { value = both.0; list_after = both.1 }
