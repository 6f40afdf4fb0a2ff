use Rattle.std.proofs.Common.{sym}
use Rattle.job_pages.specs.Cursors.{cursor_of}
use Rattle.job_pages.proofs.Asked.{more, segs_few, key_low}
use Rattle.job_order.proofs.Steps.{first_alone, second_alone, both_pass}
use Rattle.job_order.proofs.step.Goals as goal

pub has_row-requires : goal.has_row-requires
has_row-requires c = let p = c.requires in (p.0.long, segs_few p.0 c.args.key p.2)

pub has_row-requires-2 : goal.has_row-requires-2
has_row-requires-2 c = let p = c.requires in (p.1.long, segs_few p.1 c.args.key p.2)

pub pass-requires : goal.pass-requires
pass-requires c = let p = c.requires in key_low p.0 c.args.key p.2 (sym c.in-false-false.ensures)

pub returns-in-true-false : goal.returns-in-true-false
returns-in-true-false c = let p = c.requires in
    first_alone c.args.x.now c.args.y.now (cursor_of c.args.cur) (more p.0 c.args.key p.2)
    (sym c.in-true-false.ensures) (sym c.in-true-false.ensures')

pub returns-in-false-true : goal.returns-in-false-true
returns-in-false-true c = let p = c.requires in
    second_alone c.args.x.now c.args.y.now (cursor_of c.args.cur) (more p.0 c.args.key p.2)
    (sym c.in-false-true.ensures) (sym c.in-false-true.ensures')

pub returns-in-false-false : goal.returns-in-false-false
returns-in-false-false c = let p = c.requires in
    both_pass c.args.x.now c.args.y.now (cursor_of c.args.cur) (more p.0 c.args.key p.2) p.0 p.1
    (sym c.in-false-false.ensures) (sym c.in-false-false.ensures') (cursor_of c.pass.result) c.pass.ensures
