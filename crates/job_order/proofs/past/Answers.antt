use Rattle.std.proofs.Common.{sym, ◌∙◌}
use Rattle.job_pages.specs.Cursors.{cursor_of}
use Rattle.job_pages.proofs.Asked.{more}
use Rattle.job_order.proofs.Steps.{record_decides, record_same}
use Rattle.job_order.proofs.past.Goals as goal

pub returns-in-Same : goal.returns-in-Same
returns-in-Same c = let p = c.requires in
    record_same c.args.x.now c.args.y.now (cursor_of c.args.cur) (more p.0 c.args.key p.2) p.0 p.1 p.3 p.4
    (sym c.by_record.ensures ∙ c.in-Same.is) (cursor_of c.behind.result) c.behind.ensures

pub returns-in_default : goal.returns-in_default
returns-in_default c = let p = c.requires in
    record_decides c.args.x.now c.args.y.now (cursor_of c.args.cur) (more p.0 c.args.key p.2) p.0 p.1 p.3 p.4
    c.by_record.result c.by_record.ensures c.in_default.not-Same
