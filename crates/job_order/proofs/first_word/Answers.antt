use Rattle.std.proofs.Common.{arith}
use Rattle.job_pages.proofs.Asked.{shown_few, row_word}
use Rattle.job_order.proofs.first_word.Goals as goal

pub overflow_cast-shown : goal.overflow_cast-shown
overflow_cast-shown c = let p = c.requires in omega (arith, shown_few p.0 c.args.key p.1 p.2, c.shown.ensures)

pub returns : goal.returns
returns c = let p = c.requires in row_word p.0 c.args.key p.1 p.2 c.shown.ensures c.row_at.ensures
