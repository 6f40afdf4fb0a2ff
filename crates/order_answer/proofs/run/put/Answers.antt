use Rattle.std.specs.Prelude.{List, ℕ, is_err, take}
use Rattle.std.proofs.Common.{subst}
use Rattle.streams.specs.Paper.{OnPaper, one_page}
use Rattle.order_answer.proofs.run.put.Goals as goal

pub returns : goal.returns
returns g c = λ y.
    subst
    (λ (l : List ℕ). OnPaper c.args.output.now.tape.now c.args.paper.now l c.args.output.now.stream
    (is_err c.write_all.result) c.write_all.new.s c.write_all.new.paper)
    c.put_answer-n.ensures.is
    (one_page c.args.output.now.tape.now c.args.paper.now
    (take c.put_answer-n.result c.put_answer-n.new.out) c.args.output.now.stream c.write_all.result
    c.write_all.new.s c.write_all.new.paper c.requires.1 c.write_all.ensures y)
