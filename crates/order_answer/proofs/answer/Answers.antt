use Rattle.words.specs.Words.{words_of}
use Rattle.order_answer.proofs.Verdict.{refused_first, refused_second, passed_both}
use Rattle.order_answer.proofs.answer.Goals as goal

pub returns-in-Err-default : goal.returns-in-Err-default
returns-in-Err-default c =
    refused_first c.args.first c.args.second (words_of c.args.x.now) (words_of c.args.y.now) c.in-Err-default.r
    c.in-Err-default.is-0

pub returns-in-Ok-Err : goal.returns-in-Ok-Err
returns-in-Ok-Err c =
    refused_second c.args.first c.args.second (words_of c.args.x.now) (words_of c.args.y.now) c.in-Ok-Err.r
    c.in-Ok-Err.is-0 c.in-Ok-Err.is-1

pub returns-in-Ok-Ok : goal.returns-in-Ok-Ok
returns-in-Ok-Ok c =
    passed_both c.args.first c.args.second (words_of c.args.x.now) (words_of c.args.y.now) c.compare.result
    c.in-Ok-Ok.is-0 c.in-Ok-Ok.is-1 c.compare.ensures
