use Rattle.std.proofs.Common.{rules, tests}
use lib.Dec.{ltb}
use Rattle.words.specs.Words.{words_of}
use Rattle.function.specs.Every.{every_row_from_all}
use Rattle.job_shape.specs.Shape.{word_in, all_below}
use Rattle.job_shape.proofs.all_below.Goals as goal

pub returns : goal.returns
unfolding all_below
returns c = every_row_from_all (λ x. ltb x c.args.bound) (word_in c.args.col) (words_of c.args.job.now) c.args.t.at c.args.stride c.args.t.n c.all.ensures.ran (λ x b q k. search (rules, tests))
