use Rattle.std.proofs.Common.{rules, tests}
use Rattle.words.specs.Words.{words_of}
use Rattle.conflicts.proofs.Runs.{one_value_is}
use Rattle.conflicts.proofs.round.one_value.Goals as goal

pub returns : goal.returns
returns c = one_value_is (words_of c.args.work.now) c.args.turned _ c.args.a c.args.b c.word_at-value.ensures c.all.ensures.ran (λ x b q k. search (rules, tests))
