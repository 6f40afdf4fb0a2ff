use Rattle.std.proofs.Common.{rules, tests}
use Rattle.words.specs.Words.{words_of}
use Rattle.pieces.proofs.Hint.{hint_from_any}
use Rattle.pieces.proofs.part.hint_in_part.Goals as goal

pub returns : goal.returns
returns c = hint_from_any (words_of c.args.job.now.bytes.now) c.args.job.now.lay c.args.sp c.any.ensures.ran (λ x b q k. search (rules, tests))
