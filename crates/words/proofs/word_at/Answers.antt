use Rattle.std.proofs.Common.{arith}
use Rattle.words.specs.Laws.{word_get}
use Rattle.words.proofs.word_at.Goals as goal

pub returns : goal.returns
returns c = omega (arith, word_get c.args.s.now c.args.i c.requires)
