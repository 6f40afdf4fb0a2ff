use native.Mathlib.Omega.{arith}
use Rattle.words.specs.Words.{words_of}
use Rattle.values.proofs.Members.{group_long}
use Rattle.values.proofs.group_len.Goals as goal

pub returns : goal.returns
returns c = omega (arith, group_long (words_of c.args.t.now) c.args.i)
