use Rattle.std.proofs.Common.{◌≡◌}
use Rattle.std.proofs.Math.Seq.{paste}
use Rattle.words.specs.Words.{words_of}
use Rattle.words.proofs.put_row.Given as goal

abbrev pub invariant-loop-k : goal.invariant-loop-k
invariant-loop-k g l = words_of l.s ≡ paste (words_of l.initial.s) l.i l.x-items l.k
