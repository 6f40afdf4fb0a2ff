use lib.Seq.{set_out}
use Rattle.words.specs.Laws.{length_words}
use Rattle.words.specs.Words.{words_of}
use native.Mathlib.Omega.{arith}
use mathlib.Core.Path.{sym}
use Rattle.sheet.proofs.cells.put.Goals as goal

pub returns-else-at-out : goal.returns-else-at-out
returns-else-at-out c = let s = c.args.out.now in
    sym (set_out (words_of s) c.args.at c.args.v (omega (arith, length_words s)))
