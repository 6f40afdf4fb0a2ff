use lib.ListN.{get_or-eq_default}
use Rattle.words.specs.Laws.{length_words}
use Rattle.words.specs.Words.{words_of}
use native.Mathlib.Omega.{arith}
use mathlib.Core.Path.{sym}
use Rattle.sheet.proofs.cells.get.Goals as goal

pub returns-else-at-out : goal.returns-else-at-out
returns-else-at-out c = let s = c.args.out.now in
    sym (get_or-eq_default (words_of s) 0 (omega (arith, length_words s)))
