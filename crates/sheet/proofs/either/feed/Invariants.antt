use mathlib.Core.Path.{◌≡◌}
use lib.ListN.{drop}
use Rattle.words.specs.Words.{words_of}
use Rattle.sheet.specs.Front.{formed, run_form}
use Rattle.sheet.proofs.either.feed.Given as goal

abbrev pub invariant-loop-i : goal.invariant-loop-i
invariant-loop-i l = run_form (formed l.initial.at (words_of l.initial.table) (words_of l.initial.written)) l.part
    ≡ run_form (formed l.at (words_of l.table) (words_of l.written)) (drop l.i l.part)
