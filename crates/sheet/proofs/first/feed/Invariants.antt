use mathlib.Core.Path.{◌≡◌}
use lib.ListN.{drop}
use Rattle.words.specs.Words.{words_of}
use Rattle.sheet.specs.Fields.{fed}
use Rattle.sheet.specs.Machine.{run_of}
use Rattle.sheet.proofs.first.feed.Given as goal

abbrev pub invariant-loop-b : goal.invariant-loop-b
invariant-loop-b l = run_of (fed l.initial.at (words_of l.initial.out)) l.part ≡ run_of (fed l.at (words_of l.out)) (drop l.b-index l.part)
