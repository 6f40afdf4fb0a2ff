use Rattle.words.specs.Words.{words_of}
use Rattle.sheet.specs.Front.{formed}
use Rattle.sheet_verdict.proofs.From.{Taking}
use Rattle.sheet_verdict.proofs.input.feed_all.Given as goal

abbrev pub invariant-loop : goal.invariant-loop
invariant-loop g l = Taking l.tape l.given l.initial.s l.s l.counter
    (formed l.initial.cur (words_of l.initial.table) (words_of l.initial.written)) (formed l.cur (words_of l.table) (words_of l.written))
