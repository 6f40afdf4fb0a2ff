use Rattle.words.specs.Words.{words_of}
use Rattle.sheet_rules.specs.Kinds.{key_number}
use Rattle.lines.proofs.Rowing.{Rowing}
use Rattle.lines.proofs.job.put_row.Given as goal

abbrev pub invariant-loop-j : goal.invariant-loop-j
invariant-loop-j l = Rowing l.initial.out l.at (key_number l.key) (words_of l.table) l.a l.n l.out l.end l.j
