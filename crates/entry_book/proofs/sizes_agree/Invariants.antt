use mathlib.Core.Path.{◌≡◌}
use Rattle.words.specs.Words.{words_of}
use Rattle.definition.specs.Entry.{sized}
use Rattle.reginfo.specs.Rows.{classes_at}
use Rattle.entry_book.proofs.Sizes.{classes_from}
use Rattle.entry_book.proofs.sizes_agree.Given as goal

abbrev pub invariant-loop-i : goal.invariant-loop-i
invariant-loop-i l = sized l.mask l.size (classes_at (words_of l.job.bytes.now) l.job.lay.classes.at l.job.lay.classes.n) ≡ sized l.rest l.size (classes_from (words_of l.job.bytes.now) l.job.lay.classes.at l.job.lay.classes.n l.size l.i)
