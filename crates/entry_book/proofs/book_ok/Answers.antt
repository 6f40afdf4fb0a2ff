use Rattle.std.proofs.Common.{rules, tests}
use Rattle.words.specs.Words.{words_of}
use Rattle.definition.specs.Entry.{conj}
use Rattle.entry_book.proofs.Book.{book_tests}
use Rattle.entry_book.proofs.book_ok.Goals as goal

pub returns-then-classes_ok : goal.returns-then-classes_ok
unfolding conj
returns-then-classes_ok c = rw (← book_tests (words_of c.args.job.now.bytes.now) c.args.job.now.lay) (search (rules, tests))

pub returns-else-classes_ok : goal.returns-else-classes_ok
unfolding conj
returns-else-classes_ok c = rw (← book_tests (words_of c.args.job.now.bytes.now) c.args.job.now.lay) (search (rules, tests))
