use mathlib.Core.Path.{refl}
use Rattle.std.proofs.Common.{rules, tests}
use Rattle.words.specs.Words.{words_of}
use Rattle.definition.specs.Entry.{conj}
use Rattle.entry_book.proofs.Classes.{class_tests}
use Rattle.entry_book.proofs.class_ok.Goals as goal

pub returns-then-size-lt2 : goal.returns-then-size-lt2
unfolding conj
returns-then-size-lt2 c = let e = class_tests (words_of c.args.job.now.bytes.now) c.args.job.now.lay.classes.at c.args.job.now.lay.classes.n c.args.i c.word_at-mask.ensures refl c.word_at-size.ensures in rw (← e) (search (rules, tests))

pub returns-else-size-lt2 : goal.returns-else-size-lt2
unfolding conj
returns-else-size-lt2 c = let e = class_tests (words_of c.args.job.now.bytes.now) c.args.job.now.lay.classes.at c.args.job.now.lay.classes.n c.args.i c.word_at-mask.ensures refl c.word_at-size.ensures in rw (← e) (search (rules, tests))

pub returns-else-size-le8 : goal.returns-else-size-le8
unfolding conj
returns-else-size-le8 c = let e = class_tests (words_of c.args.job.now.bytes.now) c.args.job.now.lay.classes.at c.args.job.now.lay.classes.n c.args.i c.word_at-mask.ensures refl c.word_at-size.ensures in rw (← e) (search (rules, tests))
