use Rattle.std.proofs.Common.{rules, tests}
use Rattle.words.specs.Words.{words_of}
use Rattle.definition.specs.Entry.{class_ok}
use Rattle.reginfo.specs.Rows.{class_row, classes_at}
use Rattle.function.specs.Every.{every_row_from_all}
use Rattle.entry_book.proofs.classes_ok.Goals as goal

pub returns : goal.returns
unfolding classes_at
returns c = let cs = classes_at (words_of c.args.job.now.bytes.now) c.args.job.now.lay.classes.at c.args.job.now.lay.classes.n in
    every_row_from_all (class_ok cs) class_row (words_of c.args.job.now.bytes.now) c.args.job.now.lay.classes.at 4 c.args.job.now.lay.classes.n c.all.ensures.ran (λ x b q k. search (rules, tests))
