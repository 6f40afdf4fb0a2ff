use native.Mathlib.Omega.{arith}
use Rattle.words.specs.Laws.{length_words}
use Rattle.lines.proofs.Rowing.{row_start, row_next}
use borrow.Author.Rules.{rules}
use Rattle.lines.proofs.job.put_row.Goals as goal

pub loop-j-init : goal.loop-j-init
loop-j-init c = row_start _ _ _ _ _ _

pub loop-j-preserved : goal.loop-j-preserved
loop-j-preserved c = row_next c.loop-j.invariant c.loop-j-test.true
    (omega (arith, c.requires.1, length_words c.args.table.now))
    (search rules)
    c.is_bits.ensures
    c.word_at.ensures
    c.put_value-end.ensures
