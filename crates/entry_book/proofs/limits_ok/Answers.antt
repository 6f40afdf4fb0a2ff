use Rattle.std.proofs.Common.{rules, tests, arith}
use Rattle.words.specs.Words.{words_of}
use Rattle.job_shape.proofs.Tests.{passed}
use Rattle.entry_book.proofs.Limits.{limits_are, few_blocks}
use Rattle.entry_book.proofs.limits_ok.Goals as goal

pub count_insts-requires : goal.count_insts-requires
count_insts-requires c =
    omega (arith, c.blocks-then-word_at-le65535.ensures.2, few_blocks c.args.shaped.now.job.lay _ (passed c.if-not-counts_ok.false-raw c.counts_ok.ensures))

pub returns-then-not-counts_ok : goal.returns-then-not-counts_ok
returns-then-not-counts_ok c = rw (← limits_are (words_of c.args.shaped.now.job.bytes.now) c.args.shaped.now.job.lay c.args.shaped.now.shaped.counts) (search (rules, tests))

pub returns-then-word_at-le65535 : goal.returns-then-word_at-le65535
returns-then-word_at-le65535 c = rw (← limits_are (words_of c.args.shaped.now.job.bytes.now) c.args.shaped.now.job.lay c.args.shaped.now.shaped.counts) (search (rules, tests))

pub returns-else-word_at-le65535 : goal.returns-else-word_at-le65535
returns-else-word_at-le65535 c = rw (← limits_are (words_of c.args.shaped.now.job.bytes.now) c.args.shaped.now.job.lay c.args.shaped.now.shaped.counts) (search (rules, tests))
