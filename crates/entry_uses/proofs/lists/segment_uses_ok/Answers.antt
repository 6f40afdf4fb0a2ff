use native.Mathlib.Omega.{arith}
use Rattle.std.proofs.Common.{rules, tests}
use Rattle.words.specs.Words.{words_of}
use Rattle.entry_uses.proofs.Counts.{uses_few}
use Rattle.entry_uses.proofs.ListTests.{uses_lie, uses_is}
use Rattle.entry_uses.proofs.lists.segment_uses_ok.Goals as goal

pub next_use-next-requires : goal.next_use-next-requires
next_use-next-requires c = (c.requires, uses_few _ _ c.args.bounded.now.rising c.args.bounded.now.limited (omega arith))

pub overflow_sub-n : goal.overflow_sub-n
overflow_sub-n c = omega (arith, (uses_lie _ _ _ _ c.seg_at-s.ensures _ c.next_use-next.ensures c.args.bounded.now.rising c.requires).0)

pub each_use_ok-requires : goal.each_use_ok-requires
each_use_ok-requires c = let l = uses_lie _ _ _ _ c.seg_at-s.ensures _ c.next_use-next.ensures c.args.bounded.now.rising c.requires in
    omega (arith, l.0, l.1)

pub invariant_of-uses : goal.invariant_of-uses
invariant_of-uses c = let l = uses_lie _ _ _ _ c.seg_at-s.ensures _ c.next_use-next.ensures c.args.bounded.now.rising c.requires in
    record { room = omega (arith, l.0, l.1, c.args.bounded.now.indexed.job.fits.uses) }

pub returns-then-each_use_ok : goal.returns-then-each_use_ok
returns-then-each_use_ok c = rw (uses_is (words_of c.args.bounded.now.indexed.job.bytes.now) c.args.bounded.now.indexed.job.lay c.args.k _ c.seg_at-s.ensures _ c.next_use-next.ensures) (search (rules, tests))

pub returns-else-each_use_ok : goal.returns-else-each_use_ok
returns-else-each_use_ok c = rw (uses_is (words_of c.args.bounded.now.indexed.job.bytes.now) c.args.bounded.now.indexed.job.lay c.args.k _ c.seg_at-s.ensures _ c.next_use-next.ensures) (search (rules, tests))
