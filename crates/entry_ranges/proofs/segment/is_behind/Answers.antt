use Rattle.std.proofs.Common.{rules, tests}
use Rattle.words.specs.Words.{words_of}
use Prim.Native.Nat.{◌-◌}
use Rattle.entry_ranges.proofs.SegmentTests.{order_is}
use Rattle.entry_ranges.proofs.segment.is_behind.Goals as goal

pub returns-then-lt : goal.returns-then-lt
returns-then-lt c = let i = c.args.i in
    rw (order_is (words_of c.args.job.now.bytes.now) c.args.job.now.lay (i - 1) i _ _ c.seg_at-s.ensures c.seg_at-t.ensures _ _ (rw c.values-values.ensures.0 at c.set_for_value-a.ensures) (rw c.values-values.ensures.0 at c.set_for_value-b.ensures)) (search (rules, tests))

pub returns-then-eq : goal.returns-then-eq
returns-then-eq c = let i = c.args.i in
    rw (order_is (words_of c.args.job.now.bytes.now) c.args.job.now.lay (i - 1) i _ _ c.seg_at-s.ensures c.seg_at-t.ensures _ _ (rw c.values-values.ensures.0 at c.set_for_value-a.ensures) (rw c.values-values.ensures.0 at c.set_for_value-b.ensures)) (search (rules, tests))

pub returns-else-eq : goal.returns-else-eq
returns-else-eq c = let i = c.args.i in
    rw (order_is (words_of c.args.job.now.bytes.now) c.args.job.now.lay (i - 1) i _ _ c.seg_at-s.ensures c.seg_at-t.ensures _ _ (rw c.values-values.ensures.0 at c.set_for_value-a.ensures) (rw c.values-values.ensures.0 at c.set_for_value-b.ensures)) (search (rules, tests))
