use native.Mathlib.Omega.{arith}
use mathlib.Core.Path.{refl, sym, ◌∙◌}
use Rattle.job_shape.proofs.Tests.{passed}
use Rattle.entry.proofs.Numbers.{entry_limits, entry_book, entry_tables}
use Rattle.entry.proofs.Counts.{rising}
use Rattle.entry.proofs.Entering.{err_kept, few, indexes, accepted}
use Rattle.entry.proofs.enter.Goals as goal
use Rattle.entry_function.proofs.Tables.{raw_insts}

pub returns-then-not-limits_ok : goal.returns-then-not-limits_ok
returns-then-not-limits_ok c = record { refused = entry_limits _ _ c.if-not-limits_ok.true-raw c.limits_ok.ensures; accepted = tt }

pub book_ok-requires : goal.book_ok-requires
book_ok-requires c = few c.args.shaped.now.shaped c.if-not-limits_ok.false-raw c.limits_ok.ensures

pub returns-then-not-book_ok : goal.returns-then-not-book_ok
returns-then-not-book_ok c = record { refused = entry_book _ _ c.if-not-limits_ok.false-raw c.limits_ok.ensures c.if-not-book_ok.true-raw c.book_ok.ensures; accepted = tt }

pub insts_in-insts-requires : goal.insts_in-insts-requires
insts_in-insts-requires c = (c.args.shaped.now.shaped.fits.blocks, (few c.args.shaped.now.shaped c.if-not-limits_ok.false-raw c.limits_ok.ensures).blocks)

pub work_layout-wl-requires : goal.work_layout-wl-requires
work_layout-wl-requires c = let l = few c.args.shaped.now.shaped c.if-not-limits_ok.false-raw c.limits_ok.ensures in
    (omega (arith, l.insts, c.insts_in-insts.ensures.insts), l.operands, l.blocks, l.uses)

pub invariant_of-counted : goal.invariant_of-counted
invariant_of-counted c = record { counted = c.insts_in-insts.ensures.insts ∙ sym (raw_insts _ _) }

pub test_tables-requires : goal.test_tables-requires
test_tables-requires c = let p = c.args.shaped.now.shaped in (
  rising _ _ p.counts,
  passed c.if-not-limits_ok.false-raw c.limits_ok.ensures,
  indexes c.requires c.insts_in-insts.ensures.insts c.work_layout-wl.ensures.1 c.chains_in.ensures,
)

pub returns-in_err-test_tables-clause-refused : goal.returns-in_err-test_tables-clause-refused
returns-in_err-test_tables-clause-refused c =
    entry_tables _ _ c.if-not-limits_ok.false-raw c.limits_ok.ensures c.if-not-book_ok.false-raw c.book_ok.ensures (err_kept _ _ c.from_residual.ensures.1 ∙ c.in_err-test_tables.ensures.value)

pub returns : goal.returns
returns c = let t = c.in_ok-test_tables.ensures in
    let n = entry_tables _ _ c.if-not-limits_ok.false-raw c.limits_ok.ensures c.if-not-book_ok.false-raw c.book_ok.ensures t.value in
    record {
      refused = n;
      accepted = (refl, accepted _ _ c.args.shaped.now.shaped (sym n) _ _ _ c.insts_in-insts.ensures.bytes c.insts_in-insts.ensures.insts c.work_layout-wl.ensures.1 _ c.chains_in.ensures t.chained);
    }
