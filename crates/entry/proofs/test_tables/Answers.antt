use borrow.Author.Tests.{not-false}
use Rattle.entry_function.proofs.Tables.{limits_within}
use Rattle.entry.proofs.Numbers.{fails, passes}
use Rattle.entry.proofs.Entering.{if_ok, ready}
use Rattle.entry.proofs.test_tables.Goals as goal

pub function_ok-requires : goal.function_ok-requires
function_ok-requires c = let p = c.requires in
    (limits_within _ _ p.1, p.2)

pub returns-then-not-function_ok : goal.returns-then-not-function_ok
returns-then-not-function_ok c = record { value = fails _ _ c.if-not-function_ok.true-raw c.function_ok.ensures.value; chained = tt }

pub invariant_of-indexed : goal.invariant_of-indexed
invariant_of-indexed c = let p = c.requires in
    let f = c.function_ok in
    record { ready = ready c.args.counted.now.job.fits p.1 p.2 f.auto.work c.if-not-function_ok.false-raw f.ensures.value (λ e. (f.ensures.chained e).0) }

pub returns : goal.returns
returns c = let f = c.function_ok in record { value = passes _ _ c.if-not-function_ok.false-raw f.ensures.value c.test_lists.ensures; chained = if_ok c.test_lists.result (f.ensures.chained (not-false _ c.if-not-function_ok.false-raw)).0 }
