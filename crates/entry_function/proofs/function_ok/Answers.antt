use mathlib.Core.Path.{sym}
use Rattle.values.proofs.Twice.{never}
use Rattle.entry_function.proofs.Tests.{index_under, index_fits, function_1, function_2, function_3, function_4, function_5}
use Rattle.entry_function.proofs.function_ok.Goals as goal

pub returns-then-not-blocks_ok : goal.returns-then-not-blocks_ok
returns-then-not-blocks_ok c = record { value = function_1 _ _ _ _ c.requires.1 _ (rw (c.blocks-2.ensures.0, c.blocks-2.ensures.1, c.blocks-2.ensures.2) at c.blocks_ok.ensures) c.if-not-blocks_ok.true-raw; chained = λ e. never (sym e) }

pub returns-then-not-leaders_ok : goal.returns-then-not-leaders_ok
returns-then-not-leaders_ok c = record { value = function_2 _ _ _ _ c.requires.1 _ (rw (c.blocks-2.ensures.0, c.blocks-2.ensures.1, c.blocks-2.ensures.2) at c.blocks_ok.ensures) c.if-not-blocks_ok.false-raw _ c.leaders_ok.ensures c.if-not-leaders_ok.true-raw; chained = λ e. never (sym e) }

pub returns-then-not-vgroups_ok : goal.returns-then-not-vgroups_ok
returns-then-not-vgroups_ok c = record {
  value = function_3 _ _ _ _ c.requires.1 _ (rw (c.blocks-2.ensures.0, c.blocks-2.ensures.1, c.blocks-2.ensures.2) at c.blocks_ok.ensures) c.if-not-blocks_ok.false-raw _ c.leaders_ok.ensures c.if-not-leaders_ok.false-raw
      _ c.vgroups_ok.ensures c.if-not-vgroups_ok.true-raw;
  chained = λ e. never (sym e);
}

pub returns-then-not-operands_ok : goal.returns-then-not-operands_ok
returns-then-not-operands_ok c = record {
  value = function_4 _ _ _ _ c.requires.1 _ (rw (c.blocks-2.ensures.0, c.blocks-2.ensures.1, c.blocks-2.ensures.2) at c.blocks_ok.ensures) c.if-not-blocks_ok.false-raw _ c.leaders_ok.ensures c.if-not-leaders_ok.false-raw
      _ c.vgroups_ok.ensures c.if-not-vgroups_ok.false-raw _ c.operands_ok.ensures c.if-not-operands_ok.true-raw;
  chained = λ e. never (sym e);
}

pub put_chains-requires : goal.put_chains-requires
put_chains-requires c = (index_fits _ _ _ _ c.requires.1 _ c.args.counted.now.job.fits c.requires.0, index_under _ _ _ _ c.requires.1 _ c.operands_ok.ensures c.if-not-operands_ok.false-raw)

pub returns : goal.returns
returns c = record {
  value = function_5 _ _ _ _ c.requires.1 _ (rw (c.blocks-2.ensures.0, c.blocks-2.ensures.1, c.blocks-2.ensures.2) at c.blocks_ok.ensures) c.if-not-blocks_ok.false-raw _ c.leaders_ok.ensures c.if-not-leaders_ok.false-raw
      _ c.vgroups_ok.ensures c.if-not-vgroups_ok.false-raw _ c.operands_ok.ensures c.if-not-operands_ok.false-raw _ c.no_twice.ensures;
  chained = λ e. (c.put_chains.ensures.chained, c.put_chains.ensures.work_after);
}
