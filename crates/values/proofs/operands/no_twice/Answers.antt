use Rattle.std.proofs.Common.{rules, tests, not, ◌∙◌}
use Rattle.values.specs.OperandRows.{taken_before}
use Rattle.values.specs.InIndex.{operands_in}
use Rattle.function.specs.Every.{every_from_all}
use Rattle.values.proofs.Rows.{long}
use Rattle.values.proofs.Twice.{apart_by}
use Rattle.values.proofs.operands.no_twice.Goals as goal

pub returns : goal.returns
returns c =
    let os = operands_in c.args.index.now in
    every_from_all (λ k. not (taken_before os k)) (λ k. k) c.args.index.now.chains.count c.all.ensures.ran (λ x b q k. search (rules, tests))
    ∙ apart_by os c.args.index.now.chains.count (long _ _ _)
