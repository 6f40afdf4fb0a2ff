use native.Mathlib.Omega.{arith}
use mathlib.Core.Path.{refl, sym, ◌∙◌}
use Rattle.std.proofs.lemmas.Map.Keys.{ge_from_not_lt}
use Rattle.words.specs.RowsAt.{length_rows_at}
use Rattle.function.specs.Blocks.{block_row}
use Rattle.job.specs.JobWords.{words_in}
use Rattle.scans.proofs.Steps.{early_behind, late_behind, by_side}
use Rattle.scans.proofs.cut_at.Goals as goal

pub returns-then-lt : goal.returns-then-lt
returns-then-lt c = let r = c.requires.0 in
    let job = c.args.fr.now.job in
    c.cut.ensures _ (record { starts = r.starts; long = omega (arith, length_rows_at block_row (words_in job) job.lay.blocks.at 2 job.lay.blocks.n, r.few_blocks) }) c.requires.2

pub returns-in-Early : goal.returns-in-Early
returns-in-Early c = by_side _ _ _ _ _ _ c.in-Early.is (early_behind _ _ _ _ (ge_from_not_lt _ _ (sym c.lt.ensures ∙ c.if-lt.false)) refl)

pub returns-in-Late : goal.returns-in-Late
returns-in-Late c = by_side _ _ _ _ _ _ c.in-Late.is (late_behind _ _ _ (ge_from_not_lt _ _ (sym c.lt.ensures ∙ c.if-lt.false)))
