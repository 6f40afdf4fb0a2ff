use Rattle.std.proofs.Common.{rules, tests}
use Rattle.words.specs.Words.{words_of}
use Rattle.definition.specs.Entry.{vgroup_ok}
use Rattle.values.specs.ValueRows.{vgroup_row, vgroups_at}
use Rattle.job.specs.Job.{raw_job}
use Rattle.function.specs.Every.{every_row_from_all}
use Rattle.entry_function.proofs.vgroups_ok.Goals as goal

pub returns : goal.returns
unfolding vgroups_at
returns c = let W = words_of c.args.job.now.bytes.now in
    every_row_from_all (vgroup_ok (raw_job W c.args.job.now.lay)) vgroup_row W c.args.job.now.lay.vgroups.at 9 c.args.job.now.lay.vgroups.n c.all.ensures.ran (λ x b q k. search (rules, tests))
