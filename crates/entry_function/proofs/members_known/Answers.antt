use mathlib.Core.Path.{◌∙◌}
use lib.ListN.{get_or}
use Rattle.std.proofs.Common.{rules, tests}
use Rattle.words.specs.Words.{words_of}
use Rattle.definition.specs.Types.{val}
use Rattle.values.specs.ValueRows.{vgroup_row}
use Rattle.function.specs.Every.{every_from_all}
use Rattle.entry_function.specs.Counts.{known}
use Rattle.entry_function.proofs.Tests.{every_member}
use Rattle.entry_function.proofs.members_known.Goals as goal

pub returns : goal.returns
unfolding known
returns c = let W = words_of c.args.job.now in
    every_from_all (known c.args.values) (λ k. get_or (vgroup_row W c.args.at) k (val 0)) _ c.all.ensures.ran (λ x b q k. search (rules, tests))
    ∙ every_member (known c.args.values) W c.args.at _ c.group_len.ensures
