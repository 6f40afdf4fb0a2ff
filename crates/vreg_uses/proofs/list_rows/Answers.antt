use Rattle.std.proofs.Common.{ap, ◌∙◌}
use Rattle.words.specs.Words.{words_of}
use Rattle.vreg_uses.proofs.Bytes.{list_words, list_within}
use Rattle.vreg_uses.proofs.list_rows.Goals as goal

pub use_list-requires : goal.use_list-requires
use_list-requires c = rw (c.use_base-base.ensures, c.group_base-behind.ensures) (list_within _ _ c.args.job.now.lay c.args.ol c.args.list c.requires.1 c.args.job.now.fits c.requires.0)

pub returns : goal.returns
returns c = ap words_of c.use_list.ensures ∙ rw (c.use_base-base.ensures, c.group_base-behind.ensures) (list_words _ _ c.args.job.now.lay c.args.ol c.args.list c.requires.1)
