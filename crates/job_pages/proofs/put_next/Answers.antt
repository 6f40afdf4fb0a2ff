use mathlib.Core.Path.{sym, ◌∙◌}
use Rattle.job_pages.specs.Lines.{pass_step}
use Rattle.job_pages.proofs.Asked.{more, segs_few, key_low}
use Rattle.job_pages.proofs.put_next.Goals as goal

pub has_row-requires : goal.has_row-requires
has_row-requires c = let p = c.requires in (p.0.long, segs_few p.0 c.args.key p.1)

pub pass-requires : goal.pass-requires
pass-requires c = let p = c.requires in
    key_low p.0 c.args.key p.1 (sym c.has_row.ensures ∙ c.if-has_row.false)

pub returns-else-has_row : goal.returns-else-has_row
returns-else-has_row c = let p = c.requires in
    pass_step _ _ (more p.0 c.args.key p.1) _ _ _ _ p.0 (sym c.has_row.ensures ∙ c.if-has_row.false)
    c.pass.ensures
