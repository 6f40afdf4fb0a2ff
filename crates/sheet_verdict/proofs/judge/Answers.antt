use mathlib.Core.Path.{ap, ◌∙◌}
use Rattle.std.specs.Prelude.{Err}
use Rattle.sheet_verdict.proofs.Ways.{shaped_read, judged_malformed, judged_crowded, judged_read}
use Rattle.sheet_verdict.proofs.judge.Goals as goal

pub invariant_of-job : goal.invariant_of-job
invariant_of-job c = let p = c.requires in record { fits = (shaped_read _ _ _ p.0 p.1 p.2 _ c.finish.ensures c.in-Ok.is _ c.fixed_layout-lay.ensures).fits }

pub invariant_of-shaped : goal.invariant_of-shaped
invariant_of-shaped c = let p = c.requires in record { shaped = shaped_read _ _ _ p.0 p.1 p.2 _ c.finish.ensures c.in-Ok.is _ c.fixed_layout-lay.ensures }

pub returns-in-Ok : goal.returns-in-Ok
returns-in-Ok c = let p = c.requires in
    judged_read _ _ _ _ p.1 p.2 _ c.finish.ensures c.in-Ok.is _
    c.is_second.ensures _ c.fixed_layout-lay.ensures _
    c.judge_job.ensures

pub returns-in-Err-Malformed : goal.returns-in-Err-Malformed
returns-in-Err-Malformed c = let p = c.requires in
    judged_malformed _ _ _ _ p.1 p.2 _ c.finish.ensures (c.in-Err-Malformed.is ∙ ap Err c.in-Err-Malformed.field-0-is)

pub returns-in-Err-TooMany : goal.returns-in-Err-TooMany
returns-in-Err-TooMany c = let p = c.requires in
    judged_crowded _ _ _ _ p.1 p.2 _ c.finish.ensures (c.in-Err-TooMany.is ∙ ap Err c.in-Err-TooMany.field-0-is)
