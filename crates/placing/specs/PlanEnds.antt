-- Whether a plan places a register. Assumes nothing.
use Rattle.std.specs.Prelude.{Result, Ok, Err}
use Rattle.placing.specs.declared.end.NotPlaced.{NotPlaced}
use Rattle.placing.specs.declared.end.NotPlaced.TheVariants as not_placed
use Rattle.placing.specs.declared.plan.Plan.{Plan}
use Rattle.placing.specs.declared.plan.Plan.TheVariants as plans

-- it does, or why not
abbrev pub placed_by : Plan → Result (Unit {0}) NotPlaced
placed_by plans.Alone = Ok tt
placed_by (plans.Lead i) = Ok tt
placed_by (plans.Join g i) = Ok tt
placed_by (plans.Merge g v i k) = Ok tt
placed_by (plans.Stop s) = Err (not_placed.Stopped s)
placed_by plans.Full = Err not_placed.Full
