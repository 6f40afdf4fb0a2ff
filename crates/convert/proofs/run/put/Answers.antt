use mathlib.Core.Path.{ap}
use Rattle.std.specs.Prelude.{is_ok}
use Rattle.convert.proofs.Starts.{put_sheet, put_refusal}
use Rattle.convert.proofs.run.put.Goals as goal

pub returns-in-Ok : goal.returns-in-Ok
returns-in-Ok g c = put_sheet _ _ _ _ _ _ _ _ _ (ap is_ok c.in-Ok.is) c.print.ensures

pub returns-in-Err : goal.returns-in-Err
returns-in-Err g c = put_refusal _ _ _ _ _ _ _ _ _ _ c.in-Err.is c.refuse.ensures
