-- Change request 13 of what `vregs` builds for a sheet of either form. Assumes nothing.
use mathlib.Core.Path.{◌≡◌}
use mathlib.Core.Option.{some}
use mathlib.Core.List.{List}
use Prim.Native.Nat.{ℕ}
use Rattle.definition.specs.Types.{Job}
use Rattle.definition.specs.SheetForms.{job_in}
use Rattle.definition.proofs.Places.{All}
use Rattle.sheet.specs.declared.either.Reading.{Reading}
use Rattle.sheet_verdict.specs.Judged.{LeadsTo}
use Rattle.build_answer.specs.Truth.{TrueWeight}
use Rattle.build_answer.specs.declared.BuildEnd.{BuildEnd}
use Rattle.build_answer.specs.Answered.{result_in}
use Rattle.build_answer.proofs.Promises.{promise_weights_sheet}
use Rattle.vregs_answer.specs.Sheet.{vregs_tables, Answers}

-- The contract of `answer_table` gives `Answers`: so each register that it leaves for a sheet has a true weight, by the
-- numbers of the sheet's own job.
-- Rules out, as readings: the job that the reader's table stands for, in place of the sheet's; a sheet that is refused.
pub promise_weights_vregs : (n : ℕ) (cur : Reading) (W Y : List ℕ) (r : BuildEnd) (x : List ℕ) → Answers n cur W Y r x
    → r.number ≡ 0 → (sheet : List ℕ) → LeadsTo sheet cur W Y
    → (job : Job) → job_in sheet ≡ some job → All (TrueWeight job) (result_in vregs_tables r x).registers
promise_weights_vregs n cur W Y r x a z sheet s job j =
    promise_weights_sheet n vregs_tables sheet job r x (a sheet s) z j
