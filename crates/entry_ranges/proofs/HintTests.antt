-- Test 5 on the words of a job. Assumes nothing.
use Prim.Native.Nat.{ℕ}
use mathlib.Core.Path.{◌≡◌}
use mathlib.Core.Bool.{◌&&◌}
use mathlib.Core.List.{List}
use lib.Dec.{leb, ltb}
use Rattle.words.specs.RowsAt.{rows_at}
use Rattle.definition.specs.declared.Hint.{Hint}
use Rattle.definition.specs.Entry.{every, chained, insts, not_after, hints_ok}
use Rattle.hints.specs.Hints.{hint_at}
use Rattle.job.specs.declared.Layout.{Layout}
use Rattle.job.specs.Job.{raw_job}
use Rattle.entry_function.proofs.Tables.{raw_hints, values_count}
use Rattle.entry_ranges.specs.HintTests.{hint_known}

-- the test of a hint by the layout's number of values, and n instructions
pub known_is : (W : List ℕ) (lay : Layout) (n : ℕ) (h : Hint) → n ≡ insts (raw_job W lay) → hint_known (raw_job W lay) h ≡ ltb h.value.0 lay.values.n && leb h.inst.0 n
unfolding hint_known
known_is W lay n h e = rw (values_count W lay, ← e)

-- the whole test
pub hints_is : (W : List ℕ) (lay : Layout) → hints_ok (raw_job W lay)
    ≡ every (hint_known (raw_job W lay)) (rows_at hint_at W lay.hints.at 3 lay.hints.n) && chained not_after (rows_at hint_at W lay.hints.at 3 lay.hints.n)
unfolding hints_ok hint_known
hints_is W lay = rw (raw_hints W lay)
