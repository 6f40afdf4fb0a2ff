-- The refusal of a job's entry, and its number. Assumes nothing.
use Rattle.std.specs.Prelude.{ℕ, Bool, true, false, Result, Ok, Err, List, [], ◌∷◌}
use Rattle.std.proofs.Math.Option.{Option, none, some}
use Rattle.definition.specs.declared.Refusal.{Refusal}
use Rattle.definition.specs.declared.Refusal.TheVariants.{NotARecord, BadFunction, BadHint, BadSegment, BadUse}
use Rattle.definition.specs.Types.{Job, number_of}
use Rattle.definition.specs.Entry.{every, function_ok, hints_ok, segments_ok, uses_ok, entry}
use Rattle.job.specs.declared.Layout.{Layout}
use Rattle.job.specs.Job.{raw_job}
use Rattle.job_shape.specs.Shape.{shape_ok}
use Rattle.job_shape.specs.Answer.{binary_job}

-- the number of an entry's refusal; 0 for none
unfoldable pub number_in : Option Refusal → ℕ
number_in none = 0
number_in (some r) = number_of r

-- the refusal that an entry gave
abbrev pub refusal_in : {A E : Type 0} → Result A E → Option E
refusal_in (Ok a) = none
refusal_in (Err r) = some r

-- the definition's tests from 5 and from 4 on
abbrev pub list_tests : Job → List (Bool × Refusal)
list_tests job = (hints_ok job, BadHint) ∷ (segments_ok job, BadSegment) ∷ (every (uses_ok job) job.segments, BadUse) ∷ []

abbrev pub table_tests : Job → List (Bool × Refusal)
table_tests job = (function_ok job, BadFunction) ∷ list_tests job

-- that of the job with the words W: 0 if it is accepted
unfoldable pub number_for : List ℕ → Layout → ℕ
unfolding number_in entry raw_job
number_for W lay = number_in (entry (raw_job W lay))

-- ---- of a binary job

abbrev pub entry_if : Bool → Job → Option Refusal
unfolding entry
entry_if true job = entry job
entry_if false job = some NotARecord

-- "Tests 1 to 7 go by number, lowest first": a slice off its shape is refused by test 1, any other as its job is
unfoldable pub entry_of : List ℕ → Option Refusal
unfolding shape_ok binary_job entry
entry_of s = entry_if (shape_ok s) (binary_job s)

-- 0 if the job is accepted
unfoldable pub entry_number : List ℕ → ℕ
unfolding number_in entry_of
entry_number s = number_in (entry_of s)
