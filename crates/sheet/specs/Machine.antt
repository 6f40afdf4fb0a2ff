-- The reader as a machine: lines, parts of a sheet, its start and its end. Assumes nothing.
use Rattle.std.specs.Prelude.{List, [], ◌∷◌, false, cond, ℕ, replicate, eqb, None, Some, Result, Ok, Err, ⊤}
use Rattle.sheet.specs.declared.fields.St.{St}
use Rattle.sheet.specs.Fields.{Next, Fed, fed, begin_of, byte_of, end_field, close_record}
use Rattle.sheet.specs.declared.first.SheetError.{SheetError}
use Rattle.sheet.specs.declared.first.SheetError.TheVariants.{Malformed, TooMany}

-- whether a sheet is a job's
abbrev pub Answer : Type 0
Answer = Result ⊤ SheetError

abbrev pub on_field : Next → List ℕ → Fed
on_field (Some t) out = close_record t out
on_field None out = fed None out

-- a line ends
unfoldable pub end_line : St → List ℕ → Fed
end_line s out = let f : Fed = end_field s out in on_field f.next f.out

unfoldable pub step_of : St → ℕ → List ℕ → Fed
step_of s b out = cond (eqb b 10) (end_line s out) (cond (eqb b 9) (end_field s out) (fed (byte_of s b) out))

abbrev pub on_next : Next → ℕ → List ℕ → Fed
on_next (Some s) b out = step_of s b out
on_next None b out = fed None out

unfoldable pub push_of : Fed → ℕ → Fed
push_of f b = on_next f.next b f.out

-- all bytes of a part of the sheet
unfoldable pub run_of : Fed → List ℕ → Fed
run_of f [] = f
run_of f (b ∷ bs) = run_of (push_of f b) bs

-- the start, from a table of n words
unfoldable pub open_of : ℕ → Fed
open_of n = fed (Some (begin_of 12 false)) (replicate n 0)

unfoldable pub ended_of : St → Answer
ended_of s = cond (eqb s.prev 11) (cond (eqb s.n 0) (cond (eqb s.len 0) (cond s.over (Err TooMany) (Ok tt)) (Err Malformed)) (Err Malformed)) (Err Malformed)

unfoldable pub answer_of : Next → Answer
answer_of None = Err Malformed
answer_of (Some s) = ended_of s
