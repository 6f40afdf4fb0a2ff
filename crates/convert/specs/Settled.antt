-- The verdict on a sheet that is to be moved to a form, and its refusal's line. Assumes nothing.
use Rattle.std.specs.Prelude.{◌≡◌, Bool, List, ℕ, Result, Ok, Err, is_ok, IsOk}
use Rattle.std.proofs.Common.{ap, sym}
use Rattle.std.proofs.lemmas.Bool.{true≢false}
use Rattle.definition.specs.declared.SheetRefusal.{SheetRefusal}
use Rattle.definition.specs.SheetForms.{SheetOut, given', refused', sheet_number_of}
use Rattle.definition.specs.Conversion.{move_to, moved_text}
use Rattle.sheet.specs.declared.either.Reading.{Reading}
use Rattle.sheet_verdict.specs.Judged.{LeadsTo}
use Rattle.register_sheet.specs.Typed.{refused_line}
use Rattle.job_pages.specs.Starts.{Moves}

-- the verdict of an answer: its refusal, or none of a sheet
abbrev pub moved_verdict : SheetOut (List ℕ) → Result Unit SheetRefusal
moved_verdict (given' t) = Ok tt
moved_verdict (refused' r) = Err r

-- v is the verdict of the answer to the sheet; where it is no refusal, the words T have the records that are to be
-- written
pub record Settled (second : Bool) (sheet T : List ℕ) (v : Result Unit SheetRefusal) : Type 0 where
  pub verdict : v ≡ moved_verdict (move_to second sheet)
  pub moves : IsOk v → Moves second sheet T

-- so for every sheet that leads the reader to the state cur, the words T and the kept words Y
abbrev pub Settles : Bool → Reading → List ℕ → List ℕ → Result Unit SheetRefusal → Type 0
Settles second cur T Y v = (sheet : List ℕ) → LeadsTo sheet cur T Y → Settled second sheet T v

-- a refusal's line by its number
pub refused_line_text : (r : SheetRefusal) (o : SheetOut (List ℕ)) → Err r ≡ moved_verdict o
    → refused_line (sheet_number_of r) ≡ moved_text o
unfolding refused_line
refused_line_text r (given' t) e = absurd (true≢false (sym (ap is_ok e)))
refused_line_text r (refused' f) e = let m : r ≡ f = cc in ap (λ (k : SheetRefusal). refused_line (sheet_number_of k)) m
