-- The verdict on a sheet that is to be compared, and what its table has then. Assumes nothing.
use Rattle.std.specs.Prelude.{◌≡◌, List, ℕ, Result, IsOk}
use Rattle.definition.specs.declared.SheetRefusal.{SheetRefusal}
use Rattle.definition.specs.SheetForms.{verdict}
use Rattle.entry.specs.Number.{refusal_in}
use Rattle.sheet.specs.declared.either.Reading.{Reading}
use Rattle.sheet_verdict.specs.Judged.{LeadsTo}
use Rattle.job_pages.specs.Starts.{Begins}

-- v is the verdict on the sheet; where it is no refusal, the words T have the sheet's bare records left at the start
pub record Shelved (sheet T : List ℕ) (v : Result Unit SheetRefusal) : Type 0 where
  pub verdict : refusal_in v ≡ verdict sheet
  pub begins : IsOk v → Begins sheet T

-- so for every sheet that leads the reader to the state cur, the words T and the kept words Y
abbrev pub Shelves : Reading → List ℕ → List ℕ → Result Unit SheetRefusal → Type 0
Shelves cur T Y v = (sheet : List ℕ) → LeadsTo sheet cur T Y → Shelved sheet T v
