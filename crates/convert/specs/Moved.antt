-- What a conversion of a sheet in memory is, and what a comparison with its text tells. Assumes nothing.
use Rattle.std.specs.Prelude.{◌≡◌, Bool, ◌&&◌, ◌||◌, List, [], ◌∷◌, ℕ, ◌+◌, ◌≤◌, ◌<◌, length, take}
use Rattle.std.specs.Prelude.{Option, MatchOption, is_some, IsOk}
use Rattle.std.specs.Result.{result_err}
use Rattle.definition.specs.Types.{Job}
use Rattle.definition.specs.JobSheet.{Record}
use Rattle.definition.specs.Text.{bytes, same, line}
use Rattle.definition.specs.Conversion.{move_to, converted}
use Rattle.job_pages.specs.Cursors.{at_start}
use Rattle.job_pages.specs.Left.{Left, text_left}
use Rattle.convert.specs.Settled.{moved_verdict}
use Rattle.convert.specs.declared.memory.Moved.{Moved}

-- the refusal is that of the program's answer, and the first bytes of B are what it writes
pub record Whole (asked : Bool) (sheet : List ℕ) (m : Moved) (B : List ℕ) : Type 0 where
  pub refused : m.refused ≡ result_err (moved_verdict (move_to asked sheet))
  pub within : m.n ≤ length B
  pub is : take m.n B ≡ converted asked sheet

-- so it is; or the program's answer is no refusal, and B has no room for what it writes and a line
abbrev pub Answered : Bool → List ℕ → Option Moved → List ℕ → Type 0
Answered asked sheet r B = MatchOption r
    (IsOk (moved_verdict (move_to asked sheet)) × (length B < length (converted asked sheet) + 256))
    (λ m. Whole asked sheet m B)

-- r is whether the answer is the text of the records that the words T have at the start
abbrev pub TellsSheet : Bool → List ℕ → List ℕ → Bool → Type 0
TellsSheet asked T answer r =
    (job : Job) (rs : List Record) → Left T job at_start rs → r ≡ same answer (text_left asked job at_start rs)

-- whether the program of the sheet's own form refuses it with 1, and writes it for what it was moved to, where that is
-- no refusal
abbrev pub gets_back : Bool → Moved → List ℕ → List ℕ → Bool
gets_back second m sheet moved =
    same (line "refused" (bytes "1" ∷ [])) (converted second sheet)
    && (is_some m.refused || same sheet (converted second moved))
