-- What `vregs` writes of an answer, on a tape. Assumes nothing.
use Rattle.std.specs.Prelude.{◌≡◌, Bool, true, List, ℕ}
use Rattle.definition.specs.Build.{Result}
use Rattle.definition.specs.SheetForms.{SheetOut, answer_text}
use Rattle.build_answer.specs.declared.BuildEnd.{BuildEnd}
use Rattle.sheet_output.specs.Left.{at_start}
use Rattle.sheet_output.specs.AnswerPages.{Printing}
use Rattle.vregs_answer.specs.Sheet.{vregs_tables}
use Rattle.streams.specs.declared.Stream.{Stream}
use Rattle.streams.specs.Tape.{is_tape}
use Rattle.streams.specs.Paper.{OnPaper}

-- the sheet of every answer that ended so and stands in the tables x
pub record Shown (end : BuildEnd) (x tape paper : List ℕ) (s : Stream) (failed : Bool) (next : Stream) (P : List ℕ) :
    Type 0 where
  pub on_paper : is_tape s ≡ true → (o : SheetOut Result) → Printing vregs_tables o end x at_start
      → OnPaper tape paper (answer_text o) s failed next P
