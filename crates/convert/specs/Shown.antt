-- What `to_form2` and `to_form1` write from a stream's state s on, on a tape. Assumes nothing.
use Rattle.std.specs.Prelude.{◌≡◌, Bool, true, List, ℕ, Result}
use Rattle.definition.specs.declared.SheetRefusal.{SheetRefusal}
use Rattle.definition.specs.Types.{Job}
use Rattle.definition.specs.JobSheet.{Record}
use Rattle.definition.specs.Conversion.{converted}
use Rattle.register_sheet.specs.Typed.{refused_line}
use Rattle.job_pages.specs.Cursors.{at_start}
use Rattle.job_pages.specs.Left.{Left, text_left}
use Rattle.convert.specs.Settled.{Settled}
use Rattle.streams.specs.declared.Stream.{Stream}
use Rattle.streams.specs.Tape.{is_tape}
use Rattle.streams.specs.Paper.{OnPaper}

-- a text
abbrev pub Written : List ℕ → List ℕ → List ℕ → Stream → Bool → Stream → List ℕ → Type 0
Written tape paper text s failed t P = is_tape s ≡ true → OnPaper tape paper text s failed t P

-- the text of all records that the words T have at the start
abbrev pub Shown : Bool → List ℕ → List ℕ → List ℕ → Stream → Bool → Stream → List ℕ → Type 0
Shown second T tape paper s failed t P =
    (job : Job) (rs : List Record) → Left T job at_start rs
    → Written tape paper (text_left second job at_start rs) s failed t P

-- a refusal's line
abbrev pub Refused : ℕ → List ℕ → List ℕ → Stream → Bool → Stream → List ℕ → Type 0
Refused n tape paper s failed t P = Written tape paper (refused_line n) s failed t P

-- the answer to every sheet that the verdict v settles
abbrev pub Put : Bool → Result Unit SheetRefusal → List ℕ → List ℕ → List ℕ → Stream → Bool → Stream → List ℕ → Type 0
Put second v T tape paper s failed t P =
    (sheet : List ℕ) → Settled second sheet T v → Written tape paper (converted second sheet) s failed t P
