-- What `vregs` answers to a sheet, and leaves in its result tables. Assumes nothing.
use Rattle.std.specs.Prelude.{List, ℕ}
use Rattle.definition.specs.Limits.{vregs_room}
use Rattle.definition.specs.SheetForms.{answer_to_sheet}
use Rattle.virt_regs.specs.declared.OutLayout.{OutLayout}
use Rattle.sheet.specs.declared.either.Reading.{Reading}
use Rattle.sheet_verdict.specs.Judged.{LeadsTo}
use Rattle.build_answer.specs.declared.BuildEnd.{BuildEnd}
use Rattle.build_answer.specs.Sheets.{SheetAnswered}

-- "The result tables of `vregs`: 4,096 registers and segments, 8,192 uses, 512 groups."
abbrev pub vregs_tables : OutLayout
vregs_tables = record { regs = 4096; segs = 4096; uses = 8192; groups = 512 }

-- a number alone
abbrev pub refusal : ℕ → BuildEnd
refusal n = record { number = n; registers = 0; groups = 0 }

-- r and the bytes x of a slice of n bytes are the answer to every sheet whose bytes lead the reader to the state cur,
-- the words W and the kept words Y
abbrev pub Answers : ℕ → Reading → List ℕ → List ℕ → BuildEnd → List ℕ → Type 0
Answers n cur W Y r x = (sheet : List ℕ) → LeadsTo sheet cur W Y
    → SheetAnswered n vregs_tables (answer_to_sheet sheet vregs_room) r x
