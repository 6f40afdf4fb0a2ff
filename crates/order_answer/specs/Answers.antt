-- The answer to two sheets by their verdicts and tables. Assumes nothing.
use Rattle.std.specs.Prelude.{◌≡◌, List, ℕ, Result, Ok, Err}
use Rattle.definition.specs.declared.Order.{Order}
use Rattle.definition.specs.declared.SheetRefusal.{SheetRefusal}
use Rattle.definition.specs.SheetForms.{SheetOut, given', refused'}
use Rattle.definition.specs.JobOrder.{order_of}
use Rattle.order_answer.specs.Shelved.{Shelved}

-- an answer, as the definition has it
abbrev pub out_of : Result Order SheetRefusal → SheetOut Order
out_of (Ok o) = given' o
out_of (Err r) = refused' r

-- r is the answer to every two sheets of these verdicts and these words
abbrev pub Answers : Result Unit SheetRefusal → List ℕ → Result Unit SheetRefusal → List ℕ
    → Result Order SheetRefusal → Type 0
Answers v T w U r = (a b : List ℕ) → Shelved a T v → Shelved b U w → out_of r ≡ order_of a b
