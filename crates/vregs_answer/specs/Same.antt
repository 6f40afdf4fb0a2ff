-- What a comparison says, whether it found a difference or none. Assumes nothing.
use Rattle.std.specs.Prelude.{◌≡◌, refl, Bool, true, false, List, ℕ}
use Rattle.std.proofs.Common.{sym, ap, ◌∙◌}
use Rattle.definition.specs.Build.{Result}
use Rattle.definition.specs.Text.{same}
use Rattle.definition.specs.SheetForms.{SheetOut, answer_text}
use Rattle.definition.proofs.Same.{same_eq, same_refl}
use Rattle.sheet_output.specs.Left.{at_start}
use Rattle.build_answer.specs.declared.BuildEnd.{BuildEnd}
use Rattle.sheet_output.specs.AnswerPages.{Printing}
use Rattle.vregs_answer.specs.Sheet.{vregs_tables}

-- r is whether the answer is the text of what ended with e and stands in the bytes x
abbrev pub TellsSheet : BuildEnd → List ℕ → List ℕ → Bool → Type 0
TellsSheet e x answer r = (o : SheetOut Result) → Printing vregs_tables o e x at_start → r ≡ same answer (answer_text o)

-- ---- `same` is true of equal lists alone

-- what is true exactly of equal lists is `same`
pub same_is : (b : Bool) (xs ys : List ℕ) → (b ≡ true → xs ≡ ys) × (xs ≡ ys → b ≡ true) → b ≡ same xs ys
same_is true xs ys h = sym (ap (λ (zs : List ℕ). same xs zs) (sym (h.0 refl)) ∙ same_refl xs)
same_is false xs ys h = go (same xs ys) refl
  where
    go : (b : Bool) → same xs ys ≡ b → false ≡ same xs ys
    go true e = h.1 (same_eq xs ys e) ∙ sym e
    go false e = sym e
