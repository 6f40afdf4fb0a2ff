-- What `vregs` prints for different answers can be told apart. Assumes nothing.
use Rattle.std.specs.Prelude.{◌≡◌, refl, List, [], ◌∷◌, ℕ}
use Rattle.std.proofs.Common.{arith}
use Rattle.definition.specs.Types.{Register}
use Rattle.definition.specs.Build.{Result}
use Rattle.definition.specs.SheetForms.{SheetOut, given', refused', answer_text}
use Rattle.lines.specs.Results.{Weighed, Fit, SameAnswer, told_apart}
use Rattle.virt_regs.specs.declared.OutLayout.{OutLayout}
use Rattle.virt_regs.specs.Each.{Each}
use Rattle.virt_regs.specs.Encoding.{Weighs}
use Rattle.build_answer.specs.declared.BuildEnd.{BuildEnd}
use Rattle.build_answer.specs.Sheets.{SheetAnswered}

weighed : (rs : List Register) → Each (λ r. Weighs r.weight) rs → Weighed rs
unfolding Each Weighs
weighed [] h = tt
weighed (r ∷ rs) h = (omega (arith, h.0.1), weighed rs h.1)

-- an answer that was left has weights that are words
fit : (n : ℕ) (ol : OutLayout) (o : SheetOut Result) (r : BuildEnd) (x : List ℕ) → SheetAnswered n ol o r x → Fit o
fit n ol (given' res) r x a = weighed res.registers (a.holds res refl).weights
fit n ol (refused' f) r x a = tt

-- "Results are equal if the vreg, seg, use, group and end lines for them are the same": two answers whose printed bytes
-- are equal are both the same lines, or the same number.
-- Rules out: a writer that leaves out the uses of a piece; one that prints a weight's decimal value, so that two
-- weights look the same.
pub answers_apart : (n₁ n₂ : ℕ) (ol₁ ol₂ : OutLayout) (a b : SheetOut Result) (r₁ r₂ : BuildEnd) (x₁ x₂ : List ℕ)
    → SheetAnswered n₁ ol₁ a r₁ x₁ → SheetAnswered n₂ ol₂ b r₂ x₂ → answer_text a ≡ answer_text b
    → SameAnswer a b
answers_apart n₁ n₂ ol₁ ol₂ a b r₁ r₂ x₁ x₂ p q e = told_apart a b (fit n₁ ol₁ a r₁ x₁ p) (fit n₂ ol₂ b r₂ x₂ q) e
