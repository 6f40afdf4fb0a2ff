-- The line of an answer. Assumes nothing.
use Rattle.std.specs.Prelude.{◌≡◌, List, [], ◌∷◌, ◌++◌, ℕ, ◌≤◌, length, Result, Ok, Err}
use Rattle.std.proofs.Common.{sym, ap, ◌∙◌, arith}
use Rattle.definition.specs.declared.Order.{Order}
use Rattle.definition.specs.declared.Order.TheVariants.{Before, Same, After}
use Rattle.definition.specs.declared.SheetRefusal.{SheetRefusal}
use Rattle.definition.specs.Text.{bytes}
use Rattle.definition.specs.SheetForms.{sheet_number_of}
use Rattle.definition.specs.JobOrder.{order_word, answered}
use Rattle.lines.specs.Wrote.{Wrote}
use Rattle.lines.specs.Laws.{then, as_text}
use Rattle.register_sheet.specs.Typed.{refused_line}
use Rattle.order_answer.specs.Answers.{out_of}

pub word_short : (o : Order) → length (bytes (order_word o)) ≤ 6
word_short Before = omega arith
word_short Same = omega arith
word_short After = omega arith

module _ (r : Result Order SheetRefusal) where
  pub word_line : (o : Order) (w : List ℕ) (O A B : List ℕ) (n m : ℕ) → r ≡ Ok o → w ≡ bytes (order_word o)
      → Wrote (length w) 0 O n A w → Wrote 1 n A m B (10 ∷ []) → Wrote 256 0 O m B (answered (out_of r))
  word_line o w O A B n m e f x y =
      let s : length w ≡ length (bytes (order_word o)) = ap length f in
      as_text 256 (answered (out_of r)) (then x y) (omega (arith, s, word_short o))
      (ap (λ (l : List ℕ). l ++ (10 ∷ [])) f
      ∙ ap (λ (q : Result Order SheetRefusal). answered (out_of q)) (sym e))

  pub number_line : (f : SheetRefusal) (O B : List ℕ) (k n : ℕ) → r ≡ Err f → k ≡ sheet_number_of f
      → Wrote 256 0 O n B (refused_line k) → Wrote 256 0 O n B (answered (out_of r))
  unfolding refused_line
  number_line f O B k n e h x =
      as_text 256 (answered (out_of r)) x (omega arith)
      (ap refused_line h ∙ ap (λ (q : Result Order SheetRefusal). answered (out_of q)) (sym e))
