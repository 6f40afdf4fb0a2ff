-- A register sheet line by line. Assumes nothing.
use Rattle.std.specs.Prelude.{◌≡◌, refl, List, [], ◌∷◌, ◌++◌, ℕ}
use Rattle.std.proofs.Common.{sym, ap, ◌∙◌, append_assoc}
use Rattle.definition.specs.Lines.{Line}
use Rattle.definition.specs.RegisterSheet.{line_bytes, lines_bytes}

-- lines behind lines
pub lines_append : (xs ys : List Line) → lines_bytes (xs ++ ys) ≡ lines_bytes xs ++ lines_bytes ys
unfolding lines_bytes
lines_append [] ys = refl
lines_append (x ∷ xs) ys =
    ap (λ (l : List ℕ). line_bytes x ++ l) (lines_append xs ys) ∙ sym (append_assoc (line_bytes x) (lines_bytes xs) (lines_bytes ys))
