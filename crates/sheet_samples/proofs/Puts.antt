-- The program's lines, put together. Assumes nothing.
use mathlib.Core.Path.{refl}
use mathlib.Core.List.{List, [], ◌∷◌, ◌++◌}
use Prim.Native.Nat.{ℕ}
use native.Mathlib.Omega.{arith}
use Rattle.definition.specs.Text.{bytes, decimal, line_feed}
use Rattle.lines.specs.Wrote.{Wrote}
use Rattle.lines.specs.Laws.{then, as_text}
use Rattle.sheet_samples.specs.Tallies.{tally_line}

pub tally_text : (i j k : ℕ) {a b c d e r : ℕ} {o o₁ o₂ o₃ o₄ o₅ o₆ : List ℕ} → Wrote 20 0 o a o₁ (decimal i)
    → Wrote 16 a o₁ b o₂ (bytes " samples agree, ") → Wrote 20 b o₂ c o₃ (decimal j)
    → Wrote 9 c o₃ d o₄ (bytes " differ, ") → Wrote 20 d o₄ e o₅ (decimal k)
    → Wrote 24 e o₅ r o₆ (bytes " blocks have no partner" ++ (line_feed ∷ [])) → Wrote 128 0 o r o₆ (tally_line i j k)
tally_text i j k u v w x y z =
    as_text 128 (tally_line i j k) (then (then (then (then (then u v) w) x) y) z) (omega arith) refl
