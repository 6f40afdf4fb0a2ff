-- Laws of text behind text. Assumes nothing.
use Rattle.std.specs.Prelude.{◌≡◌, List, ◌++◌, ℕ, ◌+◌, ◌≤◌, take}
use Rattle.std.proofs.Common.{ap, ◌∙◌, append_assoc, arith}
use Rattle.lines.specs.Wrote.{Wrote}

-- one text behind another
pub then : {m k at r q : ℕ} {o o₁ o₂ x y : List ℕ} → Wrote m at o r o₁ x → Wrote k r o₁ q o₂ y → Wrote (m + k) at o q o₂ (x ++ y)
then {at = at} {o = o} {x = x} {y = y} u v = record { most = omega arith; is = v.is ∙ ap (λ l. l ++ y) u.is ∙ append_assoc (take at o) x y }

-- at most as much, and the same text
pub as_text : {m at r : ℕ} {o o₁ t : List ℕ} (k : ℕ) (u : List ℕ) → Wrote m at o r o₁ t → m ≤ k → t ≡ u → Wrote k at o r o₁ u
as_text {at = at} {o = o} k u w h e = record { most = omega arith; is = w.is ∙ ap (λ l. take at o ++ l) e }
