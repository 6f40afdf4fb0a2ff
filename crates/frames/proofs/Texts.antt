-- The report's lines, put together. Assumes nothing.
use mathlib.Core.Path.{◌≡◌, refl, sym, ap, ◌∙◌}
use mathlib.Core.Bool.{Bool, true, false, cond}
use mathlib.Core.List.{List, [], ◌∷◌, ◌++◌}
use Prim.Native.Nat.{ℕ, ◌-◌, ◌^◌, ◌≤◌, ◌<◌}
use native.Mathlib.Omega.{arith}
use native.Mathlib.Nat.{pow-le-pow_right}
use lib.Dec.{ltb}
use borrow.Author.Tests.{ltb-true, ltb-false, eq-eqb, ne_eqb}
use Rattle.definition.specs.Text.{bytes, decimal, line_feed}
use Rattle.io.specs.Digits.{IsDigitCount}
use Rattle.lines.specs.Wrote.{Wrote}
use Rattle.lines.specs.Laws.{then, as_text}
use Rattle.frames.specs.Report.{differs_line, summary}

-- a number of 64 bits has up to twenty digits
pub count_short : (n k : ℕ) → n < 18446744073709551616 → IsDigitCount 10 1 n k → k ≤ 20
count_short n k h f = go (ltb 20 k) refl
  where
    go : (t : Bool) → ltb 20 k ≡ t → k ≤ 20
    go false e = ltb-false 20 k e
    go true e =
        let l : 20 < k = ltb-true 20 k e in
        let g : 20 ≤ k - 1 = omega arith in
        let p : 10 ^ 20 ≤ 10 ^ (k - 1) = pow-le-pow_right {n = 10} (omega arith) g in
        let q : 10 ^ (k - 1) ≤ n = f.2 (omega arith) in
        absurd (omega arith)

pub differs_none : (s : Bool) (k : ℕ) (o : List ℕ) → s ≡ true → Wrote 64 0 o 0 o (differs_line s k)
unfolding differs_line
differs_none s k o e = record { most = omega arith; is = sym (ap (λ (b : Bool). differs_line b k) e) }

pub differs_text : (s : Bool) (k : ℕ) {a b r : ℕ} {o o₁ o₂ o₃ : List ℕ} → s ≡ false → Wrote 9 0 o a o₁ (bytes "differs: ") → Wrote 20 a o₁ b o₂ (decimal k) → Wrote 1 b o₂ r o₃ (line_feed ∷ []) → Wrote 64 0 o r o₃ (differs_line s k)
unfolding differs_line
differs_text s k e x y z = as_text 64 (differs_line s k) (then (then x y) z) (omega arith) (sym (ap (λ (b : Bool). differs_line b k) e))

module _ (w : Bool) (n d : ℕ) {a : ℕ} {o o₁ : List ℕ} (x : Wrote 20 0 o a o₁ (decimal n)) where
  pub summary_cut : {r : ℕ} {o₂ : List ℕ} → w ≡ false → Wrote 24 a o₁ r o₂ (bytes " answers, then no frame" ++ (line_feed ∷ [])) → Wrote 64 0 o r o₂ (summary w n d)
  unfolding summary
  summary_cut e y = as_text 64 (summary w n d) (then x y) (omega arith) (sym (ap (λ (b : Bool). summary b n d) e))

  pub summary_equal : {r : ℕ} {o₂ : List ℕ} → w ≡ true → d ≡ 0 → Wrote 20 a o₁ r o₂ (bytes " answers, all equal" ++ (line_feed ∷ [])) → Wrote 64 0 o r o₂ (summary w n d)
  unfolding summary
  summary_equal e z y =
      as_text 64 (summary w n d) (then x y) (omega arith)
      (sym (ap (λ (b : Bool). summary b n d) e ∙ ap (λ (b : Bool). cond b (decimal n ++ (bytes " answers, all equal" ++ (line_feed ∷ []))) (decimal n ++ bytes " answers, " ++ decimal d ++ (bytes " differ" ++ (line_feed ∷ [])))) (eq-eqb d 0 z)))

  pub summary_differ : {b c r : ℕ} {o₂ o₃ o₄ : List ℕ} → w ≡ true → (d ≡ 0 → ⊥) → Wrote 10 a o₁ b o₂ (bytes " answers, ") → Wrote 20 b o₂ c o₃ (decimal d) → Wrote 8 c o₃ r o₄ (bytes " differ" ++ (line_feed ∷ []))
      → Wrote 64 0 o r o₄ (summary w n d)
  unfolding summary
  summary_differ e z y u v =
      as_text 64 (summary w n d) (then (then (then x y) u) v) (omega arith)
      (sym (ap (λ (b : Bool). summary b n d) e ∙ ap (λ (b : Bool). cond b (decimal n ++ (bytes " answers, all equal" ++ (line_feed ∷ []))) (decimal n ++ bytes " answers, " ++ decimal d ++ (bytes " differ" ++ (line_feed ∷ [])))) (ne_eqb d 0 z)))
