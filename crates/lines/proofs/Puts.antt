-- Text behind text. Assumes nothing.
use mathlib.Core.Path.{◌≡◌, sym, ap, ◌∙◌}
use mathlib.Core.List.{List, ◌∷◌, ◌++◌, append_assoc, append-nil}
use Prim.Native.Nat.{ℕ, zero, suc, ◌+◌, ◌-◌, ◌*◌, ◌≤◌, ◌<◌}
use native.Mathlib.Omega.{arith}
use native.Mathlib.Numerals.{add-one}
use lib.ListN.{length, get_or, take, drop, drop_of_length-le}
use lib.Seq.{drop-cons}
use Rattle.definition.specs.Text.{decimal, bytes}
use Rattle.lines.specs.Wrote.{texts_of, index_text, Wrote}
use Rattle.lines.specs.Laws.{as_text}

-- the fields so far, and those to come
module _ (text : ℕ → List ℕ) where
  pub record Fielding (out₀ vals : List ℕ) (at i : ℕ) (out : List ℕ) (a : ℕ) : Type 0 where
    pub within : i ≤ length vals
    pub long : length out ≡ length out₀
    pub most : a + (length vals - i) * 21 ≤ at + length vals * 21
    pub is : take at out₀ ++ texts_of text vals ≡ take a out ++ texts_of text (drop i vals)

  pub field_next : {out₀ vals out o : List ℕ} {at i a b : ℕ} → Fielding out₀ vals at i out a → i < length vals → length o ≡ length out
      → Wrote 21 a out b o (9 ∷ text (get_or vals i 0)) → Fielding out₀ vals at (i + 1) o b
  unfolding texts_of
  field_next {out₀} {vals} {out} {o} {at} {i} {a} {b} f h l w = record {
    within = omega arith;
    long = l ∙ f.long;
    most = omega arith;
    is = f.is ∙ rw (add-one, drop-cons vals i 0 h, w.is) (sym (append_assoc (take a out) (9 ∷ text (get_or vals i 0)) (texts_of text (drop (suc i) vals))));
  }

  pub field_done : {out₀ vals out : List ℕ} {at i a : ℕ} → Fielding out₀ vals at i out a → length vals ≤ i → Wrote (length vals * 21) at out₀ a out (texts_of text vals)
  unfolding texts_of
  field_done {out₀} {vals} {out} {at} {i} {a} f h = record { most = omega arith; is = sym (f.is ∙ rw (drop_of_length-le vals h) (append-nil (take a out))) }

-- an index
pub index_none : {m at r : ℕ} {o o₁ t : List ℕ} (w : ℕ) → (1 ≤ w → ⊥) → Wrote m at o r o₁ t → m ≤ 21 → t ≡ 9 ∷ bytes "-" → Wrote 21 at o r o₁ (9 ∷ index_text w)
unfolding index_text
index_none zero z u h e = as_text 21 (9 ∷ index_text zero) u h e
index_none (suc w) z u h e = absurd (z (omega arith))

pub index_some : {at r : ℕ} {o o₁ : List ℕ} (w v : ℕ) → (1 ≤ w) × (v ≡ w - 1) → Wrote 21 at o r o₁ (9 ∷ decimal v) → Wrote 21 at o r o₁ (9 ∷ index_text w)
unfolding index_text
index_some zero v h u = absurd (omega (arith, h.0))
index_some (suc w) v h u = as_text 21 (9 ∷ index_text (suc w)) u (omega arith) (ap (λ (k : ℕ). 9 ∷ decimal k) (let e : v ≡ w = omega (arith, h.1) in e))
