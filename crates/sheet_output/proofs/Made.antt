-- An array that a closure made is the table of what the closure says. Assumes nothing.
use mathlib.Core.Path.{◌≡◌, refl, sym, ap, subst, ◌∙◌}
use mathlib.Core.List.{List, ◌∷◌}
use Prim.Native.Nat.{ℕ, zero, suc, ◌+◌}
use native.Mathlib.Omega.{arith}
use native.Mathlib.Numerals.{add-one}
use lib.ListN.{length, drop, drop_of_length-le}
use lib.Seq.{drop-cons}
use denote.Param.Members.{Mut}
use Rattle.std.specs.Fn.{Called}
use Rattle.std.specs.Array.{IsFromFnResultFrom, IsFromFnResult}
use Rattle.words.specs.Tab.{tab}

-- h says f x at x, and stays as it is
module _ {F : Type 0} (g : Mut F (ℕ × Unit {0}) ℕ) (f : ℕ → ℕ) (h : F) (is : (x b : ℕ) (q : F) → Called g h (x, tt) b q → (q ≡ h) × (b ≡ f x)) where
  made_from : (p : F) (ys : List ℕ) (i n : ℕ) → p ≡ h → length ys ≡ i + n → IsFromFnResultFrom g p ys i n → drop i ys ≡ tab f i n
  made_from p ys i zero e l r = drop_of_length-le ys (omega (arith, l))
  made_from p ys i (suc n) e l r =
      let q = is i r.1 r.0 (subst (λ (k : F). Called g k (i, tt) r.1 r.0) e r.3) in
      drop-cons ys i 0 (omega (arith, l))
      ∙ ap (λ (x : ℕ). x ∷ drop (suc i) ys) (r.2.1 0 ∙ q.1)
      ∙ ap (λ (k : ℕ). f i ∷ drop k ys) (sym (add-one i))
      ∙ ap (λ (l : List ℕ). f i ∷ l) (made_from r.0 ys (i + 1) n q.0 (omega (arith, l)) r.4)

  pub made : (ys : List ℕ) (n : ℕ) → IsFromFnResult g h ys n → ys ≡ tab f 0 n
  made ys n r = made_from h ys 0 n refl (omega (arith, r.long)) r.each
