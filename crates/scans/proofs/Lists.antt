-- One use more, at the end of those that a walk passed. Assumes nothing.
use mathlib.Core.Path.{◌≡◌, sym, ap, ◌∙◌}
use mathlib.Core.List.{[], ◌∷◌, ◌++◌, reverse, reverse-append}
use Prim.Native.Nat.{ℕ, ◌+◌, ◌-◌, ◌≤◌, ◌<◌}
use native.Mathlib.Omega.{arith}
use lib.ListN.{length}
use Rattle.words.specs.Tab.{tab, down, tab_more, tab_done, tab_snoc, tab_append, tab_ext, down_reverse, length_down}
use Rattle.definition.specs.declared.Use.{Use}

module _ (f : ℕ → Use) where
  pub tab_none : (a : ℕ) → tab f a (a - a) ≡ []
  tab_none a = tab_done f a a (omega arith)

  pub back_none : (b : ℕ) → reverse (tab f b (b - b)) ≡ []
  back_none b = ap reverse (tab_none b)

  -- from a on
  pub tab_next : (a n : ℕ) → a ≤ n → tab f a (n + 1 - a) ≡ tab f a (n - a) ++ (f n ∷ [])
  tab_next a n l =
      let e : n + 1 - a ≡ n - a + 1 = omega arith in
      let g : a + (n - a) ≡ n = omega arith in
      ap (λ (k : ℕ). tab f a k) e ∙ tab_snoc f a (n - a) ∙ ap (λ (i : ℕ). tab f a (n - a) ++ (f i ∷ [])) g

  pub tab_parts : (a n b : ℕ) → a ≤ n → n ≤ b → tab f a (b - a) ≡ tab f a (n - a) ++ tab f n (b - n)
  tab_parts a n b l m =
      let e : b - a ≡ (n - a) + (b - n) = omega arith in
      let g : a + (n - a) ≡ n = omega arith in
      ap (λ (k : ℕ). tab f a k) e
      ∙ tab_append f a (n - a) (b - n)
      ∙ ap (λ (i : ℕ). tab f a (n - a) ++ tab f i (b - n)) g

  -- back from b - 1 on
  pub back_next : (n b : ℕ) → n < b → reverse (tab f n (b - n)) ≡ reverse (tab f (n + 1) (b - (n + 1))) ++ (f n ∷ [])
  back_next n b l = ap reverse (tab_more f n b l) ∙ reverse-append (f n ∷ []) (tab f (n + 1) (b - (n + 1)))

  pub back_parts : (a n b : ℕ) → a ≤ n → n ≤ b
      → reverse (tab f a (b - a)) ≡ reverse (tab f n (b - n)) ++ reverse (tab f a (n - a))
  back_parts a n b l m = ap reverse (tab_parts a n b l m) ∙ reverse-append (tab f a (n - a)) (tab f n (b - n))

  -- the uses from number a on, k of them, back from the last
  pub down_back : (a k : ℕ) → down (λ j. f (a + j)) k ≡ reverse (tab f a k)
  down_back a k =
      down_reverse (λ j. f (a + j)) k
      ∙ ap reverse
      (sym (tab_ext f (λ j. f (a + j)) a 0 k (λ n l. let q : a + n ≡ a + (0 + n) = omega arith in ap f q)))

  pub length_back : (a k : ℕ) → length (reverse (tab f a k)) ≡ k
  length_back a k = ap length (sym (down_back a k)) ∙ length_down (λ j. f (a + j)) k
