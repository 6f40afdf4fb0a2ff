-- Runs of neighbours with one key, and the loop that finds where the first run ends. Assumes nothing.
use Rattle.std.specs.Prelude.{◌≡◌, Bool, true, false, ℕ, zero, suc, ◌+◌, ◌-◌, ◌≤◌, ◌<◌, eqb}
use Rattle.std.proofs.Math.Path.{refl, sym, ap}
use Rattle.std.proofs.Common.{◌∙◌, arith, eq-eqb, ne_eqb, eqb-true}
use Rattle.std.proofs.Math.Bool.{cond}
use mathlib.Core.List.{List, [], ◌∷◌, ◌++◌}
use Rattle.std.proofs.Math.Numerals.{lt_of_le_of_ne}
use Rattle.std.proofs.lemmas.Bool.{eqb-false}
use Rattle.words.specs.Tab.{tab, tab_more, tab_append}
use Rattle.definition.specs.Build.{onto, runs}

-- alike are those with one key
abbrev pub same_key : {A : Type 0} → (A → ℕ) → A → A → Bool
same_key key x y = eqb (key x) (key y)

-- ---- a run of a list

module _ {A : Type 0} (key : A → ℕ) where
  abbrev AllAt : ℕ → List A → Type 0
  AllAt p [] = Unit {0}
  AllAt p (t ∷ ts) = (key t ≡ p) × AllAt p ts

  -- the first of them, if there is one, has another key than p
  abbrev NotAt : ℕ → List A → Type 0
  NotAt p [] = Unit {0}
  NotAt p (t ∷ ts) = key t ≡ p → ⊥

  onto_first : (t : A) (rs : List (List A)) → (xs : List A) × (ys : List (List A)) × (onto (same_key key) t rs ≡ (t ∷ xs) ∷ ys)
  onto_first t [] = ([], [], refl)
  onto_first t ([] ∷ cs) = ([], cs, refl)
  onto_first t ((c ∷ cs) ∷ ds) = go (same_key key t c)
    where
      go : (b : Bool) → (xs : List A) × (ys : List (List A)) × (cond b ((t ∷ c ∷ cs) ∷ ds) ((t ∷ []) ∷ (c ∷ cs) ∷ ds) ≡ (t ∷ xs) ∷ ys)
      go true = (c ∷ cs, ds, refl)
      go false = ([], (c ∷ cs) ∷ ds, refl)

  -- the last of a run
  onto_last : (t z : A) (rs : List (List A)) → same_key key t z ≡ false → onto (same_key key) t (onto (same_key key) z rs) ≡ (t ∷ []) ∷ onto (same_key key) z rs
  onto_last t z rs e =
      let o = onto_first z rs in
      ap (λ (l : List (List A)). onto (same_key key) t l) o.2
      ∙ ap (λ (b : Bool). cond b ((t ∷ z ∷ o.0) ∷ o.1) ((t ∷ []) ∷ (z ∷ o.0) ∷ o.1)) e
      ∙ ap (λ (l : List (List A)). (t ∷ []) ∷ l) (sym o.2)

  first_run : (p : ℕ) (t : A) (ts zs : List A) → AllAt p (t ∷ ts) → NotAt p zs → runs (same_key key) (t ∷ (ts ++ zs)) ≡ (t ∷ ts) ∷ runs (same_key key) zs
  unfolding runs
  first_run p t [] [] h n = refl
  first_run p t [] (z ∷ zs) h n = onto_last t z (runs (same_key key) zs) (ne_eqb (key t) (key z) (λ e. n (sym e ∙ h.0)))
  first_run p t (u ∷ ts) zs h n =
      ap (λ (l : List (List A)). onto (same_key key) t l) (first_run p u ts zs h.1 n)
      ∙ ap (λ (b : Bool). cond b ((t ∷ u ∷ ts) ∷ runs (same_key key) zs) ((t ∷ []) ∷ (u ∷ ts) ∷ runs (same_key key) zs)) (eq-eqb (key t) (key u) (h.0 ∙ sym h.1.0))

  -- ---- the same, listed by their number

  all_at : (p : ℕ) (f : ℕ → A) (a k : ℕ) → ((m : ℕ) → a ≤ m → m < a + k → key (f m) ≡ p) → AllAt p (tab f a k)
  all_at p f a zero h = tt
  all_at p f a (suc k) h = (h a (omega arith) (omega arith), all_at p f (a + 1) k (λ m l o. h m (omega arith) (omega arith)))

  not_at : (p : ℕ) (f : ℕ → A) (e k : ℕ) → (0 < k → key (f e) ≡ p → ⊥) → NotAt p (tab f e k)
  not_at p f e zero h = tt
  not_at p f e (suc k) h = h (omega arith)

  pub run_of : (p : ℕ) (f : ℕ → A) (a e n : ℕ) → a < e → e ≤ n → ((m : ℕ) → a ≤ m → m < e → key (f m) ≡ p) → (e < n → key (f e) ≡ p → ⊥)
      → runs (same_key key) (tab f a (n - a)) ≡ tab f a (e - a) ∷ runs (same_key key) (tab f e (n - e))
  run_of p f a e n la le h o =
      let y : n - a ≡ (e - a) + (n - e) = omega arith in
      let z : a + (e - a) ≡ e = omega arith in
      let w : tab f a (e - a) ≡ f a ∷ tab f (a + 1) (e - (a + 1)) = tab_more f a e la in
      let all : AllAt p (f a ∷ tab f (a + 1) (e - (a + 1))) = (h a (omega arith) la, all_at p f (a + 1) (e - (a + 1)) (λ m l r. h m (omega arith) (omega arith))) in
      ap (λ (k : ℕ). runs (same_key key) (tab f a k)) y
      ∙ ap (λ (l : List A). runs (same_key key) l) (tab_append f a (e - a) (n - e))
      ∙ ap (λ (k : ℕ). runs (same_key key) (tab f a (e - a) ++ tab f k (n - e))) z
      ∙ ap (λ (l : List A). runs (same_key key) (l ++ tab f e (n - e))) w
      ∙ first_run p (f a) (tab f (a + 1) (e - (a + 1))) (tab f e (n - e)) all (not_at p f e (n - e) (λ l. o (omega arith)))
      ∙ ap (λ (l : List A). l ∷ runs (same_key key) (tab f e (n - e))) (sym w)

-- ---- the loop that finds the end: those from a to e - 1 have key p. `keys m` is the key of number m

pub record Running (keys : ℕ → ℕ) (a n p e : ℕ) : Type 0 where
  pub some_row : a < e
  pub high : e ≤ n
  pub alike : (m : ℕ) → a ≤ m → m < e → keys m ≡ p

module _ (keys : ℕ → ℕ) (a n : ℕ) where
  pub running_start : (p : ℕ) → p ≡ keys a → a < n → Running keys a n p (a + 1)
  running_start p ep l =
      record {
        some_row = omega arith;
        high = omega arith;
        alike = λ m lo hi. let z : m ≡ a = omega arith in ap keys z ∙ sym ep;
      }

  module _ (p e : ℕ) (v : Running keys a n p e) where
    pub running_next : (q : ℕ) → q ≡ keys e → q ≡ p → e < n → Running keys a n p (e + 1)
    running_next q eq h l = record { some_row = omega (arith, v.some_row); high = omega arith; alike = λ m lo hi. go m lo hi (eqb m e) refl }
      where
        go : (m : ℕ) → a ≤ m → m < e + 1 → (b : Bool) → eqb m e ≡ b → keys m ≡ p
        go m lo hi true z = ap keys (eqb-true m e z) ∙ sym eq ∙ h
        go m lo hi false z = v.alike m lo (lt_of_le_of_ne (omega arith) (eqb-false m e z))

    -- the run ends at e where number e has another key, or there is none
    module _ {A : Type 0} (key : A → ℕ) (f : ℕ → A) (is : (m : ℕ) → key (f m) ≡ keys m) where
      run_is : (e < n → keys e ≡ p → ⊥)
          → (a < e) × (e ≤ n) × (runs (same_key key) (tab f a (n - a)) ≡ tab f a (e - a) ∷ runs (same_key key) (tab f e (n - e)))
      run_is o = (
        v.some_row,
        v.high,
        run_of key p f a e n v.some_row v.high (λ m lo hi. is m ∙ v.alike m lo hi) (λ l q. o l (sym (is e) ∙ q)),
      )

      pub running_stop : (q : ℕ) → q ≡ keys e → (q ≡ p → ⊥)
          → (a < e) × (e ≤ n) × (runs (same_key key) (tab f a (n - a)) ≡ tab f a (e - a) ∷ runs (same_key key) (tab f e (n - e)))
      running_stop q eq h = run_is (λ l z. h (eq ∙ z))

      pub running_end : n ≤ e → (a < e) × (e ≤ n) × (runs (same_key key) (tab f a (n - a)) ≡ tab f a (e - a) ∷ runs (same_key key) (tab f e (n - e)))
      running_end l = run_is (λ m z. absurd (omega arith))
