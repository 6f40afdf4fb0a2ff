-- In a sorted list the hints of a value between two keys stand together: the first of them is the one that a search for the lower key finds. Assumes nothing.
use Rattle.std.specs.Prelude.{◌≡◌, Bool, ◌&&◌, ◌||◌, ℕ, zero, suc, ◌+◌, ◌-◌, ◌*◌, ◌≤◌, ◌<◌, ltb, length, get_or, drop}
use Rattle.std.proofs.Math.Path.{refl}
use Rattle.std.proofs.Common.{sym, ap, ◌∙◌, arith}
use Rattle.std.proofs.Math.Bool.{true, false}
use mathlib.Core.List.{List, [], ◌∷◌}
use borrow.Author.Tests.{ltb-true, ltb-false, leb-true, leb-false, eqb-true, eqb-false, lt-ltb, le-ltb, le-leb, lt-leb, eq-eqb, ne_eqb}
use Rattle.std.proofs.Math.Dec.{leb, eqb}
use Rattle.definition.specs.declared.Value.{Value}
use Rattle.definition.specs.declared.Hint.{Hint}
use Rattle.definition.specs.Hints.{as_key, hinted}
use Rattle.definition.specs.Entry.{chained, not_after}
use Rattle.hints.specs.Hints.{key_below, first_hint}

-- ---- the order: by value, then by key

data Lex (a b : ℕ) (P : Type 0) : Type 0 where
  less : a < b → Lex a b P
  same : a ≡ b → P → Lex a b P

-- what a test by value and then by t says
lex_true : (a b : ℕ) (t : Bool) → (ltb a b || (eqb a b && t)) ≡ true → Lex a b (t ≡ true)
lex_true a b t = go (ltb a b) refl (eqb a b) refl
  where
    go : (l : Bool) → ltb a b ≡ l → (e : Bool) → eqb a b ≡ e → (l || (e && t)) ≡ true → Lex a b (t ≡ true)
    go true p e q h = less (ltb-true a b p)
    go false p true q h = same (eqb-true a b q) h
    go false p false q h = absurd (let z : ◌≡◌ {A = ℕ} 0 1 = cc in omega arith)

lex_false : (a b : ℕ) (t : Bool) → (ltb a b || (eqb a b && t)) ≡ false → Lex b a (t ≡ false)
lex_false a b t = go (ltb a b) refl (eqb a b) refl
  where
    go : (l : Bool) → ltb a b ≡ l → (e : Bool) → eqb a b ≡ e → (l || (e && t)) ≡ false → Lex b a (t ≡ false)
    go true p e q h = absurd (let z : ◌≡◌ {A = ℕ} 0 1 = cc in omega arith)
    go false p true q h = same (sym (eqb-true a b q)) h
    go false p false q h = less (let l = ltb-false a b p in let n = eqb-false a b q in omega arith)

lex_yes : (a b : ℕ) (t : Bool) → Lex a b (t ≡ true) → (ltb a b || (eqb a b && t)) ≡ true
lex_yes a b t (less h) = simp (lt-ltb a b h)
lex_yes a b t (same e h) = let l : b ≤ a = omega arith in simp (le-ltb a b l, eq-eqb a b e, h)

-- what is not behind a hint below a key is below it too
module _ (v : Value) (k : ℕ) where
  below_sinks : (g h : Hint) → not_after g h ≡ true → key_below v k h ≡ true → key_below v k g ≡ true
  unfolding key_below
  below_sinks g h p q =
      lex_yes g.value.0 v.0 (ltb (as_key g) k)
      (go (lex_true g.value.0 h.value.0 (leb (as_key g) (as_key h)) p) (lex_true h.value.0 v.0 (ltb (as_key h) k) q))
    where
      go : Lex g.value.0 h.value.0 (leb (as_key g) (as_key h) ≡ true) → Lex h.value.0 v.0 (ltb (as_key h) k ≡ true)
          → Lex g.value.0 v.0 (ltb (as_key g) k ≡ true)
      go (less a) (less b) = less (omega arith)
      go (less a) (same b y) = less (omega arith)
      go (same a x) (less b) = less (omega arith)
      go (same a x) (same b y) = same (a ∙ b) (lt-ltb (as_key g) k (omega (arith, leb-true (as_key g) (as_key h) x, ltb-true (as_key h) k y)))

and_left : (a b : Bool) → (a && b) ≡ true → a ≡ true
and_left true b h = refl
and_left false b h = h

and_right : (a b : Bool) → (a && b) ≡ true → b ≡ true
and_right true b h = h
and_right false b h = absurd (let z : ◌≡◌ {A = ℕ} 0 1 = cc in omega arith)

-- a list without its first hint is sorted too
chained_rest : (h : Hint) (hs : List Hint) → chained not_after (h ∷ hs) ≡ true → chained not_after hs ≡ true
unfolding chained
chained_rest h [] e = refl
chained_rest h (g ∷ hs) e = and_right (not_after h g) (chained not_after (g ∷ hs)) e

chained_first : (h g : Hint) (hs : List Hint) → chained not_after (h ∷ g ∷ hs) ≡ true → not_after h g ≡ true
unfolding chained
chained_first h g hs e = and_left (not_after h g) (chained not_after (g ∷ hs)) e

-- neighbours
chained_at : (hs : List Hint) (j : ℕ) (d : Hint) → chained not_after hs ≡ true → suc j < length hs → not_after (get_or hs j d) (get_or hs (suc j) d) ≡ true
chained_at [] j d e h = absurd (omega arith)
chained_at (x ∷ []) j d e h = absurd (omega arith)
chained_at (x ∷ y ∷ ys) zero d e h = chained_first x y ys e
chained_at (x ∷ y ∷ ys) (suc j) d e h = chained_at (y ∷ ys) j d (chained_rest x (y ∷ ys) e) (omega arith)

-- ---- the search

module _ (v : Value) (k : ℕ) (hs : List Hint) (d : Hint) (sorted : chained not_after hs ≡ true) where
  below_down : (m i : ℕ) → i + m < length hs → key_below v k (get_or hs (i + m) d) ≡ true → key_below v k (get_or hs i d) ≡ true
  below_down zero i h b = let e : i + 0 ≡ i = omega arith in rw e at b
  below_down (suc m) i h b =
      let e : i + suc m ≡ suc (i + m) = omega arith in
      below_down m i (omega arith) (below_sinks v k (get_or hs (i + m) d) (get_or hs (suc (i + m)) d) (chained_at hs (i + m) d sorted (omega arith)) (rw e at b))

  -- what stands before a hint below the key is below it
  pub below_before : (i j : ℕ) → i ≤ j → j < length hs → key_below v k (get_or hs j d) ≡ true → key_below v k (get_or hs i d) ≡ true
  below_before i j h l b = let e : j ≡ i + (j - i) = omega arith in below_down (j - i) i (omega arith) (rw e at b)

  -- what stands behind a hint not below the key is not
  pub above_behind : (i j : ℕ) → i ≤ j → j < length hs → key_below v k (get_or hs i d) ≡ false → key_below v k (get_or hs j d) ≡ false
  above_behind i j h l b = go (key_below v k (get_or hs j d)) refl
    where
      go : (t : Bool) → key_below v k (get_or hs j d) ≡ t → t ≡ false
      go true e = absurd (let y = below_before i j h l e in let z : ◌≡◌ {A = ℕ} 0 1 = cc in omega arith)
      go false e = refl

-- what a search has found
pub first_hint_is : (v : Value) (k : ℕ) (hs : List Hint) (d : Hint) (i : ℕ) → i ≤ length hs → ((j : ℕ) → j < i → key_below v k (get_or hs j d) ≡ true)
    → (i < length hs → key_below v k (get_or hs i d) ≡ false) → first_hint v k hs ≡ i
unfolding first_hint
first_hint_is v k [] d i l u o = omega arith
first_hint_is v k (h ∷ hs) d zero l u o = let e : key_below v k h ≡ false = o (omega arith) in rw (e, first_hint)
first_hint_is v k (h ∷ hs) d (suc i) l u o =
    let e : key_below v k h ≡ true = u 0 (omega arith) in
    rw (e, first_hint) (ap suc (first_hint_is v k hs d i (omega arith) (λ j p. u (suc j) (omega arith)) (λ p. o (omega arith))))

-- ---- the hints of a value between two keys

-- the test on the first hint that is not before the lower key
abbrev pub first_hits : Value → ℕ → List Hint → Bool
first_hits v b [] = false
first_hits v b (h ∷ hs) = eqb h.value.0 v.0 && leb (as_key h) (2 * b)

module _ (v : Value) (a b : ℕ) where
  -- the definition's test on one hint
  abbrev inside : Hint → Bool
  inside h = eqb h.value.0 v.0 && leb (2 * a + 1) (as_key h) && leb (as_key h) (2 * b)

  -- behind the upper key
  Above : Hint → Type 0
  Above h = Lex v.0 h.value.0 (2 * b < as_key h)

  other_value : (h : Hint) → (h.value.0 ≡ v.0 → ⊥) → inside h ≡ false
  other_value h n = simp (ne_eqb h.value.0 v.0 n)

  below_key : (h : Hint) → as_key h < 2 * a + 1 → inside h ≡ false
  below_key h l = go (eqb h.value.0 v.0)
    where
      go : (e : Bool) → (e && leb (2 * a + 1) (as_key h) && leb (as_key h) (2 * b)) ≡ false
      go true = simp (lt-leb (2 * a + 1) (as_key h) l)
      go false = refl

  above_key : (h : Hint) → Above h → inside h ≡ false
  unfolding Above
  above_key h (less l) = other_value h (λ e. omega arith)
  above_key h (same e l) = go (eqb h.value.0 v.0) (leb (2 * a + 1) (as_key h))
    where
      go : (e l : Bool) → (e && l && leb (as_key h) (2 * b)) ≡ false
      go true true = lt-leb (as_key h) (2 * b) l
      go true false = refl
      go false l = refl

  above_rises : (g h : Hint) → not_after g h ≡ true → Above g → Above h
  unfolding Above
  above_rises g h p q = go (lex_true g.value.0 h.value.0 (leb (as_key g) (as_key h)) p) q
    where
      go : Lex g.value.0 h.value.0 (leb (as_key g) (as_key h) ≡ true) → Lex v.0 g.value.0 (2 * b < as_key g) → Lex v.0 h.value.0 (2 * b < as_key h)
      go (less x) (less y) = less (omega arith)
      go (less x) (same y z) = less (omega arith)
      go (same x w) (less y) = less (omega arith)
      go (same x w) (same y z) = same (y ∙ x) (omega (arith, leb-true (as_key g) (as_key h) w))

  -- nothing behind a hint that is behind the upper key
  none_behind : (h : Hint) (hs : List Hint) → chained not_after (h ∷ hs) ≡ true → Above h → hinted hs v a b ≡ false
  unfolding hinted
  none_behind h [] e p = refl
  none_behind h (g ∷ hs) e p =
      let q : Above g = above_rises h g (chained_first h g hs e) p in
      rw (above_key g q) (none_behind g hs (chained_rest h (g ∷ hs) e) q)

  first_hit : (h : Hint) (hs : List Hint) → chained not_after (h ∷ hs) ≡ true → Lex v.0 h.value.0 (ltb (as_key h) (2 * a + 1) ≡ false)
      → hinted (h ∷ hs) v a b ≡ first_hits v b (h ∷ hs)
  unfolding hinted Above
  first_hit h hs e (less l) = let n : eqb h.value.0 v.0 ≡ false = ne_eqb h.value.0 v.0 (λ q. omega arith) in rw n (none_behind h hs e (less l))
  first_hit h hs e (same q l) = go (leb (as_key h) (2 * b)) refl
    where
      n : eqb h.value.0 v.0 ≡ true
      n = eq-eqb h.value.0 v.0 (sym q)

      m : leb (2 * a + 1) (as_key h) ≡ true
      m = le-leb (2 * a + 1) (as_key h) (ltb-false (as_key h) (2 * a + 1) l)

      go : (t : Bool) → leb (as_key h) (2 * b) ≡ t → hinted (h ∷ hs) v a b ≡ first_hits v b (h ∷ hs)
      go true f = rw (n, m, f)
      go false f = rw (n, m, f) (none_behind h hs e (same q (leb-false (as_key h) (2 * b) f)))

  -- the whole test from the first hint that is not before the lower key
  pub hinted_first : (hs : List Hint) → chained not_after hs ≡ true → hinted hs v a b ≡ first_hits v b (drop (first_hint v (2 * a + 1) hs) hs)
  unfolding hinted first_hint
  hinted_first [] e = refl
  hinted_first (h ∷ hs) e = go (hinted_first hs (chained_rest h hs e)) (key_below v (2 * a + 1) h) refl
    where
      under : Lex h.value.0 v.0 (ltb (as_key h) (2 * a + 1) ≡ true) → inside h ≡ false
      under (less l) = other_value h (λ q. omega arith)
      under (same q l) = below_key h (ltb-true (as_key h) (2 * a + 1) l)

      go : hinted hs v a b ≡ first_hits v b (drop (first_hint v (2 * a + 1) hs) hs) → (t : Bool) → key_below v (2 * a + 1) h ≡ t
          → hinted (h ∷ hs) v a b ≡ first_hits v b (drop (first_hint v (2 * a + 1) (h ∷ hs)) (h ∷ hs))
      go r true f = rw (f, first_hint, under (lex_true h.value.0 v.0 (ltb (as_key h) (2 * a + 1)) f)) r
      go r false f = rw (f, first_hint) (first_hit h hs e (lex_false h.value.0 v.0 (ltb (as_key h) (2 * a + 1)) f))
