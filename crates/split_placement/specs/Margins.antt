-- A choice among the numbers a to b by the least f, of equal ones the one ahead, and what changing one f does to it:
-- change request 12 over numbers, once for both sides. `changed`, `Chosen`. Assumes nothing.
use Rattle.std.specs.Prelude.{ℕ, ◌+◌, ◌≤◌, ◌<◌, ◌≡◌, refl, Bool, true, false, cond, eqb, ltb}
use Rattle.std.proofs.Common.{arith, sym, ap, ◌∙◌, subst, eqb-true, ltb-true, ltb-false}
use Rattle.std.proofs.lemmas.Bool.{eqb-false}
use Rattle.definition.specs.declared.Side.{Side}
use Rattle.definition.specs.declared.Side.TheVariants.{Early, Late}
use Rattle.definition.specs.CutMoves.{tie}

-- f with x in the place j
abbrev pub changed : (ℕ → ℕ) → ℕ → ℕ → ℕ → ℕ
changed f j x i = cond (eqb i j) x (f i)

-- c is chosen among a to b: every other one lacks something against it
pub record Chosen (side : Side) (f : ℕ → ℕ) (a b c : ℕ) : Type 0 where
  pub low : a ≤ c
  pub high : c ≤ b
  pub first : (i : ℕ) → a ≤ i → i ≤ b → (i ≡ c → ⊥) → f c < f i + tie side i c

-- ---- of two, exactly one is ahead

one_below : (i c : ℕ) → (i ≡ c → ⊥) → cond (ltb i c) 0 1 + cond (ltb c i) 0 1 ≡ 1
one_below i c n = go (ltb i c) (ltb c i) refl refl
  where
    go : (s t : Bool) → ltb i c ≡ s → ltb c i ≡ t → cond s 0 1 + cond t 0 1 ≡ 1
    go true true d e = absurd (omega (arith, ltb-true i c d, ltb-true c i e))
    go true false d e = refl
    go false true d e = refl
    go false false d e = absurd (n (omega (arith, ltb-false i c d, ltb-false c i e)))

pub tie_other : (side : Side) (i c : ℕ) → (i ≡ c → ⊥) → tie side i c + tie side c i ≡ 1
tie_other Early i c n = one_below i c n
tie_other Late i c n = one_below c i (λ e. n (sym e))

-- one alone is chosen
pub chosen_once : (side : Side) (f : ℕ → ℕ) (a b c d : ℕ) → Chosen side f a b c → Chosen side f a b d → c ≡ d
chosen_once side f a b c d p q = go (eqb c d) refl
  where
    go : (t : Bool) → eqb c d ≡ t → c ≡ d
    go true e = eqb-true c d e
    go false e =
        let n : c ≡ d → ⊥ = eqb-false c d e in
        let x = q.first c p.low p.high n in
        let y = p.first d q.low q.high (λ k. n (sym k)) in
        absurd (omega (arith, x, y, tie_other side c d n))

pub at_own : (f : ℕ → ℕ) (j x : ℕ) → changed f j x j ≡ x
at_own f j x = go (eqb j j) refl
  where
    go : (t : Bool) → eqb j j ≡ t → cond t x (f j) ≡ x
    go true e = refl
    go false e = absurd (eqb-false j j e refl)

pub at_other : (f : ℕ → ℕ) (j x i : ℕ) → (i ≡ j → ⊥) → changed f j x i ≡ f i
at_other f j x i n = go (eqb i j) refl
  where
    go : (t : Bool) → eqb i j ≡ t → cond t x (f i) ≡ f i
    go true e = absurd (n (eqb-true i j e))
    go false e = refl

-- ---- another one's f changed: it must come down to c's f, less the step that it lacks

pub other_moves : (side : Side) (f : ℕ → ℕ) (a b c j x d : ℕ) → a ≤ j → j ≤ b → (j ≡ c → ⊥)
    → Chosen side (changed f j x) a b d → x + tie side j c ≤ f c → c ≡ d → ⊥
other_moves side f a b c j x d l h n q s e =
    let r = q.first j l h (λ k. n (k ∙ sym e)) in
    let g : changed f j x d ≡ f c = ap (changed f j x) (sym e) ∙ at_other f j x c (λ k. n (sym k)) in
    let t : tie side j d ≡ tie side j c = ap (tie side j) (sym e) in
    omega (arith, r, g, t, at_own f j x)

pub other_stays : (side : Side) (f : ℕ → ℕ) (a b c j x : ℕ) → Chosen side f a b c → (j ≡ c → ⊥)
    → f c < x + tie side j c → Chosen side (changed f j x) a b c
other_stays side f a b c j x p n s =
    record { low = p.low; high = p.high; first = λ i l h k. go i l h k (eqb i j) refl }
  where
    own : changed f j x c ≡ f c
    own = at_other f j x c (λ k. n (sym k))

    go : (i : ℕ) → a ≤ i → i ≤ b → (i ≡ c → ⊥) → (t : Bool) → eqb i j ≡ t
        → changed f j x c < cond t x (f i) + tie side i c
    go i l h k true e =
        let g : tie side i c ≡ tie side j c = ap (λ (z : ℕ). tie side z c) (eqb-true i j e) in
        omega (arith, own, s, g)
    go i l h k false e = omega (arith, own, p.first i l h k)

-- ---- c's own f changed: it must come up to another one's f and the step that this one lacks

pub own_moves : (side : Side) (f : ℕ → ℕ) (a b c x d i : ℕ) → a ≤ i → i ≤ b → (i ≡ c → ⊥)
    → Chosen side (changed f c x) a b d → f i + tie side i c ≤ x → c ≡ d → ⊥
own_moves side f a b c x d i l h n q s e =
    let r = q.first i l h (λ k. n (k ∙ sym e)) in
    let g : changed f c x d ≡ x = ap (changed f c x) (sym e) ∙ at_own f c x in
    let t : tie side i d ≡ tie side i c = ap (tie side i) (sym e) in
    omega (arith, r, g, t, at_other f c x i n)

pub own_stays : (side : Side) (f : ℕ → ℕ) (a b c x : ℕ) → a ≤ c → c ≤ b
    → ((i : ℕ) → a ≤ i → i ≤ b → (i ≡ c → ⊥) → x < f i + tie side i c) → Chosen side (changed f c x) a b c
own_stays side f a b c x l h s =
    record {
      low = l;
      high = h;
      first = λ i m k n. omega (arith, at_own f c x, at_other f c x i n, s i m k n);
    }

-- ---- a number outside a to b: nothing changes

pub outside_stays : (side : Side) (f : ℕ → ℕ) (a b c j x : ℕ) → Chosen side f a b c → (a ≤ j → j ≤ b → ⊥)
    → Chosen side (changed f j x) a b c
outside_stays side f a b c j x p o =
    record {
      low = p.low;
      high = p.high;
      first = λ i l h n. omega (arith, p.first i l h n, kept c p.low p.high, kept i l h);
    }
  where
    kept : (i : ℕ) → a ≤ i → i ≤ b → changed f j x i ≡ f i
    kept i l h = at_other f j x i (λ k. o (subst (λ (z : ℕ). a ≤ z) k l) (subst (λ (z : ℕ). z ≤ b) k h))
