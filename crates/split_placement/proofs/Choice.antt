-- Who is chosen among the numbers a to b, by the definition's walk and by that of `split_placement`: `chosen_of_lem`,
-- `chosen_is`. Assumes nothing.
use Prim.Native.Nat.{ℕ, zero, suc, ◌+◌, ◌-◌, ◌≤◌, ◌<◌}
use native.Mathlib.Omega.{arith}
use mathlib.Core.Path.{◌≡◌, refl, sym, ap, subst}
use mathlib.Core.Logic.{◌⊎◌, inl, inr}
use mathlib.Core.Bool.{Bool, true, false, cond}
use lib.Dec.{leb, ltb, eqb}
use borrow.Author.Tests.{eqb-true, eqb-false, ltb-true, ltb-false, leb-true, leb-false, lt-ltb, le-ltb}
use Rattle.std.proofs.lemmas.Bool.{cases_lt}
use Rattle.definition.specs.declared.Side.{Side}
use Rattle.definition.specs.declared.Side.TheVariants.{Early, Late}
use Rattle.definition.specs.CutMoves.{tie, chosen_of}
use Rattle.split_placement.specs.Places.{least}
use Rattle.split_placement.proofs.Wins.{Before, not_itself}
use Rattle.split_placement.proofs.Walks.{Under, LeastOf, least_of}
use Rattle.split_placement.specs.Margins.{Chosen, tie_other, chosen_once}

-- ---- the step that one lacks against another

flag_most : (t : Bool) → cond t 0 1 ≤ 1
flag_most true = omega arith
flag_most false = omega arith

pub tie_most : (side : Side) (i c : ℕ) → tie side i c ≤ 1
tie_most Early i c = flag_most (ltb i c)
tie_most Late i c = flag_most (ltb c i)

-- who is ahead of one that is ahead of c is ahead of c
below_through : (x y z : ℕ) → cond (ltb x z) 0 1 ≤ cond (ltb x y) 0 1 + cond (ltb y z) 0 1
below_through x y z = go (ltb x z) (ltb x y) (ltb y z) refl refl refl
  where
    go : (p q r : Bool) → ltb x z ≡ p → ltb x y ≡ q → ltb y z ≡ r → cond p 0 1 ≤ cond q 0 1 + cond r 0 1
    go true q r d e h = omega arith
    go false true true d e h = absurd (omega (arith, ltb-false x z d, ltb-true x y e, ltb-true y z h))
    go false true false d e h = omega arith
    go false false r d e h = omega arith

tie_through : (side : Side) (i d c : ℕ) → tie side i c ≤ tie side i d + tie side d c
tie_through Early i d c = below_through i d c
tie_through Late i d c = omega (arith, below_through c d i)

-- ---- the definition's walk finds the one chosen

chosen_more : (side : Side) (f : ℕ → ℕ) (a j c : ℕ) → Chosen side f a j c
    → Chosen side f a (suc j) (cond (leb (f (suc j) + tie side (suc j) c) (f c)) (suc j) c)
chosen_more side f a j c p = go (leb (f (suc j) + tie side (suc j) c) (f c)) refl
  where
    over : (i : ℕ) → i ≤ suc j → (i ≡ suc j → ⊥) → i ≤ j
    over i h n = omega arith

    go : (t : Bool) → leb (f (suc j) + tie side (suc j) c) (f c) ≡ t → Chosen side f a (suc j) (cond t (suc j) c)
    go true e =
        record {
          low = omega (arith, p.low, p.high);
          high = omega arith;
          first = λ i l h n. ahead i l h n (eqb i c) refl;
        }
      where
        lower : f (suc j) + tie side (suc j) c ≤ f c
        lower = leb-true _ _ e

        ahead : (i : ℕ) → a ≤ i → i ≤ suc j → (i ≡ suc j → ⊥) → (s : Bool) → eqb i c ≡ s
            → f (suc j) < f i + tie side i (suc j)
        ahead i l h n true r =
            let k : i ≡ c = eqb-true i c r in
            let g : f i ≡ f c = ap f k in
            let u : tie side (suc j) i ≡ tie side (suc j) c = ap (tie side (suc j)) k in
            omega (arith, lower, g, u, tie_other side i (suc j) n)
        ahead i l h n false r =
            omega (arith, lower, p.first i l (over i h n) (eqb-false i c r), tie_through side i (suc j) c)
    go false e =
        record {
          low = p.low;
          high = omega (arith, p.high);
          first = λ i l h n. ahead i l h n (eqb i (suc j)) refl;
        }
      where
        ahead : (i : ℕ) → a ≤ i → i ≤ suc j → (i ≡ c → ⊥) → (s : Bool) → eqb i (suc j) ≡ s → f c < f i + tie side i c
        ahead i l h n true r =
            subst (λ (k : ℕ). f c < f k + tie side k c) (sym (eqb-true i (suc j) r)) (leb-false _ _ e)
        ahead i l h n false r = p.first i l (over i h (eqb-false i (suc j) r)) n

chosen_from : (side : Side) (f : ℕ → ℕ) (a c j k : ℕ) → Chosen side f a j c
    → Chosen side f a (j + k) (chosen_of side f c j k)
unfolding chosen_of
chosen_from side f a c j zero p = let e : j + 0 ≡ j = omega arith in subst (λ (n : ℕ). Chosen side f a n c) (sym e) p
chosen_from side f a c j (suc k) p =
    let d = cond (leb (f (suc j) + tie side (suc j) c) (f c)) (suc j) c in
    let e : j + suc k ≡ suc j + k = omega arith in
    subst (λ (n : ℕ). Chosen side f a n (chosen_of side f d (suc j) k)) (sym e)
    (chosen_from side f a d (suc j) k (chosen_more side f a j c p))

pub chosen_of_lem : (side : Side) (f : ℕ → ℕ) (a b : ℕ) → a ≤ b → Chosen side f a b (chosen_of side f a a (b - a))
chosen_of_lem side f a b h =
    let e : a + (b - a) ≡ b = omega arith in
    subst (λ (n : ℕ). Chosen side f a n (chosen_of side f a a (b - a))) e
    (chosen_from side f a a a (b - a)
    (record { low = omega arith; high = omega arith; first = λ i l u n. absurd (n (omega arith)) }))

-- none has less than the one chosen
pub chosen_least : (side : Side) (f : ℕ → ℕ) (a b c : ℕ) → Chosen side f a b c → (i : ℕ) → a ≤ i → i ≤ b → f c ≤ f i
chosen_least side f a b c p i l h = go (eqb i c) refl
  where
    go : (t : Bool) → eqb i c ≡ t → f c ≤ f i
    go true e = omega (arith, ap f (eqb-true i c e))
    go false e = omega (arith, p.first i l h (eqb-false i c e), tie_most side i c)

-- ---- and so does the walk of `split_placement`

tie_before : (side : Side) (i c : ℕ) → Before side i c → tie side i c ≡ 0
tie_before Early i c h = rw (lt-ltb i c h)
tie_before Late i c h = rw (lt-ltb c i h)

-- one that lacks no step is ahead
tie_cases : (side : Side) (i c : ℕ) → Before side i c ⊎ (tie side i c ≡ 1)
tie_cases Early i c = elim (cases_lt i c) [ inl h ↦ inl h | inr h ↦ inr (rw (le-ltb i c h)) ]
tie_cases Late i c = elim (cases_lt c i) [ inl h ↦ inl h | inr h ↦ inr (rw (le-ltb c i h)) ]

pub least_chosen : {side : Side} {f : ℕ → ℕ} {a b c : ℕ} → LeastOf side f a b c → Chosen side f a b c
least_chosen {side} {f} {a} {b} {c} w =
    record { low = w.low; high = w.high; first = λ i l h n. go i (w.wins i l h) (tie_cases side i c) }
  where
    go : (i : ℕ) → Under f side c i → Before side i c ⊎ (tie side i c ≡ 1) → f c < f i + tie side i c
    go i u (inl g) = omega (arith, u.ahead g)
    go i u (inr e) = omega (arith, u.least, e)

pub chosen_wins : {side : Side} {f : ℕ → ℕ} {a b c : ℕ} → Chosen side f a b c → LeastOf side f a b c
chosen_wins {side} {f} {a} {b} {c} p =
    record {
      low = p.low;
      high = p.high;
      wins = λ i l h.
          record {
            least = chosen_least side f a b c p i l h;
            ahead = λ g.
                omega (
                  arith,
                  p.first i l h (λ e. not_itself side c (subst (λ (k : ℕ). Before side k c) e g)),
                  tie_before side i c g,
                );
          };
    }

pub chosen_is : (side : Side) (f : ℕ → ℕ) (a b : ℕ) → a ≤ b → least side f a a (b - a) ≡ chosen_of side f a a (b - a)
chosen_is side f a b h = chosen_once side f a b _ _ (least_chosen (least_of side f a b h)) (chosen_of_lem side f a b h)

-- what is chosen turns on f at a to b alone
pub chosen_ext : (side : Side) (f g : ℕ → ℕ) (a b c : ℕ) → ((i : ℕ) → a ≤ i → i ≤ b → f i ≡ g i) → Chosen side f a b c
    → Chosen side g a b c
chosen_ext side f g a b c e p =
    record {
      low = p.low;
      high = p.high;
      first = λ i l h n. omega (arith, p.first i l h n, e c p.low p.high, e i l h);
    }
