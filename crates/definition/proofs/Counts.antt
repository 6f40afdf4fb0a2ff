-- Class uses counted: of two parts, of a list with one use turned. The list of all uses of turned segments. Assumes nothing.
use mathlib.Core.Path.{◌≡◌, refl, ap}
use Prim.Native.Nat.{ℕ, zero, suc, ◌+◌, ◌-◌, ◌≤◌, ◌<◌}
use native.Mathlib.Nat.{suc-sub-suc, sub-zero}
use native.Mathlib.Omega.{arith}
use mathlib.Core.Bool.{Bool, true, false}
use mathlib.Core.List.{List, [], ◌∷◌, ◌++◌, reverse, reverse_aux}
use lib.ListN.{length, get_or}
use lib.Dec.{ltb}
use borrow.Author.Tests.{ltb-true, ltb-false}
use Rattle.definition.specs.Types.{Segment, Use}
use Rattle.definition.specs.Uses.{is_class_use}
use Rattle.definition.specs.Admit.{use_at}
use Rattle.definition.specs.Place.{uses_of}
use Rattle.definition.specs.Build.{class_uses, turn_at, turn_in}

pub class_uses_append : (us vs : List Use) → class_uses (us ++ vs) ≡ class_uses us + class_uses vs
unfolding class_uses
class_uses_append [] vs = omega arith
class_uses_append (u ∷ us) vs = omega (arith, class_uses_append us vs)

-- a class use at place n counts
pub class_uses_at : (us : List Use) (n : ℕ) → n < length us → is_class_use (use_at us n).kind ≡ true → 0 < class_uses us
unfolding class_uses
class_uses_at [] n h e = absurd (omega arith)
class_uses_at (u ∷ us) zero h e = rw e (omega arith)
class_uses_at (u ∷ us) (suc n) h e = omega (arith, class_uses_at us n (omega arith) e)

-- turned, it counts no more
pub class_uses_turn : (us : List Use) (n : ℕ) → n < length us → is_class_use (use_at us n).kind ≡ true → suc (class_uses (turn_in n us)) ≡ class_uses us
unfolding class_uses turn_in
class_uses_turn [] n h e = absurd (omega arith)
class_uses_turn (u ∷ us) zero h e = rw e (omega arith)
class_uses_turn (u ∷ us) (suc n) h e = omega (arith, class_uses_turn us n (omega arith) e)

turn_in_left : (us vs : List Use) (n : ℕ) → n < length us → turn_in n us ++ vs ≡ turn_in n (us ++ vs)
unfolding turn_in
turn_in_left [] vs n h = absurd (omega arith)
turn_in_left (u ∷ us) vs zero h = refl
turn_in_left (u ∷ us) vs (suc n) h = ap (λ (l : List Use). u ∷ l) (turn_in_left us vs n (omega arith))

turn_in_right : (us vs : List Use) (n : ℕ) → length us ≤ n → us ++ turn_in (n - length us) vs ≡ turn_in n (us ++ vs)
unfolding turn_in
turn_in_right [] vs n h = rw sub-zero
turn_in_right (u ∷ us) vs zero h = absurd (omega arith)
turn_in_right (u ∷ us) vs (suc n) h = ap (λ (l : List Use). u ∷ l) (rw suc-sub-suc (turn_in_right us vs n (omega arith)))

pub uses_turn : (n : ℕ) (ss : List Segment) → uses_of (turn_at n ss) ≡ turn_in n (uses_of ss)
unfolding uses_of turn_at turn_in
uses_turn n [] = refl
uses_turn n (s ∷ ss) = go (ltb n (length s.uses)) refl (uses_turn (n - length s.uses) ss)
  where
    go : (b : Bool) → ltb n (length s.uses) ≡ b → uses_of (turn_at (n - length s.uses) ss) ≡ turn_in (n - length s.uses) (uses_of ss)
        → uses_of (turn_at n (s ∷ ss)) ≡ turn_in n (s.uses ++ uses_of ss)
    go true e ih = rw (e, turn_at) (turn_in_left s.uses (uses_of ss) n (ltb-true _ _ e))
    go false e ih = rw (e, turn_at) (rw ih (turn_in_right s.uses (uses_of ss) n (ltb-false _ _ e)))

-- ---- a list read from its end

rev_low : {A : Type 0} (l r : List A) (i : ℕ) (d : A) → get_or (reverse_aux l r) (length l + i) d ≡ get_or r i d
rev_low [] r i d = rw zero_add'
  where
    zero_add' : 0 + i ≡ i
    zero_add' = omega arith
rev_low (x ∷ xs) r i d = rw shift (rev_low xs (x ∷ r) (suc i) d)
  where
    shift : suc (length xs) + i ≡ length xs + suc i
    shift = omega arith

rev_high : {A : Type 0} (l r : List A) (j : ℕ) (d : A) → j < length l → get_or (reverse_aux l r) j d ≡ get_or l (length l - suc j) d
rev_high [] r j d h = absurd (omega arith)
rev_high {A} (x ∷ xs) r j d h = go (ltb j (length xs)) refl (λ k. rev_high xs (x ∷ r) j d k)
  where
    go : (b : Bool) → ltb j (length xs) ≡ b → (j < length xs → get_or (reverse_aux xs (x ∷ r)) j d ≡ get_or xs (length xs - suc j) d)
        → get_or (reverse_aux xs (x ∷ r)) j d ≡ get_or {A = A} (x ∷ xs) (suc (length xs) - suc j) d
    go true e ih =
        let k = ltb-true j (length xs) e in
        let i : suc (length xs) - suc j ≡ suc (length xs - suc j) = omega arith in
        rw i (ih k)
    go false e ih =
        let k = ltb-false j (length xs) e in
        let i : suc (length xs) - suc j ≡ 0 = omega arith in
        let f : j ≡ length xs + 0 = omega arith in
        rw i (rw f (rev_low xs (x ∷ r) 0 d))

pub get_d_reverse : {A : Type 0} (l : List A) (j : ℕ) (d : A) → j < length l → get_or (reverse l) j d ≡ get_or l (length l - suc j) d
get_d_reverse l j d h = rev_high l [] j d h
