-- Segments and uses that fit, as the entry rules 6 and 7 have them (`Entries`): all uses do not fall; a turn keeps it, and so does a cut behind it. Assumes nothing.
use mathlib.Core.Path.{◌≡◌, refl}
use Prim.Native.Nat.{ℕ, zero, suc, ◌+◌, ◌-◌, ◌*◌, ◌≤◌, ◌<◌}
use native.Mathlib.Omega.{arith}
use mathlib.Core.Bool.{Bool, true, false}
use mathlib.Core.List.{List, [], ◌∷◌, ◌++◌}
use lib.ListN.{length}
use lib.Dec.{leb, ltb}
use borrow.Author.Tests.{ltb-false, leb-false}
use Rattle.definition.specs.Types.{Hint, Inst, Segment, Use}
use Rattle.definition.specs.Uses.{end_point}
use Rattle.definition.specs.Cuts.{right_cut, right_of, uses_from}
use Rattle.definition.specs.Admit.{use_at}
use Rattle.definition.specs.Place.{uses_of}
use Rattle.definition.specs.Build.{turn_at, turn_in}

-- uses of a segment [a, b), none before instruction l: not falling, each begun before its next Boundary and ended by b
abbrev pub UsesFit : ℕ → ℕ → ℕ → List Use → Type 0
UsesFit l a b [] = Unit {0}
UsesFit l a b (u ∷ us) = (l ≤ u.pos.0) × (a < 4 * u.pos.0 + 4) × ((end_point u).0 ≤ b) × UsesFit u.pos.0 a b us

-- segments from q on: none empty, sorted, and their uses fit
abbrev pub SegsFit : ℕ → List Segment → Type 0
SegsFit q [] = Unit {0}
SegsFit q (s ∷ ss) = (q ≤ s.«from».0) × (s.«from».0 < s.to.0) × UsesFit 0 s.«from».0 s.to.0 s.uses × SegsFit s.to.0 ss

-- ---- all uses, one after the other, do not fall

abbrev pub Rising : ℕ → List Use → Type 0
Rising l [] = Unit {0}
Rising l (u ∷ us) = (l ≤ u.pos.0) × Rising u.pos.0 us

rise_on : (us vs : List Use) (lo l a b : ℕ) → UsesFit l a b us → ((i : ℕ) → l ≤ i → a < 4 * i + 4 → lo ≤ i) → 4 * lo ≤ b
    → ((n : ℕ) → 4 * n ≤ b → Rising n vs) → Rising lo (us ++ vs)
unfolding end_point
rise_on [] vs lo l a b h f k g = g lo k
rise_on (u ∷ us) vs lo l a b h f k g = (f u.pos.0 h.0 h.1, rise_on us vs u.pos.0 u.pos.0 a b h.3 (λ i p q. p) (omega arith) g)

pub rising : (ss : List Segment) (lo q : ℕ) → SegsFit q ss → 4 * lo ≤ q → Rising lo (uses_of ss)
unfolding uses_of
rising [] lo q h k = tt
rising (s ∷ ss) lo q h k = rise_on s.uses (uses_of ss) lo 0 s.«from».0 s.to.0 h.2 (λ i p r. omega arith) (omega arith) (λ n m. rising ss n s.to.0 h.3 m)

pub rising_from : (us : List Use) (l n : ℕ) → Rising l us → n < length us → l ≤ (use_at us n).pos.0
rising_from [] l n h k = absurd (omega arith)
rising_from (u ∷ us) l zero h k = h.0
rising_from (u ∷ us) l (suc n) h k = omega (arith, rising_from us u.pos.0 n h.1 (omega arith))

pub rising_le : (us : List Use) (l s e : ℕ) → Rising l us → s ≤ e → e < length us → (use_at us s).pos.0 ≤ (use_at us e).pos.0
rising_le [] l s e h k m = absurd (omega arith)
rising_le (u ∷ us) l zero zero h k m = omega arith
rising_le (u ∷ us) l zero (suc e) h k m = rising_from us u.pos.0 e h.1 (omega arith)
rising_le (u ∷ us) l (suc s) zero h k m = absurd (omega arith)
rising_le (u ∷ us) l (suc s) (suc e) h k m = rising_le us u.pos.0 s e h.1 (omega arith) (omega arith)

-- ---- turning

uses_turn_fit : (us : List Use) (n l a b : ℕ) → UsesFit l a b us → UsesFit l a b (turn_in n us)
unfolding turn_in end_point
uses_turn_fit [] n l a b h = tt
uses_turn_fit (u ∷ us) zero l a b h = (h.0, h.1, omega arith, h.3)
uses_turn_fit (u ∷ us) (suc n) l a b h = (h.0, h.1, h.2, uses_turn_fit us n u.pos.0 a b h.3)

pub turn_fit : (ss : List Segment) (n q : ℕ) → SegsFit q ss → SegsFit q (turn_at n ss)
unfolding turn_at
turn_fit [] n q h = tt
turn_fit (s ∷ ss) n q h = go (ltb n (length s.uses)) refl (turn_fit ss (n - length s.uses) s.to.0 h.3)
  where
    go : (b : Bool) → ltb n (length s.uses) ≡ b → SegsFit s.to.0 (turn_at (n - length s.uses) ss) → SegsFit q (turn_at n (s ∷ ss))
    go true e ih = rw (e, turn_at) (h.0, h.1, uses_turn_fit s.uses n 0 s.«from».0 s.to.0 h.2, h.3)
    go false e ih = rw (e, turn_at) (h.0, h.1, h.2, ih)

-- ---- cutting

rebase : (p : Inst) (us : List Use) (l a b : ℕ) → p.0 ≤ l → UsesFit l a b us → UsesFit l (4 * p.0) b us
rebase p [] l a b k h = tt
rebase p (u ∷ us) l a b k h = (h.0, omega arith, h.2, rebase p us u.pos.0 a b (omega arith) h.3)

from_fit : (p : Inst) (us : List Use) (l a b : ℕ) → UsesFit l a b us → UsesFit 0 (4 * p.0) b (uses_from p us)
unfolding uses_from
from_fit p [] l a b h = tt
from_fit p (u ∷ us) l a b h = go (ltb u.pos.0 p.0) refl (from_fit p us u.pos.0 a b h.3)
  where
    go : (t : Bool) → ltb u.pos.0 p.0 ≡ t → UsesFit 0 (4 * p.0) b (uses_from p us) → UsesFit 0 (4 * p.0) b (uses_from p (u ∷ us))
    go true e ih = rw (e, uses_from) ih
    go false e ih =
        let k : p.0 ≤ u.pos.0 = ltb-false _ _ e in
        rw (e, uses_from) (omega arith, omega arith, h.2, rebase p us u.pos.0 a b k h.3)

pub right_fit : (hs : List Hint) (p : Inst) (ss : List Segment) (q : ℕ) → SegsFit q ss → SegsFit (4 * p.0) (right_cut hs p ss)
unfolding right_cut right_of
right_fit hs p [] q h = tt
right_fit hs p (s ∷ ss) q h = go (leb s.to.0 (4 * p.0)) (ltb s.«from».0 (4 * p.0)) refl refl (right_fit hs p ss s.to.0 h.3)
  where
    go : (a b : Bool) → leb s.to.0 (4 * p.0) ≡ a → ltb s.«from».0 (4 * p.0) ≡ b → SegsFit (4 * p.0) (right_cut hs p ss) → SegsFit (4 * p.0) (right_cut hs p (s ∷ ss))
    go true b e f ih = rw (e, right_cut) ih
    go false true e f ih =
        let k : 4 * p.0 < s.to.0 = leb-false _ _ e in
        rw (e, f, right_cut) (omega arith, k, from_fit p s.uses 0 s.«from».0 s.to.0 h.2, h.3)
    go false false e f ih = let k : 4 * p.0 ≤ s.«from».0 = ltb-false _ _ f in rw (e, f, right_cut) (k, h.1, h.2, h.3)
