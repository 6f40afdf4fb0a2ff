-- A cut keeps the uses, in order, and each value's points exactly as often as before. Nothing is asked of the segments. Assumes nothing.
use mathlib.Core.Path.{◌≡◌, refl, ap}
use Prim.Native.Nat.{ℕ, ◌+◌, ◌*◌, ◌<◌}
use native.Mathlib.Omega.{arith}
use mathlib.Core.Bool.{Bool, true, false, ◌&&◌}
use mathlib.Core.List.{List, [], ◌∷◌, ◌++◌, append_assoc, append-nil}
use lib.Dec.{leb, ltb, eqb}
use borrow.Author.Tests.{ltb-true, ltb-false, leb-false, lt-ltb, le-ltb, le-leb, lt-leb}
use Rattle.definition.specs.Types.{Hint, Inst, Segment, Use, Value}
use Rattle.definition.specs.Cuts.{left_cut, left_of, right_cut, right_of, uses_before, uses_from}
use Rattle.definition.specs.Place.{total, uses_of}
use Rattle.definition.specs.Build.{one}
use Rattle.definition.specs.Promised.{live_at, holds}

-- ---- the uses

pub uses_cut : (p : Inst) (us : List Use) → uses_before p us ++ uses_from p us ≡ us
unfolding uses_before uses_from
uses_cut p [] = refl
uses_cut p (u ∷ us) = go (ltb u.pos.0 p.0) refl (uses_cut p us)
  where
    go : (b : Bool) → ltb u.pos.0 p.0 ≡ b → uses_before p us ++ uses_from p us ≡ us → uses_before p (u ∷ us) ++ uses_from p (u ∷ us) ≡ u ∷ us
    go true e ih = rw (e, uses_before, uses_from) (ap (λ (l : List Use). u ∷ l) ih)
    go false e ih = rw (e, uses_before, uses_from)

module _ (hs : List Hint) (p : Inst) where
  pub cut_uses : (ss : List Segment) → uses_of (left_cut hs p ss) ++ uses_of (right_cut hs p ss) ≡ uses_of ss
  unfolding uses_of left_cut right_cut left_of right_of
  cut_uses [] = refl
  cut_uses (s ∷ ss) = go (leb s.to.0 (4 * p.0)) (ltb s.«from».0 (4 * p.0)) refl refl (cut_uses ss)
    where
      go : (a b : Bool) → leb s.to.0 (4 * p.0) ≡ a → ltb s.«from».0 (4 * p.0) ≡ b
          → uses_of (left_cut hs p ss) ++ uses_of (right_cut hs p ss) ≡ uses_of ss
          → uses_of (left_cut hs p (s ∷ ss)) ++ uses_of (right_cut hs p (s ∷ ss)) ≡ s.uses ++ uses_of ss
      go true b e f ih = rw (e, left_cut, right_cut) (rw (append_assoc, ih))
      go false true e f ih = rw (e, f, left_cut, right_cut) (rw (append-nil, ← append_assoc, uses_cut))
      go false false e f ih = rw (e, f, left_cut, right_cut)

-- ---- what is counted of segments: where each segment's two halves count as the whole, so do the two sides of a cut

abbrev pub PartedBy : (Segment → ℕ) → List Hint → Inst → Type 0
PartedBy ν hs p = (s : Segment) → s.«from».0 < 4 * p.0 → 4 * p.0 < s.to.0 → ν (left_of hs p s) + ν (right_of hs p s) ≡ ν s

module _ (ν : Segment → ℕ) (hs : List Hint) (p : Inst) (part : PartedBy ν hs p) where
  pub cut_total : (ss : List Segment) → total ν (left_cut hs p ss) + total ν (right_cut hs p ss) ≡ total ν ss
  unfolding total left_cut right_cut
  cut_total [] = refl
  cut_total (s ∷ ss) = go (leb s.to.0 (4 * p.0)) (ltb s.«from».0 (4 * p.0)) refl refl (cut_total ss)
    where
      go : (a b : Bool) → leb s.to.0 (4 * p.0) ≡ a → ltb s.«from».0 (4 * p.0) ≡ b
          → total ν (left_cut hs p ss) + total ν (right_cut hs p ss) ≡ total ν ss
          → total ν (left_cut hs p (s ∷ ss)) + total ν (right_cut hs p (s ∷ ss)) ≡ ν s + total ν ss
      go true b e f ih = rw (e, left_cut, right_cut) (omega arith)
      go false true e f ih = let q = part s (ltb-true _ _ f) (leb-false _ _ e) in rw (e, f, left_cut, right_cut) (omega arith)
      go false false e f ih = rw (e, f, left_cut, right_cut) (omega arith)

-- ---- the points

-- of [a, m) and [m, b) a point of [a, b) is in exactly one
pub halves : (c : Bool) (a m b x : ℕ) → a < m → m < b → one (c && leb a x && ltb x m) + one (c && leb m x && ltb x b) ≡ one (c && leb a x && ltb x b)
halves false a m b x h k = refl
halves true a m b x h k = go (ltb x m) refl
  where
    go : (t : Bool) → ltb x m ≡ t → one (leb a x && ltb x m) + one (leb m x && ltb x b) ≡ one (leb a x && ltb x b)
    go true e =
        let i = ltb-true x m e in
        simp (lt-ltb x m i, lt-ltb x b (omega arith), lt-leb m x i) (omega arith)
    go false e = let i = ltb-false x m e in simp (le-ltb x m i, le-leb m x i, le-leb a x (omega arith)) (omega arith)

pub point_parted : (v : Value) (x : ℕ) (hs : List Hint) (p : Inst) → PartedBy (λ s. one (holds v x s)) hs p
unfolding left_of right_of
point_parted v x hs p s a b = halves (eqb s.value.0 v.0) s.«from».0 (4 * p.0) s.to.0 x a b

pub cut_points : (v : Value) (x : ℕ) (hs : List Hint) (p : Inst) (ss : List Segment) → live_at v x (left_cut hs p ss) + live_at v x (right_cut hs p ss) ≡ live_at v x ss
unfolding live_at
cut_points v x hs p ss = cut_total (λ s. one (holds v x s)) hs p (point_parted v x hs p) ss
