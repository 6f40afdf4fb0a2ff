-- Pieces that can be weighed: sorted, at least one, their uses sound. So are pieces that are merged. Assumes nothing.
use Rattle.std.specs.Prelude.{◌≡◌, refl, Bool, true, false, ◌&&◌, ◌||◌, List, [], ◌∷◌, ◌++◌, ℕ, suc, ◌≤◌, ◌<◌, leb, ltb, length}
use Rattle.std.proofs.Common.{sym, ap, subst, arith, length-append, ltb-false, leb-true, leb-false, lt-ltb}
use Rattle.definition.specs.declared.LiveRangePoint.{LiveRangePoint}
use Rattle.definition.specs.declared.Use.{Use}
use Rattle.definition.specs.Types.{Job, Piece, Segment}
use Rattle.definition.specs.Build.{as_own}
use Rattle.definition.specs.LiveRange.{live_insts}
use Rattle.definition.specs.Place.{uses_of, segs_of, first_from, last_to, overlaps, inserted}
use Rattle.virt_regs.specs.Each.{Each, each_append}
use Rattle.virt_regs.specs.Counting.{uses_append}
use Rattle.vreg_weight.specs.Sorted.{Sorted, insts_most, insts_least}
use Rattle.vreg_weight.specs.Typed.{TypedUse}
use Rattle.vreg_weight.specs.Weighed.{Inside}
use Rattle.vreg_weight.specs.Sound.{Sound, each_left, each_right, sound_typed, sound_inside}

-- up to the Boundary behind instruction m - 1
pub record Fair (J : Job) (m : ℕ) (ps : List Piece) : Type 0 where
  pub sound : Each (Sound J) (uses_of (segs_of ps))
  pub sorted : Sorted 0 m (segs_of ps)
  pub filled : 0 < length ps

pub fair_insts : (J : Job) (m : ℕ) (ps : List Piece) → Fair J m ps → (1 ≤ live_insts (segs_of ps)) × (live_insts (segs_of ps) ≤ m)
fair_insts J m [] f = absurd (omega (arith, f.filled))
fair_insts J m (p ∷ ps) f = (insts_least m p.seg (segs_of ps) f.sorted, insts_most m (segs_of (p ∷ ps)) f.sorted)

-- what a weight asks of pieces that are shown
pub fair_typed : (J : Job) (m : ℕ) (ps : List Piece) → Fair J m ps → Each TypedUse (uses_of (segs_of ps))
fair_typed J m ps f = sound_typed J (uses_of (segs_of ps)) f.sound

pub fair_inside : (J : Job) (m : ℕ) (ps : List Piece) → Fair J m ps → Inside J (uses_of (segs_of ps))
fair_inside J m ps f = sound_inside J (uses_of (segs_of ps)) f.sound

-- pieces made of segments
own_segs : (ss : List Segment) → segs_of (as_own ss) ≡ ss
own_segs [] = refl
own_segs (s ∷ ss) = ap (λ (l : List Segment). s ∷ l) (own_segs ss)

own_length : (ss : List Segment) → length (as_own ss) ≡ length ss
own_length [] = refl
own_length (s ∷ ss) = ap suc (own_length ss)

pub fair_own : (J : Job) (m : ℕ) (ss : List Segment) → Each (Sound J) (uses_of ss) → Sorted 0 m ss → 0 < length ss → Fair J m (as_own ss)
fair_own J m ss u s l =
    record {
      sound = subst (λ (x : List Segment). Each (Sound J) (uses_of x)) (sym (own_segs ss)) u;
      sorted = subst (λ (x : List Segment). Sorted 0 m x) (sym (own_segs ss)) s;
      filled = omega (arith, own_length ss);
    }

-- ---- merged pieces are sorted

sorted_from : (q m : ℕ) (ps : List Piece) → q ≤ (first_from ps).0 → Sorted 0 m (segs_of ps) → Sorted q m (segs_of ps)
unfolding Sorted first_from
sorted_from q m [] h s = tt
sorted_from q m (p ∷ ps) h s = (h, s.1, s.2, s.3)

pub sorted_append : (q m : ℕ) (ps qs : List Piece) → 0 < length ps → Sorted q m (segs_of ps) → Sorted (last_to ps).0 m (segs_of qs) → Sorted q m (segs_of (ps ++ qs))
unfolding Sorted last_to
sorted_append q m [] qs h s t = absurd (omega arith)
sorted_append q m (p ∷ []) qs h s t = (s.0, s.1, s.2, t)
sorted_append q m (p ∷ r ∷ ps) qs h s t = (s.0, s.1, s.2, sorted_append p.seg.to.0 m (r ∷ ps) qs (omega arith) s.3 t)

or_false : (x y : Bool) → x || y ≡ false → (x ≡ false) × (y ≡ false)
or_false true y e = absurd (let z : ◌≡◌ {A = ℕ} 0 1 = cc in omega arith)
or_false false y e = (refl, e)

and_second : (x y : Bool) → x ≡ true → x && y ≡ false → y ≡ false
and_second true y e f = f
and_second false y e f = absurd (let z : ◌≡◌ {A = ℕ} 0 1 = cc in omega arith)

pub sorted_inserted : (q m : ℕ) (new old : List Piece) → 0 < length new → q ≤ (first_from new).0 → Sorted 0 m (segs_of new) → Sorted q m (segs_of old)
    → overlaps (first_from new) (last_to new) old ≡ false → Sorted q m (segs_of (inserted (first_from new) new old))
unfolding inserted overlaps Sorted
sorted_inserted q m new [] k h n o e = sorted_from q m new h n
sorted_inserted q m new (p ∷ ps) k h n o e =
    let f = or_false _ _ e in
    go (leb p.seg.to.0 (first_from new).0) refl f.0 (λ l. sorted_inserted p.seg.to.0 m new ps k l n o.3 f.1)
  where
    go : (b : Bool) → leb p.seg.to.0 (first_from new).0 ≡ b → ltb (first_from new).0 p.seg.to.0 && ltb p.seg.«from».0 (last_to new).0 ≡ false
        → (p.seg.to.0 ≤ (first_from new).0 → Sorted p.seg.to.0 m (segs_of (inserted (first_from new) new ps))) → Sorted q m (segs_of (inserted (first_from new) new (p ∷ ps)))
    go true b f ih = rw (b, inserted) (o.0, o.1, o.2, ih (leb-true p.seg.to.0 (first_from new).0 b))
    go false b f ih =
        let l : (last_to new).0 ≤ p.seg.«from».0 =
        ltb-false p.seg.«from».0 (last_to new).0
        (and_second (ltb (first_from new).0 p.seg.to.0) (ltb p.seg.«from».0 (last_to new).0) (lt-ltb (first_from new).0 p.seg.to.0 (leb-false p.seg.to.0 (first_from new).0 b)) f) in
        rw (b, inserted) (sorted_append q m new (p ∷ ps) k (sorted_from q m new h n) (l, o.1, o.2, o.3))

-- ---- and their uses sound

uses_inserted : (P : Use → Type 0) (a : LiveRangePoint) (new old : List Piece) → Each P (uses_of (segs_of new)) → Each P (uses_of (segs_of old)) → Each P (uses_of (segs_of (inserted a new old)))
unfolding inserted uses_of
uses_inserted P a new [] h k = h
uses_inserted P a new (p ∷ ps) h k = go (leb p.seg.to.0 a.0) refl (uses_inserted P a new ps h (each_right P p.seg.uses (uses_of (segs_of ps)) k))
  where
    go : (b : Bool) → leb p.seg.to.0 a.0 ≡ b → Each P (uses_of (segs_of (inserted a new ps))) → Each P (uses_of (segs_of (inserted a new (p ∷ ps))))
    go true e ih = rw (e, inserted) (each_append P p.seg.uses (uses_of (segs_of (inserted a new ps))) (each_left P p.seg.uses (uses_of (segs_of ps)) k) ih)
    go false e ih =
        rw (e, inserted) (subst (λ (us : List Use). Each P us) (sym (uses_append new (p ∷ ps))) (each_append P (uses_of (segs_of new)) (uses_of (segs_of (p ∷ ps))) h k))

some_inserted : (a : LiveRangePoint) (new old : List Piece) → 0 < length new → 0 < length (inserted a new old)
unfolding inserted
some_inserted a new [] h = h
some_inserted a new (p ∷ ps) h = go (leb p.seg.to.0 a.0) refl
  where
    go : (b : Bool) → leb p.seg.to.0 a.0 ≡ b → 0 < length (inserted a new (p ∷ ps))
    go true e = rw (e, inserted) (omega arith)
    go false e = rw (e, inserted) (omega (arith, length-append new (p ∷ ps)))

-- the pieces of a register that others are merged into
pub fair_inserted : (J : Job) (m : ℕ) (new old : List Piece) → Fair J m new → Fair J m old → overlaps (first_from new) (last_to new) old ≡ false → Fair J m (inserted (first_from new) new old)
fair_inserted J m new old f g e =
    record {
      sound = uses_inserted (Sound J) (first_from new) new old f.sound g.sound;
      sorted = sorted_inserted 0 m new old f.filled (omega arith) f.sorted g.sorted e;
      filled = some_inserted (first_from new) new old f.filled;
    }
