-- Where the segments fit (`SegsFit`: the entry rules 6 and 7, which turns and cuts keep), each use of a part lies between its ends.
-- So a cut behind one use of a part and before a class use of it has two sides. Assumes nothing.
use mathlib.Core.Path.{◌≡◌, refl}
use mathlib.Core.Bool.{Bool, true, false}
use mathlib.Core.List.{List, [], ◌∷◌, ◌++◌}
use Prim.Native.Nat.{ℕ, zero, suc, ◌+◌, ◌-◌, ◌*◌, ◌≤◌, ◌<◌}
use native.Mathlib.Omega.{arith}
use lib.Dec.{ltb}
use lib.ListN.{length, length-append, get_or-append}
use borrow.Author.Tests.{eq-eqb, ltb-true, ltb-false}
use Rattle.words.specs.Tab.{tab}
use Rattle.words.specs.Parts.{get_d_past}
use Rattle.definition.specs.declared.Inst.{Inst}
use Rattle.definition.specs.declared.Use.{Use}
use Rattle.definition.specs.declared.UseKind.{UseKind}
use Rattle.definition.specs.declared.UseKind.TheVariants.{FixedDef, FixedUse, TiedUse, ConstraintConflict, ClassUse, ClassDef, GroupClassUse, GroupClassDef, BlockparamIn, BlockparamOut}
use Rattle.definition.specs.Types.{Segment}
use Rattle.definition.specs.Uses.{is_class_use, end_slot, end_point}
use Rattle.definition.specs.Admit.{no_use, use_at}
use Rattle.definition.specs.Place.{uses_of}
use Rattle.definition.proofs.Fits.{UsesFit, SegsFit}
use Rattle.job.specs.declared.Layout.{Layout}
use Rattle.set_part.specs.declared.SetPart.{SetPart}
use Rattle.set_part.specs.Part.{part_row, seg_by, marked_use, part_segs, PartOk}

-- a class use ends behind its instruction's Boundary
class_end : (u : Use) → is_class_use u.kind ≡ true → 4 * u.pos.0 < (end_point u).0
unfolding end_point
class_end u = go u.kind
  where
    never : false ≡ true → ⊥
    never e = let z : ◌≡◌ {A = ℕ} 0 1 = cc in omega arith

    go : (k : UseKind) → is_class_use k ≡ true → 4 * u.pos.0 < 4 * u.pos.0 + end_slot k
    go (FixedDef r) e = absurd (never e)
    go (FixedUse r) e = absurd (never e)
    go (TiedUse s d c i) e = absurd (never e)
    go ConstraintConflict e = absurd (never e)
    go (ClassUse s c) e = omega arith
    go (ClassDef s c) e = omega arith
    go (GroupClassUse s c i) e = omega arith
    go (GroupClassDef s c i) e = omega arith
    go (BlockparamIn q) e = absurd (never e)
    go BlockparamOut e = absurd (never e)

-- ---- lists

-- the end of the last segment
abbrev last_to : ℕ → List Segment → ℕ
last_to q [] = q
last_to q (s ∷ ss) = last_to s.to.0 ss

to_rises : (ss : List Segment) (q : ℕ) → SegsFit q ss → q ≤ last_to q ss
to_rises [] q h = omega arith
to_rises (s ∷ ss) q h = let a = h.0 in let b = h.1 in let c = to_rises ss s.to.0 h.3 in omega arith

-- use n of a segment [a, b)
use_in : (us : List Use) (n l a b : ℕ) → UsesFit l a b us → n < length us → (a < 4 * (use_at us n).pos.0 + 4) × ((end_point (use_at us n)).0 ≤ b)
use_in [] n l a b h k = absurd (omega arith)
use_in (u ∷ us) zero l a b h k = (h.1, h.2)
use_in (u ∷ us) (suc n) l a b h k = use_in us n u.pos.0 a b h.3 (omega arith)

-- use n of all
use_inside : (ss : List Segment) (q n : ℕ) → SegsFit q ss → n < length (uses_of ss) → (q < 4 * (use_at (uses_of ss) n).pos.0 + 4) × ((end_point (use_at (uses_of ss) n)).0 ≤ last_to q ss)
unfolding uses_of
use_inside [] q n h k = absurd (omega arith)
use_inside (s ∷ ss) q n h k = go (ltb n (length s.uses)) refl (λ m. use_inside ss s.to.0 (n - length s.uses) h.3 m)
  where
    go : (t : Bool) → ltb n (length s.uses) ≡ t
        → (n - length s.uses < length (uses_of ss)
        → (s.to.0 < 4 * (use_at (uses_of ss) (n - length s.uses)).pos.0 + 4) × ((end_point (use_at (uses_of ss) (n - length s.uses))).0 ≤ last_to s.to.0 ss))
        → (q < 4 * (use_at (s.uses ++ uses_of ss) n).pos.0 + 4) × ((end_point (use_at (s.uses ++ uses_of ss) n)).0 ≤ last_to s.to.0 ss)
    go true e ih =
        let l = ltb-true n (length s.uses) e in
        let u = use_in s.uses n 0 s.«from».0 s.to.0 h.2 l in
        let t = to_rises ss s.to.0 h.3 in
        let a = h.0 in
        rw (get_or-append s.uses (uses_of ss) no_use n l) (omega (arith, u.0), omega (arith, u.1))
    go false e ih =
        let l = ltb-false n (length s.uses) e in
        let c = length-append s.uses (uses_of ss) in
        let p : n ≡ length s.uses + (n - length s.uses) = omega arith in
        let u = ih (omega arith) in
        let a = h.0 in
        let b = h.1 in
        rw (get_d_past s.uses (uses_of ss) n (n - length s.uses) no_use p) (omega (arith, u.0), u.1)

-- ---- a part

module _ (K : List ℕ) (marks : ℕ) (W : List ℕ) (lay : Layout) (sp : SetPart) (ok : PartOk W lay sp) where
  abbrev seg : ℕ → Segment
  seg i = seg_by (marked_use K marks W lay) (part_row W lay sp i)

  last_to_lem : (m i q : ℕ) → i + m ≡ sp.last → last_to q (tab seg i (suc m)) ≡ sp.to.0
  unfolding seg_by part_row
  last_to_lem zero i q e = let f : i ≡ sp.last = omega arith in rw (f, eq-eqb sp.last sp.last refl)
  last_to_lem (suc m) i q e = last_to_lem m (i + 1) (seg i).to.0 (omega arith)

  first_from : (seg sp.seg).«from».0 ≡ sp.«from».0
  unfolding seg_by part_row
  first_from = rw (eq-eqb sp.seg sp.seg refl)

  pub part_inside : (q n : ℕ) → SegsFit q (part_segs K marks W lay sp) → n < length (uses_of (part_segs K marks W lay sp))
      → (sp.«from».0 < 4 * (use_at (uses_of (part_segs K marks W lay sp)) n).pos.0 + 4) × ((end_point (use_at (uses_of (part_segs K marks W lay sp)) n)).0 ≤ sp.to.0)
  unfolding part_segs
  part_inside q n =
      let o = ok.order in
      let e : sp.last + 1 - sp.seg ≡ suc (sp.last - sp.seg) = omega arith in
      rw e
      (λ h k.
      let ss = tab seg sp.seg (suc (sp.last - sp.seg)) in
      let z = (seg sp.seg).«from».0 in
      let g : SegsFit z ss = (omega arith, h.1, h.2, h.3) in
      let u = use_inside ss z n g k in
      (omega (arith, u.0, first_from), omega (arith, u.1, last_to_lem (sp.last - sp.seg) sp.seg z (omega arith))))

  -- a cut at p has both sides: one use is before p, and a class use is not
  pub cut_open : (q n : ℕ) (p : Inst) → SegsFit q (part_segs K marks W lay sp) → n < length (uses_of (part_segs K marks W lay sp))
      → (use_at (uses_of (part_segs K marks W lay sp)) n).pos.0 < p.0 → sp.«from».0 < 4 * p.0
  cut_open q n p h k l = omega (arith, (part_inside q n h k).0)

  pub cut_end : (q n : ℕ) (p : Inst) → SegsFit q (part_segs K marks W lay sp) → n < length (uses_of (part_segs K marks W lay sp))
      → p.0 ≤ (use_at (uses_of (part_segs K marks W lay sp)) n).pos.0 → is_class_use (use_at (uses_of (part_segs K marks W lay sp)) n).kind ≡ true → 4 * p.0 < sp.to.0
  cut_end q n p h k l c = omega (arith, (part_inside q n h k).1, class_end (use_at (uses_of (part_segs K marks W lay sp)) n) c)
