-- From counts over the tables to the lists of own and of added pieces. Assumes nothing.
use mathlib.Core.Path.{◌≡◌, refl, ap, sym, ◌∙◌, subst}
use Prim.Native.Nat.{ℕ, ◌+◌, ◌*◌, ◌≤◌, ◌<◌}
use native.Mathlib.Omega.{arith}
use mathlib.Core.Bool.{Bool, true, false, cond, ◌&&◌, ◌||◌}
use mathlib.Core.List.{List, [], ◌∷◌, ◌++◌}
use lib.Dec.{leb, ltb, eqb}
use borrow.Author.Tests.{ltb-true, eqb-true, eqb-false, lt-leb}
use Rattle.definition.specs.Types.{Inst, Value, ValueSet, UseKind, FixedDef, FixedUse, TiedUse, ConstraintConflict, ClassUse, ClassDef, GroupClassUse, GroupClassDef, BlockparamIn, BlockparamOut, Use, Origin, Own, Conflict, Segment, Job, Piece, Register, val}
use Rattle.definition.specs.RegInfo.{set_of}
use Rattle.definition.specs.Uses.{is_class_use}
use Rattle.definition.specs.Cuts.{left_of, right_of}
use Rattle.definition.specs.Place.{total}
use Rattle.definition.specs.Build.{one, runs, same_set}
use Rattle.definition.specs.Entry.{in_order, chained, every, kind_ok, segment_ok, segments_ok, use_ok, use_tests, uses_ok}
use Rattle.definition.specs.Promised.{Follows, added_in, added_pieces, class_uses_at, covered, covers, had, live_at, is_mark, marks_at, of_set, own_in, own_of, own_pieces, same_use}
use Rattle.definition.proofs.Cuts.{halves}
use Rattle.definition.proofs.Places.{total_append, counted, All, all_map}
use Rattle.definition.proofs.Points.{Additive, cond_sum, of_own, Steady, own_uses}
use Rattle.definition.proofs.ReadBack.{Test, of_piece}
use Rattle.definition.proofs.Entries.{and_both, conj_all, every_all, Good, segment_good}
use Rattle.definition.proofs.Rises.{led_by, of_total, Rise, runs_rise}
use Rattle.definition.proofs.Same.{same_use_lem}
use Rattle.definition.proofs.Sets.{InSet}

-- ---- own and added pieces, counted

module _ (ν : Segment → ℕ) where
  own_pieces_lem : (ps : List Piece) → total (of_own ν) ps ≡ total ν (own_pieces ps)
  unfolding total own_pieces
  own_pieces_lem [] = refl
  own_pieces_lem (p ∷ ps) = go p.origin (own_pieces_lem ps)
    where
      go : (o : Origin) → total (of_own ν) ps ≡ total ν (own_pieces ps)
          → elim o [ Own ↦ ν p.seg | Conflict ↦ 0 ] + total (of_own ν) ps ≡ total ν (elim o [ Own ↦ p.seg ∷ own_pieces ps | Conflict ↦ own_pieces ps ])
      go Own ih = omega arith
      go Conflict ih = omega arith

  pub own_counted : (rs : List Register) → counted (of_own ν) rs ≡ total ν (own_in rs)
  unfolding counted own_in total
  own_counted [] = refl
  own_counted (r ∷ rs) = omega (arith, own_pieces_lem r.pieces, own_counted rs, total_append ν (own_pieces r.pieces) (own_in rs))

  both_pieces : (ps : List Piece) → total (λ p. ν p.seg) ps ≡ total ν (own_pieces ps) + total ν (added_pieces ps)
  unfolding total own_pieces added_pieces
  both_pieces [] = refl
  both_pieces (p ∷ ps) = go p.origin (both_pieces ps)
    where
      go : (o : Origin) → total (λ p. ν p.seg) ps ≡ total ν (own_pieces ps) + total ν (added_pieces ps)
          → ν p.seg + total (λ p. ν p.seg) ps
          ≡ total ν (elim o [ Own ↦ p.seg ∷ own_pieces ps | Conflict ↦ own_pieces ps ]) + total ν (elim o [ Own ↦ added_pieces ps | Conflict ↦ p.seg ∷ added_pieces ps ])
      go Own ih = omega arith
      go Conflict ih = omega arith

  pub both_counted : (rs : List Register) → counted (λ p. ν p.seg) rs ≡ total ν (own_in rs) + total ν (added_in rs)
  unfolding counted own_in added_in total
  both_counted [] = refl
  both_counted (r ∷ rs) =
      omega (arith, both_pieces r.pieces, both_counted rs, total_append ν (own_pieces r.pieces) (own_in rs), total_append ν (added_pieces r.pieces) (added_in rs))

  -- ---- those of one set: by their values, and by their registers

  module _ (job : Job) (s : ValueSet) where
    led_pieces : (u : ValueSet) (ps : List Piece) (b : Bool) → eqb u.0 s.0 ≡ b → All (λ p. set_of job p.seg.value ≡ u) ps → total (of_own (led_by job s ν)) ps ≡ total ν (cond b (own_pieces ps) [])
    unfolding total own_pieces
    led_pieces u [] true e a = refl
    led_pieces u [] false e a = refl
    led_pieces u (p ∷ ps) b e a = go b e p.origin (led_pieces u ps b e a.1)
      where
        go : (b : Bool) → eqb u.0 s.0 ≡ b → (o : Origin) → total (of_own (led_by job s ν)) ps ≡ total ν (cond b (own_pieces ps) [])
            → elim o [ Own ↦ cond (eqb (set_of job p.seg.value).0 s.0) (ν p.seg) 0 | Conflict ↦ 0 ] + total (of_own (led_by job s ν)) ps
            ≡ total ν (cond b (elim o [ Own ↦ p.seg ∷ own_pieces ps | Conflict ↦ own_pieces ps ]) [])
        go true x Own ih = rw (a.0, x) (omega arith)
        go true x Conflict ih = omega arith
        go false x Own ih = rw (a.0, x) (omega arith)
        go false x Conflict ih = omega arith

    pub led_counted : (rs : List Register) → All (InSet job) rs → counted (of_own (led_by job s ν)) rs ≡ total ν (own_of s rs)
    unfolding counted own_of total
    led_counted [] a = refl
    led_counted (r ∷ rs) a = go (eqb r.set.0 s.0) refl (led_counted rs a.1)
      where
        go : (b : Bool) → eqb r.set.0 s.0 ≡ b → counted (of_own (led_by job s ν)) rs ≡ total ν (own_of s rs)
            → total (of_own (led_by job s ν)) r.pieces + counted (of_own (led_by job s ν)) rs ≡ total ν (cond b (own_pieces r.pieces ++ own_of s rs) (own_of s rs))
        go true x ih = omega (arith, led_pieces r.set r.pieces true x a.0, total_append ν (own_pieces r.pieces) (own_of s rs))
        go false x ih = omega (arith, led_pieces r.set r.pieces false x a.0)

-- ---- points

-- what is parted by cuts and kept by turns is so for the segments of one set
pub led_additive : (job : Job) (s : ValueSet) (ν : Segment → ℕ) → Additive ν → Additive (led_by job s ν)
unfolding left_of right_of
led_additive job s ν add = record {
  parted = λ hs p t a b. cond_sum (eqb (set_of job t.value).0 s.0) (ν (left_of hs p t)) (ν (right_of hs p t)) (ν t) (add.parted hs p t a b);
  kept = λ n t c. ap (λ (m : ℕ). cond (eqb (set_of job t.value).0 s.0) m 0) (add.kept n t c);
}

pub covered_additive : (x : ℕ) → Additive (λ t. one (covers x t))
unfolding left_of right_of
covered_additive x = record { parted = λ hs p t a b. halves true t.«from».0 (4 * p.0) t.to.0 x a b; kept = λ n t c. refl }

-- no point is in two segments that follow each other
not_yet : (q x : ℕ) (ss : List Segment) → Follows q ss → x < q → covered x ss ≡ 0
unfolding covered total
not_yet q x [] h l = refl
not_yet q x (s ∷ ss) h l = rw (lt-leb s.«from».0 x (omega (arith, h.0))) (omega (arith, not_yet s.to.0 x ss h.2 (omega (arith, h.0, h.1))))

pub covered_once : (q x : ℕ) (ss : List Segment) → Follows q ss → covered x ss ≤ 1
unfolding covered total
covered_once q x [] h = omega arith
covered_once q x (s ∷ ss) h = go (leb s.«from».0 x) (ltb x s.to.0) refl (covered_once s.to.0 x ss h.2) (λ l. not_yet s.to.0 x ss h.2 l)
  where
    go : (a b : Bool) → ltb x s.to.0 ≡ b → covered x ss ≤ 1 → (x < s.to.0 → covered x ss ≡ 0) → one (a && b) + covered x ss ≤ 1
    go true true e i n = let l : x < s.to.0 = ltb-true _ _ e in omega (arith, n l)
    go true false e i n = omega arith
    go false b e i n = omega arith

pub live_covered : (v : Value) (x : ℕ) (ss : List Segment) → live_at v x ss ≤ covered x ss
unfolding live_at covered total
live_covered v x [] = omega arith
live_covered v x (s ∷ ss) = go (eqb s.value.0 v.0) (leb s.«from».0 x) (ltb x s.to.0) (live_covered v x ss)
  where
    go : (a b c : Bool) → live_at v x ss ≤ covered x ss → one (a && b && c) + live_at v x ss ≤ one (b && c) + covered x ss
    go true b c i = omega arith
    go false true true i = omega arith
    go false true false i = omega arith
    go false false c i = omega arith

-- ---- what is counted of a value's segments alone is counted of its leader's set

pub total_same : {A : Type 0} (f g : A → ℕ) → ((x : A) → f x ≡ g x) → (xs : List A) → total f xs ≡ total g xs
unfolding total
total_same f g e [] = refl
total_same f g e (x ∷ xs) = omega (arith, e x, total_same f g e xs)

pub counted_same : (μ ξ : Piece → ℕ) → ((p : Piece) → μ p ≡ ξ p) → (rs : List Register) → counted μ rs ≡ counted ξ rs
unfolding counted
counted_same μ ξ e rs = total_same _ _ (λ r. total_same μ ξ e r.pieces) rs

module _ (job : Job) (v : Value) (ν : Segment → ℕ) (other : (s : Segment) → eqb s.value.0 v.0 ≡ false → ν s ≡ 0) where
  led_alike : (s : Segment) → led_by job (set_of job v) ν s ≡ ν s
  led_alike s = go (eqb (set_of job s.value).0 (set_of job v).0) refl (eqb s.value.0 v.0) refl
    where
      go : (a : Bool) → eqb (set_of job s.value).0 (set_of job v).0 ≡ a → (b : Bool) → eqb s.value.0 v.0 ≡ b → cond a (ν s) 0 ≡ ν s
      go true e b f = refl
      go false e true f = absurd (eqb-false _ _ e (ap (λ (n : ℕ). (set_of job (val n)).0) (eqb-true _ _ f)))
      go false e false f = sym (other s f)

  pub of_led : (ss : List Segment) → total ν (of_set job (set_of job v) ss) ≡ total ν ss
  of_led ss = sym (of_total job (set_of job v) ν ss) ∙ total_same _ ν led_alike ss

  pub own_led : (rs : List Register) → All (InSet job) rs → total ν (own_of (set_of job v) rs) ≡ total ν (own_in rs)
  own_led rs a = sym (led_counted ν job (set_of job v) rs a) ∙ counted_same _ _ piece rs ∙ own_counted ν rs
    where
      piece : (p : Piece) → of_own (led_by job (set_of job v) ν) p ≡ of_own ν p
      piece p = go p.origin
        where
          go : (o : Origin) → ◌≡◌ {A = ℕ} (elim o [ Own ↦ led_by job (set_of job v) ν p.seg | Conflict ↦ 0 ]) (elim o [ Own ↦ ν p.seg | Conflict ↦ 0 ])
          go Own = led_alike p.seg
          go Conflict = refl

-- ---- an accepted job: its sets rise, and it has no marks

no_runs : (job : Job) → Rise job 0 (runs (same_set job) [])
unfolding runs
no_runs job = tt

pub accepted_rise : (job : Job) → segments_ok job ≡ true → every (uses_ok job) job.segments ≡ true → (t : ℕ) × Rise job t (runs (same_set job) job.segments)
unfolding segments_ok
accepted_rise job e f =
    let a = and_both (every (segment_ok job) job.segments) (chained (in_order job) job.segments) e in
    go job.segments (goods job.segments (every_all (segment_ok job) job.segments a.0) (every_all (uses_ok job) job.segments f)) a.1
  where
    goods : (ss : List Segment) → All (λ s. segment_ok job s ≡ true) ss → All (λ s. uses_ok job s ≡ true) ss → All (Good job) ss
    goods [] g h = tt
    goods (s ∷ ss) g h = (segment_good job s g.0 h.0, goods ss g.1 h.1)

    go : (ss : List Segment) → All (Good job) ss → chained (in_order job) ss ≡ true → (t : ℕ) × Rise job t (runs (same_set job) ss)
    go [] g c = (0, no_runs job)
    go (s ∷ ss) g c = ((set_of job s.value).0, runs_rise job s ss g c)

mark_refused : (job : Job) (v : Value) (p : Inst) (k : UseKind) → kind_ok job v p k ≡ true → is_mark k ≡ false
unfolding kind_ok
mark_refused job v p (FixedDef r) e = refl
mark_refused job v p (FixedUse r) e = refl
mark_refused job v p (TiedUse u d c i) e = refl
mark_refused job v p ConstraintConflict e = let z : ◌≡◌ {A = ℕ} 0 1 = cc in absurd (omega arith)
mark_refused job v p (ClassUse s c) e = refl
mark_refused job v p (ClassDef s c) e = refl
mark_refused job v p (GroupClassUse s c i) e = refl
mark_refused job v p (GroupClassDef s c i) e = refl
mark_refused job v p (BlockparamIn q) e = refl
mark_refused job v p BlockparamOut e = refl

abbrev Unmarked : Segment → Type 0
Unmarked s = All (λ u. is_mark u.kind ≡ false) s.uses

pub no_marks : (job : Job) → every (uses_ok job) job.segments ≡ true → All Unmarked job.segments
unfolding uses_ok use_ok
no_marks job e =
    all_map _ Unmarked (λ s f. all_map _ (λ u. is_mark u.kind ≡ false) (λ u d. mark_refused job s.value u.pos u.kind (conj_all (use_tests job s u) d).1.0) s.uses
    (every_all (use_ok job s) s.uses (and_both (every (use_ok job s) s.uses) _ f).0)) job.segments (every_all (uses_ok job) job.segments e)

-- ---- uses under the segments of value v that pass a test

module _ (v : Value) (P : Use → Bool) where
  abbrev pub passed : List Segment → ℕ
  passed ss = total (own_uses v P) ss

  module _ (Q : Use → Type 0) (fails : (u : Use) → Q u → P u ≡ false) where
    none_in : (us : List Use) → All Q us → total (λ u. one (P u)) us ≡ 0
    unfolding total
    none_in [] a = refl
    none_in (u ∷ us) a = rw (fails u a.0) (omega (arith, none_in us a.1))

    none_passed : (ss : List Segment) → All (λ s. All Q s.uses) ss → passed ss ≡ 0
    unfolding total
    none_passed [] a = refl
    none_passed (s ∷ ss) a = go (eqb s.value.0 v.0) (none_in s.uses a.0) (none_passed ss a.1)
      where
        go : (b : Bool) → total (λ u. one (P u)) s.uses ≡ 0 → passed ss ≡ 0 → cond b (total (λ u. one (P u)) s.uses) 0 + passed ss ≡ 0
        go true e i = omega arith
        go false e i = omega arith

-- an accepted job has no use of kind 3
pub no_mark_had : (job : Job) (v : Value) (w : Use) → is_mark w.kind ≡ true → every (uses_ok job) job.segments ≡ true → had v w job.segments ≡ 0
unfolding had
no_mark_had job v w m e = none_passed v (same_use w) (λ u. is_mark u.kind ≡ false) fails job.segments (no_marks job e)
  where
    fails : (u : Use) → is_mark u.kind ≡ false → same_use w u ≡ false
    fails u n = go (same_use w u) refl
      where
        go : (b : Bool) → same_use w u ≡ b → same_use w u ≡ false
        go true d =
            let q : w ≡ u = same_use_lem w u d in
            let t : is_mark u.kind ≡ true = subst (λ (x : Use). is_mark x.kind ≡ true) q m in
            let z : ◌≡◌ {A = ℕ} 0 1 = cc in absurd (omega arith)
        go false d = d

-- ---- marks in own pieces, class uses in added ones

abbrev class_at_inst : Inst → Use → Bool
class_at_inst p u = is_class_use u.kind && eqb u.pos.0 p.0

abbrev mark_at_inst : Inst → Use → Bool
mark_at_inst p u = is_mark u.kind && eqb u.pos.0 p.0

abbrev either_at : Inst → Use → Bool
either_at p u = (is_class_use u.kind || is_mark u.kind) && eqb u.pos.0 p.0

either_kind : (k : UseKind) (a : Bool) → one ((is_class_use k || is_mark k) && a) ≡ one (is_class_use k && a) + one (is_mark k && a)
either_kind (FixedDef r) a = refl
either_kind (FixedUse r) a = refl
either_kind (TiedUse u d c i) a = refl
either_kind ConstraintConflict a = omega arith
either_kind (ClassUse s c) a = omega arith
either_kind (ClassDef s c) a = omega arith
either_kind (GroupClassUse s c i) a = omega arith
either_kind (GroupClassDef s c i) a = omega arith
either_kind (BlockparamIn q) a = refl
either_kind BlockparamOut a = refl

module _ (v : Value) (p : Inst) where
  either_uses : (us : List Use) → total (λ u. one (either_at p u)) us ≡ total (λ u. one (class_at_inst p u)) us + total (λ u. one (mark_at_inst p u)) us
  unfolding total
  either_uses [] = refl
  either_uses (u ∷ us) = omega (arith, either_kind u.kind (eqb u.pos.0 p.0), either_uses us)

  either_passed : (ss : List Segment) → passed v (either_at p) ss ≡ passed v (class_at_inst p) ss + passed v (mark_at_inst p) ss
  unfolding total
  either_passed [] = refl
  either_passed (s ∷ ss) = go (eqb s.value.0 v.0) (either_uses s.uses) (either_passed ss)
    where
      go : (b : Bool) → total (λ u. one (either_at p u)) s.uses ≡ total (λ u. one (class_at_inst p u)) s.uses + total (λ u. one (mark_at_inst p u)) s.uses
          → passed v (either_at p) ss ≡ passed v (class_at_inst p) ss + passed v (mark_at_inst p) ss
          → cond b (total (λ u. one (either_at p u)) s.uses) 0 + passed v (either_at p) ss
          ≡ (cond b (total (λ u. one (class_at_inst p u)) s.uses) 0 + passed v (class_at_inst p) ss) + (cond b (total (λ u. one (mark_at_inst p u)) s.uses) 0 + passed v (mark_at_inst p) ss)
      go true e i = omega arith
      go false e i = omega arith

  either_steady : Steady (either_at p)
  either_steady = record { turned = λ u c. rw c }

  class_test_at : Test (class_at_inst p)
  class_test_at = record { mark = λ u. refl; param = λ i q. refl }

  pub marks_turned : (job : Job) (rs : List Register) → every (uses_ok job) job.segments ≡ true
      → ((P : Use → Bool) → Steady P → counted (of_own (own_uses v P)) rs ≡ total (own_uses v P) job.segments)
      → ((P : Use → Bool) → Test P → counted (of_piece v P) rs ≡ total (own_uses v P) job.segments)
      → marks_at v p (own_in rs) ≡ class_uses_at v p (added_in rs)
  unfolding marks_at class_uses_at
  marks_turned job rs e own_same All-same =
      let a : passed v (either_at p) (own_in rs) ≡ passed v (either_at p) job.segments = sym (own_counted (own_uses v (either_at p)) rs) ∙ own_same (either_at p) either_steady in
      let b : passed v (class_at_inst p) (own_in rs) + passed v (class_at_inst p) (added_in rs) ≡ passed v (class_at_inst p) job.segments =
      sym (both_counted (own_uses v (class_at_inst p)) rs) ∙ All-same (class_at_inst p) class_test_at in
      let none' : passed v (mark_at_inst p) job.segments ≡ 0 = none_passed v (mark_at_inst p) (λ u. is_mark u.kind ≡ false) (λ u d. rw d) job.segments (no_marks job e) in
      omega (arith, either_passed (own_in rs), either_passed job.segments)
