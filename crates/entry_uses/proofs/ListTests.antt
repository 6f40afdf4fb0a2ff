-- One law for each way through test 7. Assumes nothing.
use Prim.Native.Nat.{ℕ, ◌+◌, ◌-◌, ◌*◌, ◌%◌, ◌≤◌, ◌<◌}
use native.Mathlib.Omega.{arith}
use mathlib.Core.Path.{◌≡◌, refl, sym, ap, ap₂, ◌∙◌}
use mathlib.Core.Bool.{Bool, true, false, not, ◌&&◌}
use mathlib.Core.List.{List, [], ◌∷◌}
use lib.Dec.{leb, eqb}
use lib.ListN.{get_or}
use borrow.Author.Tests.{lt-ltb, le-ltb, not-true, not-false}
use Rattle.words.specs.Tab.{tab}
use Rattle.words.specs.RowsAt.{rows_at}
use Rattle.definition.specs.declared.LiveRangePoint.{LiveRangePoint}
use Rattle.definition.specs.declared.UseKind.{UseKind}
use Rattle.definition.specs.declared.UseKind.TheVariants.{FixedDef, FixedUse, TiedUse, ConstraintConflict, ClassUse, ClassDef, GroupClassUse, GroupClassDef, BlockparamIn, BlockparamOut}
use Rattle.definition.specs.declared.Use.{Use}
use Rattle.definition.specs.Types.{Segment, point, cls}
use Rattle.definition.specs.Uses.{end_slot, end_point}
use Rattle.definition.specs.Entry.{conj, every, chained, insts, kind_ok, use_ok, uses_ok}
use Rattle.uses.specs.Rows.{pick_k, reg, raw_kind, kind_of, raw_row, use_row}
use Rattle.job.specs.declared.Layout.{Layout}
use Rattle.job.specs.declared.SegRow.{SegRow}
use Rattle.job.specs.Layout.{seg_row, seg_at, next_use, job_uses, segment_of}
use Rattle.job.specs.Job.{raw_job}
use Rattle.entry_function.proofs.Tables.{raw_segments}
use Rattle.entry_uses.specs.ListTests.{seg_of, not_falling, Rising}

-- ---- one use

-- where a use ends goes by its kind's number
end_kind : (k a b c d : ℕ) → end_slot (kind_of k a b c d) ≡ end_slot (raw_kind k a b c d)
unfolding kind_of raw_kind
end_kind k a b c d = go (eqb k 0) (eqb k 1) (eqb k 2) (eqb k 4) (eqb k 5) (eqb k 6) (eqb k 7) (pick_k (eqb k 8) (BlockparamIn a) (pick_k (eqb k 9) BlockparamOut ConstraintConflict))
  where
    go : (k0 k1 k2 k4 k5 k6 k7 : Bool) (last : UseKind)
        → end_slot (pick_k k0 (FixedDef (reg a)) (pick_k k1 (FixedUse (reg a)) (pick_k k2 (TiedUse (a % 65536) (b % 65536) (cls c) (d % 256)) (pick_k k4 (ClassUse (a % 65536) (cls b))
        (pick_k k5 (ClassDef (a % 65536) (cls b)) (pick_k k6 (GroupClassUse (a % 65536) (cls b) (c % 256)) (pick_k k7 (GroupClassDef (a % 65536) (cls b) (c % 256)) last)))))))
        ≡ end_slot (pick_k k0 (FixedDef (reg a)) (pick_k k1 (FixedUse (reg a)) (pick_k k2 (TiedUse a b (cls c) d) (pick_k k4 (ClassUse a (cls b))
        (pick_k k5 (ClassDef a (cls b)) (pick_k k6 (GroupClassUse a (cls b) c) (pick_k k7 (GroupClassDef a (cls b) c) last)))))))
    go true k1 k2 k4 k5 k6 k7 last = refl
    go false true k2 k4 k5 k6 k7 last = refl
    go false false true k4 k5 k6 k7 last = refl
    go false false false true k5 k6 k7 last = refl
    go false false false false true k6 k7 last = refl
    go false false false false false true k7 last = refl
    go false false false false false false true last = refl
    go false false false false false false false last = refl

pub end_raw : (W : List ℕ) (i : ℕ) (u : Use) (q : LiveRangePoint) → u ≡ use_row W i → q ≡ end_point u → q ≡ end_point (raw_row W i)
unfolding use_row raw_row end_point
end_raw W i u q e f =
    f ∙ ap end_point e ∙ ap (λ (n : ℕ). point (4 * get_or W (i + 1) 0 + n)) (end_kind (get_or W i 0) (get_or W (i + 2) 0) (get_or W (i + 3) 0) (get_or W (i + 4) 0) (get_or W (i + 5) 0))

pub raw_pos : (W : List ℕ) (i : ℕ) → (raw_row W i).pos.0 ≡ get_or W (i + 1) 0
unfolding raw_row
raw_pos W i = refl

pub use_pos : (W : List ℕ) (i : ℕ) (u : Use) → u ≡ use_row W i → u.pos.0 ≡ get_or W (i + 1) 0
unfolding use_row
use_pos W i u e = ap (λ (x : Use). x.pos.0) e

module _ (W : List ℕ) (lay : Layout) (s : SegRow) (i n pos : ℕ) (e : pos ≡ get_or W (i + 1) 0) (en : n ≡ insts (raw_job W lay)) where
  pub use_far : n ≤ pos → false ≡ use_ok (raw_job W lay) (seg_of s) (raw_row W i)
  unfolding use_ok conj
  use_far h = rw (raw_pos W i, ← e, ← en, le-ltb _ _ h)

  module _ (h : pos < n) (t : Bool) (f : t ≡ kind_ok (raw_job W lay) s.value (raw_row W i).pos (raw_row W i).kind) where
    pub use_kind : not t ≡ true → false ≡ use_ok (raw_job W lay) (seg_of s) (raw_row W i)
    unfolding use_ok conj seg_of
    use_kind k = rw (raw_pos W i, ← e, ← en, lt-ltb _ _ h, ← f, not-true t k)

    module _ (k : not t ≡ false) where
      pub use_from : 4 * pos + 4 ≤ s.«from».0 → false ≡ use_ok (raw_job W lay) (seg_of s) (raw_row W i)
      unfolding use_ok conj seg_of
      use_from l = rw (raw_pos W i, ← e, ← en, lt-ltb _ _ h, ← f, not-false t k, le-ltb _ _ l)

      pub use_by : s.«from».0 < 4 * pos + 4 → (q : LiveRangePoint) → q ≡ end_point (raw_row W i) → leb q.0 s.to.0 ≡ use_ok (raw_job W lay) (seg_of s) (raw_row W i)
      unfolding use_ok conj seg_of
      use_by l q g = rw (g, raw_pos W i, ← e, ← en, lt-ltb _ _ h, ← f, not-false t k, lt-ltb _ _ l) (last _)
        where
          last : (b : Bool) → b ≡ b && true
          last true = refl
          last false = refl

-- ---- the uses of one segment

every_same : {A : Type 0} (f g : A → Bool) → ((x : A) → f x ≡ g x) → (xs : List A) → every f xs ≡ every g xs
unfolding every
every_same f g h [] = refl
every_same f g h (x ∷ xs) = ap₂ (λ (a b : Bool). a && b) (h x) (every_same f g h xs)

module _ (W : List ℕ) (lay : Layout) (k : ℕ) (s : SegRow) (r : s ≡ seg_row W (lay.segments.at + k * 5)) (next : ℕ) (e : next ≡ next_use W lay k) where
  same_test : (u : Use) → use_ok (raw_job W lay) (segment_of raw_row W lay k) u ≡ use_ok (raw_job W lay) (seg_of s) u
  unfolding use_ok segment_of seg_at seg_of
  same_test u = rw r

  same_uses : (segment_of raw_row W lay k).uses ≡ rows_at raw_row W (lay.uses.at + s.first * 6) 6 (next - s.first)
  unfolding segment_of seg_at job_uses
  same_uses = rw (r, e)

  pub uses_is : uses_ok (raw_job W lay) (segment_of raw_row W lay k)
      ≡ every (use_ok (raw_job W lay) (seg_of s)) (rows_at raw_row W (lay.uses.at + s.first * 6) 6 (next - s.first))
      && chained not_falling (rows_at raw_row W (lay.uses.at + s.first * 6) 6 (next - s.first))
  unfolding uses_ok not_falling
  uses_is =
      rw same_uses
      (ap (λ (b : Bool). b && chained not_falling (rows_at raw_row W (lay.uses.at + s.first * 6) 6 (next - s.first)))
      (every_same _ _ same_test (rows_at raw_row W (lay.uses.at + s.first * 6) 6 (next - s.first))))

  -- its uses lie in the use table
  pub uses_lie : Rising W lay → k < lay.segments.n → (s.first ≤ next) × (next ≤ lay.uses.n)
  unfolding seg_at
  uses_lie x h = let a = x.rise k h in let b = x.within k h in let f : s.first ≡ (seg_row W (lay.segments.at + k * 5)).first = ap (λ (y : SegRow). y.first) r in (omega (arith, a, e, f), omega (arith, b, e))

-- ---- all segments

pub over_segments : (W : List ℕ) (lay : Layout) (t : Bool) → t ≡ every (uses_ok (raw_job W lay)) (tab (segment_of raw_row W lay) 0 lay.segments.n)
    → t ≡ every (uses_ok (raw_job W lay)) (raw_job W lay).segments
over_segments W lay t e = e ∙ ap (λ (ss : List Segment). every (uses_ok (raw_job W lay)) ss) (sym (raw_segments W lay))
