-- A job that passes the entry rules: each set's segments fit. The tests are Bools in the definition; here they become the facts that the other proofs ask for. Assumes nothing.
use mathlib.Core.Path.{◌≡◌, refl}
use Prim.Native.Nat.{ℕ, ◌+◌, ◌*◌, ◌≤◌, ◌<◌}
use native.Mathlib.Omega.{arith}
use mathlib.Core.Bool.{Bool, true, false, cond, ◌&&◌, ◌||◌}
use mathlib.Core.Option.{Option, none, some}
use mathlib.Core.List.{List, [], ◌∷◌}
use lib.Dec.{leb, ltb}
use lib.ListN.{length}
use borrow.Author.Tests.{ltb-true, leb-true, eqb-true}
use Rattle.definition.specs.Types.{Job, Refusal, Segment, Use}
use Rattle.definition.specs.RegInfo.{set_of}
use Rattle.definition.specs.Uses.{end_point}
use Rattle.definition.specs.Build.{onto, runs, same_set}
use Rattle.definition.specs.Entry.{in_order, chained, conj, entry, entry_tests, every, insts, limit_tests, limits_ok}
use Rattle.definition.specs.Entry.{lowest_of, segment_ok, segment_tests, segments_ok, use_ok, use_tests, uses_ok}
use Rattle.definition.proofs.Fits.{UsesFit, SegsFit}
use Rattle.definition.proofs.Places.{All, all_map}

pub and_both : (a b : Bool) → (a && b) ≡ true → (a ≡ true) × (b ≡ true)
and_both true b e = (refl, e)
and_both false b e = let z : ◌≡◌ {A = ℕ} 0 1 = cc in absurd (omega arith)

-- what a list of tests says of each
pub conj_all : (bs : List Bool) → conj bs ≡ true → All (λ b. b ≡ true) bs
unfolding conj
conj_all [] e = tt
conj_all (b ∷ bs) e = let a = and_both b (conj bs) e in (a.0, conj_all bs a.1)

-- what a test over a table says of each entry
pub every_all : {A : Type 0} (f : A → Bool) (xs : List A) → every f xs ≡ true → All (λ x. f x ≡ true) xs
unfolding every
every_all f [] e = tt
every_all f (x ∷ xs) e = let b = and_both (f x) (every f xs) e in (b.0, every_all f xs b.1)

module _ (job : Job) where
  -- ---- the uses of one segment

  use_fits : (s : Segment) (u : Use) → use_ok job s u ≡ true → (s.«from».0 < 4 * u.pos.0 + 4) × ((end_point u).0 ≤ s.to.0)
  unfolding use_ok
  use_fits s u e = let a = conj_all (use_tests job s u) e in (ltb-true _ _ a.1.1.0, leb-true _ _ a.1.1.1.0)

  abbrev rises : Use → Use → Bool
  rises u w = leb u.pos.0 w.pos.0

  uses_fit : (s : Segment) (l : ℕ) (u : Use) (us : List Use) → l ≤ u.pos.0 → All (λ w. use_ok job s w ≡ true) (u ∷ us) → chained rises (u ∷ us) ≡ true
      → UsesFit l s.«from».0 s.to.0 (u ∷ us)
  unfolding chained
  uses_fit s l u [] h k c = let f = use_fits s u k.0 in (h, f.0, f.1, tt)
  uses_fit s l u (w ∷ us) h k c =
      let f = use_fits s u k.0 in
      let d = and_both (rises u w) (chained rises (w ∷ us)) c in
      (h, f.0, f.1, uses_fit s u.pos.0 w us (leb-true _ _ d.0) k.1 d.1)

  list_fit : (s : Segment) (us : List Use) → All (λ w. use_ok job s w ≡ true) us → chained rises us ≡ true → UsesFit 0 s.«from».0 s.to.0 us
  list_fit s [] k c = tt
  list_fit s (u ∷ us) k c = uses_fit s 0 u us (omega arith) k c

  abbrev pub Good : Segment → Type 0
  Good s = (s.«from».0 < s.to.0) × UsesFit 0 s.«from».0 s.to.0 s.uses

  pub segment_good : (s : Segment) → segment_ok job s ≡ true → uses_ok job s ≡ true → Good s
  unfolding segment_ok uses_ok
  segment_good s e f =
      let a = conj_all (segment_tests job s) e in
      let b = and_both (every (use_ok job s) s.uses) (chained rises s.uses) f in
      (ltb-true _ _ a.0, list_fit s s.uses (every_all (use_ok job s) s.uses b.0) b.1)

  -- ---- the sets

  pub next_to : (s t : Segment) → in_order job s t ≡ true → same_set job s t ≡ true → s.to.0 ≤ t.«from».0
  unfolding in_order
  next_to s t e f = go (ltb (set_of job s.value).0 (set_of job t.value).0) refl e
    where
      go : (b : Bool) → ltb (set_of job s.value).0 (set_of job t.value).0 ≡ b → (b || (same_set job s t && leb s.to.0 t.«from».0)) ≡ true → s.to.0 ≤ t.«from».0
      go true a d =
          let l : (set_of job s.value).0 < (set_of job t.value).0 = ltb-true _ _ a in
          let q : (set_of job s.value).0 ≡ (set_of job t.value).0 = eqb-true _ _ f in
          absurd (omega arith)
      go false a d = leb-true _ _ (and_both (same_set job s t) (leb s.to.0 t.«from».0) d).1

  -- a run's first segment may start later
  pub from_on : (q : ℕ) (s : Segment) (ss : List Segment) → q ≤ s.«from».0 → SegsFit 0 (s ∷ ss) → SegsFit q (s ∷ ss)
  from_on q s ss h k = (h, k.1, k.2, k.3)

  runs_fit : (ss : List Segment) → All Good ss → chained (in_order job) ss ≡ true → All (SegsFit 0) (runs (same_set job) ss)
  unfolding runs chained
  runs_fit [] g c = tt
  runs_fit (s ∷ []) g c = ((omega arith, g.0.0, g.0.1, tt), tt)
  runs_fit (s ∷ t ∷ ss) g c =
      let d = and_both (in_order job s t) (chained (in_order job) (t ∷ ss)) c in
      put (runs (same_set job) ss) d.0 (runs_fit (t ∷ ss) g.1 d.1)
    where
      join : (cs : List Segment) (ds : List (List Segment)) → in_order job s t ≡ true → SegsFit 0 (t ∷ cs) → All (SegsFit 0) ds
          → (b : Bool) → same_set job s t ≡ b → All (SegsFit 0) (cond b ((s ∷ t ∷ cs) ∷ ds) ((s ∷ []) ∷ (t ∷ cs) ∷ ds))
      join cs ds e k a true f = ((omega arith, g.0.0, g.0.1, from_on s.to.0 t cs (next_to s t e f) k), a)
      join cs ds e k a false f = ((omega arith, g.0.0, g.0.1, tt), (k, a))

      put : (rs : List (List Segment)) → in_order job s t ≡ true → All (SegsFit 0) (onto (same_set job) t rs) → All (SegsFit 0) (onto (same_set job) s (onto (same_set job) t rs))
      put [] e k = join [] [] e k.0 tt (same_set job s t) refl
      put ([] ∷ ds) e k = join [] ds e k.0 k.1 (same_set job s t) refl
      put ((c ∷ cs) ∷ ds) e k = pick (same_set job t c) k
        where
          pick : (b : Bool) → All (SegsFit 0) (cond b ((t ∷ c ∷ cs) ∷ ds) ((t ∷ []) ∷ (c ∷ cs) ∷ ds))
              → All (SegsFit 0) (onto (same_set job) s (cond b ((t ∷ c ∷ cs) ∷ ds) ((t ∷ []) ∷ (c ∷ cs) ∷ ds)))
          pick true a = join (c ∷ cs) ds e a.0 a.1 (same_set job s t) refl
          pick false a = join [] ((c ∷ cs) ∷ ds) e a.0 a.1 (same_set job s t) refl

  pub sets_fit : segments_ok job ≡ true → every (uses_ok job) job.segments ≡ true → All (SegsFit 0) (runs (same_set job) job.segments)
  unfolding segments_ok
  sets_fit e f =
      let a = and_both (every (segment_ok job) job.segments) (chained (in_order job) job.segments) e in
      runs_fit job.segments (goods job.segments (every_all (segment_ok job) job.segments a.0) (every_all (uses_ok job) job.segments f)) a.1
    where
      goods : (ss : List Segment) → All (λ s. segment_ok job s ≡ true) ss → All (λ s. uses_ok job s ≡ true) ss → All Good ss
      goods [] g h = tt
      goods (s ∷ ss) g h = (segment_good s g.0 h.0, goods ss g.1 h.1)

-- no number is given: all tests pass
passed : (b : Bool) (r : Refusal) (o : Option Refusal) → cond b o (some r) ≡ none → (b ≡ true) × (o ≡ none)
passed true r o e = (refl, e)
passed false r o e = let z : ◌≡◌ {A = ℕ} 0 1 = cc in absurd (omega arith)

pub lowest_none : (ts : List (Bool × Refusal)) → lowest_of ts ≡ none → All (λ t. t.0 ≡ true) ts
unfolding lowest_of
lowest_none [] e = tt
lowest_none (t ∷ ts) e = let p = passed t.0 t.1 (lowest_of ts) e in (p.0, lowest_none ts p.1)

-- a job that gets no entry number: each set's segments fit
pub accepted_fit : (job : Job) → entry job ≡ none → All (SegsFit 0) (runs (same_set job) job.segments)
unfolding entry
accepted_fit job e =
    let a = lowest_none (entry_tests job) e in
    sets_fit job a.1.1.1.1.0 a.1.1.1.1.1.0

-- and ends within the instructions
pub segment_ends : (job : Job) (s : Segment) → segment_ok job s ≡ true → s.to.0 ≤ 4 * insts job
unfolding segment_ok
segment_ends job s e = leb-true _ _ (conj_all (segment_tests job s) e).1.1.1.1.0

pub accepted_ends : (job : Job) → entry job ≡ none → All (λ s. s.to.0 ≤ 4 * insts job) job.segments
unfolding entry segments_ok
accepted_ends job e =
    all_map _ (λ s. s.to.0 ≤ 4 * insts job) (segment_ends job) job.segments
    (every_all (segment_ok job) job.segments (and_both _ _ (lowest_none (entry_tests job) e).1.1.1.1.0).0)

-- ---- the limits of an accepted job

limits_pass : (job : Job) → entry job ≡ none → All (λ b. b ≡ true) (limit_tests job)
unfolding entry limits_ok
limits_pass job e = conj_all (limit_tests job) (lowest_none (entry_tests job) e).0

pub accepted_insts : (job : Job) → entry job ≡ none → insts job ≤ 4096
accepted_insts job e = leb-true _ _ (limits_pass job e).0

pub accepted_blocks : (job : Job) → entry job ≡ none → length job.blocks ≤ 512
accepted_blocks job e = leb-true _ _ (limits_pass job e).1.0

pub accepted_adjust : (job : Job) → entry job ≡ none → job.options.adjust ≤ 65535
accepted_adjust job e = leb-true _ _ (limits_pass job e).1.1.1.1.1.1.1.1.1.1.1.0
