-- The segments of a job by number, and the sets among them: what the entry rules say of each set. Assumes nothing.
use Rattle.std.specs.Prelude.{ℕ, ◌+◌, ◌-◌, ◌*◌, ◌≤◌, ◌<◌, ◌≡◌, refl, Bool, true}
use native.Mathlib.Omega.{arith}
use Rattle.std.proofs.Common.{sym, subst, ◌∙◌}
use Rattle.std.proofs.Math.Path.{ap}
use Rattle.std.proofs.Math.Option.{none}
use mathlib.Core.List.{List, [], ◌∷◌, ◌++◌}
use Rattle.words.specs.Tab.{tab, tab_done, tab_append}
use Rattle.definition.specs.Types.{Segment, Job}
use Rattle.definition.specs.RegInfo.{set_of}
use Rattle.definition.specs.Build.{runs, same_set}
use Rattle.definition.specs.Entry.{in_order, chained, every, entry, entry_tests, segment_ok, segments_ok}
use Rattle.definition.proofs.Places.{All, all_split}
use Rattle.definition.proofs.Entries.{and_both, lowest_none, Good}
use Rattle.definition.proofs.Fits.{SegsFit}
use Rattle.definition.proofs.Rises.{Rise, runs_rise}
use Rattle.definition.proofs.Admission.{UseFits, SegFits}
use Rattle.uses.specs.Rows.{use_row}
use Rattle.job.specs.declared.Layout.{Layout}
use Rattle.job.specs.Layout.{segment_of}
use Rattle.job.specs.Job.{job_of}
use Rattle.virt_regs.specs.Each.{Each, each_front, each_back}
use Rattle.vreg_weight.specs.Sorted.{fit_sorted}
use Rattle.vreg_weight.specs.Sound.{Sound, all_each, each_uses, accepted_sound}
use Rattle.set_runs.specs.Sets.{segs_from, all_segs, first_seg}
use Rattle.steps.specs.Laid.{SegsFair}
use Rattle.build.specs.Rules.{accepted_kinds, accepted_good, accepted_ends}

-- segment i of the job with the words W
abbrev pub job_seg : List ℕ → Layout → ℕ → Segment
job_seg W lay i = segment_of use_row W lay i

module _ (W : List ℕ) (lay : Layout) where
  pub segs_none : (a b : ℕ) → b ≤ a → segs_from W lay a b ≡ []
  unfolding segs_from
  segs_none a b h = tab_done (segment_of use_row W lay) a b h

  pub segs_split : (a b c : ℕ) → a ≤ b → b ≤ c → segs_from W lay a c ≡ segs_from W lay a b ++ segs_from W lay b c
  unfolding segs_from
  segs_split a b c h l =
      let e : c - a ≡ (b - a) + (c - b) = omega arith in
      let g : a + (b - a) ≡ b = omega arith in
      ap (λ (k : ℕ). tab (segment_of use_row W lay) a k) e ∙ tab_append (segment_of use_row W lay) a (b - a) (c - b)
      ∙ ap (λ (k : ℕ). tab (segment_of use_row W lay) a (b - a) ++ tab (segment_of use_row W lay) k (c - b)) g

  -- the job's segments before a, from a to b, and from b on
  pub job_split : (a b : ℕ) → a ≤ b → b ≤ lay.segments.n → (job_of W lay).segments ≡ segs_from W lay 0 a ++ (segs_from W lay a b ++ segs_from W lay b lay.segments.n)
  job_split a b h l =
      sym (all_segs W lay) ∙ segs_split 0 a lay.segments.n (omega arith) (omega arith)
      ∙ ap (λ (ss : List Segment). segs_from W lay 0 a ++ ss) (segs_split a b lay.segments.n h l)

  -- what is so for all of the job's is so for these
  pub all_from : (P : Segment → Type 0) (a b : ℕ) → a ≤ b → b ≤ lay.segments.n → All P (job_of W lay).segments → All P (segs_from W lay a b)
  all_from P a b h l p =
      let q = subst (λ (ss : List Segment). All P ss) (job_split a b h l) p in
      (all_split P (segs_from W lay a b) (segs_from W lay b lay.segments.n) (all_split P (segs_from W lay 0 a) (segs_from W lay a b ++ segs_from W lay b lay.segments.n) q).1).0

  each_from : (P : Segment → Type 0) (a b : ℕ) → a ≤ b → b ≤ lay.segments.n → Each P (job_of W lay).segments → Each P (segs_from W lay a b)
  each_from P a b h l p =
      each_front P (segs_from W lay a b) (segs_from W lay b lay.segments.n)
      (each_back P (segs_from W lay 0 a) (segs_from W lay a b ++ segs_from W lay b lay.segments.n) (subst (λ (ss : List Segment). Each P ss) (job_split a b h l) p))

-- ---- the order of the segments

-- a list whose elements are in order, without its first ones
chained_back : {A : Type 0} (f : A → A → Bool) (xs ys : List A) → chained f (xs ++ ys) ≡ true → chained f ys ≡ true
unfolding chained
chained_back f [] ys e = e
chained_back f (x ∷ []) [] e = refl
chained_back f (x ∷ []) (y ∷ ys) e = (and_both (f x y) (chained f (y ∷ ys)) e).1
chained_back f (x ∷ z ∷ xs) ys e = chained_back f (z ∷ xs) ys (and_both (f x z) (chained f (z ∷ (xs ++ ys))) e).1

-- the first set of those that rise
first_fits : (J : Job) (t : ℕ) (ss : List Segment) (rest : List (List Segment)) → Rise J t (ss ∷ rest) → SegsFit 0 ss
first_fits J t [] rest r = tt
first_fits J t (s ∷ ss) rest r = r.2

each_kinds : (J : Job) (ss : List Segment) → All (SegFits J) ss → Each (λ s. Each (UseFits J) s.uses) ss
unfolding Each
each_kinds J [] h = tt
each_kinds J (s ∷ ss) h = (all_each (UseFits J) s.uses h.0, each_kinds J ss h.1)

module _ (W : List ℕ) (lay : Layout) (e : entry (job_of W lay) ≡ none) where
  ordered : (a : ℕ) → a ≤ lay.segments.n → chained (in_order (job_of W lay)) (segs_from W lay a lay.segments.n) ≡ true
  unfolding entry segments_ok
  ordered a h =
      let c = (and_both (every (segment_ok (job_of W lay)) (job_of W lay).segments) (chained (in_order (job_of W lay)) (job_of W lay).segments) (lowest_none (entry_tests (job_of W lay)) e).1.1.1.1.0).1 in
      chained_back (in_order (job_of W lay)) (segs_from W lay 0 a) (segs_from W lay a lay.segments.n)
      (subst (λ (ss : List Segment). chained (in_order (job_of W lay)) ss ≡ true) (sym (all_segs W lay) ∙ segs_split W lay 0 a lay.segments.n (omega arith) h) c)

  -- the sets from segment a on rise
  pub sets_rise : (a : ℕ) → a < lay.segments.n → (t : ℕ) × Rise (job_of W lay) t (runs (same_set (job_of W lay)) (segs_from W lay a lay.segments.n))
  sets_rise a h =
      let J = job_of W lay in
      let m = first_seg W lay a lay.segments.n h in (
        (set_of J (segment_of use_row W lay a).value).0,
        subst (λ (ss : List Segment). Rise J (set_of J (segment_of use_row W lay a).value).0 (runs (same_set J) ss)) (sym m)
            (runs_rise J (segment_of use_row W lay a) (segs_from W lay (a + 1) lay.segments.n)
            (subst (λ (ss : List Segment). All (Good J) ss) m (all_from W lay (Good J) a lay.segments.n (omega arith) (omega arith) (accepted_good J e)))
            (subst (λ (ss : List Segment). chained (in_order J) ss ≡ true) m (ordered a (omega arith)))),
      )

  -- Segments a to b - 1 are the first set of those from a on: they can be placed.
  pub set_fair : (a b : ℕ) (rest : List (List Segment)) → a < b → b ≤ lay.segments.n
      → runs (same_set (job_of W lay)) (segs_from W lay a lay.segments.n) ≡ segs_from W lay a b ∷ rest → SegsFair (job_of W lay) (segs_from W lay a b)
  set_fair a b rest h l q =
      let J = job_of W lay in
      let r = sets_rise a (omega arith) in
      let fit = first_fits J r.0 (segs_from W lay a b) rest (subst (λ (rs : List (List Segment)). Rise J r.0 rs) q r.1) in
      record {
        fit = fit;
        kinds = each_uses (UseFits J) (segs_from W lay a b) (each_kinds J (segs_from W lay a b) (all_from W lay (SegFits J) a b (omega arith) l (accepted_kinds J e)));
        sound = each_uses (Sound J) (segs_from W lay a b) (each_from W lay (λ s. Each (Sound J) s.uses) a b (omega arith) l (accepted_sound W lay e));
        sorted =
            fit_sorted 0 4096 (segs_from W lay a b) fit
            (all_each (λ s. s.to.0 ≤ 4 * 4096) (segs_from W lay a b) (all_from W lay (λ s. s.to.0 ≤ 4 * 4096) a b (omega arith) l (accepted_ends J e)));
      }
