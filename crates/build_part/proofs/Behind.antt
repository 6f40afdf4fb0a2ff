-- A step, and the steps over the part behind it: what both do together. Assumes nothing.
use mathlib.Core.Path.{◌≡◌, sym, ap, subst, ◌∙◌}
use mathlib.Core.List.{List}
use Prim.Native.Nat.{ℕ, ◌/◌, ◌≤◌}
use native.Mathlib.Omega.{arith}
use lib.ListN.{length}
use Rattle.words.specs.Words.{word_count, words_of}
use Rattle.definition.specs.declared.RegClass.{RegClass}
use Rattle.definition.specs.declared.ValueSet.{ValueSet}
use Rattle.definition.specs.Types.{Out, State}
use Rattle.definition.specs.Build.{Built}
use Rattle.job.specs.declared.Layout.{Layout}
use Rattle.job.specs.Job.{job_of}
use Rattle.set_part.specs.declared.SetPart.{SetPart}
use Rattle.virt_regs.specs.declared.Counts.{Counts}
use Rattle.virt_regs.specs.declared.OutLayout.{OutLayout}
use Rattle.job.specs.declared.work.WorkLayout.{WorkLayout}
use Rattle.pieces.specs.Conflict.{turned_rows_of, RowsOk}
use Rattle.steps.specs.Builds.{Builds}
use Rattle.std.specs.Prelude.{Result, Ok, Err, IfOk}
use Rattle.placing.specs.declared.end.NotPlaced.{NotPlaced}
use Rattle.build_part.specs.declared.StepsEnd.{StepsEnd}
use Rattle.steps.specs.Laid.{Laid}
use Rattle.steps.specs.Built.{Changed}
use Rattle.build_part.specs.declared.Step.{Step}
use Rattle.build_part.specs.declared.Step.TheVariants.{On, Over}
use Rattle.build_part.specs.Steps.{BuiltFit, BuildsTo, StepReady, Onward, turned_by, OnwardBy, Stepped, GoesOn, StepTo, StepsTo}
use Rattle.definition.proofs.Fuel.{run}
use Rattle.set_part.specs.Part.{part_segs}
use Rattle.virt_regs.specs.Encoding.{room_of}
use Rattle.steps.specs.Fits.{StandsAs}

-- changes within a part of the part
pub changed_on : (lay : Layout) (wl : WorkLayout) (sp sp₁ : SetPart) (n n₁ : ℕ) (K K₁ K₂ : List ℕ) → sp.first ≤ sp₁.first → sp₁.end ≡ sp.end → n ≤ n₁ → Changed lay wl sp n K K₁ → Changed lay wl sp₁ n₁ K₁ K₂
    → Changed lay wl sp n K K₂
changed_on lay wl sp sp₁ n n₁ K K₁ K₂ f e m a b = record {
  long = b.long ∙ a.long;
  before = λ j x. b.before j x ∙ a.before j x;
  until = λ j x y. b.until j x (omega arith) ∙ a.until j x y;
  behind = λ j x y. b.behind j (omega arith) (omega arith) ∙ a.behind j x y;
}

-- A step over the part sp, which left the slices out₁ and work₁.
module _ (job : List ℕ) (lay : Layout) (ol : OutLayout) (wl : WorkLayout) (vs : ValueSet) (top : RegClass) (out work : List ℕ) (sp : SetPart) (c : Counts) (n : ℕ) (out₁ work₁ : List ℕ) (r : Result Step NotPlaced)
    (f : Stepped (word_count job) (word_count work) (words_of job) (words_of work) (words_of work₁) lay wl sp n r)
    (g : StepsTo (words_of job) lay ol wl vs top (words_of out) (words_of work) sp c n (words_of out₁) (words_of work₁) r) (ew : length work₁ ≡ length work) where
  abbrev W : List ℕ
  W = words_of job

  words_same : word_count work ≡ word_count work₁
  words_same = ap (λ (k : ℕ). k / 4) (sym ew)

  -- it is the last one
  pub step_ends : (e : StepsEnd) → r ≡ Ok (Over e)
      → (Changed lay wl sp n (words_of work) (words_of work₁) × RowsOk (word_count work₁) (words_of work₁) wl.turned lay 0 e.turned)
      × BuildsTo W lay ol wl vs top (words_of out) (words_of work) sp c n (words_of out₁) (words_of work₁) (Ok e)
  unfolding StepTo
  step_ends e q =
      let rows : RowsOk (word_count work) (words_of work₁) wl.turned lay 0 e.turned = subst (λ (x : Result Step NotPlaced). IfOk x (λ y. RowsOk (word_count work) (words_of work₁) wl.turned lay 0 (turned_by y))) q f.rows in (
        (f.changed, subst (λ (k : ℕ). RowsOk k (words_of work₁) wl.turned lay 0 e.turned) words_same rows),
        λ st h. subst (λ (x : Result Step NotPlaced). StepTo W lay ol wl vs top (words_of out₁) (words_of work₁) x (run (job_of W lay) (room_of ol) vs top st (part_segs (words_of work) wl.marks W lay sp) (turned_rows_of (words_of work) wl.turned W lay 0 n))) q (g st h),
      )

  -- it is a stop
  pub step_fails : (v : NotPlaced) → r ≡ Err v → (e : Result StepsEnd NotPlaced) → e ≡ Err v
      → (Changed lay wl sp n (words_of work) (words_of work₁) × IfOk e (λ x. RowsOk (word_count work₁) (words_of work₁) wl.turned lay 0 x.turned))
      × BuildsTo W lay ol wl vs top (words_of out) (words_of work) sp c n (words_of out₁) (words_of work₁) e
  unfolding StepTo
  step_fails v q e i =
      subst (λ (y : Result StepsEnd NotPlaced).
      (Changed lay wl sp n (words_of work) (words_of work₁) × IfOk y (λ x. RowsOk (word_count work₁) (words_of work₁) wl.turned lay 0 x.turned))
      × BuildsTo W lay ol wl vs top (words_of out) (words_of work) sp c n (words_of out₁) (words_of work₁) y) (sym i) (
        (f.changed, tt),
        λ st h. subst (λ (x : Result Step NotPlaced). StepTo W lay ol wl vs top (words_of out₁) (words_of work₁) x (run (job_of W lay) (room_of ol) vs top st (part_segs (words_of work) wl.marks W lay sp) (turned_rows_of (words_of work) wl.turned W lay 0 n))) q (g st h),
      )

  -- the steps go on with the part p behind it
  module _ (p : SetPart) (k : Counts) (m : ℕ) (q : r ≡ Ok (On p k m)) where
    pub onward : Onward (word_count job) (word_count work) W (words_of work) (words_of work₁) lay wl sp n p m
    unfolding OnwardBy
    onward = subst (λ (x : Result Step NotPlaced). IfOk x (λ y. OnwardBy (word_count job) (word_count work) W (words_of work) (words_of work₁) lay wl sp n y)) q f.goes

    goes_on : (st : State) → StandsAs (job_of W lay) ol (words_of out) W (words_of work) lay wl c st
        → GoesOn W lay ol wl vs top (words_of out₁) (words_of work₁) p k m (run (job_of W lay) (room_of ol) vs top st (part_segs (words_of work) wl.marks W lay sp) (turned_rows_of (words_of work) wl.turned W lay 0 n))
    unfolding StepTo
    goes_on st h =
        subst (λ (x : Result Step NotPlaced). StepTo W lay ol wl vs top (words_of out₁) (words_of work₁) x (run (job_of W lay) (room_of ol) vs top st (part_segs (words_of work) wl.marks W lay sp) (turned_rows_of (words_of work) wl.turned W lay 0 n))) q (g st h)

    -- it is laid out
    pub behind_ready : StepReady (word_count job) (word_count work) (word_count out) W (words_of work) (words_of out) lay ol wl sp c n → length out₁ ≡ length out
        → StepReady (word_count job) (word_count work₁) (word_count out₁) W (words_of work₁) (words_of out₁) lay ol wl p k m
    behind_ready a eo =
        let s = goes_on a.state a.stands in
        let oc : word_count out ≡ word_count out₁ = ap (λ (j : ℕ). j / 4) (sym eo) in
        record {
          laid = subst (λ (j : ℕ). Laid (word_count job) j W (words_of work₁) lay wl p m) words_same onward.laid;
          builds = subst (λ (j : ℕ). Builds j W lay ol) oc a.builds;
          state = s.state;
          stands = s.stands;
        }

    -- it is built, and the slices are out₂ and work₂
    pub behind_built : (out₂ work₂ : List ℕ) (e : Result StepsEnd NotPlaced)
        → Changed lay wl p m (words_of work₁) (words_of work₂) × IfOk e (λ x. RowsOk (word_count work₂) (words_of work₂) wl.turned lay 0 x.turned)
        → BuildsTo W lay ol wl vs top (words_of out₁) (words_of work₁) p k m (words_of out₂) (words_of work₂) e
        → (Changed lay wl sp n (words_of work) (words_of work₂) × IfOk e (λ x. RowsOk (word_count work₂) (words_of work₂) wl.turned lay 0 x.turned))
        × BuildsTo W lay ol wl vs top (words_of out) (words_of work) sp c n (words_of out₂) (words_of work₂) e
    behind_built out₂ work₂ e x b =
        let o = onward in (
          (changed_on lay wl sp p n m (words_of work) (words_of work₁) (words_of work₂) o.first o.end o.more f.changed x.0, x.1),
          λ st h.
              let y = goes_on st h in
              subst (λ (z : Out Built). BuiltFit (job_of W lay) ol W lay wl (words_of out₂) (words_of work₂) e z) (sym y.same) (b y.state y.stands),
        )
