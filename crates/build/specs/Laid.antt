-- Each set of an accepted job is laid out for the builder's steps. Assumes nothing.
use Rattle.std.specs.Prelude.{ℕ, suc, ◌+◌, ◌-◌, ◌≤◌, ◌<◌, ◌≡◌, refl, Bool, true, false, List, [], ◌∷◌, length}
use native.Mathlib.Omega.{arith}
use Rattle.std.proofs.Common.{sym, ap, subst, ◌∙◌}
use Rattle.definition.specs.declared.Use.{Use}
use Rattle.definition.specs.Types.{Segment}
use Rattle.definition.specs.Uses.{is_class_use}
use Rattle.definition.specs.Place.{uses_of}
use Rattle.definition.specs.Build.{one, class_uses, runs, same_set}
use Rattle.job.specs.declared.Layout.{Layout}
use Rattle.job.specs.Layout.{seg_at, next_use}
use Rattle.job.specs.Job.{job_of}
use Rattle.set_part.specs.Part.{PartOk, part_segs, whole_part}
use Rattle.set_part.proofs.Bounds.{first_le_end}
use Rattle.set_part.proofs.Uses.{part_count}
use Rattle.set_part.proofs.Whole as whole
use Rattle.job.specs.declared.work.WorkLayout.{WorkLayout}
use Rattle.steps.specs.Laid.{SegsFair, uses_left, Laid}
use Rattle.steps.specs.Built.{Changed}
use Rattle.build.specs.Begun.{Begun, Onward, KeptFrom, kept_changed, kept_then, onward_kept}
use Rattle.set_runs.specs.Sets.{segs_from}
use Rattle.build.specs.BeginSets.{set_fair}

class_few : (us : List Use) → class_uses us ≤ length us
unfolding class_uses
class_few [] = omega arith
class_few (u ∷ us) = go (is_class_use u.kind) (class_few us)
  where
    go : (b : Bool) → class_uses us ≤ length us → one b + class_uses us ≤ suc (length us)
    go true h = omega arith
    go false h = omega arith

module _ {w : ℕ} {W : List ℕ} {lay : Layout} {wl : WorkLayout} (g : Begun w W lay wl) (a b : ℕ) (h : a < b) (l : b ≤ lay.segments.n) where
  whole_ends : ((whole_part W lay a b).first ≡ (seg_at W lay a).first) × ((whole_part W lay a b).end ≡ next_use W lay (b - 1))
  unfolding whole_part
  whole_ends = (refl, refl)

  pub whole_part_lem : PartOk W lay (whole_part W lay a b)
  whole_part_lem = whole.whole_ok W lay a b h l g.counts

  -- its segments, where none of its uses is marked
  pub whole_segs : {t : ℕ} {K : List ℕ} → Onward t w W K lay wl (seg_at W lay a).first → part_segs K wl.marks W lay (whole_part W lay a b) ≡ segs_from W lay a b
  unfolding segs_from
  whole_segs {t} {K} o =
      whole.whole_segs W lay a b h l K wl.marks g.counts (λ j x y. o.marks j x (omega (arith, y, g.counts.within (b - 1) (omega arith))))

  few : (K : List ℕ) → uses_left W K lay wl (whole_part W lay a b) ≤ lay.uses.n
  unfolding uses_left
  few K =
      omega (
        arith,
        class_few (uses_of (part_segs K wl.marks W lay (whole_part W lay a b))),
        part_count K wl.marks W lay (whole_part W lay a b) whole_part_lem,
        whole_part_lem.fits,
      )

  -- The set of segments a to b - 1, the first of those from a on, is laid out for the steps, with no row of a turned use.
  pub laid : {t : ℕ} {K : List ℕ} (rest : List (List Segment)) → Onward t w W K lay wl (seg_at W lay a).first
      → runs (same_set (job_of W lay)) (segs_from W lay a lay.segments.n) ≡ segs_from W lay a b ∷ rest → Laid t w W K lay wl (whole_part W lay a b) 0
  laid {t} {K} rest o q =
      record {
        ready = o.ready;
        mapping = g.mapping;
        turns = g.turns;
        hints = g.hints;
        ok = whole_part_lem;
        fair = subst (λ (ss : List Segment). SegsFair (job_of W lay) ss) (sym (whole_segs o)) (set_fair W lay g.accepted a b rest h l q);
        rows = record { order = omega arith; within = omega (arith, g.turns.room); known = λ k x y. absurd (omega arith) };
        left = omega (arith, few K);
      }

  -- What is left for the next set, whose first use is the first behind this one's: the steps changed this part, and what came behind them kept it.
  pub onward_next : {t : ℕ} {K K₁ K₂ : List ℕ} {n : ℕ} → Onward t w W K lay wl (seg_at W lay a).first → Changed lay wl (whole_part W lay a b) n K K₁
      → KeptFrom wl (next_use W lay (b - 1)) K₁ K₂ → Onward t w W K₂ lay wl (next_use W lay (b - 1))
  onward_next {t} {K} {K₁} {K₂} {n} o c k =
      let m = subst (λ (f : ℕ). KeptFrom wl f K K₁) whole_ends.1 (kept_changed g (whole_part W lay a b) n K K₁ c) in
      onward_kept g t (seg_at W lay a).first (next_use W lay (b - 1)) K K₂ (omega (arith, first_le_end W lay (whole_part W lay a b) whole_part_lem, whole_ends.0, whole_ends.1)) (kept_then wl (next_use W lay (b - 1)) K K₁ K₂ m k) o

  -- which is segment b's first use, if there is a segment b
  pub next_first : b < lay.segments.n → next_use W lay (b - 1) ≡ (seg_at W lay b).first
  next_first m = let e : b - 1 + 1 ≡ b = omega arith in whole.next_inner W lay (b - 1) (omega arith) ∙ ap (λ (i : ℕ). (seg_at W lay i).first) e

  -- what a loop carries: wherever a set begins, this holds of its first use
  pub onward_set : {t : ℕ} {K K₁ K₂ : List ℕ} {n : ℕ} → Onward t w W K lay wl (seg_at W lay a).first → Changed lay wl (whole_part W lay a b) n K K₁
      → KeptFrom wl (next_use W lay (b - 1)) K₁ K₂ → b < lay.segments.n → Onward t w W K₂ lay wl (seg_at W lay b).first
  onward_set {t} {K} {K₁} {K₂} o c k m = subst (λ (f : ℕ). Onward t w W K₂ lay wl f) (next_first m) (onward_next o c k)
