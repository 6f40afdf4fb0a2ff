-- Set after set. Assumes nothing.
use mathlib.Core.Path.{◌≡◌, refl, sym, ap, ◌∙◌, subst}
use mathlib.Core.List.{List, ◌∷◌}
use Prim.Native.Nat.{ℕ, ◌/◌, ◌≤◌, ◌<◌}
use lib.ListN.{length}
use Rattle.words.specs.Words.{word_count}
use Rattle.definition.specs.Types.{Job, State, Out}
use Rattle.definition.specs.Place.{◌>>=◌, total, pieces_in, uses_in, uses_of, empty}
use Rattle.definition.specs.Build.{runs, same_set, build_set}
use Rattle.job.specs.declared.Layout.{Layout}
use Rattle.job.specs.Layout.{seg_at}
use Rattle.job.specs.Job.{job_of}
use Rattle.virt_regs.specs.declared.OutLayout.{OutLayout}
use Rattle.virt_regs.specs.declared.Counts.{Counts}
use Rattle.virt_regs.specs.Encoding.{room_of, counts_of}
use Rattle.job.specs.declared.work.WorkLayout.{WorkLayout}
use Rattle.std.specs.Prelude.{Ok, Err}
use Rattle.placing.specs.declared.end.NotPlaced.{NotPlaced}
use Rattle.placing.specs.EndEnds.{Placed}
use Rattle.steps.specs.Builds.{Builds}
use Rattle.steps.specs.Fits.{StandsAs}
use Rattle.set_runs.specs.Sets.{segs_from}
use Rattle.build.specs.Begun.{Begun, Onward}
use Rattle.build.specs.Loop.{build_from, build_ends, build_set_lem}
use Rattle.conflicts.specs.Conflicts.{EndsAs}
use Rattle.conflicts.proofs.Going.{ended_state, ended_not}
use Rattle.build.specs.SetsSets.{SetReady, SetsReady}

-- the empty state has no rows
no_counts : record { regs = 0; segs = 0; uses = 0; groups = 0 } ≡ counts_of empty
unfolding pieces_in uses_in total uses_of
no_counts = refl

-- The sets of segments before a are built: those from a on, from the state that the slices stand for now, give the whole answer.
pub record Setting (t w o : ℕ) (W : List ℕ) (lay : Layout) (wl : WorkLayout) (ol : OutLayout) (K O : List ℕ) (a : ℕ) (c : Counts) : Type 0 where
  pub begun : Begun w W lay wl
  pub builds : Builds o W lay ol
  pub onward : a < lay.segments.n → Onward t w W K lay wl (seg_at W lay a).first
  pub st : State
  pub stands : StandsAs (job_of W lay) ol O W K lay wl c st
  pub same : build_from W lay (room_of ol) 0 empty ≡ build_from W lay (room_of ol) a st

module _ (t w o : ℕ) (W : List ℕ) (lay : Layout) (wl : WorkLayout) (ol : OutLayout) (K O : List ℕ) where
  pub setting_start : SetsReady t w o W K O lay wl ol → Setting t w o W lay wl ol K O 0 (record { regs = 0; segs = 0; uses = 0; groups = 0 })
  setting_start g =
      record {
        begun = g.begun;
        builds = g.builds;
        onward = g.onward;
        st = empty;
        stands = subst (λ (n : Counts). StandsAs (job_of W lay) ol O W K lay wl n empty) (sym no_counts) g.stands;
        same = refl;
      }

  module _ (a : ℕ) (c : Counts) (v : Setting t w o W lay wl ol K O a c) where
    abbrev J : Job
    J = job_of W lay

    -- the next set, segments a to b - 1
    module _ (b : ℕ) (lo : a < b) (hi : b ≤ lay.segments.n) (q : runs (same_set (job_of W lay)) (segs_from W lay a lay.segments.n) ≡ segs_from W lay a b ∷ runs (same_set (job_of W lay)) (segs_from W lay b lay.segments.n))
        (m : a < lay.segments.n) where
      pub setting_set : SetReady t w o W K O lay wl ol a b c
      setting_set = record { begun = v.begun; builds = v.builds; onward = v.onward m; some_seg = lo; within = hi; first = q; st = v.st; stands = v.stands }

      -- with the answer e and the words K₁ and O₁ then
      module _ (K₁ O₁ : List ℕ) (e : Placed)
          (k : (st : State) → StandsAs (job_of W lay) ol O W K lay wl c st → EndsAs (job_of W lay) ol W lay wl O₁ K₁ e (build_set (job_of W lay) (room_of ol) (segs_from W lay a b) st)) where
        way : build_from W lay (room_of ol) 0 empty ≡ (build_set J (room_of ol) (segs_from W lay a b) v.st >>= λ st. build_from W lay (room_of ol) b st)
        way = v.same ∙ build_set_lem W lay (room_of ol) a b v.st q

        pub setting_next : (c₁ : Counts) → e ≡ Ok c₁ → (b < lay.segments.n → Onward t w W K₁ lay wl (seg_at W lay b).first) → Setting t w o W lay wl ol K₁ O₁ b c₁
        setting_next c₁ h on =
            let x = ended_state J ol W lay wl O₁ K₁ e (build_set J (room_of ol) (segs_from W lay a b) v.st) c₁ (k v.st v.stands) h in
            record {
              begun = v.begun;
              builds = v.builds;
              onward = on;
              st = x.0;
              stands = x.2;
              same = way ∙ ap (λ (y : Out State). y >>= λ st. build_from W lay (room_of ol) b st) x.1;
            }

        pub setting_stop : (u : NotPlaced) → e ≡ Err u → (x : Placed) → x ≡ Err u → EndsAs (job_of W lay) ol W lay wl O₁ K₁ x (build_from W lay (room_of ol) 0 empty)
        setting_stop u h x i =
            subst (λ (y : Placed). EndsAs J ol W lay wl O₁ K₁ y (build_from W lay (room_of ol) 0 empty)) (sym i)
            (subst (λ (y : Out State). EndsAs J ol W lay wl O₁ K₁ (Err u) y) (sym way)
            (ended_not J ol W lay wl O₁ K₁ e (build_set J (room_of ol) (segs_from W lay a b) v.st) (λ st. build_from W lay (room_of ol) b st) u (k v.st v.stands) h))

    -- no segment is left
    pub setting_end : lay.segments.n ≤ a → (e : Placed) → e ≡ Ok c → EndsAs (job_of W lay) ol W lay wl O K e (build_from W lay (room_of ol) 0 empty)
    unfolding EndsAs
    setting_end l e h =
        subst (λ (y : Placed). EndsAs J ol W lay wl O K y (build_from W lay (room_of ol) 0 empty)) (sym h)
        (subst (λ (y : Out State). EndsAs J ol W lay wl O K (Ok c) y) (sym (v.same ∙ build_ends W lay (room_of ol) a v.st l)) v.stands)

-- slices keep their lengths
pub set_now : (t : ℕ) (W K O : List ℕ) (lay : Layout) (wl : WorkLayout) (ol : OutLayout) (a b : ℕ) (c : Counts) (s₀ s p₀ p : List ℕ) → length s ≡ length s₀ → length p ≡ length p₀
    → SetReady t (word_count s₀) (word_count p₀) W K O lay wl ol a b c → SetReady t (word_count s) (word_count p) W K O lay wl ol a b c
set_now t W K O lay wl ol a b c s₀ s p₀ p e f g =
    subst (λ (n : ℕ). SetReady t (n / 4) (length p / 4) W K O lay wl ol a b c) (sym e) (subst (λ (n : ℕ). SetReady t (length s₀ / 4) (n / 4) W K O lay wl ol a b c) (sym f) g)

pub onward_now : (t : ℕ) (W K : List ℕ) (lay : Layout) (wl : WorkLayout) (f m : ℕ) (s₀ s : List ℕ) → length s ≡ length s₀
    → (m < lay.segments.n → Onward t (word_count s) W K lay wl f) → m < lay.segments.n → Onward t (word_count s₀) W K lay wl f
onward_now t W K lay wl f m s₀ s e h l = subst (λ (n : ℕ). Onward t (n / 4) W K lay wl f) e (h l)
