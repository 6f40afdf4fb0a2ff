-- What stays where only words of the mapping change. Assumes nothing.
use mathlib.Core.Path.{◌≡◌, refl, ◌∙◌}
use mathlib.Core.Bool.{Bool, true, false, cond}
use mathlib.Core.List.{List}
use Prim.Native.Nat.{ℕ, ◌+◌, ◌*◌, ◌<◌}
use native.Mathlib.Omega.{arith}
use lib.Dec.{eqb}
use lib.ListN.{get_or}
use Rattle.definition.specs.declared.Use.{Use}
use Rattle.definition.specs.Build.{turned_use}
use Rattle.job.specs.declared.Layout.{Layout}
use Rattle.uses.specs.Rows.{use_row}
use Rattle.job.specs.Job.{job_of}
use Rattle.set_part.specs.Part.{marked_use}
use Rattle.job.specs.declared.work.WorkLayout.{WorkLayout}
use Rattle.constraints.specs.Ready.{BackedAsk, Backed, Ready}
use Rattle.constraints.proofs.Kept as kept
use Rattle.pieces.specs.Maps.{MapApart, Outside}

pub outside_none : (lay : Layout) (wl : WorkLayout) (K : List ℕ) → Outside lay wl K K
outside_none lay wl K = record { long = refl; before = λ j h. refl; behind = λ j h. refl }

pub outside_then : (lay : Layout) (wl : WorkLayout) (K K₁ K₂ : List ℕ) → Outside lay wl K K₁ → Outside lay wl K₁ K₂ → Outside lay wl K K₂
outside_then lay wl K K₁ K₂ a b =
    record { long = b.long ∙ a.long; before = λ j h. b.before j h ∙ a.before j h; behind = λ j h. b.behind j h ∙ a.behind j h }

module _ (lay : Layout) (wl : WorkLayout) (K K' : List ℕ) (o : Outside lay wl K K') (m : MapApart lay wl) where
  -- a use under its mark
  pub marked_kept : (W : List ℕ) (n : ℕ) → marked_use K' wl.marks W lay n ≡ marked_use K wl.marks W lay n
  unfolding marked_use
  marked_kept W n = rw (o.behind (wl.marks + n) (omega (arith, m.marks)))

  -- the index and the table of block starts are where they were
  pub ready_kept : (t w : ℕ) (W : List ℕ) → Ready t w W K lay wl → Ready t w W K' lay wl
  ready_kept t w W r =
      kept.ready_kept K' r (λ i h. o.before (wl.heads + i) (omega (arith, r.index.apart, m.index))) (λ i h. o.before (wl.nexts + i) (omega (arith, m.index)))
      (λ i h. o.behind (wl.starts + i) (omega (arith, m.starts)))

-- a turned use needs no operand
pub backed_marked : (t w : ℕ) (W K : List ℕ) (lay : Layout) (wl : WorkLayout) (n : ℕ) (u : Use) → Ready t w W K lay wl → 0 < lay.segments.n → n < lay.uses.n → u ≡ marked_use K wl.marks W lay n
    → Backed (job_of W lay) u
unfolding marked_use Backed BackedAsk
backed_marked t w W K lay wl n u r l h e = rw e (go (eqb (get_or K (wl.marks + n) 0) 0))
  where
    go : (b : Bool) → Backed (job_of W lay) (cond b (use_row W (lay.uses.at + n * 6)) (turned_use (use_row W (lay.uses.at + n * 6))))
    go true = r.backed l n h
    go false = tt
