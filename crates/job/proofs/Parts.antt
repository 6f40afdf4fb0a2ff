-- The parts of the work slice lie apart. Assumes nothing.
use Prim.Native.Nat.{ℕ, ◌-◌, ◌≤◌}
use native.Mathlib.Omega.{arith}
use mathlib.Core.Path.{◌≡◌}
use Rattle.job.specs.declared.Layout.{Layout}
use Rattle.job.specs.declared.work.WorkLayout.{WorkLayout}
use Rattle.job.specs.Regions.{max_work, work_layout_of, Regions}

pub regions_of : (lay : Layout) (n : ℕ) → n ≤ 4096 → lay.operands.n ≤ 1024 → lay.blocks.n ≤ 512 → lay.uses.n ≤ 4096 → Regions max_work lay n (work_layout_of lay n)
unfolding work_layout_of
regions_of lay n a b c d =
    record { heads = omega arith; nexts = omega arith; mapping = omega arith; starts = omega arith; marks = omega arith; turned = omega arith }

-- a longer slice has them too
pub regions_wide : {w v n : ℕ} {lay : Layout} {wl : WorkLayout} → w ≤ v → Regions w lay n wl → Regions v lay n wl
regions_wide h r = record { heads = r.heads; nexts = r.nexts; mapping = r.mapping; starts = r.starts; marks = r.marks; turned = omega (arith, r.turned) }

-- there are as many heads as instructions
pub heads_are : {w n : ℕ} {lay : Layout} {wl : WorkLayout} → Regions w lay n wl → wl.nexts - wl.heads ≡ n
heads_are r = omega (arith, r.heads)
