-- The segment that a use belongs to. Assumes nothing.
use Rattle.std.specs.Prelude.{ℕ, ◌≤◌, ◌<◌, List}
use Rattle.job.specs.declared.Layout.{Layout}
use Rattle.job.specs.Layout.{seg_at, next_use}

-- use number u is one of segment `seg`
pub record Owner (W : List ℕ) (lay : Layout) (u : ℕ) : Type 0 where
  pub seg : ℕ
  pub known : seg < lay.segments.n
  pub first : (seg_at W lay seg).first ≤ u
  pub next : u < next_use W lay seg
