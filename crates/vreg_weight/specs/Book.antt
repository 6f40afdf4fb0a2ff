-- What the entry rules say of the words of a job that weights are made from: costs and scales at most 2^20, by their bits, and k at most 65535. Assumes nothing.
use Rattle.std.specs.Prelude.{ℕ, ◌+◌, ◌*◌, ◌≤◌, ◌<◌, List, get_or}
use Rattle.job.specs.declared.Layout.{Layout}

pub record SmallBook (W : List ℕ) (lay : Layout) : Type 0 where
  pub adjust : get_or W lay.opts 0 ≤ 65535
  pub move : get_or W (lay.opts + 1) 0 ≤ 0x4980_0000
  pub load : get_or W (lay.opts + 2) 0 ≤ 0x4980_0000
  pub indirect : get_or W (lay.opts + 3) 0 ≤ 0x4980_0000
  pub costs : (c : ℕ) → c < lay.classes.n → get_or W (lay.classes.at + c * 4 + 1) 0 ≤ 0x4980_0000
