-- What the steps over a working part leave as it was. Assumes nothing.
use Rattle.std.specs.Prelude.{◌≡◌, List, ℕ, ◌+◌, ◌*◌, ◌≤◌, ◌<◌, length, get_or}
use Rattle.job.specs.declared.Layout.{Layout}
use Rattle.set_part.specs.declared.SetPart.{SetPart}
use Rattle.job.specs.declared.work.WorkLayout.{WorkLayout}

-- K' is K but for the mapping, the marks of the part's uses, and the turned rows from row n on
pub record Changed (lay : Layout) (wl : WorkLayout) (sp : SetPart) (n : ℕ) (K K' : List ℕ) : Type 0 where
  pub long : length K' ≡ length K
  pub before : (j : ℕ) → j < wl.mapping → get_or K' j 0 ≡ get_or K j 0
  pub until : (j : ℕ) → wl.mapping + lay.operands.n ≤ j → j < wl.marks + sp.first → get_or K' j 0 ≡ get_or K j 0
  pub behind : (j : ℕ) → wl.marks + sp.end ≤ j → j < wl.turned + n * 4 → get_or K' j 0 ≡ get_or K j 0
