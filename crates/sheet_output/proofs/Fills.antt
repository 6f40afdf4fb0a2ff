-- A page line by line. Assumes nothing.
use mathlib.Core.Path.{◌≡◌}
use mathlib.Core.Logic.{◌⊎◌}
use mathlib.Core.List.{List, []}
use Prim.Native.Nat.{ℕ, ◌≤◌, ◌<◌}
use lib.ListN.{length}
use Rattle.virt_regs.specs.declared.OutLayout.{OutLayout}
use Rattle.sheet_output.specs.declared.Cursor.{Cursor}
use Rattle.sheet_output.specs.Left.{rows_left}
use Rattle.sheet_output.specs.Pages.{Shows, Goes}

-- the first `at` bytes of B and what is left at the cursor c are what was left at c₀
pub record Filling (ol : OutLayout) (w : ℕ) (O : List ℕ) (regs groups : ℕ) (c₀ : Cursor) (c : Cursor) (at : ℕ) (B : List ℕ) : Type 0 where
  pub within : at ≤ length B
  pub shows : Shows ol w O regs groups c
  pub fewer : ((c ≡ c₀) × (at ≡ 0)) ⊎ (rows_left ol regs groups c < rows_left ol regs groups c₀)
  pub goes : Goes ol O regs groups c₀ 0 [] c at B
