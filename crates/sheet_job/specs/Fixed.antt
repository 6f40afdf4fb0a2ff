-- The layout of the reader's table. Assumes nothing.
use Rattle.std.specs.Prelude.{ℕ, List, get_or}
use Rattle.job.specs.declared.Table.{Table}
use Rattle.job.specs.declared.Layout.{Layout}

unfoldable pub table_at : List ℕ → ℕ → ℕ → Table
table_at W i at = record { at = at; n = get_or W i 0 }

unfoldable pub fixed_layout : List ℕ → Layout
unfolding table_at
fixed_layout W = record {
  opts = 10;
  banks = table_at W 0 14;
  classes = table_at W 1 22;
  regs = table_at W 2 150;
  blocks = table_at W 3 406;
  values = table_at W 4 1430;
  vgroups = table_at W 5 4502;
  operands = table_at W 6 6806;
  hints = table_at W 7 10902;
  segments = table_at W 8 13974;
  uses = table_at W 9 19094;
}
