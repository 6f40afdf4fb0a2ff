-- The tables of a header, one behind the other. Assumes nothing.
use Prim.Native.Nat.{ℕ}
use mathlib.Core.Path.{◌≡◌}
use mathlib.Core.List.{List}
use lib.ListN.{get_or}
use Rattle.job.specs.declared.Table.{Table}
use Rattle.job.specs.declared.Layout.{Layout}
use Rattle.job_shape.specs.Shape.{table, table_behind, layout_of}

abbrev pub layout_with : Table → Table → Table → Table → Table → Table → Table → Table → Table → Table → Layout
layout_with banks classes regs blocks values vgroups operands hints segments uses = record {
  opts = 10;
  banks = banks;
  classes = classes;
  regs = regs;
  blocks = blocks;
  values = values;
  vgroups = vgroups;
  operands = operands;
  hints = hints;
  segments = segments;
  uses = uses;
}

pub chain : (W : List ℕ) {n : ℕ} {t₁ t₂ t₃ t₄ t₅ t₆ t₇ t₈ t₉ : Table} → n ≡ get_or W 0 0
    → t₁ ≡ table_behind (table 14 n) 1 (get_or W 1 0) → t₂ ≡ table_behind t₁ 4 (get_or W 2 0) → t₃ ≡ table_behind t₂ 1 (get_or W 3 0) → t₄ ≡ table_behind t₃ 2 (get_or W 4 0)
    → t₅ ≡ table_behind t₄ 3 (get_or W 5 0) → t₆ ≡ table_behind t₅ 9 (get_or W 6 0) → t₇ ≡ table_behind t₆ 4 (get_or W 7 0) → t₈ ≡ table_behind t₇ 3 (get_or W 8 0)
    → t₉ ≡ table_behind t₈ 5 (get_or W 9 0) → layout_with (table 14 n) t₁ t₂ t₃ t₄ t₅ t₆ t₇ t₈ t₉ ≡ layout_of W
unfolding layout_of
chain W e₀ e₁ e₂ e₃ e₄ e₅ e₆ e₇ e₈ e₉ = rw (e₉, e₈, e₇, e₆, e₅, e₄, e₃, e₂, e₁, e₀)
