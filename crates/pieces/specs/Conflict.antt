-- The rows of turned uses in the work slice, and the piece of a conflict register. Assumes nothing.
use Rattle.std.specs.Prelude as code
use Rattle.std.specs.Prelude.{ℕ, ◌+◌, ◌-◌, ◌*◌, ◌≤◌, ◌<◌, cond, List, eqb, get_or, is_some}
use Rattle.std.proofs.Math.Option.{none, some}
use Rattle.words.specs.Tab.{tab}
use Rattle.definition.specs.declared.Value.{Value}
use Rattle.definition.specs.declared.Inst.{Inst}
use Rattle.definition.specs.declared.Use.{Use}
use Rattle.definition.specs.Types.{Turned, val, point}
use Rattle.uses.specs.Rows.{use_row}
use Rattle.job.specs.declared.Layout.{Layout}
pub use Rattle.set_part.specs.Turned.{param_by}
use Rattle.virt_regs.specs.declared.PieceRow.{PieceRow}

-- the use of row k: as it stands in the job
unfoldable pub row_use : List ℕ → ℕ → List ℕ → Layout → ℕ → Use
unfolding use_row
row_use K turned W lay k = use_row W (lay.uses.at + get_or K (turned + k * 4 + 1) 0 * 6)

-- row k, from word `turned` of K on: value, use number, whether it has a parameter (0 or 1), the parameter
unfoldable pub turned_row_at : List ℕ → ℕ → List ℕ → Layout → ℕ → Turned
unfolding row_use
turned_row_at K turned W lay k = record {
  value = val (get_or K (turned + k * 4) 0);
  use' = row_use K turned W lay k;
  param = cond (eqb (get_or K (turned + k * 4 + 2) 0) 0) none (some (get_or K (turned + k * 4 + 3) 0));
}

-- rows a to b - 1
unfoldable pub turned_rows_of : List ℕ → ℕ → List ℕ → Layout → ℕ → ℕ → List Turned
unfolding turned_row_at
turned_rows_of K turned W lay a b = tab (turned_row_at K turned W lay) a (b - a)

-- they lie within the w words K, and their uses are uses of the job
pub record RowsOk (w : ℕ) (K : List ℕ) (turned : ℕ) (lay : Layout) (a b : ℕ) : Type 0 where
  pub order : a ≤ b
  pub within : turned + b * 4 ≤ w
  pub known : (k : ℕ) → a ≤ k → k < b → get_or K (turned + k * 4 + 1) 0 < lay.uses.n

-- how many uses the opening has
abbrev pub open_count : code.Option ℕ → ℕ
open_count q = cond (is_some q) 1 0

-- the row of the piece: its first use is use u, and it has n
unfoldable pub conflict_row : Value → Inst → code.Option ℕ → ℕ → ℕ → PieceRow
conflict_row v p q u n = record {
  value = v;
  «from» = point (4 * p.0);
  to = point (4 * p.0 + 2);
  flags = cond (is_some q) 0 1;
  origin = 1;
  first = u;
  uses = n;
}
