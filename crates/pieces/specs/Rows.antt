-- The row of an own piece. Assumes nothing.
use Rattle.std.specs.Prelude.{ℕ, ◌-◌}
use Rattle.definition.specs.Lines.{flags_number}
use Rattle.set_part.specs.declared.PartSeg.{PartSeg}
use Rattle.virt_regs.specs.declared.PieceRow.{PieceRow}

unfoldable pub row_of : PartSeg → ℕ → PieceRow
row_of s u = record {
  value = s.value;
  «from» = s.«from»;
  to = s.to;
  flags = flags_number s.flags;
  origin = 0;
  first = u;
  uses = s.end - s.first;
}
