use Rattle.job_shape.proofs.Header.{chain}
use Rattle.job_shape.proofs.layout_of.Goals as goal

pub returns : goal.returns
returns c = (
  chain _
      c.count.ensures.0
      c.table_behind-classes.ensures.0
      c.table_behind-regs.ensures.0
      c.table_behind-blocks.ensures.0
      c.table_behind-values.ensures.0
      c.table_behind-vgroups.ensures.0
      c.table_behind-operands.ensures.0
      c.table_behind-hints.ensures.0
      c.table_behind-segments.ensures.0
      c.table_behind-uses.ensures.0,
  c.table_behind-uses.ensures.1,
)
