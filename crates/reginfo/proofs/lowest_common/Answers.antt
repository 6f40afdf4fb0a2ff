use mathlib.Core.Path.{ap, sym}
use Rattle.reginfo.specs.Rows.{found_of}
use Rattle.definition.proofs.Classes.{lowest_none, lowest_some}
use Rattle.reginfo.proofs.lowest_common.Goals as goal

-- src/lib.rt:49:1
pub returns-then-both-eq0 : goal.returns-then-both-eq0
returns-then-both-eq0 c = ap found_of (sym (lowest_none _ c.if-both-eq0.true))

-- src/lib.rt:49:1
pub returns-else-both-eq0 : goal.returns-else-both-eq0
returns-else-both-eq0 c = ap found_of (sym (lowest_some _ c.if-both-eq0.false))
