use Rattle.definition.specs.Text.{decimal}
use Rattle.lines.proofs.Puts.{Fielding}
use Rattle.lines.proofs.put_fields.Given as goal

abbrev pub invariant-loop-v : goal.invariant-loop-v
invariant-loop-v l = Fielding decimal l.initial.out l.vals l.at l.v-index l.out l.a
