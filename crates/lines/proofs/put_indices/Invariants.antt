use Rattle.lines.specs.Wrote.{index_text}
use Rattle.lines.proofs.Puts.{Fielding}
use Rattle.lines.proofs.put_indices.Given as goal

abbrev pub invariant-loop-v : goal.invariant-loop-v
invariant-loop-v l = Fielding index_text l.initial.out l.vals l.at l.v-index l.out l.a
