use Prim.Native.Nat.{◌-◌}
use Rattle.words.specs.Rows.{row_words}
use Rattle.hints.proofs.Searching.{Searching}
use Rattle.hints.proofs.first_hint.Given as goal

abbrev pub invariant-loop-low : goal.invariant-loop-low
invariant-loop-low l = Searching (row_words l.hints.rows) l.hints.rows.at l.hints.rows.n l.v l.k l.low l.high

abbrev pub decreases-loop-low : goal.decreases-loop-low
decreases-loop-low l = l.high - l.low
