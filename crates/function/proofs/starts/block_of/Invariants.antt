use Prim.Native.Nat.{◌-◌}
use Rattle.words.specs.Words.{words_of}
use Rattle.function.proofs.Loops.{Between}
use Rattle.function.proofs.starts.block_of.Given as goal

abbrev pub invariant-loop-high : goal.invariant-loop-high
invariant-loop-high l = Between (words_of l.t.words.now) l.t.at l.t.n l.inst.0 l.low l.high

abbrev pub decreases-loop-high : goal.decreases-loop-high
decreases-loop-high l = l.high - l.low
