use Prim.Native.Nat.{◌+◌, ◌≤◌}
use Rattle.streams.specs.Tape.{at_of}
use Rattle.home.proofs.run.Given as goal

abbrev pub invariant-loop : goal.invariant-loop
invariant-loop l = (at_of l.at ≤ 1) × (l.t.home + l.t.refused + l.t.differ ≤ l.counter)
