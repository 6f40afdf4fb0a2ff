use Prim.Native.Nat.{◌+◌, ◌≤◌}
use Rattle.streams.specs.Tape.{at_of}
use Rattle.shelf.proofs.fill.Given as goal

abbrev pub invariant-loop : goal.invariant-loop
invariant-loop l = (at_of l.at ≤ 1) × (l.shelf.refused + l.shelf.count ≤ l.counter)
