use mathlib.Core.Path.{◌≡◌}
use lib.ListN.{length}
use Rattle.streams.proofs.Turns.{Retried}
use Rattle.streams.proofs.read.Given as goal

abbrev pub invariant-loop : goal.invariant-loop
invariant-loop g l = (length l.buf ≡ length l.initial.buf) × Retried l.tape l.given l.initial.s l.s l.counter
