use mathlib.Core.Path.{◌≡◌}
use lib.ListN.{length}
use Rattle.streams.proofs.Turns.{Writing}
use Rattle.streams.proofs.write_all.Given as goal

abbrev pub invariant-loop : goal.invariant-loop
invariant-loop g l = (length l.paper ≡ length l.initial.paper) × Writing l.tape l.initial.paper l.buf l.initial.s l.s l.done l.counter l.paper
