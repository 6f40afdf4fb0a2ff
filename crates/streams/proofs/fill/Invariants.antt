use mathlib.Core.Path.{◌≡◌}
use Prim.Native.Nat.{◌-◌}
use lib.ListN.{length}
use Rattle.streams.proofs.Fills.{Filling}
use Rattle.streams.proofs.fill.Given as goal

abbrev pub invariant-loop-got : goal.invariant-loop-got
invariant-loop-got g l = (length l.buf ≡ length l.initial.buf) × Filling l.tape l.given l.initial.s l.s l.got l.buf

abbrev pub decreases-loop-got : goal.decreases-loop-got
decreases-loop-got g l = length l.initial.buf - l.got
