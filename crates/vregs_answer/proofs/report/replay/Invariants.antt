use mathlib.Core.Path.{◌≡◌}
use lib.ListN.{length}
use Rattle.vregs_answer.proofs.Replaying.{Replaying}
use Rattle.vregs_answer.proofs.report.replay.Given as goal

abbrev pub invariant-loop : goal.invariant-loop
invariant-loop g l = (length l.paper ≡ length l.initial.paper) × (length l.sheet ≡ length l.initial.sheet) × (length l.answer ≡ length l.initial.answer) × Replaying l.reads l.given l.initial.input l.writes l.initial.paper l.initial.output l.input l.output l.answers l.differ l.counter l.paper
