use Rattle.std.proofs.Common.{rules}
use Rattle.streams.proofs.Turns.{writing_next, writing_again, writing_out}
use Rattle.streams.proofs.write_all.Goals.{in-Ok, in-Err-Interrupted}
use Rattle.streams.proofs.write_all.Goals as goal

pub loop-preserved : goal.loop-preserved
loop-preserved g c = (
  search rules,
  elim c.match-write_once.branch [
    | in-Ok w ↦ writing_next _ _ _ _ _ _ _ _ c.loop.invariant.1 _ _ _ _ (rw w.in-Ok.is at c.write_once.ensures) w.done-is
    | in-Err-Interrupted w ↦ writing_again _ _ _ _ _ _ _ _ c.loop.invariant.1 _ _ _ (rw (w.in-Err-Interrupted.is, w.in-Err-Interrupted.field-0-is) at c.write_once.ensures) w.done-is
  ],
)

pub returns-then-done-buf-2 : goal.returns-then-done-buf-2
returns-then-done-buf-2 g c = writing_out _ _ _ _ _ _ _ _ c.loop.invariant.1 (search rules)
