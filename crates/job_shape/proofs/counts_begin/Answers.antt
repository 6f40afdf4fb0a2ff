use mathlib.Core.Path.{sym, ap}
use Prim.Native.Nat.{ℕ}
use lib.Dec.{eqb}
use Rattle.job_shape.proofs.Rising.{begins_none, begins_at}
use Rattle.job_shape.proofs.counts_begin.Goals as goal

pub returns-then-lay-eq0 : goal.returns-then-lay-eq0
returns-then-lay-eq0 c = ap (λ (k : ℕ). eqb k 0) (sym (begins_none _ _ c.if-lay-eq0.true))

pub returns-else-lay-eq0 : goal.returns-else-lay-eq0
returns-else-lay-eq0 c = ap (λ (k : ℕ). eqb k 0) (sym (begins_at _ _ _ c.if-lay-eq0.false c.word_at.ensures))
