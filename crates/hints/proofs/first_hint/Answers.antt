use native.Mathlib.Omega.{arith}
use Rattle.hints.proofs.Searching.{search_start, search_up, search_down, search_done}
use Rattle.hints.proofs.first_hint.Goals as goal

pub loop-low-init : goal.loop-low-init
loop-low-init c = search_start _ _ _ _ _

pub loop-low-preserved-then-key_below : goal.loop-low-preserved-then-key_below
loop-low-preserved-then-key_below c = search_up c.loop-low.invariant _ c.args.hints.now.sorted (omega arith) (omega arith) (rw c.row_at.ensures.0 at c.hint_at.ensures) c.key_below.ensures c.if-key_below.true

pub loop-low-preserved : goal.loop-low-preserved
loop-low-preserved c = search_down c.loop-low.invariant _ c.args.hints.now.sorted (omega arith) (omega arith) (rw c.row_at.ensures.0 at c.hint_at.ensures) c.key_below.ensures c.if-key_below.false

pub returns : goal.returns
returns c = let l = c.loop-low.invariant in (search_done l (omega arith), omega arith)
