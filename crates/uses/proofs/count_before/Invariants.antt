use Prim.Native.Nat.{◌≤◌}
use Rattle.words.specs.Rows.{row_words}
use Rattle.uses.proofs.Scans.{CountsOn}
use Rattle.uses.proofs.count_before.Given as goal

abbrev pub invariant-loop-i : goal.invariant-loop-i
invariant-loop-i l = CountsOn (row_words l.uses) l.uses.at l.uses.n l.p l.i × (l.i ≤ l.uses.n)
