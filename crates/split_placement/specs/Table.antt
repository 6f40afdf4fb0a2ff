-- What the code answers in numbers: steps that may be none. Assumes nothing.
use Rattle.std.specs.Prelude.{ℕ}
use Rattle.std.proofs.Math.Option.{Option, none, some}
use Rattle.definition.specs.declared.CutMove.{CutMove}

-- the steps of a move, 0 for none: no move has 0
abbrev pub steps_in : Option CutMove → ℕ
steps_in none = 0
steps_in (some m) = m.steps
