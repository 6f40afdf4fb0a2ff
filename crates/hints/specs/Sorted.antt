-- The hints of lent rows that are sorted. Assumes nothing.
use Rattle.std.specs.Prelude.{List}
use Rattle.definition.specs.declared.Hint.{Hint}
use Rattle.hints.specs.declared.sorted.Hints.{Hints}
use Rattle.hints.specs.Hints.{hint_rows}

abbrev pub hints_in : Hints → List Hint
hints_in t = hint_rows t.rows
