use Rattle.words.specs.Rows.{row_words}
use Rattle.values.specs.ValueRows.{vgroup_row, values_in}
use Rattle.values.proofs.Members.{Filling}
use Rattle.values.proofs.value_sets.Given as goal

abbrev pub invariant-loop-k : goal.invariant-loop-k
invariant-loop-k l = Filling (values_in l.values) (vgroup_row (row_words l.values) l.i) l.k l.out
