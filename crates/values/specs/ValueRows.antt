-- The rows of the value and value group tables. Assumes nothing.
use Rattle.std.specs.Prelude.{ℕ, ◌+◌, Bool, true, false, List, eqb, get_or}
use Rattle.words.specs.RowsAt.{rows_at}
use Rattle.words.specs.declared.rows.lent.Rows.{Rows}
use Rattle.words.specs.Rows.{row_words}
use Rattle.definition.specs.declared.Value.{Value}
use Rattle.definition.specs.declared.ValueSet.{ValueSet}
use Rattle.definition.specs.declared.ValueData.{ValueData}
use Rattle.definition.specs.declared.Remat.{Remat}
use Rattle.definition.specs.declared.Remat.TheVariants.{Never, CheaperThanMove, CheaperThanLoad, Indirect}
use Rattle.definition.specs.Types.{val, vset}
use Rattle.definition.specs.RegInfo.{no_value}

abbrev pub pick_r : Bool → Remat → Remat → Remat
pick_r true x y = x
pick_r false x y = y

unfoldable pub remat_of : ℕ → Remat
remat_of w = pick_r (eqb w 1) CheaperThanMove (pick_r (eqb w 2) CheaperThanLoad (pick_r (eqb w 3) Indirect Never))

-- the value whose row begins at word i
unfoldable pub value_row : List ℕ → ℕ → ValueData
value_row W i = record { bank = record { 0 = get_or W i 0 }; leader = val (get_or W (i + 1) 0); remat = remat_of (get_or W (i + 2) 0) }

-- n values from word `at` on
unfoldable pub values_at : List ℕ → ℕ → ℕ → List ValueData
values_at W at n = rows_at value_row W at 3 n

-- the values of lent rows
abbrev pub values_in : Rows 3 → List ValueData
values_in t = values_at (row_words t) t.at t.n

-- the set of value v among these values
unfoldable pub set_in : List ValueData → Value → ValueSet
set_in vs v = vset (get_or vs v.0 no_value).leader.0

abbrev pub member_row : List ℕ → ℕ → Value
member_row W i = val (get_or W i 0)

-- the members of the value group whose row begins at word i: as many as its first word says
unfoldable pub vgroup_row : List ℕ → ℕ → List Value
vgroup_row W i = rows_at member_row W (i + 1) 1 (get_or W i 0)

-- n value groups from word `at` on
unfoldable pub vgroups_at : List ℕ → ℕ → ℕ → List (List Value)
vgroups_at W at n = rows_at vgroup_row W at 9 n
