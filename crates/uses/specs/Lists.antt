-- Use lists in one of two tables. Assumes nothing.
use Rattle.std.specs.Prelude.{ℕ, ◌+◌, ◌-◌, ◌*◌, ◌≤◌, List, length, take, drop}
use Rattle.words.specs.Words.{words_of}
use Rattle.definition.specs.declared.Use.{Use}
use Rattle.uses.specs.Rows.{uses_at}
use Rattle.uses.specs.declared.lists.Source.{Source}
use Rattle.uses.specs.declared.lists.Source.TheVariants.{Job, Added}
use Rattle.uses.specs.declared.lists.UseList.{UseList}

-- "A use list shows its part of the job's uses or of the added ones"
abbrev pub table_of : List ℕ → List ℕ → Source → List ℕ
table_of j a Job = j
table_of j a Added = a

-- the list lies in its table: a row is 24 bytes
unfoldable pub Within : List ℕ → List ℕ → UseList → Type 0
Within j a l = (l.first + l.count) * 24 ≤ length (table_of j a l.source)

-- its bytes
unfoldable pub part_of : List ℕ → List ℕ → UseList → List ℕ
part_of j a l = take (l.count * 24) (drop (l.first * 24) (table_of j a l.source))

-- its uses
unfoldable pub uses_of_list : List ℕ → List ℕ → UseList → List Use
uses_of_list j a l = uses_at (words_of (table_of j a l.source)) (l.first * 6) l.count

unfoldable pub left_list : UseList → ℕ → UseList
left_list l k = record { source = l.source; first = l.first; count = k }

unfoldable pub right_list : UseList → ℕ → UseList
right_list l k = record { source = l.source; first = l.first + k; count = l.count - k }
