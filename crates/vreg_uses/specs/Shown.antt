-- The use list of a part and of a piece, and the words that a list shows. Assumes nothing.
use Rattle.std.specs.Prelude.{List, ℕ, ◌+◌, ◌-◌, ◌*◌, ◌≤◌}
use Rattle.job.specs.declared.Layout.{Layout}
use Rattle.set_part.specs.declared.SetPart.{SetPart}
use Rattle.uses.specs.declared.lists.Source.{Source}
use Rattle.uses.specs.declared.lists.Source.TheVariants.{Job, Added}
use Rattle.uses.specs.declared.lists.UseList.{UseList}
use Rattle.uses.specs.Lists.{table_of}
use Rattle.virt_regs.specs.declared.OutLayout.{OutLayout}
use Rattle.words.specs.Part.{part}
use Rattle.virt_regs.specs.Encoding.{seg_base, use_base}
use Rattle.virt_regs.specs.Reads.{piece_in}

-- the uses of a part: a part of the job's
unfoldable pub part_list : SetPart → UseList
part_list sp = record { source = Job; first = sp.first; count = sp.end - sp.first }

-- the uses of piece i of a result, by its row: a part of the added ones
unfoldable pub piece_list : List ℕ → OutLayout → ℕ → UseList
unfolding piece_in
piece_list O ol i = record { source = Added; first = (piece_in O (seg_base ol + i * 7)).first; count = (piece_in O (seg_base ol + i * 7)).uses }

-- the word at which a use table begins, and how many rows it has
abbrev pub table_at : Layout → OutLayout → Source → ℕ
table_at lay ol Job = lay.uses.at
table_at lay ol Added = use_base ol

abbrev pub rows_in : Layout → OutLayout → Source → ℕ
rows_in lay ol Job = lay.uses.n
rows_in lay ol Added = ol.uses

-- the list lies in its table
unfoldable pub Listed : Layout → OutLayout → UseList → Type 0
Listed lay ol l = l.first + l.count ≤ rows_in lay ol l.source

-- the words of its rows: W are the job's words, O the result's
unfoldable pub shown_words : List ℕ → Layout → List ℕ → OutLayout → UseList → List ℕ
unfolding part
shown_words W lay O ol l =
    let at = table_at lay ol l.source + l.first * 6 in
    part at (at + l.count * 6) (table_of W O l.source)
