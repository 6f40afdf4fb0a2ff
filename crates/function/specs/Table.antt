-- What a lent table of block starts says. Assumes nothing.
use Rattle.std.specs.Prelude.{ℕ, ◌≡◌, List, length}
use Rattle.words.specs.Words.{words_of}
use Rattle.definition.specs.declared.BlockData.{BlockData}
use Rattle.function.specs.Blocks.{Starts}
use Rattle.function.specs.declared.starts.table.BlockStarts.{BlockStarts}

-- the words that it stands in
abbrev pub words_in : BlockStarts → List ℕ
words_in t = words_of t.words.now

-- it is the table of the blocks bs
pub record Encodes (t : BlockStarts) (bs : List BlockData) : Type 0 where
  pub starts : Starts (words_in t) t.at bs
  pub long : length bs ≡ t.n
