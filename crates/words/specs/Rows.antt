-- What lent rows stand in. Assumes nothing.
use Rattle.std.specs.Prelude.{ℕ, List}
use Rattle.words.specs.Words.{words_of}
use Rattle.words.specs.declared.rows.lent.Rows.{Rows}

-- the words of their slice
abbrev pub row_words : {W : ℕ} → Rows W → List ℕ
row_words t = words_of t.words.now
