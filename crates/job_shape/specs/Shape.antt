-- Entry test 1 on a binary job: the layout that a header gives, and what a slice of that shape is. Assumes nothing.
use Rattle.std.specs.Prelude.{ℕ, ◌+◌, ◌*◌, ◌≤◌, ◌<◌, ◌≡◌, Bool, true, ◌&&◌, Option, is_some, IfSome, List, [], ◌∷◌, leb, ltb, eqb, length, get_or}
use Rattle.words.specs.RowsAt.{rows_at}
use Rattle.words.specs.Words.{word_count, words_of}
use Rattle.definition.specs.Entry.{conj, every}
use Rattle.job.specs.declared.Table.{Table}
use Rattle.job.specs.declared.Layout.{Layout}
use Rattle.job.specs.Layout.{Fits}

abbrev pub table : ℕ → ℕ → Table
table at n = record { at = at; n = n }

-- a table of n rows behind table t, which has rows of `stride` words
abbrev pub table_behind : Table → ℕ → ℕ → Table
table_behind t stride n = table (t.at + t.n * stride) n

-- the header's numbers of rows are those of banks, classes, regs, blocks, values, vgroups, operands, hints, segments and uses;
-- the tables follow each other in this order, behind its fourteen words
unfoldable pub layout_of : List ℕ → Layout
layout_of W =
    let banks = table 14 (get_or W 0 0) in
    let classes = table_behind banks 1 (get_or W 1 0) in
    let regs = table_behind classes 4 (get_or W 2 0) in
    let blocks = table_behind regs 1 (get_or W 3 0) in
    let values = table_behind blocks 2 (get_or W 4 0) in
    let vgroups = table_behind values 3 (get_or W 5 0) in
    let operands = table_behind vgroups 9 (get_or W 6 0) in
    let hints = table_behind operands 4 (get_or W 7 0) in
    let segments = table_behind hints 3 (get_or W 8 0) in
    let uses = table_behind segments 5 (get_or W 9 0) in
    record {
      opts = 10;
      banks = banks;
      classes = classes;
      regs = regs;
      blocks = blocks;
      values = values;
      vgroups = vgroups;
      operands = operands;
      hints = hints;
      segments = segments;
      uses = uses;
    }

-- table k of a header: its number of rows is a word, and each table before it ends within nine words a row
pub record Placed (k : ℕ) (t : Table) : Type 0 where
  pub at : t.at ≤ k * 38654705664 + 14
  pub rows : t.n < 4294967296

-- how many words the header and the tables have
abbrev pub end_of : Layout → ℕ
end_of lay = lay.uses.at + lay.uses.n * 6

-- word `col` of the row that begins at word i
abbrev pub word_in : ℕ → List ℕ → ℕ → ℕ
word_in col W i = get_or W (i + col) 0

-- word `col` of every row of a table is below the bound
unfoldable pub all_below : List ℕ → Table → ℕ → ℕ → ℕ → Bool
unfolding every
all_below W t stride col bound = every (λ x. ltb x bound) (rows_at (word_in col) W t.at stride t.n)

-- no choice off its list: spillslots, memory, remat, incoming, flags, kind
abbrev pub choice_tests : List ℕ → Layout → List Bool
choice_tests W lay =
    all_below W lay.classes 4 3 2
    ∷ all_below W lay.regs 1 0 2
    ∷ all_below W lay.values 3 2 4
    ∷ all_below W lay.hints 3 2 2
    ∷ all_below W lay.segments 5 3 16
    ∷ all_below W lay.uses 6 0 10
    ∷ []

unfoldable pub choices_ok : List ℕ → Layout → Bool
unfolding conj all_below
choices_ok W lay = conj (choice_tests W lay)

-- how many uses come before it, for each segment
unfoldable pub use_counts : List ℕ → Layout → List ℕ
use_counts W lay = rows_at (word_in 4) W lay.segments.at 5 lay.segments.n

-- from a on the counts do not fall, and the last is not above e
unfoldable pub rises : ℕ → List ℕ → ℕ → Bool
rises a [] e = leb a e
rises a (x ∷ xs) e = leb a x && rises x xs e

-- the first segment's count is 0, and the counts do not fall nor pass the number of uses; without a segment there is no use
unfoldable pub counts_ok : List ℕ → Layout → Bool
unfolding rises use_counts
counts_ok W lay = eqb (get_or (use_counts W lay) 0 lay.uses.n) 0 && rises 0 (use_counts W lay) lay.uses.n

-- a bank, a class and a block are there; choices; use counts
abbrev pub table_tests : List ℕ → Layout → List Bool
table_tests W lay = leb 1 lay.banks.n ∷ leb 1 lay.classes.n ∷ leb 1 lay.blocks.n ∷ choices_ok W lay ∷ counts_ok W lay ∷ []

unfoldable pub tables_ok : List ℕ → Layout → Bool
unfolding conj choices_ok counts_ok
tables_ok W lay = conj (table_tests W lay)

-- test 1: the slice has a header, is exactly as long as that says, and its tables pass
abbrev pub shape_tests : List ℕ → List Bool
shape_tests s = leb 14 (word_count s) ∷ eqb (length s) (4 * end_of (layout_of (words_of s))) ∷ tables_ok (words_of s) (layout_of (words_of s)) ∷ []

unfoldable pub shape_ok : List ℕ → Bool
unfolding conj layout_of tables_ok
shape_ok s = conj (shape_tests s)

-- what test 1 gives to those behind it
pub record Shaped (s : List ℕ) (lay : Layout) : Type 0 where
  pub fits : Fits (word_count s) lay
  pub banks : 1 ≤ lay.banks.n
  pub classes : 1 ≤ lay.classes.n
  pub blocks : 1 ≤ lay.blocks.n
  pub choices : choices_ok (words_of s) lay ≡ true
  pub counts : counts_ok (words_of s) lay ≡ true

-- the code's answer to test 1
pub record Formed (s : List ℕ) (r : Option Layout) : Type 0 where
  pub is : is_some r ≡ shape_ok s
  pub found : IfSome r (λ lay. lay ≡ layout_of (words_of s))
  pub shaped : IfSome r (λ lay. Shaped s lay)
