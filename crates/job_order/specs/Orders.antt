-- How what is left in one table stands to what is left in another, at one cursor. Assumes nothing.
use Rattle.std.specs.Prelude.{◌≡◌, List, ℕ, ◌<◌, Result, Ok, Err}
use Rattle.words.specs.Words.{words_of}
use Rattle.definition.specs.declared.Order.{Order}
use Rattle.definition.specs.Types.{Job}
use Rattle.definition.specs.JobSheet.{Record}
use Rattle.definition.specs.JobOrder.{by_lines}
use Rattle.job_pages.specs.declared.Cursor.{Cursor as Held}
use Rattle.job_pages.specs.Cursors.{Cursor, cursor_of, steps_left}
use Rattle.job_pages.specs.Left.{Left}
use Rattle.job_pages.specs.Pages.{Shows}

-- o is the answer for all records that are left in the words T and U
abbrev pub Orders : List ℕ → List ℕ → Cursor → Order → Type 0
Orders T U c o =
    (j k : Job) (rs ss : List Record) → Left T j c rs → Left U k c ss → o ≡ by_lines rs ss

-- the answer at the cursor d, behind records that are the same, is the answer at c
pub record Advanced (x y : List ℕ) (c d : Cursor) : Type 0 where
  pub first : Shows x d
  pub second : Shows y d
  pub fewer : steps_left d < steps_left c
  pub answer : (o : Order) → Orders (words_of x) (words_of y) d o → Orders (words_of x) (words_of y) c o

-- behind a step, or the answer
abbrev pub Stepped : List ℕ → List ℕ → Cursor → Result Held Order → Type 0
Stepped x y c (Ok d) = Advanced x y c (cursor_of d)
Stepped x y c (Err o) = Orders (words_of x) (words_of y) c o
