-- The rows of the register book's tables, and what the code's answer stands for. Assumes nothing.
use Rattle.std.specs.Prelude.{ℕ, ◌+◌, Bool, List, eqb, get_or, Option, Some, None}
use Rattle.std.proofs.Math.Option as maybe
use Rattle.std.specs.Float.{binary32}
use Rattle.std.specs.Float.Ieee.{of_bits}
use Rattle.words.specs.RowsAt.{rows_at}
use Rattle.words.specs.declared.rows.lent.Rows.{Rows}
use Rattle.words.specs.Rows.{row_words}
use Rattle.definition.specs.declared.RegClass.{RegClass}
use Rattle.definition.specs.declared.ClassData.{ClassData}
use Rattle.definition.specs.Types.{cls}
use Rattle.definition.specs.RegInfo.{no_class}

-- the definition's answer, as the code's type has it
abbrev pub found_of : maybe.Option RegClass → Option RegClass
found_of maybe.none = None
found_of (maybe.some c) = Some c

-- the class whose row begins at word i
unfoldable pub class_row : List ℕ → ℕ → ClassData
class_row W i = record {
  mask = get_or W i 0;
  cost = of_bits binary32 (get_or W (i + 1) 0);
  size = get_or W (i + 2) 0;
  spillslots = eqb (get_or W (i + 3) 0) 1;
}

unfoldable pub bank_row : List ℕ → ℕ → RegClass
bank_row W i = cls (get_or W i 0)

unfoldable pub memory_row : List ℕ → ℕ → Bool
memory_row W i = eqb (get_or W i 0) 1

-- n classes from word `at` on
unfoldable pub classes_at : List ℕ → ℕ → ℕ → List ClassData
classes_at W at n = rows_at class_row W at 4 n

-- the classes of lent rows
abbrev pub classes_in : Rows 4 → List ClassData
classes_in t = classes_at (row_words t) t.at t.n

-- the mask of class c among these classes
unfoldable pub mask_in : List ClassData → RegClass → ℕ
mask_in cs c = (get_or cs c.0 no_class).mask
