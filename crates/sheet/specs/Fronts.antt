-- Where a sheet stands, with the kinds of records as numbers: what the machine goes by. Assumes nothing.
use Rattle.std.specs.Prelude.{ℕ}
use Rattle.sheet_rules.specs.declared.digits.Num.{Num}
use Rattle.sheet_rules.specs.Kinds.{number_of}
use Rattle.sheet.specs.declared.either.Front.{Front as Held}
use Rattle.sheet.specs.declared.either.Front.TheVariants as held

pub data Front : Type 0 where
  Opening : ℕ → Front
  First Word Plain : Front
  Before : ℕ → ℕ → Front
  Written : ℕ → Num → Front

-- the reader's
abbrev pub front_at : Held → Front
front_at (held.Opening k) = Opening k
front_at held.First = First
front_at held.Word = Word
front_at held.Plain = Plain
front_at (held.Before key left) = Before (number_of key) left
front_at (held.Written key x) = Written (number_of key) x
