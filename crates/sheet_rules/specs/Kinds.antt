-- The kinds of records by their numbers, in the order of a sheet. Assumes nothing.
use Rattle.std.specs.Prelude.{ℕ, Option, None, Some}
use Rattle.sheet_rules.specs.declared.forms.Kind.{Kind}
use Rattle.sheet_rules.specs.declared.forms.Kind.TheVariants.{Opt, Bank, Class, Reg, Block, Value, Vgroup, Operand, Hint, Seg, Use, End}

-- a kind's number
abbrev pub number_of : Kind → ℕ
number_of Opt = 0
number_of Bank = 1
number_of Class = 2
number_of Reg = 3
number_of Block = 4
number_of Value = 5
number_of Vgroup = 6
number_of Operand = 7
number_of Hint = 8
number_of Seg = 9
number_of Use = 10
number_of End = 11

-- the number of what may be a kind; 12 for none
abbrev pub key_number : Option Kind → ℕ
key_number None = 12
key_number (Some k) = number_of k
