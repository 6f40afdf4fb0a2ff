-- What a word of a table and code's `Option` stand for. Assumes nothing.
use Rattle.std.specs.Prelude.{ℕ, ◌+◌}
use Rattle.std.specs.Prelude as code
use Rattle.std.proofs.Math.Option.{Option, none, some}
use Rattle.definition.specs.declared.RegClass.{RegClass}
use Rattle.definition.specs.declared.VirtReg.{VirtReg}
use Rattle.definition.specs.Types.{Job, State}
use Rattle.definition.specs.RegInfo.{common_subclass}
use Rattle.definition.specs.Admit.{register_at}
use Rattle.constraints.specs.declared.members.Joined.{Joined}

-- the word of a number: number + 1, 0 for none
abbrev pub number_word : code.Option ℕ → ℕ
number_word code.None = 0
number_word (code.Some n) = n + 1

-- code's `Option`, as the definition has it
abbrev pub option_of : {A : Type 0} → code.Option A → Option A
option_of code.None = none
option_of (code.Some a) = some a

-- class k narrowed by the member at a place
unfoldable pub narrowed_at : Job → State → Option VirtReg → RegClass → Option RegClass
unfolding common_subclass register_at
narrowed_at job st none k = some k
narrowed_at job st (some v) k = common_subclass job k (register_at st v).class

unfoldable pub joined_of : code.Option Joined → Option (RegClass × Option VirtReg)
joined_of code.None = none
joined_of (code.Some j) = some (j.class, option_of j.target)
