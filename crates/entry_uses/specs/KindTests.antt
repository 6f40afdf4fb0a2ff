-- Test 7 of a use's fields, and what it builds on. Assumes nothing.
use Rattle.std.specs.Prelude.{ℕ, ◌≡◌, Bool, true, ◌&&◌, List, ltb}
use Rattle.definition.specs.Entry.{function_ok}
use Rattle.values.specs.declared.operands.Chains.{Chains}
use Rattle.values.specs.Chains.{Chained, operands_of}
use Rattle.job.specs.declared.Layout.{Layout}
use Rattle.job.specs.Layout.{Fits}
use Rattle.job.specs.Job.{raw_job}
use Rattle.entry_function.specs.Counts.{Within, Indexes}

-- a slot within u16, and a class of n
unfoldable pub class_use_ok : ℕ → ℕ → ℕ → Bool
class_use_ok n s c = ltb s 65536 && ltb c n

-- two slots within u16, a class of n, and an index within u8
unfoldable pub tied_use_ok : ℕ → ℕ → ℕ → ℕ → ℕ → Bool
unfolding class_use_ok
tied_use_ok n s d c i = ltb d 65536 && (ltb i 256 && class_use_ok n s c)

-- the job W of N words passed test 4, and the work words K, w of them, hold the index of its operands
pub record Ready (N w : ℕ) (W K : List ℕ) (lay : Layout) (c : Chains) : Type 0 where
  pub fits : Fits N lay
  pub within : Within W lay
  pub index : Indexes w W lay c
  pub chained : Chained K c (operands_of W c)
  pub passed : function_ok (raw_job W lay) ≡ true
