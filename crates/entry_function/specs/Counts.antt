-- What the tests of a job may build on: its counts are within the limits, and the index of its operands has room. Assumes nothing.
use Rattle.std.specs.Prelude.{ℕ, ◌+◌, ◌≤◌, ◌≡◌, Bool, List, ltb}
use Rattle.definition.specs.declared.Value.{Value}
use Rattle.definition.specs.Entry.{insts}
use Rattle.values.specs.declared.operands.Chains.{Chains}
use Rattle.job.specs.declared.Layout.{Layout}
use Rattle.job.specs.Job.{raw_job}

-- v is one of the first n values
unfoldable pub known : ℕ → Value → Bool
known n v = ltb v.0 n

-- what test 2 says of the tables (the uses are in crate entry_uses::lists)
pub record Within (W : List ℕ) (lay : Layout) : Type 0 where
  pub insts : insts (raw_job W lay) ≤ 4096
  pub blocks : lay.blocks.n ≤ 512
  pub values : lay.values.n ≤ 1024
  pub vgroups : lay.vgroups.n ≤ 256
  pub operands : lay.operands.n ≤ 1024
  pub hints : lay.hints.n ≤ 1024
  pub segments : lay.segments.n ≤ 1024
  pub classes : lay.classes.n ≤ 32
  pub banks : lay.banks.n ≤ 8
  pub regs : lay.regs.n ≤ 256

-- c is an index of the job's operands by its instructions, in w work words
pub record Indexes (w : ℕ) (W : List ℕ) (lay : Layout) (c : Chains) : Type 0 where
  pub at : c.at ≡ lay.operands.at
  pub count : c.count ≡ lay.operands.n
  pub insts : c.insts ≡ insts (raw_job W lay)
  pub apart : c.heads + c.insts ≤ c.nexts
  pub work : c.nexts + c.count ≤ w
