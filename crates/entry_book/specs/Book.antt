-- Test 3 by the words of a job. Assumes nothing.
use Rattle.std.specs.Prelude.{ℕ, ◌+◌, ◌*◌, ◌≤◌, ◌<◌, Bool, List, [], ◌∷◌, get_or}
use Rattle.std.specs.Float.{binary32}
use Rattle.std.specs.Float.Ieee.{of_bits}
use Rattle.definition.specs.Entry.{small}
use Rattle.job.specs.declared.Layout.{Layout}

-- the three scales, of options that begin at word i
abbrev pub scale_tests : List ℕ → ℕ → List Bool
scale_tests W i = small (of_bits binary32 (get_or W (i + 1) 0)) ∷ small (of_bits binary32 (get_or W (i + 2) 0)) ∷ small (of_bits binary32 (get_or W (i + 3) 0)) ∷ []

-- what test 3 gives to those behind it: top classes and values' banks are known, and the bits of every cost and scale are those of a value from 0 to 2^20
pub record Booked (W : List ℕ) (lay : Layout) : Type 0 where
  pub tops : (i : ℕ) → i < lay.banks.n → get_or W (lay.banks.at + i) 0 < lay.classes.n
  pub owners : (i : ℕ) → i < lay.values.n → get_or W (lay.values.at + i * 3) 0 < lay.banks.n
  pub costs : (i : ℕ) → i < lay.classes.n → get_or W (lay.classes.at + i * 4 + 1) 0 ≤ 0x4980_0000
  pub cheaper_than_move : get_or W (lay.opts + 1) 0 ≤ 0x4980_0000
  pub cheaper_than_load : get_or W (lay.opts + 2) 0 ≤ 0x4980_0000
  pub indirect : get_or W (lay.opts + 3) 0 ≤ 0x4980_0000
