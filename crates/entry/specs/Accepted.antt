-- What entry leaves of an accepted job. Assumes nothing.
use Rattle.std.specs.Prelude.{ℕ, ◌+◌, ◌<◌, ◌≡◌, true, List, get_or, replicate}
use Rattle.std.proofs.Math.Option.{none}
use Rattle.words.specs.Parts.{splice}
use Rattle.words.specs.RowsAt.{rows_at}
use Rattle.words.specs.Words.{words_of}
use Rattle.definition.specs.Entry.{insts_of, apart, same_place, chained, not_after, entry}
use Rattle.function.specs.Blocks.{blocks_at, start_words, Starts}
use Rattle.hints.specs.Hints.{hint_at}
use Rattle.values.specs.OperandRows.{operands_at}
use Rattle.values.specs.Chains.{Under, Chained}
use Rattle.job.specs.declared.Layout.{Layout}
use Rattle.job.specs.Job.{raw_job, job_of}
use Rattle.job_shape.specs.Shape.{Shaped}
use Rattle.entry_book.specs.Limits.{Limited}
use Rattle.entry_book.specs.Book.{Booked}
use Rattle.entry_uses.specs.ListTests.{Rising}
use Rattle.job.specs.declared.work.WorkLayout.{WorkLayout}
use Rattle.job.specs.Regions.{max_work, Regions, chains_in}

-- The job of the bytes s is accepted, and the work words K hold the index of its operands by its n instructions.
pub record Accepted (s K : List ℕ) (lay : Layout) (wl : WorkLayout) (n : ℕ) : Type 0 where
  pub shaped : Shaped s lay
  pub limited : Limited (words_of s) lay
  pub booked : Booked (words_of s) lay
  pub accepted : entry (raw_job (words_of s) lay) ≡ none
  -- every field of a use fits its type
  pub same : raw_job (words_of s) lay ≡ job_of (words_of s) lay
  pub insts : n ≡ insts_of (blocks_at (words_of s) lay.blocks.at lay.blocks.n)
  pub regions : Regions max_work lay n wl
  -- the index of the operands
  pub index : Chained K (chains_in lay wl) (operands_at (words_of s) lay.operands.at lay.operands.n)
  pub under : Under n (operands_at (words_of s) lay.operands.at lay.operands.n)
  pub single : apart same_place (operands_at (words_of s) lay.operands.at lay.operands.n) ≡ true
  -- the use counts of the segments, and the order of the hints
  pub rising : Rising (words_of s) lay
  pub sorted : chained not_after (rows_at hint_at (words_of s) lay.hints.at 3 lay.hints.n) ≡ true

-- no operand is mapped and no use turned, and the table of block starts is made
pub record Prepared (W K : List ℕ) (lay : Layout) (wl : WorkLayout) : Type 0 where
  pub mapping : (k : ℕ) → k < lay.operands.n → get_or K (wl.mapping + k) 0 ≡ 0
  pub starts : Starts K wl.starts (blocks_at W lay.blocks.at lay.blocks.n)
  pub marks : (k : ℕ) → k < lay.uses.n → get_or K (wl.marks + k) 0 ≡ 0

-- the words that this writes
abbrev pub prepared : List ℕ → List ℕ → Layout → WorkLayout → List ℕ
prepared W K lay wl =
    splice (splice (splice K wl.mapping (replicate lay.operands.n 0)) wl.starts (start_words W lay.blocks.at lay.blocks.n)) wl.marks (replicate lay.uses.n 0)
