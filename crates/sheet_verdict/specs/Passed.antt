-- What the comparison reads off a job that passed the entry tests. Assumes nothing.
use Rattle.std.specs.Prelude.{ℕ, ◌≤◌, List}
use Rattle.words.specs.Words.{word_count, words_of}
use Rattle.definition.specs.Limits.{max_insts, max_blocks, max_segments}
use Rattle.definition.specs.Entry.{insts_of}
use Rattle.function.specs.Blocks.{blocks_at}
use Rattle.job.specs.declared.Layout.{Layout}
use Rattle.job.specs.Layout.{Fits}
use Rattle.job.specs.declared.work.WorkLayout.{WorkLayout}
use Rattle.entry.specs.Accepted.{Accepted}

-- the tables of the job s lie within it, and it has no more instructions, blocks and segments than test 2 lets pass
pub record Passed (s : List ℕ) (lay : Layout) : Type 0 where
  pub fits : Fits (word_count s) lay
  pub insts : insts_of (blocks_at (words_of s) lay.blocks.at lay.blocks.n) ≤ max_insts
  pub blocks : lay.blocks.n ≤ max_blocks
  pub segments : lay.segments.n ≤ max_segments

-- so it is with an accepted job
pub accepted_passed : {s K : List ℕ} {lay : Layout} {wl : WorkLayout} {n : ℕ} → Accepted s K lay wl n → Passed s lay
accepted_passed a = record {
  fits = a.shaped.fits;
  insts = a.limited.insts;
  blocks = a.limited.blocks;
  segments = a.limited.segments;
}
