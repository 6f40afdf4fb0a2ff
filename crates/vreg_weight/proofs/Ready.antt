-- A job that the entry rules accept, with the table of its block starts, can be weighed. Assumes nothing.
use mathlib.Core.Path.{◌≡◌}
use mathlib.Core.Option.{none}
use mathlib.Core.List.{List}
use Prim.Native.Nat.{ℕ, ◌+◌, ◌*◌, ◌≤◌, ◌<◌}
use native.Mathlib.Omega.{arith}
use lib.ListN.{get_or}
use Rattle.words.specs.Words.{word_count, words_of}
use Rattle.words.specs.Laws.{words_small}
use Rattle.definition.specs.Entry.{entry}
use Rattle.function.specs.Blocks.{Starts}
use Rattle.job.specs.declared.Layout.{Layout}
use Rattle.job.specs.Layout.{Fits}
use Rattle.definition.proofs.Entries.{accepted_blocks}
use Rattle.vreg_weight.proofs.Accepted.{accepted_book}
use Rattle.vreg_weight.specs.Weighed.{job_in, Weighable}
use Rattle.vreg_weight.proofs.Sums.{blocks_long}

-- a slice of bytes is one of numbers below 256
pub accepted_weighable : (job : List ℕ) (lay : Layout) (work : List ℕ) (starts : ℕ) → ((i : ℕ) → get_or job i 0 < 256) → Fits (word_count job) lay → entry (job_in job lay) ≡ none
    → 0 < lay.blocks.n → starts + lay.blocks.n * 2 + 2 ≤ word_count work → Starts (words_of work) starts (job_in job lay).blocks → Weighable job lay work starts
accepted_weighable job lay work starts b f e l r s =
    record {
      fits = f;
      book = accepted_book (words_of job) lay (words_small job b) e;
      filled = l;
      few = omega (arith, accepted_blocks (job_in job lay) e, blocks_long (words_of job) lay);
      room = r;
      table = s;
    }
