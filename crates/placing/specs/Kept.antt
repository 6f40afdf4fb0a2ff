-- What a weight asks of the work slice stays where only words of the mapping change. Assumes nothing.
use Rattle.std.specs.Prelude.{◌≡◌, List, ℕ}
use Rattle.std.proofs.Common.{arith}
use Rattle.words.specs.Words.{word_count, words_of}
use Rattle.job.specs.declared.Layout.{Layout}
use Rattle.job.specs.Job.{job_by, job_of}
use Rattle.job.specs.declared.work.WorkLayout.{WorkLayout}
use Rattle.constraints.specs.Ready.{Ready}
use Rattle.vreg_weight.specs.Book.{SmallBook}
use Rattle.vreg_weight.specs.Weighed.{Weighable}

-- an accepted job with its work slice can be weighed
pub weighable : (job work : List ℕ) (lay : Layout) (wl : WorkLayout) → Ready (word_count job) (word_count work) (words_of job) (words_of work) lay wl → SmallBook (words_of job) lay
    → Weighable job lay work wl.starts
unfolding job_of job_by
weighable job work lay wl r b = record { fits = r.fits; book = b; filled = r.some_block; few = r.few_blocks; room = r.room; table = r.starts }

pub weighable_kept : (t w : ℕ) (job work work₁ : List ℕ) (lay : Layout) (wl : WorkLayout) → Weighable job lay work wl.starts → Ready t w (words_of job) (words_of work₁) lay wl → word_count work₁ ≡ word_count work
    → Weighable job lay work₁ wl.starts
unfolding job_of job_by
weighable_kept t w job work work₁ lay wl k r e =
    record {
      fits = k.fits;
      book = k.book;
      filled = k.filled;
      few = k.few;
      room = omega (arith, k.room);
      table = r.starts;
    }
