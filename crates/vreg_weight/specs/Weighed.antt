-- What a weight is made from: a job's tables, the table of block starts, uses of the job's instructions. Assumes nothing.
use Rattle.std.specs.Prelude.{◌≡◌, cond, List, eqb, ℕ, ◌+◌, ◌*◌, ◌≤◌, ◌<◌, Float}
use Rattle.std.proofs.Common.{sym, ap, ◌∙◌, arith}
use Rattle.std.proofs.Math.Option.{Option, none, some}
use Rattle.std.specs.Float.{binary32}
use Rattle.std.specs.Float.Ieee.{to_bits, of_bits}
use Rattle.words.specs.Words.{word_count, words_of}
use Rattle.definition.specs.declared.Use.{Use}
use Rattle.definition.specs.declared.VirtReg.{VirtReg}
use Rattle.definition.specs.Types.{Job, State}
use Rattle.definition.specs.Weights.{min_f}
use Rattle.definition.specs.Admit.{register_at}
use Rattle.definition.specs.Entry.{insts_of}
use Rattle.function.specs.Blocks.{Starts}
use Rattle.job.specs.declared.Layout.{Layout}
use Rattle.job.specs.Layout.{Fits}
use Rattle.job.specs.Job.{job_of}
use Rattle.vreg_weight.specs.Book.{SmallBook}
use Rattle.virt_regs.specs.Each.{Each}
use Rattle.virt_regs.specs.Encoding.{Weighs}

-- the job in a slice
abbrev pub job_in : List ℕ → Layout → Job
job_in job lay = job_of (words_of job) lay

-- the tables of the job lie in the slice, its costs are small, and the table of its block starts stands from word `starts` of the work slice on
pub record Weighable (job : List ℕ) (lay : Layout) (work : List ℕ) (starts : ℕ) : Type 0 where
  pub fits : Fits (word_count job) lay
  pub book : SmallBook (words_of job) lay
  pub filled : 0 < lay.blocks.n
  pub few : lay.blocks.n ≤ 512
  pub room : starts + lay.blocks.n * 2 + 2 ≤ word_count work
  pub table : Starts (words_of work) starts (job_in job lay).blocks

-- uses of instructions that the job has
unfoldable pub Inside : Job → List Use → Type 0
Inside J us = Each (λ u. u.pos.0 < insts_of J.blocks) us

-- the bits of a weight, which is no NaN and not negative
abbrev pub BitsOf : ℕ → Float → Type 0
BitsOf r w = (r ≡ to_bits binary32 w) × (of_bits binary32 r ≡ w)

pub bits_weigh : (r : ℕ) (w : Float) → r ≤ 0x7f80_0000 → BitsOf r w → Weighs w
unfolding Weighs
bits_weigh r w h b = (ap (of_bits binary32) (sym b.0) ∙ b.1, omega (arith, b.0))

-- one place of a group: the lesser of w and its member's weight; place i is left out
unfoldable pub lesser_at : State → ℕ → ℕ → Option VirtReg → Float → Float
unfolding min_f register_at
lesser_at st i j none w = w
lesser_at st i j (some r) w = cond (eqb i j) w (min_f w (register_at st r).weight)
