-- The floats of a job that bytes stand for are f32: each is read from a word. Assumes nothing.
use mathlib.Core.List.{List}
use Prim.Native.Nat.{ℕ, zero, suc, ◌+◌, ◌*◌}
use lib.ListN.{get_or}
use lib.Dec.{T}
use lib.Ieee.{binary32, of_bits, fits}
use lib.Ieee.Bits.{of_bits-fits}
use Rattle.words.specs.Tab.{tab}
use Rattle.words.specs.RowsAt.{rows_at}
use Rattle.words.specs.Words.{words_of}
use Rattle.definition.proofs.Places.{All}
use Rattle.reginfo.specs.Rows.{class_row, classes_at}
use Rattle.function.specs.Blocks.{block_row}
use Rattle.job.specs.Layout.{options_row}
use Rattle.job.specs.declared.Layout.{Layout}
use Rattle.job.specs.Job.{job_by, raw_job}
use Rattle.job_shape.specs.Shape.{layout_of}
use Rattle.job_shape.specs.Answer.{binary_job}
use Rattle.build_answer.specs.Truth.{F32Job}
use Rattle.build_answer.proofs.TruthFloats.{CostFits, FreqFits, f32_job}

tab_all : {A : Type 0} (P : A → Type 0) (f : ℕ → A) → ((k : ℕ) → P (f k)) → (i n : ℕ) → All P (tab f i n)
tab_all P f h i zero = tt
tab_all P f h i (suc n) = (h i, tab_all P f h (i + 1) n)

words_f32 : (W : List ℕ) (lay : Layout) → F32Job (raw_job W lay)
unfolding raw_job job_by options_row classes_at rows_at class_row block_row
words_f32 W lay =
    let word : ℕ → ℕ = λ i. get_or W i 0 in
    let o = lay.opts in
    let c = lay.classes in
    let b = lay.blocks in
    let fit : (i : ℕ) → T (fits binary32 (of_bits binary32 (word i))) = λ i. of_bits-fits binary32 (word i) in
    f32_job (raw_job W lay)
    (record { move = fit (o + 1); load = fit (o + 2); indirect = fit (o + 3) })
    (tab_all CostFits (λ k. class_row W (c.at + k * 4)) (λ k. fit (c.at + k * 4 + 1)) 0 c.n)
    (tab_all FreqFits (λ k. block_row W (b.at + k * 2)) (λ k. fit (b.at + k * 2 + 1)) 0 b.n)

pub binary_f32 : (s : List ℕ) → F32Job (binary_job s)
unfolding binary_job
binary_f32 s = words_f32 (words_of s) (layout_of (words_of s))
