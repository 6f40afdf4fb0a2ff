-- The first instructions of a job's blocks, and the loop that compares them with the written ones. Assumes nothing.
use Prim.Native.Nat.{ℕ, zero, suc, ◌+◌, ◌*◌, ◌≤◌, ◌<◌}
use native.Mathlib.Omega.{arith}
use native.Mathlib.Nat.{add-zero, zero-add}
use mathlib.Core.Path.{◌≡◌, refl, sym, ap, ◌∙◌}
use mathlib.Core.Bool.{false}
use mathlib.Core.List.{List, [], ◌∷◌}
use lib.ListN.{length, get_or, take}
use lib.Seq.{length-take-le, get_or-take}
use Rattle.words.specs.RowsAt.{length_rows_at}
use Rattle.words.specs.Words.{word_count, words_of}
use Rattle.words.specs.Laws.{length_words}
use Rattle.definition.specs.declared.BlockData.{BlockData}
use Rattle.definition.specs.Text.{same}
use Rattle.definition.specs.Entry.{insts_of}
use Rattle.definition.specs.SheetForms.{firsts_from, implied_firsts}
use Rattle.function.specs.Blocks.{block_row, blocks_at, start_of}
use Rattle.function.specs.BlockLaws.{start_mono}
use Rattle.function.proofs.Rows.{row_starts, row_last}
use Rattle.job.specs.declared.Layout.{Layout}
use Rattle.job.specs.Job.{raw_job}
use Rattle.entry_function.proofs.Tables.{raw_blocks}
use Rattle.sheet_verdict.proofs.Agree.{Agree, agree_start, agree_next, agree_stop}

-- ---- the implied ones

firsts_long : (n : ℕ) (bs : List BlockData) → length (firsts_from n bs) ≡ length bs
unfolding firsts_from
firsts_long n [] = refl
firsts_long n (b ∷ bs) = ap suc (firsts_long (n + b.insts) bs)

firsts_at : (n : ℕ) (bs : List BlockData) (j : ℕ) → j < length bs → get_or (firsts_from n bs) j 0 ≡ n + start_of bs j
unfolding firsts_from start_of
firsts_at n [] j h = absurd (omega arith)
firsts_at n (b ∷ bs) zero h = sym (add-zero n)
firsts_at n (b ∷ bs) (suc j) h = let r = firsts_at (n + b.insts) bs j (omega arith) in omega arith

module _ (W : List ℕ) (lay : Layout) where
  -- the blocks of the job
  abbrev pub blocks_of : List BlockData
  blocks_of = blocks_at W lay.blocks.at lay.blocks.n

  -- its first instructions
  abbrev pub firsts_of : List ℕ
  firsts_of = implied_firsts (raw_job W lay)

  blocks_long : length blocks_of ≡ lay.blocks.n
  blocks_long = length_rows_at block_row W lay.blocks.at 2 lay.blocks.n

  implied_is : firsts_of ≡ firsts_from 0 blocks_of
  unfolding implied_firsts
  implied_is = ap (λ (bs : List BlockData). firsts_from 0 bs) (raw_blocks W lay)

  implied_long : length firsts_of ≡ lay.blocks.n
  implied_long = ap length implied_is ∙ firsts_long 0 blocks_of ∙ blocks_long

  implied_at : (j : ℕ) → j < lay.blocks.n → start_of blocks_of j ≡ get_or firsts_of j 0
  implied_at j h =
      sym (ap (λ (l : List ℕ). get_or l j 0) implied_is
      ∙ firsts_at 0 blocks_of j (rw blocks_long h)
      ∙ zero-add (start_of blocks_of j))

-- ---- the loop

-- the first i blocks are compared with the written words X, and f is the number of their instructions
pub record Comparing (X W : List ℕ) (lay : Layout) (i f : ℕ) : Type 0 where
  pub within : i ≤ lay.blocks.n
  pub first : f ≡ start_of (blocks_of W lay) i
  pub agree : Agree (take lay.blocks.n X) (firsts_of W lay) lay.blocks.n i

pub firsts_start : (x W : List ℕ) (lay : Layout) → lay.blocks.n ≤ word_count x → Comparing (words_of x) W lay 0 0
unfolding start_of
firsts_start x W lay h =
    let l : lay.blocks.n ≤ length (words_of x) = omega (arith, length_words x) in
    record {
      within = omega arith;
      first = refl;
      agree = agree_start _ _ lay.blocks.n (length-take-le lay.blocks.n (words_of x) l) (implied_long W lay);
    }

module _ {X W : List ℕ} {lay : Layout} {i f : ℕ} (c : Comparing X W lay i f) where
  -- x is the word written for block i
  module _ (h : i < lay.blocks.n) (x : ℕ) (e : x ≡ get_or X i 0) where
    written_at : x ≡ get_or (take lay.blocks.n X) i 0
    written_at = e ∙ sym (get_or-take lay.blocks.n X i 0 h)

    first_at : f ≡ get_or (firsts_of W lay) i 0
    first_at = c.first ∙ implied_at W lay i h

    pub firsts_stop : (x ≡ f → ⊥) → false ≡ same (take lay.blocks.n X) (firsts_of W lay)
    firsts_stop n = agree_stop c.agree h x f written_at first_at n

    -- y is its number of instructions
    pub firsts_next : x ≡ f → (y : ℕ) → y ≡ get_or W (lay.blocks.at + i * 2) 0 → Comparing X W lay (i + 1) (f + y)
    firsts_next q y r = record {
      within = omega arith;
      first = omega (arith, c.first, row_starts W lay.blocks.at lay.blocks.n i h);
      agree = agree_next c.agree h x f written_at first_at q;
    }

  -- the sum with one more block is at most the number of all instructions
  module _ (h : i < lay.blocks.n) (y : ℕ) (r : y ≡ get_or W (lay.blocks.at + i * 2) 0) where
    pub firsts_few : f + y ≤ insts_of (blocks_of W lay)
    firsts_few =
        let n = lay.blocks.n in
        let next = row_starts W lay.blocks.at n i h in
        let up = start_mono (blocks_of W lay) (i + 1) n (omega arith) (omega (arith, blocks_long W lay)) in
        omega (arith, c.first, next, up, row_last W lay.blocks.at n)
