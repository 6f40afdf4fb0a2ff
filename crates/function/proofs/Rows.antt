-- A block row read, and one turn of each loop over block rows. Assumes nothing.
use Prim.Native.Nat.{ℕ, ◌+◌, ◌*◌, ◌≤◌, ◌<◌}
use native.Mathlib.Omega.{arith}
use native.Mathlib.Numerals.{add-one}
use mathlib.Core.Path.{◌≡◌, refl, sym, ap, ◌∙◌}
use mathlib.Core.Bool.{Bool, false}
use mathlib.Core.List.{List}
use lib.ListN.{get_or}
use lib.Ieee.{binary32, of_bits}
use borrow.Author.Tests.{le-leb, lt-leb}
use Rattle.definition.specs.declared.BlockData.{BlockData}
use Rattle.definition.specs.Entry.{insts_of, block_ok, plain}
use Rattle.words.specs.RowsAt.{length_rows_at, get_or_rows_at}
use Rattle.function.specs.Blocks.{block_row, blocks_at, start_of, block_at, no_block}
use Rattle.function.specs.BlockLaws.{start_next, start_last}

-- ---- one block's test

pub block_bad : (W : List ℕ) (i x : ℕ) → x ≡ get_or W i 0 → x < 1 → false ≡ block_ok (block_row W i)
unfolding block_ok block_row
block_bad W i x e h = rw (← e, lt-leb 1 x h)

pub block_good : (W : List ℕ) (i x y : ℕ) (t : Bool) → x ≡ get_or W i 0 → 1 ≤ x → y ≡ get_or W (i + 1) 0 → t ≡ plain (of_bits binary32 y) → t ≡ block_ok (block_row W i)
unfolding block_ok block_row
block_good W i x y t e h f g = rw (← e, ← f, le-leb 1 x h) g

-- ---- the sum of the counts

pub row_insts : (W : List ℕ) (at n j : ℕ) → j < n → (block_at (blocks_at W at n) j).insts ≡ get_or W (at + j * 2) 0
unfolding block_at block_row
row_insts W at n j h = ap (λ (b : BlockData). b.insts) (get_or_rows_at block_row W at 2 n j no_block h)

pub row_starts : (W : List ℕ) (at n j : ℕ) → j < n → start_of (blocks_at W at n) (j + 1) ≡ start_of (blocks_at W at n) j + get_or W (at + j * 2) 0
row_starts W at n j h =
    ap (λ (k : ℕ). start_of (blocks_at W at n) k) (add-one j)
    ∙ start_next (blocks_at W at n) j (omega (arith, length_rows_at block_row W at 2 n))
    ∙ ap (λ (k : ℕ). start_of (blocks_at W at n) j + k) (row_insts W at n j h)

pub row_last : (W : List ℕ) (at n : ℕ) → start_of (blocks_at W at n) n ≡ insts_of (blocks_at W at n)
row_last W at n = ap (λ (k : ℕ). start_of (blocks_at W at n) k) (sym (length_rows_at block_row W at 2 n)) ∙ start_last (blocks_at W at n)

-- t is the number of instructions of the first i blocks
pub record Counting (W : List ℕ) (at n i t : ℕ) : Type 0 where
  pub within : i ≤ n
  pub is : t ≡ start_of (blocks_at W at n) i
  pub below : t ≤ i * 4294967296

pub count_first : (W : List ℕ) (at n : ℕ) → Counting W at n 0 0
unfolding start_of
count_first W at n = record { within = omega arith; is = refl; below = omega arith }

pub count_next : {W : List ℕ} {at n i t : ℕ} (x y : ℕ) → Counting W at n i t → i < n → x ≡ get_or W (at + i * 2) 0 → x < 4294967296 → y ≡ x → Counting W at n (i + 1) (t + y)
count_next {W} {at} {n} {i} {t} x y c h e l f =
    record { within = omega arith; is = omega (arith, c.is, row_starts W at n i h); below = omega (arith, c.below) }

pub count_last : {W : List ℕ} {at n i t : ℕ} → Counting W at n i t → n ≤ i → t ≡ insts_of (blocks_at W at n)
count_last {W} {at} {n} {i} {t} c h =
    let e : i ≡ n = omega (arith, c.within) in
    c.is ∙ ap (λ (k : ℕ). start_of (blocks_at W at n) k) e ∙ row_last W at n
