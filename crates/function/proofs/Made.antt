-- What `put_starts` puts is the table of starts of the blocks. Assumes nothing.
use Prim.Native.Nat.{ℕ, zero, suc, ◌+◌, ◌*◌, ◌≤◌, ◌<◌}
use native.Mathlib.Omega.{arith}
use native.Mathlib.Nat.{eq-or-lt_of_le}
use mathlib.Core.Path.{◌≡◌, sym, ap, ◌∙◌, subst}
use mathlib.Core.Logic.{◌⊎◌, inl, inr}
use mathlib.Core.Bool.{true}
use mathlib.Core.List.{List, [], ◌∷◌, ◌++◌}
use lib.ListN.{length, get_or, length-append, get_or-append}
use lib.Ieee.{binary32, of_bits}
use borrow.Author.Tests.{ltb-true}
use Rattle.definition.specs.declared.BlockData.{BlockData}
use Rattle.definition.specs.Entry.{block_ok, every, plain}
use Rattle.words.specs.Parts.{splice, get_or_splice_in, get_d_past}
use Rattle.words.specs.RowsAt.{length_rows_at, get_or_rows_at}
use Rattle.weights.proofs.Bits.{plain_test}
use Rattle.function.specs.Blocks.{block_row, blocks_at, block_at, no_block, start_of, start_rows, start_words, Starts}
use Rattle.function.specs.BlockLaws.{block_filled, block_plain, each_passes}
use Rattle.function.specs.declared.starts.table.BlockStarts.{BlockStarts}
use Rattle.function.specs.Table.{words_in, Encodes}
use Rattle.function.proofs.Loops.{length_start_rows}

-- ---- a word of the table

row_word : (W : List ℕ) (from n m j k : ℕ) → j < m → k < 2
    → get_or (start_rows W from n m) (j * 2 + k) 0 ≡ get_or (start_of (blocks_at W from n) j ∷ get_or W (from + j * 2 + 1) 0 ∷ []) k 0
unfolding start_rows
row_word W from n zero j k h l = absurd (omega arith)
row_word W from n (suc m) j k h l = go (eq-or-lt_of_le (below j m h)) (λ g. row_word W from n m j k g l)
  where
    below : (j m : ℕ) → j < suc m → j ≤ m
    below j m h = omega arith

    row : ℕ → List ℕ
    row i = start_of (blocks_at W from n) i ∷ get_or W (from + i * 2 + 1) 0 ∷ []

    go : (j ≡ m) ⊎ (j < m) → (j < m → get_or (start_rows W from n m) (j * 2 + k) 0 ≡ get_or (row j) k 0)
        → get_or (start_rows W from n m ++ row m) (j * 2 + k) 0 ≡ get_or (row j) k 0
    go (inl e) f =
        get_d_past (start_rows W from n m) (row m) (j * 2 + k) k 0 (omega (arith, e, length_start_rows W from n m))
        ∙ ap (λ (i : ℕ). get_or (row i) k 0) (sym e)
    go (inr g) f = get_or-append (start_rows W from n m) (row m) 0 (j * 2 + k) (omega (arith, g, length_start_rows W from n m)) ∙ f g

word_in : (W : List ℕ) (from n j k : ℕ) → j < n → k < 2 → get_or (start_words W from n) (j * 2 + k) 0 ≡ get_or (start_of (blocks_at W from n) j ∷ get_or W (from + j * 2 + 1) 0 ∷ []) k 0
unfolding start_words
word_in W from n j k h l =
    get_or-append (start_rows W from n n) (start_of (blocks_at W from n) n ∷ 0 ∷ []) 0 (j * 2 + k) (omega (arith, length_start_rows W from n n)) ∙ row_word W from n n j k h l

word_last : (W : List ℕ) (from n : ℕ) → get_or (start_words W from n) (n * 2 + 0) 0 ≡ start_of (blocks_at W from n) n
unfolding start_words
word_last W from n = get_d_past (start_rows W from n n) (start_of (blocks_at W from n) n ∷ 0 ∷ []) (n * 2 + 0) 0 0 (omega (arith, length_start_rows W from n n))

pub length_start_words : (W : List ℕ) (from n : ℕ) → length (start_words W from n) ≡ n * 2 + 2
unfolding start_words
length_start_words W from n =
    length-append (start_rows W from n n) (start_of (blocks_at W from n) n ∷ 0 ∷ []) ∙ ap (λ (k : ℕ). k + 2) (length_start_rows W from n n)

-- ---- the table

module _ (T₀ W : List ℕ) (at from n : ℕ) (room : at + n * 2 + 2 ≤ length T₀) where
  read : (i k : ℕ) → i < n * 2 + 2 → at + i ≡ k → get_or (splice T₀ at (start_words W from n)) k 0 ≡ get_or (start_words W from n) i 0
  read i k h e =
      ap (λ (m : ℕ). get_or (splice T₀ at (start_words W from n)) m 0) (sym e)
      ∙ get_or_splice_in T₀ at (start_words W from n) (omega (arith, length_start_words W from n)) i 0 (omega (arith, length_start_words W from n))

  read_first : (j : ℕ) → j ≤ n → get_or (splice T₀ at (start_words W from n)) (at + j * 2) 0 ≡ start_of (blocks_at W from n) j
  read_first j h = go (eq-or-lt_of_le h)
    where
      go : (j ≡ n) ⊎ (j < n) → get_or (splice T₀ at (start_words W from n)) (at + j * 2) 0 ≡ start_of (blocks_at W from n) j
      go (inl e) = subst (λ (k : ℕ). get_or (splice T₀ at (start_words W from n)) (at + k * 2) 0 ≡ start_of (blocks_at W from n) k) (sym e) (read (n * 2 + 0) (at + n * 2) (omega arith) (omega arith) ∙ word_last W from n)
      go (inr g) = read (j * 2 + 0) (at + j * 2) (omega arith) (omega arith) ∙ word_in W from n j 0 g (omega arith)

  read_bits : (j : ℕ) → j < n → get_or (splice T₀ at (start_words W from n)) (at + j * 2 + 1) 0 ≡ get_or W (from + j * 2 + 1) 0
  read_bits j h = read (j * 2 + 1) (at + j * 2 + 1) (omega arith) (omega arith) ∙ word_in W from n j 1 h (omega arith)

  module _ (small : (i : ℕ) → get_or W i 0 < 4294967296) (ok : every block_ok (blocks_at W from n) ≡ true) where
    block_is : (j : ℕ) → j < n → block_at (blocks_at W from n) j ≡ block_row W (from + j * 2)
    unfolding block_at
    block_is j h = get_or_rows_at block_row W from 2 n j no_block h

    row_ok : (j : ℕ) → j < n → block_ok (block_at (blocks_at W from n) j) ≡ true
    row_ok j h = each_passes (blocks_at W from n) j ok (omega (arith, length_rows_at block_row W from 2 n))

    row_plain : (j : ℕ) → j < n → plain (of_bits binary32 (get_or W (from + j * 2 + 1) 0)) ≡ true
    unfolding block_row
    row_plain j h = sym (ap (λ (b : BlockData). plain b.frequency) (block_is j h)) ∙ block_plain (block_at (blocks_at W from n) j) (row_ok j h)

    pub starts_made : Starts (splice T₀ at (start_words W from n)) at (blocks_at W from n)
    unfolding block_row
    starts_made =
        let long = length_rows_at block_row W from 2 n in
        record {
          first = λ j h. read_first j (omega (arith, long));
          bits = λ j h. ap (λ (w : ℕ). of_bits binary32 w) (read_bits j (omega (arith, long))) ∙ sym (ap (λ (b : BlockData). b.frequency) (block_is j (omega (arith, long))));
          finite = λ j h.
              let l : j < n = omega (arith, long) in
              let w = get_or W (from + j * 2 + 1) 0 in
              let b : w < 2139095040 = ltb-true w 2139095040 (plain_test w (small (from + j * 2 + 1)) ∙ row_plain j l) in
              omega (arith, read_bits j l);
          filled = λ j h. block_filled (block_at (blocks_at W from n) j) (row_ok j (omega (arith, long)));
        }

-- the table t, made from the rows of W over the words T₀
pub table_made : (t : BlockStarts) (T₀ W : List ℕ) (from : ℕ) → words_in t ≡ splice T₀ t.at (start_words W from t.n)
    → t.at + t.n * 2 + 2 ≤ length T₀ → ((i : ℕ) → get_or W i 0 < 4294967296) → every block_ok (blocks_at W from t.n) ≡ true
    → Encodes t (blocks_at W from t.n)
table_made t T₀ W from e room small ok =
    record {
      starts =
          subst (λ (T : List ℕ). Starts T t.at (blocks_at W from t.n)) (sym e)
          (starts_made T₀ W t.at from t.n room small ok);
      long = length_rows_at block_row W from 2 t.n;
    }
