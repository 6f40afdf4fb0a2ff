-- One turn of each loop over the table of block starts. Assumes nothing.
use Prim.Native.Nat.{ℕ, zero, suc, ◌+◌, ◌-◌, ◌*◌, ◌≤◌, ◌<◌}
use native.Mathlib.Omega.{arith}
use native.Mathlib.Numerals.{add-one}
use mathlib.Core.Path.{◌≡◌, refl, sym, ap, ◌∙◌, subst}
use mathlib.Core.List.{List, [], ◌∷◌, ◌++◌}
use lib.ListN.{length, get_or, set, length-append}
use Rattle.definition.specs.declared.BlockData.{BlockData}
use Rattle.definition.specs.Entry.{insts_of}
use Rattle.words.specs.Parts.{splice, splice_none, splice_splice, length_splice}
use Rattle.words.specs.Moves.{store_1}
use Rattle.words.specs.RowsAt.{length_rows_at}
use Rattle.words.specs.Words.{word_count, words_of}
use Rattle.words.specs.Laws.{length_words}
use Rattle.function.specs.Blocks.{block_row, blocks_at, start_of, block_of, start_rows, start_words, Starts}
use Rattle.function.specs.BlockLaws.{start_mono, start_last, block_found}
use Rattle.function.proofs.Rows.{row_starts, row_last}

-- ---- a row of two words stored

pub stored_2 : (s : List ℕ) {w₁ w₂ : List ℕ} (i a b : ℕ) → w₁ ≡ set (words_of s) i a → w₂ ≡ set w₁ (i + 1) b → i + 2 ≤ word_count s → w₂ ≡ splice (words_of s) i (a ∷ b ∷ [])
stored_2 s {w₁} i a b e f h =
    let g : w₁ ≡ splice (words_of s) i (a ∷ []) = e ∙ store_1 (words_of s) i a (omega (arith, length_words s)) in
    let l : length w₁ ≡ length (words_of s) = ap length g ∙ length_splice (words_of s) i (a ∷ []) (omega (arith, length_words s)) in
    f ∙ store_1 w₁ (i + 1) b (omega (arith, length_words s)) ∙ ap (λ (w : List ℕ). splice w (i + 1) (b ∷ [])) g
    ∙ splice_splice (words_of s) i (a ∷ []) (b ∷ []) (omega (arith, length_words s))

-- ---- the table made

pub length_start_rows : (W : List ℕ) (from n j : ℕ) → length (start_rows W from n j) ≡ j * 2
unfolding start_rows
length_start_rows W from n zero = refl
length_start_rows W from n (suc j) =
    length-append (start_rows W from n j) (start_of (blocks_at W from n) j ∷ get_or W (from + j * 2 + 1) 0 ∷ []) ∙ (let r = length_start_rows W from n j in omega arith)

-- i rows are put, and `first` is the start of block i
pub record Putting (rows : List ℕ) (from n : ℕ) (s₀ : List ℕ) (at i first : ℕ) (s : List ℕ) : Type 0 where
  pub within : i ≤ n
  pub long : length s ≡ length s₀
  pub sum : first ≡ start_of (blocks_at (words_of rows) from n) i
  pub is : words_of s ≡ splice (words_of s₀) at (start_rows (words_of rows) from n i)

pub put_first : (rows : List ℕ) (from n : ℕ) (s : List ℕ) (at : ℕ) → Putting rows from n s at 0 0 s
unfolding start_of start_rows
put_first rows from n s at = record { within = omega arith; long = refl; sum = refl; is = sym (splice_none (words_of s) at) }

-- a row put behind the i rows
put_row : (W D : List ℕ) (from n at i a b : ℕ) → at + i * 2 + 2 ≤ length D
    → splice (splice D at (start_rows W from n i)) (at + i * 2) (a ∷ b ∷ []) ≡ splice D at (start_rows W from n i ++ (a ∷ b ∷ []))
put_row W D from n at i a b h =
    let l = length_start_rows W from n i in
    ap (λ (k : ℕ). splice (splice D at (start_rows W from n i)) (at + k) (a ∷ b ∷ [])) (sym l)
    ∙ splice_splice D at (start_rows W from n i) (a ∷ b ∷ []) (omega (arith, l))

pub put_fits : {rows s₀ s : List ℕ} {from n at i first : ℕ} (x : ℕ) → Putting rows from n s₀ at i first s → i < n → x ≡ get_or (words_of rows) (from + i * 2) 0
    → first + x ≤ insts_of (blocks_at (words_of rows) from n)
put_fits {rows} {s₀} {s} {from} {n} {at} {i} {first} x p h e =
    let bs = blocks_at (words_of rows) from n in
    omega (arith, p.sum, row_starts (words_of rows) from n i h, row_last (words_of rows) from n, start_mono bs (i + 1) n (omega arith) (omega (arith, length_rows_at block_row (words_of rows) from 2 n)))

pub put_next : {rows s₀ s s' : List ℕ} {from n at i first : ℕ} (x y : ℕ) → Putting rows from n s₀ at i first s → i < n → at + n * 2 + 2 ≤ word_count s₀
    → y ≡ get_or (words_of rows) (from + i * 2 + 1) 0 → words_of s' ≡ splice (words_of s) (at + i * 2) (first ∷ y ∷ []) → length s' ≡ length s
    → x ≡ get_or (words_of rows) (from + i * 2) 0 → Putting rows from n s₀ at (i + 1) (first + x) s'
unfolding start_rows
put_next {rows} {s₀} {s} {s'} {from} {n} {at} {i} {first} x y p h r ey es l ex =
    record {
      within = omega arith;
      long = l ∙ p.long;
      sum = omega (arith, p.sum, row_starts (words_of rows) from n i h);
      is =
          es ∙ ap (λ (w : List ℕ). splice w (at + i * 2) (first ∷ y ∷ [])) p.is
          ∙ put_row (words_of rows) (words_of s₀) from n at i first y (omega (arith, length_words s₀))
          ∙ rw (add-one, p.sum, ey);
    }

pub put_last : {rows s₀ s : List ℕ} {from n at i first : ℕ} (w : List ℕ) → Putting rows from n s₀ at i first s → n ≤ i → at + n * 2 + 2 ≤ word_count s₀
    → w ≡ splice (words_of s) (at + n * 2) (first ∷ 0 ∷ []) → w ≡ splice (words_of s₀) at (start_words (words_of rows) from n)
unfolding start_words
put_last {rows} {s₀} {s} {from} {n} {at} {i} {first} w p h r es =
    let e : i ≡ n = omega (arith, p.within) in
    let q : Putting rows from n s₀ at n first s = subst (λ (k : ℕ). Putting rows from n s₀ at k first s) e p in
    es ∙ ap (λ (d : List ℕ). splice d (at + n * 2) (first ∷ 0 ∷ [])) q.is
    ∙ put_row (words_of rows) (words_of s₀) from n at n first 0 (omega (arith, length_words s₀))
    ∙ ap (λ (k : ℕ). splice (words_of s₀) at (start_rows (words_of rows) from n n ++ (k ∷ 0 ∷ []))) q.sum

-- ---- the search: the instruction is in one of the blocks from `low` up to `high`

pub record Between (W : List ℕ) (at n i low high : ℕ) : Type 0 where
  pub apart : low < high
  pub within : high ≤ n
  pub above : (bs : List BlockData) → Starts W at bs → length bs ≡ n → i < insts_of bs → start_of bs low ≤ i
  pub below : (bs : List BlockData) → Starts W at bs → length bs ≡ n → i < insts_of bs → i < start_of bs high

pub find_first : (W : List ℕ) (at n i : ℕ) → 0 < n → Between W at n i 0 n
unfolding start_of
find_first W at n i h =
    record {
      apart = h;
      within = omega arith;
      above = λ bs s l u. omega arith;
      below = λ bs s l u. omega (arith, u, start_last bs, ap (λ (k : ℕ). start_of bs k) l);
    }

pub find_last : {W : List ℕ} {at n i low high : ℕ} → Between W at n i low high → high - low ≤ 1
    → (bs : List BlockData) → Starts W at bs → length bs ≡ n → i < insts_of bs → low ≡ block_of bs i
find_last {W} {at} {n} {i} {low} {high} b h bs s l u =
    let e : high ≡ suc low = omega (arith, b.apart) in
    block_found bs low i (omega (arith, b.apart, b.within)) (b.above bs s l u) (omega (arith, b.below bs s l u, ap (λ (k : ℕ). start_of bs k) e))
