-- The four bytes stored are a word, the words stored in turn a row. Assumes nothing.
use Rattle.std.proofs.Common.{◌≡◌, List, ℕ, ◌+◌, ◌-◌, ◌*◌, ◌/◌, ◌%◌, ◌^◌, ◌≤◌, ◌<◌, length, get_or, set, sym, ap, ◌∙◌, arith, take_all, drop-drop}
use Rattle.std.proofs.Math.Seq.{paste}
use Rattle.std.specs.Int.{w32, to_le_bytes}
use borrow.Rule.Slice.PartMut.{put_mid}
use Rattle.std.proofs.lemmas.List.Edits.{paste_more}
use Rattle.words.specs.Parts.{splice, splice_paste}
use Rattle.words.specs.Moves.{stores_4}
use Rattle.words.specs.Words.{word_count, words_of}
use Rattle.words.specs.Laws.{length_words, word_set}

-- the bytes of x put over those of word i
pub word_stored : (s p : List ℕ) (i x : ℕ) → i < word_count s → x < 2 ^ 32 → p ≡ to_le_bytes w32 x
    → words_of (put_mid (i * 4) (i * 4 + 4 - i * 4) s p) ≡ set (words_of s) i x
unfolding splice
word_stored s p i x h l e =
    let at = i * 4 in
    let k : at + 4 - at ≡ 4 = omega arith in
    let top : x / 16777216 % 256 ≡ x / 16777216 = omega arith in
    let stores = stores_4 s at (x % 256) (x / 256 % 256) (x / 65536 % 256) (x / 16777216 % 256) (omega arith) in
    rw (e, k, drop-drop 4 at s) (ap words_of (sym stores) ∙ rw top (word_set s i x h))

-- s holds the first k words of row at word i
pub stored_next : (s : List ℕ) (row : List ℕ) {w w' : List ℕ} (i k n : ℕ) → w ≡ paste (words_of s) i row k → w' ≡ set w (i + k) (get_or row k 0)
    → i + n ≤ word_count s → n ≡ length row → k < n → w' ≡ paste (words_of s) i row (k + 1)
stored_next s row i k n e f h l m =
    f ∙ ap (λ w. set w (i + k) (get_or row k 0)) e ∙ paste_more (words_of s) i row k 0 (omega (arith, length_words s)) (omega arith)

pub stored_all : (s : List ℕ) (row : List ℕ) {w : List ℕ} (i k n : ℕ) → w ≡ paste (words_of s) i row k → n ≡ length row → k ≤ n → n ≤ k → w ≡ splice (words_of s) i row
stored_all s row i k n e l h m =
    e ∙ splice_paste (words_of s) i row k (omega arith) ∙ ap (splice (words_of s) i) (take_all k row (omega arith))
