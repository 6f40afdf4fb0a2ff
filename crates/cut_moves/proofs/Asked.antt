-- The cut finder asked again with one frequency word replaced: the bytes then hold the blocks with that frequency
-- replaced, which 01 accepts still, so it answers another instruction exactly if that pattern moves the cut.
-- `word_pattern`, `fair_in`, `asked_again`, `asked_moves`, `moves_asked`. Assumes nothing.
use Prim.Native.Nat.{ℕ, zero, suc, ◌+◌, ◌*◌, ◌/◌, ◌%◌, ◌<◌}
use native.Mathlib.Omega.{arith}
use mathlib.Core.Path.{◌≡◌, refl, sym, ap, ◌∙◌}
use mathlib.Core.Bool.{true, ◌&&◌}
use mathlib.Core.List.{List, [], ◌∷◌}
use lib.Dec.{leb, ltb, eqb}
use lib.ListN.{length, get_or, set}
use lib.Seq.{get_or-set_same, get_or-set_other}
use lib.Ieee.{binary32, of_bits, to_bits}
use borrow.Author.Tests.{ltb-true}
use Rattle.definition.specs.declared.BlockData.{BlockData}
use Rattle.definition.specs.Types.{inst}
use Rattle.definition.specs.Entry.{insts_of, every, block_ok, plain, side_of}
use Rattle.definition.specs.CutMoves.{Moves, with_frequency, infinity, pattern_of}
use Rattle.words.specs.Parts.{splice, length_splice}
use Rattle.words.specs.Moves.{stores_4}
use Rattle.words.specs.RowsAt.{rows_at_cons, rows_at_ext, get_or_rows_at}
use Rattle.words.specs.Words.{words_of, bytes_of, put_word}
use Rattle.words.specs.Laws.{length_words, word_set, words_small}
use Rattle.weights.proofs.Bits.{bits_back, plain_test}
use Rattle.function.specs.Blocks.{block_row, blocks_at, block_at, no_block}
use Rattle.function.specs.BlockLaws.{block_plain, each_passes}
use Rattle.find_cut.specs.Answer.{blocks_in, side_named, readable, cut_of, cut_answer}
use Rattle.find_cut.proofs.Tests.{Passed, passing, count as blocks-many}
use Rattle.find_cut.proofs.Answers.{answered, Admitted, accepted}
use Rattle.find_cut.specs.declared.Cut.{Cut}
use Rattle.split_placement.specs.Promised.{Fair}
use Rattle.split_placement.proofs.Changed.{insts_kept, fair_changed}
use Rattle.cut_moves.specs.Promised.{word_in, with_word, Asked}
use Rattle.cut_moves.proofs.Same.{pattern_at}

-- ---- a frequency word stored, and the blocks then

row_other : (W : List ℕ) (i x k : ℕ) → (k ≡ i → ⊥) → (k + 1 ≡ i → ⊥) → block_row (set W i x) k ≡ block_row W k
unfolding block_row
row_other W i x k n m =
    λ z. record {
      insts = get_or-set_other W i k x 0 n z;
      frequency = of_bits binary32 (get_or-set_other W i (k + 1) x 0 m z);
    }

row_own : (W : List ℕ) (i x k : ℕ) → i < length W → k + 1 ≡ i
    → block_row (set W i x) k ≡ record { insts = (block_row W k).insts; frequency = of_bits binary32 x }
unfolding block_row
row_own W i x k h e =
    let own : get_or (set W i x) (k + 1) 0 ≡ x = ap (λ (m : ℕ). get_or (set W i x) m 0) e ∙ get_or-set_same W i x 0 h in
    λ z. record {
      insts = get_or-set_other W i k x 0 (λ f. omega arith) z;
      frequency = of_bits binary32 (own z);
    }

blocks_set : (W : List ℕ) (i x at n j : ℕ) → i < length W → at + j * 2 + 1 ≡ i → j < n
    → blocks_at (set W i x) at n ≡ with_frequency (blocks_at W at n) j x
unfolding with_frequency
blocks_set W i x at zero j h e l = absurd (omega arith)
blocks_set W i x at (suc n) zero h e l =
    let rest : blocks_at (set W i x) (at + 2) n ≡ blocks_at W (at + 2) n =
    rows_at_ext block_row block_row (set W i x) W (at + 2) (at + 2) 2 n
    (λ k m. row_other W i x (at + 2 + k * 2) (λ f. omega arith) (λ f. omega arith)) in
    rows_at_cons block_row (set W i x) at 2 n ∙ (λ z. row_own W i x at h (omega arith) z ∷ rest z)
    ∙ sym (ap (λ (bs : List BlockData). with_frequency bs 0 x) (rows_at_cons block_row W at 2 n))
blocks_set W i x at (suc n) (suc j) h e l =
    let first = row_other W i x at (λ f. omega arith) (λ f. omega arith) in
    let rest = blocks_set W i x (at + 2) n j h (omega arith) (omega arith) in
    rows_at_cons block_row (set W i x) at 2 n ∙ (λ z. first z ∷ rest z)
    ∙ sym (ap (λ (bs : List BlockData). with_frequency bs (suc j) x) (rows_at_cons block_row W at 2 n))

module _ (s : List ℕ) (j x : ℕ) (h : j < length s / 8) where
  with_put : with_word s j x ≡ put_word s ((j * 2 + 1) * 4) x
  unfolding with_word bytes_of
  with_put =
      let e : j * 8 + 4 ≡ (j * 2 + 1) * 4 = omega arith in
      ap (λ (i : ℕ). splice s i (bytes_of (x ∷ []))) e
      ∙ sym (stores_4 s ((j * 2 + 1) * 4) (x % 256) (x / 256 % 256) (x / 65536 % 256) (x / 16777216) (omega arith))

  length_with : length (with_word s j x) ≡ length s
  unfolding with_word bytes_of
  length_with = length_splice s (j * 8 + 4) (bytes_of (x ∷ [])) (omega arith)

  blocks_with : blocks_in (with_word s j x) ≡ with_frequency (blocks_in s) j x
  blocks_with =
      let i : j * 2 + 1 < length s / 4 = omega arith in
      let w : words_of (with_word s j x) ≡ set (words_of s) (j * 2 + 1) x =
      ap words_of with_put ∙ word_set s (j * 2 + 1) x i in
      (λ z. blocks_at (w z) 0 (length_with z / 8))
      ∙ blocks_set (words_of s) (j * 2 + 1) x 0 (length s / 8) j (omega (arith, length_words s)) (omega arith) h

-- ---- bytes that 01 accepts

-- where no test fails, the finder answers the definition's instruction
answer_is : (s : List ℕ) (a b side : ℕ) → readable s side ≡ true → Passed s a b
    → answered 0 (side_of (side_named side) (blocks_in s) a b) ≡ cut_answer s a b side
unfolding cut_answer cut_of
answer_is s a b side r p =
    let w : Admitted s a b side (side_named side) =
    record {
      read = r;
      none_found = passing s a b _ p.blocks_few refl p.insts_few (sym p.blocks_ok) p.order p.within;
      named = refl;
    } in
    sym (ap cut_of (accepted s a b side (side_named side) _ w refl))

module _ (s : List ℕ) (a b : ℕ) (small : (i : ℕ) → get_or s i 0 < 256) (p : Passed s a b) where
  frequency_in : (j : ℕ) → j < length s / 8 → (block_at (blocks_in s) j).frequency ≡ of_bits binary32 (word_in s j)
  unfolding block_at block_row
  frequency_in j h =
      let z : 0 + j * 2 + 1 ≡ j * 2 + 1 = omega arith in
      ap (λ (d : BlockData). d.frequency) (get_or_rows_at block_row (words_of s) 0 2 (length s / 8) j no_block h)
      ∙ ap (λ (i : ℕ). of_bits binary32 (get_or (words_of s) i 0)) z

  word_finite : (j : ℕ) → j < length s / 8 → word_in s j < infinity
  word_finite j h =
      let ok = each_passes (blocks_in s) j p.blocks_ok (omega (arith, blocks-many s a b)) in
      let q : plain (of_bits binary32 (word_in s j)) ≡ true =
      sym (ap plain (frequency_in j h)) ∙ block_plain (block_at (blocks_in s) j) ok in
      ltb-true (word_in s j) infinity (plain_test (word_in s j) (words_small s small (j * 2 + 1)) ∙ q)

  pub word_pattern : (j : ℕ) → j < length s / 8 → pattern_of (blocks_in s) j ≡ word_in s j
  word_pattern j h =
      pattern_at (blocks_in s) j (omega (arith, blocks-many s a b)) ∙ ap (to_bits binary32) (frequency_in j h)
      ∙ bits_back (word_in s j) (omega (arith, word_finite j h))

  pub fair_in : Fair (blocks_in s) (inst a) (inst b)
  fair_in =
      record {
        blocks_ok = p.blocks_ok;
        f32s = λ j g.
            let h : j < length s / 8 = omega (arith, blocks-many s a b) in
            ap (of_bits binary32) (word_pattern j h) ∙ sym (frequency_in j h);
        finite = λ j g.
            let h : j < length s / 8 = omega (arith, blocks-many s a b) in
            omega (arith, word_pattern j h, word_finite j h);
        order = p.order;
        within = p.within;
      }

  -- ---- asked again

  module _ (side : ℕ) (r : readable s side ≡ true) (j x : ℕ) (h : j < length s / 8) (l : x < infinity) where
    abbrev new : List BlockData
    new = with_frequency (blocks_in s) j x

    blocks_new : blocks_in (with_word s j x) ≡ new
    blocks_new = blocks_with s j x h

    passed_new : Passed (with_word s j x) a b
    passed_new =
        let q = fair_changed x l (blocks_in s) (inst a) (inst b) j fair_in in
        let n : insts_of (blocks_in (with_word s j x)) ≡ insts_of new = ap insts_of blocks_new in
        record {
          blocks_few = omega (arith, length_with s j x h, p.blocks_few);
          insts_few = omega (arith, n, insts_kept (blocks_in s) j x, p.insts_few);
          blocks_ok = ap (every block_ok) blocks_new ∙ q.blocks_ok;
          order = p.order;
          within = omega (arith, n, q.within);
        }

    asked : answered 0 (side_of (side_named side) (blocks_in (with_word s j x)) a b) ≡ cut_answer (with_word s j x) a b side
    asked =
        let g : readable (with_word s j x) side ≡ true =
        ap (λ (n : ℕ). leb side 1 && (eqb (n % 8) 0 && ltb 0 n)) (length_with s j x h) ∙ r in
        answer_is (with_word s j x) a b side g passed_new

    pub asked_again : (cut_answer (with_word s j x) a b side).number ≡ 0
    asked_again = sym (ap (λ (c : Cut). c.number) asked)

    cut_now : side_of (side_named side) (blocks_in s) a b ≡ (cut_answer s a b side).inst
    cut_now = ap (λ (c : Cut). c.inst) (answer_is s a b side r p)

    cut_then : side_of (side_named side) new a b ≡ (cut_answer (with_word s j x) a b side).inst
    cut_then =
        ap (λ (bs : List BlockData). side_of (side_named side) bs a b) (sym blocks_new)
        ∙ ap (λ (c : Cut). c.inst) asked

    pub asked_moves : Asked s a b side j x → Moves (blocks_in s) (inst a) (inst b) (side_named side) j x
    asked_moves n q = n (sym cut_then ∙ q ∙ cut_now)

    pub moves_asked : Moves (blocks_in s) (inst a) (inst b) (side_named side) j x → Asked s a b side j x
    moves_asked n q = n (cut_then ∙ q ∙ sym cut_now)
