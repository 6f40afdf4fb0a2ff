-- Bytes cleared, copied and moved, by words. Assumes nothing.
use Rattle.std.specs.Prelude.{◌≡◌, List, ◌++◌, ℕ, ◌+◌, ◌-◌, ◌*◌, ◌≤◌, length, take, drop, replicate}
use Rattle.std.proofs.Common.{ap, ◌∙◌, arith, append_assoc, length-drop, length-take-le, drop-drop, take-add, sym}
use Rattle.std.proofs.lemmas.List.{length-replicate}
use Rattle.std.proofs.Math.Seq.{slice}
use Rattle.std.proofs.lemmas.Slice.{between_is}
use Rattle.std.specs.List.{copy_within}
use borrow.Rule.Slice.PartMut.{put_mid}
use Rattle.words.specs.Parts.{splice}
use Rattle.words.specs.Moves.{Gap, gap_fill}
use Rattle.words.specs.Words.{word_count, words_of}
use Rattle.words.specs.Laws.{length_words, words_append, words_drop, words_part, words_put_back, words_replicate}

-- n words of s put over those of d
pub copied : (d p s : List ℕ) (at from n : ℕ) → at + n ≤ word_count d → from + n ≤ word_count s
    → p ≡ take ((from + n) * 4 - from * 4) (drop (from * 4) s)
    → words_of (put_mid (at * 4) ((at + n) * 4 - at * 4) d p) ≡ splice (words_of d) at (take n (drop from (words_of s)))
unfolding splice
copied d p s at from n hd hs e =
    let k : from + n - from ≡ n = omega arith in
    let w : words_of p ≡ take n (drop from (words_of s)) = rw (e, words_part from (from + n) s, k) in
    let ls : n ≤ length (drop from (words_of s)) = simp length-drop (omega (arith, length_words s)) in
    let lp : length p ≡ (at + n) * 4 - at * 4 =
    ap length e ∙ length-take-le ((from + n) * 4 - from * 4) (drop (from * 4) s) (simp length-drop (omega arith)) ∙ omega arith in
    words_put_back at (at + n) d p (omega arith) (omega arith) lp ∙ rw (w, length-take-le n (drop from (words_of s)) ls)

-- words a up to a + n were lent and came back as zeros
pub cleared : (s p : List ℕ) (a n : ℕ) → a + n ≤ word_count s → p ≡ replicate (length (take ((a + n) * 4 - a * 4) (drop (a * 4) s))) 0
    → words_of (put_mid (a * 4) ((a + n) * 4 - a * 4) s p) ≡ splice (words_of s) a (replicate n 0)
unfolding splice
cleared s p a n h e =
    let d : (a + n) * 4 - a * 4 ≡ n * 4 = omega arith in
    let z : p ≡ replicate (n * 4) 0 = rw (e, d, length-take-le (n * 4) (drop (a * 4) s) (simp length-drop (omega arith))) in
    let lp : length p ≡ (a + n) * 4 - a * 4 = ap length z ∙ length-replicate (n * 4) 0 ∙ sym d in
    let w : words_of p ≡ replicate n 0 = ap words_of z ∙ words_replicate (n * 4) ∙ ap (λ (k : ℕ). replicate k 0) (omega arith) in
    words_put_back a (a + n) s p (omega arith) (omega arith) lp ∙ rw (w, length-replicate {A = ℕ} n 0)

-- what stood from `at` up to end moved n words up
pub opened : (t t' : List ℕ) (at end n : ℕ) → at ≤ end → end + n ≤ word_count t → t' ≡ copy_within t (at * 4) (end * 4) ((at + n) * 4)
    → Gap (words_of t) at end n (words_of t')
opened t t' at end n h l e =
    let W = words_of t in
    let p = take (end * 4 - at * 4) (drop (at * 4) t) in
    let k : (end + n) * 4 - (at + n) * 4 ≡ end * 4 - at * 4 = omega arith in
    let lp : length p ≡ end * 4 - at * 4 = length-take-le (end * 4 - at * 4) (drop (at * 4) t) (simp length-drop (omega arith)) in
    let bytes : t' ≡ take ((at + n) * 4) t ++ (p ++ drop ((end + n) * 4 - (at + n) * 4) (drop ((at + n) * 4) t)) =
    rw (k, drop-drop (end * 4 - at * 4) ((at + n) * 4) t) (e ∙ append_assoc (take ((at + n) * 4) t) p _) in
    record {
      gap = take n (drop at W);
      long = length-take-le n (drop at W) (simp length-drop (omega (arith, length_words t)));
      is =
          ap words_of bytes
          ∙ words_put_back (at + n) (end + n) t p (omega arith) (omega arith) (omega arith)
          ∙ rw (words_part at end t, between_is W at end, take-add at n W) (append_assoc (take at W) (take n (drop at W)) _);
    }

pub insert_last : (t t' t'' s : List ℕ) (at end from n : ℕ) → Gap (words_of t) at end n (words_of t')
    → words_of t'' ≡ splice (words_of t') at (take n (drop from (words_of s))) → at ≤ word_count t → from + n ≤ word_count s
    → words_of t'' ≡ take at (words_of t) ++ (take n (drop from (words_of s)) ++ (slice at end (words_of t) ++ drop (end + n) (words_of t)))
insert_last t t' t'' s at end from n g e h hs =
    e ∙ gap_fill (words_of t) (words_of t') (take n (drop from (words_of s))) at end n (omega (arith, length_words t))
    (length-take-le n (drop from (words_of s)) (simp length-drop (omega (arith, length_words s)))) g

pub cleared_first : (s p : List ℕ) (n : ℕ) → n ≤ word_count s → length p ≡ length (take (n * 4) s) → words_of p ≡ replicate (word_count (take (n * 4) s)) 0
    → words_of (p ++ drop (n * 4) s) ≡ replicate n 0 ++ drop n (words_of s)
cleared_first s p n h l e =
    let k : word_count (take (n * 4) s) ≡ n = omega (arith, length-take-le (n * 4) s (omega arith)) in
    words_append p (drop (n * 4) s) (omega (arith, length-take-le (n * 4) s (omega arith))) ∙ rw (e, k, words_drop n s)
