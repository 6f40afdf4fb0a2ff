-- The loop that copies words: what it has done before a turn, and how a turn goes on. Assumes nothing.
use Rattle.std.specs.Prelude.{◌≡◌, List, ℕ, ◌+◌, ◌≤◌, ◌<◌, length, get_or, set, take, drop}
use Rattle.std.proofs.Common.{refl, ap, ◌∙◌, arith}
use Rattle.std.proofs.Math.Seq.{paste, paste-zero}
use Rattle.words.specs.Parts.{splice}
use Rattle.words.specs.Moves.{copy_step, copy_done}
use Rattle.words.specs.Words.{word_count, words_of}
use Rattle.words.specs.Laws.{length_words}

-- d is d₀ with k words of s put in
pub record Copying (d₀ : List ℕ) (at : ℕ) (s : List ℕ) (from n k : ℕ) (d : List ℕ) : Type 0 where
  pub within : k ≤ n
  pub long : length d ≡ length d₀
  pub is : words_of d ≡ paste (words_of d₀) at (drop from (words_of s)) k

pub copy_first : (d₀ s : List ℕ) (at from n : ℕ) → Copying d₀ at s from n 0 d₀
copy_first d₀ s at from n = record {
  within = omega arith;
  long = refl;
  is = paste-zero (words_of d₀) at (drop from (words_of s));
}

pub copy_next : {d₀ s d d' : List ℕ} {at from n k x : ℕ} → Copying d₀ at s from n k d → k < n
    → at + n ≤ word_count d₀ → from + n ≤ word_count s → x ≡ get_or (words_of s) (from + k) 0
    → words_of d' ≡ set (words_of d) (at + k) x → length d' ≡ length d → Copying d₀ at s from n (k + 1) d'
copy_next {d₀} {s} {d} {d'} {at} {from} {n} {k} {x} f h hd hs ex ed l = record {
  within = omega arith;
  long = l ∙ f.long;
  is =
      ed ∙ ap (λ (y : ℕ). set (words_of d) (at + k) y) ex
      ∙ copy_step (words_of d₀) (words_of d) (words_of s) at from k
      (omega (arith, length_words d₀)) (omega (arith, length_words s)) f.is;
}

pub copy_last : {d₀ s d : List ℕ} {at from n k : ℕ} → Copying d₀ at s from n k d → n ≤ k → from + n ≤ word_count s
    → words_of d ≡ splice (words_of d₀) at (take n (drop from (words_of s)))
copy_last {d₀} {s} {d} {at} {from} {n} {k} f h hs =
    let e : k ≡ n = omega (arith, f.within) in
    f.is ∙ ap (λ (j : ℕ). paste (words_of d₀) at (drop from (words_of s)) j) e
    ∙ copy_done (words_of d₀) (words_of s) at from n (omega (arith, length_words s))
