-- The loop that builds the index, over the bytes of the work slice. Assumes nothing.
use mathlib.Core.Path.{◌≡◌, refl, ap, ◌∙◌}
use mathlib.Core.List.{List}
use Prim.Native.Nat.{ℕ, ◌+◌, ◌*◌, ◌≤◌, ◌<◌}
use native.Mathlib.Omega.{arith}
use lib.ListN.{length, get_or, replicate}
use Rattle.words.specs.Parts.{splice}
use Rattle.words.specs.Words.{word_count, words_of}
use Rattle.words.specs.Laws.{length_words}
use Rattle.values.specs.declared.operands.Chains.{Chains}
use Rattle.values.specs.OperandRows.{op_at}
use Rattle.values.specs.Chains.{chains_of, operands_of, linked, Under, Chained}
use Rattle.values.proofs.Rows.{long, inst_word}
use Rattle.values.proofs.Store.{chains_none, chains_next, chains_over, chains_hold}

-- the first k operands are in
pub record Linking (t w₀ : List ℕ) (c : Chains) (k : ℕ) (w : List ℕ) : Type 0 where
  pub within : k ≤ c.count
  pub long : length w ≡ length w₀
  pub is : words_of w ≡ chains_of (words_of w₀) c (operands_of (words_of t) c) k

pub link_start : (t s w : List ℕ) (c : Chains) → c.heads + c.insts ≤ word_count s → words_of w ≡ splice (words_of s) c.heads (replicate c.insts 0) → Linking t w c 0 w
link_start t s w c h e =
    record { within = omega arith; long = refl; is = chains_none (words_of s) (words_of w) c (operands_of (words_of t) c) (omega (arith, length_words s)) e }

pub link_next : {t w₀ w w' : List ℕ} {c : Chains} {k i : ℕ} → Linking t w₀ c k w → k < c.count → c.heads + c.insts ≤ c.nexts → c.nexts + c.count ≤ word_count w₀
    → i ≡ (op_at (operands_of (words_of t) c) k).inst.0 → i < c.insts → words_of w' ≡ linked (words_of w) c k i → length w' ≡ length w → Linking t w₀ c (k + 1) w'
link_next {t} {w₀} {w} {w'} {c} {k} {i} f h a b ei li e l =
    record {
      within = omega arith;
      long = l ∙ f.long;
      is = e ∙ ap (λ (r : List ℕ). linked r c k i) f.is
          ∙ chains_next (words_of w₀) c (operands_of (words_of t) c) k a (omega (arith, length_words w₀)) i ei li (omega (arith, length_words w₀));
    }

pub record Built (t s w : List ℕ) (c : Chains) : Type 0 where
  pub is : words_of w ≡ chains_of (words_of s) c (operands_of (words_of t) c) c.count
  pub holds : Chained (words_of w) c (operands_of (words_of t) c)

pub link_done : {t w₀ w : List ℕ} {c : Chains} {k : ℕ} (s : List ℕ) → Linking t w₀ c k w → c.count ≤ k → c.heads + c.insts ≤ c.nexts → c.nexts + c.count ≤ word_count s
    → words_of w₀ ≡ splice (words_of s) c.heads (replicate c.insts 0) → Built t s w c
link_done {t} {w₀} {w} {c} {k} s f h a b e =
    let ek : k ≡ c.count = omega arith in
    let os = operands_of (words_of t) c in
    let q : words_of w ≡ chains_of (words_of s) c os c.count =
    f.is ∙ ap (λ (n : ℕ). chains_of (words_of w₀) c os n) ek ∙ chains_over (words_of s) (words_of w₀) c os c.count (omega (arith, length_words s)) e in
    record { is = q; holds = chains_hold (words_of s) (words_of w) c os c.count (long (words_of t) c.at c.count) a (omega (arith, length_words s)) q }

-- the instruction that a row's first word names is below the bound
pub row_under : (t : List ℕ) (c : Chains) (k w : ℕ) → Under c.insts (operands_of (words_of t) c) → k < c.count → w ≡ get_or (words_of t) (c.at + k * 4) 0 → w < c.insts
row_under t c k w u h e =
    omega (arith, u.under k (omega (arith, long (words_of t) c.at c.count)), inst_word (words_of t) c.at c.count k w h e)
