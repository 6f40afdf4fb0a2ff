-- The bytes of a list in the two lent tables are the words that it shows. Assumes nothing.
use mathlib.Core.Path.{◌≡◌, refl, ap, ◌∙◌}
use mathlib.Core.List.{List, [], ◌∷◌}
use Prim.Native.Nat.{ℕ, zero, suc, ◌+◌, ◌-◌, ◌*◌, ◌≤◌}
use native.Mathlib.Omega.{arith}
use lib.ListN.{length, take, drop, length-drop}
use lib.Seq.{take-take, drop-drop, length-take-le}
use Rattle.words.specs.Words.{word_count, words_of}
use Rattle.words.specs.Laws.{words_take, words_drop, words_part}
use Rattle.job.specs.declared.Layout.{Layout}
use Rattle.job.specs.Layout.{Fits}
use Rattle.uses.specs.declared.lists.Source.{Source}
use Rattle.uses.specs.declared.lists.Source.TheVariants.{Job, Added}
use Rattle.uses.specs.declared.lists.UseList.{UseList}
use Rattle.uses.specs.Lists.{table_of, Within, part_of}
use Rattle.virt_regs.specs.declared.OutLayout.{OutLayout}
use Rattle.words.specs.Part.{part}
use Rattle.virt_regs.specs.Encoding.{use_base, tables_end}
use Rattle.vreg_uses.specs.Shown.{table_at, rows_in, Listed, shown_words}

-- a window of a front part is a window of the whole
window : (k m n : ℕ) (x : List ℕ) → k + m ≤ n → take m (drop k (take n x)) ≡ take m (drop k x)
window zero m n x h = take-take m n x (omega arith)
window (suc k) m zero x h = absurd (omega arith)
window (suc k) m (suc n) [] h = refl
window (suc k) m (suc n) (y ∷ x) h = window k m n x (omega arith)

-- the bytes of a table of n rows that begins at word a
abbrev pub table_bytes : ℕ → ℕ → List ℕ → List ℕ
table_bytes a n s = take ((a + n * 6) * 4 - a * 4) (drop (a * 4) s)

table_part : (a n f c : ℕ) (s : List ℕ) → f + c ≤ n → words_of (take (c * 24) (drop (f * 24) (table_bytes a n s))) ≡ part (a + f * 6) (a + f * 6 + c * 6) (words_of s)
unfolding part
table_part a n f c s h =
    let ec : c * 24 ≡ c * 6 * 4 = omega arith in
    let ef : f * 24 ≡ f * 6 * 4 = omega arith in
    let ep : c * 6 ≡ a + f * 6 + c * 6 - (a + f * 6) = omega arith in
    ap (λ (n₁ : ℕ). words_of (take n₁ (drop (f * 24) (table_bytes a n s)))) ec
    ∙ words_take (c * 6) (drop (f * 24) (table_bytes a n s))
    ∙ ap (λ (n₁ : ℕ). take (c * 6) (words_of (drop n₁ (table_bytes a n s)))) ef
    ∙ ap (λ (t : List ℕ). take (c * 6) t) (words_drop (f * 6) (table_bytes a n s))
    ∙ ap (λ (t : List ℕ). take (c * 6) (drop (f * 6) t)) (words_part a (a + n * 6) s)
    ∙ window (f * 6) (c * 6) (a + n * 6 - a) (drop a (words_of s)) (omega arith)
    ∙ ap (λ (t : List ℕ). take (c * 6) t) (drop-drop (f * 6) a (words_of s))
    ∙ ap (λ (m : ℕ). take m (drop (a + f * 6) (words_of s))) ep

table_length : (a n : ℕ) (s : List ℕ) → a + n * 6 ≤ word_count s → length (table_bytes a n s) ≡ n * 24
table_length a n s h =
    let e : (a + n * 6) * 4 - a * 4 ≡ n * 24 = omega arith in
    length-take-le ((a + n * 6) * 4 - a * 4) (drop (a * 4) s) (simp length-drop (omega arith)) ∙ e

module _ (J O : List ℕ) (lay : Layout) (ol : OutLayout) (l : UseList) (h : Listed lay ol l) where
  pub list_words : words_of (part_of (table_bytes lay.uses.at lay.uses.n J) (table_bytes (use_base ol) ol.uses O) l) ≡ shown_words (words_of J) lay (words_of O) ol l
  unfolding part_of shown_words Listed
  list_words = go l.source h
    where
      go : (s : Source) → l.first + l.count ≤ rows_in lay ol s
          → words_of (take (l.count * 24) (drop (l.first * 24) (table_of (table_bytes lay.uses.at lay.uses.n J) (table_bytes (use_base ol) ol.uses O) s)))
          ≡ part (table_at lay ol s + l.first * 6) (table_at lay ol s + l.first * 6 + l.count * 6) (table_of (words_of J) (words_of O) s)
      go Job k = table_part lay.uses.at lay.uses.n l.first l.count J k
      go Added k = table_part (use_base ol) ol.uses l.first l.count O k

  pub list_within : Fits (word_count J) lay → tables_end ol ≤ word_count O → Within (table_bytes lay.uses.at lay.uses.n J) (table_bytes (use_base ol) ol.uses O) l
  unfolding Within Listed
  list_within f e = go l.source h
    where
      go : (s : Source) → l.first + l.count ≤ rows_in lay ol s
          → (l.first + l.count) * 24 ≤ length (table_of (table_bytes lay.uses.at lay.uses.n J) (table_bytes (use_base ol) ol.uses O) s)
      go Job k = omega (arith, table_length lay.uses.at lay.uses.n J f.uses)
      go Added k = omega (arith, table_length (use_base ol) ol.uses O (omega arith))
