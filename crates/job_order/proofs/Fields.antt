-- Some words of two tables, place by place. Assumes nothing.
use Rattle.std.specs.Prelude.{◌≡◌, refl, List, [], ◌∷◌, ℕ, suc, ◌+◌, ◌-◌, ◌<◌, ◌≤◌, length, take, drop, get_or, min}
use Rattle.std.proofs.Common.{sym, ap, ◌∙◌, arith, length-drop, length-take-le}
use Rattle.std.proofs.Math.Seq.{drop-cons}
use Rattle.definition.specs.declared.Order.{Order}
use Rattle.definition.specs.declared.Order.TheVariants.{Before, Same, After}
use Rattle.definition.specs.JobOrder.{decided, by_number, by_places}
use Rattle.text_laws.specs.Lawful.{less, more, number_lawful}
use Rattle.job_order.specs.Rows.{words_from}

abbrev pub by_words : List ℕ → List ℕ → Order
by_words xs ys = by_places by_number xs ys

-- where the one list or the other is at its end, the fewer go first
at_end : (xs ys : List ℕ) (n m i : ℕ) → length xs ≡ n - i → length ys ≡ m - i → i ≤ n → i ≤ m
    → (i < n → i < m → ⊥) → by_words xs ys ≡ by_number n m
unfolding by_places
at_end [] [] n m i e f p q h =
    let k : n ≡ m = omega (arith, e, f, p, q) in sym (number_lawful.self m) ∙ ap (λ (l : ℕ). by_number l m) (sym k)
at_end [] (y ∷ ys) n m i e f p q h = sym (less n m (omega (arith, e, f, p, q)))
at_end (x ∷ xs) [] n m i e f p q h = sym (more n m (omega (arith, e, f, p, q)))
at_end (x ∷ xs) (y ∷ ys) n m i e f p q h = absurd (h (omega (arith, e)) (omega (arith, f)))

-- the first of n words from a on, and the k words from b on behind it
word_first : (T : List ℕ) (a n b k : ℕ) → b ≡ suc a → n ≡ suc k → a < length T
    → words_from T a n ≡ get_or T a 0 ∷ words_from T b k
word_first T a n b k e f h =
    ap (λ (m : ℕ). words_from T a m) f
    ∙ ap (λ (l : List ℕ). take (suc k) l) (drop-cons T a 0 h)
    ∙ ap (λ (c : ℕ). get_or T a 0 ∷ words_from T c k) (sym e)

module _ (T U : List ℕ) (a n m : ℕ) where
  -- behind i places
  abbrev pub from_place : ℕ → Order
  from_place i = by_words (words_from T (a + i) (n - i)) (words_from U (a + i) (m - i))

  pub no_place : by_words (words_from T a n) (words_from U a m) ≡ from_place 0
  no_place =
      let e : a ≡ a + 0 = omega arith in
      let f : n ≡ n - 0 = omega arith in
      let g : m ≡ m - 0 = omega arith in
      ap (λ (b : ℕ). by_words (words_from T b n) (words_from U b m)) e
      ∙ ap (λ (k : ℕ). by_words (words_from T (a + 0) k) (words_from U (a + 0) m)) f
      ∙ ap (λ (k : ℕ). by_words (words_from T (a + 0) (n - 0)) (words_from U (a + 0) k)) g

  -- one place more
  pub one_place : (i : ℕ) → a + n ≤ length T → a + m ≤ length U → i < n → i < m
      → from_place i ≡ decided (by_number (get_or T (a + i) 0) (get_or U (a + i) 0)) (from_place (i + 1))
  unfolding by_places
  one_place i h k p q =
      ap (λ (l : List ℕ). by_words l (words_from U (a + i) (m - i)))
      (word_first T (a + i) (n - i) (a + (i + 1)) (n - (i + 1)) (omega arith) (omega (arith, p)) (omega (arith, h, p)))
      ∙ ap (λ (l : List ℕ). by_words (get_or T (a + i) 0 ∷ words_from T (a + (i + 1)) (n - (i + 1))) l)
      (word_first U (a + i) (m - i) (a + (i + 1)) (m - (i + 1)) (omega arith) (omega (arith, q)) (omega (arith, k, q)))

  -- at the end of the one or the other, the fewer go first
  pub last_place : (i : ℕ) → a + n ≤ length T → a + m ≤ length U → i ≡ min n m → from_place i ≡ by_number n m
  last_place i h k e =
      at_end (words_from T (a + i) (n - i)) (words_from U (a + i) (m - i)) n m i
      (long T n h (omega (arith, e))) (long U m k (omega (arith, e))) (omega (arith, e)) (omega (arith, e))
      (λ p q. omega (arith, e, p, q))
    where
      long : (V : List ℕ) (l : ℕ) → a + l ≤ length V → i ≤ l → length (words_from V (a + i) (l - i)) ≡ l - i
      long V l f p =
          let d : length (drop (a + i) V) ≡ length V - (a + i) = length-drop (a + i) V in
          length-take-le (l - i) (drop (a + i) V) (omega (arith, d, f, p))

-- what comes first decides
pub decided_by : (o p : Order) → (o ≡ Same → ⊥) → decided o p ≡ o
decided_by Before p h = refl
decided_by Same p h = absurd (h refl)
decided_by After p h = refl

-- ---- the loop over the places

module _ (T U : List ℕ) (a n m i v w : ℕ) (h : a + n ≤ length T) (k : a + m ≤ length U) (p : i < min n m)
    (e : v ≡ get_or T (a + i) 0) (f : w ≡ get_or U (a + i) 0)
    (so_far : by_words (words_from T a n) (words_from U a m) ≡ from_place T U a n m i) where
  this_place : by_words (words_from T a n) (words_from U a m) ≡ decided (by_number v w) (from_place T U a n m (i + 1))
  this_place =
      so_far
      ∙ one_place T U a n m i h k (omega (arith, p)) (omega (arith, p))
      ∙ ap (λ (z : ℕ). decided (by_number z (get_or U (a + i) 0)) (from_place T U a n m (i + 1))) (sym e)
      ∙ ap (λ (z : ℕ). decided (by_number v z) (from_place T U a n m (i + 1))) (sym f)

  pub place_decides : (o : Order) → o ≡ by_number v w → (o ≡ Same → ⊥)
      → o ≡ by_words (words_from T a n) (words_from U a m)
  place_decides o q d =
      sym
      (this_place ∙ ap (λ (z : Order). decided z (from_place T U a n m (i + 1))) (sym q)
      ∙ decided_by o (from_place T U a n m (i + 1)) d)

  pub place_same : (o : Order) → o ≡ by_number v w → o ≡ Same
      → by_words (words_from T a n) (words_from U a m) ≡ from_place T U a n m (i + 1)
  place_same o q d =
      this_place ∙ ap (λ (z : Order). decided z (from_place T U a n m (i + 1))) (sym q ∙ d)
