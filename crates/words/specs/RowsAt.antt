-- The rows of a read-only table: `row W i` reads the row whose first word is word i of W; the table has n rows of s words, the first at word `at`.
-- Every job table and every lent list is read so: `rows_at row (words_of (now t)) at s n`. The laws hold for any decoder and any stride.
-- Assumes nothing.
use Rattle.std.specs.Prelude.{◌≡◌, refl, ℕ, zero, suc, ◌+◌, ◌-◌, ◌*◌, ◌≤◌, ◌<◌, length, get_or, take, drop}
use Rattle.std.proofs.Math.Path.{ap}
use Rattle.std.proofs.Common.{◌∙◌, one-mul, add-mul, suc-mul, mul-le-mul_right, take_at, drop_at}
use mathlib.Core.List.{List, [], ◌∷◌, ◌++◌, map}
use Rattle.std.proofs.Math.Nat.{zero-add, zero-mul}
use native.Mathlib.Omega.{arith}
use Rattle.words.specs.Tab.{tab, length_tab, tab_append, get_or_tab, tab_ext}

module _ {ℓ} {A : Type ℓ} where
  -- row W at, row W (at + s), .., n of them
  unfoldable pub rows_at : (List ℕ → ℕ → A) → List ℕ → ℕ → ℕ → ℕ → List A
  rows_at row W at s n = tab (λ k. row W (at + k * s)) 0 n

  module _ (row : List ℕ → ℕ → A) (W : List ℕ) (at s : ℕ) where
    pub length_rows_at : (n : ℕ) → length (rows_at row W at s n) ≡ n
    unfolding rows_at
    length_rows_at n = length_tab (λ k. row W (at + k * s)) 0 n

    -- row j
    pub get_or_rows_at : (n j : ℕ) (d : A) → j < n → get_or (rows_at row W at s n) j d ≡ row W (at + j * s)
    unfolding rows_at
    get_or_rows_at n j d h = get_or_tab (λ k. row W (at + k * s)) 0 n j d h ∙ ap (λ (k : ℕ). row W (at + k * s)) (zero-add j)

    -- the rows from row j on, as rows j and on of the table and as a table of their own
    rows_shift : (j k : ℕ) → tab (λ m. row W (at + m * s)) j k ≡ tab (λ m. row W (at + j * s + m * s)) 0 k
    rows_shift j k =
        tab_ext (λ m. row W (at + m * s)) (λ m. row W (at + j * s + m * s)) j 0 k
        (λ n l.
        let e : at + (j + n) * s ≡ at + j * s + (0 + n) * s = rw (add-mul, zero-add) (omega arith) in
        ap (λ (i : ℕ). row W i) e)

    pub rows_at_append : (j k : ℕ) → rows_at row W at s (j + k) ≡ rows_at row W at s j ++ rows_at row W (at + j * s) s k
    unfolding rows_at
    rows_at_append j k =
        tab_append (λ m. row W (at + m * s)) 0 j k
        ∙ ap (λ (l : List A). tab (λ m. row W (at + m * s)) 0 j ++ l) (ap (λ (i : ℕ). tab (λ m. row W (at + m * s)) i k) (zero-add j) ∙ rows_shift j k)

    -- one more row at the front, and one more at the end
    pub rows_at_cons : (n : ℕ) → rows_at row W at s (suc n) ≡ row W at ∷ rows_at row W (at + s) s n
    unfolding rows_at
    rows_at_cons n =
        let a : at + 0 * s ≡ at = rw zero-mul (omega arith) in
        let b : at + 1 * s ≡ at + s = ap (λ (k : ℕ). at + k) (one-mul s) in
        λ x. row W (a x) ∷ (rows_shift 1 n ∙ ap (λ (i : ℕ). tab (λ m. row W (i + m * s)) 0 n) b) x

    pub rows_at_snoc : (n : ℕ) → rows_at row W at s (n + 1) ≡ rows_at row W at s n ++ (row W (at + n * s) ∷ [])
    unfolding rows_at
    rows_at_snoc n =
        let e : at + n * s + 0 * s ≡ at + n * s = rw zero-mul (omega arith) in
        rows_at_append n 1 ∙ ap (λ (i : ℕ). rows_at row W at s n ++ (row W i ∷ [])) e

    pub take_rows_at : (n j : ℕ) → j ≤ n → take j (rows_at row W at s n) ≡ rows_at row W at s j
    take_rows_at n j h =
        let e : n ≡ j + (n - j) = omega arith in
        ap (λ (k : ℕ). take j (rows_at row W at s k)) e
        ∙ ap (λ (l : List A). take j l) (rows_at_append j (n - j))
        ∙ take_at (rows_at row W at s j) _ j (length_rows_at j)

    pub drop_rows_at : (n j : ℕ) → j ≤ n → drop j (rows_at row W at s n) ≡ rows_at row W (at + j * s) s (n - j)
    drop_rows_at n j h =
        let e : n ≡ j + (n - j) = omega arith in
        ap (λ (k : ℕ). drop j (rows_at row W at s k)) e
        ∙ ap (λ (l : List A). drop j l) (rows_at_append j (n - j))
        ∙ drop_at (rows_at row W at s j) _ j (length_rows_at j)

  -- A scan of n rows that stands before row i has `rows_at row W (at + i * s) s (n - i)` left: how it starts, goes on and ends.
  module _ (row : List ℕ → ℕ → A) (W : List ℕ) (at s n : ℕ) where
    pub rows_at_start : rows_at row W (at + 0 * s) s (n - 0) ≡ rows_at row W at s n
    rows_at_start =
        let a : at + 0 * s ≡ at = rw zero-mul (omega arith) in
        let b : n - 0 ≡ n = omega arith in
        rw (a, b)

    pub rows_at_more : (i : ℕ) → i < n
        → rows_at row W (at + i * s) s (n - i) ≡ row W (at + i * s) ∷ rows_at row W (at + (i + 1) * s) s (n - (i + 1))
    rows_at_more i h =
        let a : at + i * s + s ≡ at + (i + 1) * s = rw (add-mul, one-mul) (omega arith) in
        let b : n - i ≡ suc (n - (i + 1)) = omega arith in
        ap (λ (k : ℕ). rows_at row W (at + i * s) s k) b
        ∙ rows_at_cons row W (at + i * s) s (n - (i + 1))
        ∙ ap (λ (k : ℕ). row W (at + i * s) ∷ rows_at row W k s (n - (i + 1))) a

    pub rows_at_done : (i : ℕ) → n ≤ i → rows_at row W (at + i * s) s (n - i) ≡ []
    unfolding rows_at
    rows_at_done i h = let b : n - i ≡ 0 = omega arith in rw b

  -- two tables that agree on their rows
  pub rows_at_ext : (row row' : List ℕ → ℕ → A) (W W' : List ℕ) (at to s n : ℕ) → ((k : ℕ) → k < n → row W (at + k * s) ≡ row' W' (to + k * s))
      → rows_at row W at s n ≡ rows_at row' W' to s n
  unfolding rows_at
  rows_at_ext row row' W W' at to s n h =
      tab_ext (λ k. row W (at + k * s)) (λ k. row' W' (to + k * s)) 0 0 n (λ k l. let e : 0 + k ≡ k = zero-add k in rw e (h k l))

  -- a decoder that reads nothing but the s words of its row
  abbrev pub Reads : ℕ → (List ℕ → ℕ → A) → Type ℓ
  Reads s row = (W W' : List ℕ) (i k : ℕ) → ((j : ℕ) → j < s → get_or W (i + j) 0 ≡ get_or W' (k + j) 0) → row W i ≡ row W' k

  -- equal words have equal rows: a table elsewhere, or after stores outside of it
  pub rows_at_words : (row : List ℕ → ℕ → A) (W W' : List ℕ) (at to s n : ℕ) → Reads s row → ((j : ℕ) → j < n * s → get_or W (at + j) 0 ≡ get_or W' (to + j) 0)
      → rows_at row W at s n ≡ rows_at row W' to s n
  rows_at_words row W W' at to s n r h =
      rows_at_ext row row W W' at to s n
      (λ k l.
      r W W' (at + k * s) (to + k * s)
      (λ j m.
      let b : k * s + j < n * s = omega (arith, suc-mul k s, mul-le-mul_right s l) in
      let e : at + k * s + j ≡ at + (k * s + j) = omega arith in
      let f : to + k * s + j ≡ to + (k * s + j) = omega arith in
      rw (e, f) (h (k * s + j) b)))

-- a decoder that reads on from another
pub map-rows-at {ℓ} : {A B : Type ℓ} (f : A → B) (row : List ℕ → ℕ → A) (W : List ℕ) (at s n : ℕ)
    → map f (rows_at row W at s n) ≡ rows_at (λ W' i. f (row W' i)) W at s n
unfolding rows_at
map-rows-at f row W at s n = mapped 0 n
  where
    mapped : (i k : ℕ) → map f (tab (λ m. row W (at + m * s)) i k) ≡ tab (λ m. f (row W (at + m * s))) i k
    mapped i zero = refl
    mapped i (suc k) = ap (λ l. f (row W (at + i * s)) ∷ l) (mapped (i + 1) k)
