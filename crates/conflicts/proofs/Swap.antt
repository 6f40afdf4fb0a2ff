-- Rows that trade places. Assumes nothing.
use mathlib.Core.Path.{◌≡◌, refl, sym, ap, ◌∙◌}
use mathlib.Core.Bool.{Bool, true, false}
use mathlib.Core.List.{List}
use Prim.Native.Nat.{ℕ, ◌+◌, ◌-◌, ◌*◌, ◌≤◌, ◌<◌}
use native.Mathlib.Nat.{add-zero}
use native.Mathlib.Numerals.{lt_of_le_of_ne}
use native.Mathlib.Omega.{arith}
use lib.Dec.{eqb, ltb}
use lib.ListN.{length, get_or}
use lib.Seq.{get_or-drop}
use borrow.Author.Tests.{ltb-true, ltb-false, eqb-true, eqb-false}
use Rattle.words.specs.Parts.{splice, length_splice, get_or_splice_before, get_or_splice_in, drop_splice}
use Rattle.job.specs.declared.Layout.{Layout}
use Rattle.conflicts.specs.declared.round.RowWords.{RowWords}
use Rattle.pieces.specs.Conflict.{RowsOk}
use Rattle.conflicts.specs.Rounds.{row_words, four_of, swap_rows, Elsewhere}
use Rattle.conflicts.proofs.RoundKept.{row_same, row_number}

-- ---- one row put at word p

module _ (K : List ℕ) (p : ℕ) (r : RowWords) (h : p + 4 ≤ length K) where
  word_before : (n : ℕ) → n < p → get_or (splice K p (four_of r)) n 0 ≡ get_or K n 0
  word_before n l = get_or_splice_before K p (four_of r) h n 0 l

  word_behind : (n : ℕ) → p + 4 ≤ n → get_or (splice K p (four_of r)) n 0 ≡ get_or K n 0
  word_behind n l =
      let e : n ≡ (p + 4) + (n - (p + 4)) = omega arith in
      ap (λ (k : ℕ). get_or (splice K p (four_of r)) k 0) e
      ∙ sym (get_or-drop (p + 4) (splice K p (four_of r)) (n - (p + 4)) 0)
      ∙ ap (λ (l : List ℕ). get_or l (n - (p + 4)) 0) (drop_splice K p (four_of r) h)
      ∙ get_or-drop (p + 4) K (n - (p + 4)) 0
      ∙ ap (λ (k : ℕ). get_or K k 0) (sym e)

  put_long : length (splice K p (four_of r)) ≡ length K
  put_long = length_splice K p (four_of r) h

  put_read : row_words (splice K p (four_of r)) p ≡ r
  unfolding row_words
  put_read =
      let a : get_or (splice K p (four_of r)) p 0 ≡ r.value =
      ap (λ (k : ℕ). get_or (splice K p (four_of r)) k 0) (sym (add-zero p)) ∙ get_or_splice_in K p (four_of r) h 0 0 (omega arith) in
      let b : get_or (splice K p (four_of r)) (p + 1) 0 ≡ r.number = get_or_splice_in K p (four_of r) h 1 0 (omega arith) in
      let c : get_or (splice K p (four_of r)) (p + 2) 0 ≡ r.has = get_or_splice_in K p (four_of r) h 2 0 (omega arith) in
      let d : get_or (splice K p (four_of r)) (p + 3) 0 ≡ r.param = get_or_splice_in K p (four_of r) h 3 0 (omega arith) in
      λ x. record { value = a x; number = b x; has = c x; param = d x }

-- ---- rows i and j, i ≤ j

module _ (K : List ℕ) (turned i j : ℕ) (h : turned + j * 4 + 4 ≤ length K) (l : i ≤ j) where
  abbrev mid : List ℕ
  mid = splice K (turned + i * 4) (four_of (row_words K (turned + j * 4)))

  hp : turned + i * 4 + 4 ≤ length K
  hp = omega arith

  hq : turned + j * 4 + 4 ≤ length mid
  hq = omega (arith, put_long K (turned + i * 4) (row_words K (turned + j * 4)) hp)

  pub swap_long : length (swap_rows K turned i j) ≡ length K
  unfolding swap_rows
  swap_long = put_long mid (turned + j * 4) (row_words K (turned + i * 4)) hq ∙ put_long K (turned + i * 4) (row_words K (turned + j * 4)) hp

  pub swap_before : (n : ℕ) → n < turned + i * 4 → get_or (swap_rows K turned i j) n 0 ≡ get_or K n 0
  unfolding swap_rows
  swap_before n m =
      word_before mid (turned + j * 4) (row_words K (turned + i * 4)) hq n (omega arith) ∙ word_before K (turned + i * 4) (row_words K (turned + j * 4)) hp n m

  pub swap_behind : (n : ℕ) → turned + j * 4 + 4 ≤ n → get_or (swap_rows K turned i j) n 0 ≡ get_or K n 0
  unfolding swap_rows
  swap_behind n m =
      word_behind mid (turned + j * 4) (row_words K (turned + i * 4)) hq n m ∙ word_behind K (turned + i * 4) (row_words K (turned + j * 4)) hp n (omega arith)

  swap_between : (n : ℕ) → turned + i * 4 + 4 ≤ n → n < turned + j * 4 → get_or (swap_rows K turned i j) n 0 ≡ get_or K n 0
  unfolding swap_rows
  swap_between n m o =
      word_before mid (turned + j * 4) (row_words K (turned + i * 4)) hq n o ∙ word_behind K (turned + i * 4) (row_words K (turned + j * 4)) hp n m

  pub swap_second : row_words (swap_rows K turned i j) (turned + j * 4) ≡ row_words K (turned + i * 4)
  unfolding swap_rows
  swap_second = put_read mid (turned + j * 4) (row_words K (turned + i * 4)) hq

  swap_apart : i < j → row_words (swap_rows K turned i j) (turned + i * 4) ≡ row_words K (turned + j * 4)
  unfolding swap_rows
  swap_apart m =
      row_same mid (splice mid (turned + j * 4) (four_of (row_words K (turned + i * 4)))) (turned + i * 4)
      (λ n a b. word_before mid (turned + j * 4) (row_words K (turned + i * 4)) hq n (omega arith))
      ∙ put_read K (turned + i * 4) (row_words K (turned + j * 4)) hp

  pub swap_first : row_words (swap_rows K turned i j) (turned + i * 4) ≡ row_words K (turned + j * 4)
  swap_first = go (ltb i j) refl
    where
      go : (b : Bool) → ltb i j ≡ b → row_words (swap_rows K turned i j) (turned + i * 4) ≡ row_words K (turned + j * 4)
      go true e = swap_apart (ltb-true i j e)
      go false e =
          let z : turned + i * 4 ≡ turned + j * 4 = omega (arith, ltb-false i j e) in
          ap (λ (k : ℕ). row_words (swap_rows K turned i j) k) z ∙ swap_second ∙ ap (λ (k : ℕ). row_words K k) z

  pub swap_under : (k : ℕ) → k < i → row_words (swap_rows K turned i j) (turned + k * 4) ≡ row_words K (turned + k * 4)
  swap_under k m = row_same K (swap_rows K turned i j) (turned + k * 4) (λ n a b. swap_before n (omega arith))

  pub swap_inside : (k : ℕ) → i < k → k < j → row_words (swap_rows K turned i j) (turned + k * 4) ≡ row_words K (turned + k * 4)
  swap_inside k m o = row_same K (swap_rows K turned i j) (turned + k * 4) (λ n a b. swap_between n (omega arith) (omega arith))

  pub swap_over : (k : ℕ) → j < k → row_words (swap_rows K turned i j) (turned + k * 4) ≡ row_words K (turned + k * 4)
  swap_over k m = row_same K (swap_rows K turned i j) (turned + k * 4) (λ n a b. swap_behind n (omega arith))

-- ---- what stays

-- the uses of the rows are uses of the job still
pub swap_known : (w : ℕ) (K : List ℕ) (turned : ℕ) (lay : Layout) (a b i j : ℕ) → w ≡ length K → a ≤ i → i ≤ j → j < b → RowsOk w K turned lay a b → RowsOk w (swap_rows K turned i j) turned lay a b
swap_known w K turned lay a b i j ew ha l hb r =
    record { order = r.order; within = r.within; known = λ k m o. go k m o (ltb k i) refl (eqb k i) refl (ltb k j) refl (eqb k j) refl }
  where
    h : turned + j * 4 + 4 ≤ length K
    h = omega (arith, r.within)

    by : (k m : ℕ) → a ≤ m → m < b → row_words (swap_rows K turned i j) (turned + k * 4) ≡ row_words K (turned + m * 4) → get_or (swap_rows K turned i j) (turned + k * 4 + 1) 0 < lay.uses.n
    by k m x y e = omega (arith, row_number K (swap_rows K turned i j) turned k m e, r.known m x y)

    go : (k : ℕ) → a ≤ k → k < b → (u : Bool) → ltb k i ≡ u → (v : Bool) → eqb k i ≡ v → (x : Bool) → ltb k j ≡ x → (y : Bool) → eqb k j ≡ y
        → get_or (swap_rows K turned i j) (turned + k * 4 + 1) 0 < lay.uses.n
    go k m o true eu v ev x ex y ey = by k k m o (swap_under K turned i j h l k (ltb-true k i eu))
    go k m o false eu true ev x ex y ey =
        by k j (omega arith) hb (ap (λ (n : ℕ). row_words (swap_rows K turned i j) (turned + n * 4)) (eqb-true k i ev) ∙ swap_first K turned i j h l)
    go k m o false eu false ev true ex y ey =
        by k k m o (swap_inside K turned i j h l k (lt_of_le_of_ne (ltb-false k i eu) (λ z. eqb-false k i ev (sym z))) (ltb-true k j ex))
    go k m o false eu false ev false ex true ey =
        by k i ha (omega arith) (ap (λ (n : ℕ). row_words (swap_rows K turned i j) (turned + n * 4)) (eqb-true k j ey) ∙ swap_second K turned i j h l)
    go k m o false eu false ev false ex false ey =
        by k k m o (swap_over K turned i j h l k (lt_of_le_of_ne (ltb-false k j ex) (λ z. eqb-false k j ey (sym z))))

pub elsewhere_swap : (turned a b : ℕ) (K₀ K : List ℕ) (i j : ℕ) → Elsewhere turned a b K₀ K → a ≤ i → i ≤ j → j < b → turned + b * 4 ≤ length K → Elsewhere turned a b K₀ (swap_rows K turned i j)
elsewhere_swap turned a b K₀ K i j o ha l hb w =
    let h : turned + j * 4 + 4 ≤ length K = omega arith in
    record {
      long = swap_long K turned i j h l ∙ o.long;
      before = λ n m. swap_before K turned i j h l n (omega arith) ∙ o.before n m;
      behind = λ n m. swap_behind K turned i j h l n (omega arith) ∙ o.behind n m;
    }

-- ---- what the code reads and stores

pub words_read : (K : List ℕ) (i v n h q : ℕ) → v ≡ get_or K i 0 → n ≡ get_or K (i + 1) 0 → h ≡ get_or K (i + 2) 0 → q ≡ get_or K (i + 3) 0
    → record { value = v; number = n; has = h; param = q } ≡ row_words K i
unfolding row_words
words_read K i v n h q a b c d = λ x. record { value = a x; number = b x; has = c x; param = d x }

pub swapped : (K K₁ K₂ : List ℕ) (turned i j : ℕ) (x y : RowWords) → x ≡ row_words K (turned + i * 4) → y ≡ row_words K (turned + j * 4)
    → K₁ ≡ splice K (turned + i * 4) (four_of y) → K₂ ≡ splice K₁ (turned + j * 4) (four_of x) → K₂ ≡ swap_rows K turned i j
unfolding swap_rows
swapped K K₁ K₂ turned i j x y ex ey e₁ e₂ =
    e₂
    ∙ ap (λ (l : List ℕ). splice l (turned + j * 4) (four_of x)) e₁
    ∙ ap (λ (r : RowWords). splice (splice K (turned + i * 4) (four_of r)) (turned + j * 4) (four_of x)) ey
    ∙ ap (λ (r : RowWords). splice (splice K (turned + i * 4) (four_of (row_words K (turned + j * 4)))) (turned + j * 4) (four_of r)) ex
