-- The rows of the reader's table do not overlap. Assumes nothing.
use Rattle.std.specs.Prelude.{◌≡◌, refl, Bool, true, false, cond, ℕ, zero, suc, ◌+◌, ◌-◌, ◌*◌, ◌≤◌, ◌<◌, ltb, eqb}
use Rattle.std.proofs.Common.{ap, ◌∙◌, arith, add-mul, one-mul, mul-le-mul_right, ltb-true, ltb-false, lt-ltb, le-ltb}
use Rattle.sheet_rules.specs.Places.{limits, bases, widths, stored_fields, limit_of, base_of, width_of, stored_of, count_at, row_at, place_of, nowhere, table_words}

-- the word of a row at which its fields begin
abbrev pub first_of : ℕ → ℕ
first_of key = cond (eqb key 6) 1 0

-- word m of row i
abbrev pub cell : ℕ → ℕ → ℕ → ℕ
cell key i m = base_of key + i * width_of key + m

-- ---- the twelve tables, by their numbers

pub record Sizes (key : ℕ) : Type 0 where
  pub next : key ≤ 10 → base_of key + limit_of key * width_of key ≤ base_of (suc key)
  pub low : 10 ≤ base_of key
  pub fits : first_of key + stored_of key ≤ width_of key
  pub few : stored_of key ≤ 8
  pub end : base_of key + limit_of key * width_of key ≤ table_words

pub sizes : (key : ℕ) → key ≤ 11 → Sizes key
unfolding base_of bases limit_of limits width_of widths stored_of stored_fields
sizes zero h = record { next = λ g. omega arith; low = omega arith; fits = omega arith; few = omega arith; end = omega arith }
sizes (suc zero) h = record { next = λ g. omega arith; low = omega arith; fits = omega arith; few = omega arith; end = omega arith }
sizes (suc (suc zero)) h = record { next = λ g. omega arith; low = omega arith; fits = omega arith; few = omega arith; end = omega arith }
sizes (suc (suc (suc zero))) h = record { next = λ g. omega arith; low = omega arith; fits = omega arith; few = omega arith; end = omega arith }
sizes (suc (suc (suc (suc zero)))) h = record { next = λ g. omega arith; low = omega arith; fits = omega arith; few = omega arith; end = omega arith }
sizes (suc (suc (suc (suc (suc zero))))) h = record { next = λ g. omega arith; low = omega arith; fits = omega arith; few = omega arith; end = omega arith }
sizes (suc (suc (suc (suc (suc (suc zero)))))) h = record { next = λ g. omega arith; low = omega arith; fits = omega arith; few = omega arith; end = omega arith }
sizes (suc (suc (suc (suc (suc (suc (suc zero))))))) h = record { next = λ g. omega arith; low = omega arith; fits = omega arith; few = omega arith; end = omega arith }
sizes (suc (suc (suc (suc (suc (suc (suc (suc zero)))))))) h = record { next = λ g. omega arith; low = omega arith; fits = omega arith; few = omega arith; end = omega arith }
sizes (suc (suc (suc (suc (suc (suc (suc (suc (suc zero))))))))) h = record { next = λ g. omega arith; low = omega arith; fits = omega arith; few = omega arith; end = omega arith }
sizes (suc (suc (suc (suc (suc (suc (suc (suc (suc (suc zero)))))))))) h = record { next = λ g. omega arith; low = omega arith; fits = omega arith; few = omega arith; end = omega arith }
sizes (suc (suc (suc (suc (suc (suc (suc (suc (suc (suc (suc zero))))))))))) h = record { next = λ g. absurd (omega arith); low = omega arith; fits = omega arith; few = omega arith; end = omega arith }
sizes (suc (suc (suc (suc (suc (suc (suc (suc (suc (suc (suc (suc key)))))))))))) h = absurd (omega arith)

-- bases rise
rises : (k d : ℕ) → k + d ≤ 11 → base_of k ≤ base_of (k + d)
rises k zero h = let e : k + 0 ≡ k = omega arith in rw e (omega arith)
rises k (suc d) h =
    let e : k + suc d ≡ suc (k + d) = omega arith in
    let i : base_of k ≤ base_of (k + d) = rises k d (omega arith) in
    let s : base_of (k + d) + limit_of (k + d) * width_of (k + d) ≤ base_of (suc (k + d)) = (sizes (k + d) (omega arith)).next (omega arith) in
    rw e (omega arith)

-- a table ends before a later one begins
pub before : (k key : ℕ) → k < key → key ≤ 11 → base_of k + limit_of k * width_of k ≤ base_of key
before k key h g =
    let e : suc k + (key - suc k) ≡ key = omega arith in
    let s : base_of k + limit_of k * width_of k ≤ base_of (suc k) = (sizes k (omega arith)).next (omega arith) in
    let r : base_of (suc k) ≤ base_of (suc k + (key - suc k)) = rises (suc k) (key - suc k) (omega arith) in
    let r' : base_of (suc k) ≤ base_of key = rw e at r in
    omega arith

-- a word of a row is one of its table
pub row_end : (w i n m : ℕ) → i < n → m < w → i * w + m < n * w
row_end w i n m h g =
    let p : (i + 1) * w ≤ n * w = mul-le-mul_right w (let q : i + 1 ≤ n = omega arith in q) in
    let e : (i + 1) * w ≡ i * w + w = add-mul i 1 w ∙ ap (λ (k : ℕ). i * w + k) (one-mul w) in
    omega arith

-- words of two rows are two words
pub apart : (k key i c m n : ℕ) → k ≤ 11 → key ≤ 11 → i < limit_of k → c < limit_of key → m < width_of k → n < width_of key → (k ≡ key → i < c) → cell k i m ≡ cell key c n → ⊥
apart k key i c m n hk hkey hi hc hm hn less e = go (ltb k key) refl (ltb key k) refl
  where
    p : i * width_of k + m < limit_of k * width_of k
    p = row_end (width_of k) i (limit_of k) m hi hm

    q : c * width_of key + n < limit_of key * width_of key
    q = row_end (width_of key) c (limit_of key) n hc hn

    same : k ≡ key → ⊥
    same s =
        let r : i * width_of k + m < c * width_of k = row_end (width_of k) i c m (less s) hm in
        let a : base_of k ≡ base_of key = ap base_of s in
        let b : c * width_of k ≡ c * width_of key = ap (λ (x : ℕ). c * width_of x) s in
        omega (arith, e)

    go : (s : Bool) → ltb k key ≡ s → (t : Bool) → ltb key k ≡ t → ⊥
    go true f t g =
        let b : base_of k + limit_of k * width_of k ≤ base_of key = before k key (ltb-true k key f) (omega arith) in
        omega (arith, p, q, e)
    go false f true g =
        let b : base_of key + limit_of key * width_of key ≤ base_of k = before key k (ltb-true key k g) (omega arith) in
        omega (arith, p, q, e)
    go false f false g = same (let a : key ≤ k = ltb-false k key f in let b : k ≤ key = ltb-false key k g in omega arith)

-- ---- where the parts of a row are

pub row_is : (key c : ℕ) → c < limit_of key → row_at key c ≡ base_of key + c * width_of key
unfolding row_at
row_is key c h = rw (lt-ltb c (limit_of key) h)

-- a row and its words are in the table
pub row_low : (key c m : ℕ) → key ≤ 11 → c < limit_of key → m < width_of key → cell key c m < table_words
row_low key c m h l g =
    let s : base_of key + limit_of key * width_of key ≤ table_words = (sizes key h).end in
    let p : c * width_of key + m < limit_of key * width_of key = row_end (width_of key) c (limit_of key) m l g in
    omega arith

pub place_in : (key row n : ℕ) → row < nowhere → 1 ≤ n → n ≤ stored_of key → place_of key row n ≡ row + first_of key + (n - 1)
unfolding place_of
place_in key row n h l g =
    rw (lt-ltb row nowhere h, le-ltb (stored_of key) n g, le-ltb n 1 l) (go (eqb key 6))
  where
    go : (t : Bool) → cond t (row + n) (row + (n - 1)) ≡ row + cond t 1 0 + (n - 1)
    go true = omega arith
    go false = omega arith

pub place_out : (key row n : ℕ) → stored_of key < n → place_of key row n ≡ nowhere
unfolding place_of
place_out key row n h = go (ltb row nowhere)
  where
    go : (t : Bool) → cond t (cond (ltb (stored_of key) n) nowhere (cond (ltb n 1) nowhere (cond (eqb key 6) (row + n) (row + (n - 1))))) nowhere ≡ nowhere
    go true = rw (lt-ltb (stored_of key) n h)
    go false = refl

-- counts stand in the first ten words
pub count_is : (key : ℕ) → 1 ≤ key → key ≤ 10 → count_at key ≡ key - 1
unfolding count_at
count_is key h g = rw (le-ltb key 1 h, le-ltb 10 key g)
