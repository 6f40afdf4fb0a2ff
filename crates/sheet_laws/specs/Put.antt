-- What one record leaves in the table: its own row, its count, and all other words as they were. Assumes nothing.
use Rattle.std.specs.Prelude.{◌≡◌, ltb, eqb}
use Rattle.std.proofs.Math.Path.{refl, sym, ap}
use Rattle.std.proofs.Common.{◌∙◌, ltb-true, ltb-false, lt-ltb, le-ltb, eqb-true, eq-eqb}
use mathlib.Core.List.{List, [], ◌∷◌}
use mathlib.Core.Bool.{Bool, true, false, cond}
use Prim.Native.Nat.{ℕ, zero, suc, ◌+◌, ◌-◌, ◌*◌, ◌≤◌, ◌<◌}
use native.Mathlib.Omega.{arith}
use lib.ListN.{length, get_or, set, length-set}
use Rattle.std.proofs.Math.Seq.{get_or-set_same, get_or-set_other}
use Rattle.definition.specs.JobSheet.{Word as Named, opt, bank, class, reg, block, value, vgroup, operand, hint, seg, use', end, word_number, Record}
use Rattle.sheet_rules.specs.Rules.{low_of}
use Rattle.sheet_rules.specs.Places.{limit_of, base_of, width_of, stored_of, stored_fields, count_at, place_of, tail_at, tail_of, up_of, nowhere, table_words}
use Rattle.sheet_laws.specs.Table.{Filled, filled, puts, ups, counted, keyed, row_of, put}
use Rattle.sheet_laws.specs.Values.{Small}
use Rattle.sheet_laws.specs.Regions.{first_of, cell, sizes, row_is, place_in, place_out, count_is}

pub key_most : (w : Named) → word_number w ≤ 11
key_most opt = omega arith
key_most bank = omega arith
key_most class = omega arith
key_most reg = omega arith
key_most block = omega arith
key_most value = omega arith
key_most vgroup = omega arith
key_most operand = omega arith
key_most hint = omega arith
key_most seg = omega arith
key_most use' = omega arith
key_most end = omega arith

up_one : (n : ℕ) → n < 10 → up_of n ≡ n + 1
unfolding up_of
up_one n h = rw (lt-ltb n 10 h)

up_most : (n : ℕ) → n ≤ 10 → (n ≤ up_of n) × (up_of n ≤ 10)
unfolding up_of
up_most n h = go (ltb n 10) refl
  where
    go : (t : Bool) → ltb n 10 ≡ t → (n ≤ cond t (n + 1) 10) × (cond t (n + 1) 10 ≤ 10)
    go true e = let g : n < 10 = ltb-true n 10 e in (omega arith, omega arith)
    go false e = (omega arith, omega arith)

low_same : (v : ℕ) → v ≤ 4294967295 → low_of v ≡ v
unfolding low_of
low_same v h = rw (le-ltb 4294967295 v h)

-- ---- the fields of a row

module _ (key row : ℕ) (hk : key ≤ 11) (hrow : row + width_of key ≤ table_words) where
  -- a is no place of field n or a later one
  abbrev Away : ℕ → ℕ → Type 0
  Away a n = (m : ℕ) → n ≤ m → m ≤ stored_of key → a ≡ row + first_of key + (m - 1) → ⊥

  place_ne : (n a : ℕ) → 1 ≤ n → a < table_words → Away a n → a ≡ place_of key row n → ⊥
  place_ne n a h l w e = go (ltb (stored_of key) n) refl
    where
      go : (t : Bool) → ltb (stored_of key) n ≡ t → ⊥
      go true f = let q : place_of key row n ≡ nowhere = place_out key row n (ltb-true (stored_of key) n f) in omega (arith, e)
      go false f =
          let g : n ≤ stored_of key = ltb-false (stored_of key) n f in
          w n (omega arith) g (e ∙ place_in key row n (omega (arith, hrow)) h g)

  pub puts_long : (vs : List ℕ) (n : ℕ) (out : List ℕ) → length (puts key row n vs out) ≡ length out
  unfolding puts
  puts_long [] n out = refl
  puts_long (v ∷ vs) n out = puts_long vs (up_of n) (set out (place_of key row n) (low_of v)) ∙ length-set out (place_of key row n) (low_of v)

  pub puts_other : (vs : List ℕ) (n a : ℕ) (out : List ℕ) → 1 ≤ n → n ≤ 10 → a < table_words → Away a n → get_or (puts key row n vs out) a 0 ≡ get_or out a 0
  unfolding puts
  puts_other [] n a out h g l w = refl
  puts_other (v ∷ vs) n a out h g l w =
      let u = up_most n g in
      puts_other vs (up_of n) a (set out (place_of key row n) (low_of v)) (omega (arith, u.0)) u.1 l (λ m p q e. w m (omega (arith, u.0, p)) q e)
      ∙ get_or-set_other out (place_of key row n) a (low_of v) 0 (λ e. place_ne n a h l w e)

  pub puts_in : (vs : List ℕ) (n m a : ℕ) (out : List ℕ) → length out ≡ table_words → 1 ≤ n → n + m ≤ stored_of key → a ≡ row + first_of key + (n + m - 1) → Small vs
      → get_or (puts key row n vs out) a 0 ≡ get_or vs m (get_or out a 0)
  unfolding puts
  puts_in [] n m a out l h g e s = refl
  puts_in (v ∷ vs) n zero a out l h g e s =
      let f : stored_of key ≤ 8 = (sizes key hk).few in
      let fits : first_of key + stored_of key ≤ width_of key = (sizes key hk).fits in
      let u : up_of n ≡ n + 1 = up_one n (omega arith) in
      let p : place_of key row n ≡ row + first_of key + (n - 1) = place_in key row n (omega (arith, hrow)) h (omega arith) in
      let q : a ≡ place_of key row n = omega arith in
      let low : a < table_words = omega (arith, hrow) in
      puts_other vs (up_of n) a (set out (place_of key row n) (low_of v)) (omega arith) (omega arith) low (λ m' x y z. omega (arith, x, z, h, e, u))
      ∙ ap (λ (i : ℕ). get_or (set out (place_of key row n) (low_of v)) i 0) q
      ∙ get_or-set_same out (place_of key row n) (low_of v) 0 (omega arith)
      ∙ low_same v s.0
  puts_in (v ∷ vs) n (suc m) a out l h g e s =
      let f : stored_of key ≤ 8 = (sizes key hk).few in
      let fits : first_of key + stored_of key ≤ width_of key = (sizes key hk).fits in
      let u : up_of n ≡ n + 1 = up_one n (omega arith) in
      let p : place_of key row n ≡ row + first_of key + (n - 1) = place_in key row n (omega (arith, hrow)) h (omega arith) in
      let ne : a ≡ place_of key row n → ⊥ = λ q. omega (arith, q, p, e, h) in
      puts_in vs (up_of n) m a (set out (place_of key row n) (low_of v)) (length-set out (place_of key row n) (low_of v) ∙ l) (omega arith) (omega arith) (omega arith) s.1
      ∙ ap (λ (d : ℕ). get_or vs m d) (get_or-set_other out (place_of key row n) a (low_of v) 0 ne)

-- ---- the other words of a record

-- how many records of a kind the table has
abbrev pub cnt : List ℕ → ℕ → ℕ
cnt T k = get_or T (count_at k) 0

count_cases : (key : ℕ) (P : ℕ → Type 0) → ((a : ℕ) → a < 10 → P a) → P nowhere → P (count_at key)
unfolding count_at
count_cases key P p q = go (ltb key 1) (ltb 10 key) refl
  where
    go : (s t : Bool) → ltb 10 key ≡ t → P (cond s nowhere (cond t nowhere (key - 1)))
    go true t e = q
    go false true e = q
    go false false e = p (key - 1) (let h : key ≤ 10 = ltb-false 10 key e in omega arith)

tail_cases : (key row : ℕ) (P : ℕ → Type 0) → (key ≡ 6 → P row) → (key ≡ 9 → P (row + 4)) → P nowhere → P (tail_at key row)
unfolding tail_at
tail_cases key row P p q z = go (ltb row nowhere) (eqb key 6) refl (eqb key 9) refl
  where
    go : (s t : Bool) → eqb key 6 ≡ t → (u : Bool) → eqb key 9 ≡ u → P (cond s (cond t row (cond u (row + 4) nowhere)) nowhere)
    go false t e u f = z
    go true true e u f = p (eqb-true key 6 e)
    go true false e true f = q (eqb-true key 9 f)
    go true false e false f = z

width_6 : (key : ℕ) → key ≡ 6 → (width_of key ≡ 9) × ((first_of key ≡ 1) × (stored_of key ≡ 8))
unfolding width_of Rattle.sheet_rules.specs.Places.widths stored_of stored_fields
width_6 key e = (ap width_of e, (ap (λ (k : ℕ). first_of k) e, ap stored_of e))

width_9 : (key : ℕ) → key ≡ 9 → (width_of key ≡ 5) × ((first_of key ≡ 0) × (stored_of key ≡ 4))
unfolding width_of Rattle.sheet_rules.specs.Places.widths stored_of stored_fields
width_9 key e = (ap width_of e, (ap (λ (k : ℕ). first_of k) e, ap stored_of e))

tail_6 : (key row : ℕ) → key ≡ 6 → row < nowhere → tail_at key row ≡ row
unfolding tail_at
tail_6 key row e h = rw (lt-ltb row nowhere h, eq-eqb key 6 e)

tail_9 : (key row : ℕ) → key ≡ 9 → row < nowhere → tail_at key row ≡ row + 4
unfolding tail_at
tail_9 key row e h = rw (lt-ltb row nowhere h, ap (λ (k : ℕ). eqb k 6) e, eq-eqb key 9 e)

tail_few : (key n uses : ℕ) → key ≡ 6 → tail_of key n uses ≡ n - 1
unfolding tail_of
tail_few key n uses e = rw (ap (λ (k : ℕ). eqb k 9) e) (go (ltb n 1) refl)
  where
    go : (t : Bool) → ltb n 1 ≡ t → cond t 0 (n - 1) ≡ n - 1
    go true q = let h : n < 1 = ltb-true n 1 q in omega arith
    go false q = refl

tail_uses : (key n uses : ℕ) → key ≡ 9 → tail_of key n uses ≡ uses
unfolding tail_of
tail_uses key n uses e = rw (eq-eqb key 9 e)

-- two kinds have two counts
count_ne : (key k : ℕ) → 1 ≤ k → k ≤ 10 → (key ≡ k → ⊥) → count_at k ≡ count_at key → ⊥
unfolding count_at
count_ne key k h g ne e = go (ltb key 1) refl (ltb 10 key) refl (sym (count_is k h g) ∙ e)
  where
    go : (s : Bool) → ltb key 1 ≡ s → (t : Bool) → ltb 10 key ≡ t → k - 1 ≡ cond s nowhere (cond t nowhere (key - 1)) → ⊥
    go true p t q f = omega (arith, f, g)
    go false p true q f = omega (arith, f, g)
    go false p false q f =
        let l : 1 ≤ key = ltb-false key 1 p in
        let f' : k - 1 ≡ key - 1 = f in
        ne (omega arith)

module _ (f : Filled) (r : Record) (long : length f.out ≡ table_words) (room : cnt f.out (keyed r) < limit_of (keyed r)) where
  the_row : ℕ
  the_row = row_of f.out (keyed r)

  fields_in : List ℕ
  fields_in = puts (keyed r) (row_of f.out (keyed r)) 1 r.fields f.out

  hk : keyed r ≤ 11
  hk = key_most r.word

  is_row : the_row ≡ base_of (keyed r) + cnt f.out (keyed r) * width_of (keyed r)
  unfolding the_row
  is_row = row_is (keyed r) (cnt f.out (keyed r)) room

  row_fits : the_row + width_of (keyed r) ≤ table_words
  row_fits =
      let p : (cnt f.out (keyed r) + 1) * width_of (keyed r) ≤ limit_of (keyed r) * width_of (keyed r) = native.Mathlib.Nat.mul-le-mul_right (width_of (keyed r)) (let q : cnt f.out (keyed r) + 1 ≤ limit_of (keyed r) = omega (arith, room) in q) in
      let e : (cnt f.out (keyed r) + 1) * width_of (keyed r) ≡ cnt f.out (keyed r) * width_of (keyed r) + width_of (keyed r) = native.Mathlib.Nat.add-mul (cnt f.out (keyed r)) 1 (width_of (keyed r)) ∙ ap (λ (k : ℕ). cnt f.out (keyed r) * width_of (keyed r) + k) (native.Mathlib.Nat.one-mul (width_of (keyed r))) in
      omega (arith, p, e, is_row, (sizes (keyed r) hk).end)

  row_low' : 10 ≤ the_row
  row_low' = omega (arith, is_row, (sizes (keyed r) hk).low)

  -- a word before the rows
  puts_count : (a : ℕ) → a < 10 → get_or fields_in a 0 ≡ get_or f.out a 0
  unfolding fields_in the_row
  puts_count a h = puts_other (keyed r) the_row hk row_fits r.fields 1 a f.out (omega arith) (omega arith) (omega arith) (λ m p q e. omega (arith, e, row_low', h))

  long_fields_in : length fields_in ≡ table_words
  unfolding fields_in the_row
  long_fields_in = puts_long (keyed r) (row_of f.out (keyed r)) hk row_fits r.fields 1 f.out ∙ long

  count_fields_in : get_or fields_in (count_at (keyed r)) 0 ≡ cnt f.out (keyed r)
  count_fields_in =
      count_cases (keyed r) (λ a. get_or fields_in a 0 ≡ get_or f.out a 0) puts_count
      (lib.ListN.get_or-eq_default fields_in 0 (omega (arith, long_fields_in)) ∙ sym (lib.ListN.get_or-eq_default f.out 0 (omega (arith, long))))

  last_word : ℕ
  last_word = tail_of (keyed r) (ups 1 r.fields) (get_or fields_in 9 0)

  put_is : put f r ≡ filled f.over (set (set fields_in (tail_at (keyed r) the_row) last_word) (count_at (keyed r)) (cnt f.out (keyed r) + 1))
  unfolding put counted fields_in the_row last_word
  put_is =
      ap (λ (n : ℕ). cond (ltb n (limit_of (keyed r))) (filled f.over (set (set fields_in (tail_at (keyed r) the_row) last_word) (count_at (keyed r)) (n + 1))) (filled true (set fields_in (tail_at (keyed r) the_row) last_word))) count_fields_in
      ∙ rw (lt-ltb (cnt f.out (keyed r)) (limit_of (keyed r)) room)

  row_in : List ℕ
  row_in = set fields_in (tail_at (keyed r) the_row) last_word

  long_row_in : length row_in ≡ table_words
  unfolding row_in
  long_row_in = length-set fields_in (tail_at (keyed r) the_row) last_word ∙ long_fields_in

  pub put_long : length (put f r).out ≡ table_words
  unfolding row_in
  put_long = ap (λ (g : Filled). length g.out) put_is ∙ length-set row_in (count_at (keyed r)) (cnt f.out (keyed r) + 1) ∙ long_row_in

  pub put_over : (put f r).over ≡ f.over
  put_over = ap (λ (g : Filled). g.over) put_is

  -- a word behind the counts
  put_row : (a : ℕ) → 10 ≤ a → a < table_words → get_or (put f r).out a 0 ≡ get_or row_in a 0
  unfolding row_in
  put_row a h l =
      ap (λ (g : Filled). get_or g.out a 0) put_is
      ∙ get_or-set_other row_in (count_at (keyed r)) a (cnt f.out (keyed r) + 1) 0
      (count_cases (keyed r) (λ b. a ≡ b → ⊥) (λ b g e. omega (arith, g, e, h)) (λ e. omega (arith, e, l)))

  pub put_other : (a : ℕ) → 10 ≤ a → a < table_words → ((m : ℕ) → m < width_of (keyed r) → a ≡ cell (keyed r) (cnt f.out (keyed r)) m → ⊥) → get_or (put f r).out a 0 ≡ get_or f.out a 0
  unfolding row_in fields_in the_row
  put_other a h l away =
      put_row a h l
      ∙ get_or-set_other fields_in (tail_at (keyed r) the_row) a last_word 0
      (tail_cases (keyed r) the_row (λ b. a ≡ b → ⊥)
      (λ e q. away 0 (omega (arith, (width_6 (keyed r) e).0)) (omega (arith, q, is_row)))
      (λ e q. away 4 (omega (arith, (width_9 (keyed r) e).0)) (omega (arith, q, is_row)))
      (λ e. omega (arith, e, l)))
      ∙ puts_other (keyed r) the_row hk row_fits r.fields 1 a f.out (omega arith) (omega arith) l
      (λ m p q e. away (first_of (keyed r) + (m - 1)) (omega (arith, p, q, (sizes (keyed r) hk).fits)) (omega (arith, e, is_row)))

  pub put_field : (j : ℕ) → j < stored_of (keyed r) → Small r.fields
      → get_or (put f r).out (cell (keyed r) (cnt f.out (keyed r)) (first_of (keyed r) + j)) 0 ≡ get_or r.fields j (get_or f.out (cell (keyed r) (cnt f.out (keyed r)) (first_of (keyed r) + j)) 0)
  unfolding row_in fields_in the_row
  put_field j h s =
      let a : ℕ = cell (keyed r) (cnt f.out (keyed r)) (first_of (keyed r) + j) in
      let ea : a ≡ the_row + first_of (keyed r) + (1 + j - 1) = omega (arith, is_row) in
      let low : a < table_words = omega (arith, is_row, row_fits, (sizes (keyed r) hk).fits, h) in
      put_row a (omega (arith, row_low', ea)) low
      ∙ get_or-set_other fields_in (tail_at (keyed r) the_row) a last_word 0
      (tail_cases (keyed r) the_row (λ b. a ≡ b → ⊥)
      (λ e q. omega (arith, q, ea, (width_6 (keyed r) e).1.0))
      (λ e q. omega (arith, q, ea, (width_9 (keyed r) e).1.0, (width_9 (keyed r) e).1.1, h))
      (λ e. omega (arith, e, low)))
      ∙ puts_in (keyed r) the_row hk row_fits r.fields 1 j a f.out long (omega arith) (omega (arith, h)) ea s

  pub put_members : keyed r ≡ 6 → get_or (put f r).out (cell (keyed r) (cnt f.out (keyed r)) 0) 0 ≡ ups 1 r.fields - 1
  unfolding row_in fields_in last_word
  put_members e =
      let a : ℕ = cell (keyed r) (cnt f.out (keyed r)) 0 in
      let ea : a ≡ the_row = omega (arith, is_row) in
      let low : a < table_words = omega (arith, is_row, row_fits, (width_6 (keyed r) e).0) in
      let at : tail_at (keyed r) the_row ≡ a = tail_6 (keyed r) the_row e (omega (arith, ea, low)) ∙ sym ea in
      put_row a (omega (arith, row_low', ea)) low
      ∙ ap (λ (b : ℕ). get_or (set fields_in b last_word) a 0) at
      ∙ get_or-set_same fields_in a last_word 0 (omega (arith, low, long_fields_in))
      ∙ tail_few (keyed r) (ups 1 r.fields) (get_or fields_in 9 0) e

  pub put_before : keyed r ≡ 9 → get_or (put f r).out (cell (keyed r) (cnt f.out (keyed r)) 4) 0 ≡ get_or f.out 9 0
  unfolding row_in fields_in last_word
  put_before e =
      let a : ℕ = cell (keyed r) (cnt f.out (keyed r)) 4 in
      let ea : a ≡ the_row + 4 = omega (arith, is_row) in
      let low : a < table_words = omega (arith, is_row, row_fits, (width_9 (keyed r) e).0) in
      let at : tail_at (keyed r) the_row ≡ a = tail_9 (keyed r) the_row e (omega (arith, ea, low)) ∙ sym ea in
      put_row a (omega (arith, row_low', ea)) low
      ∙ ap (λ (b : ℕ). get_or (set fields_in b last_word) a 0) at
      ∙ get_or-set_same fields_in a last_word 0 (omega (arith, low, long_fields_in))
      ∙ tail_uses (keyed r) (ups 1 r.fields) (get_or fields_in 9 0) e
      ∙ puts_count 9 (omega arith)

  -- the counts
  count_in : (a : ℕ) → a < 10 → get_or row_in a 0 ≡ get_or f.out a 0
  unfolding row_in
  count_in a h =
      get_or-set_other fields_in (tail_at (keyed r) the_row) a last_word 0
      (tail_cases (keyed r) the_row (λ b. a ≡ b → ⊥) (λ e q. omega (arith, q, h, row_low')) (λ e q. omega (arith, q, h, row_low')) (λ e. omega (arith, e, h)))
      ∙ puts_count a h

  pub put_count : (k : ℕ) → 1 ≤ k → k ≤ 10 → cnt (put f r).out k ≡ cond (eqb (keyed r) k) (cnt f.out k + 1) (cnt f.out k)
  unfolding row_in
  put_count k h g =
      ap (λ (q : Filled). get_or q.out (count_at k) 0) put_is ∙ go (eqb (keyed r) k) refl
    where
      ck : count_at k ≡ k - 1
      ck = count_is k h g

      go : (t : Bool) → eqb (keyed r) k ≡ t → get_or (set row_in (count_at (keyed r)) (cnt f.out (keyed r) + 1)) (count_at k) 0 ≡ cond t (cnt f.out k + 1) (cnt f.out k)
      go true e =
          let s : keyed r ≡ k = eqb-true (keyed r) k e in
          ap (λ (i : ℕ). get_or (set row_in (count_at i) (cnt f.out i + 1)) (count_at k) 0) s
          ∙ get_or-set_same row_in (count_at k) (cnt f.out k + 1) 0 (omega (arith, ck, long_row_in, g))
      go false e =
          let s : keyed r ≡ k → ⊥ = λ q. mathlib.Core.Bool.false≢true (sym e ∙ eq-eqb (keyed r) k q) in
          get_or-set_other row_in (count_at (keyed r)) (count_at k) (cnt f.out (keyed r) + 1) 0 (count_ne (keyed r) k h g s)
          ∙ count_in (count_at k) (omega (arith, ck, g, h))
