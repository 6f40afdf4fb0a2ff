-- The tables that follow each other in a slice, as one list of (stride, rows), and what they hold as the list of their words.
-- Nothing here names a table: where each begins, what the whole is, and what a change in one leaves of the others is proved once, for a list of any length. Assumes nothing.
use mathlib.Core.Path.{◌≡◌, refl, sym, ap, ◌∙◌}
use mathlib.Core.List.{List, [], ◌∷◌, ◌++◌, append_assoc, append-nil}
use Prim.Native.Nat.{ℕ, zero, suc, ◌+◌, ◌-◌, ◌*◌, ◌≤◌, ◌<◌}
use native.Mathlib.Omega.{arith}
use lib.ListN.{length, get_or, set, take, drop, replicate, length-append, length-replicate, replicate-append-replicate, length-set, take-append-drop, get_or-replicate, get_or-append}
use lib.Seq.{set-append_left, length-take-le, get_or-take, ext_get_or}
use Rattle.words.specs.Parts.{splice, splice_over, pad, length_pad, pad_splice, pad_set, pad_none, pad_get_or, set_past, get_d_past}
use Rattle.words.specs.Part.{part, part_middle, splice_past, splice_front}

-- a row's width, and the rows that the table can hold
pub record Table : Type 0 where
  pub stride : ℕ
  pub rows : ℕ

abbrev pub table : ℕ → ℕ → Table
table s n = record { stride = s; rows = n }

abbrev pub size_of : Table → ℕ
size_of t = t.rows * t.stride

abbrev pub table_at : ℕ → List Table → Table
table_at i ts = get_or ts i (table 0 0)

abbrev pub words_at : ℕ → List (List ℕ) → List ℕ
words_at i cs = get_or cs i []

-- "Behind the last row all is zero": the words of all the tables, where the rows of the first are the first of cs, and so on
abbrev pub whole : List Table → List (List ℕ) → List ℕ
whole [] cs = []
whole (t ∷ ts) [] = pad (size_of t) [] ++ whole ts []
whole (t ∷ ts) (c ∷ cs) = pad (size_of t) c ++ whole ts cs

-- where the words of tables end that begin at word b, and where table i of them begins (sums from the left, as code adds)
abbrev pub end_from : ℕ → List Table → ℕ
end_from b [] = b
end_from b (t ∷ ts) = end_from (b + size_of t) ts

abbrev pub end_of : List Table → ℕ
end_of [] = 0
end_of (t ∷ ts) = end_from (size_of t) ts

abbrev pub base_of : ℕ → List Table → ℕ
base_of i ts = end_of (take i ts)

-- the rows in use are rows that the table can hold
abbrev pub Fits : List Table → List (List ℕ) → Type 0
Fits ts [] = Unit {0}
Fits [] (c ∷ cs) = ⊥
Fits (t ∷ ts) (c ∷ cs) = (length c ≤ size_of t) × Fits ts cs

-- the words O are the tables ts with the rows cs, and whatever is behind them
pub record Tabled (ts : List Table) (cs : List (List ℕ)) (O : List ℕ) : Type 0 where
  pub fits : Fits ts cs
  pub rest : List ℕ
  pub is : O ≡ whole ts cs ++ rest

-- ---- lengths

abbrev pub sizes : List Table → ℕ
sizes [] = 0
sizes (t ∷ ts) = size_of t + sizes ts

pub end_sizes : (ts : List Table) → end_of ts ≡ sizes ts
end_sizes [] = refl
end_sizes (t ∷ ts) = go (size_of t) ts
  where
    go : (b : ℕ) (ts : List Table) → end_from b ts ≡ b + sizes ts
    go b [] = omega arith
    go b (t ∷ ts) = let k = go (b + size_of t) ts in omega arith

pub length_whole : (ts : List Table) (cs : List (List ℕ)) → Fits ts cs → length (whole ts cs) ≡ end_of ts
length_whole ts cs f = go ts cs f ∙ sym (end_sizes ts)
  where
    go : (ts : List Table) (cs : List (List ℕ)) → Fits ts cs → length (whole ts cs) ≡ sizes ts
    go [] [] f = refl
    go [] (c ∷ cs) f = absurd f
    go (t ∷ ts) [] f = length-append (pad (size_of t) []) (whole ts []) ∙ (let a = length_pad (size_of t) [] (omega arith) in let b = go ts [] tt in omega arith)
    go (t ∷ ts) (c ∷ cs) f = length-append (pad (size_of t) c) (whole ts cs) ∙ (let a = length_pad (size_of t) c f.0 in let b = go ts cs f.1 in omega arith)

pub tabled_long : (ts : List Table) (cs : List (List ℕ)) (O : List ℕ) → Tabled ts cs O → end_of ts ≤ length O
tabled_long ts cs O s = omega (arith, ap length s.is, length-append (whole ts cs) s.rest, length_whole ts cs s.fits)

fits_take : (i : ℕ) (ts : List Table) (cs : List (List ℕ)) → Fits ts cs → Fits (take i ts) (take i cs)
fits_take zero ts cs f = tt
fits_take (suc i) ts [] f = tt
fits_take (suc i) [] (c ∷ cs) f = absurd f
fits_take (suc i) (t ∷ ts) (c ∷ cs) f = (f.0, fits_take i ts cs f.1)

pub fits_at : (i : ℕ) (ts : List Table) (cs : List (List ℕ)) → i < length cs → Fits ts cs → length (words_at i cs) ≤ size_of (table_at i ts)
fits_at i ts [] h f = absurd (omega arith)
fits_at i [] (c ∷ cs) h f = absurd f
fits_at zero (t ∷ ts) (c ∷ cs) h f = f.0
fits_at (suc i) (t ∷ ts) (c ∷ cs) h f = fits_at i ts cs (omega arith) f.1

fits_set : (i : ℕ) (ws : List ℕ) (ts : List Table) (cs : List (List ℕ)) → length ws ≤ size_of (table_at i ts) → Fits ts cs → Fits ts (set cs i ws)
fits_set i ws ts [] h f = tt
fits_set i ws [] (c ∷ cs) h f = absurd f
fits_set zero ws (t ∷ ts) (c ∷ cs) h f = (h, f.1)
fits_set (suc i) ws (t ∷ ts) (c ∷ cs) h f = (f.0, fits_set i ws ts cs h f.1)

-- a table ends where the tables do, or before
pub base_in : (i : ℕ) (ts : List Table) → i < length ts → base_of i ts + size_of (table_at i ts) ≤ end_of ts
base_in i ts h = let a = end_sizes (take i ts) in let b = end_sizes ts in let k = go i ts h in omega arith
  where
    go : (i : ℕ) (ts : List Table) → i < length ts → sizes (take i ts) + size_of (table_at i ts) ≤ sizes ts
    go i [] h = absurd (omega arith)
    go zero (t ∷ ts) h = omega arith
    go (suc i) (t ∷ ts) h = let k = go i ts (omega arith) in omega arith

-- ---- the whole, cut at table i: what is ahead of it, the table, what is behind it

whole_at : (i : ℕ) (ts : List Table) (cs : List (List ℕ)) (z : List ℕ) → i < length cs → Fits ts cs
    → whole ts cs ++ z ≡ whole (take i ts) (take i cs) ++ (pad (size_of (table_at i ts)) (words_at i cs) ++ (whole (drop (suc i) ts) (drop (suc i) cs) ++ z))
whole_at i ts [] z h f = absurd (omega arith)
whole_at i [] (c ∷ cs) z h f = absurd f
whole_at zero (t ∷ ts) (c ∷ cs) z h f = append_assoc (pad (size_of t) c) (whole ts cs) z
whole_at (suc i) (t ∷ ts) (c ∷ cs) z h f =
    append_assoc (pad (size_of t) c) (whole ts cs) z
    ∙ ap (λ (l : List ℕ). pad (size_of t) c ++ l) (whole_at i ts cs z (omega arith) f.1)
    ∙ sym (append_assoc (pad (size_of t) c) (whole (take i ts) (take i cs)) _)

-- with other words in table i both sides are as they were
whole_set : (i : ℕ) (ws : List ℕ) (ts : List Table) (cs : List (List ℕ)) (z : List ℕ) → i < length cs → Fits ts cs
    → whole ts (set cs i ws) ++ z ≡ whole (take i ts) (take i cs) ++ (pad (size_of (table_at i ts)) ws ++ (whole (drop (suc i) ts) (drop (suc i) cs) ++ z))
whole_set i ws ts [] z h f = absurd (omega arith)
whole_set i ws [] (c ∷ cs) z h f = absurd f
whole_set zero ws (t ∷ ts) (c ∷ cs) z h f = append_assoc (pad (size_of t) ws) (whole ts cs) z
whole_set (suc i) ws (t ∷ ts) (c ∷ cs) z h f =
    append_assoc (pad (size_of t) c) (whole ts (set cs i ws)) z
    ∙ ap (λ (l : List ℕ). pad (size_of t) c ++ l) (whole_set i ws ts cs z (omega arith) f.1)
    ∙ sym (append_assoc (pad (size_of t) c) (whole (take i ts) (take i cs)) _)

pad_over : (n j : ℕ) (w x old y vs : List ℕ) → w ≡ x ++ (old ++ y) → length x ≡ j → length old ≡ length vs → splice (pad n w) j vs ≡ pad n (x ++ (vs ++ y))
unfolding pad
pad_over n j w x old y vs ew lx lo =
    let l : length w ≡ length (x ++ (vs ++ y)) = ap length ew ∙ simp length-append (omega arith) in
    ap (λ (t : List ℕ). splice (t ++ replicate (n - length w) 0) j vs) ew
    ∙ ap (λ (t : List ℕ). splice t j vs) (append_assoc x (old ++ y) (replicate (n - length w) 0) ∙ ap (λ (t : List ℕ). x ++ t) (append_assoc old y (replicate (n - length w) 0)))
    ∙ splice_over x old (y ++ replicate (n - length w) 0) j vs lx lo
    ∙ ap (λ (m : ℕ). x ++ (vs ++ (y ++ replicate (n - m) 0))) l
    ∙ sym (append_assoc x (vs ++ y) _ ∙ ap (λ (t : List ℕ). x ++ t) (append_assoc vs y _))

module _ (ts : List Table) (cs : List (List ℕ)) (O : List ℕ) (s : Tabled ts cs O) (i : ℕ) (h : i < length cs) where
  length_front : length (whole (take i ts) (take i cs)) ≡ base_of i ts
  length_front = length_whole (take i ts) (take i cs) (fits_take i ts cs s.fits)

  fit : length (words_at i cs) ≤ size_of (table_at i ts)
  fit = fits_at i ts cs h s.fits

  long : length (pad (size_of (table_at i ts)) (words_at i cs)) ≡ size_of (table_at i ts)
  long = length_pad (size_of (table_at i ts)) (words_at i cs) fit

  -- ---- a table read

  -- the part of the slice that is table i
  pub table_part : (a e : ℕ) → a ≡ base_of i ts → e ≡ base_of i ts + size_of (table_at i ts) → part a e O ≡ pad (size_of (table_at i ts)) (words_at i cs)
  table_part a e ea ee =
      ap (λ (t : List ℕ). part a e t) (s.is ∙ whole_at i ts cs s.rest h s.fits)
      ∙ part_middle (whole (take i ts) (take i cs)) (pad (size_of (table_at i ts)) (words_at i cs)) _ a e (length_front ∙ sym ea) (long ∙ omega arith)

  -- a word of a row in use
  pub table_word : (a j : ℕ) → a ≡ base_of i ts + j → j < length (words_at i cs) → get_or O a 0 ≡ get_or (words_at i cs) j 0
  table_word a j ea l =
      ap (λ (t : List ℕ). get_or t a 0) (s.is ∙ whole_at i ts cs s.rest h s.fits)
      ∙ get_d_past (whole (take i ts) (take i cs)) _ a j 0 (omega (arith, length_front))
      ∙ get_or-append (pad (size_of (table_at i ts)) (words_at i cs)) _ 0 j (omega (arith, long, fit))
      ∙ pad_get_or (size_of (table_at i ts)) (words_at i cs) j 0 l

  -- a word behind the rows in use
  pub table_zero : (a j : ℕ) → a ≡ base_of i ts + j → length (words_at i cs) ≤ j → j < size_of (table_at i ts) → get_or O a 0 ≡ 0
  unfolding pad
  table_zero a j ea l k =
      let Z : List ℕ = replicate (size_of (table_at i ts) - length (words_at i cs)) 0 in
      ap (λ (t : List ℕ). get_or t a 0) (s.is ∙ whole_at i ts cs s.rest h s.fits)
      ∙ get_d_past (whole (take i ts) (take i cs)) _ a j 0 (omega (arith, length_front))
      ∙ get_or-append (words_at i cs ++ Z) _ 0 j (omega (arith, long))
      ∙ get_d_past (words_at i cs) Z j (j - length (words_at i cs)) 0 (omega arith)
      ∙ get_or-replicate (size_of (table_at i ts) - length (words_at i cs)) (j - length (words_at i cs)) 0 0 (omega arith)

  -- ---- a table changed

  -- Any change of table i alone, said once: it is one behind whatever is ahead of the table, and ahead of whatever is behind it.
  pub change : (ws O' : List ℕ) → length ws ≤ size_of (table_at i ts)
      → ((p z : List ℕ) → length p ≡ base_of i ts → O ≡ p ++ (pad (size_of (table_at i ts)) (words_at i cs) ++ z) → O' ≡ p ++ (pad (size_of (table_at i ts)) ws ++ z)) → Tabled ts (set cs i ws) O'
  change ws O' f c = record {
    fits = fits_set i ws ts cs f s.fits;
    rest = s.rest;
    is = c (whole (take i ts) (take i cs)) (whole (drop (suc i) ts) (drop (suc i) cs) ++ s.rest) length_front (s.is ∙ whole_at i ts cs s.rest h s.fits) ∙ sym (whole_set i ws ts cs s.rest h s.fits);
  }

  -- words put over words of the table
  pub put_splice : (a j : ℕ) (vs ws : List ℕ) → a ≡ base_of i ts + j → j + length vs ≤ size_of (table_at i ts) → length ws ≤ size_of (table_at i ts)
      → splice (pad (size_of (table_at i ts)) (words_at i cs)) j vs ≡ pad (size_of (table_at i ts)) ws → Tabled ts (set cs i ws) (splice O a vs)
  put_splice a j vs ws ea k f e = change ws (splice O a vs) f (λ p z lp eo.
      let T : List ℕ = pad (size_of (table_at i ts)) (words_at i cs) in
      ap (λ (t : List ℕ). splice t a vs) eo
      ∙ ap (λ (n : ℕ). splice (p ++ (T ++ z)) n vs) ea
      ∙ splice_past p (T ++ z) vs (base_of i ts) j lp
      ∙ ap (λ (t : List ℕ). p ++ t) (splice_front T z vs j (omega (arith, long)) ∙ ap (λ (t : List ℕ). t ++ z) e))

  -- rows put behind those in use: the table then has the words ws
  pub put_more : (a : ℕ) (vs ws : List ℕ) → a ≡ base_of i ts + length (words_at i cs) → length (words_at i cs) + length vs ≤ size_of (table_at i ts) → words_at i cs ++ vs ≡ ws
      → Tabled ts (set cs i ws) (splice O a vs)
  put_more a vs ws ea k e =
      put_splice a (length (words_at i cs)) vs ws ea k (omega (arith, length-append (words_at i cs) vs, ap length e))
      (pad_splice (size_of (table_at i ts)) (words_at i cs) vs (length (words_at i cs)) refl ∙ ap (λ (t : List ℕ). pad (size_of (table_at i ts)) t) e)

  -- a word stored in a row in use
  pub put_word : (a j x : ℕ) (ws : List ℕ) → a ≡ base_of i ts + j → j < length (words_at i cs) → set (words_at i cs) j x ≡ ws → Tabled ts (set cs i ws) (set O a x)
  put_word a j x ws ea l e = change ws (set O a x) (omega (arith, length-set (words_at i cs) j x, fit, ap length e)) (λ p z lp eo.
      let T : List ℕ = pad (size_of (table_at i ts)) (words_at i cs) in
      ap (λ (t : List ℕ). set t a x) eo
      ∙ set_past p (T ++ z) a j x (omega arith)
      ∙ ap (λ (t : List ℕ). p ++ t)
      (set-append_left T z j x (omega (arith, long, fit))
      ∙ ap (λ (t : List ℕ). t ++ z) (pad_set (size_of (table_at i ts)) (words_at i cs) j x l ∙ ap (λ (t : List ℕ). pad (size_of (table_at i ts)) t) e)))

  -- words of rows in use replaced by as many
  pub put_over : (a j : ℕ) (x old y vs ws : List ℕ) → a ≡ base_of i ts + j → words_at i cs ≡ x ++ (old ++ y) → length x ≡ j → length old ≡ length vs → x ++ (vs ++ y) ≡ ws
      → Tabled ts (set cs i ws) (splice O a vs)
  put_over a j x old y vs ws ea ew lx lo e =
      let n : length (words_at i cs) ≡ length x + (length old + length y) = ap length ew ∙ length-append x (old ++ y) ∙ ap (λ (m : ℕ). length x + m) (length-append old y) in
      let m : length ws ≡ length x + (length vs + length y) = ap length (sym e) ∙ length-append x (vs ++ y) ∙ ap (λ (m : ℕ). length x + m) (length-append vs y) in
      put_splice a j vs ws ea (omega (arith, fit)) (omega (arith, fit))
      (pad_over (size_of (table_at i ts)) j (words_at i cs) x old y vs ew lx lo ∙ ap (λ (t : List ℕ). pad (size_of (table_at i ts)) t) e)

-- zeros behind a table's words are words of it
pub pad_zeros : (n k : ℕ) (xs : List ℕ) → length xs + k ≤ n → pad n xs ≡ pad n (xs ++ replicate k 0)
unfolding pad
pad_zeros n k xs h =
    let e : n - length xs ≡ k + (n - length (xs ++ replicate k 0)) = simp (length-append, length-replicate) (omega arith) in
    ap (λ (m : ℕ). xs ++ replicate m 0) e
    ∙ ap (λ (t : List ℕ). xs ++ t) (sym (replicate-append-replicate k (n - length (xs ++ replicate k 0)) 0))
    ∙ sym (append_assoc xs (replicate k 0) (replicate (n - length (xs ++ replicate k 0)) 0))

-- a row of zeros more in use: nothing is stored
pub put_zeros : (ts : List Table) (cs : List (List ℕ)) (O : List ℕ) → Tabled ts cs O → (i k : ℕ) (ws : List ℕ) → i < length cs → length (words_at i cs) + k ≤ size_of (table_at i ts)
    → words_at i cs ++ replicate k 0 ≡ ws → Tabled ts (set cs i ws) O
put_zeros ts cs O s i k ws h l e =
    change ts cs O s i h ws O (omega (arith, length-append (words_at i cs) (replicate k 0), length-replicate {A = ℕ} k 0, ap length e))
    (λ p z lp eo. eo ∙ ap (λ (t : List ℕ). p ++ (t ++ z)) (pad_zeros (size_of (table_at i ts)) k (words_at i cs) l ∙ ap (λ (t : List ℕ). pad (size_of (table_at i ts)) t) e))

-- ---- cleared tables, tables in a longer slice, tables alone in one

abbrev pub Empty : List (List ℕ) → Type 0
Empty [] = Unit {0}
Empty (c ∷ cs) = (c ≡ []) × Empty cs

whole_empty : (ts : List Table) (cs : List (List ℕ)) → Empty cs → whole ts cs ≡ replicate (sizes ts) 0
whole_empty [] cs e = refl
whole_empty (t ∷ ts) [] e = (λ i. pad_none (size_of t) i ++ whole_empty ts [] tt i) ∙ replicate-append-replicate (size_of t) (sizes ts) 0
whole_empty (t ∷ ts) (c ∷ cs) e =
    (λ i. (ap (λ (w : List ℕ). pad (size_of t) w) e.0 ∙ pad_none (size_of t)) i ++ whole_empty ts cs e.1 i) ∙ replicate-append-replicate (size_of t) (sizes ts) 0

fits_empty : (ts : List Table) (cs : List (List ℕ)) → length cs ≤ length ts → Empty cs → Fits ts cs
fits_empty ts [] l e = tt
fits_empty [] (c ∷ cs) l e = absurd (omega arith)
fits_empty (t ∷ ts) (c ∷ cs) l e = (omega (arith, ap (length {A = ℕ}) e.0), fits_empty ts cs (omega arith) e.1)

-- zeros are tables with no row in use
pub cleared : (ts : List Table) (cs : List (List ℕ)) (n : ℕ) → length cs ≤ length ts → Empty cs → end_of ts ≤ n → Tabled ts cs (replicate n 0)
cleared ts cs n lc e l =
    let k : n ≡ sizes ts + (n - sizes ts) = omega (arith, end_sizes ts) in
    record {
      fits = fits_empty ts cs lc e;
      rest = replicate (n - sizes ts) 0;
      is = ap (λ (m : ℕ). replicate m 0) k ∙ sym (replicate-append-replicate (sizes ts) (n - sizes ts) 0) ∙ ap (λ (t : List ℕ). t ++ replicate (n - sizes ts) 0) (sym (whole_empty ts cs e));
    }

-- words that are zeros to the tables' end
pub cleared_to : (ts : List Table) (cs : List (List ℕ)) (O : List ℕ) → length cs ≤ length ts → Empty cs → end_of ts ≤ length O → ((i : ℕ) → i < end_of ts → get_or O i 0 ≡ 0) → Tabled ts cs O
cleared_to ts cs O lc e l z =
    let n : ℕ = end_of ts in
    let lt : length (take n O) ≡ n = length-take-le n O l in
    let front : take n O ≡ whole ts cs =
    ext_get_or 0 (take n O) (replicate n 0) (lt ∙ sym (length-replicate n 0)) (λ i x. get_or-take n O i 0 (omega arith) ∙ z i (omega arith) ∙ sym (get_or-replicate n i 0 0 (omega arith)))
    ∙ ap (λ (m : ℕ). replicate m 0) (end_sizes ts) ∙ sym (whole_empty ts cs e) in
    record { fits = fits_empty ts cs lc e; rest = drop n O; is = sym (take-append-drop n O) ∙ ap (λ (t : List ℕ). t ++ drop n O) front }

-- words behind the tables are no part of them
pub tabled_front : (ts : List Table) (cs : List (List ℕ)) (O Z : List ℕ) → Tabled ts cs O → Tabled ts cs (O ++ Z)
tabled_front ts cs O Z s = record { fits = s.fits; rest = s.rest ++ Z; is = ap (λ (t : List ℕ). t ++ Z) s.is ∙ append_assoc (whole ts cs) s.rest Z }

-- words that are just the tables
pub tabled_all : (ts : List Table) (cs : List (List ℕ)) (O : List ℕ) → Tabled ts cs O → length O ≡ end_of ts → O ≡ whole ts cs
tabled_all ts cs O s l =
    let n : length s.rest ≡ 0 = omega (arith, ap length s.is, length-append (whole ts cs) s.rest, length_whole ts cs s.fits) in
    s.is ∙ ap (λ (t : List ℕ). whole ts cs ++ t) (nothing s.rest n) ∙ append-nil (whole ts cs)
  where
    nothing : (l : List ℕ) → length l ≡ 0 → l ≡ []
    nothing [] e = refl
    nothing (x ∷ l) e = absurd (omega arith)
