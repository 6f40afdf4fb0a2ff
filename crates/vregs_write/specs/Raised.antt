-- A number added to one word of each of some rows. Assumes nothing.
use Rattle.std.specs.Prelude.{◌≡◌, get_or, set}
use Rattle.std.proofs.Math.Path.{refl, sym, ap}
use Rattle.std.proofs.Common.{◌∙◌, suc-mul, length-set, get_or-append-add}
use mathlib.Core.List.{List, [], ◌∷◌, ◌++◌, append_assoc}
use Prim.Native.Nat.{ℕ, zero, suc, ◌+◌, ◌-◌, ◌*◌, ◌≤◌, ◌<◌}
use native.Mathlib.Omega.{arith}
use Rattle.std.proofs.Math.ListN.{length, replicate, length-append, get_or-append}
use Rattle.std.proofs.lemmas.List.{set-append_left}
use Rattle.words.specs.Parts.{pad, length_pad, set_append_add}
use Rattle.words.specs.AnyRows.{rows_of, after, rows_append, length_rows}
use Rattle.words.specs.Tables.{Table, size_of, table_at, words_at, base_of, Tabled, fits_at, change}

-- m added to word i and to each s words behind it, k of them
unfoldable pub raised : ℕ → ℕ → List ℕ → ℕ → ℕ → List ℕ
raised m s t i zero = t
raised m s t i (suc k) = raised m s (set t i (get_or t i 0 + m)) (i + s) k

pub length_raised : (m s : ℕ) (t : List ℕ) (i k : ℕ) → length (raised m s t i k) ≡ length t
unfolding raised
length_raised m s t i zero = refl
length_raised m s t i (suc k) = length_raised m s (set t i (get_or t i 0 + m)) (i + s) k ∙ length-set t i (get_or t i 0 + m)

-- behind some words, and ahead of some
raised_past : (m s : ℕ) (xs ys : List ℕ) (i k : ℕ) → raised m s (xs ++ ys) (length xs + i) k ≡ xs ++ raised m s ys i k
unfolding raised
raised_past m s xs ys i zero = refl
raised_past m s xs ys i (suc k) =
    let a : length xs + i + s ≡ length xs + (i + s) = omega arith in
    ap (λ (x : ℕ). raised m s (set (xs ++ ys) (length xs + i) (x + m)) (length xs + i + s) k) (get_or-append-add xs ys i 0)
    ∙ ap (λ (t : List ℕ). raised m s t (length xs + i + s) k) (set_append_add xs ys i (get_or ys i 0 + m))
    ∙ ap (λ (n : ℕ). raised m s (xs ++ set ys i (get_or ys i 0 + m)) n k) a
    ∙ raised_past m s xs (set ys i (get_or ys i 0 + m)) (i + s) k

raised_front : (m s : ℕ) (ys zs : List ℕ) (i k : ℕ) → i + k * s < length ys + s → raised m s (ys ++ zs) i k ≡ raised m s ys i k ++ zs
unfolding raised
raised_front m s ys zs i zero h = refl
raised_front m s ys zs i (suc k) h =
    let l : i < length ys = omega (arith, suc-mul k s) in
    let n : length (set ys i (get_or ys i 0 + m)) ≡ length ys = length-set ys i (get_or ys i 0 + m) in
    ap (λ (x : ℕ). raised m s (set (ys ++ zs) i (x + m)) (i + s) k) (get_or-append ys zs 0 i l)
    ∙ ap (λ (t : List ℕ). raised m s t (i + s) k) (set-append_left ys zs i (get_or ys i 0 + m) l)
    ∙ raised_front m s (set ys i (get_or ys i 0 + m)) zs (i + s) k (omega (arith, suc-mul k s))

-- ---- rows whose running value stands in word j

module _ {A : Type 0} (row : ℕ → A → List ℕ) (step : ℕ → A → ℕ) (s : ℕ) (wide : (σ : ℕ) (a : A) → length (row σ a) ≡ s) (j m : ℕ) (inside : j < s)
    (put : (σ : ℕ) (a : A) → set (row σ a) j (get_or (row σ a) j 0 + m) ≡ row (σ + m) a) (on : (σ : ℕ) (a : A) → step σ a + m ≡ step (σ + m) a) where
  pub raised_rows : (σ : ℕ) (cs : List A) → raised m s (rows_of row step σ cs) j (length cs) ≡ rows_of row step (σ + m) cs
  unfolding raised rows_of
  raised_rows σ [] = refl
  raised_rows σ (a ∷ cs) =
      let rest : List ℕ = rows_of row step (step σ a) cs in
      let w : j < length (row σ a) = omega (arith, wide σ a) in
      let e : j + s ≡ length (row (σ + m) a) + j = omega (arith, wide (σ + m) a) in
      ap (λ (x : ℕ). raised m s (set (row σ a ++ rest) j (x + m)) (j + s) (length cs)) (get_or-append (row σ a) rest 0 j w)
      ∙ ap (λ (t : List ℕ). raised m s t (j + s) (length cs)) (set-append_left (row σ a) rest j (get_or (row σ a) j 0 + m) w ∙ ap (λ (t : List ℕ). t ++ rest) (put σ a))
      ∙ ap (λ (n : ℕ). raised m s (row (σ + m) a ++ rest) n (length cs)) e
      ∙ raised_past m s (row (σ + m) a) rest j (length cs)
      ∙ ap (λ (t : List ℕ). row (σ + m) a ++ t) (raised_rows (step σ a) cs ∙ ap (λ (n : ℕ). rows_of row step n cs) (on σ a))

  -- in a table: the rows behind xs
  pub raised_table : (N σ : ℕ) (xs ys : List A) (i k : ℕ) → i ≡ length xs * s + j → k ≡ length ys
      → raised m s (pad N (rows_of row step σ (xs ++ ys))) i k ≡ pad N (rows_of row step σ xs ++ rows_of row step (after row step σ xs + m) ys)
  unfolding pad
  raised_table N σ xs ys i k ei ek =
      let X : List ℕ = rows_of row step σ xs in
      let Y : List ℕ = rows_of row step (after row step σ xs) ys in
      let Y' : List ℕ = rows_of row step (after row step σ xs + m) ys in
      let Z : List ℕ = replicate (N - length (X ++ Y)) 0 in
      let lx : length X ≡ length xs * s = length_rows row step s wide σ xs in
      let ly : length Y ≡ length ys * s = length_rows row step s wide (after row step σ xs) ys in
      let ly' : length Y' ≡ length ys * s = length_rows row step s wide (after row step σ xs + m) ys in
      let e : i ≡ length X + j = omega arith in
      let lz : length (X ++ Y) ≡ length (X ++ Y') = simp length-append (omega arith) in
      ap (λ (t : List ℕ). raised m s (t ++ replicate (N - length t) 0) i k) (rows_append row step σ xs ys)
      ∙ ap (λ (t : List ℕ). raised m s t i k) (append_assoc X Y Z)
      ∙ ap (λ (n : ℕ). raised m s (X ++ (Y ++ Z)) n k) e
      ∙ raised_past m s X (Y ++ Z) j k
      ∙ ap (λ (n : ℕ). X ++ raised m s (Y ++ Z) j n) ek
      ∙ ap (λ (t : List ℕ). X ++ t) (raised_front m s Y Z j (length ys) (omega arith))
      ∙ ap (λ (t : List ℕ). X ++ (t ++ Z)) (raised_rows (after row step σ xs) ys)
      ∙ sym (append_assoc X Y' Z)
      ∙ ap (λ (n : ℕ). (X ++ Y') ++ replicate (N - n) 0) lz

-- ---- in one of the tables

module _ (ts : List Table) (cs : List (List ℕ)) (O : List ℕ) (l : Tabled ts cs O) (i : ℕ) (h : i < length cs) where
  pub put_raised : (m s a j k : ℕ) (ws : List ℕ) → a ≡ base_of i ts + j → j + k * s < size_of (table_at i ts) + s → length ws ≤ size_of (table_at i ts)
      → raised m s (pad (size_of (table_at i ts)) (words_at i cs)) j k ≡ pad (size_of (table_at i ts)) ws → Tabled ts (set cs i ws) (raised m s O a k)
  put_raised m s a j k ws ea q f e = change ts cs O l i h ws (raised m s O a k) f (λ p z lp eo.
      let T : List ℕ = pad (size_of (table_at i ts)) (words_at i cs) in
      let lt : length T ≡ size_of (table_at i ts) = length_pad (size_of (table_at i ts)) (words_at i cs) (fits_at i ts cs h l.fits) in
      let at : a ≡ length p + j = omega arith in
      ap (λ (t : List ℕ). raised m s t a k) eo
      ∙ ap (λ (n : ℕ). raised m s (p ++ (T ++ z)) n k) at
      ∙ raised_past m s p (T ++ z) j k
      ∙ ap (λ (t : List ℕ). p ++ t) (raised_front m s T z j k (omega arith) ∙ ap (λ (t : List ℕ). t ++ z) e))
