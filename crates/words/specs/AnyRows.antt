-- Rows of one width, of any record, with a value that runs along (a running sum; Unit where there is none). The laws hold for every width and every row.
-- Assumes nothing.
use Rattle.std.specs.Prelude.{◌≡◌, ℕ, suc, ◌+◌, ◌*◌, ◌<◌, take, drop}
use Rattle.std.proofs.Math.Path.{refl, sym, ap}
use Rattle.std.proofs.Common.{◌∙◌, zero-mul, arith, length-take-le}
use mathlib.Core.List.{List, [], ◌∷◌, ◌++◌, append_assoc}
use Rattle.std.proofs.Math.Nat.{suc-mul}
use Rattle.std.proofs.Math.ListN.{length, get_or, set, length-append, get_or-append}
use Rattle.std.proofs.lemmas.List.{set-append_left}
use Rattle.std.proofs.Math.Seq.{split_at}
use Rattle.words.specs.Parts.{set_past, get_d_past}

module _ {A S : Type 0} (row : S → A → List ℕ) (step : S → A → S) where
  unfoldable pub rows_of : S → List A → List ℕ
  rows_of σ [] = []
  rows_of σ (a ∷ cs) = row σ a ++ rows_of (step σ a) cs

  -- the running value behind some rows
  unfoldable pub after : S → List A → S
  after σ [] = σ
  after σ (a ∷ cs) = after (step σ a) cs

  pub rows_append : (σ : S) (cs bs : List A) → rows_of σ (cs ++ bs) ≡ rows_of σ cs ++ rows_of (after σ cs) bs
  unfolding rows_of after
  rows_append σ [] bs = refl
  rows_append σ (a ∷ cs) bs = ap (λ (l : List ℕ). row σ a ++ l) (rows_append (step σ a) cs bs) ∙ sym (append_assoc (row σ a) (rows_of (step σ a) cs) (rows_of (after (step σ a) cs) bs))

  module _ (s : ℕ) (wide : (σ : S) (a : A) → length (row σ a) ≡ s) where
    pub length_rows : (σ : S) (cs : List A) → length (rows_of σ cs) ≡ length cs * s
    unfolding rows_of
    length_rows σ [] = sym (zero-mul s)
    length_rows σ (a ∷ cs) = simp length-append (omega (arith, wide σ a, length_rows (step σ a) cs, suc-mul (length cs) s))

    -- word k of the row behind xs
    pub rows_get : (σ : S) (xs : List A) (a : A) (ys : List A) (v k : ℕ) → length xs ≡ v → k < s
        → get_or (rows_of σ (xs ++ (a ∷ ys))) (v * s + k) 0 ≡ get_or (row (after σ xs) a) k 0
    unfolding rows_of
    rows_get σ xs a ys v k e h =
        let l : v * s + k ≡ length (rows_of σ xs) + k = ap (λ (n : ℕ). n * s + k) (sym e) ∙ ap (λ (n : ℕ). n + k) (sym (length_rows σ xs)) in
        ap (λ (t : List ℕ). get_or t (v * s + k) 0) (rows_append σ xs (a ∷ ys))
        ∙ get_d_past (rows_of σ xs) _ (v * s + k) k 0 l
        ∙ get_or-append (row (after σ xs) a) _ 0 k (omega (arith, wide (after σ xs) a))

    -- a store to word k of the row behind xs: the other rows are as they were
    pub rows_set : (σ : S) (xs : List A) (a : A) (ys : List A) (v k x : ℕ) → length xs ≡ v → k < s
        → set (rows_of σ (xs ++ (a ∷ ys))) (v * s + k) x ≡ rows_of σ xs ++ (set (row (after σ xs) a) k x ++ rows_of (step (after σ xs) a) ys)
    unfolding rows_of
    rows_set σ xs a ys v k x e h =
        let l : v * s + k ≡ length (rows_of σ xs) + k = ap (λ (n : ℕ). n * s + k) (sym e) ∙ ap (λ (n : ℕ). n + k) (sym (length_rows σ xs)) in
        ap (λ (t : List ℕ). set t (v * s + k) x) (rows_append σ xs (a ∷ ys))
        ∙ set_past (rows_of σ xs) _ (v * s + k) k x l
        ∙ ap (λ (t : List ℕ). rows_of σ xs ++ t) (set-append_left (row (after σ xs) a) _ k x (omega (arith, wide (after σ xs) a)))

    -- the same by the row's number
    pub row_get : (σ : S) (cs : List A) (d : A) (v k : ℕ) → v < length cs → k < s
        → get_or (rows_of σ cs) (v * s + k) 0 ≡ get_or (row (after σ (take v cs)) (get_or cs v d)) k 0
    row_get σ cs d v k h l =
        ap (λ (t : List A). get_or (rows_of σ t) (v * s + k) 0) (split_at cs v d h)
        ∙ rows_get σ (take v cs) (get_or cs v d) (drop (suc v) cs) v k (length-take-le v cs (omega arith)) l

    -- row v becomes another's, where that leaves the running value as it was
    pub rows_other : (σ : S) (xs : List A) (a b : A) (ys : List A) → step (after σ xs) b ≡ step (after σ xs) a
        → rows_of σ (xs ++ (b ∷ ys)) ≡ rows_of σ xs ++ (row (after σ xs) b ++ rows_of (step (after σ xs) a) ys)
    unfolding rows_of
    rows_other σ xs a b ys e = rows_append σ xs (b ∷ ys) ∙ ap (λ (τ : S). rows_of σ xs ++ (row (after σ xs) b ++ rows_of τ ys)) e

    -- a store to a field is a change of the record: `row_put .. refl refl` where the field is written out in `row` and is not what runs along
    pub row_put : (σ : S) (xs : List A) (a b : A) (ys : List A) (v k x : ℕ) → length xs ≡ v → k < s
        → set (row (after σ xs) a) k x ≡ row (after σ xs) b → step (after σ xs) b ≡ step (after σ xs) a
        → set (rows_of σ (xs ++ (a ∷ ys))) (v * s + k) x ≡ rows_of σ (xs ++ (b ∷ ys))
    row_put σ xs a b ys v k x e h r t =
        rows_set σ xs a ys v k x e h
        ∙ ap (λ (l : List ℕ). rows_of σ xs ++ (l ++ rows_of (step (after σ xs) a) ys)) r
        ∙ sym (rows_other σ xs a b ys t)
