-- Parts of flat tables: a run of words put at a place (`splice`), and a table that holds words and then zeros (`pad`).
-- `◌++◌` is written nested to the right throughout, as `simp append_assoc` leaves it.
-- Assumes nothing.
use Rattle.std.specs.Prelude.{◌≡◌, ℕ, zero, suc, ◌+◌, ◌-◌, ◌≤◌, ◌<◌}
use Rattle.std.proofs.Common.{sym, ◌∙◌, suc-add, zero-add}
use Rattle.std.proofs.Math.Path.{ap}
use mathlib.Core.List.{List, [], ◌∷◌, ◌++◌, append_assoc}
use Rattle.std.proofs.Math.Nat.{sub-zero, suc-sub-suc, zero-sub}
use native.Mathlib.Omega.{arith}
use lib.ListN.{length, get_or, set, take, drop, replicate, length-append, length-take, length-drop, length-replicate, length-set, take-append-drop}
use lib.Seq.{sets, sets-eq, paste, take_at, drop_at, drop-append-add, length-take-le, drop-drop, slice}

module _ {ℓ} {A : Type ℓ} where
  -- d with the words vs at index i on
  unfoldable pub splice : List A → ℕ → List A → List A
  splice d i vs = take i d ++ (vs ++ drop (i + length vs) d)

  pub set_append_add : (xs ys : List A) (n : ℕ) (a : A) → set (xs ++ ys) (length xs + n) a ≡ xs ++ set ys n a
  set_append_add [] ys n a = ap (λ (k : ℕ). set ys k a) (zero-add n)
  set_append_add (x ∷ xs) ys n a =
      ap (λ (k : ℕ). set (x ∷ (xs ++ ys)) k a) (suc-add (length xs) n) ∙ ap (λ (r : List A). x ∷ r) (set_append_add xs ys n a)

  -- the seam's place known by an equation
  pub set_past : (xs ys : List A) (i n : ℕ) (a : A) → i ≡ length xs + n → set (xs ++ ys) i a ≡ xs ++ set ys n a
  set_past xs ys i n a e = ap (λ (k : ℕ). set (xs ++ ys) k a) e ∙ set_append_add xs ys n a

  pub get_d_past : (xs ys : List A) (i n : ℕ) (d : A) → i ≡ length xs + n → get_or (xs ++ ys) i d ≡ get_or ys n d
  get_d_past xs ys i n d e = ap (λ (k : ℕ). get_or (xs ++ ys) k d) e ∙ lib.Seq.get_or-append-add xs ys n d

  -- words put at a seam
  pub splice_seam : (p q : List A) (i : ℕ) (vs : List A) → length p ≡ i → splice (p ++ q) i vs ≡ p ++ (vs ++ drop (length vs) q)
  unfolding splice
  splice_seam p q i vs e =
      let f : drop (i + length vs) (p ++ q) ≡ drop (length vs) q = ap (λ (k : ℕ). drop (k + length vs) (p ++ q)) (sym e) ∙ drop-append-add p q (length vs) in
      rw (take_at p q i e, f)

  pub splice_over : (p old q : List A) (i : ℕ) (vs : List A) → length p ≡ i → length old ≡ length vs
      → splice (p ++ (old ++ q)) i vs ≡ p ++ (vs ++ q)
  splice_over p old q i vs e l =
      splice_seam p (old ++ q) i vs e ∙ ap (λ (r : List A). p ++ (vs ++ r)) (drop_at old q (length vs) l)

  -- words put behind words just put
  pub splice_splice : (d : List A) (i : ℕ) (vs ws : List A) → i + length vs ≤ length d
      → splice (splice d i vs) (i + length vs) ws ≡ splice d i (vs ++ ws)
  unfolding splice
  splice_splice d i vs ws h =
      let l : length (take i d ++ vs) ≡ i + length vs = length-append (take i d) vs ∙ ap (λ (n : ℕ). n + length vs) (length-take-le i d (omega arith)) in
      let e : i + length vs + length ws ≡ i + length (vs ++ ws) = simp length-append (omega arith) in
      ap (λ (r : List A). splice r (i + length vs) ws) (sym (append_assoc (take i d) vs (drop (i + length vs) d)))
      ∙ splice_seam (take i d ++ vs) (drop (i + length vs) d) (i + length vs) ws l
      ∙ rw (drop-drop (length ws) (i + length vs) d, e) (simp append_assoc)

  -- none put, and others put over those just put
  pub splice_none : (d : List A) (i : ℕ) → splice d i [] ≡ d
  unfolding splice
  splice_none d i = let e : i + 0 ≡ i = omega arith in rw e (take-append-drop i d)

  pub splice_again : (d : List A) (i : ℕ) (vs : List A) → i + length vs ≤ length d → (ws : List A) → length vs ≡ length ws
      → splice (splice d i vs) i ws ≡ splice d i ws
  unfolding splice
  splice_again d i vs h ws e =
      splice_over (take i d) vs (drop (i + length vs) d) i ws (length-take-le i d (omega arith)) e
      ∙ ap (λ (n : ℕ). take i d ++ (ws ++ drop (i + n) d)) e

  pub length_splice : (d : List A) (i : ℕ) (vs : List A) → i + length vs ≤ length d → length (splice d i vs) ≡ length d
  unfolding splice
  length_splice d i vs h =
      simp (length-append, length-drop, length-take) (omega arith)

  -- straight-line stores: `splice_sets d i (a ∷ b ∷ c ∷ []) h : set (set (set d i a) (suc i) b) (suc (suc i)) c ≡ splice ..`
  pub splice_sets : (d : List A) (i : ℕ) (vs : List A) → i + length vs ≤ length d → sets d i vs ≡ splice d i vs
  unfolding splice
  splice_sets d i vs h = sets-eq vs d i h ∙ append_assoc (take i d) vs (drop (i + length vs) d)

  pub splice_paste : (d : List A) (i : ℕ) (s : List A) (n : ℕ) → n ≤ length s → paste d i s n ≡ splice d i (take n s)
  unfolding splice
  splice_paste d i s n h =
      append_assoc (take i d) (take n s) (drop (i + n) d)
      ∙ ap (λ (k : ℕ). take i d ++ (take n s ++ drop (i + k) d)) (sym (length-take-le n s h))

  pub drop_replicate : (k n : ℕ) (a : A) → drop k (replicate n a) ≡ replicate (n - k) a
  drop_replicate zero n a = ap (λ (m : ℕ). replicate m a) (sym (sub-zero n))
  drop_replicate (suc k) zero a = ap (λ (m : ℕ). replicate m a) (sym (zero-sub (suc k)))
  drop_replicate (suc k) (suc n) a = drop_replicate k n a ∙ ap (λ (m : ℕ). replicate m a) (sym (suc-sub-suc n k))

-- n words: xs, and zeros behind them
unfoldable pub pad : ℕ → List ℕ → List ℕ
pad n xs = xs ++ replicate (n - length xs) 0

pub length_pad : (n : ℕ) (xs : List ℕ) → length xs ≤ n → length (pad n xs) ≡ n
unfolding pad
length_pad n xs h = simp (length-append, length-replicate) (omega arith)

-- words put behind what a table holds
pub pad_splice : (n : ℕ) (xs vs : List ℕ) (i : ℕ) → length xs ≡ i → splice (pad n xs) i vs ≡ pad n (xs ++ vs)
unfolding pad
pad_splice n xs vs i e =
    let l : n - length xs - length vs ≡ n - length (xs ++ vs) = simp length-append (omega arith) in
    splice_seam xs (replicate (n - length xs) 0) i vs e
    ∙ ap (λ (r : List ℕ). xs ++ (vs ++ r)) (drop_replicate (length vs) (n - length xs) 0 ∙ ap (λ (m : ℕ). replicate m 0) l)
    ∙ sym (append_assoc xs vs _)

pub pad_none : (n : ℕ) → pad n [] ≡ replicate n 0
unfolding pad
pad_none n = ap (λ (m : ℕ). replicate m 0) (sub-zero n)

-- words put into the middle of what a table holds: what `insert_words` leaves
pub pad_insert : (n : ℕ) (xs ys vs : List ℕ) (at end : ℕ) → length xs ≡ at → length xs + length ys ≡ end
    → take at (pad n (xs ++ ys)) ++ (vs ++ (slice at end (pad n (xs ++ ys)) ++ drop (end + length vs) (pad n (xs ++ ys)))) ≡ pad n (xs ++ (vs ++ ys))
unfolding pad
pad_insert n xs ys vs at end ex ey =
    let z : List ℕ = replicate (n - length (xs ++ ys)) 0 in
    let exy : length (xs ++ ys) ≡ end = length-append xs ys ∙ ey in
    let t : take at ((xs ++ ys) ++ z) ≡ xs = ap (λ (r : List ℕ). take at r) (append_assoc xs ys z) ∙ take_at xs (ys ++ z) at ex in
    let s : slice at end ((xs ++ ys) ++ z) ≡ ys = ap (λ (r : List ℕ). drop at r) (take_at (xs ++ ys) z end exy) ∙ drop_at xs ys at ex in
    let l : n - length (xs ++ ys) - length vs ≡ n - length (xs ++ (vs ++ ys)) = simp length-append (omega arith) in
    let d : drop (end + length vs) ((xs ++ ys) ++ z) ≡ replicate (n - length (xs ++ (vs ++ ys))) 0 =
    ap (λ (k : ℕ). drop (k + length vs) ((xs ++ ys) ++ z)) (sym exy)
    ∙ drop-append-add (xs ++ ys) z (length vs)
    ∙ drop_replicate (length vs) (n - length (xs ++ ys)) 0
    ∙ ap (λ (k : ℕ). replicate k 0) l in
    rw (t, s, d) (simp append_assoc)

-- a store into what the table holds
pub pad_set : (n : ℕ) (xs : List ℕ) (i a : ℕ) → i < length xs → set (pad n xs) i a ≡ pad n (set xs i a)
unfolding pad
pad_set n xs i a h =
    lib.Seq.set-append_left xs (replicate (n - length xs) 0) i a h
    ∙ ap (λ (k : ℕ). set xs i a ++ replicate (n - k) 0) (sym (length-set xs i a))

pub pad_get_or : (n : ℕ) (xs : List ℕ) (i d : ℕ) → i < length xs → get_or (pad n xs) i d ≡ get_or xs i d
unfolding pad
pad_get_or n xs i d h = lib.ListN.get_or-append xs (replicate (n - length xs) 0) d i h

-- ---- reading a table after words were put at i

module _ {ℓ} {A : Type ℓ} (d : List A) (i : ℕ) (vs : List A) (h : i + length vs ≤ length d) where
  pub get_or_splice_before : (j : ℕ) (z : A) → j < i → get_or (splice d i vs) j z ≡ get_or d j z
  unfolding splice
  get_or_splice_before j z l =
      lib.ListN.get_or-append (take i d) (vs ++ drop (i + length vs) d) z j (simp length-take (omega arith)) ∙ lib.Seq.get_or-take i d j z l

  pub get_or_splice_in : (k : ℕ) (z : A) → k < length vs → get_or (splice d i vs) (i + k) z ≡ get_or vs k z
  unfolding splice
  get_or_splice_in k z l =
      get_d_past (take i d) (vs ++ drop (i + length vs) d) (i + k) k z (ap (λ (n : ℕ). n + k) (sym (length-take-le i d (omega arith))))
      ∙ lib.ListN.get_or-append vs (drop (i + length vs) d) z k l

  pub drop_splice : drop (i + length vs) (splice d i vs) ≡ drop (i + length vs) d
  unfolding splice
  drop_splice =
      ap (λ (l : List A). drop (i + length vs) l) (sym (append_assoc (take i d) vs (drop (i + length vs) d)))
      ∙ drop_at (take i d ++ vs) (drop (i + length vs) d) (i + length vs) (length-append (take i d) vs ∙ ap (λ (n : ℕ). n + length vs) (length-take-le i d (omega arith)))
