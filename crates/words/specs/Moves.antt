-- What loops and stores in a row leave in flat tables: a row put, words copied, a gap opened in the middle. Assumes nothing.
use Rattle.std.specs.Prelude.{◌≡◌, List, [], ◌∷◌, ◌++◌, ℕ, suc, ◌+◌, ◌-◌, ◌≤◌, ◌<◌, length, get_or, set, take, drop}
use Rattle.std.proofs.Common.{sym, ap, ◌∙◌, append_assoc, add-one, arith, length-append, length-take, length-drop, take-append-drop, drop_of_length-le, length-take-le, drop-drop, take-suc, drop-cons, get_or-drop}
use Rattle.std.proofs.Math.Numerals.{add-two, add-three}
use Rattle.std.proofs.Math.Seq.{paste, paste-suc, slice, slice_empty, slice-cons, length-slice}
use Rattle.std.proofs.lemmas.List.{get_or_at, set_at}
use Rattle.words.specs.Parts.{splice, splice_sets, set_past, splice_paste, splice_over}

-- the stores of a row, as the code writes its indices; longer rows are two of these (`splice_splice`)
pub stores_3 : (d : List ℕ) (i a b c : ℕ) → i + 3 ≤ length d
    → set (set (set d i a) (i + 1) b) (i + 2) c ≡ splice d i (a ∷ b ∷ c ∷ [])
stores_3 d i a b c h = rw (add-one, add-two) (splice_sets d i (a ∷ b ∷ c ∷ []) h)

pub stores_4 : (d : List ℕ) (i a b c e : ℕ) → i + 4 ≤ length d
    → set (set (set (set d i a) (i + 1) b) (i + 2) c) (i + 3) e ≡ splice d i (a ∷ b ∷ c ∷ e ∷ [])
stores_4 d i a b c e h = rw (add-one, add-two, add-three) (splice_sets d i (a ∷ b ∷ c ∷ e ∷ []) h)

pub store_1 : (d : List ℕ) (i a : ℕ) → i + 1 ≤ length d → set d i a ≡ splice d i (a ∷ [])
store_1 d i a h = splice_sets d i (a ∷ []) h

-- ---- a copy of words

-- one turn: the invariant is `d ≡ paste d₀ at (drop from s) k`
pub copy_step : (d₀ d s : List ℕ) (at from k : ℕ) → at + k < length d₀ → from + k < length s → d ≡ paste d₀ at (drop from s) k
    → set d (at + k) (get_or s (from + k) 0) ≡ paste d₀ at (drop from s) (k + 1)
copy_step d₀ d s at from k hd hs e =
    let l : k < length (drop from s) = simp length-drop (omega arith) in
    rw (e, ← get_or-drop from s k 0, add-one) (paste-suc d₀ at (drop from s) k 0 hd l)

pub copy_done : (d₀ s : List ℕ) (at from n : ℕ) → from + n ≤ length s → paste d₀ at (drop from s) n ≡ splice d₀ at (take n (drop from s))
copy_done d₀ s at from n h = splice_paste d₀ at (drop from s) n (simp length-drop (omega arith))

-- ---- words moved up

-- the words from at up to end have moved n places up; what stands in the gap is not said
pub record Gap (t : List ℕ) (at end n : ℕ) (t' : List ℕ) : Type 0 where
  pub gap : List ℕ
  pub long : length gap ≡ n
  pub is : t' ≡ take at t ++ (gap ++ (slice at end t ++ drop (end + n) t))

pub gap_start : (t : List ℕ) (end n : ℕ) → end + n ≤ length t → Gap t end end n t
gap_start t end n h =
    record {
      gap = take n (drop end t);
      long = length-take-le n (drop end t) (simp length-drop (omega arith));
      is = sym (rw (slice_empty end t, ← drop-drop n end t, take-append-drop n (drop end t), take-append-drop end t));
    }

-- a turn of the loop that goes down: word j is stored n places up
pub gap_step : (t₀ t : List ℕ) (j end n : ℕ) → j < end → end + n ≤ length t₀ → Gap t₀ (suc j) end n t → Gap t₀ j end n (set t (j + n) (get_or t j 0))
gap_step t₀ t j end n hj hn g =
    let x : ℕ = get_or t₀ j 0 in
    let rest : List ℕ = slice (suc j) end t₀ ++ drop (end + n) t₀ in
    let lj : length (take j t₀) ≡ j = length-take-le j t₀ (omega arith) in
    let lx : length (x ∷ g.gap) ≡ suc n = ap suc g.long in
    let new : List ℕ = take n (x ∷ g.gap) in
    let ln : length new ≡ n = length-take-le n (x ∷ g.gap) (omega arith) in
    let is-t : t ≡ take j t₀ ++ (x ∷ (g.gap ++ rest)) =
    g.is ∙ ap (λ (r : List ℕ). r ++ (g.gap ++ rest)) (take-suc t₀ j 0 (omega arith)) ∙ append_assoc (take j t₀) (x ∷ []) (g.gap ++ rest) in
    let at_j : get_or t j 0 ≡ x = ap (λ (r : List ℕ). get_or r j 0) is-t ∙ get_or_at (take j t₀) x (g.gap ++ rest) 0 j lj in
    let whole : x ∷ (g.gap ++ rest) ≡ new ++ (get_or (x ∷ g.gap) n 0 ∷ rest) =
    ap (λ (r : List ℕ). r ++ rest) (sym (take-append-drop n (x ∷ g.gap)) ∙ ap (λ (r : List ℕ). new ++ r) (drop-cons (x ∷ g.gap) n 0 (omega arith) ∙ ap (λ (r : List ℕ). get_or (x ∷ g.gap) n 0 ∷ r) (drop_of_length-le (x ∷ g.gap) {i = suc n} (omega arith))))
    ∙ append_assoc new (get_or (x ∷ g.gap) n 0 ∷ []) rest in
    record {
      gap = new;
      long = ln;
      is =
          ap (λ (r : List ℕ). set r (j + n) (get_or t j 0)) is-t
          ∙ ap (λ (v : ℕ). set (take j t₀ ++ (x ∷ (g.gap ++ rest))) (j + n) v) at_j
          ∙ set_past (take j t₀) (x ∷ (g.gap ++ rest)) (j + n) n x (omega arith)
          ∙ ap (λ (r : List ℕ). take j t₀ ++ set r n x) whole
          ∙ ap (λ (r : List ℕ). take j t₀ ++ r) (set_at new (get_or (x ∷ g.gap) n 0) rest x n ln)
          ∙ ap (λ (r : List ℕ). take j t₀ ++ (new ++ (r ++ drop (end + n) t₀))) (sym (slice-cons j end t₀ 0 hj (omega arith)));
    }

pub length_gap : (t t' : List ℕ) (at end n : ℕ) → at ≤ end → end + n ≤ length t → Gap t at end n t' → length t' ≡ length t
length_gap t t' at end n h hn g =
    let l : length (slice at end t) ≡ end - at = length-slice at end t (omega arith) in
    ap length g.is ∙ simp (length-append, length-drop, length-take, g.long) (omega arith)

-- words put into the gap
pub gap_fill : (t t' vs : List ℕ) (at end n : ℕ) → at ≤ length t → length vs ≡ n → Gap t at end n t'
    → splice t' at vs ≡ take at t ++ (vs ++ (slice at end t ++ drop (end + n) t))
gap_fill t t' vs at end n h l g =
    ap (λ (r : List ℕ). splice r at vs) g.is
    ∙ splice_over (take at t) g.gap (slice at end t ++ drop (end + n) t) at vs (length-take-le at t h) (g.long ∙ sym l)
