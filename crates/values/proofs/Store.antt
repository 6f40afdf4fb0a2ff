-- The index as it is built: zeros, then one operand more at each turn. Assumes nothing.
use mathlib.Core.Path.{◌≡◌, refl, sym, ap, ◌∙◌}
use mathlib.Core.Bool.{Bool, true, false}
use mathlib.Core.List.{List, [], ◌∷◌, ◌++◌}
use Prim.Native.Nat.{ℕ, zero, suc, ◌+◌, ◌≤◌, ◌<◌}
use native.Mathlib.Nat.{zero-add}
use native.Mathlib.Numerals.{add-one}
use native.Mathlib.Omega.{arith}
use lib.Dec.{eqb}
use lib.ListN.{length, get_or, set, take, drop, replicate, length-set, length-replicate}
use lib.Seq.{ext_get_or, get_or-set_same, get_or-set_other, set-append_left, take-set-lt, drop-set-lt, length-take-le}
use borrow.Author.Tests.{eqb-true, eqb-false, eq-eqb, ne_eqb}
use Rattle.words.specs.Tab.{tab, length_tab, get_or_tab, tab_snoc}
use Rattle.words.specs.Parts.{splice, splice_none, splice_again, length_splice, splice_splice, set_past, get_or_splice_before, get_or_splice_in}
use Rattle.words.specs.Moves.{store_1}
use Rattle.definition.specs.declared.Operand.{Operand}
use Rattle.values.specs.declared.operands.Chains.{Chains}
use Rattle.values.specs.OperandRows.{op_at}
use Rattle.values.specs.Chains.{last_before, heads_of, nexts_of, chains_of, linked, Chained}

-- ---- words put at a place, and then a store

module _ (d : List ℕ) (j : ℕ) (vs : List ℕ) (h : j + length vs ≤ length d) where
  -- a word put behind them
  pub splice_behind : (k x : ℕ) → length vs ≡ k → j + k < length d → set (splice d j vs) (j + k) x ≡ splice d j (vs ++ (x ∷ []))
  splice_behind k x e l =
      let n = length_splice d j vs h in
      ap (λ (m : ℕ). set (splice d j vs) (j + m) x) (sym e)
      ∙ store_1 (splice d j vs) (j + length vs) x (omega arith)
      ∙ splice_splice d j vs (x ∷ []) h

  -- a store before them
  pub set_before : (p x : ℕ) → p < j → set (splice d j vs) p x ≡ splice (set d p x) j vs
  unfolding splice
  set_before p x l =
      let n = length-take-le j d (omega arith) in
      set-append_left (take j d) (vs ++ drop (j + length vs) d) p x (omega arith)
      ∙ rw (sym (take-set-lt j d p x l), sym (drop-set-lt (j + length vs) d p x (omega arith)))

  -- a store to one of them
  pub set_in : (i x : ℕ) → i < length vs → set (splice d j vs) (j + i) x ≡ splice d j (set vs i x)
  unfolding splice
  set_in i x l =
      set_past (take j d) (vs ++ drop (j + length vs) d) (j + i) i x (ap (λ (n : ℕ). n + i) (sym (length-take-le j d (omega arith))))
      ∙ ap (λ (r : List ℕ). take j d ++ r) (set-append_left vs (drop (j + length vs) d) i x l)
      ∙ ap (λ (n : ℕ). take j d ++ (set vs i x ++ drop (j + n) d)) (sym (length-set vs i x))

-- ---- the two parts

pub length_heads : (os : List Operand) (n insts : ℕ) → length (heads_of os n insts) ≡ insts
unfolding heads_of
length_heads os n insts = length_tab (λ i. last_before os n i) 0 insts

pub length_nexts : (os : List Operand) (n : ℕ) → length (nexts_of os n) ≡ n
unfolding nexts_of
length_nexts os n = length_tab (λ k. last_before os k (op_at os k).inst.0) 0 n

pub head_at : (os : List Operand) (n insts i : ℕ) → i < insts → get_or (heads_of os n insts) i 0 ≡ last_before os n i
unfolding heads_of
head_at os n insts i h = get_or_tab (λ j. last_before os n j) 0 insts i 0 h ∙ ap (λ (j : ℕ). last_before os n j) (zero-add i)

pub next_at : (os : List Operand) (n k : ℕ) → k < n → get_or (nexts_of os n) k 0 ≡ last_before os k (op_at os k).inst.0
unfolding nexts_of
next_at os n k h =
    get_or_tab (λ j. last_before os j (op_at os j).inst.0) 0 n k 0 h ∙ ap (λ (j : ℕ). last_before os j (op_at os j).inst.0) (zero-add k)

pub heads_none : (os : List Operand) (insts : ℕ) → replicate {A = ℕ} insts 0 ≡ heads_of os 0 insts
unfolding heads_of last_before
heads_none os insts = zeros insts 0
  where
    zeros : (n i : ℕ) → replicate {A = ℕ} n 0 ≡ tab (λ (j : ℕ). 0) i n
    zeros zero i = refl
    zeros (suc n) i = ap (λ (l : List ℕ). 0 ∷ l) (zeros n (i + 1))

-- operand k is the last one of its instruction, and of no other
pub heads_next : (os : List Operand) (k insts i : ℕ) → i ≡ (op_at os k).inst.0 → i < insts → set (heads_of os k insts) i (k + 1) ≡ heads_of os (k + 1) insts
unfolding last_before
heads_next os k insts i e h =
    ext_get_or 0 _ _ (length-set (heads_of os k insts) i (k + 1) ∙ length_heads os k insts ∙ sym (length_heads os (k + 1) insts))
    (λ j l. at j (omega (arith, length-set (heads_of os k insts) i (k + 1), length_heads os k insts)) (eqb i j) refl)
  where
    at : (j : ℕ) → j < insts → (b : Bool) → eqb i j ≡ b → get_or (set (heads_of os k insts) i (k + 1)) j 0 ≡ get_or (heads_of os (k + 1) insts) j 0
    at j l true q =
        let ij : i ≡ j = eqb-true i j q in
        let t : eqb (op_at os k).inst.0 j ≡ true = eq-eqb _ _ (sym e ∙ ij) in
        ap (λ (m : ℕ). get_or (set (heads_of os k insts) i (k + 1)) m 0) (sym ij)
        ∙ get_or-set_same (heads_of os k insts) i (k + 1) 0 (omega (arith, length_heads os k insts))
        ∙ sym (head_at os (k + 1) insts j l ∙ rw (add-one, last_before, t))
    at j l false q =
        let ij : i ≡ j → ⊥ = eqb-false i j q in
        let t : eqb (op_at os k).inst.0 j ≡ false = ne_eqb _ _ (λ r. ij (e ∙ r)) in
        get_or-set_other (heads_of os k insts) i j (k + 1) 0 (λ r. ij (sym r))
        ∙ head_at os k insts j l
        ∙ sym (head_at os (k + 1) insts j l ∙ rw (add-one, last_before, t))

pub nexts_next : (os : List Operand) (k i : ℕ) → i ≡ (op_at os k).inst.0 → nexts_of os k ++ (last_before os k i ∷ []) ≡ nexts_of os (k + 1)
unfolding nexts_of
nexts_next os k i e =
    ap (λ (j : ℕ). nexts_of os k ++ (last_before os k j ∷ [])) e
    ∙ sym (tab_snoc (λ j. last_before os j (op_at os j).inst.0) 0 k ∙ ap (λ (j : ℕ). nexts_of os k ++ (last_before os j (op_at os j).inst.0 ∷ [])) (zero-add k))

-- ---- the work words

module _ (W : List ℕ) (c : Chains) (os : List Operand) (n : ℕ) (h : c.heads + c.insts ≤ c.nexts) (l : c.nexts + n ≤ length W) where
  heads_fit : c.heads + length (heads_of os n c.insts) ≤ length W
  heads_fit = omega (arith, length_heads os n c.insts)

  length_in : length (splice W c.heads (heads_of os n c.insts)) ≡ length W
  length_in = length_splice W c.heads (heads_of os n c.insts) heads_fit

  nexts_fit : c.nexts + length (nexts_of os n) ≤ length (splice W c.heads (heads_of os n c.insts))
  nexts_fit = omega (arith, length_in, length_nexts os n)

  pub length_chains : length (chains_of W c os n) ≡ length W
  unfolding chains_of
  length_chains = length_splice (splice W c.heads (heads_of os n c.insts)) c.nexts (nexts_of os n) nexts_fit ∙ length_in

  pub chains_head : (i : ℕ) → i < c.insts → get_or (chains_of W c os n) (c.heads + i) 0 ≡ last_before os n i
  unfolding chains_of
  chains_head i k =
      get_or_splice_before (splice W c.heads (heads_of os n c.insts)) c.nexts (nexts_of os n) nexts_fit (c.heads + i) 0 (omega arith)
      ∙ get_or_splice_in W c.heads (heads_of os n c.insts) heads_fit i 0 (omega (arith, length_heads os n c.insts))
      ∙ head_at os n c.insts i k

  pub chains_at : (k : ℕ) → k < n → get_or (chains_of W c os n) (c.nexts + k) 0 ≡ last_before os k (op_at os k).inst.0
  unfolding chains_of
  chains_at k j =
      get_or_splice_in (splice W c.heads (heads_of os n c.insts)) c.nexts (nexts_of os n) nexts_fit k 0 (omega (arith, length_nexts os n))
      ∙ next_at os n k j

  -- the operand behind the first n
  pub chains_next : (i : ℕ) → i ≡ (op_at os n).inst.0 → i < c.insts → c.nexts + n < length W → linked (chains_of W c os n) c n i ≡ chains_of W c os (n + 1)
  unfolding chains_of
  chains_next i e k m =
      let D : List ℕ = splice W c.heads (heads_of os n c.insts) in
      let nx : length (nexts_of os n ++ (last_before os n i ∷ [])) ≡ n + 1 = ap length (nexts_next os n i e) ∙ length_nexts os (n + 1) in
      let more : c.nexts + length (nexts_of os n ++ (last_before os n i ∷ [])) ≤ length D = omega (arith, length_in, nx) in
      ap (λ (x : ℕ). set (set (splice D c.nexts (nexts_of os n)) (c.nexts + n) x) (c.heads + i) (n + 1)) (chains_head i k)
      ∙ ap (λ (r : List ℕ). set r (c.heads + i) (n + 1)) (splice_behind D c.nexts (nexts_of os n) nexts_fit n (last_before os n i) (length_nexts os n) (omega (arith, length_in)))
      ∙ set_before D c.nexts (nexts_of os n ++ (last_before os n i ∷ [])) more (c.heads + i) (n + 1) (omega arith)
      ∙ ap (λ (r : List ℕ). splice r c.nexts (nexts_of os n ++ (last_before os n i ∷ [])))
      (set_in W c.heads (heads_of os n c.insts) heads_fit i (n + 1) (omega (arith, length_heads os n c.insts)))
      ∙ ap (λ (r : List ℕ). splice (splice W c.heads r) c.nexts (nexts_of os n ++ (last_before os n i ∷ []))) (heads_next os n c.insts i e k)
      ∙ ap (λ (r : List ℕ). splice (splice W c.heads (heads_of os (n + 1) c.insts)) c.nexts r) (nexts_next os n i e)

-- ---- the index of no operands is zeros at the heads, and these give way to any later heads

pub chains_none : (W X : List ℕ) (c : Chains) (os : List Operand) → c.heads + c.insts ≤ length W → X ≡ splice W c.heads (replicate c.insts 0) → X ≡ chains_of X c os 0
unfolding chains_of nexts_of
chains_none W X c os h e =
    let l : length (replicate {A = ℕ} c.insts 0) ≡ c.insts = length-replicate c.insts 0 in
    let same : splice X c.heads (heads_of os 0 c.insts) ≡ X =
    ap (λ (r : List ℕ). splice X c.heads r) (sym (heads_none os c.insts))
    ∙ ap (λ (r : List ℕ). splice r c.heads (replicate c.insts 0)) e
    ∙ splice_again W c.heads (replicate c.insts 0) (omega arith) (replicate c.insts 0) refl
    ∙ sym e in
    sym (splice_none (splice X c.heads (heads_of os 0 c.insts)) c.nexts ∙ same)

pub chains_over : (W X : List ℕ) (c : Chains) (os : List Operand) (n : ℕ) → c.heads + c.insts ≤ length W → X ≡ splice W c.heads (replicate c.insts 0)
    → chains_of X c os n ≡ chains_of W c os n
unfolding chains_of
chains_over W X c os n h e =
    let l : length (replicate {A = ℕ} c.insts 0) ≡ c.insts = length-replicate c.insts 0 in
    ap (λ (r : List ℕ). splice r c.nexts (nexts_of os n))
    (ap (λ (r : List ℕ). splice r c.heads (heads_of os n c.insts)) e
    ∙ splice_again W c.heads (replicate c.insts 0) (omega arith) (heads_of os n c.insts) (l ∙ sym (length_heads os n c.insts)))

-- the whole index is there to be read
pub chains_hold : (W X : List ℕ) (c : Chains) (os : List Operand) (n : ℕ) → length os ≡ n → c.heads + c.insts ≤ c.nexts → c.nexts + n ≤ length W
    → X ≡ chains_of W c os n → Chained X c os
chains_hold W X c os n e h l q =
    record {
      head = λ i k. ap (λ (r : List ℕ). get_or r (c.heads + i) 0) q ∙ chains_head W c os n h l i k ∙ ap (λ (m : ℕ). last_before os m i) (sym e);
      next = λ k j. ap (λ (r : List ℕ). get_or r (c.nexts + k) 0) q ∙ chains_at W c os n h l k (omega arith);
    }

-- it stays where the words of both parts stay
pub chained_kept : (W X : List ℕ) (c : Chains) (os : List Operand) → ((i : ℕ) → i < c.insts → get_or X (c.heads + i) 0 ≡ get_or W (c.heads + i) 0)
    → ((k : ℕ) → k < length os → get_or X (c.nexts + k) 0 ≡ get_or W (c.nexts + k) 0) → Chained W c os → Chained X c os
chained_kept W X c os f g h = record { head = λ i k. f i k ∙ h.head i k; next = λ k j. g k j ∙ h.next k j }
