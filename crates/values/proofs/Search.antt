-- The search through an instruction's operands, over the words of the job and of the work slice. Assumes nothing.
use mathlib.Core.Path.{◌≡◌, sym, ap, ◌∙◌}
use mathlib.Core.List.{List}
use Prim.Native.Nat.{ℕ, ◌+◌, ◌-◌, ◌*◌, ◌≤◌, ◌<◌}
use native.Mathlib.Omega.{arith}
use lib.ListN.{get_or}
use Rattle.values.specs.declared.operands.Chains.{Chains}
use Rattle.std.specs.Prelude.{Option, Some, is_some}
use Rattle.values.specs.OperandRows.{op_at, last_place, taken_before}
use Rattle.values.specs.Chains.{last_before, operands_of, Chained}
use Rattle.values.proofs.Rows.{long, slot_word}
use Rattle.values.proofs.Links.{Following, follow_next, follow_stop, last_le, last_on, skip}

module _ (T W : List ℕ) (c : Chains) (h : Chained W c (operands_of T c)) where
  -- the word behind operand o is the link to the operand before it
  pub next_word : (o x : ℕ) → o < c.count → x ≡ get_or W (c.nexts + o) 0 → x ≡ last_before (operands_of T c) o (op_at (operands_of T c) o).inst.0
  next_word o x l e = e ∙ h.next o (omega (arith, long T c.at c.count))

  pub next_less : (o x : ℕ) → o < c.count → x ≡ get_or W (c.nexts + o) 0 → x ≤ o
  next_less o x l e = omega (arith, next_word o x l e, last_le (operands_of T c) o (op_at (operands_of T c) o).inst.0)

  pub head_word : (i x : ℕ) → i < c.insts → x ≡ get_or W (c.heads + i) 0 → x ≡ last_before (operands_of T c) c.count i
  head_word i x l e = e ∙ h.head i l ∙ ap (λ (n : ℕ). last_before (operands_of T c) n i) (long T c.at c.count)

  pub head_less : (i x : ℕ) → i < c.insts → x ≡ get_or W (c.heads + i) 0 → x ≤ c.count
  head_less i x l e = omega (arith, head_word i x l e, last_le (operands_of T c) c.count i)

  pub search_next : {slot k₀ k : ℕ} (o u x : ℕ) → Following (operands_of T c) c.count slot k₀ k → 0 < k → o ≡ k - 1 → u ≡ get_or T (c.at + o * 4 + 1) 0 → (u ≡ slot → ⊥)
      → x ≡ get_or W (c.nexts + o) 0 → Following (operands_of T c) c.count slot k₀ x
  search_next o u x f l eo eu ne ex =
      let m : o < c.count = omega (arith, f.within) in
      follow_next f l eo (slot_word T c.at c.count o u m eu) ne (next_word o x m ex)

pub search_stop : (T : List ℕ) (c : Chains) {slot k₀ k : ℕ} (o u : ℕ) → Following (operands_of T c) c.count slot k₀ k → 0 < k → o ≡ k - 1
    → u ≡ get_or T (c.at + o * 4 + 1) 0 → u ≡ slot → (i : ℕ) → last_before (operands_of T c) k₀ i ≡ k₀ → Some o ≡ last_place (operands_of T c) k₀ i slot
search_stop T c o u f l eo eu es =
    let m : o < c.count = omega (arith, f.within) in
    follow_stop f l eo (slot_word T c.at c.count o u m eu) es

-- what is found from the link to the last operand at i, of the first n, is found in the first n
pub from_last : (T : List ℕ) (c : Chains) (n i s x : ℕ) (r : Option ℕ) → x ≡ last_before (operands_of T c) n i
    → ((j : ℕ) → last_before (operands_of T c) x j ≡ x → r ≡ last_place (operands_of T c) x j s) → r ≡ last_place (operands_of T c) n i s
from_last T c n i s x r e f =
    let on : last_before (operands_of T c) x i ≡ x = ap (λ (m : ℕ). last_before (operands_of T c) m i) e ∙ last_on (operands_of T c) n i ∙ sym e in
    f i on ∙ ap (λ (m : ℕ). last_place (operands_of T c) m i s) e ∙ sym (skip (operands_of T c) n i s)

pub taken_is : (T W : List ℕ) (c : Chains) → Chained W c (operands_of T c) → (k s x : ℕ) (r : Option ℕ) → k < c.count → s ≡ get_or T (c.at + k * 4 + 1) 0 → x ≡ get_or W (c.nexts + k) 0
    → ((j : ℕ) → last_before (operands_of T c) x j ≡ x → r ≡ last_place (operands_of T c) x j s) → is_some r ≡ taken_before (operands_of T c) k
unfolding taken_before
taken_is T W c h k s x r l es ex f =
    ap is_some (from_last T c k (op_at (operands_of T c) k).inst.0 s x r (next_word T W c h k x l ex) f
    ∙ ap (λ (n : ℕ). last_place (operands_of T c) k (op_at (operands_of T c) k).inst.0 n) (slot_word T c.at c.count k s l es))
