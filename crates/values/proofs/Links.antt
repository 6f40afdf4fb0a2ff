-- The last operand of an instruction, and the way back through the operands of one instruction. Assumes nothing.
use mathlib.Core.Path.{◌≡◌, refl, sym, ap, ◌∙◌, subst}
use mathlib.Core.Bool.{Bool, true, false, ◌&&◌}
use mathlib.Core.List.{List}
use Prim.Native.Nat.{ℕ, zero, suc, ◌-◌, ◌≤◌, ◌<◌}
use native.Mathlib.Omega.{arith}
use lib.Dec.{eqb}
use borrow.Author.Tests.{eqb-true, eq-eqb, ne_eqb}
use Rattle.definition.specs.declared.Operand.{Operand}
use Rattle.std.specs.Prelude.{Some, None, cond}
use Rattle.values.specs.OperandRows.{op_at, last_place}
use Rattle.values.specs.Chains.{pick_n, last_before}

pub last_le : (os : List Operand) (n i : ℕ) → last_before os n i ≤ n
unfolding last_before
last_le os zero i = omega arith
last_le os (suc k) i = go (eqb (op_at os k).inst.0 i) (last_le os k i)
  where
    go : (b : Bool) → last_before os k i ≤ k → pick_n b (suc k) (last_before os k i) ≤ suc k
    go true h = omega arith
    go false h = omega arith

-- the operand that is found is at the instruction
pub last_on : (os : List Operand) (n i : ℕ) → last_before os (last_before os n i) i ≡ last_before os n i
unfolding last_before
last_on os zero i = refl
last_on os (suc k) i = go (eqb (op_at os k).inst.0 i) refl (last_on os k i)
  where
    go : (b : Bool) → eqb (op_at os k).inst.0 i ≡ b → last_before os (last_before os k i) i ≡ last_before os k i
        → last_before os (pick_n b (suc k) (last_before os k i)) i ≡ pick_n b (suc k) (last_before os k i)
    go true e ih = rw (last_before, e)
    go false e ih = ih

pub on_inst : (os : List Operand) (k i : ℕ) → last_before os (suc k) i ≡ suc k → (op_at os k).inst.0 ≡ i
unfolding last_before
on_inst os k i = go (eqb (op_at os k).inst.0 i) refl
  where
    go : (b : Bool) → eqb (op_at os k).inst.0 i ≡ b → pick_n b (suc k) (last_before os k i) ≡ suc k → (op_at os k).inst.0 ≡ i
    go true e h = eqb-true _ _ e
    go false e h = absurd (omega (arith, last_le os k i))

-- operands of other instructions are passed over
pub skip : (os : List Operand) (n i s : ℕ) → last_place os n i s ≡ last_place os (last_before os n i) i s
unfolding last_before last_place
skip os zero i s = refl
skip os (suc k) i s = go (eqb (op_at os k).inst.0 i) refl (skip os k i s)
  where
    go : (b : Bool) → eqb (op_at os k).inst.0 i ≡ b → last_place os k i s ≡ last_place os (last_before os k i) i s
        → cond (b && eqb (op_at os k).slot s) (Some k) (last_place os k i s) ≡ last_place os (pick_n b (suc k) (last_before os k i)) i s
    go true e ih = rw (last_place, e)
    go false e ih = ih

place_yes : (os : List Operand) (k i s : ℕ) → (op_at os k).inst.0 ≡ i → (op_at os k).slot ≡ s → last_place os (suc k) i s ≡ Some k
unfolding last_place
place_yes os k i s e h = rw (last_place, eq-eqb _ _ e, eq-eqb _ _ h)

place_no : (os : List Operand) (k i s : ℕ) → (op_at os k).inst.0 ≡ i → ((op_at os k).slot ≡ s → ⊥) → last_place os (suc k) i s ≡ last_place os k i s
unfolding last_place
place_no os k i s e h = rw (last_place, eq-eqb _ _ e, ne_eqb _ _ h)

-- a search from link k₀ that has come to link k
pub record Following (os : List Operand) (n slot k₀ k : ℕ) : Type 0 where
  pub within : k ≤ n
  pub same : (i : ℕ) → last_before os k₀ i ≡ k₀ → (last_before os k i ≡ k) × (last_place os k₀ i slot ≡ last_place os k i slot)

pub follow_start : (os : List Operand) (n slot k : ℕ) → k ≤ n → Following os n slot k k
follow_start os n slot k h = record { within = h; same = λ i e. (e, refl) }

pub follow_next : {os : List Operand} {n slot k₀ k o w x : ℕ} → Following os n slot k₀ k → 0 < k → o ≡ k - 1 → w ≡ (op_at os o).slot → (w ≡ slot → ⊥)
    → x ≡ last_before os o (op_at os o).inst.0 → Following os n slot k₀ x
follow_next {os} {n} {slot} {k₀} {k} {o} {w} {x} f h eo ew ne ex =
    let ek : k ≡ suc o = omega arith in
    record {
      within = omega (arith, f.within, last_le os o (op_at os o).inst.0);
      same = λ i e.
          let s = f.same i e in
          let ei : (op_at os o).inst.0 ≡ i = on_inst os o i (subst (λ (m : ℕ). last_before os m i ≡ m) ek s.0) in
          let xi : x ≡ last_before os o i = ex ∙ ap (λ (m : ℕ). last_before os o m) ei in
          let sl : (op_at os o).slot ≡ slot → ⊥ = λ q. ne (ew ∙ q) in (
            ap (λ (m : ℕ). last_before os m i) xi ∙ last_on os o i ∙ sym xi,
            s.1 ∙ ap (λ (m : ℕ). last_place os m i slot) ek ∙ place_no os o i slot ei sl ∙ skip os o i slot ∙ ap (λ (m : ℕ). last_place os m i slot) (sym xi),
          );
    }

pub follow_stop : {os : List Operand} {n slot k₀ k o w : ℕ} → Following os n slot k₀ k → 0 < k → o ≡ k - 1 → w ≡ (op_at os o).slot → w ≡ slot
    → (i : ℕ) → last_before os k₀ i ≡ k₀ → Some o ≡ last_place os k₀ i slot
follow_stop {os} {n} {slot} {k₀} {k} {o} {w} f h eo ew es i e =
    let ek : k ≡ suc o = omega arith in
    let s = f.same i e in
    let ei : (op_at os o).inst.0 ≡ i = on_inst os o i (subst (λ (m : ℕ). last_before os m i ≡ m) ek s.0) in
    sym (s.1 ∙ ap (λ (m : ℕ). last_place os m i slot) ek ∙ place_yes os o i slot ei (sym ew ∙ es))

pub follow_end : {os : List Operand} {n slot k₀ k : ℕ} → Following os n slot k₀ k → k ≤ 0 → (i : ℕ) → last_before os k₀ i ≡ k₀ → None ≡ last_place os k₀ i slot
unfolding last_place
follow_end {os} {n} {slot} {k₀} {k} f h i e =
    let ek : k ≡ 0 = omega arith in
    sym ((f.same i e).1 ∙ ap (λ (m : ℕ). last_place os m i slot) ek)
