-- Where no two operands are at one place, the operand that is found is the operand there. Assumes nothing.
use mathlib.Core.Path.{◌≡◌, refl, sym, ap, ap₂, ◌∙◌}
use mathlib.Core.Bool.{Bool, true, false, not, ◌&&◌, ◌||◌}
use mathlib.Core.List.{List, [], ◌∷◌}
use Prim.Native.Nat.{ℕ, zero, suc, ◌<◌}
use native.Mathlib.Omega.{arith}
use lib.Dec.{eqb, ltb}
use lib.ListN.{length, get_or}
use lib.Seq.{take-length}
use borrow.Author.Tests.{eqb-true, eqb-false, eq-eqb, ne_eqb, not-true, ltb-true}
use Rattle.definition.specs.declared.Inst.{Inst}
use Rattle.definition.specs.declared.Value.{Value}
use Rattle.definition.specs.declared.RegClass.{RegClass}
use Rattle.definition.specs.declared.Operand.{Operand}
use Rattle.definition.specs.Types.{Job, val}
use Rattle.definition.specs.Admit.{vgroup_at}
use Rattle.definition.specs.Entry.{conj, every, some_is, apart, same_place, insts, vgroup_values, operand_ok, group_use_tests, group_use_ok}
use Rattle.definition.proofs.Entries.{and_both}
use Rattle.std.specs.Prelude.{Option, Some, None, is_some, cond}
use Rattle.values.specs.OperandRows.{op_at, is_at, last_place, fits_use, fits_found, vgroup_found}
use Rattle.values.specs.declared.operands.Chains.{Chains}
use Rattle.values.specs.Chains.{operands_of, Under}
use Rattle.values.proofs.Rows.{long}
use Rattle.values.proofs.Twice.{never, some_place}

-- what the search finds is there
pub found_at : (os : List Operand) (n i s k : ℕ) → last_place os n i s ≡ Some k → (k < n) × (is_at i s (op_at os k) ≡ true)
unfolding last_place
found_at os zero i s k e = let z : ◌≡◌ {A = ℕ} 0 1 = cc in absurd (omega arith)
found_at os (suc m) i s k e = go (is_at i s (op_at os m)) refl (found_at os m i s k) e
  where
    go : (b : Bool) → is_at i s (op_at os m) ≡ b → (last_place os m i s ≡ Some k → (k < m) × (is_at i s (op_at os k) ≡ true))
        → cond b (Some m) (last_place os m i s) ≡ Some k → (k < suc m) × (is_at i s (op_at os k) ≡ true)
    go true q ih e = let mk : m ≡ k = cc in (omega arith, ap (λ (j : ℕ). is_at i s (op_at os j)) (sym mk) ∙ q)
    go false q ih e = let r = ih e in (omega (arith, r.0), r.1)

-- where it finds nothing none is there
pub none_at : (os : List Operand) (i s : ℕ) → last_place os (length os) i s ≡ None → some_is (is_at i s) os ≡ false
none_at os i s e =
    ap (λ (l : List Operand). some_is (is_at i s) l) (sym (take-length os)) ∙ some_place os (length os) i s (omega arith) ∙ ap is_some e

some_at : (os : List Operand) (i s k : ℕ) → k < length os → is_at i s (op_at os k) ≡ true → some_is (is_at i s) os ≡ true
unfolding some_is
some_at [] i s k h e = absurd (omega arith)
some_at (x ∷ os) i s zero h e = rw e
some_at (x ∷ os) i s (suc k) h e = go (is_at i s x) (some_at os i s k (omega arith) e)
  where
    go : (b : Bool) → some_is (is_at i s) os ≡ true → b || some_is (is_at i s) os ≡ true
    go true q = refl
    go false q = q

eqb_sym : (a b : ℕ) → eqb a b ≡ eqb b a
eqb_sym a b = go (eqb a b) refl
  where
    go : (t : Bool) → eqb a b ≡ t → t ≡ eqb b a
    go true e = sym (eq-eqb b a (sym (eqb-true a b e)))
    go false e = sym (ne_eqb b a (λ q. eqb-false a b e (sym q)))

some_ext : (f g : Operand → Bool) → ((o : Operand) → f o ≡ g o) → (os : List Operand) → some_is f os ≡ some_is g os
unfolding some_is
some_ext f g h [] = refl
some_ext f g h (o ∷ os) = ap₂ (λ (a b : Bool). a || b) (h o) (some_ext f g h os)

-- an operand at the place, and none of the others there
pub alone : (x : Operand) (xs : List Operand) (i s : ℕ) → apart same_place (x ∷ xs) ≡ true → is_at i s x ≡ true → some_is (is_at i s) xs ≡ false
unfolding apart
alone x xs i s a e =
    let b = and_both _ _ e in
    let ei : i ≡ x.inst.0 = sym (eqb-true _ _ b.0) in
    let es : s ≡ x.slot = sym (eqb-true _ _ b.1) in
    some_ext (is_at i s) (same_place x) (λ o. rw (ei, es) (ap₂ (λ (p q : Bool). p && q) (eqb_sym o.inst.0 x.inst.0) (eqb_sym o.slot x.slot))) xs
    ∙ not-true (some_is (same_place x) xs) (and_both _ _ a).0

rest_apart : (x : Operand) (xs : List Operand) → apart same_place (x ∷ xs) ≡ true → apart same_place xs ≡ true
unfolding apart
rest_apart x xs a = (and_both (not (some_is (same_place x) xs)) (apart same_place xs) a).1

-- an operand further back is at the place, so the first is not
others : (x : Operand) (xs : List Operand) (i s k : ℕ) → apart same_place (x ∷ xs) ≡ true → k < length xs → is_at i s (op_at xs k) ≡ true → is_at i s x ≡ false
others x xs i s k a h e = go (is_at i s x) refl
  where
    go : (b : Bool) → is_at i s x ≡ b → b ≡ false
    go true q = never (sym (some_at xs i s k h e) ∙ alone x xs i s a q)
    go false q = refl

one_place : (os : List Operand) (i s j k : ℕ) → apart same_place os ≡ true → j < length os → k < length os → is_at i s (op_at os j) ≡ true → is_at i s (op_at os k) ≡ true → j ≡ k
one_place [] i s j k a hj hk ej ek = absurd (omega arith)
one_place (x ∷ os) i s zero zero a hj hk ej ek = refl
one_place (x ∷ os) i s zero (suc k) a hj hk ej ek = never (sym ej ∙ others x os i s k a (omega arith) ek)
one_place (x ∷ os) i s (suc j) zero a hj hk ej ek = never (sym ek ∙ others x os i s j a (omega arith) ej)
one_place (x ∷ os) i s (suc j) (suc k) a hj hk ej ek = ap suc (one_place os i s j k (rest_apart x os a) (omega arith) (omega arith) ej ek)

-- an operand at the place is the one that is found
pub found_only : (os : List Operand) (i s j : ℕ) → apart same_place os ≡ true → j < length os → is_at i s (op_at os j) ≡ true → last_place os (length os) i s ≡ Some j
found_only os i s j a h e = go (last_place os (length os) i s) refl
  where
    go : (r : Option ℕ) → last_place os (length os) i s ≡ r → r ≡ Some j
    go (Some k) q = let f = found_at os (length os) i s k q in ap Some (one_place os i s k j a f.0 h f.1 e)
    go None q = never (sym (some_at os i s j h e) ∙ none_at os i s q)

-- what `find_operand` answers, of the operands of a job
pub found_of : (T : List ℕ) (c : Chains) (job : Job) (i s : ℕ) → job.operands ≡ operands_of T c
    → last_place (operands_of T c) c.count i s ≡ last_place job.operands (length job.operands) i s
found_of T c job i s e =
    ap (λ (n : ℕ). last_place (operands_of T c) n i s) (sym (long T c.at c.count))
    ∙ ap (λ (os : List Operand). last_place os (length os) i s) (sym e)

-- ---- the operands that an index may be built of

every_at : (f : Operand → Bool) (os : List Operand) (k : ℕ) → every f os ≡ true → k < length os → f (op_at os k) ≡ true
unfolding every
every_at f [] k e h = absurd (omega arith)
every_at f (x ∷ os) zero e h = (and_both (f x) (every f os) e).0
every_at f (x ∷ os) (suc k) e h = every_at f os k (and_both (f x) (every f os) e).1 (omega arith)

-- rule 4's test of each operand puts them below the number of instructions
pub under_of : (job : Job) → every (operand_ok job) job.operands ≡ true → Under (insts job) job.operands
unfolding operand_ok conj
under_of job e =
    record { under = λ k h. ltb-true (op_at job.operands k).inst.0 (insts job) (and_both (ltb (op_at job.operands k).inst.0 (insts job)) _ (every_at (operand_ok job) job.operands k e h)).0 }

-- ---- the operand's value group

vgroup_at_lem : (os : List Operand) (i : Inst) (s k : ℕ) → apart same_place os ≡ true → k < length os → is_at i.0 s (op_at os k) ≡ true → vgroup_at os i s ≡ (op_at os k).vgroup.0
unfolding vgroup_at
vgroup_at_lem [] i s k a h e = absurd (omega arith)
vgroup_at_lem (x ∷ os) i s zero a h e = rw e
vgroup_at_lem (x ∷ os) i s (suc k) a h e = rw (others x os i.0 s k a (omega arith) e) (vgroup_at_lem os i s k (rest_apart x os a) (omega arith) e)

vgroup_none : (os : List Operand) (i : Inst) (s : ℕ) → some_is (is_at i.0 s) os ≡ false → vgroup_at os i s ≡ 0
unfolding vgroup_at some_is
vgroup_none [] i s e = refl
vgroup_none (x ∷ os) i s e = go (is_at i.0 s x) refl (vgroup_none os i s) e
  where
    go : (b : Bool) → is_at i.0 s x ≡ b → (some_is (is_at i.0 s) os ≡ false → vgroup_at os i s ≡ 0) → b || some_is (is_at i.0 s) os ≡ false → vgroup_at (x ∷ os) i s ≡ 0
    go true q ih e = never e
    go false q ih e = rw (vgroup_at, q) (ih e)

-- `vgroup_at` is the value group of the operand that is found
pub vgroup_found_lem : (os : List Operand) (i : Inst) (s : ℕ) → apart same_place os ≡ true → vgroup_at os i s ≡ vgroup_found os (last_place os (length os) i.0 s)
vgroup_found_lem os i s a = go (last_place os (length os) i.0 s) refl
  where
    go : (r : Option ℕ) → last_place os (length os) i.0 s ≡ r → vgroup_at os i s ≡ vgroup_found os r
    go (Some k) e = let f = found_at os (length os) i.0 s k e in vgroup_at_lem os i s k a f.0 f.1
    go None e = vgroup_none os i s (none_at os i.0 s e)

-- ---- a test of the operand at a place

module _ (i s : ℕ) (h g : Operand → Bool) (split : (o : Operand) → h o ≡ is_at i s o && g o) where
  test_none : (os : List Operand) → some_is (is_at i s) os ≡ false → some_is h os ≡ false
  unfolding some_is
  test_none [] e = refl
  test_none (x ∷ os) e = go (is_at i s x) refl (test_none os) e
    where
      go : (b : Bool) → is_at i s x ≡ b → (some_is (is_at i s) os ≡ false → some_is h os ≡ false) → b || some_is (is_at i s) os ≡ false → h x || some_is h os ≡ false
      go true q ih r = never r
      go false q ih r = rw (split x, q) (ih r)

  test_at : (os : List Operand) (k : ℕ) → apart same_place os ≡ true → k < length os → is_at i s (op_at os k) ≡ true → some_is h os ≡ g (op_at os k)
  unfolding some_is
  test_at [] k a l e = absurd (omega arith)
  test_at (x ∷ os) zero a l e = rw (split x, e, test_none os (alone x os i s a e)) (last (g x))
    where
      last : (b : Bool) → b || false ≡ b
      last true = refl
      last false = refl
  test_at (x ∷ os) (suc k) a l e = rw (split x, others x os i s k a (omega arith) e) (test_at os k (rest_apart x os a) (omega arith) e)

regroup : (a b c d e : Bool) → a && (b && (c && (d && (e && true)))) ≡ (a && b) && (c && (d && e))
regroup false b c d e = refl
regroup true false c d e = refl
regroup true true false d e = refl
regroup true true true false e = refl
regroup true true true true false = refl
regroup true true true true true = refl

-- rule 7's test of a group use is a test of the operand that is found
pub group_use_found : (job : Job) (v : Value) (p : Inst) (s : ℕ) (c : RegClass) (j : ℕ) → apart same_place job.operands ≡ true
    → group_use_ok job v p s c j ≡ fits_found job v c j (last_place job.operands (length job.operands) p.0 s)
unfolding group_use_ok conj
group_use_found job v p s c j a = go (last_place os (length os) p.0 s) refl
  where
    os : List Operand
    os = job.operands

    split : (o : Operand) → conj (group_use_tests job v p s c j o) ≡ is_at p.0 s o && fits_use job v c j o
    split o =
        regroup (eqb o.inst.0 p.0) (eqb o.slot s) (eqb o.class.0 c.0) (ltb j (length (vgroup_values job o.vgroup)))
        (eqb (get_or (vgroup_values job o.vgroup) j (val 0)).0 v.0)

    go : (r : Option ℕ) → last_place os (length os) p.0 s ≡ r → some_is (λ o. conj (group_use_tests job v p s c j o)) os ≡ fits_found job v c j r
    go (Some k) e =
        let f = found_at os (length os) p.0 s k e in
        test_at p.0 s (λ o. conj (group_use_tests job v p s c j o)) (fits_use job v c j) split os k a f.0 f.1
    go None e = test_none p.0 s (λ o. conj (group_use_tests job v p s c j o)) (fits_use job v c j) split os (none_at os p.0 s e)
