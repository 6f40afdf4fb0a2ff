-- Every sheet has a bank, a class and a block; a table that was not full has no count above its limit. Assumes nothing.
use Rattle.std.specs.Prelude.{◌≡◌, Bool, cond, ◌||◌, ℕ, ◌+◌, ◌≤◌, ◌<◌}
use Rattle.std.proofs.Math.Path.{refl}
use Rattle.std.proofs.Common.{sym, subst}
use mathlib.Core.List.{List, [], ◌∷◌}
use Rattle.std.proofs.Math.Bool.{true, false}
use Rattle.std.proofs.lemmas.Bool.{false≢true}
use native.Mathlib.Omega.{arith}
use Rattle.std.proofs.Math.ListN.{length}
use Rattle.std.proofs.Math.Dec.{eqb}
use borrow.Author.Tests.{eqb-true, eqb-false}
use Rattle.definition.specs.JobSheet.{Word as Named, opt, bank, class, reg, block, value, vgroup, operand, hint, seg, use', end, word_number, Record, only, next, among, ordered}
use Rattle.sheet_rules.specs.Places.{limit_of, table_words}
use Rattle.sheet_laws.specs.Table.{Filled, keyed, put, fill}
use Rattle.sheet_laws.specs.Put.{cnt, put_long, put_count}
use Rattle.sheet_laws.specs.Stands.{room}
use Rattle.sheet_laws.specs.Sheets.{ordered_first}

-- ---- what must come

-- words up to number m, at least one
abbrev Most : ℕ → List Named → Type 0
Most m [] = Unit {0}
Most m (w ∷ ws) = (word_number w ≤ m) × Most m ws

abbrev Some : List Named → Type 0
Some [] = ⊥
Some (w ∷ ws) = Unit {0}

among_most : (ws : List Named) (m : ℕ) → Most m ws → (w : Named) → among w ws ≡ true → word_number w ≤ m
among_most [] m h w e = absurd (false≢true e)
among_most (v ∷ ws) m h w e = go (eqb (word_number w) (word_number v)) refl e (among_most ws m h.1 w)
  where
    go : (t : Bool) → eqb (word_number w) (word_number v) ≡ t → t || among w ws ≡ true → (among w ws ≡ true → word_number w ≤ m) → word_number w ≤ m
    go true q k ih = let s : word_number w ≡ word_number v = eqb-true (word_number w) (word_number v) q in let l : word_number v ≤ m = h.0 in omega arith
    go false q k ih = ih k

module _ (t : Named) (goes : (v : Named) → word_number v < word_number t → Some (next v) × Most (word_number t) (next v)) where
  comes : (rs : List Record) (ws : List Named) → Some ws → Most (word_number t) ws → ordered ws rs ≡ true → 1 ≤ length (only t rs)
  unfolding ordered only
  comes [] [] s m e = absurd s
  comes [] (w ∷ ws) s m e = absurd (false≢true e)
  comes (r ∷ rs) ws s m e =
      let o = ordered_first ws r rs e in
      go (eqb (keyed r) (word_number t)) refl (among_most ws (word_number t) m r.word o.0)
      (λ l. comes rs (next r.word) (goes r.word l).0 (goes r.word l).1 o.1)
    where
      go : (b : Bool) → eqb (keyed r) (word_number t) ≡ b → keyed r ≤ word_number t → (keyed r < word_number t → 1 ≤ length (only t rs)) → 1 ≤ length (cond b (r.fields ∷ only t rs) (only t rs))
      go true q l ih = omega arith
      go false q l ih = ih (let n : keyed r ≡ word_number t → ⊥ = eqb-false (keyed r) (word_number t) q in omega (arith, n))

to_bank : (v : Named) → word_number v < 1 → Some (next v) × Most 1 (next v)
to_bank opt h = (tt, (omega arith, tt))
to_bank bank h = absurd (omega (arith, h))
to_bank class h = absurd (omega (arith, h))
to_bank reg h = absurd (omega (arith, h))
to_bank block h = absurd (omega (arith, h))
to_bank value h = absurd (omega (arith, h))
to_bank vgroup h = absurd (omega (arith, h))
to_bank operand h = absurd (omega (arith, h))
to_bank hint h = absurd (omega (arith, h))
to_bank seg h = absurd (omega (arith, h))
to_bank use' h = absurd (omega (arith, h))
to_bank end h = absurd (omega (arith, h))

to_class : (v : Named) → word_number v < 2 → Some (next v) × Most 2 (next v)
to_class opt h = (tt, (omega arith, tt))
to_class bank h = (tt, (omega arith, (omega arith, tt)))
to_class class h = absurd (omega (arith, h))
to_class reg h = absurd (omega (arith, h))
to_class block h = absurd (omega (arith, h))
to_class value h = absurd (omega (arith, h))
to_class vgroup h = absurd (omega (arith, h))
to_class operand h = absurd (omega (arith, h))
to_class hint h = absurd (omega (arith, h))
to_class seg h = absurd (omega (arith, h))
to_class use' h = absurd (omega (arith, h))
to_class end h = absurd (omega (arith, h))

to_block : (v : Named) → word_number v < 4 → Some (next v) × Most 4 (next v)
to_block opt h = (tt, (omega arith, tt))
to_block bank h = (tt, (omega arith, (omega arith, tt)))
to_block class h = (tt, (omega arith, (omega arith, (omega arith, tt))))
to_block reg h = (tt, (omega arith, (omega arith, tt)))
to_block block h = absurd (omega (arith, h))
to_block value h = absurd (omega (arith, h))
to_block vgroup h = absurd (omega (arith, h))
to_block operand h = absurd (omega (arith, h))
to_block hint h = absurd (omega (arith, h))
to_block seg h = absurd (omega (arith, h))
to_block use' h = absurd (omega (arith, h))
to_block end h = absurd (omega (arith, h))

module _ (rs : List Record) (o : ordered (opt ∷ []) rs ≡ true) where
  pub a_bank : 1 ≤ length (only bank rs)
  a_bank = comes bank to_bank rs (opt ∷ []) tt (omega arith, tt) o

  pub a_class : 1 ≤ length (only class rs)
  a_class = comes class to_class rs (opt ∷ []) tt (omega arith, tt) o

  pub a_block : 1 ≤ length (only block rs)
  a_block = comes block to_block rs (opt ∷ []) tt (omega arith, tt) o

-- ---- no count is above its limit

pub fill_most : (rs : List Record) (f : Filled) → length f.out ≡ table_words → (fill f rs).over ≡ false → ((k : ℕ) → 1 ≤ k → k ≤ 10 → cnt f.out k ≤ limit_of k)
    → (k : ℕ) → 1 ≤ k → k ≤ 10 → cnt (fill f rs).out k ≤ limit_of k
unfolding fill
fill_most [] f l e h k a b = h k a b
fill_most (r ∷ rs) f l e h k a b = fill_most rs (put f r) (put_long f r l q) e (λ j c d. step j c d) k a b
  where
    q : cnt f.out (keyed r) < limit_of (keyed r)
    q = room rs f r l e

    step : (j : ℕ) → 1 ≤ j → j ≤ 10 → cnt (put f r).out j ≤ limit_of j
    step j c d = subst (λ (x : ℕ). x ≤ limit_of j) (sym (put_count f r l q j c d)) (go (eqb (keyed r) j) refl)
      where
        go : (t : Bool) → eqb (keyed r) j ≡ t → cond t (cnt f.out j + 1) (cnt f.out j) ≤ limit_of j
        go false z = h j c d
        go true z =
            let p : cnt f.out j < limit_of j = subst (λ (x : ℕ). cnt f.out x < limit_of x) (eqb-true (keyed r) j z) q in
            omega arith
