-- Where the fields fit their types, a row read modulo them is the row as it stands. Assumes nothing.
use mathlib.Core.Path.{◌≡◌, refl, sym, ap, ◌∙◌}
use mathlib.Core.Bool.{Bool, true, false}
use mathlib.Core.List.{List}
use Prim.Native.Nat.{ℕ, ◌+◌, ◌%◌, ◌≤◌, ◌<◌}
use native.Mathlib.Nat.{mod-eq_of_lt}
use native.Mathlib.Omega.{arith}
use lib.Dec.{eqb, ltb}
use lib.ListN.{get_or}
use borrow.Author.Tests.{le-ltb, lt-ltb}
use Rattle.definition.specs.declared.UseKind.{UseKind}
use Rattle.definition.specs.declared.UseKind.TheVariants.{FixedDef, FixedUse, TiedUse, ConstraintConflict, ClassUse, ClassDef, GroupClassUse, GroupClassDef, BlockparamIn, BlockparamOut}
use Rattle.definition.specs.declared.Use.{Use}
use Rattle.definition.specs.Types.{inst, cls}
use Rattle.definition.proofs.Entries.{and_both}
use Rattle.std.specs.Prelude.{Some, None}
use Rattle.uses.specs.Rows.{pick_k, pick_b, reg, raw_kind, kind_of, fit, typed_kind, use_row, raw_row, typed_row, decoded_row}

fits : (a b i : ℕ) → fit a b i ≡ true → (a < 65536) × (b < 65536) × (i < 256)
unfolding fit
fits a b i e =
    let p = and_both _ _ e in
    let q = and_both _ _ p.1 in
    (below _ _ p.0, below _ _ q.0, below _ _ q.1)
  where
    below : (x y : ℕ) → ltb x y ≡ true → x < y
    below x y h = borrow.Author.Tests.ltb-true x y h

slot : (a : ℕ) → a < 65536 → a % 65536 ≡ a
slot a h = mod-eq_of_lt h

index : (i : ℕ) → i < 256 → i % 256 ≡ i
index i h = mod-eq_of_lt h

-- the fields are looked at kind by kind
pub typed_kind_lem : (k a b c d : ℕ) → typed_kind k a b c d ≡ true → kind_of k a b c d ≡ raw_kind k a b c d
unfolding typed_kind kind_of raw_kind
typed_kind_lem k a b c d = go (eqb k 0) (eqb k 1) (eqb k 2) (eqb k 4) (eqb k 5) (eqb k 6) (eqb k 7) (pick_k (eqb k 8) (BlockparamIn a) (pick_k (eqb k 9) BlockparamOut ConstraintConflict))
  where
    go : (k0 k1 k2 k4 k5 k6 k7 : Bool) (last : UseKind) → pick_b k2 (fit a b d) (pick_b k4 (fit a 0 0) (pick_b k5 (fit a 0 0) (pick_b k6 (fit a 0 c) (pick_b k7 (fit a 0 c) true)))) ≡ true
        → pick_k k0 (FixedDef (reg a)) (pick_k k1 (FixedUse (reg a)) (pick_k k2 (TiedUse (a % 65536) (b % 65536) (cls c) (d % 256)) (pick_k k4 (ClassUse (a % 65536) (cls b))
        (pick_k k5 (ClassDef (a % 65536) (cls b)) (pick_k k6 (GroupClassUse (a % 65536) (cls b) (c % 256)) (pick_k k7 (GroupClassDef (a % 65536) (cls b) (c % 256)) last))))))
        ≡ pick_k k0 (FixedDef (reg a)) (pick_k k1 (FixedUse (reg a)) (pick_k k2 (TiedUse a b (cls c) d) (pick_k k4 (ClassUse a (cls b))
        (pick_k k5 (ClassDef a (cls b)) (pick_k k6 (GroupClassUse a (cls b) c) (pick_k k7 (GroupClassDef a (cls b) c) last))))))
    go true k1 k2 k4 k5 k6 k7 last e = refl
    go false true k2 k4 k5 k6 k7 last e = refl
    go false false true k4 k5 k6 k7 last e = let f = fits a b d e in rw (slot a f.0, slot b f.1, index d f.2)
    go false false false true k5 k6 k7 last e = let f = fits a 0 0 e in rw (slot a f.0)
    go false false false false true k6 k7 last e = let f = fits a 0 0 e in rw (slot a f.0)
    go false false false false false true k7 last e = let f = fits a 0 c e in rw (slot a f.0, index c f.2)
    go false false false false false false true last e = let f = fits a 0 c e in rw (slot a f.0, index c f.2)
    go false false false false false false false last e = refl

pub typed_row_lem : (W : List ℕ) (i : ℕ) → typed_row W i ≡ true → use_row W i ≡ raw_row W i
unfolding typed_row use_row raw_row
typed_row_lem W i e = ap (λ (k : UseKind). record { pos = inst (get_or W (i + 1) 0); kind = k }) (typed_kind_lem _ _ _ _ _ e)

-- ---- a row decoded

module _ (W : List ℕ) (i : ℕ) where
  pub decoded_kind : (k : ℕ) → k ≡ get_or W i 0 → 10 ≤ k → None ≡ decoded_row W i
  unfolding decoded_row
  decoded_kind k e h = let l : 10 ≤ get_or W i 0 = omega (arith, e) in rw (le-ltb _ _ l)

  module _ (k : ℕ) (e : k ≡ get_or W i 0) (h : k < 10) (t : Bool) (f : t ≡ typed_row W i) where
    pub decoded_field : t ≡ false → None ≡ decoded_row W i
    unfolding decoded_row
    decoded_field n = let l : get_or W i 0 < 10 = omega (arith, e) in rw (lt-ltb _ _ l, sym f ∙ n)

    pub decoded_one : (u : Use) → t ≡ true → u ≡ use_row W i → Some u ≡ decoded_row W i
    unfolding decoded_row
    decoded_one u y q = let l : get_or W i 0 < 10 = omega (arith, e) in rw (lt-ltb _ _ l, sym f ∙ y) (ap Some (q ∙ typed_row_lem W i (sym f ∙ y)))

  -- the test on the words that were read
  pub typed_words : (k a b c d : ℕ) → k ≡ get_or W i 0 → a ≡ get_or W (i + 2) 0 → b ≡ get_or W (i + 3) 0 → c ≡ get_or W (i + 4) 0 → d ≡ get_or W (i + 5) 0 → typed_kind k a b c d ≡ typed_row W i
  unfolding typed_row
  typed_words k a b c d ek ea eb ec ed = rw (ek, ea, eb, ec, ed)
