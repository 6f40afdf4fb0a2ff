-- A row read by the tables' decoders is the definition's record. Assumes nothing.
use Rattle.std.specs.Prelude.{◌≡◌, Bool, true, false, cond, ℕ, zero, suc, ◌+◌, ◌*◌, ◌≤◌, ◌<◌, length, get_or, eqb}
use Rattle.std.proofs.Math.Path.{refl, ap}
use Rattle.std.proofs.Common.{sym, ◌∙◌, subst, one-mul, get_or-drop, ne_eqb, eqb-true}
use mathlib.Core.List.{List, [], ◌∷◌, map}
use native.Mathlib.Omega.{arith}
use Rattle.std.proofs.Math.Nat.{add-mul}
use Rattle.words.specs.RowsAt.{rows_at, rows_at_cons}
use Rattle.definition.specs.Types.{cls}
use Rattle.definition.specs.declared.UseKind.TheVariants.{FixedDef, FixedUse, TiedUse, ConstraintConflict, ClassUse, ClassDef, GroupClassUse, GroupClassDef, BlockparamIn, BlockparamOut}
use Rattle.definition.specs.JobSheet.{Word as Named, word_number, Record, only, float, bank_of, class_data_of, memory_of, block_data_of, remat_of, value_data_of, operand_of, hint_of, reg_of, use_of}
use Rattle.reginfo.specs.Rows.{bank_row, memory_row, class_row}
use Rattle.function.specs.Blocks.{block_row}
use Rattle.values.specs.ValueRows.{remat_of as remat_row, value_row}
use Rattle.values.specs.OperandRows.{operand_row}
use Rattle.hints.specs.Hints.{hint_at}
use Rattle.uses.specs.Rows.{raw_kind, raw_row}
use Rattle.sheet_rules.specs.Places.{base_of, width_of, stored_of, stored_fields}
use Rattle.sheet_laws.specs.Table.{keyed}
use Rattle.sheet_laws.specs.Regions.{first_of}
use Rattle.sheet_laws.specs.Stands.{Row, Stands, bump}

module _ {A B : Type 0} where
  -- lists of one length whose elements are related one by one
  abbrev pub Pairs : (A → B → Type 0) → List A → List B → Type 0
  Pairs Is [] [] = Unit {0}
  Pairs Is [] (b ∷ bs) = ⊥
  Pairs Is (a ∷ xs) [] = ⊥
  Pairs Is (a ∷ xs) (b ∷ bs) = Is a b × Pairs Is xs bs

  pub pairs_map : (of : B → A) (xs : List A) (bs : List B) → Pairs (λ a b. a ≡ of b) xs bs → xs ≡ map of bs
  pairs_map of [] [] p = refl
  pairs_map of [] (b ∷ bs) p = absurd p
  pairs_map of (a ∷ xs) [] p = absurd p
  pairs_map of (a ∷ xs) (b ∷ bs) p = ap (λ (x : A). x ∷ xs) p.0 ∙ ap (λ (l : List A). of b ∷ l) (pairs_map of xs bs p.1)

-- where a row begins
abbrev pub start : ℕ → ℕ → ℕ
start key i = base_of key + i * width_of key

-- THE LAW of a table: its rows are, one by one, the records of its kind
module _ {A : Type 0} (T : List ℕ) (w : Named) (row : List ℕ → ℕ → A) (Is : A → List ℕ → Type 0) (low : 1 ≤ word_number w) (high : word_number w ≤ 10)
    (read : (i : ℕ) (ns : List ℕ) (u : ℕ) → Row T (word_number w) i ns u → Is (row T (start (word_number w) i)) ns) where
  pub listed : (rs : List Record) (c : ℕ → ℕ) → Stands T c rs
      → Pairs Is (rows_at row T (start (word_number w) (c (word_number w))) (width_of (word_number w)) (length (only w rs))) (only w rs)
  unfolding rows_at only
  listed [] c s = tt
  listed (r ∷ rs) c s = go (eqb (keyed r) (word_number w)) refl (listed rs (bump (keyed r) c) s.1)
    where
      more : start (word_number w) (c (word_number w)) + width_of (word_number w) ≡ start (word_number w) (c (word_number w) + 1)
      more =
          let e : (c (word_number w) + 1) * width_of (word_number w) ≡ c (word_number w) * width_of (word_number w) + width_of (word_number w) = add-mul (c (word_number w)) 1 (width_of (word_number w)) ∙ ap (λ (x : ℕ). c (word_number w) * width_of (word_number w) + x) (one-mul (width_of (word_number w))) in
          omega arith

      own : keyed r ≡ word_number w → Row T (word_number w) (c (word_number w)) r.fields (c 10)
      own e = subst (λ (x : ℕ). Row T x (c x) r.fields (c 10)) e (s.0 (subst (λ (x : ℕ). 1 ≤ x) (sym e) low) (subst (λ (x : ℕ). x ≤ 10) (sym e) high))

      go : (t : Bool) → eqb (keyed r) (word_number w) ≡ t
          → Pairs Is (rows_at row T (start (word_number w) (cond t (c (word_number w) + 1) (c (word_number w)))) (width_of (word_number w)) (length (only w rs))) (only w rs)
          → Pairs Is (rows_at row T (start (word_number w) (c (word_number w))) (width_of (word_number w)) (length (cond t (r.fields ∷ only w rs) (only w rs)))) (cond t (r.fields ∷ only w rs) (only w rs))
      go false e ih = ih
      go true e ih =
          let o : Row T (word_number w) (c (word_number w)) r.fields (c 10) = own (eqb-true (keyed r) (word_number w) e) in
          let f : rows_at row T (start (word_number w) (c (word_number w))) (width_of (word_number w)) (suc (length (only w rs)))
          ≡ row T (start (word_number w) (c (word_number w))) ∷ rows_at row T (start (word_number w) (c (word_number w) + 1)) (width_of (word_number w)) (length (only w rs)) =
          rows_at_cons row T (start (word_number w) (c (word_number w))) (width_of (word_number w)) (length (only w rs))
          ∙ ap (λ (x : ℕ). row T (start (word_number w) (c (word_number w))) ∷ rows_at row T x (width_of (word_number w)) (length (only w rs))) more in
          subst (λ (l : List A). Pairs Is l (r.fields ∷ only w rs)) (sym f) (read (c (word_number w)) r.fields (c 10) o, ih)

-- ---- the decoders, one by one

-- word j of a row that begins with its fields
pub field : (T : List ℕ) (k i : ℕ) (ns : List ℕ) (u : ℕ) → first_of k ≡ 0 → Row T k i ns u → (j a : ℕ) → j < stored_of k → a ≡ start k i + j → get_or T a 0 ≡ get_or ns j 0
field T k i ns u z r j a h e = ap (λ (b : ℕ). get_or T b 0) (omega (arith, e, z)) ∙ r.fields j h

module _ (T : List ℕ) (i : ℕ) (ns : List ℕ) (u : ℕ) where
  pub bank_read : Row T 1 i ns u → bank_row T (start 1 i) ≡ bank_of ns
  unfolding bank_row bank_of stored_of stored_fields
  bank_read r = rw (field T 1 i ns u refl r 0 (start 1 i) (omega arith) (omega arith))

  pub class_read : Row T 2 i ns u → class_row T (start 2 i) ≡ class_data_of ns
  unfolding class_row class_data_of float stored_of stored_fields
  class_read r =
      rw (
        field T 2 i ns u refl r 0 (start 2 i) (omega arith) (omega arith),
        field T 2 i ns u refl r 1 (start 2 i + 1) (omega arith) (omega arith),
        field T 2 i ns u refl r 2 (start 2 i + 2) (omega arith) (omega arith),
        field T 2 i ns u refl r 3 (start 2 i + 3) (omega arith) (omega arith),
      )

  pub memory_read : Row T 3 i ns u → memory_row T (start 3 i) ≡ memory_of ns
  unfolding memory_row memory_of stored_of stored_fields
  memory_read r = rw (field T 3 i ns u refl r 0 (start 3 i) (omega arith) (omega arith))

  pub block_read : Row T 4 i ns u → block_row T (start 4 i) ≡ block_data_of ns
  unfolding block_row block_data_of float stored_of stored_fields
  block_read r =
      rw (
        field T 4 i ns u refl r 0 (start 4 i) (omega arith) (omega arith),
        field T 4 i ns u refl r 1 (start 4 i + 1) (omega arith) (omega arith),
      )

  pub operand_read : Row T 7 i ns u → operand_row T (start 7 i) ≡ operand_of ns
  unfolding operand_row operand_of stored_of stored_fields
  operand_read r =
      rw (
        field T 7 i ns u refl r 0 (start 7 i) (omega arith) (omega arith),
        field T 7 i ns u refl r 1 (start 7 i + 1) (omega arith) (omega arith),
        field T 7 i ns u refl r 2 (start 7 i + 2) (omega arith) (omega arith),
        field T 7 i ns u refl r 3 (start 7 i + 3) (omega arith) (omega arith),
      )

  pub hint_read : Row T 8 i ns u → hint_at T (start 8 i) ≡ hint_of ns
  unfolding hint_at hint_of stored_of stored_fields
  hint_read r =
      rw (
        field T 8 i ns u refl r 0 (start 8 i) (omega arith) (omega arith),
        field T 8 i ns u refl r 1 (start 8 i + 1) (omega arith) (omega arith),
        field T 8 i ns u refl r 2 (start 8 i + 2) (omega arith) (omega arith),
      )

remat_same : (n : ℕ) → remat_row n ≡ remat_of n
unfolding remat_row
remat_same zero = refl
remat_same (suc zero) = refl
remat_same (suc (suc zero)) = refl
remat_same (suc (suc (suc zero))) = refl
remat_same (suc (suc (suc (suc n)))) =
    rw (
      ne_eqb (suc (suc (suc (suc n)))) 1 (λ e. omega (arith, e)),
      ne_eqb (suc (suc (suc (suc n)))) 2 (λ e. omega (arith, e)),
      ne_eqb (suc (suc (suc (suc n)))) 3 (λ e. omega (arith, e)),
    )

pub value_read : (T : List ℕ) (i : ℕ) (ns : List ℕ) (u : ℕ) → Row T 5 i ns u → value_row T (start 5 i) ≡ value_data_of ns
unfolding value_row value_data_of stored_of stored_fields
value_read T i ns u r =
    rw (
      field T 5 i ns u refl r 0 (start 5 i) (omega arith) (omega arith),
      field T 5 i ns u refl r 1 (start 5 i + 1) (omega arith) (omega arith),
      field T 5 i ns u refl r 2 (start 5 i + 2) (omega arith) (omega arith),
      remat_same (get_or ns 2 0),
    )

-- the kinds of use by their numbers
kind_same : (k a b c d : ℕ)
    → raw_kind k a b c d
    ≡ get_or (FixedDef (reg_of a) ∷ FixedUse (reg_of a) ∷ TiedUse a b (cls c) d ∷ ConstraintConflict ∷ ClassUse a (cls b) ∷ ClassDef a (cls b) ∷ GroupClassUse a (cls b) c ∷ GroupClassDef a (cls b) c ∷ BlockparamIn a ∷ BlockparamOut ∷ []) k ConstraintConflict
unfolding raw_kind
kind_same zero a b c d = refl
kind_same (suc zero) a b c d = refl
kind_same (suc (suc zero)) a b c d = refl
kind_same (suc (suc (suc zero))) a b c d = refl
kind_same (suc (suc (suc (suc zero)))) a b c d = refl
kind_same (suc (suc (suc (suc (suc zero))))) a b c d = refl
kind_same (suc (suc (suc (suc (suc (suc zero)))))) a b c d = refl
kind_same (suc (suc (suc (suc (suc (suc (suc zero))))))) a b c d = refl
kind_same (suc (suc (suc (suc (suc (suc (suc (suc zero)))))))) a b c d = refl
kind_same (suc (suc (suc (suc (suc (suc (suc (suc (suc zero))))))))) a b c d = refl
kind_same (suc (suc (suc (suc (suc (suc (suc (suc (suc (suc k)))))))))) a b c d =
    let n : ℕ = suc (suc (suc (suc (suc (suc (suc (suc (suc (suc k))))))))) in
    rw (
      ne_eqb n 0 (λ e. omega (arith, e)),
      ne_eqb n 1 (λ e. omega (arith, e)),
      ne_eqb n 2 (λ e. omega (arith, e)),
      ne_eqb n 4 (λ e. omega (arith, e)),
      ne_eqb n 5 (λ e. omega (arith, e)),
      ne_eqb n 6 (λ e. omega (arith, e)),
      ne_eqb n 7 (λ e. omega (arith, e)),
      ne_eqb n 8 (λ e. omega (arith, e)),
      ne_eqb n 9 (λ e. omega (arith, e)),
    )

pub use_read : (T : List ℕ) (i : ℕ) (ns : List ℕ) (u : ℕ) → Row T 10 i ns u → raw_row T (start 10 i) ≡ use_of ns
unfolding raw_row use_of stored_of stored_fields
use_read T i ns u r =
    rw (
      field T 10 i ns u refl r 0 (start 10 i) (omega arith) (omega arith),
      field T 10 i ns u refl r 1 (start 10 i + 1) (omega arith) (omega arith),
      field T 10 i ns u refl r 2 (start 10 i + 2) (omega arith) (omega arith),
      field T 10 i ns u refl r 3 (start 10 i + 3) (omega arith) (omega arith),
      field T 10 i ns u refl r 4 (start 10 i + 4) (omega arith) (omega arith),
      field T 10 i ns u refl r 5 (start 10 i + 5) (omega arith) (omega arith),
      kind_same (get_or ns 0 0) (get_or ns 2 0) (get_or ns 3 0) (get_or ns 4 0) (get_or ns 5 0),
      get_or-drop 2 ns 0 0,
      get_or-drop 2 ns 1 0,
      get_or-drop 2 ns 2 0,
      get_or-drop 2 ns 3 0,
    )
