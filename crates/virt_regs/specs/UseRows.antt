-- A use read back from its row. Assumes nothing.
use Rattle.std.specs.Prelude.{◌≡◌, refl, Bool, true, false, List, ℕ, zero, suc, ◌+◌, ◌*◌, ◌%◌, ◌<◌, eqb, get_or}
use Rattle.std.proofs.Common.{ap, ◌∙◌, mod-eq_of_lt, arith}
use Rattle.words.specs.Tab.{tab}
use Rattle.words.specs.RowsAt.{rows_at}
use Rattle.definition.specs.declared.UseKind.{UseKind}
use Rattle.definition.specs.declared.UseKind.TheVariants.{FixedDef, FixedUse, TiedUse, ConstraintConflict, ClassUse, ClassDef, GroupClassUse, GroupClassDef, BlockparamIn, BlockparamOut}
use Rattle.definition.specs.declared.Use.{Use}
use Rattle.definition.specs.Types.{inst, cls}
use Rattle.definition.specs.Lines.{numbers_of, use_numbers}
use Rattle.uses.specs.Rows.{pick_k, reg, kind_of, use_row}
use Rattle.virt_regs.specs.Each.{Each}
use Rattle.virt_regs.specs.Encoding.{use_words, TypedKind, Typed}

slot : (a : ℕ) → a < 65536 → a % 65536 ≡ a
slot a h = mod-eq_of_lt h

index : (i : ℕ) → i < 256 → i % 256 ≡ i
index i h = mod-eq_of_lt h

-- the kind by the numbers of its row
kind_back : (k : UseKind) (p : ℕ) → TypedKind k
    → kind_of (get_or (numbers_of k p) 0 0) (get_or (numbers_of k p) 2 0) (get_or (numbers_of k p) 3 0) (get_or (numbers_of k p) 4 0) (get_or (numbers_of k p) 5 0) ≡ k
unfolding kind_of TypedKind
kind_back (FixedDef r) p t = refl
kind_back (FixedUse r) p t = refl
kind_back (TiedUse s d c i) p t = λ x. TiedUse (slot s t.0 x) (slot d t.1 x) c (index i t.2 x)
kind_back ConstraintConflict p t = refl
kind_back (ClassUse s c) p t = λ x. ClassUse (slot s t x) c
kind_back (ClassDef s c) p t = λ x. ClassDef (slot s t x) c
kind_back (GroupClassUse s c i) p t = λ x. GroupClassUse (slot s t.0 x) c (index i t.1 x)
kind_back (GroupClassDef s c i) p t = λ x. GroupClassDef (slot s t.0 x) c (index i t.1 x)
kind_back (BlockparamIn q) p t = refl
kind_back BlockparamOut p t = refl

pos_back : (k : UseKind) (p : ℕ) → get_or (numbers_of k p) 1 0 ≡ p
pos_back (FixedDef r) p = refl
pos_back (FixedUse r) p = refl
pos_back (TiedUse s d c i) p = refl
pos_back ConstraintConflict p = refl
pos_back (ClassUse s c) p = refl
pos_back (ClassDef s c) p = refl
pos_back (GroupClassUse s c i) p = refl
pos_back (GroupClassDef s c i) p = refl
pos_back (BlockparamIn q) p = refl
pos_back BlockparamOut p = refl

-- a row whose words are a use's is that use
pub use_back : (O : List ℕ) (i : ℕ) (u : Use) → Typed u → ((k : ℕ) → k < 6 → get_or O (i + k) 0 ≡ get_or (use_words u) k 0) → use_row O i ≡ u
unfolding use_row
use_back O i u t w =
    let w₀ : get_or O i 0 ≡ get_or (use_numbers u) 0 0 = let e : i ≡ i + 0 = omega arith in ap (λ (n : ℕ). get_or O n 0) e ∙ w 0 (omega arith) in
    let pos : get_or O (i + 1) 0 ≡ u.pos.0 = w 1 (omega arith) ∙ pos_back u.kind u.pos.0 in
    let kind : kind_of (get_or O i 0) (get_or O (i + 2) 0) (get_or O (i + 3) 0) (get_or O (i + 4) 0) (get_or O (i + 5) 0) ≡ u.kind =
    (λ x. kind_of (w₀ x) (w 2 (omega arith) x) (w 3 (omega arith) x) (w 4 (omega arith) x) (w 5 (omega arith) x)) ∙ kind_back u.kind u.pos.0 t in
    λ x. record { pos = inst (pos x); kind = kind x }

-- a kind taken modulo its types fits them
typed_kind_lem : (k a b c d : ℕ) → TypedKind (kind_of k a b c d)
unfolding kind_of TypedKind
typed_kind_lem k a b c d = go (eqb k 0) (eqb k 1) (eqb k 2) (eqb k 4) (eqb k 5) (eqb k 6) (eqb k 7) (eqb k 8) (eqb k 9)
  where
    s : a % 65536 < 65536
    s = omega arith

    go : (k0 k1 k2 k4 k5 k6 k7 k8 k9 : Bool)
        → TypedKind (pick_k k0 (FixedDef (reg a)) (pick_k k1 (FixedUse (reg a)) (pick_k k2 (TiedUse (a % 65536) (b % 65536) (cls c) (d % 256)) (pick_k k4 (ClassUse (a % 65536) (cls b))
        (pick_k k5 (ClassDef (a % 65536) (cls b)) (pick_k k6 (GroupClassUse (a % 65536) (cls b) (c % 256)) (pick_k k7 (GroupClassDef (a % 65536) (cls b) (c % 256))
        (pick_k k8 (BlockparamIn a) (pick_k k9 BlockparamOut ConstraintConflict)))))))))
    go true k1 k2 k4 k5 k6 k7 k8 k9 = tt
    go false true k2 k4 k5 k6 k7 k8 k9 = tt
    go false false true k4 k5 k6 k7 k8 k9 = (s, omega arith, omega arith)
    go false false false true k5 k6 k7 k8 k9 = s
    go false false false false true k6 k7 k8 k9 = s
    go false false false false false true k7 k8 k9 = (s, omega arith)
    go false false false false false false true k8 k9 = (s, omega arith)
    go false false false false false false false true k9 = tt
    go false false false false false false false false true = tt
    go false false false false false false false false false = tt

-- a use read from a row fits its types
pub typed_row_lem : (O : List ℕ) (i : ℕ) → Typed (use_row O i)
unfolding use_row
typed_row_lem O i = typed_kind_lem (get_or O i 0) (get_or O (i + 2) 0) (get_or O (i + 3) 0) (get_or O (i + 4) 0) (get_or O (i + 5) 0)

pub typed_rows : (O : List ℕ) (at s n : ℕ) → Each Typed (rows_at use_row O at s n)
unfolding rows_at Each
typed_rows O at s n = go 0 n
  where
    go : (i k : ℕ) → Each Typed (tab (λ j. use_row O (at + j * s)) i k)
    go i zero = tt
    go i (suc k) = (typed_row_lem O (at + i * s), go (i + 1) k)
