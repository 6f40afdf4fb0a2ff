-- Uses whose fields fit their UseKind types: such a use is read back from its row. Assumes nothing.
use Rattle.std.specs.Prelude.{◌≡◌, refl, Bool, true, false, List, ℕ, ◌+◌, ◌%◌, ◌<◌, eqb, get_or}
use Rattle.std.proofs.Common.{sym, ap, ◌∙◌, mod-eq_of_lt, add-zero, arith}
use Rattle.words.specs.Tab.{tab}
use Rattle.definition.specs.declared.Inst.{Inst}
use Rattle.definition.specs.declared.Use.{Use}
use Rattle.definition.specs.declared.UseKind.{UseKind}
use Rattle.definition.specs.declared.UseKind.TheVariants.{FixedDef, FixedUse, TiedUse, ConstraintConflict, ClassUse, ClassDef, GroupClassUse, GroupClassDef, BlockparamIn, BlockparamOut}
use Rattle.definition.specs.Types.{inst, cls}
use Rattle.definition.specs.Lines.{numbers_of}
use Rattle.definition.specs.Build.{turned_use}
use Rattle.uses.specs.Rows.{pick_k, reg, kind_of, use_row}
use Rattle.virt_regs.specs.Encoding.{use_words}

-- slots are u16, group indices u8
abbrev pub TypedKind : UseKind → Type 0
TypedKind (FixedDef r) = Unit {0}
TypedKind (FixedUse r) = Unit {0}
TypedKind (TiedUse u d c i) = (u < 65536) × (d < 65536) × (i < 256)
TypedKind ConstraintConflict = Unit {0}
TypedKind (ClassUse s c) = s < 65536
TypedKind (ClassDef s c) = s < 65536
TypedKind (GroupClassUse s c i) = (s < 65536) × (i < 256)
TypedKind (GroupClassDef s c i) = (s < 65536) × (i < 256)
TypedKind (BlockparamIn p) = Unit {0}
TypedKind BlockparamOut = Unit {0}

unfoldable pub TypedUse : Use → Type 0
TypedUse u = TypedKind u.kind

-- ---- a use is read back from its row

slot : (a : ℕ) → a < 65536 → a % 65536 ≡ a
slot a h = mod-eq_of_lt h

index : (i : ℕ) → i < 256 → i % 256 ≡ i
index i h = mod-eq_of_lt h

abbrev field : UseKind → ℕ → ℕ → ℕ
field k p j = get_or (tab (λ i. get_or (numbers_of k p) i 0) 0 6) j 0

kind_back : (k : UseKind) (p : ℕ) → TypedKind k → kind_of (field k p 0) (field k p 2) (field k p 3) (field k p 4) (field k p 5) ≡ k
unfolding kind_of
kind_back (FixedDef r) p t = refl
kind_back (FixedUse r) p t = refl
kind_back (TiedUse u d c i) p t = rw (slot u t.0, slot d t.1, index i t.2)
kind_back ConstraintConflict p t = refl
kind_back (ClassUse s c) p t = rw (slot s t)
kind_back (ClassDef s c) p t = rw (slot s t)
kind_back (GroupClassUse s c i) p t = rw (slot s t.0, index i t.1)
kind_back (GroupClassDef s c i) p t = rw (slot s t.0, index i t.1)
kind_back (BlockparamIn q) p t = refl
kind_back BlockparamOut p t = refl

pos_back : (k : UseKind) (p : ℕ) → field k p 1 ≡ p
pos_back (FixedDef r) p = refl
pos_back (FixedUse r) p = refl
pos_back (TiedUse u d c i) p = refl
pos_back ConstraintConflict p = refl
pos_back (ClassUse s c) p = refl
pos_back (ClassDef s c) p = refl
pos_back (GroupClassUse s c i) p = refl
pos_back (GroupClassDef s c i) p = refl
pos_back (BlockparamIn q) p = refl
pos_back BlockparamOut p = refl

pub use_back : (O : List ℕ) (a : ℕ) (u : Use) → ((j : ℕ) → j < 6 → get_or O (a + j) 0 ≡ get_or (use_words u) j 0) → TypedUse u → use_row O a ≡ u
unfolding use_row TypedUse
use_back O a u h t =
    let w₀ : get_or O a 0 ≡ field u.kind u.pos.0 0 = ap (λ (i : ℕ). get_or O i 0) (sym (add-zero a)) ∙ h 0 (omega arith) in
    let k : kind_of (get_or O a 0) (get_or O (a + 2) 0) (get_or O (a + 3) 0) (get_or O (a + 4) 0) (get_or O (a + 5) 0) ≡ u.kind =
    rw (w₀, h 2 (omega arith), h 3 (omega arith), h 4 (omega arith), h 5 (omega arith)) (kind_back u.kind u.pos.0 t) in
    let p : get_or O (a + 1) 0 ≡ u.pos.0 = h 1 (omega arith) ∙ pos_back u.kind u.pos.0 in
    λ x. record { pos = inst (p x); kind = k x }

-- ---- which uses fit

kind_typed : (k a b c d : ℕ) → TypedKind (kind_of k a b c d)
unfolding kind_of
kind_typed k a b c d = go (eqb k 0) (eqb k 1) (eqb k 2) (eqb k 4) (eqb k 5) (eqb k 6) (eqb k 7) (eqb k 8) (eqb k 9)
  where
    go : (k0 k1 k2 k4 k5 k6 k7 k8 k9 : Bool)
        → TypedKind (pick_k k0 (FixedDef (reg a)) (pick_k k1 (FixedUse (reg a)) (pick_k k2 (TiedUse (a % 65536) (b % 65536) (cls c) (d % 256)) (pick_k k4 (ClassUse (a % 65536) (cls b))
        (pick_k k5 (ClassDef (a % 65536) (cls b)) (pick_k k6 (GroupClassUse (a % 65536) (cls b) (c % 256)) (pick_k k7 (GroupClassDef (a % 65536) (cls b) (c % 256))
        (pick_k k8 (BlockparamIn a) (pick_k k9 BlockparamOut ConstraintConflict)))))))))
    go true k1 k2 k4 k5 k6 k7 k8 k9 = tt
    go false true k2 k4 k5 k6 k7 k8 k9 = tt
    go false false true k4 k5 k6 k7 k8 k9 = (omega arith, omega arith, omega arith)
    go false false false true k5 k6 k7 k8 k9 = omega arith
    go false false false false true k6 k7 k8 k9 = omega arith
    go false false false false false true k7 k8 k9 = (omega arith, omega arith)
    go false false false false false false true k8 k9 = (omega arith, omega arith)
    go false false false false false false false true k9 = tt
    go false false false false false false false false true = tt
    go false false false false false false false false false = tt

-- a use read off words, a turned use, a block parameter
pub row_typed : (W : List ℕ) (i : ℕ) → TypedUse (use_row W i)
unfolding use_row TypedUse
row_typed W i = kind_typed (get_or W i 0) (get_or W (i + 2) 0) (get_or W (i + 3) 0) (get_or W (i + 4) 0) (get_or W (i + 5) 0)

pub turned_typed : (u : Use) → TypedUse (turned_use u)
unfolding TypedUse
turned_typed u = tt

pub param_typed : (i : Inst) (p : ℕ) → TypedUse (record { pos = i; kind = BlockparamIn p })
unfolding TypedUse
param_typed i p = tt
