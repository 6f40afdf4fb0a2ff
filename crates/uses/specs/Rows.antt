-- The rows of a use table. Assumes nothing.
use Rattle.std.specs.Prelude.{ℕ, ◌+◌, ◌%◌, Bool, true, false, ◌&&◌, Option, Some, None, List, eqb, ltb, get_or}
use Rattle.words.specs.RowsAt.{rows_at}
use Rattle.words.specs.declared.rows.lent.Rows.{Rows}
use Rattle.words.specs.Rows.{row_words}
use Rattle.definition.specs.declared.PhysReg.{PhysReg}
use Rattle.definition.specs.declared.Use.{Use}
use Rattle.definition.specs.declared.UseKind.{UseKind}
use Rattle.definition.specs.declared.UseKind.TheVariants.{FixedDef, FixedUse, TiedUse, ConstraintConflict, ClassUse, ClassDef, GroupClassUse, GroupClassDef, BlockparamIn, BlockparamOut}
use Rattle.definition.specs.Types.{inst, cls}

abbrev pub pick_k : Bool → UseKind → UseKind → UseKind
pick_k true x y = x
pick_k false x y = y

abbrev pub reg : ℕ → PhysReg
reg n = record { 0 = n }

-- "Kinds 0 to 9 follow UseKind's order": the kind of a number and four fields, as they stand
unfoldable pub raw_kind : ℕ → ℕ → ℕ → ℕ → ℕ → UseKind
raw_kind k a b c d =
    pick_k (eqb k 0) (FixedDef (reg a))
    (pick_k (eqb k 1) (FixedUse (reg a))
    (pick_k (eqb k 2) (TiedUse a b (cls c) d)
    (pick_k (eqb k 4) (ClassUse a (cls b))
    (pick_k (eqb k 5) (ClassDef a (cls b))
    (pick_k (eqb k 6) (GroupClassUse a (cls b) c)
    (pick_k (eqb k 7) (GroupClassDef a (cls b) c)
    (pick_k (eqb k 8) (BlockparamIn a)
    (pick_k (eqb k 9) BlockparamOut ConstraintConflict))))))))

-- the same with each field modulo its UseKind type
unfoldable pub kind_of : ℕ → ℕ → ℕ → ℕ → ℕ → UseKind
kind_of k a b c d =
    pick_k (eqb k 0) (FixedDef (reg a))
    (pick_k (eqb k 1) (FixedUse (reg a))
    (pick_k (eqb k 2) (TiedUse (a % 65536) (b % 65536) (cls c) (d % 256))
    (pick_k (eqb k 4) (ClassUse (a % 65536) (cls b))
    (pick_k (eqb k 5) (ClassDef (a % 65536) (cls b))
    (pick_k (eqb k 6) (GroupClassUse (a % 65536) (cls b) (c % 256))
    (pick_k (eqb k 7) (GroupClassDef (a % 65536) (cls b) (c % 256))
    (pick_k (eqb k 8) (BlockparamIn a)
    (pick_k (eqb k 9) BlockparamOut ConstraintConflict))))))))

abbrev pub pick_b : Bool → Bool → Bool → Bool
pick_b true x y = x
pick_b false x y = y

-- "field beyond its UseKind type": two slots and a group index fit theirs
unfoldable pub fit : ℕ → ℕ → ℕ → Bool
fit a b i = ltb a 65536 && (ltb b 65536 && ltb i 256)

unfoldable pub typed_kind : ℕ → ℕ → ℕ → ℕ → ℕ → Bool
typed_kind k a b c d =
    pick_b (eqb k 2) (fit a b d)
    (pick_b (eqb k 4) (fit a 0 0)
    (pick_b (eqb k 5) (fit a 0 0)
    (pick_b (eqb k 6) (fit a 0 c)
    (pick_b (eqb k 7) (fit a 0 c) true))))

-- the use whose row begins at word i
unfoldable pub use_row : List ℕ → ℕ → Use
use_row W i = record { pos = inst (get_or W (i + 1) 0); kind = kind_of (get_or W i 0) (get_or W (i + 2) 0) (get_or W (i + 3) 0) (get_or W (i + 4) 0) (get_or W (i + 5) 0) }

unfoldable pub raw_row : List ℕ → ℕ → Use
raw_row W i = record { pos = inst (get_or W (i + 1) 0); kind = raw_kind (get_or W i 0) (get_or W (i + 2) 0) (get_or W (i + 3) 0) (get_or W (i + 4) 0) (get_or W (i + 5) 0) }

unfoldable pub typed_row : List ℕ → ℕ → Bool
typed_row W i = typed_kind (get_or W i 0) (get_or W (i + 2) 0) (get_or W (i + 3) 0) (get_or W (i + 4) 0) (get_or W (i + 5) 0)

abbrev pub pick_d : Bool → Option Use → Option Use → Option Use
pick_d true x y = x
pick_d false x y = y

-- a use as it stands, if its kind is one and its fields fit their types
unfoldable pub decoded_row : List ℕ → ℕ → Option Use
decoded_row W i = pick_d (ltb (get_or W i 0) 10) (pick_d (typed_row W i) (Some (raw_row W i)) None) None

-- n uses from word `at` on
unfoldable pub uses_at : List ℕ → ℕ → ℕ → List Use
uses_at W at n = rows_at use_row W at 6 n

-- the uses of lent rows
abbrev pub uses_in : Rows 6 → List Use
uses_in t = uses_at (row_words t) t.at t.n
