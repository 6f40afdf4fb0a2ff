-- What the writer makes of flags and of a use is what the reader reads. Assumes nothing.
use mathlib.Core.Path.{◌≡◌, refl}
use mathlib.Core.Bool.{Bool, true, false}
use Rattle.definition.specs.Types.{UseKind, FixedDef, FixedUse, TiedUse, ConstraintConflict, ClassUse, ClassDef}
use Rattle.definition.specs.Types.{GroupClassUse, GroupClassDef, BlockparamIn, BlockparamOut, Use, UseFlags}
use Rattle.definition.specs.Lines.{numbers_of, use_numbers, flags_number}
use Rattle.definition.specs.JobSheet.{use_of, flags_of}

pub flags_back : (f : UseFlags) → flags_of (flags_number f) ≡ f
unfolding flags_of
flags_back f = go f.livein f.liveout f.fixedhint f.fixeddef
  where
    all : Bool → Bool → Bool → Bool → UseFlags
    all a b c d = record { livein = a; liveout = b; fixedhint = c; fixeddef = d }

    go : (a b c d : Bool) → flags_of (flags_number (all a b c d)) ≡ all a b c d
    go true true true true = refl
    go true true true false = refl
    go true true false true = refl
    go true true false false = refl
    go true false true true = refl
    go true false true false = refl
    go true false false true = refl
    go true false false false = refl
    go false true true true = refl
    go false true true false = refl
    go false true false true = refl
    go false true false false = refl
    go false false true true = refl
    go false false true false = refl
    go false false false true = refl
    go false false false false = refl

pub use_back : (u : Use) → use_of (use_numbers u) ≡ u
unfolding use_of
use_back u = go u.kind
  where
    go : (k : UseKind) → use_of (numbers_of k u.pos.0) ≡ record { pos = u.pos; kind = k }
    go (FixedDef r) = refl
    go (FixedUse r) = refl
    go (TiedUse a b c i) = refl
    go ConstraintConflict = refl
    go (ClassUse s c) = refl
    go (ClassDef s c) = refl
    go (GroupClassUse s c i) = refl
    go (GroupClassDef s c i) = refl
    go (BlockparamIn q) = refl
    go BlockparamOut = refl
