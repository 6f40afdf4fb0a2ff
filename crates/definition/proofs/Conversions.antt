-- A conversion by the form of the sheet and the verdict on it. Assumes nothing.
use Rattle.std.specs.Prelude.{◌≡◌, Bool, true, false, not, cond, ℕ, List}
use Rattle.std.proofs.Common.{refl, sym, ap}
use Rattle.definition.specs.declared.Refusal.TheVariants.{NotARecord}
use Rattle.definition.specs.declared.SheetRefusal.TheVariants.{By}
use Rattle.definition.specs.SheetForms.{is_second, records_in, verdict, refused', given_unless}
use Rattle.definition.specs.Conversion.{moved_sheet, already, move_to}

-- a sheet that has not the form asked for has the other one
pub other_form : (asked second : Bool) → already asked second ≡ false → second ≡ not asked
other_form true second e = e
other_form false true e = refl
other_form false false e = sym e

by_already : (asked : Bool) (bs : List ℕ) (b : Bool) → already asked (is_second bs) ≡ b
    → move_to asked bs ≡ cond b (refused' (By NotARecord)) (given_unless (verdict bs) (moved_sheet asked (records_in bs)))
unfolding move_to
by_already asked bs b e =
    ap (λ (t : Bool). cond t (refused' (By NotARecord)) (given_unless (verdict bs) (moved_sheet asked (records_in bs)))) e

-- 1 where it has the form asked for
pub moved_same : (asked : Bool) (bs : List ℕ) → already asked (is_second bs) ≡ true
    → move_to asked bs ≡ refused' (By NotARecord)
moved_same asked bs e = by_already asked bs true e

-- and else as the verdict says
pub moved_other : (asked : Bool) (bs : List ℕ) → already asked (is_second bs) ≡ false
    → move_to asked bs ≡ given_unless (verdict bs) (moved_sheet asked (records_in bs))
moved_other asked bs e = by_already asked bs false e
