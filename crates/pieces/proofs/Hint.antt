-- Whether a segment of a part has the fixed hint flag. Assumes nothing.
use Rattle.std.specs.Prelude.{ℕ, zero, suc, ◌+◌, ◌-◌, ◌≡◌, refl, Bool, List, ◌||◌}
use Rattle.std.proofs.Common.{ap, ◌∙◌}
use Rattle.std.proofs.iter.Yields.{nat_range_steps}
use Rattle.std.proofs.lemmas.Iterator.{YieldsList-from_range}
use Rattle.std.proofs.lemmas.Iterator.Search.{any_from_yields_List}
use Rattle.std.specs.Fn.{Called}
use Rattle.std.specs.Iterator.{ChecksAny}
use Rattle.std.specs.List.{list_any, range_with_len}
use Rattle.std.specs.declared.ops.Range.{Range}
use denote.Param.Members.{Mut}
use Rattle.words.specs.Tab.{tab}
use Rattle.definition.specs.Types.{Segment}
use Rattle.definition.specs.Build.{as_own}
use Rattle.definition.specs.Lines.{hint_in}
use Rattle.job.specs.declared.Layout.{Layout}
use Rattle.set_part.specs.declared.SetPart.{SetPart}
use Rattle.set_part.specs.Part.{part_row, seg_by, marked_use, part_segs}

hint_any : (f : ℕ → Segment) (i k : ℕ) → list_any (λ j. (f j).flags.fixedhint) (range_with_len i k) ≡ hint_in (as_own (tab f i k))
unfolding hint_in
hint_any f i zero = refl
hint_any f i (suc k) = ap (λ b. (f i).flags.fixedhint || b) (hint_any f (i + 1) k)

-- the closure h says of segment x whether it has the flag
pub hint_from_any : {F : Type 0} {g : Mut F (ℕ × Unit {0}) Bool} (W : List ℕ) (lay : Layout) (sp : SetPart) {u : Range ℕ} {h : F} {r : Bool}
    → ChecksAny nat_range_steps g (record { start = sp.seg; end = sp.last + 1 }) h r u
    → ((x : ℕ) (b : Bool) (q : F) → Called g h (x, tt) b q → (q ≡ h) × (b ≡ (part_row W lay sp x).flags.fixedhint))
    → (K : List ℕ) (marks : ℕ) → r ≡ hint_in (as_own (part_segs K marks W lay sp))
unfolding part_segs seg_by
hint_from_any W lay sp {u} {h} {r} ran is K marks =
    let n = sp.last + 1 - sp.seg in
    any_from_yields_List (λ x. (part_row W lay sp x).flags.fixedhint) u h r ran (YieldsList-from_range sp.seg (sp.last + 1) n refl refl) is
    ∙ hint_any (λ j. seg_by (marked_use K marks W lay) (part_row W lay sp j)) sp.seg n
