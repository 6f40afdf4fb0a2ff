-- What the steps over a part leave as it was. Assumes nothing.
use mathlib.Core.Path.{◌≡◌, refl, ◌∙◌}
use Prim.Native.Nat.{ℕ, ◌+◌, ◌≤◌, ◌<◌}
use native.Mathlib.Omega.{arith}
use mathlib.Core.List.{List}
use lib.ListN.{length}
use Rattle.job.specs.declared.Layout.{Layout}
use Rattle.set_part.specs.declared.SetPart.{SetPart}
use Rattle.set_part.proofs.Bounds.{first_le_end}
use Rattle.set_part.specs.declared.cuts.Parts.{Parts}
use Rattle.set_part.proofs.CutsKept.{Sides}
use Rattle.set_part.specs.declared.mark.TurnedRow.{TurnedRow}
use Rattle.job.specs.declared.work.WorkLayout.{WorkLayout}
use Rattle.constraints.specs.Ready.{Ready}
use Rattle.constraints.proofs.Kept.{ready_kept}
use Rattle.pieces.specs.Maps.{MapApart, Outside}
use Rattle.steps.specs.Turns.{turned_once, TurnRoom}
use Rattle.steps.specs.Built.{Changed}
use Rattle.steps.proofs.Turn.{once_before, once_long}

pub changed_none : (lay : Layout) (wl : WorkLayout) (sp : SetPart) (n : ℕ) (K : List ℕ) → Changed lay wl sp n K K
changed_none lay wl sp n K = record { long = refl; before = λ j a. refl; until = λ j a b. refl; behind = λ j a b. refl }

-- a part is placed
pub changed_placed : (lay : Layout) (wl : WorkLayout) (sp : SetPart) (n : ℕ) (K K' : List ℕ) → MapApart lay wl → Outside lay wl K K' → Changed lay wl sp n K K'
changed_placed lay wl sp n K K' m o =
    record { long = o.long; before = o.before; until = λ j a b. o.behind j a; behind = λ j a b. o.behind j (omega (arith, m.marks)) }

-- a use is turned, and the steps go on
pub changed_turn : (lay : Layout) (wl : WorkLayout) (sp : SetPart) (n : ℕ) (K K₁ K₂ : List ℕ) (t : TurnedRow) → MapApart lay wl → TurnRoom (length K) lay wl → n < lay.uses.n → t.number < lay.uses.n
    → sp.first ≤ t.number → t.number < sp.end → K₁ ≡ turned_once K wl n t → Changed lay wl sp (n + 1) K₁ K₂ → Changed lay wl sp n K K₂
changed_turn lay wl sp n K K₁ K₂ t m a ln lc lo hi e =
    rw e
    (λ c. record {
      long = c.long ∙ once_long K lay wl n t m a ln lc;
      before = λ j x. c.before j x ∙ once_before K lay wl n t m a ln lc j (omega (arith, a.marks, m.marks)) (λ q. omega (arith, m.marks));
      until = λ j x y. c.until j x y ∙ once_before K lay wl n t m a ln lc j (omega (arith, a.marks)) (λ q. omega arith);
      behind = λ j x y. c.behind j x (omega arith) ∙ once_before K lay wl n t m a ln lc j y (λ q. omega arith);
    })

-- the part before a cut is placed, and the steps go on behind it
pub changed_cut : (W : List ℕ) (lay : Layout) (wl : WorkLayout) (sp : SetPart) (n : ℕ) (K K₁ K₂ : List ℕ) (p : Parts) → MapApart lay wl → Sides W lay sp p → Outside lay wl K K₁ → Changed lay wl p.right n K₁ K₂
    → Changed lay wl sp n K K₂
changed_cut W lay wl sp n K K₁ K₂ p m s o c =
    let f : sp.first ≤ p.right.first = omega (arith, first_le_end W lay p.left s.left_side, s.first, s.meet) in
    record {
      long = c.long ∙ o.long;
      before = λ j x. c.before j x ∙ o.before j x;
      until = λ j x y. c.until j x (omega arith) ∙ o.behind j x;
      behind = λ j x y. c.behind j (omega (arith, s.end)) y ∙ o.behind j (omega (arith, m.marks));
    }

-- the index and the table of block starts are where they were
pub changed_ready : (t w : ℕ) (W K K' : List ℕ) (lay : Layout) (wl : WorkLayout) (sp : SetPart) (n : ℕ) → MapApart lay wl → TurnRoom w lay wl → Changed lay wl sp n K K' → Ready t w W K lay wl → Ready t w W K' lay wl
changed_ready t w W K K' lay wl sp n m a c r =
    ready_kept K' r (λ i l. c.before (wl.heads + i) (omega (arith, m.index))) (λ i l. c.before (wl.nexts + i) (omega (arith, m.index)))
    (λ i l. c.until (wl.starts + i) (omega (arith, m.starts)) (omega (arith, a.starts)))
