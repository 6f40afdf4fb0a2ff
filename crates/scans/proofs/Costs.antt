-- The cost of a class by its bits, and the side of a cut. Assumes nothing.
use mathlib.Core.Path.{◌≡◌, refl, sym, ap, ap₂, ◌∙◌}
use mathlib.Core.Bool.{Bool, true, false, cond}
use mathlib.Core.List.{List}
use Prim.Native.Nat.{ℕ, ◌+◌, ◌*◌, ◌≤◌, ◌<◌}
use native.Mathlib.Omega.{arith}
use lib.Dec.{leb}
use lib.ListN.{get_or}
use lib.Ieee.{Float, binary32, of_bits, le}
use borrow.Author.Tests.{le-leb, lt-leb}
use Rattle.definition.specs.declared.RegClass.{RegClass}
use Rattle.definition.specs.declared.ClassData.{ClassData}
use Rattle.definition.specs.declared.Side.TheVariants.{Early, Late}
use Rattle.definition.specs.Types.{Job}
use Rattle.definition.specs.RegInfo.{class_at}
use Rattle.definition.specs.Admit.{cut_side}
use Rattle.weights.proofs.Bits.{le_bits}
use Rattle.reginfo.specs.Rows.{class_row}
use Rattle.job.specs.declared.Layout.{Layout}
use Rattle.job.specs.Job.{job_of}
use Rattle.vreg_weight.specs.Book.{SmallBook}
use Rattle.vreg_weight.proofs.Reading.{class_known, class_past}

module _ (W : List ℕ) (lay : Layout) (c : RegClass) (k : ℕ) where
  abbrev pub Costs : ℕ → Type 0
  Costs r = (r ≤ 0x4980_0000) × (of_bits binary32 r ≡ (class_at (job_of W lay) c).cost)

  pub cost_known : (r : ℕ) → k ≡ c.0 → k < lay.classes.n → SmallBook W lay
      → r ≡ get_or W (lay.classes.at + k * 4 + 1) 0 → Costs r
  unfolding class_row
  cost_known r e l s h = (
    omega (arith, h, s.costs k l),
    ap (of_bits binary32) h
        ∙ ap (λ (d : ClassData). d.cost) (class_known W lay c k (class_row W (lay.classes.at + k * 4)) e l s refl).0,
  )

  pub cost_past : k ≡ c.0 → lay.classes.n ≤ k → Costs 0
  unfolding of_bits
  cost_past e l = (omega arith, ap (λ (d : ClassData). d.cost) (class_past W lay c k e l))

-- ---- the side of a cut

module _ (job : Job) (forward end : RegClass) (f e : ℕ) (lf : f ≤ 0x4980_0000) (l : e ≤ 0x4980_0000)
    (ef : of_bits binary32 f ≡ (class_at job forward).cost) (ee : of_bits binary32 e ≡ (class_at job end).cost) where
  by_bits : (t : Bool) → leb e f ≡ t → cond t Early Late ≡ cut_side job forward end
  unfolding cut_side
  by_bits t q =
      ap (λ (u : Bool). cond u Early Late) (sym q ∙ sym (le_bits e f (omega arith) (omega arith)))
      ∙ ap₂ (λ (x y : Float). cond (le x y) Early Late) ee ef

  pub side_early : e ≤ f → Early ≡ cut_side job forward end
  side_early h = by_bits true (le-leb e f h)

  pub side_late : f < e → Late ≡ cut_side job forward end
  side_late h = by_bits false (lt-leb e f h)
