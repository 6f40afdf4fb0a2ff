-- The numbers at which the uses of a part's segments begin and end. Assumes nothing.
use mathlib.Core.Path.{◌≡◌, refl}
use mathlib.Core.Bool.{false}
use mathlib.Core.List.{List}
use Prim.Native.Nat.{ℕ, zero, suc, ◌+◌, ◌-◌, ◌≤◌, ◌<◌}
use native.Mathlib.Omega.{arith}
use lib.Dec.{eqb}
use borrow.Author.Tests.{eq-eqb, ne_eqb, lt-ltb, le-ltb}
use Rattle.job.specs.declared.Layout.{Layout}
use Rattle.job.specs.Layout.{seg_at}
use Rattle.set_part.specs.declared.SetPart.{SetPart}
use Rattle.set_part.specs.Part.{use_bound, PartOk}

module _ (W : List ℕ) (lay : Layout) (sp : SetPart) where
  pub bound_first : use_bound W lay sp sp.seg ≡ sp.first
  unfolding use_bound
  bound_first = simp (eq-eqb sp.seg sp.seg refl)

  pub bound_inner : (i : ℕ) → sp.seg < i → i ≤ sp.last → use_bound W lay sp i ≡ (seg_at W lay i).first
  unfolding use_bound
  bound_inner i h l = let n : eqb i sp.seg ≡ false = ne_eqb i sp.seg (λ e. omega arith) in simp (n, le-ltb sp.last i l)

  pub bound_end : (i : ℕ) → sp.seg < i → sp.last < i → use_bound W lay sp i ≡ sp.end
  unfolding use_bound
  bound_end i h l = let n : eqb i sp.seg ≡ false = ne_eqb i sp.seg (λ e. omega arith) in simp (n, lt-ltb sp.last i l)

  -- they do not fall over several segments either
  rise_by : PartOk W lay sp → (m i : ℕ) → sp.seg ≤ i → i + m ≤ sp.last + 1 → use_bound W lay sp i ≤ use_bound W lay sp (i + m)
  rise_by ok zero i h l = let e : i + 0 ≡ i = omega arith in rw e (omega arith)
  rise_by ok (suc m) i h l =
      let e : i + suc m ≡ i + 1 + m = omega arith in
      let a = ok.rise i h (omega arith) in
      let b = rise_by ok m (i + 1) (omega arith) (omega arith) in
      rw e (omega arith)

  pub bounds_rise : PartOk W lay sp → (i j : ℕ) → sp.seg ≤ i → i ≤ j → j ≤ sp.last + 1 → use_bound W lay sp i ≤ use_bound W lay sp j
  bounds_rise ok i j h l m = let e : j ≡ i + (j - i) = omega arith in rw e (rise_by ok (j - i) i h (omega arith))

  pub bound_le_end : PartOk W lay sp → (i : ℕ) → sp.seg ≤ i → i ≤ sp.last + 1 → use_bound W lay sp i ≤ sp.end
  bound_le_end ok i h l =
      let o = ok.order in
      let e = bound_end (sp.last + 1) (omega arith) (omega arith) in
      omega (arith, bounds_rise ok i (sp.last + 1) h l (omega arith), e)

  pub first_le_bound : PartOk W lay sp → (i : ℕ) → sp.seg ≤ i → i ≤ sp.last + 1 → sp.first ≤ use_bound W lay sp i
  first_le_bound ok i h l = omega (arith, bounds_rise ok sp.seg i (omega arith) h l, bound_first)

  pub first_le_end : PartOk W lay sp → sp.first ≤ sp.end
  first_le_end ok = let o = ok.order in omega (arith, bound_le_end ok sp.seg (omega arith) (omega arith), bound_first)
