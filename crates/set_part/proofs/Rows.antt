-- The rows of the two sides of a cut, and that both sides are well formed. Assumes nothing.
use mathlib.Core.Path.{◌≡◌, refl}
use mathlib.Core.Bool.{Bool, true, false}
use mathlib.Core.List.{List}
use Prim.Native.Nat.{ℕ, ◌+◌, ◌≤◌, ◌<◌}
use native.Mathlib.Omega.{arith}
use lib.Dec.{eqb}
use borrow.Author.Tests.{eq-eqb, ne_eqb, eqb-true, eqb-false, le-ltb}
use Rattle.definition.specs.declared.LiveRangePoint.{LiveRangePoint}
use Rattle.definition.specs.declared.UseFlags.{UseFlags}
use Rattle.job.specs.declared.Layout.{Layout}
use Rattle.set_part.specs.declared.SetPart.{SetPart}
use Rattle.set_part.specs.declared.PartSeg.{PartSeg}
use Rattle.set_part.specs.Part.{use_bound, part_row, PartOk}
use Rattle.set_part.proofs.Bounds.{bound_first, bound_end}
use Rattle.set_part.specs.Cut.{left_part, right_part}

-- a row with another end, or another beginning
abbrev pub ended_at : PartSeg → LiveRangePoint → UseFlags → ℕ → PartSeg
ended_at r t f e = record { value = r.value; «from» = r.«from»; to = t; flags = f; first = r.first; end = e }

abbrev pub begun_at : PartSeg → LiveRangePoint → UseFlags → ℕ → PartSeg
begun_at r q f n = record { value = r.value; «from» = q; to = r.to; flags = f; first = n; end = r.end }

module _ (W : List ℕ) (lay : Layout) (sp : SetPart) (k : ℕ) (lo : sp.seg ≤ k) (hi : k ≤ sp.last) where
  -- ---- the left side

  module _ (t : LiveRangePoint) (f : UseFlags) (e : ℕ) where
    pub left_bound : (i : ℕ) → sp.seg ≤ i → i ≤ k → use_bound W lay (left_part sp k t f e) i ≡ use_bound W lay sp i
    unfolding use_bound left_part
    left_bound i h l = simp (le-ltb k i l, le-ltb sp.last i (omega arith))

    pub left_bound_end : use_bound W lay (left_part sp k t f e) (k + 1) ≡ e
    unfolding left_part
    left_bound_end = bound_end W lay (left_part sp k t f e) (k + 1) (omega arith) (omega arith)

    -- a segment before k is as it was
    pub left_row_lem : (i : ℕ) → sp.seg ≤ i → i < k → part_row W lay (left_part sp k t f e) i ≡ part_row W lay sp i
    unfolding part_row left_part
    left_row_lem i h l =
        let a : eqb i k ≡ false = ne_eqb i k (λ q. omega arith) in
        let b : eqb i sp.last ≡ false = ne_eqb i sp.last (λ q. omega arith) in
        let c : eqb k sp.seg ≡ false = ne_eqb k sp.seg (λ q. omega arith) in
        rw (left_bound i h (omega arith), left_bound (i + 1) (omega arith) (omega arith), a, b, c)

    -- segment k has the new end
    pub left_row_last : part_row W lay (left_part sp k t f e) k ≡ ended_at (part_row W lay sp k) t f e
    unfolding part_row left_part
    left_row_last = go (eqb k sp.seg) refl
      where
        a : eqb k k ≡ true
        a = eq-eqb k k refl

        go : (b : Bool) → eqb k sp.seg ≡ b → part_row W lay (left_part sp k t f e) k ≡ ended_at (part_row W lay sp k) t f e
        go true b = rw (left_bound k lo (omega arith), left_bound_end, a, b)
        go false b = rw (left_bound k lo (omega arith), left_bound_end, a, b)

    pub left_ok : PartOk W lay sp → use_bound W lay sp k ≤ e → e ≤ lay.uses.n → PartOk W lay (left_part sp k t f e)
    unfolding left_part
    left_ok ok h l = record {
      order = lo;
      within = omega (arith, ok.within);
      rise = λ i a b. go i a b (eqb i k) refl;
      fits = l;
    }
      where
        go : (i : ℕ) → sp.seg ≤ i → i ≤ k → (b : Bool) → eqb i k ≡ b → use_bound W lay (left_part sp k t f e) i ≤ use_bound W lay (left_part sp k t f e) (i + 1)
        go i a b true q = let r = eqb-true i k q in rw r (omega (arith, left_bound k lo (omega arith), left_bound_end))
        go i a b false q =
            let r = eqb-false i k q in
            omega (arith, left_bound i a b, left_bound (i + 1) (omega arith) (omega arith), ok.rise i a (omega arith))

  -- ---- the right side

  module _ (q : LiveRangePoint) (f : UseFlags) (n : ℕ) where
    pub right_bound : (i : ℕ) → k < i → use_bound W lay (right_part sp k q f n) i ≡ use_bound W lay sp i
    unfolding use_bound right_part
    right_bound i h =
        let a : eqb i k ≡ false = ne_eqb i k (λ u. omega arith) in
        let b : eqb i sp.seg ≡ false = ne_eqb i sp.seg (λ u. omega arith) in
        rw (a, b)

    pub right_bound_first : use_bound W lay (right_part sp k q f n) k ≡ n
    unfolding right_part
    right_bound_first = bound_first W lay (right_part sp k q f n)

    -- a segment behind k is as it was
    pub right_row_lem : (i : ℕ) → k < i → part_row W lay (right_part sp k q f n) i ≡ part_row W lay sp i
    unfolding part_row right_part
    right_row_lem i h =
        let a : eqb i k ≡ false = ne_eqb i k (λ u. omega arith) in
        let b : eqb i sp.seg ≡ false = ne_eqb i sp.seg (λ u. omega arith) in
        rw (right_bound i h, right_bound (i + 1) (omega arith), a, b)

    -- segment k has the new beginning
    pub right_row_first : part_row W lay (right_part sp k q f n) k ≡ begun_at (part_row W lay sp k) q f n
    unfolding part_row right_part
    right_row_first =
        let a : eqb k k ≡ true = eq-eqb k k refl in
        rw (right_bound_first, right_bound (k + 1) (omega arith), a)

    pub right_ok : PartOk W lay sp → n ≤ use_bound W lay sp (k + 1) → PartOk W lay (right_part sp k q f n)
    unfolding right_part
    right_ok ok h = record {
      order = hi;
      within = ok.within;
      rise = λ i a b. go i a b (eqb i k) refl;
      fits = ok.fits;
    }
      where
        go : (i : ℕ) → k ≤ i → i ≤ sp.last → (b : Bool) → eqb i k ≡ b → use_bound W lay (right_part sp k q f n) i ≤ use_bound W lay (right_part sp k q f n) (i + 1)
        go i a b true u = let r = eqb-true i k u in rw r (omega (arith, right_bound_first, right_bound (k + 1) (omega arith)))
        go i a b false u =
            let r = eqb-false i k u in
            omega (arith, right_bound i (omega arith), right_bound (i + 1) (omega arith), ok.rise i (omega arith) b)
