-- The edge, one turn of the loop over the open blocks. Assumes nothing.
use Prim.Native.Nat.{ℕ, suc, ◌+◌, ◌-◌, ◌≤◌, ◌<◌}
use native.Mathlib.Omega.{arith}
use native.Mathlib.Numerals.{add-one}
use mathlib.Core.Path.{◌≡◌, sym, ap, ◌∙◌}
use mathlib.Core.Bool.{◌&&◌, not, cond}
use lib.Dec.{eqb, ltb}
use Rattle.definition.specs.declared.Side.{Side}
use Rattle.definition.specs.CutMoves.{infinity, tie, edge_of}

module _ (side : Side) (f : ℕ → ℕ) (c : ℕ) where
  -- the blocks before i are seen, and e is the edge so far
  pub record EdgeSoFar (lo end e i : ℕ) : Type 0 where
    pub is : edge_of side f c infinity lo (end - lo) ≡ edge_of side f c e i (end - i)

  pub edge_next : {lo end e i : ℕ} (x : ℕ) → EdgeSoFar lo end e i → i < end
      → x ≡ cond (not (eqb i c) && ltb (f i + tie side i c) e) (f i + tie side i c) e → EdgeSoFar lo end x (i + 1)
  unfolding edge_of
  edge_next {lo} {end} {e} {i} x s h q =
      let k : end - i ≡ suc (end - (i + 1)) = omega arith in
      record {
        is =
            s.is ∙ ap (edge_of side f c e i) k ∙ ap (λ (m : ℕ). edge_of side f c m (suc i) (end - (i + 1))) (sym q)
            ∙ ap (λ (m : ℕ). edge_of side f c x m (end - (i + 1))) (sym (add-one i));
      }

  pub edge_end : {lo end e i : ℕ} (to : ℕ) → EdgeSoFar lo end e i → end ≤ i → end ≡ to + 1
      → e ≡ edge_of side f c infinity lo (suc to - lo)
  unfolding edge_of
  edge_end {lo} {end} {e} {i} to s h q =
      let k : end - i ≡ 0 = omega arith in
      let m : end - lo ≡ suc to - lo = omega arith in
      sym (sym (ap (edge_of side f c infinity lo) m) ∙ s.is ∙ ap (edge_of side f c e i) k)
