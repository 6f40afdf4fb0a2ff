-- The walk to the first segment that does not end by a point. Assumes nothing.
use mathlib.Core.Path.{◌≡◌, refl}
use mathlib.Core.Bool.{Bool, true, false}
use mathlib.Core.List.{List}
use Prim.Native.Nat.{ℕ, ◌+◌, ◌*◌, ◌≤◌, ◌<◌}
use native.Mathlib.Omega.{arith}
use lib.Dec.{eqb, ltb}
use lib.ListN.{get_or}
use borrow.Author.Tests.{eq-eqb, ne_eqb, ltb-true, ltb-false}
use Rattle.job.specs.declared.Layout.{Layout}
use Rattle.job.specs.Layout.{seg_row, seg_at}
use Rattle.set_part.specs.declared.SetPart.{SetPart}
use Rattle.set_part.specs.Part.{part_row}
use Rattle.set_part.proofs.Walk.{First, one_first, walk_first}
use Rattle.set_part.specs.Cut.{past_from, first_past}

-- where segment i ends; the segment table is at word `at`
abbrev pub end_at : List ℕ → ℕ → ℕ → ℕ
end_at W at i = get_or W (at + i * 5 + 2) 0

-- segment k is the first that does not end by q
pub record Past (W : List ℕ) (lay : Layout) (sp : SetPart) (q k : ℕ) : Type 0 where
  pub behind : sp.seg ≤ k
  pub within : k ≤ sp.last
  pub ended : (j : ℕ) → sp.seg ≤ j → j < k → (part_row W lay sp j).to.0 ≤ q
  pub past : q < (part_row W lay sp k).to.0

module _ (W : List ℕ) (lay : Layout) (sp : SetPart) (q : ℕ) where
  to_inner : (i : ℕ) → i < sp.last → (part_row W lay sp i).to.0 ≡ end_at W lay.segments.at i
  unfolding part_row seg_at seg_row
  to_inner i h = let n : eqb i sp.last ≡ false = ne_eqb i sp.last (λ e. omega arith) in simp n

  to_last : (part_row W lay sp sp.last).to.0 ≡ sp.to.0
  unfolding part_row
  to_last = simp (eq-eqb sp.last sp.last refl)

  module _ (o : sp.seg ≤ sp.last) where
    walked : First (end_at W lay.segments.at) q sp.seg sp.last (first_past W lay sp q)
    unfolding first_past past_from seg_row
    walked = walk_first (end_at W lay.segments.at) q (past_from W lay.segments.at q) (λ i. refl) (λ i m. refl) sp.seg sp.last o

    pub past_is : (k : ℕ) → First (end_at W lay.segments.at) q sp.seg sp.last k → k ≡ first_past W lay sp q
    past_is k f = one_first (end_at W lay.segments.at) q sp.seg sp.last k (first_past W lay sp q) f walked

    pub past_first : q < sp.to.0 → Past W lay sp q (first_past W lay sp q)
    past_first h =
        let f = walked in
        record {
          behind = f.behind;
          within = f.within;
          ended = λ j a b. omega (arith, to_inner j (omega (arith, b, f.within)), f.passed.below j b a);
          past = at (first_past W lay sp q) f (ltb (first_past W lay sp q) sp.last) refl;
        }
      where
        at : (k : ℕ) → First (end_at W lay.segments.at) q sp.seg sp.last k → (t : Bool) → ltb k sp.last ≡ t → q < (part_row W lay sp k).to.0
        at k f true e = let l = ltb-true k sp.last e in omega (arith, to_inner k l, f.above l)
        at k f false e =
            let n : k ≡ sp.last = omega (arith, ltb-false k sp.last e, f.within) in
            rw n (omega (arith, to_last))
