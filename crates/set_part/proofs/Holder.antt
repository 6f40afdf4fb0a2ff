-- The walk to the segment that a use belongs to. Assumes nothing.
use mathlib.Core.Path.{◌≡◌, refl}
use mathlib.Core.Bool.{Bool, true, false}
use mathlib.Core.List.{List}
use Prim.Native.Nat.{ℕ, ◌+◌, ◌-◌, ◌*◌, ◌≤◌, ◌<◌}
use native.Mathlib.Omega.{arith}
use lib.Dec.{ltb}
use lib.ListN.{get_or}
use borrow.Author.Tests.{ltb-true, ltb-false}
use Rattle.job.specs.declared.Layout.{Layout}
use Rattle.job.specs.Layout.{seg_row, seg_at}
use Rattle.set_part.specs.declared.SetPart.{SetPart}
use Rattle.set_part.specs.Part.{use_bound}
use Rattle.set_part.proofs.Bounds.{bound_first, bound_inner, bound_end}
use Rattle.set_part.proofs.Walk.{First, one_first, walk_first}
use Rattle.set_part.specs.Turned.{holder_from, holder}

-- the first use behind segment i; the segment table is at word `at`
abbrev pub next_at : List ℕ → ℕ → ℕ → ℕ
next_at W at i = get_or W (at + (i + 1) * 5 + 4) 0

-- use number c belongs to segment k
pub record Within (W : List ℕ) (lay : Layout) (sp : SetPart) (c k : ℕ) : Type 0 where
  pub behind : sp.seg ≤ k
  pub within : k ≤ sp.last
  pub after : use_bound W lay sp k ≤ c
  pub before : c < use_bound W lay sp (k + 1)

module _ (W : List ℕ) (lay : Layout) (sp : SetPart) (c : ℕ) where
  next_bound : (i : ℕ) → sp.seg ≤ i → i < sp.last → use_bound W lay sp (i + 1) ≡ next_at W lay.segments.at i
  unfolding seg_at seg_row
  next_bound i h l = bound_inner W lay sp (i + 1) (omega arith) (omega arith)

  module _ (o : sp.seg ≤ sp.last) where
    walked : First (next_at W lay.segments.at) c sp.seg sp.last (holder W lay sp c)
    unfolding holder holder_from seg_row
    walked = walk_first (next_at W lay.segments.at) c (holder_from W lay.segments.at c) (λ i. refl) (λ i m. refl) sp.seg sp.last o

    pub holder_is : (k : ℕ) → First (next_at W lay.segments.at) c sp.seg sp.last k → k ≡ holder W lay sp c
    holder_is k f = one_first (next_at W lay.segments.at) c sp.seg sp.last k (holder W lay sp c) f walked

    module _ (lo : sp.first ≤ c) (hi : c < sp.end) where
      module _ (k : ℕ) (f : First (next_at W lay.segments.at) c sp.seg sp.last k) where
        from_bound : (t : Bool) → ltb sp.seg k ≡ t → use_bound W lay sp k ≤ c
        from_bound true e =
            let l = ltb-true sp.seg k e in
            let n : k - 1 + 1 ≡ k = omega arith in
            let h : use_bound W lay sp (k - 1 + 1) ≤ c =
            omega (arith, next_bound (k - 1) (omega arith) (omega (arith, f.within)), f.passed.below (k - 1) (omega arith) (omega arith)) in
            rw n at h
        from_bound false e =
            let n : k ≡ sp.seg = omega (arith, ltb-false sp.seg k e, f.behind) in
            rw n (omega (arith, bound_first W lay sp))

        to_bound : (t : Bool) → ltb k sp.last ≡ t → c < use_bound W lay sp (k + 1)
        to_bound true e = let l = ltb-true k sp.last e in omega (arith, next_bound k f.behind l, f.above l)
        to_bound false e = omega (arith, bound_end W lay sp (k + 1) (omega (arith, f.behind)) (omega (arith, ltb-false k sp.last e)))

      pub holder_holds : Within W lay sp c (holder W lay sp c)
      holder_holds =
          let f = walked in
          let k = holder W lay sp c in
          record { behind = f.behind; within = f.within; after = from_bound k f (ltb sp.seg k) refl; before = to_bound k f (ltb k sp.last) refl }
