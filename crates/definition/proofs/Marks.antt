-- Marks place by place: how often a use is marked where the input uses and those of the own pieces are laid side by side. Assumes nothing.
use mathlib.Core.Path.{◌≡◌, refl, subst}
use mathlib.Core.Logic.{◌⊎◌, inl, inr}
use Prim.Native.Nat.{ℕ, ◌+◌}
use native.Mathlib.Omega.{arith}
use mathlib.Core.Bool.{Bool, true, false, cond, ◌&&◌}
use mathlib.Core.List.{List, [], ◌∷◌}
use lib.Dec.{eqb}
use Rattle.definition.specs.Types.{Value, UseKind, Use, Segment}
use Rattle.definition.specs.Uses.{is_class_use}
use Rattle.definition.specs.Place.{total}
use Rattle.definition.specs.Build.{one, turned_use}
use Rattle.definition.specs.Promised.{Listed, StandsFor, had, is_mark, marked_for, same_use, under, valued}
use Rattle.definition.proofs.Places.{total_append}
use Rattle.definition.proofs.Same.{class_test, mark_is, same_use_lem}

module _ (v : Value) (w : Use) where
  abbrev is_it : Value × Use → ℕ
  is_it x = one (eqb x.0.0 v.0 && same_use w x.1)

  under_had : (u : Value) (us : List Use) → total is_it (under u us) ≡ cond (eqb u.0 v.0) (total (λ x. one (same_use w x)) us) 0
  unfolding total
  under_had u [] = go (eqb u.0 v.0)
    where
      go : (b : Bool) → ◌≡◌ {A = ℕ} 0 (cond b 0 0)
      go true = refl
      go false = refl
  under_had u (x ∷ us) = go (eqb u.0 v.0) (total is_it (under u us)) (under_had u us)
    where
      go : (b : Bool) (n : ℕ) → n ≡ cond b (total (λ y. one (same_use w y)) us) 0 → one (b && same_use w x) + n ≡ cond b (one (same_use w x) + total (λ y. one (same_use w y)) us) 0
      go true n e = omega arith
      go false n e = omega arith

  pub valued_had : (ss : List Segment) → total is_it (valued ss) ≡ had v w ss
  unfolding valued had total
  valued_had [] = refl
  valued_had (s ∷ ss) = omega (arith, total_append is_it (under s.value s.uses) (valued ss), under_had s.value s.uses, valued_had ss)

  module _ (c : is_class_use w.kind ≡ true) where
    no_mark : (u : Use) → same_use w u ≡ true → is_mark u.kind ≡ false
    no_mark u e = go (is_mark u.kind) refl
      where
        go : (b : Bool) → is_mark u.kind ≡ b → b ≡ false
        go true m =
            let q : is_class_use u.kind ≡ true = subst (λ (x : Use). is_class_use x.kind ≡ true) (same_use_lem w u e) c in
            let r : false ≡ true = subst (λ (k : UseKind). is_class_use k ≡ true) (mark_is u.kind m) q in
            let z : ◌≡◌ {A = ℕ} 0 1 = cc in absurd (omega arith)
        go false m = refl

    place_marked : (x y : Value × Use) → StandsFor x y → is_it x ≡ is_it y + one (eqb x.0.0 v.0 && same_use w x.1 && is_mark y.1.kind)
    place_marked x y s = by s.1
      where
        as_it_was : (a b m : Bool) → (b ≡ true → m ≡ false) → one (a && b) ≡ one (a && b) + one (a && b && m)
        as_it_was true true true f = let q = f refl in let z : ◌≡◌ {A = ℕ} 0 1 = cc in absurd (omega arith)
        as_it_was true true false f = refl
        as_it_was true false m f = refl
        as_it_was false b m f = refl

        turned : (a b : Bool) → one (a && b) ≡ one (a && false) + one (a && b && true)
        turned true true = refl
        turned true false = refl
        turned false b = refl

        by : (y.1 ≡ x.1) ⊎ ((is_class_use x.1.kind ≡ true) × (y.1 ≡ turned_use x.1))
            → is_it x ≡ is_it y + one (eqb x.0.0 v.0 && same_use w x.1 && is_mark y.1.kind)
        by (inl r) = rw (s.0, r) (as_it_was (eqb x.0.0 v.0) (same_use w x.1) (is_mark x.1.kind) (no_mark x.1))
        by (inr r) = rw (s.0, r.1, (class_test w.kind w.pos c).mark x.1) (turned (eqb x.0.0 v.0) (same_use w x.1))

    pub listed_marked : (xs ys : List (Value × Use)) → Listed xs ys → total is_it xs ≡ total is_it ys + marked_for v w xs ys
    unfolding total
    listed_marked [] [] l = refl
    listed_marked [] (y ∷ ys) l = absurd l
    listed_marked (x ∷ xs) [] l = absurd l
    listed_marked (x ∷ xs) (y ∷ ys) l = omega (arith, place_marked x y l.0, listed_marked xs ys l.1)
