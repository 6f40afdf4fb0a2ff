-- The order of floats that are finite and not negative. Assumes nothing.
use Prim.Native.Nat.{◌*◌, ◌≤◌}
use native.Mathlib.Nat.{le_refl, le_of_lt}
use mathlib.Core.Path.{◌≡◌, refl, sym, ◌∙◌}
use mathlib.Core.Bool.{Bool, true, false}
use lib.Dec.{ltb}
use lib.Ieee.{Float, nan, inf, fin, lt}
use lib.Ieee.Positive.{num, den, den_pos, through}
use borrow.Author.Tests.{ltb-true, ltb-false, le-ltb}
use Rattle.definition.specs.Entry.{plain}
use Rattle.function.specs.Bools.{clash}

no_clash : {A : Type 0} → false ≡ true → A
no_clash e = clash (sym e)

lt_cross : (x y : Float) → plain x ≡ true → plain y ≡ true → lt x y ≡ ltb (num x * den y) (num y * den x)
unfolding lt
lt_cross nan y p q = no_clash p
lt_cross (inf s) y p q = no_clash p
lt_cross (fin true m e) y p q = no_clash p
lt_cross (fin false m e) nan p q = no_clash q
lt_cross (fin false m e) (inf t) p q = no_clash q
lt_cross (fin false m e) (fin true n d) p q = no_clash q
lt_cross (fin false m e) (fin false n d) p q = refl

module _ (x y : Float) (p : plain x ≡ true) (q : plain y ≡ true) where
  not_below : lt y x ≡ false → num x * den y ≤ num y * den x
  not_below h = ltb-false (num y * den x) (num x * den y) (sym (lt_cross y x q p) ∙ h)

  at_least : num x * den y ≤ num y * den x → lt y x ≡ false
  at_least h = lt_cross y x q p ∙ le-ltb (num y * den x) (num x * den y) h

  -- what is lower is not higher
  pub lower_not_higher : lt x y ≡ true → lt y x ≡ false
  lower_not_higher h = at_least (le_of_lt (ltb-true (num x * den y) (num y * den x) (sym (lt_cross x y p q) ∙ h)))

pub not_below_itself : (x : Float) → plain x ≡ true → lt x x ≡ false
not_below_itself x p = at_least x x p p (le_refl _)

module _ (x y z : Float) (p : plain x ≡ true) (q : plain y ≡ true) (r : plain z ≡ true) where
  -- x up to y, y up to z
  pub up_to : lt y x ≡ false → lt z y ≡ false → lt z x ≡ false
  up_to h k = at_least x z p r (through (num x) (num y) (num z) (den x) (den y) (den z) (den_pos y) (not_below x y p q h) (not_below y z q r k))

-- x below y, y up to z; and x up to y, y below z
pub below_up_to : (x y z : Float) → plain x ≡ true → plain y ≡ true → plain z ≡ true → lt x y ≡ true → lt z y ≡ false → lt x z ≡ true
below_up_to x y z p q r h k = go (lt x z) refl
  where
    go : (t : Bool) → lt x z ≡ t → lt x z ≡ true
    go true e = e
    go false e = clash (sym h ∙ up_to y z x q r p k e)

pub up_to_below : (x y z : Float) → plain x ≡ true → plain y ≡ true → plain z ≡ true → lt y x ≡ false → lt y z ≡ true → lt x z ≡ true
up_to_below x y z p q r h k = go (lt x z) refl
  where
    go : (t : Bool) → lt x z ≡ t → lt x z ≡ true
    go true e = e
    go false e = clash (sym k ∙ up_to z x y r p q e h)
