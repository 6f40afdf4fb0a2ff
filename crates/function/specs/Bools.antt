-- Conjunctions of tests. Assumes nothing.
use Rattle.std.specs.Prelude.{ℕ, ◌≡◌, refl, Bool, true, false, ◌&&◌}
use Rattle.std.proofs.Common.{arith, sym}

pub clash : {A : Type 0} → true ≡ false → A
clash e = absurd (let z : ◌≡◌ {A = ℕ} 0 1 = cc in omega arith)

pub and_l : (p q : Bool) → p && q ≡ true → p ≡ true
and_l true q e = refl
and_l false q e = e

pub and_r : (p q : Bool) → p && q ≡ true → q ≡ true
and_r true q e = e
and_r false q e = clash (sym e)

pub both : (p q : Bool) → p ≡ true → q ≡ true → p && q ≡ true
both true q e f = f
both false q e f = e

pub not_l : (p q : Bool) → p ≡ false → p && q ≡ false
not_l true q e = clash e
not_l false q e = refl

pub not_r : (p q : Bool) → q ≡ false → p && q ≡ false
not_r true q e = e
not_r false q e = refl
