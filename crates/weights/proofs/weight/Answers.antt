use mathlib.Core.Path.{◌≡◌, refl, ap}
use mathlib.Core.Logic.{⊎_elim}
use mathlib.Core.Bool.{Bool, false, not, ◌&&◌}
use lib.Dec.{leb}
use lib.Ieee.{of_bits}
use borrow.Author.Tests.{le-leb, lt-leb}
use Rattle.weights.proofs.Costs.{and_no, is_infinite, is_finite}
use Rattle.weights.proofs.weight.Goals as goal

pub returns-then-not-spillslots : goal.returns-then-not-spillslots
unfolding of_bits
returns-then-not-spillslots c = let a = c.args in
    is_infinite a.sum.value a.insts a.k a.spillslots (simp (le-leb _ _ c.if-few.true, c.if-not-spillslots.true)) (refl, tt)

pub returns-else-few : goal.returns-else-few
returns-else-few c = let a = c.args in
    let t : leb a.insts 1 && not a.spillslots ≡ false =
    ⊎_elim (λ w. and_no (leb a.insts 1) (not a.spillslots) (ap not w.1)) (λ w. ap (λ (b : Bool). b && not a.spillslots) (lt-leb a.insts 1 w)) c.else-few.either in
    is_finite a.sum.value a.insts a.k a.spillslots t c.normalize.ensures c.normalize.result.plain
