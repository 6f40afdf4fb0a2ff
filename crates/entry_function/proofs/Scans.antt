-- What two tests, a test over a table and a list of tests say of each, where all pass. Assumes nothing.
use Prim.Native.Nat.{ℕ, zero, suc, ◌+◌, ◌<◌}
use native.Mathlib.Omega.{arith}
use mathlib.Core.Path.{◌≡◌}
use mathlib.Core.Bool.{Bool, true}
use mathlib.Core.List.{List, [], ◌∷◌}
use lib.ListN.{length, get_or}
use Rattle.words.specs.Tab.{tab}
use Rattle.definition.specs.Entry.{conj, every}
use Rattle.definition.proofs.Entries.{and_both}

-- a test that all pass is passed by each
pub each_at : {A : Type 0} (f : A → Bool) (g : ℕ → A) (i n k : ℕ) → every f (tab g i n) ≡ true → k < n → f (g (i + k)) ≡ true
unfolding every
each_at f g i zero k e h = absurd (omega arith)
each_at f g i (suc n) zero e h = let z : i + 0 ≡ i = omega arith in rw z (and_both _ _ e).0
each_at f g i (suc n) (suc k) e h =
    let z : i + suc k ≡ i + 1 + k = omega arith in
    rw z (each_at f g (i + 1) n k (and_both (f (g i)) (every f (tab g (i + 1) n)) e).1 (omega arith))

-- the same of a list of answers
pub conj_at : (ts : List Bool) (k : ℕ) → conj ts ≡ true → k < length ts → get_or ts k true ≡ true
unfolding conj
conj_at [] k e h = absurd (omega arith)
conj_at (t ∷ ts) zero e h = (and_both t (conj ts) e).0
conj_at (t ∷ ts) (suc k) e h = conj_at ts k (and_both t (conj ts) e).1 (omega arith)
