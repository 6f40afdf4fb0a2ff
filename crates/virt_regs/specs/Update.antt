-- One register of a list changed. Assumes nothing.
use Rattle.std.specs.Prelude.{◌≡◌, refl, List, [], ◌∷◌, ◌++◌, ℕ, zero, suc, ◌<◌, length, get_or, take, drop}
use Rattle.std.proofs.Common.{ap, arith}
use Rattle.definition.specs.Types.{Register}
use Rattle.definition.specs.Place.{update}
use Rattle.virt_regs.specs.Each.{Each}

pub update_split : (f : Register → Register) (v : ℕ) (rs : List Register) (d : Register) → v < length rs
    → update f v rs ≡ take v rs ++ (f (get_or rs v d) ∷ drop (suc v) rs)
unfolding update
update_split f v [] d h = absurd (omega arith)
update_split f zero (r ∷ rs) d h = refl
update_split f (suc v) (r ∷ rs) d h = ap (λ (l : List Register). r ∷ l) (update_split f v rs d (omega arith))

pub length_update : (f : Register → Register) (v : ℕ) (rs : List Register) → length (update f v rs) ≡ length rs
unfolding update
length_update f v [] = refl
length_update f zero (r ∷ rs) = refl
length_update f (suc v) (r ∷ rs) = ap suc (length_update f v rs)

pub each_update : (P : Register → Type 0) (f : Register → Register) → ((r : Register) → P r → P (f r)) → (v : ℕ) (rs : List Register) → Each P rs → Each P (update f v rs)
unfolding update Each
each_update P f p v [] e = tt
each_update P f p zero (r ∷ rs) e = (p r e.0, e.1)
each_update P f p (suc v) (r ∷ rs) e = (e.0, each_update P f p v rs e.1)
