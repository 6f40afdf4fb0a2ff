-- A try and a round lower the number of turned uses that are left, so their counts never run out. `try_step` and `rounds_step` are their equations with no count.
-- Assumes nothing.
use mathlib.Core.Path.{◌≡◌, refl, sym, ap, ◌∙◌}
use Prim.Native.Nat.{ℕ, zero, suc, ◌+◌, ◌-◌, ◌≤◌}
use native.Mathlib.Nat.{zero-add, suc-add}
use native.Mathlib.Omega.{arith}
use mathlib.Core.Option.{Option, none, some}
use mathlib.Core.List.{List, [], ◌∷◌, ◌++◌}
use lib.ListN.{length}
use Rattle.definition.specs.Types.{Held, Job, Out, RegClass, Room, State, Turned, ValueSet}
use Rattle.definition.specs.Admit.{admit, fresh}
use Rattle.definition.specs.Place.{place}
use Rattle.definition.specs.Build.{Round, conflict_piece, last_first, place_round, rounds, try}
use Rattle.definition.proofs.Places.{bind_cong}
use Rattle.definition.proofs.Builder.{first_length, try_length}

-- ---- tries

module _ (job : Job) (st : State) where
  -- with as many tries as untried uses, one try more changes nothing
  pub try_more : (n : ℕ) (h : Held) (taken us left : List Turned) → length us ≤ n → try (suc n) job st h taken us left ≡ try n job st h taken us left
  unfolding try
  try_more zero h taken [] left l = refl
  try_more zero h taken (t ∷ us) left l = absurd (omega arith)
  try_more (suc n) h taken [] left l = refl
  try_more (suc n) h taken (t ∷ us) left l =
      go (admit job st h t.use') (λ g. try_more n g (taken ++ (t ∷ [])) us left (omega arith))
      (try_more n h taken (last_first us) (t ∷ left) (omega (arith, first_length us)))
    where
      tried : ℕ → Option Held → Round
      tried m r = elim r [ some g ↦ try m job st g (taken ++ (t ∷ [])) us left | none ↦ try m job st h taken (last_first us) (t ∷ left) ]

      go : (r : Option Held) → ((g : Held) → try (suc n) job st g (taken ++ (t ∷ [])) us left ≡ try n job st g (taken ++ (t ∷ [])) us left)
          → try (suc n) job st h taken (last_first us) (t ∷ left) ≡ try n job st h taken (last_first us) (t ∷ left)
          → tried (suc n) r ≡ tried n r
      go none y k = k
      go (some g) y k = y g

  -- what follows on a use that is admitted or not, with as many tries as are left then
  abbrev pub try_on : Held → List Turned → Turned → List Turned → List Turned → Option Held → Round
  try_on h taken t us left none = try (length (last_first us)) job st h taken (last_first us) (t ∷ left)
  try_on h taken t us left (some g) = try (length us) job st g (taken ++ (t ∷ [])) us left

  -- so the clause for no try left meets no untried use
  pub try_step : (h : Held) (taken : List Turned) (t : Turned) (us left : List Turned)
      → try (length (t ∷ us)) job st h taken (t ∷ us) left ≡ try_on h taken t us left (admit job st h t.use')
  unfolding try
  try_step h taken t us left = go (admit job st h t.use') refl
    where
      go : (r : Option Held) → admit job st h t.use' ≡ r → try (suc (length us)) job st h taken (t ∷ us) left ≡ try_on h taken t us left r
      go none e = rw (e, try) (ap (λ (n : ℕ). try n job st h taken (last_first us) (t ∷ left)) (sym (first_length us)))
      go (some g) e = rw (e, try) refl

-- ---- rounds

module _ (job : Job) (room : Room) (set' : ValueSet) (top : RegClass) (t : Turned) where
  -- the round over uses us
  abbrev round_of : State → List Turned → Round
  round_of st us = try (length us) job st (fresh top) [] us []

  -- two ways to go on that agree where fewer uses are left
  go_on : (st : State) (n : ℕ) (r : Round) (taken : List Turned) (k k' : State → List Turned → Out State) → length taken + length r.left ≤ suc n
      → ((st' : State) → length r.left ≤ n → k st' r.left ≡ k' st' r.left) → place_round job room set' t st r taken k ≡ place_round job room set' t st r taken k'
  unfolding place_round
  go_on st n r [] k k' l e = refl
  go_on st n r (u ∷ us) k k' l e =
      bind_cong (place job room set' r.held (conflict_piece t.value t.use'.pos t.param (u ∷ us) ∷ []) st) _ _ λ st'. e st' (omega arith)

  -- with as many rounds as uses left, one round more changes nothing
  pub rounds_more : (f : ℕ) (st : State) (us : List Turned) → length us ≤ f → rounds (suc f) job room set' top t st us ≡ rounds f job room set' top t st us
  unfolding rounds
  rounds_more zero st [] l = refl
  rounds_more zero st (u ∷ us) l = absurd (omega arith)
  rounds_more (suc f) st [] l = refl
  rounds_more (suc f) st (u ∷ us) l =
      go_on st f (round_of st (u ∷ us)) (round_of st (u ∷ us)).taken _ _ (omega (arith, try_length job st top (u ∷ us))) λ st' m. rounds_more f st' (round_of st (u ∷ us)).left m

  rounds_add : (n : ℕ) (st : State) (us : List Turned) → rounds (n + length us) job room set' top t st us ≡ rounds (length us) job room set' top t st us
  rounds_add zero st us = rw zero-add
  rounds_add (suc n) st us = rw suc-add (rounds_more (n + length us) st us (omega arith) ∙ rounds_add n st us)

  -- so the count that `at_inst` gives is enough: any count from the number of uses on gives the same
  pub rounds_same : (f : ℕ) (st : State) (us : List Turned) → length us ≤ f → rounds f job room set' top t st us ≡ rounds (length us) job room set' top t st us
  rounds_same f st us l =
      let n = f - length us in
      let e : f ≡ n + length us = omega arith in
      ap (λ (m : ℕ). rounds m job room set' top t st us) e ∙ rounds_add n st us

  -- every round is made with as many as are left then: the clause for uses left and no round never answers
  pub rounds_step : (st : State) (u : Turned) (us : List Turned)
      → rounds (length (u ∷ us)) job room set' top t st (u ∷ us)
      ≡ place_round job room set' t st (round_of st (u ∷ us)) (round_of st (u ∷ us)).taken (λ st' left. rounds (length left) job room set' top t st' left)
  unfolding rounds
  rounds_step st u us =
      go_on st (length us) (round_of st (u ∷ us)) (round_of st (u ∷ us)).taken _ _ (omega (arith, try_length job st top (u ∷ us)))
      λ st' m. rounds_same (length us) st' (round_of st (u ∷ us)).left m
