-- A round over turned uses: those that are taken scan through to what is held; and placing them keeps what a state is. Assumes nothing.
use Rattle.std.specs.Prelude.{◌≡◌}
use Rattle.std.proofs.Math.Path.{refl}
use Prim.Native.Nat.{ℕ, zero, suc}
use Rattle.std.proofs.Math.Option.{Option, none, some}
use mathlib.Core.List.{List, [], ◌∷◌, ◌++◌}
use Rattle.definition.specs.declared.Inst.{Inst}
use Rattle.definition.specs.declared.RegClass.{RegClass}
use Rattle.definition.specs.declared.Use.{Use}
use Rattle.definition.specs.declared.Value.{Value}
use Rattle.definition.specs.declared.ValueSet.{ValueSet}
use Rattle.definition.specs.Types.{Job, Room, State, Held, Turned, done}
use Rattle.definition.specs.Admit.{admit, scan, through, fresh}
use Rattle.definition.specs.Place.{place, segs_of, uses_of}
use Rattle.definition.specs.Build.{Round, conflict_piece, last_first, opening, try, uses_turned}
use Rattle.definition.proofs.Places.{All, all_append, all_first}
use Rattle.definition.proofs.Scans.{scan_snoc}
use Rattle.definition.proofs.Builder.{conflict_scan, uses_snoc}
use Rattle.definition.proofs.Classes.{Masks}
use Rattle.definition.proofs.Admission.{UseFits, Sizes}
use Rattle.placing.specs.EndEnds.{Sane}
use Rattle.steps.specs.Fits.{StateFits}
use Rattle.steps.specs.Placing.{placing_state}

pub all_uses : (P : Use → Type 0) (ts : List Turned) → All (λ t. P t.use') ts → All P (uses_turned ts)
all_uses P [] a = tt
all_uses P (t ∷ ts) a = (a.0, all_uses P ts a.1)

-- ---- what a round takes and leaves

module _ (J : Job) (st : State) (h₀ : Held) (P : Turned → Type 0) where
  abbrev Picked : List Turned → List Turned → List Turned → Round → Type 0
  Picked taken us left r = (scan J st (uses_turned r.taken) h₀ ≡ through r.held) × (All P taken → All P us → All P left → All P r.taken × All P r.left)

  picked : (n : ℕ) (h : Held) (taken us left : List Turned) → scan J st (uses_turned taken) h₀ ≡ through h → Picked taken us left (try n J st h taken us left)
  unfolding try
  picked zero h taken us left e = (e, λ a b c. (a, c))
  picked (suc n) h taken [] left e = (e, λ a b c. (a, c))
  picked (suc n) h taken (t ∷ us) left e = go (admit J st h t.use') refl (λ g d. picked n g (taken ++ (t ∷ [])) us left d) (picked n h taken (last_first us) (t ∷ left) e)
    where
      go : (r : Option Held) → admit J st h t.use' ≡ r
          → ((g : Held) → scan J st (uses_turned (taken ++ (t ∷ []))) h₀ ≡ through g → Picked (taken ++ (t ∷ [])) us left (try n J st g (taken ++ (t ∷ [])) us left))
          → Picked taken (last_first us) (t ∷ left) (try n J st h taken (last_first us) (t ∷ left)) → Picked taken (t ∷ us) left (try (suc n) J st h taken (t ∷ us) left)
      go none a y k = rw (a, try) (k.0, λ x z w. k.1 x (all_first P us z.1) (z.0, w))
      go (some g) a y k =
          let q = y g (rw (uses_snoc taken t) (scan_snoc J st (uses_turned taken) t.use' h₀ h g e a)) in
          rw (a, try) (q.0, λ x z w. q.1 (all_append P taken (t ∷ []) x (z.0, tt)) z.1 w)

-- those that are taken scan through, from the top class
pub try_scan : (J : Job) (st : State) (top : RegClass) (n : ℕ) (us : List Turned) → scan J st (uses_turned (try n J st (fresh top) [] us []).taken) (fresh top) ≡ through (try n J st (fresh top) [] us []).held
unfolding scan
try_scan J st top n us = (picked J st (fresh top) (λ _. Unit {0}) n (fresh top) [] us [] refl).0

-- what is so for each is so for those that are taken and those that are left
pub try_all : (P : Turned → Type 0) (J : Job) (st : State) (top : RegClass) (n : ℕ) (us : List Turned) → All P us → All P (try n J st (fresh top) [] us []).taken × All P (try n J st (fresh top) [] us []).left
unfolding scan
try_all P J st top n us a = (picked J st (fresh top) P n (fresh top) [] us [] refl).1 tt a tt

-- ---- the piece that they become

opening_fits : (J : Job) (p : Inst) (o : Option ℕ) → All (UseFits J) (opening p o)
opening_fits J p none = tt
opening_fits J p (some q) = (tt, tt)

conflict_uses : (J : Job) (v : Value) (p : Inst) (o : Option ℕ) (ts : List Turned) → All (UseFits J) (uses_turned ts) → All (UseFits J) (uses_of (segs_of (conflict_piece v p o ts ∷ [])))
unfolding uses_of conflict_piece
conflict_uses J v p o ts a = all_append (UseFits J) (opening p o ++ uses_turned ts) [] (all_append (UseFits J) (opening p o) (uses_turned ts) (opening_fits J p o) a) tt

-- a conflict piece is placed
pub conflict_fits : (J : Job) → Masks J → Sizes J → (room : Room) (u : ValueSet) (top : RegClass) (h : Held) (v : Value) (p : Inst) (o : Option ℕ) (ts : List Turned) (st st' : State)
    → scan J st (uses_turned ts) (fresh top) ≡ through h → All (UseFits J) (uses_turned ts) → place J room u h (conflict_piece v p o ts ∷ []) st ≡ done st' → StateFits J st → Sane J st' → StateFits J st'
conflict_fits J ms sz room u top h v p o ts st st' e kf q f s =
    placing_state J ms sz room u (conflict_piece v p o ts ∷ []) st st' (conflict_uses J v p o ts kf) (record { top = top; held = h; admitted = conflict_scan J st v p o ts (fresh top) h e; put = q }) f s
