-- A turn and a cut lower the number of class uses that are left, so the count of steps never runs out; and the part before a cut is always admitted.
-- `run` is the builder with no count, and `run_step` its one equation. Assumes nothing.
use mathlib.Core.Path.{◌≡◌, refl, ap, ◌∙◌}
use Prim.Native.Nat.{ℕ, zero, suc, ◌+◌, ◌-◌, ◌*◌, ◌≤◌, ◌<◌}
use native.Mathlib.Nat.{zero-add, suc-add}
use native.Mathlib.Omega.{arith}
use mathlib.Core.Logic.{◌≢◌}
use mathlib.Core.Bool.{Bool, true, false}
use mathlib.Core.List.{List, [], ◌∷◌, ◌++◌}
use lib.ListN.{length, get_or, length-append, get_or-append}
use lib.Seq.{get_or-append-add}
use lib.Dec.{leb, ltb}
use borrow.Author.Tests.{ltb-true, ltb-false, leb-true}
use Rattle.definition.specs.Types.{BlockparamIn, BlockparamOut, ClassDef, ClassUse, ConstraintConflict, FixedDef, FixedUse, GroupClassDef, GroupClassUse, Hint, Inst, Job, Out, RegClass, Room, Segment, State, TiedUse, Turned, Use, UseKind, ValueSet}
use Rattle.definition.specs.Uses.{end_point, end_slot, is_class_use}
use Rattle.definition.specs.Cuts.{left_cut, left_of, right_cut, uses_before}
use Rattle.definition.specs.Admit.{Move, cut, fresh, halt, move, no_use, turn, use_at, whole}
use Rattle.definition.specs.Place.{uses_of}
use Rattle.definition.specs.Build.{Built, class_uses, place_front, step, steps, turn_at, turned_at}
use Rattle.definition.proofs.Cuts.{cut_uses}
use Rattle.definition.proofs.Scans.{Admits, scan_before}
use Rattle.definition.proofs.Counts.{class_uses_append, class_uses_at, class_uses_turn, uses_turn}
use Rattle.definition.proofs.Moves.{CutAt, side_at, move_turn, move_cut, cut_in}
use Rattle.definition.proofs.Places.{All, all_append, all_get_d, bind_cong}
use Rattle.definition.proofs.Fits.{UsesFit, SegsFit, rising, rising_from, rising_le, turn_fit, right_fit}

-- ---- class uses in the part before a cut lie before it

class_slot : (k : UseKind) → is_class_use k ≡ true → 2 ≤ end_slot k
class_slot (FixedDef r) e = omega arith
class_slot (FixedUse r) e = let z : ◌≡◌ {A = ℕ} 0 1 = cc in absurd (omega arith)
class_slot (TiedUse u d c i) e = let z : ◌≡◌ {A = ℕ} 0 1 = cc in absurd (omega arith)
class_slot ConstraintConflict e = let z : ◌≡◌ {A = ℕ} 0 1 = cc in absurd (omega arith)
class_slot (ClassUse s c) e = omega arith
class_slot (ClassDef s c) e = omega arith
class_slot (GroupClassUse s c i) e = omega arith
class_slot (GroupClassDef s c i) e = omega arith
class_slot (BlockparamIn p) e = let z : ◌≡◌ {A = ℕ} 0 1 = cc in absurd (omega arith)
class_slot BlockparamOut e = omega arith

abbrev Below : Inst → List Use → Type 0
Below p us = All (λ u. is_class_use u.kind ≡ true → u.pos.0 < p.0) us

below_at : (p : Inst) (us : List Use) (n : ℕ) → Below p us → is_class_use (use_at us n).kind ≡ true → (use_at us n).pos.0 < p.0
below_at p us n h e = all_get_d (λ u. is_class_use u.kind ≡ true → u.pos.0 < p.0) us n no_use h none_there e
  where
    none_there : is_class_use no_use.kind ≡ true → no_use.pos.0 < p.0
    none_there f = let z : ◌≡◌ {A = ℕ} 0 1 = cc in absurd (omega arith)

ended_below : (p : Inst) (us : List Use) (l a b : ℕ) → UsesFit l a b us → b ≤ 4 * p.0 → Below p us
unfolding end_point
ended_below p [] l a b h k = tt
ended_below p (u ∷ us) l a b h k = (λ e. omega (arith, class_slot u.kind e), ended_below p us u.pos.0 a b h.3 k)

before_below : (p : Inst) (us : List Use) → Below p (uses_before p us)
unfolding uses_before
before_below p [] = tt
before_below p (u ∷ us) = go (ltb u.pos.0 p.0) refl (before_below p us)
  where
    go : (t : Bool) → ltb u.pos.0 p.0 ≡ t → Below p (uses_before p us) → Below p (uses_before p (u ∷ us))
    go true e ih = rw (e, uses_before) (λ _. ltb-true _ _ e, ih)
    go false e ih = rw (e, uses_before) tt

left_below : (hs : List Hint) (p : Inst) (ss : List Segment) (q : ℕ) → SegsFit q ss → Below p (uses_of (left_cut hs p ss))
unfolding left_cut left_of uses_of
left_below hs p [] q h = tt
left_below hs p (s ∷ ss) q h = go (leb s.to.0 (4 * p.0)) (ltb s.«from».0 (4 * p.0)) refl refl (left_below hs p ss s.to.0 h.3)
  where
    go : (a b : Bool) → leb s.to.0 (4 * p.0) ≡ a → ltb s.«from».0 (4 * p.0) ≡ b → Below p (uses_of (left_cut hs p ss)) → Below p (uses_of (left_cut hs p (s ∷ ss)))
    go true b e f ih = rw (e, left_cut) (all_append _ s.uses (uses_of (left_cut hs p ss)) (ended_below p s.uses 0 s.«from».0 s.to.0 h.2 (leb-true _ _ e)) ih)
    go false true e f ih = rw (e, f, left_cut) (all_append _ (uses_before p s.uses) [] (before_below p s.uses) tt)
    go false false e f ih = rw (e, f, left_cut) tt

-- ---- a cut parts its start from its end

module _ (job : Job) (st : State) (top : RegClass) (ss : List Segment) (q : ℕ) (p : Inst) (h : SegsFit q ss) (c : CutAt job st top (uses_of ss) p) where
  L : List Use
  L = uses_of (left_cut job.hints p ss)

  R : List Use
  R = uses_of (right_cut job.hints p ss)

  both : L ++ R ≡ uses_of ss
  unfolding L R
  both = cut_uses job.hints p ss

  -- a cut lies behind its start's instruction, and not behind its end's
  pub cut_between : ((use_at (uses_of ss) c.start).pos.0 < p.0) × (p.0 ≤ (use_at (uses_of ss) c.end).pos.0)
  cut_between =
      let a = (use_at (uses_of ss) c.start).pos.0 in
      let b = (use_at (uses_of ss) c.end).pos.0 in
      let le : a ≤ b =
      rising_le (uses_of ss) 0 c.start c.end (rising ss 0 q h (omega arith)) c.clash.order
      c.clash.end.0 in
      let ne : a ≢ b = c.apart in
      rw c.place (cut_in (side_at job st top (uses_of ss) c.end) job.blocks a b (omega arith))

  total : length (uses_of ss) ≡ length L + length R
  total = rw (← both) (length-append L R)

  start_left : c.start < length L
  unfolding R
  start_left = go (ltb c.start (length L)) refl
    where
      go : (t : Bool) → ltb c.start (length L) ≡ t → c.start < length L
      go true e = ltb-true _ _ e
      go false e =
          let k : length L ≤ c.start = ltb-false _ _ e in
          let n = c.start - length L in
          let m : n < length R = omega (arith, total, c.clash.start.0) in
          let at : use_at (uses_of ss) c.start ≡ use_at R n =
          rw (← both) (ap (λ (i : ℕ). get_or (L ++ R) i no_use) (omega arith) ∙ get_or-append-add L R n no_use) in
          let ge : p.0 ≤ (use_at R n).pos.0 = rising_from R p.0 n (rising (right_cut job.hints p ss) p.0 (4 * p.0) (right_fit job.hints p ss q h) (omega arith)) m in
          let lt : (use_at R n).pos.0 < p.0 = rw at at cut_between.0 in
          omega arith

  end_right : length L ≤ c.end
  unfolding L
  end_right = go (ltb c.end (length L)) refl
    where
      go : (t : Bool) → ltb c.end (length L) ≡ t → length L ≤ c.end
      go false e = ltb-false _ _ e
      go true e =
          let k : c.end < length L = ltb-true _ _ e in
          let at : use_at (uses_of ss) c.end ≡ use_at L c.end =
          rw (← both) (get_or-append L R no_use c.end k) in
          let lt : (use_at L c.end).pos.0 < p.0 =
          below_at p L c.end (left_below job.hints p ss q h) (rw at at c.clash.end.1) in
          let ge : p.0 ≤ (use_at L c.end).pos.0 = rw at at cut_between.1 in
          absurd (omega arith)

  -- the part before a cut never conflicts
  pub front_admitted : Admits job st (uses_of (left_cut job.hints p ss)) (fresh top)
  unfolding L
  front_admitted = scan_before job st L R (fresh top) c.end (rw both c.clash.forward) end_right

  -- and a class use less is left behind it
  pub cut_falls : class_uses (uses_of (right_cut job.hints p ss)) < class_uses (uses_of ss)
  unfolding R
  cut_falls =
      let at : use_at (uses_of ss) c.start ≡ use_at L c.start =
      rw (← both) (get_or-append L R no_use c.start start_left) in
      let some' : 0 < class_uses L = class_uses_at L c.start start_left (rw at at c.clash.start.1) in
      let sum : class_uses (uses_of ss) ≡ class_uses L + class_uses R = rw (← both) (class_uses_append L R) in
      omega arith

-- ---- a turn

pub turn_falls : (job : Job) (st : State) (top : RegClass) (ss : List Segment) (n : ℕ) → move job st top (uses_of ss) ≡ turn n → suc (class_uses (uses_of (turn_at n ss))) ≡ class_uses (uses_of ss)
turn_falls job st top ss n m =
    let c = move_turn job st top (uses_of ss) n m in
    rw uses_turn (class_uses_turn (uses_of ss) n c.0 c.1)

-- ---- the count of steps

module _ (job : Job) (room : Room) (set' : ValueSet) (top : RegClass) where
  -- with more steps than class uses, one step more changes nothing
  pub steps_more : (f : ℕ) (st : State) (ss : List Segment) (ts : List Turned) (q : ℕ) → SegsFit q ss → class_uses (uses_of ss) < f
      → steps (suc f) job room set' top st ss ts ≡ steps f job room set' top st ss ts
  unfolding steps
  steps_more zero st ss ts q h k = absurd (omega arith)
  steps_more (suc f) st ss ts q h k = go (move job st top (uses_of ss)) refl (λ st' ss' ts' q' h' k'. steps_more f st' ss' ts' q' h' k')
    where
      go : (m : Move) → move job st top (uses_of ss) ≡ m
          → ((st' : State) (ss' : List Segment) (ts' : List Turned) (q' : ℕ) → SegsFit q' ss' → class_uses (uses_of ss') < f
          → steps (suc f) job room set' top st' ss' ts' ≡ steps f job room set' top st' ss' ts')
          → step job room set' top st ss ts (λ st' ss' ts'. steps (suc f) job room set' top st' ss' ts') m
          ≡ step job room set' top st ss ts (λ st' ss' ts'. steps f job room set' top st' ss' ts') m
      go (whole g) m ih = refl
      go (turn n) m ih = ih st (turn_at n ss) (ts ++ (turned_at n ss ∷ [])) q (turn_fit ss n q h) (omega (arith, turn_falls job st top ss n m))
      go (cut p) m ih =
          let c = move_cut job st top (uses_of ss) p m in
          bind_cong (place_front job room set' top (left_cut job.hints p ss) st) _ _ λ st'.
          ih st' (right_cut job.hints p ss) ts (4 * p.0) (right_fit job.hints p ss q h) (omega (arith, cut_falls job st top ss q p h c))
      go (halt s) m ih = refl

  -- so the count that `build_set` gives is enough
  pub steps_enough : (n : ℕ) (st : State) (ss : List Segment) (ts : List Turned) (q : ℕ) → SegsFit q ss
      → steps (n + suc (class_uses (uses_of ss))) job room set' top st ss ts ≡ steps (suc (class_uses (uses_of ss))) job room set' top st ss ts
  steps_enough zero st ss ts q h = rw zero-add
  steps_enough (suc n) st ss ts q h =
      rw suc-add (steps_more (n + suc (class_uses (uses_of ss))) st ss ts q h (omega arith) ∙ steps_enough n st ss ts q h)

  -- any count above the class uses gives the same
  pub steps_same : (f : ℕ) (st : State) (ss : List Segment) (ts : List Turned) (q : ℕ) → SegsFit q ss → class_uses (uses_of ss) < f
      → steps f job room set' top st ss ts ≡ steps (suc (class_uses (uses_of ss))) job room set' top st ss ts
  steps_same f st ss ts q h k =
      let n = f - suc (class_uses (uses_of ss)) in
      let e : f ≡ n + suc (class_uses (uses_of ss)) = omega arith in
      ap (λ (m : ℕ). steps m job room set' top st ss ts) e ∙ steps_enough n st ss ts q h

  -- the builder with no count: what a recursion whose class uses fall computes
  unfoldable pub run : State → List Segment → List Turned → Out Built
  run st ss ts = steps (suc (class_uses (uses_of ss))) job room set' top st ss ts

  -- its one equation, for code to be proved against
  pub run_step : (st : State) (ss : List Segment) (ts : List Turned) (q : ℕ) → SegsFit q ss
      → run st ss ts ≡ step job room set' top st ss ts run (move job st top (uses_of ss))
  unfolding run steps
  run_step st ss ts q h = go (move job st top (uses_of ss)) refl
    where
      go : (m : Move) → move job st top (uses_of ss) ≡ m
          → step job room set' top st ss ts (λ st' ss' ts'. steps (class_uses (uses_of ss)) job room set' top st' ss' ts') m
          ≡ step job room set' top st ss ts run m
      go (whole g) m = refl
      go (turn n) m = steps_same (class_uses (uses_of ss)) st (turn_at n ss) (ts ++ (turned_at n ss ∷ [])) q (turn_fit ss n q h) (omega (arith, turn_falls job st top ss n m))
      go (cut p) m =
          let c = move_cut job st top (uses_of ss) p m in
          bind_cong (place_front job room set' top (left_cut job.hints p ss) st) _ _ λ st'.
          steps_same (class_uses (uses_of ss)) st' (right_cut job.hints p ss) ts (4 * p.0) (right_fit job.hints p ss q h) (cut_falls job st top ss q p h c)
      go (halt s) m = refl
