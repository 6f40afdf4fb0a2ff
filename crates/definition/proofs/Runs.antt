-- What every placing keeps, the builder keeps. Of the segments of a set, a fact on their values and one on their uses is carried along: cuts, turns and conflict
-- pieces have it too. Assumes nothing.
use mathlib.Core.Path.{◌≡◌, refl, subst}
use Prim.Native.Nat.{ℕ, zero, suc, ◌-◌, ◌≤◌, ◌<◌}
use native.Mathlib.Omega.{arith}
use mathlib.Core.Bool.{Bool, true, false}
use mathlib.Core.Option.{Option, none, some}
use mathlib.Core.List.{List, [], ◌∷◌, map}
use lib.ListN.{length, length-append}
use lib.Dec.{ltb}
use borrow.Author.Tests.{ltb-false}
use Rattle.definition.specs.Types.{BlockparamIn, ConstraintConflict, Held, Inst, Job, Piece, RegClass, Room, Segment, State, Turned, Use, Value, ValueSet, done, inst}
use Rattle.definition.specs.RegInfo.{set_of}
use Rattle.definition.specs.Cuts.{left_of, right_of, uses_before, uses_from}
use Rattle.definition.specs.Admit.{fresh, no_use, scan, through}
use Rattle.definition.specs.Place.{place, segs_of, uses_of}
use Rattle.definition.specs.Build.{as_own, build_sets, conflict_piece, runs, turn_in, turned_at, turned_of}
use Rattle.definition.proofs.Cuts.{uses_cut}
use Rattle.definition.proofs.Places.{All, all_append, all_get_d, all_split}
use Rattle.definition.proofs.Builder.{Keeps, all_sets_kept, joined, joined_runs, part_all, set_kept, turn_all}

pub runs_all : {A : Type 0} (P : A → Type 0) (alike : A → A → Bool) (xs : List A) → All P xs → All (All P) (runs alike xs)
runs_all {A} P alike xs h = each (runs alike xs) (rw (joined_runs alike xs) h)
  where
    each : (rs : List (List A)) → All P (joined rs) → All (All P) rs
    each [] k = tt
    each (r ∷ rs) k = let q = all_split P r (joined rs) k in (q.0, each rs q.1)

-- ---- facts on the segments of a set u

module _ (OfValue : ValueSet → Value → Type 0) (OfUse : ValueSet → Use → Type 0) where
  abbrev pub SegOk : ValueSet → Segment → Type 0
  SegOk u s = OfValue u s.value × All (OfUse u) s.uses

  abbrev pub PieceOk : ValueSet → Piece → Type 0
  PieceOk u p = SegOk u p.seg

  abbrev pub TurnedOk : ValueSet → Turned → Type 0
  TurnedOk u t = OfValue u t.value × OfUse u t.use'

  -- the segments of one set, as `build_set` takes them
  abbrev pub RunOk : Job → List Segment → Type 0
  RunOk job [] = Unit {0}
  RunOk job (s ∷ ss) = All (SegOk (set_of job s.value)) (s ∷ ss)

  uses_part : (u : ValueSet) (p : Inst) (us : List Use) → All (OfUse u) us → All (OfUse u) (uses_before p us) × All (OfUse u) (uses_from p us)
  uses_part u p us h = all_split (OfUse u) (uses_before p us) (uses_from p us) (rw uses_cut h)

  module _ (mark : (u : ValueSet) (i : Inst) → OfUse u (record { pos = i; kind = ConstraintConflict })) (param : (u : ValueSet) (i : Inst) (q : ℕ) → OfUse u (record { pos = i; kind = BlockparamIn q })) where
    turn_uses : (u : ValueSet) (n : ℕ) (us : List Use) → All (OfUse u) us → All (OfUse u) (turn_in n us)
    unfolding turn_in
    turn_uses u n [] a = tt
    turn_uses u zero (w ∷ us) a = (mark u w.pos, a.1)
    turn_uses u (suc n) (w ∷ us) a = (a.0, turn_uses u n us a.1)

    turned_ok : (u : ValueSet) (n : ℕ) (ss : List Segment) → n < length (uses_of ss) → All (SegOk u) ss → TurnedOk u (turned_at n ss)
    unfolding turned_at turned_of uses_of
    turned_ok u n [] l a = absurd (omega arith)
    turned_ok u n (s ∷ ss) l a = go (ltb n (length s.uses)) refl (λ k. turned_ok u (n - length s.uses) ss k a.1)
      where
        go : (b : Bool) → ltb n (length s.uses) ≡ b → (n - length s.uses < length (uses_of ss) → TurnedOk u (turned_at (n - length s.uses) ss)) → TurnedOk u (turned_at n (s ∷ ss))
        go true e ih = rw (e, turned_at) (a.0.0, all_get_d (OfUse u) s.uses n no_use a.0.1 (mark u (inst 0)))
        go false e ih =
            let k : length s.uses ≤ n = ltb-false _ _ e in
            rw (e, turned_at) (ih (omega (arith, length-append s.uses (uses_of ss))))

    own_ok : (u : ValueSet) (ss : List Segment) → All (SegOk u) ss → All (PieceOk u) (as_own ss)
    own_ok u [] a = tt
    own_ok u (s ∷ ss) a = (a.0, own_ok u ss a.1)

    taken_ok : (u : ValueSet) (ts : List Turned) → All (TurnedOk u) ts → All (OfUse u) (map (λ t. t.use') ts)
    taken_ok u [] a = tt
    taken_ok u (t ∷ ts) a = (a.0.1, taken_ok u ts a.1)

    conflict_ok : (u : ValueSet) (v : Value) (p : Inst) (o : Option ℕ) (ts : List Turned) → OfValue u v → All (TurnedOk u) ts → PieceOk u (conflict_piece v p o ts)
    unfolding conflict_piece
    conflict_ok u v p none ts k a = (k, taken_ok u ts a)
    conflict_ok u v p (some q) ts k a = (k, (param u p q, taken_ok u ts a))

    -- ---- the induction: Inv is kept by every placing of pieces of set u, whose uses were all admitted

    module _ (job : Job) (room : Room) (Inv : State → Type 0)
        (keeps : (u : ValueSet) (top : RegClass) (h : Held) (new : List Piece) (st st' : State) → Inv st → All (PieceOk u) new
        → scan job st (uses_of (segs_of new)) (fresh top) ≡ through h → place job room u h new st ≡ done st' → Inv st') where
      -- with the facts on what is not placed yet
      abbrev With : ValueSet → State → List Segment → List Turned → Type 0
      With u st ss ts = Inv st × All (SegOk u) ss × All (TurnedOk u) ts

      kept : (u : ValueSet) → Keeps job room u (With u)
      unfolding left_of right_of
      kept u = record {
        part = λ ss l r ts st st' p x i.
            let a = part_all (SegOk u) job.hints
            (λ q s l b. let c = uses_part u q s.uses b.1 in ((b.0, c.0), (b.0, c.1))) p i.1 in
            (keeps u x.top x.held (as_own l) st st' i.0 (own_ok u l a.0) x.admitted x.put, a.1, i.2);
        turned = λ n ss ts st c i.
            (i.0, turn_all (SegOk u) (λ n s b. (b.0, turn_uses u n s.uses b.1)) n ss i.1, all_append (TurnedOk u) ts (turned_at n ss ∷ []) i.2 (turned_ok u n ss c.0 i.1, tt));
        conflict = λ v p o w ws us left more st st' x a y i.
            let b = all_split (TurnedOk u) us more i.2 in
            let c = x.alls (TurnedOk u) b.0 in
            let d = conflict_ok u v p o (w ∷ ws) (subst (OfValue u) a.0 c.0.0.0) c.0 in
            (keeps u y.top y.held (conflict_piece v p o (w ∷ ws) ∷ []) st st' i.0 (d, tt) y.admitted y.put, tt, all_append (TurnedOk u) left more c.1 b.1);
      }

      pub sets_kept : (rest : List (List Segment)) (st st' : State) → Inv st → All (RunOk job) rest → build_sets job room rest st ≡ done st' → Inv st'
      sets_kept rest st st' i a e =
          (all_sets_kept job room (λ st rest. Inv st × All (RunOk job) rest)
          (λ s ss rest st st' j f. ((set_kept job room s ss (With (set_of job s.value)) (kept (set_of job s.value)) st st' (j.0, j.1.0, tt) f).0, j.1.1))
          (λ rest st j. (j.0, j.1.1)) rest st st' (i, a) e).0
