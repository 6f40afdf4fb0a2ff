-- What a move says of the uses that it was made from: the use to turn is a class use; start and end of a cut are class uses
-- of two instructions, and a cut lies behind the first and not behind the second. Assumes nothing.
use mathlib.Core.Path.{◌≡◌, refl, ap, ◌∙◌, subst}
use Prim.Native.Nat.{ℕ, zero, suc, ◌-◌, ◌≤◌, ◌<◌}
use native.Mathlib.Omega.{arith}
use mathlib.Core.Bool.{Bool, true, false, cond, ◌&&◌}
use mathlib.Core.Option.{none}
use mathlib.Core.List.{List, [], ◌∷◌, ◌++◌}
use lib.ListN.{length, get_or, take, length-reverse}
use lib.Seq.{get_or-take, length-take-le}
use lib.Dec.{leb, ltb, eqb}
use lib.Ieee.{Float, lt}
use borrow.Author.Tests.{ltb-true, leb-true, eqb-false}
use Rattle.definition.specs.Types.{BlockData, BlockparamIn, BlockparamOut, ClassDef, ClassUse, ConstraintConflict}
use Rattle.definition.specs.Types.{FixedDef, FixedUse, GroupClassDef, GroupClassUse, Held, Inst, Job, RegClass}
use Rattle.definition.specs.Types.{State, Side, Early, Late, TiedUse, TurnedDef, Use, UseKind, inst}
use Rattle.definition.specs.Uses.{is_class_use, is_def}
use Rattle.definition.specs.SplitPlacement.{earliest, latest, late_from, early_cut, late_cut, side_of, freq_at, keep}
use Rattle.definition.specs.SplitPlacement.{starts, ends}
use Rattle.definition.specs.Admit.{Move, Scan, cut_side, back_from, forward_class, end_class, admit}
use Rattle.definition.specs.Admit.{admit_kind, cut, fails_at, fresh, from_end, from_start, halt, move, no_use, parted}
use Rattle.definition.specs.Admit.{scan, through, turn, turning, use_at, whole}
use Rattle.definition.proofs.Scans.{scan_first, scan_later}
use Rattle.definition.proofs.Places.{All, all_append}
use Rattle.definition.proofs.Counts.{get_d_reverse}

-- ---- a scan fails at a class use

kind_none : (job : Job) (st : State) (h : Held) (p : Inst) (k : UseKind) → admit_kind job st h p k ≡ none → is_class_use k ≡ true
unfolding admit_kind
kind_none job st h p (FixedDef r) e = cc
kind_none job st h p (FixedUse r) e = cc
kind_none job st h p (TiedUse u d c i) e = cc
kind_none job st h p ConstraintConflict e = cc
kind_none job st h p (ClassUse s c) e = refl
kind_none job st h p (ClassDef s c) e = refl
kind_none job st h p (GroupClassUse s c i) e = refl
kind_none job st h p (GroupClassDef s c i) e = refl
kind_none job st h p (BlockparamIn q) e = cc
kind_none job st h p BlockparamOut e = cc

abbrev pub ClassAt : List Use → ℕ → Type 0
ClassAt us n = (n < length us) × (is_class_use (use_at us n).kind ≡ true)

module _ (job : Job) (st : State) where
  pub fails_class : (us : List Use) (h : Held) (n : ℕ) → scan job st us h ≡ fails_at n → ClassAt us n
  unfolding scan admit
  fails_class [] h n e = let z : ◌≡◌ {A = ℕ} 0 1 = cc in absurd (omega arith)
  fails_class (u ∷ us) h zero e = (omega arith, kind_none job st h u.pos u.kind (scan_first job st u us h e))
  fails_class (u ∷ us) h (suc n) e =
      let r = scan_later job st u us h n e in
      let q = fails_class us r.0 n r.2 in
      (omega arith, q.1)

-- ---- the place of a cut

abbrev Within : ℕ → ℕ → ℕ → Type 0
Within lo hi x = (lo < x) × (x ≤ hi)

either : (P : ℕ → Type 0) (b : Bool) (x y : ℕ) → P x → P y → P (cond b x y)
either P true x y p q = p
either P false x y p q = q

earliest_in : (price : ℕ → Float) (lo hi c : ℕ) (ds : List ℕ) → Within lo hi c → All (Within lo hi) ds → Within lo hi (earliest price c ds)
unfolding earliest
earliest_in price lo hi c [] h k = h
earliest_in price lo hi c (d ∷ ds) h k = earliest_in price lo hi (cond (lt (price d) (price c)) d c) ds (either (Within lo hi) (lt (price d) (price c)) d c k.0 h) k.1

latest_in : (price : ℕ → Float) (lo hi c : ℕ) (ds : List ℕ) → Within lo hi c → All (Within lo hi) ds
    → Within lo hi (latest price c ds)
unfolding latest
latest_in price lo hi c [] h k = h
latest_in price lo hi c (d ∷ ds) h k =
    latest_in price lo hi (cond (lt (price c) (price d)) c d) ds (either (Within lo hi) (lt (price c) (price d)) c d h k.0) k.1

-- the places kept lie within, where q is at least lo
keep_in : (lo q hi : ℕ) → lo ≤ q → (xs : List ℕ) → All (Within lo hi) (keep (λ i. ltb q i && leb i hi) xs)
unfolding keep
keep_in lo q hi h [] = tt
keep_in lo q hi h (x ∷ xs) = go (ltb q x) (leb x hi) refl refl (keep_in lo q hi h xs)
  where
    go : (a b : Bool) → ltb q x ≡ a → leb x hi ≡ b → All (Within lo hi) (keep (λ i. ltb q i && leb i hi) xs)
        → All (Within lo hi)
        (cond (a && b) (x ∷ keep (λ i. ltb q i && leb i hi) xs) (keep (λ i. ltb q i && leb i hi) xs))
    go true true e f ih =
        let g : q < x = ltb-true _ _ e in
        let r : x ≤ hi = leb-true _ _ f in
        ((omega arith, omega arith), ih)
    go true false e f ih = ih
    go false b e f ih = ih

early_in : (bs : List BlockData) (a b : ℕ) → a < b → Within a b (early_cut bs a b)
unfolding early_cut
early_in bs a b h =
    earliest_in (λ i. freq_at bs i) a b (suc a) (keep (λ i. ltb (suc a) i && leb i b) (starts 0 bs))
    (omega arith, omega arith) (keep_in a (suc a) b (omega arith) (starts 0 bs))

from_in : (price : ℕ → Float) (a b : ℕ) (cs : List ℕ) → a < b → All (Within a b) cs → Within a b (late_from price cs b)
unfolding late_from
from_in price a b [] h k = (omega arith, omega arith)
from_in price a b (c ∷ cs) h k =
    latest_in price a b c (cs ++ (b ∷ [])) k.0
    (all_append (Within a b) cs (b ∷ []) k.1 ((omega arith, omega arith), tt))

late_in : (bs : List BlockData) (a b : ℕ) → a < b → Within a b (late_cut bs a b)
unfolding late_cut
late_in bs a b h =
    from_in (λ i. freq_at bs (i - 1)) a b (keep (λ i. ltb a i && leb i b) (ends 0 bs)) h
    (keep_in a a b (omega arith) (ends 0 bs))

-- a cut of either side lies behind the first instruction and not behind the second
pub cut_in : (side : Side) (bs : List BlockData) (a b : ℕ) → a < b → Within a b (side_of side bs a b)
cut_in Early bs a b h = early_in bs a b h
cut_in Late bs a b h = late_in bs a b h

-- ---- moves

-- the forward scan fails at place e, and the backward one, from there, at place s
pub record Clash (job : Job) (st : State) (top : RegClass) (us : List Use) (s e : ℕ) : Type 0 where
  pub forward : scan job st us (fresh top) ≡ fails_at e
  pub backward : scan job st (back_from e us) (fresh top) ≡ fails_at (e - s)
  pub start : ClassAt us s
  pub end : ClassAt us e
  pub order : s ≤ e

module _ (job : Job) (st : State) (top : RegClass) (us : List Use) where
  -- the backward scan's start is a class use, at or before the end
  start_of : (e j : ℕ) → scan job st us (fresh top) ≡ fails_at e → scan job st (back_from e us) (fresh top) ≡ fails_at j
      → Clash job st top us (e - j) e
  start_of e j f b =
      let c = fails_class job st us (fresh top) e f in
      let d = fails_class job st (back_from e us) (fresh top) j b in
      let l : length (take (suc e) us) ≡ suc e = length-take-le (suc e) us (omega arith) in
      let m : j < length (take (suc e) us) = rw length-reverse at d.0 in
      let q : get_or (back_from e us) j no_use ≡ get_or us (e - j) no_use =
      get_d_reverse (take (suc e) us) j no_use m ∙ ap (λ (i : ℕ). get_or (take (suc e) us) i no_use) (omega arith) ∙ get_or-take (suc e) us (e - j) no_use (omega arith) in
      let z : j ≡ e - (e - j) = omega arith in
      record {
        forward = f;
        backward = b ∙ ap fails_at z;
        start = (omega arith, rw q at d.1);
        end = c;
        order = omega arith;
      }

  -- the instruction of the use at a place
  abbrev pub pos_at : ℕ → ℕ
  pos_at n = (use_at us n).pos.0

  -- the side of a cut whose end is at place e
  abbrev pub side_at : ℕ → Side
  side_at e = cut_side job (forward_class job st top us) (end_class job st top us e)

  -- a cut parts the start that the scans found from the end that they found, at another instruction, by the side of
  -- their classes
  pub record CutAt (p : Inst) : Type 0 where
    pub start : ℕ
    pub end : ℕ
    pub clash : Clash job st top us start end
    pub apart : pos_at start ≡ pos_at end → ⊥
    pub place : p.0 ≡ side_of (side_at end) job.blocks (pos_at start) (pos_at end)

  abbrev Says : Move → Type 0
  Says (whole h) = scan job st us (fresh top) ≡ through h
  Says (turn n) = ClassAt us n
  Says (cut p) = CutAt p
  Says (halt s) = Unit {0}

  turning_says : (n : ℕ) → ClassAt us n → Says (turning us n)
  unfolding turning
  turning_says n c = go (is_def (use_at us n).kind)
    where
      go : (b : Bool) → Says (cond b (halt TurnedDef) (turn n))
      go true = tt
      go false = c

  parted_says : (s e : ℕ) → Clash job st top us s e → Says (parted job (side_at e) us s e)
  unfolding parted
  parted_says s e c = go (eqb (pos_at s) (pos_at e)) refl
    where
      go : (b : Bool) → eqb (pos_at s) (pos_at e) ≡ b
          → Says (cond b (turning us (cond (is_def (use_at us e).kind) s e))
          (cut (inst (side_of (side_at e) job.blocks (pos_at s) (pos_at e)))))
      go true q = turning_says _ (either (ClassAt us) (is_def (use_at us e).kind) s e c.start c.end)
      go false q = record { start = s; end = e; clash = c; apart = eqb-false _ _ q; place = refl }

  start_says : (e : ℕ) → scan job st us (fresh top) ≡ fails_at e → (r : Scan)
      → scan job st (back_from e us) (fresh top) ≡ r → Says (from_start job (side_at e) us e r)
  unfolding from_start
  start_says e a (through h) b = tt
  start_says e a (fails_at j) b = parted_says (e - j) e (start_of e j a b)

  end_says : (r : Scan) → scan job st us (fresh top) ≡ r → Says (from_end job st top us r)
  unfolding from_end
  end_says (through h) a = a
  end_says (fails_at e) a = start_says e a (scan job st (back_from e us) (fresh top)) refl

  move_says : (m : Move) → move job st top us ≡ m → Says m
  unfolding move
  move_says m e = subst Says e (end_says (scan job st us (fresh top)) refl)

  pub move_whole : (h : Held) → move job st top us ≡ whole h → scan job st us (fresh top) ≡ through h
  move_whole h e = move_says (whole h) e

  pub move_turn : (n : ℕ) → move job st top us ≡ turn n → ClassAt us n
  move_turn n e = move_says (turn n) e

  pub move_cut : (p : Inst) → move job st top us ≡ cut p → CutAt p
  move_cut p e = move_says (cut p) e
