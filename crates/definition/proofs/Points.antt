-- Whatever a cut parts and a turn keeps is the same in the job and in the own pieces of the result: each value's points; its uses, a mark counted as its class use. Assumes nothing.
use mathlib.Core.Path.{◌≡◌, refl, ap, sym, ◌∙◌}
use Prim.Native.Nat.{ℕ, zero, suc, ◌+◌}
use native.Mathlib.Omega.{arith}
use mathlib.Core.Bool.{Bool, true, false, cond}
use mathlib.Core.List.{List, [], ◌∷◌}
use lib.Dec.{eqb}
use Rattle.definition.specs.Types.{Conflict, Hint, Inst, Job, Own, Piece, Room, Segment, Turned, Use, Value, done}
use Rattle.definition.specs.Uses.{is_class_use}
use Rattle.definition.specs.Cuts.{left_of, right_of, uses_before, uses_from}
use Rattle.definition.specs.Place.{total}
use Rattle.definition.specs.Build.{Result, build, conflict_piece, one, turn_in, turned_use, with_uses}
use Rattle.definition.specs.Promised.{holds}
use Rattle.definition.proofs.Cuts.{PartedBy, point_parted, uses_cut}
use Rattle.definition.proofs.Moves.{ClassAt}
use Rattle.definition.proofs.Places.{counted, total_append}
use Rattle.definition.proofs.Measures.{Measure, measured}

-- what is counted of a segment is parted by a cut, and is the same where a class use is turned
pub record Additive (ν : Segment → ℕ) : Type 0 where
  pub parted : (hs : List Hint) (p : Inst) → PartedBy ν hs p
  pub kept : (n : ℕ) (s : Segment) → ClassAt s.uses n → ν (with_uses (turn_in n s.uses) s) ≡ ν s

-- counted of a piece that is not added
abbrev pub of_own : (Segment → ℕ) → Piece → ℕ
of_own ν p = elim p.origin [ Own ↦ ν p.seg | Conflict ↦ 0 ]

total_none : (ts : List Turned) → total (λ _. 0) ts ≡ 0
unfolding total
total_none [] = refl
total_none (t ∷ ts) = omega (arith, total_none ts)

module _ (ν : Segment → ℕ) where
  own_measure : Additive ν → Measure (of_own ν) (λ _. 0)
  unfolding conflict_piece
  own_measure add = record {
    parted = add.parted;
    turned = λ n s c. omega (arith, add.kept n s c);
    taken = λ v p o ts a. sym (total_none ts);
  }

  -- an accepted job: the same of its segments and of the own pieces of the result
  pub built_same : Additive ν → (job : Job) (room : Room) (res : Result) → build job room ≡ done res → counted (of_own ν) res.registers ≡ total ν job.segments
  built_same add job room res e = measured (of_own ν) (λ _. 0) (own_measure add) job room res e

-- ---- each value's points

pub points_additive : (v : Value) (x : ℕ) → Additive (λ s. one (holds v x s))
points_additive v x = record { parted = point_parted v x; kept = λ n s c. refl }

-- a point of value v stands in own pieces of an accepted job's result exactly as often as in the job
pub points_same : (job : Job) (room : Room) (res : Result) (v : Value) (x : ℕ) → build job room ≡ done res
    → counted (of_own (λ s. one (holds v x s))) res.registers ≡ total (λ s. one (holds v x s)) job.segments
points_same job room res v x e = built_same (λ s. one (holds v x s)) (points_additive v x) job room res e

-- ---- the uses of value v that pass a test

pub cond_sum : (b : Bool) (x y z : ℕ) → x + y ≡ z → cond b x 0 + cond b y 0 ≡ cond b z 0
cond_sum true x y z e = e
cond_sum false x y z e = refl

-- the test sees no difference between a class use and its mark
pub record Steady (P : Use → Bool) : Type 0 where
  pub turned : (u : Use) → is_class_use u.kind ≡ true → P (turned_use u) ≡ P u

module _ (v : Value) (P : Use → Bool) where
  abbrev pub passing : List Use → ℕ
  passing us = total (λ u. one (P u)) us

  abbrev pub own_uses : Segment → ℕ
  own_uses s = cond (eqb s.value.0 v.0) (passing s.uses) 0

  pub uses_parted : (hs : List Hint) (p : Inst) → PartedBy own_uses hs p
  unfolding left_of right_of
  uses_parted hs p s a b =
      cond_sum (eqb s.value.0 v.0) (passing (uses_before p s.uses)) (passing (uses_from p s.uses)) (passing s.uses)
      (sym (total_append (λ u. one (P u)) (uses_before p s.uses) (uses_from p s.uses)) ∙ ap passing (uses_cut p s.uses))

  turn_passing : Steady P → (n : ℕ) (us : List Use) → ClassAt us n → passing (turn_in n us) ≡ passing us
  unfolding total turn_in
  turn_passing st n [] c = absurd (omega arith)
  turn_passing st zero (u ∷ us) c = ap (λ (b : Bool). one b + passing us) (st.turned u c.1)
  turn_passing st (suc n) (u ∷ us) c = ap (λ (x : ℕ). one (P u) + x) (turn_passing st n us (omega arith, c.1))

  uses_additive : Steady P → Additive own_uses
  uses_additive st = record {
    parted = uses_parted;
    kept = λ n s c. ap (λ (x : ℕ). cond (eqb s.value.0 v.0) x 0) (turn_passing st n s.uses c);
  }

  -- a use of value v that passes stands in own pieces of an accepted job's result exactly as often as in the job
  pub own_uses_same : Steady P → (job : Job) (room : Room) (res : Result) → build job room ≡ done res → counted (of_own own_uses) res.registers ≡ total own_uses job.segments
  own_uses_same st job room res e = built_same own_uses (uses_additive st) job room res e
