-- The uses that a scan sees. Assumes nothing.
use mathlib.Core.Path.{◌≡◌, refl, sym, ap, subst, ◌∙◌}
use mathlib.Core.Bool.{Bool, true, false, cond}
use mathlib.Core.Option.{Option}
use mathlib.Core.List.{List}
use Rattle.std.specs.Prelude.{None}
use Prim.Native.Nat.{ℕ, ◌+◌, ◌*◌, ◌<◌}
use native.Mathlib.Omega.{arith}
use lib.Dec.{eqb}
use lib.ListN.{get_or}
use Rattle.definition.specs.declared.Inst.{Inst}
use Rattle.definition.specs.declared.RegClass.{RegClass}
use Rattle.definition.specs.declared.Use.{Use}
use Rattle.definition.specs.Types.{Job, State}
use Rattle.definition.specs.Types as types
use Rattle.definition.specs.Build.{turned_use}
use Rattle.definition.specs.Admit.{admit, fresh}
use Rattle.uses.specs.Rows.{use_row}
use Rattle.job.specs.declared.Layout.{Layout}
use Rattle.constraints.specs.Held.{held_of}
use Rattle.constraints.specs.Ready.{BackedAsk, Backed}
use Rattle.set_part.specs.Part.{marked_use}

-- a conflict asks for no operand
pub backed_turned : (job : Job) (u : Use) → Backed job (turned_use u)
unfolding Backed BackedAsk
backed_turned job u = tt

module _ (K : List ℕ) (marks : ℕ) (W : List ℕ) (lay : Layout) (n : ℕ) where
  -- a mark keeps the instruction
  pub marked_pos : (marked_use K marks W lay n).pos ≡ (use_row W (lay.uses.at + n * 6)).pos
  unfolding marked_use
  marked_pos = go (eqb (get_or K (marks + n) 0) 0)
    where
      go : (b : Bool) → (cond b (use_row W (lay.uses.at + n * 6)) (turned_use (use_row W (lay.uses.at + n * 6)))).pos ≡ (use_row W (lay.uses.at + n * 6)).pos
      go true = refl
      go false = refl

  pub backed_marked : (job : Job) → Backed job (use_row W (lay.uses.at + n * 6)) → Backed job (marked_use K marks W lay n)
  unfolding marked_use
  backed_marked job h = go (eqb (get_or K (marks + n) 0) 0)
    where
      go : (b : Bool) → Backed job (cond b (use_row W (lay.uses.at + n * 6)) (turned_use (use_row W (lay.uses.at + n * 6))))
      go true = h
      go false = backed_turned job (use_row W (lay.uses.at + n * 6))

pub fresh_is : (top : RegClass) → held_of (record { class = top; group = None; target = None }) ≡ fresh top
unfolding held_of fresh
fresh_is top = refl

-- the admission of the use that is read
pub admit_marked : (K : List ℕ) (marks : ℕ) (W : List ℕ) (lay : Layout) (n : ℕ) (job : Job) (st : State) (h : types.Held) (o : Option types.Held) (u : Use)
    → u ≡ marked_use K marks W lay n → Backed job (use_row W (lay.uses.at + n * 6)) → (Backed job u → o ≡ admit job st h u) → o ≡ admit job st h (marked_use K marks W lay n)
admit_marked K marks W lay n job st h o u e b f =
    f (subst (λ (x : Use). Backed job x) (sym e) (backed_marked K marks W lay n job b)) ∙ ap (λ (x : Use). admit job st h x) e

-- its instruction
pub pos_within : (K : List ℕ) (marks : ℕ) (W : List ℕ) (lay : Layout) (n m : ℕ) (u : Use) → u ≡ marked_use K marks W lay n → (use_row W (lay.uses.at + n * 6)).pos.0 < m → u.pos.0 < m
pos_within K marks W lay n m u e h =
    let p : u.pos.0 ≡ (use_row W (lay.uses.at + n * 6)).pos.0 = ap (λ (x : Use). x.pos.0) e ∙ ap (λ (x : Inst). x.0) (marked_pos K marks W lay n) in
    omega arith
