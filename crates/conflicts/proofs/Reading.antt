-- The first turned use of an instruction, read off its row. Assumes nothing.
use Rattle.std.specs.Prelude as code
use mathlib.Core.Path.{◌≡◌, refl, sym, ap, subst, ◌∙◌}
use mathlib.Core.Bool.{Bool, true, false, not, cond}
use mathlib.Core.Option.{Option, none, some}
use mathlib.Core.List.{List, ◌∷◌}
use Prim.Native.Nat.{ℕ, ◌+◌, ◌-◌, ◌*◌, ◌<◌}
use native.Mathlib.Omega.{arith}
use lib.Dec.{eqb}
use lib.ListN.{length, get_or}
use borrow.Author.Tests.{eq-eqb, ne_eqb, not-true, not-false}
use Rattle.definition.specs.declared.RegClass.{RegClass}
use Rattle.definition.specs.declared.Refusal.TheVariants.{Stopped}
use Rattle.definition.specs.declared.Stop.TheVariants.{ValuesDiffer}
use Rattle.definition.specs.declared.Use.{Use}
use Rattle.definition.specs.declared.ValueSet.{ValueSet}
use Rattle.definition.specs.Types.{Job, Room, State, Turned, Out, refused, val}
use Rattle.definition.specs.Entry.{insts_of}
use Rattle.definition.specs.Build.{all_of, at_inst, rounds}
use Rattle.job.specs.declared.Layout.{Layout}
use Rattle.job.specs.Job.{job_by, job_of}
use Rattle.virt_regs.specs.declared.OutLayout.{OutLayout}
use Rattle.job.specs.declared.work.WorkLayout.{WorkLayout}
use Rattle.constraints.specs.Ready.{Ready}
use Rattle.pieces.specs.Conflict.{row_use, turned_row_at, turned_rows_of, param_by}
use Rattle.conflicts.proofs.RoundKept.{rows_more, rows_long}
use Rattle.placing.specs.declared.end.NotPlaced.TheVariants as not_placed
use Rattle.placing.specs.EndEnds.{Placed}
use Rattle.std.specs.Prelude.{Err}
use Rattle.pieces.specs.declared.conflict.First.{First}
use Rattle.conflicts.specs.Conflicts.{EndsAs, IsFirst}

abbrev param_of : ℕ → ℕ → Option ℕ
param_of h i = cond (eqb h 0) none (some i)

pub param_none : (h₀ i₀ h : ℕ) → h ≡ h₀ → h ≡ 0 → param_of h₀ i₀ ≡ none
param_none h₀ i₀ h eh z = ap (λ (b : Bool). cond b none (some i₀)) (eq-eqb h₀ 0 (sym eh ∙ z))

pub param_some : (h₀ i₀ h i : ℕ) → h ≡ h₀ → i ≡ i₀ → (h ≡ 0 → ⊥) → param_of h₀ i₀ ≡ some i
param_some h₀ i₀ h i eh ei z = ap (λ (b : Bool). cond b none (some i₀)) (ne_eqb h₀ 0 (λ q. z (eh ∙ q))) ∙ ap (λ (n : ℕ). some n) (sym ei)

pub first_is : (K : List ℕ) (turned : ℕ) (W : List ℕ) (lay : Layout) (k v : ℕ) (u : Use) (q : code.Option ℕ) → v ≡ get_or K (turned + k * 4) 0 → u ≡ row_use K turned W lay k
    → param_of (get_or K (turned + k * 4 + 2) 0) (get_or K (turned + k * 4 + 3) 0) ≡ param_by q → IsFirst (record { value = val v; pos = u.pos; param = q }) (turned_row_at K turned W lay k)
unfolding turned_row_at
first_is K turned W lay k v u q ev eu eq = record { value = ap val (sym ev); pos = ap (λ (x : Use). x.pos) (sym eu); param = eq }

-- its instruction is one of the job's
pub first_inst : (t w : ℕ) (W K : List ℕ) (lay : Layout) (wl : WorkLayout) (k : ℕ) (x : First) → Ready t w W K lay wl → 0 < lay.segments.n → get_or K (wl.turned + k * 4 + 1) 0 < lay.uses.n
    → IsFirst x (turned_row_at K wl.turned W lay k) → x.pos.0 < insts_of (job_of W lay).blocks
unfolding job_of job_by turned_row_at row_use
first_inst t w W K lay wl k x r s l f =
    let e : x.pos.0 ≡ (row_use K wl.turned W lay k).pos.0 = sym (ap (λ i. i.0) f.pos) in
    omega (arith, e, r.within s (get_or K (wl.turned + k * 4 + 1) 0) l)

-- ---- the turned uses of one instruction

module _ (J : Job) (room : Room) (set' : ValueSet) (top : RegClass) (st : State) (K : List ℕ) (turned : ℕ) (W : List ℕ) (lay : Layout) (a b : ℕ) (l : a < b) where
  abbrev us : List Turned
  us = turned_rows_of K turned W lay a b

  abbrev x : Turned
  x = turned_row_at K turned W lay a

  abbrev xs : List Turned
  xs = turned_rows_of K turned W lay (a + 1) b

  opened : at_inst J room set' top st us ≡ cond (all_of x.value xs) (rounds (length us) J room set' top x st us) (refused (Stopped ValuesDiffer))
  unfolding at_inst
  opened =
      let e : us ≡ x ∷ xs = rows_more K turned W lay a b l in
      ap (λ (ts : List Turned). at_inst J room set' top st ts) e
      ∙ sym (ap (λ (ts : List Turned). cond (all_of x.value xs) (rounds (length ts) J room set' top x st ts) (refused (Stopped ValuesDiffer))) e)

  pub inst_differ : (r : Bool) → r ≡ all_of x.value xs → not r ≡ true → at_inst J room set' top st us ≡ refused (Stopped ValuesDiffer)
  inst_differ r e n =
      opened ∙ ap (λ (b : Bool). cond b (rounds (length us) J room set' top x st us) (refused (Stopped ValuesDiffer))) (sym e ∙ not-true r n)

  pub inst_alike : (r : Bool) → r ≡ all_of x.value xs → not r ≡ false → at_inst J room set' top st us ≡ rounds (b - a) J room set' top x st us
  inst_alike r e n =
      opened
      ∙ ap (λ (b : Bool). cond b (rounds (length us) J room set' top x st us) (refused (Stopped ValuesDiffer))) (sym e ∙ not-false r n)
      ∙ ap (λ (k : ℕ). rounds k J room set' top x st us) (rows_long K turned W lay a b)

-- what ends as the same answer
pub ends_by : (J : Job) (ol : OutLayout) (W : List ℕ) (lay : Layout) (wl : WorkLayout) (O K : List ℕ) (r : Placed) (o o' : Out State) → o ≡ o' → EndsAs J ol W lay wl O K r o' → EndsAs J ol W lay wl O K r o
ends_by J ol W lay wl O K r o o' e x = subst (λ (y : Out State). EndsAs J ol W lay wl O K r y) (sym e) x

pub ends_differ : (J : Job) (ol : OutLayout) (W : List ℕ) (lay : Layout) (wl : WorkLayout) (O K : List ℕ) (r : Placed) → r ≡ Err (not_placed.Stopped ValuesDiffer) → EndsAs J ol W lay wl O K r (refused (Stopped ValuesDiffer))
unfolding EndsAs
ends_differ J ol W lay wl O K r e = subst (λ (y : Placed). EndsAs J ol W lay wl O K y (refused (Stopped ValuesDiffer))) (sym e) refl
