-- Round after round over the rows of one instruction. Assumes nothing.
use mathlib.Core.Path.{◌≡◌, refl, sym, ap, ◌∙◌, subst}
use mathlib.Core.List.{List, []}
use Prim.Native.Nat.{ℕ, zero, suc, ◌-◌, ◌≤◌, ◌<◌}
use native.Mathlib.Omega.{arith}
use Rattle.definition.specs.declared.RegClass.{RegClass}
use Rattle.definition.specs.declared.UseKind.TheVariants.{ConstraintConflict}
use Rattle.definition.specs.declared.ValueSet.{ValueSet}
use Rattle.definition.specs.Types.{Job, Room, State, Turned, Out, done}
use Rattle.definition.specs.Build.{rounds}
use Rattle.job.specs.declared.Layout.{Layout}
use Rattle.job.specs.Job.{job_of}
use Rattle.virt_regs.specs.declared.OutLayout.{OutLayout}
use Rattle.virt_regs.specs.declared.Counts.{Counts}
use Rattle.virt_regs.specs.Encoding.{room_of}
use Rattle.job.specs.declared.work.WorkLayout.{WorkLayout}
use Rattle.pieces.specs.Conflict.{turned_rows_of, RowsOk, param_by}
use Rattle.conflicts.proofs.RoundKept.{rows_none}
use Rattle.std.specs.Prelude.{Result, Ok, Err}
use Rattle.placing.specs.declared.end.NotPlaced.{NotPlaced}
use Rattle.placing.specs.EndEnds.{Placed}
use Rattle.steps.specs.Fits.{StandsAs}
use Rattle.pieces.specs.declared.conflict.First.{First}
use Rattle.conflicts.specs.declared.RoundEnd.{RoundEnd}
use Rattle.conflicts.specs.Conflicts.{Rounded, EndsAs, Given, IsFirst, RoundAs}
use Rattle.conflicts.proofs.Kept.{rounded_none, rounded_then, between_ready}

-- a turned use that x is taken over of
abbrev first_of : First → Turned
first_of x = record { value = x.value; use' = record { pos = x.pos; kind = ConstraintConflict }; param = param_by x.param }

first_of_lem : (x : First) → IsFirst x (first_of x)
first_of_lem x = record { value = refl; pos = refl; param = refl }

rounds_none : (f : ℕ) (J : Job) (room : Room) (set' : ValueSet) (top : RegClass) (t : Turned) (st : State) → rounds f J room set' top t st [] ≡ done st
unfolding rounds
rounds_none zero J room set' top t st = refl
rounds_none (suc f) J room set' top t st = refl

-- Rows a₀ to a - 1 have their registers: those from a on give the whole answer, with g rounds at most.
pub record Rounding (t w o : ℕ) (W : List ℕ) (lay : Layout) (wl : WorkLayout) (ol : OutLayout) (set' : ValueSet) (top : RegClass) (x : First) (a₀ b : ℕ) (c₀ : Counts) (K₀ O₀ K O : List ℕ) (a : ℕ) (c : Counts) : Type 0 where
  pub given : Given t w o W K O lay wl ol a b c
  pub rounded : Rounded lay wl b K₀ K
  pub on : (st : State) (y : Turned) (f : ℕ) → StandsAs (job_of W lay) ol O₀ W K₀ lay wl c₀ st → IsFirst x y → b - a₀ ≤ f
      → (st' : State) × (g : ℕ) × (b - a ≤ g) × StandsAs (job_of W lay) ol O W K lay wl c st'
      × (rounds f (job_of W lay) (room_of ol) set' top y st (turned_rows_of K₀ wl.turned W lay a₀ b) ≡ rounds g (job_of W lay) (room_of ol) set' top y st' (turned_rows_of K wl.turned W lay a b))

module _ (t w o : ℕ) (W : List ℕ) (lay : Layout) (wl : WorkLayout) (ol : OutLayout) (set' : ValueSet) (top : RegClass) (x : First) (a₀ b : ℕ) (c₀ : Counts) (K₀ O₀ : List ℕ) where
  pub rounding_start : Given t w o W K₀ O₀ lay wl ol a₀ b c₀ → Rounding t w o W lay wl ol set' top x a₀ b c₀ K₀ O₀ K₀ O₀ a₀ c₀
  rounding_start g = record { given = g; rounded = rounded_none lay wl b K₀; on = λ st y f s i l. (st, f, l, s, refl) }

  module _ (K O : List ℕ) (a : ℕ) (c : Counts) (v : Rounding t w o W lay wl ol set' top x a₀ b c₀ K₀ O₀ K O a c) where
    abbrev J : Job
    J = job_of W lay

    abbrev before : ℕ → Turned → State → Out State
    before f y st = rounds f J (room_of ol) set' top y st (turned_rows_of K₀ wl.turned W lay a₀ b)

    abbrev from : ℕ → Turned → State → Out State
    from f y st = rounds f J (room_of ol) set' top y st (turned_rows_of K wl.turned W lay a b)

    -- one round more, with the answer e and the words K₁ and O₁ then
    module _ (l : a < b) (K₁ O₁ : List ℕ) (r : Result RoundEnd NotPlaced)
        (k : (st : State) (y : Turned) (f : ℕ) → StandsAs (job_of W lay) ol O W K lay wl c st → IsFirst x y
        → RoundAs (job_of W lay) ol W lay wl O₁ K₁ b (room_of ol) set' top y f st (turned_rows_of K wl.turned W lay a b) r) where
      is : (e : Result RoundEnd NotPlaced) → r ≡ e → (st : State) (y : Turned) (f : ℕ) → StandsAs J ol O W K lay wl c st → IsFirst x y
          → RoundAs J ol W lay wl O₁ K₁ b (room_of ol) set' top y f st (turned_rows_of K wl.turned W lay a b) e
      is e h st y f s i = subst (λ (z : Result RoundEnd NotPlaced). RoundAs J ol W lay wl O₁ K₁ b (room_of ol) set' top y f st (turned_rows_of K wl.turned W lay a b) z) h (k st y f s i)

      pub rounding_next : (e : RoundEnd) → r ≡ Ok e → a < e.next → e.next ≤ b → Rounded lay wl b K K₁ → RowsOk w K₁ wl.turned lay e.next b
          → Rounding t w o W lay wl ol set' top x a₀ b c₀ K₀ O₀ K₁ O₁ e.next e.counts
      unfolding RoundAs
      rounding_next e h m m₁ d ok =
          let now = is (Ok e) h v.given.st (first_of x) 0 v.given.stands (first_of_lem x) in
          record {
            given =
                record {
                  ready = between_ready t w W K K₁ lay wl v.given.apart v.given.turns d.between v.given.ready;
                  apart = v.given.apart;
                  turns = v.given.turns;
                  builds = v.given.builds;
                  segments = v.given.segments;
                  rows = ok;
                  st = now.0;
                  stands = now.1;
                };
            rounded = rounded_then lay wl b K₀ K K₁ v.rounded d;
            on = λ st y f s i q. let p = v.on st y f s i q in go st y f i p.0 p.1 p.2 p.3 p.4;
          }
        where
          go : (st : State) (y : Turned) (f : ℕ) → IsFirst x y → (st' : State) (g : ℕ) → b - a ≤ g → StandsAs J ol O W K lay wl c st' → before f y st ≡ from g y st'
              → (st'' : State) × (g' : ℕ) × (b - e.next ≤ g') × StandsAs J ol O₁ W K₁ lay wl e.counts st'' × (before f y st ≡ rounds g' J (room_of ol) set' top y st'' (turned_rows_of K₁ wl.turned W lay e.next b))
          go st y f i st' zero q s p = absurd (omega arith)
          go st y f i st' (suc g) q s p = let d = is (Ok e) h st' y g s i in (d.0, g, omega arith, d.1, p ∙ d.2)

      pub rounding_stop : (u : NotPlaced) → r ≡ Err u → (z : Placed) → z ≡ Err u → (st : State) (y : Turned) (f : ℕ) → StandsAs (job_of W lay) ol O₀ W K₀ lay wl c₀ st → IsFirst x y → b - a₀ ≤ f
          → EndsAs (job_of W lay) ol W lay wl O₁ K₁ z (rounds f (job_of W lay) (room_of ol) set' top y st (turned_rows_of K₀ wl.turned W lay a₀ b))
      unfolding RoundAs
      rounding_stop u h z e st y f s i q =
          let p = v.on st y f s i q in
          subst (λ (j : Placed). EndsAs J ol W lay wl O₁ K₁ j (before f y st)) (sym e) (go p.0 p.1 p.2 p.3 p.4)
        where
          go : (st' : State) (g : ℕ) → b - a ≤ g → StandsAs J ol O W K lay wl c st' → before f y st ≡ from g y st' → EndsAs J ol W lay wl O₁ K₁ (Err u) (before f y st)
          go st' zero q s p = absurd (omega arith)
          go st' (suc g) q s p = subst (λ (j : Out State). EndsAs J ol W lay wl O₁ K₁ (Err u) j) (sym p) (is (Err u) h st' y g s i)

    -- all rows are placed
    pub rounding_end : b ≤ a → (z : Placed) → z ≡ Ok c → (st : State) (y : Turned) (f : ℕ) → StandsAs (job_of W lay) ol O₀ W K₀ lay wl c₀ st → IsFirst x y → b - a₀ ≤ f
        → EndsAs (job_of W lay) ol W lay wl O K z (rounds f (job_of W lay) (room_of ol) set' top y st (turned_rows_of K₀ wl.turned W lay a₀ b))
    unfolding EndsAs
    rounding_end l z h st y f s i q =
        let p = v.on st y f s i q in
        let d : before f y st ≡ done p.0 =
        p.4 ∙ ap (λ (us : List Turned). rounds p.1 J (room_of ol) set' top y p.0 us) (rows_none K wl.turned W lay a b l) ∙ rounds_none p.1 J (room_of ol) set' top y p.0 in
        subst (λ (j : Placed). EndsAs J ol W lay wl O K j (before f y st)) (sym h)
        (subst (λ (j : Out State). EndsAs J ol W lay wl O K (Ok c) j) (sym d) p.3)
