-- Instruction after instruction. Assumes nothing.
use mathlib.Core.Path.{◌≡◌, refl, sym, ap, ◌∙◌, subst}
use mathlib.Core.List.{List, ◌∷◌}
use Prim.Native.Nat.{ℕ, ◌≤◌, ◌<◌}
use native.Mathlib.Omega.{arith}
use Rattle.definition.specs.declared.RegClass.{RegClass}
use Rattle.definition.specs.declared.ValueSet.{ValueSet}
use Rattle.definition.specs.Types.{Job, State, Turned, Out, done, refused}
use Rattle.definition.specs.Place.{◌>>=◌}
use Rattle.definition.specs.Build.{at_inst, conflicts, runs, same_inst}
use Rattle.job.specs.declared.Layout.{Layout}
use Rattle.job.specs.Job.{job_of}
use Rattle.virt_regs.specs.declared.OutLayout.{OutLayout}
use Rattle.virt_regs.specs.declared.Counts.{Counts}
use Rattle.virt_regs.specs.Encoding.{room_of}
use Rattle.job.specs.declared.work.WorkLayout.{WorkLayout}
use Rattle.pieces.specs.Conflict.{turned_rows_of}
use Rattle.conflicts.proofs.RoundKept.{rows_none, rows_part}
use Rattle.std.specs.Prelude.{Ok, Err}
use Rattle.placing.specs.declared.end.NotPlaced.{NotPlaced}
use Rattle.placing.specs.EndEnds.{Placed}
use Rattle.steps.specs.Fits.{StandsAs}
use Rattle.conflicts.specs.Conflicts.{Between, Rounded, EndsAs, Given}
use Rattle.conflicts.proofs.Kept.{between_none, between_then, between_ready, rounded_rows, rounded_known}

module _ (J : Job) (ol : OutLayout) (W : List ℕ) (lay : Layout) (wl : WorkLayout) (O K : List ℕ) (r : Placed) where
  -- an end that is done has left a state
  pub ended_state : (o : Out State) (c : Counts) → EndsAs J ol W lay wl O K r o → r ≡ Ok c → (st : State) × (o ≡ done st) × StandsAs J ol O W K lay wl c st
  unfolding EndsAs
  ended_state (done st) c a d = (st, refl, subst (λ (y : Placed). EndsAs J ol W lay wl O K y (done st)) d a)
  ended_state (refused f) c a d = absurd (subst (λ (y : Placed). EndsAs J ol W lay wl O K y (refused f)) d a)

  -- and one that is not lasts
  pub ended_not : (o : Out State) (k : State → Out State) (v : NotPlaced) → EndsAs J ol W lay wl O K r o → r ≡ Err v → EndsAs J ol W lay wl O K (Err v) (o >>= k)
  unfolding EndsAs
  ended_not (done st) k v a d = absurd (subst (λ (y : Placed). EndsAs J ol W lay wl O K y (done st)) d a)
  ended_not (refused f) k v a d = subst (λ (y : Placed). EndsAs J ol W lay wl O K y (refused f)) d a

-- the instructions of rows before a have their registers: those from a on give the whole answer
pub record Going (t w o : ℕ) (W : List ℕ) (lay : Layout) (wl : WorkLayout) (ol : OutLayout) (set' : ValueSet) (top : RegClass) (n : ℕ) (c₀ : Counts) (K₀ O₀ K O : List ℕ) (a : ℕ) (c : Counts) : Type 0 where
  pub given : Given t w o W K O lay wl ol a n c
  pub between : Between lay wl K₀ K
  pub on : (st : State) → StandsAs (job_of W lay) ol O₀ W K₀ lay wl c₀ st
      → (st' : State) × StandsAs (job_of W lay) ol O W K lay wl c st'
      × (conflicts (job_of W lay) (room_of ol) set' top (runs same_inst (turned_rows_of K₀ wl.turned W lay 0 n)) st ≡ conflicts (job_of W lay) (room_of ol) set' top (runs same_inst (turned_rows_of K wl.turned W lay a n)) st')

module _ (t w o : ℕ) (W : List ℕ) (lay : Layout) (wl : WorkLayout) (ol : OutLayout) (set' : ValueSet) (top : RegClass) (n : ℕ) (c₀ : Counts) (K₀ O₀ : List ℕ) where
  pub going_start : Given t w o W K₀ O₀ lay wl ol 0 n c₀ → Going t w o W lay wl ol set' top n c₀ K₀ O₀ K₀ O₀ 0 c₀
  going_start g = record { given = g; between = between_none lay wl K₀; on = λ st s. (st, s, refl) }

  module _ (K O : List ℕ) (a : ℕ) (c : Counts) (v : Going t w o W lay wl ol set' top n c₀ K₀ O₀ K O a c) where
    abbrev J : Job
    J = job_of W lay

    abbrev whole : State → Out State
    whole st = conflicts J (room_of ol) set' top (runs same_inst (turned_rows_of K₀ wl.turned W lay 0 n)) st

    -- the next instruction's, with the answer e and the words K₁ and O₁ then
    module _ (m : ℕ) (lo : a < m) (hi : m ≤ n)
        (q : runs same_inst (turned_rows_of K wl.turned W lay a n) ≡ turned_rows_of K wl.turned W lay a m ∷ runs same_inst (turned_rows_of K wl.turned W lay m n)) (K₁ O₁ : List ℕ) (e : Placed)
        (r : Rounded lay wl m K K₁)
        (k : (st : State) → StandsAs (job_of W lay) ol O W K lay wl c st → EndsAs (job_of W lay) ol W lay wl O₁ K₁ e (at_inst (job_of W lay) (room_of ol) set' top st (turned_rows_of K wl.turned W lay a m))) where
      way : (st : State) → conflicts J (room_of ol) set' top (runs same_inst (turned_rows_of K wl.turned W lay a n)) st
          ≡ (at_inst J (room_of ol) set' top st (turned_rows_of K wl.turned W lay a m) >>= λ st'. conflicts J (room_of ol) set' top (runs same_inst (turned_rows_of K₁ wl.turned W lay m n)) st')
      unfolding conflicts
      way st =
          ap (λ (cs : List (List Turned)). conflicts J (room_of ol) set' top cs st) q
          ∙ ap (λ (us : List Turned). at_inst J (room_of ol) set' top st (turned_rows_of K wl.turned W lay a m) >>= λ st'. conflicts J (room_of ol) set' top (runs same_inst us) st')
          (sym (rounded_rows lay wl m m n K K₁ r (omega arith) W))

      next_state : (c₁ : Counts) → e ≡ Ok c₁ → (st : State) → StandsAs J ol O W K lay wl c st
          → (st' : State) × StandsAs J ol O₁ W K₁ lay wl c₁ st'
          × (conflicts J (room_of ol) set' top (runs same_inst (turned_rows_of K wl.turned W lay a n)) st ≡ conflicts J (room_of ol) set' top (runs same_inst (turned_rows_of K₁ wl.turned W lay m n)) st')
      next_state c₁ h st s =
          let x = ended_state J ol W lay wl O₁ K₁ e (at_inst J (room_of ol) set' top st (turned_rows_of K wl.turned W lay a m)) c₁ (k st s) h in
          (x.0, x.2, way st ∙ ap (λ (y : Out State). y >>= λ st'. conflicts J (room_of ol) set' top (runs same_inst (turned_rows_of K₁ wl.turned W lay m n)) st') x.1)

      pub going_next : (c₁ : Counts) → e ≡ Ok c₁ → Going t w o W lay wl ol set' top n c₀ K₀ O₀ K₁ O₁ m c₁
      going_next c₁ h =
          let now = next_state c₁ h v.given.st v.given.stands in
          record {
            given =
                record {
                  ready = between_ready t w W K K₁ lay wl v.given.apart v.given.turns r.between v.given.ready;
                  apart = v.given.apart;
                  turns = v.given.turns;
                  builds = v.given.builds;
                  segments = v.given.segments;
                  rows = rounded_known lay wl m m n K K₁ r (omega arith) w (rows_part w K wl.turned lay a n m n v.given.rows (omega arith) hi (omega arith));
                  st = now.0;
                  stands = now.1;
                };
            between = between_then lay wl K₀ K K₁ v.between r.between;
            on = λ st s. let p = v.on st s in let d = next_state c₁ h p.0 p.1 in (d.0, d.1, p.2 ∙ d.2);
          }

      pub going_stop : (y : NotPlaced) → e ≡ Err y → (x : Placed) → x ≡ Err y → (st : State) → StandsAs (job_of W lay) ol O₀ W K₀ lay wl c₀ st
          → EndsAs (job_of W lay) ol W lay wl O₁ K₁ x (conflicts (job_of W lay) (room_of ol) set' top (runs same_inst (turned_rows_of K₀ wl.turned W lay 0 n)) st)
      going_stop y h x q' st s =
          let p = v.on st s in
          subst (λ (z : Placed). EndsAs J ol W lay wl O₁ K₁ z (conflicts J (room_of ol) set' top (runs same_inst (turned_rows_of K₀ wl.turned W lay 0 n)) st)) (sym q')
          (subst (λ (z : Out State). EndsAs J ol W lay wl O₁ K₁ (Err y) z) (sym (p.2 ∙ way p.0))
          (ended_not J ol W lay wl O₁ K₁ e (at_inst J (room_of ol) set' top p.0 (turned_rows_of K wl.turned W lay a m)) (λ st'. conflicts J (room_of ol) set' top (runs same_inst (turned_rows_of K₁ wl.turned W lay m n)) st') y (k p.0 p.1) h))

    none_left : n ≤ a → (st : State) → conflicts J (room_of ol) set' top (runs same_inst (turned_rows_of K wl.turned W lay a n)) st ≡ done st
    unfolding conflicts runs
    none_left l st = ap (λ (us : List Turned). conflicts J (room_of ol) set' top (runs same_inst us) st) (rows_none K wl.turned W lay a n l)

    -- no row is left
    pub going_end : n ≤ a → (x : Placed) → x ≡ Ok c → (st : State) → StandsAs (job_of W lay) ol O₀ W K₀ lay wl c₀ st
        → EndsAs (job_of W lay) ol W lay wl O K x (conflicts (job_of W lay) (room_of ol) set' top (runs same_inst (turned_rows_of K₀ wl.turned W lay 0 n)) st)
    unfolding EndsAs
    going_end l x h st s =
        let p = v.on st s in
        subst (λ (z : Placed). EndsAs J ol W lay wl O K z (conflicts J (room_of ol) set' top (runs same_inst (turned_rows_of K₀ wl.turned W lay 0 n)) st)) (sym h)
        (subst (λ (z : Out State). EndsAs J ol W lay wl O K (Ok c) z) (sym (p.2 ∙ none_left l p.0)) p.1)
