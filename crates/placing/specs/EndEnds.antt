-- What placing leaves behind, by the definition's answer. Assumes nothing.
use Rattle.std.proofs.Math.Path.{◌≡◌, refl, ap}
use Rattle.std.proofs.Common.{sym, subst}
use Rattle.std.specs.Prelude.{List, [], ◌∷◌, ◌++◌, ℕ, zero, suc, ◌<◌, length, Float, Result, Ok, Err, IsErrAnd}
use Rattle.std.proofs.Math.Option.{Option, none, some}
use Rattle.definition.specs.declared.RegClass.{RegClass}
use Rattle.definition.specs.declared.VirtReg.{VirtReg}
use Rattle.definition.specs.declared.Stop.{Stop}
use Rattle.definition.specs.declared.Refusal.{Refusal}
use Rattle.definition.specs.declared.Refusal.TheVariants.{NotARecord, OverALimit, BadBook, BadFunction, BadHint, BadSegment, BadUse, Stopped, Full}
use Rattle.definition.specs.Types.{Job, Register, State, Out, done, refused}
use Rattle.definition.specs.Place.{with_weight, update, spread}
use Rattle.definition.specs.Admit.{register_at, no_register}
use Rattle.job.specs.declared.Layout.{Layout}
use Rattle.virt_regs.specs.declared.OutLayout.{OutLayout}
use Rattle.virt_regs.specs.declared.Counts.{Counts}
use Rattle.virt_regs.specs.Each.{Each, each_append, each_one, each_get}
use Rattle.virt_regs.specs.Encoding.{counts_of}
use Rattle.job.specs.declared.work.WorkLayout.{WorkLayout}
use Rattle.constraints.specs.Ready.{Stands}
use Rattle.vreg_weight.specs.Fair.{Fair}
use Rattle.pieces.specs.Maps.{Outside}
use Rattle.placing.specs.declared.end.NotPlaced.{NotPlaced}
use Rattle.placing.specs.declared.end.NotPlaced.TheVariants as not_placed

-- the rows in use once a register is placed, or why it is not
abbrev pub Placed : Type 0
Placed = Result Counts NotPlaced

-- the pieces of a register can be weighed
abbrev pub FairAt : Job → Register → Type 0
FairAt J q = Fair J 4096 q.pieces

-- those of every register of the state
unfoldable pub Sane : Job → State → Type 0
Sane J st = Each (FairAt J) st.registers

-- the state, which the words O of the result tables and K of the work slice stand for, and its counts c
pub record DoneAs (J : Job) (ol : OutLayout) (W : List ℕ) (lay : Layout) (wl : WorkLayout) (O K : List ℕ) (c : Counts) (st : State) : Type 0 where
  pub counts : c ≡ counts_of st
  pub stands : Stands ol O W K lay wl st
  pub sane : Sane J st

-- placing answers stops and a full table alone
abbrev pub end_of : Refusal → NotPlaced → Type 0
end_of (Stopped s) e = e ≡ not_placed.Stopped s
end_of Full e = e ≡ not_placed.Full
end_of NotARecord e = ⊥
end_of OverALimit e = ⊥
end_of BadBook e = ⊥
end_of BadFunction e = ⊥
end_of BadHint e = ⊥
end_of BadSegment e = ⊥
end_of BadUse e = ⊥

unfoldable pub Answers : Job → OutLayout → List ℕ → Layout → WorkLayout → List ℕ → List ℕ → Placed → Out State → Type 0
Answers J ol W lay wl O K (Ok c) (done st) = DoneAs J ol W lay wl O K c st
Answers J ol W lay wl O K (Err e) (refused f) = end_of f e
Answers J ol W lay wl O K (Ok c) (refused f) = ⊥
Answers J ol W lay wl O K (Err e) (done st) = ⊥

-- the answer o; K₀ were the words of the work slice, of which the mapping alone is changed
pub record Ends (J : Job) (ol : OutLayout) (W : List ℕ) (lay : Layout) (wl : WorkLayout) (K₀ O K : List ℕ) (r : Placed) (o : Out State) : Type 0 where
  pub outside : Outside lay wl K₀ K
  pub answers : Answers J ol W lay wl O K r o

pub ends_by : (J : Job) (ol : OutLayout) (W : List ℕ) (lay : Layout) (wl : WorkLayout) (K₀ O K : List ℕ) (r : Placed) (o o' : Out State) → o ≡ o' → Ends J ol W lay wl K₀ O K r o → Ends J ol W lay wl K₀ O K r o'
ends_by J ol W lay wl K₀ O K r o o' e x = subst (λ (y : Out State). Ends J ol W lay wl K₀ O K r y) e x

-- ---- the answers

module _ (J : Job) (ol : OutLayout) (W : List ℕ) (lay : Layout) (wl : WorkLayout) (K₀ O K : List ℕ) (r : Placed) (out : Outside lay wl K₀ K) where
  pub ends_done : (c : Counts) (st : State) → r ≡ Ok c → DoneAs J ol W lay wl O K c st → Ends J ol W lay wl K₀ O K r (done st)
  unfolding Answers
  ends_done c st e d = record { outside = out; answers = subst (λ (x : Placed). Answers J ol W lay wl O K x (done st)) (sym e) d }

  pub ends_stopped : (s : Stop) → r ≡ Err (not_placed.Stopped s) → Ends J ol W lay wl K₀ O K r (refused (Stopped s))
  unfolding Answers
  ends_stopped s e = record { outside = out; answers = subst (λ (x : Placed). Answers J ol W lay wl O K x (refused (Stopped s))) (sym e) refl }

  pub ends_full : r ≡ Err not_placed.Full → Ends J ol W lay wl K₀ O K r (refused Full)
  unfolding Answers
  ends_full e = record { outside = out; answers = subst (λ (x : Placed). Answers J ol W lay wl O K x (refused Full)) (sym e) refl }

-- placing that is done has left a state
pub placed_state : (J : Job) (ol : OutLayout) (W : List ℕ) (lay : Layout) (wl : WorkLayout) (O K : List ℕ) (r : Placed) (o : Out State) (c : Counts) → Answers J ol W lay wl O K r o → r ≡ Ok c
    → (st : State) × (o ≡ done st) × DoneAs J ol W lay wl O K c st
unfolding Answers
placed_state J ol W lay wl O K r (done st) c a e = (st, refl, subst (λ (x : Placed). Answers J ol W lay wl O K x (done st)) e a)
placed_state J ol W lay wl O K r (refused f) c a e = absurd (subst (λ (x : Placed). Answers J ol W lay wl O K x (refused f)) e a)

-- an end that is passed on
pub err_kept : {A : Type 0} (r : Result A NotPlaced) (e : NotPlaced) → IsErrAnd r (λ x. x ≡ e) → r ≡ Err e
err_kept (Ok a) e h = absurd h
err_kept (Err x) e h = ap Err h

-- ---- registers whose pieces can be weighed

pub sane_at : (J : Job) (st : State) (v : VirtReg) → Sane J st → v.0 < length st.registers → Fair J 4096 (register_at st v).pieces
unfolding Sane register_at
sane_at J st v s l = each_get (FairAt J) st.registers v.0 no_register s l

-- one more
pub sane_added : (J : Job) (rs : List Register) (q : Register) → Each (FairAt J) rs → Fair J 4096 q.pieces → Each (FairAt J) (rs ++ (q ∷ []))
sane_added J rs q s f = each_append (FairAt J) rs (q ∷ []) s (each_one (FairAt J) q f)

-- one changed
pub sane_update : (J : Job) (f : Register → Register) (n : ℕ) (rs : List Register) → ((q : Register) → FairAt J q → FairAt J (f q)) → Each (FairAt J) rs → Each (FairAt J) (update f n rs)
unfolding update Each
sane_update J f n [] k s = tt
sane_update J f zero (q ∷ rs) k s = (k q s.0, s.1)
sane_update J f (suc n) (q ∷ rs) k s = (s.0, sane_update J f n rs k s.1)

pub sane_spread : (J : Job) (c : RegClass) (w : Float) (ms : List (Option VirtReg)) (rs : List Register) → Each (FairAt J) rs → Each (FairAt J) (spread c w ms rs)
unfolding spread
sane_spread J c w [] rs s = s
sane_spread J c w (none ∷ ms) rs s = sane_spread J c w ms rs s
sane_spread J c w (some v ∷ ms) rs s = sane_spread J c w ms (update (with_weight c w) v.0 rs) (sane_update J (with_weight c w) v.0 rs (λ q f. f) s)
