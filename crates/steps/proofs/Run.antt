-- Each way through a step, as an equation of `run`. Assumes nothing.
use mathlib.Core.Path.{◌≡◌, sym, ap, ◌∙◌}
use Prim.Native.Nat.{ℕ, ◌-◌}
use native.Mathlib.Omega.{arith}
use mathlib.Core.List.{List, [], ◌∷◌, ◌++◌}
use Rattle.definition.specs.declared.Inst.{Inst}
use Rattle.definition.specs.declared.RegClass.{RegClass}
use Rattle.definition.specs.declared.ValueSet.{ValueSet}
use Rattle.definition.specs.declared.Stop.{Stop}
use Rattle.definition.specs.declared.Refusal.TheVariants.{Stopped}
use Rattle.definition.specs.Types.{Held, Job, Out, done, refused, Room, Segment, State, Turned}
use Rattle.definition.specs.Cuts.{left_cut, right_cut}
use Rattle.definition.specs.Admit.{Move, whole, turn, cut, halt, move, Scan, through, scan, fresh}
use Rattle.definition.specs.Place.{◌>>=◌, place, uses_of}
use Rattle.definition.specs.Build.{Built, as_own, place_front, place_scan, step, turn_at, turned_at}
use Rattle.definition.proofs.Fits.{SegsFit}
use Rattle.definition.proofs.Moves.{move_cut}
use Rattle.definition.proofs.Fuel.{run, run_step, front_admitted}
use Rattle.constraints.specs.Held.{held_of}
use Rattle.std.specs.Prelude.{Option, Some, None}
use Rattle.scans.specs.declared.ScanAnswer.{ScanAnswer}
use Rattle.scans.specs.Answers.{ended, scan_of}

module _ (J : Job) (room : Room) (set' : ValueSet) (top : RegClass) (st : State) (ss : List Segment) (ts : List Turned) (q : ℕ) (f : SegsFit q ss) where
  abbrev all : List Segment → List Turned → State → Out Built
  all rs us st' = run J room set' top st' rs us

  stepped : (m : Move) → move J st top (uses_of ss) ≡ m → all ss ts st ≡ step J room set' top st ss ts (run J room set' top) m
  stepped m e = run_step J room set' top st ss ts q f ∙ ap (λ (x : Move). step J room set' top st ss ts (run J room set' top) x) e

  pub run_whole : (h : Held) → move J st top (uses_of ss) ≡ whole h → run J room set' top st ss ts ≡ (place J room set' h (as_own ss) st >>= λ st'. done (record { state = st'; turned = ts }))
  unfolding step
  run_whole h e = stepped (whole h) e

  pub run_turn : (n : ℕ) → move J st top (uses_of ss) ≡ turn n → run J room set' top st ss ts ≡ run J room set' top st (turn_at n ss) (ts ++ (turned_at n ss ∷ []))
  unfolding step
  run_turn n e = stepped (turn n) e

  pub run_halt : (s : Stop) → move J st top (uses_of ss) ≡ halt s → run J room set' top st ss ts ≡ refused (Stopped s)
  unfolding step
  run_halt s e = stepped (halt s) e

  pub run_cut : (p : Inst) (h : Held) → move J st top (uses_of ss) ≡ cut p → scan J st (uses_of (left_cut J.hints p ss)) (fresh top) ≡ through h
      → run J room set' top st ss ts ≡ (place J room set' h (as_own (left_cut J.hints p ss)) st >>= λ st'. run J room set' top st' (right_cut J.hints p ss) ts)
  unfolding step place_front place_scan
  run_cut p h e t =
      stepped (cut p) e ∙ ap (λ (s : Scan). place_scan J room set' (left_cut J.hints p ss) st s >>= λ st'. run J room set' top st' (right_cut J.hints p ss) ts) t

-- the scan over the part before a cut goes through, and what it holds is what is then held
pub cut_through : (J : Job) (st : State) (top : RegClass) (ss : List Segment) (q : ℕ) (p : Inst) → SegsFit q ss → move J st top (uses_of ss) ≡ cut p
    → (a : ℕ) (r : ScanAnswer) → scan_of a r ≡ scan J st (uses_of (left_cut J.hints p ss)) (fresh top) → scan J st (uses_of (left_cut J.hints p ss)) (fresh top) ≡ through (held_of r.held)
unfolding scan_of
cut_through J st top ss q p f e a r er = let t = front_admitted J st top ss q p f (move_cut J st top (uses_of ss) p e) in go r.failed er t.0 t.1
  where
    go : (b : Option ℕ) → ended b (held_of r.held) (λ n. n - a) ≡ scan J st (uses_of (left_cut J.hints p ss)) (fresh top) → (h : Held)
        → scan J st (uses_of (left_cut J.hints p ss)) (fresh top) ≡ through h → scan J st (uses_of (left_cut J.hints p ss)) (fresh top) ≡ through (held_of r.held)
    go None w h t = sym w
    go (Some n) w h t = let z : ◌≡◌ {A = ℕ} 0 1 = cc in absurd (omega arith)
