-- Each way through a step, for every state that the slices stand for. Assumes nothing.
use mathlib.Core.Path.{◌≡◌, sym, subst}
use mathlib.Core.List.{List}
use Prim.Native.Nat.{ℕ, ◌+◌}
use lib.ListN.{length}
use Rattle.definition.specs.declared.Inst.{Inst}
use Rattle.definition.specs.declared.RegClass.{RegClass}
use Rattle.definition.specs.declared.Stop.{Stop}
use Rattle.definition.specs.declared.ValueSet.{ValueSet}
use Rattle.definition.specs.Types.{State}
use Rattle.definition.specs.Cuts.{left_cut}
use Rattle.definition.specs.Admit.{whole, turn, cut, halt, move, scan, through, fresh}
use Rattle.definition.specs.Place.{place, uses_of}
use Rattle.definition.proofs.Fits.{SegsFit}
use Rattle.definition.proofs.Fuel.{run}
use Rattle.job.specs.declared.Layout.{Layout}
use Rattle.job.specs.Job.{job_of}
use Rattle.set_part.specs.declared.SetPart.{SetPart}
use Rattle.set_part.specs.Part.{part_segs}
use Rattle.set_part.specs.Cut.{cut_part}
use Rattle.set_part.specs.Turned.{turned_row}
use Rattle.virt_regs.specs.declared.Counts.{Counts}
use Rattle.virt_regs.specs.declared.OutLayout.{OutLayout}
use Rattle.virt_regs.specs.Encoding.{room_of}
use Rattle.job.specs.declared.work.WorkLayout.{WorkLayout}
use Rattle.constraints.specs.declared.Held.{Held}
use Rattle.constraints.specs.Held.{held_of}
use Rattle.constraints.specs.Ready.{Stands}
use Rattle.pieces.specs.Conflict.{turned_rows_of}
use Rattle.vreg_weight.specs.Fair.{Fair}
use Rattle.std.specs.Prelude.{Result, Ok, Err, Option, Some, None}
use Rattle.placing.specs.declared.end.NotPlaced.{NotPlaced}
use Rattle.placing.specs.declared.end.NotPlaced.TheVariants as not_placed
use Rattle.placing.specs.EndEnds.{Placed, Ends}
use Rattle.place.specs.Asked.{new_pieces, Standing, Asked}
use Rattle.placing.specs.Held.{HeldFits}
use Rattle.steps.specs.Fits.{StandsAs}
use Rattle.steps.specs.Turns.{turned_once}
use Rattle.build_part.specs.declared.Next.{Next}
use Rattle.build_part.specs.declared.Step.{Step}
use Rattle.build_part.specs.declared.Step.TheVariants.{On}
use Rattle.build_part.specs.Steps.{StepReady, Moves, NextIs, NextOr, Stepped, StepTo}
use Rattle.build_part.proofs.Parts.{OverBy, over_err, standing, whole_asked, whole_held, whole_fair, whole_to, whole_stepped, halt_to, halt_stepped}
use Rattle.build_part.proofs.Turns.{turn_stepped, turn_to}
use Rattle.build_part.proofs.Cuts.{place_asked, front_held, front_fair, cut_stepped, stop_stepped, cut_to, stop_to}

-- what a step does to the work slice, and what it answers for every state that the slices stand for
abbrev pub Steps : ℕ → ℕ → List ℕ → List ℕ → List ℕ → Layout → OutLayout → WorkLayout → SetPart → Counts → ℕ → RegClass → ValueSet → List ℕ → List ℕ → Result Step NotPlaced → Type 0
Steps t w W K O lay ol wl sp c n top vs O' K' x =
    Stepped t w W K K' lay wl sp n x
    × ((st : State) → StandsAs (job_of W lay) ol O W K lay wl c st
    → StepTo W lay ol wl vs top O' K' x (run (job_of W lay) (room_of ol) vs top st (part_segs K wl.marks W lay sp) (turned_rows_of K wl.turned W lay 0 n)))

-- what placing the part q answers
abbrev pub Places : List ℕ → List ℕ → List ℕ → Layout → OutLayout → WorkLayout → Counts → ValueSet → SetPart → Held → List ℕ → List ℕ → Placed → Type 0
Places W K O lay ol wl c vs q h O' K' r =
    (st : State) → Standing (job_of W lay) ol O W K lay wl c st → HeldFits (job_of W lay) st h → Fair (job_of W lay) 4096 (new_pieces K wl W lay q)
    → Ends (job_of W lay) ol W lay wl K O' K' r (place (job_of W lay) (room_of ol) vs (held_of h) (new_pieces K wl W lay q) st)

module _ {t w o n : ℕ} {W K O : List ℕ} {lay : Layout} {ol : OutLayout} {wl : WorkLayout} {sp : SetPart} {c : Counts} (g : StepReady t w o W K O lay ol wl sp c n) (top : RegClass) (vs : ValueSet) where
  -- all is placed
  pub step_whole : (h : Held) → Moves W K O lay ol wl top sp (whole (held_of h)) → (r : Placed) (O' K' : List ℕ) → Places W K O lay ol wl c vs sp h O' K' r → (x : Result Step NotPlaced) → OverBy r n x
      → Steps t w W K O lay ol wl sp c n top vs O' K' x
  step_whole h m r O' K' p x e =
      (whole_stepped g.laid K' (d g.state g.stands).outside r x e, λ st s. whole_to g.laid g.builds s top h (m st s.stands) vs r O' K' (d st s) x e)
    where
      d : (st : State) → StandsAs (job_of W lay) ol O W K lay wl c st → Ends (job_of W lay) ol W lay wl K O' K' r (place (job_of W lay) (room_of ol) vs (held_of h) (new_pieces K wl W lay sp) st)
      d st s = p st (standing s) (whole_held g.laid g.builds s top h (m st s.stands)) (whole_fair g.laid g.builds s top h (m st s.stands))

  -- a use is turned
  pub step_turn : (i : ℕ) → Moves W K O lay ol wl top sp (turn i) → w ≡ length K → (K' : List ℕ) → K' ≡ turned_once K wl n (turned_row K wl.marks W lay sp i) → (x : Result Step NotPlaced) → x ≡ Ok (On sp c (n + 1))
      → Steps t w W K O lay ol wl sp c n top vs O K' x
  step_turn i m ew K' e x ex = (
    turn_stepped g.laid ew g.state top i (m g.state g.stands.stands) K' e c x ex,
    λ st s. turn_to g.laid ew st top i (m st s.stands) ol vs O c s K' e x ex,
  )

  -- the part before a cut is placed: the steps go on behind it, or they end
  module _ (p : Inst) (m : Moves W K O lay ol wl top sp (cut p)) (a q : SetPart) (h : Held) (ea : a ≡ (cut_part (job_of W lay).hints W lay p sp).left) (eq : q ≡ (cut_part (job_of W lay).hints W lay p sp).right)
      (f : (st : State) → Stands ol O W K lay wl st → SegsFit 0 (part_segs K wl.marks W lay sp) → move (job_of W lay) st top (uses_of (part_segs K wl.marks W lay sp)) ≡ cut p
      → scan (job_of W lay) st (uses_of (left_cut (job_of W lay).hints p (part_segs K wl.marks W lay sp))) (fresh top) ≡ through (held_of h))
      (r : Placed) (O' K' : List ℕ) (k : Places W K O lay ol wl c vs a h O' K' r) where
    scanned : (st : State) → StandsAs (job_of W lay) ol O W K lay wl c st → scan (job_of W lay) st (uses_of (left_cut (job_of W lay).hints p (part_segs K wl.marks W lay sp))) (fresh top) ≡ through (held_of h)
    scanned st s = f st s.stands g.laid.fair.fit (m st s.stands)

    d : (st : State) → StandsAs (job_of W lay) ol O W K lay wl c st → Ends (job_of W lay) ol W lay wl K O' K' r (place (job_of W lay) (room_of ol) vs (held_of h) (new_pieces K wl W lay a) st)
    d st s =
        k st (standing s) (front_held g.laid st top p (m st s.stands) g.builds s h (scanned st s)) (front_fair g.laid st top p (m st s.stands) a ea)

    pub step_cuts : (c' : Counts) → r ≡ Ok c' → Steps t w W K O lay ol wl sp c n top vs O' K' (Ok (On q c' n))
    step_cuts c' z = (
      cut_stepped g.laid g.state top p (m g.state g.stands.stands) K' (d g.state g.stands).outside q eq c',
      λ st s. cut_to g.laid st top p (m st s.stands) g.builds s h (scanned st s) vs r O' K' a q ea eq (d st s) c' z,
    )

    pub step_stops : (v : NotPlaced) → r ≡ Err v → (x : Result Step NotPlaced) → x ≡ Err v → Steps t w W K O lay ol wl sp c n top vs O' K' x
    step_stops v z x e = (
      stop_stepped g.laid g.state top p (m g.state g.stands.stands) K' (d g.state g.stands).outside q eq v x e,
      λ st s. stop_to g.laid st top p (m st s.stands) g.builds s h (scanned st s) vs r O' K' a q ea eq (d st s) v z x e,
    )

  -- a stop
  pub step_halt : (z : Stop) → Moves W K O lay ol wl top sp (halt z) → (x : Result Step NotPlaced) → x ≡ Err (not_placed.Stopped z) → Steps t w W K O lay ol wl sp c n top vs O K x
  step_halt z m x e =
      (halt_stepped g.laid (not_placed.Stopped z) x e, λ st s. halt_to g.laid g.builds s top vs z (m st s.stands) x e)

  -- the answer of next_part, once it is known
  pub next_taken : (y : Result Next Stop) → NextOr W K O lay ol wl top sp y → (x : Next) → y ≡ Ok x → NextIs W K O lay ol wl top sp x.part x.held x.behind
  unfolding NextOr
  next_taken y a x e = subst (λ (z : Result Next Stop). NextOr W K O lay ol wl top sp z) e a

  pub next_halts : (y : Result Next Stop) → NextOr W K O lay ol wl top sp y → (z : Stop) → y ≡ Err z → Moves W K O lay ol wl top sp (halt z)
  unfolding NextOr
  next_halts y a z e = subst (λ (x : Result Next Stop). NextOr W K O lay ol wl top sp x) e a

  -- the part that is to be placed: what placing it asks, and the step if it is refused
  module _ (q : SetPart) (h : Held) where
    pub next_asked : (b : Option SetPart) → NextIs W K O lay ol wl top sp q h b → Asked t w o W K O lay ol wl q h c
    unfolding NextIs
    next_asked None x = subst (λ (y : SetPart). Asked t w o W K O lay ol wl y h c) (sym x.0) (whole_asked g.laid g.builds g.stands top h (x.1 g.state g.stands.stands))
    next_asked (Some b) x = let m = x.moves g.state g.stands.stands in
        place_asked g.laid g.state top x.at m g.builds g.stands h (x.holds g.state g.stands.stands g.laid.fair.fit m) q x.left

    pub next_known : (b : Option SetPart) → NextIs W K O lay ol wl top sp q h b → (b' : Option SetPart) → b ≡ b' → NextIs W K O lay ol wl top sp q h b'
    next_known b x b' e = subst (λ (y : Option SetPart). NextIs W K O lay ol wl top sp q h y) e x

    module _ (r : Placed) (O' K' : List ℕ) (k : Places W K O lay ol wl c vs q h O' K' r) where
      pub next_over : NextIs W K O lay ol wl top sp q h None → (x : Result Step NotPlaced) → OverBy r n x → Steps t w W K O lay ol wl sp c n top vs O' K' x
      unfolding NextIs
      next_over z x e = step_whole h z.1 r O' K' (subst (λ (y : SetPart). Places W K O lay ol wl c vs y h O' K' r) z.0 k) x e

      pub next_on : (b : SetPart) → NextIs W K O lay ol wl top sp q h (Some b) → (c' : Counts) → r ≡ Ok c' → Steps t w W K O lay ol wl sp c n top vs O' K' (Ok (On b c' n))
      unfolding NextIs
      next_on b z c' e = step_cuts z.at z.moves q b h z.left z.right z.holds r O' K' k c' e

      pub next_stops : (b : Option SetPart) → NextIs W K O lay ol wl top sp q h b → (v : NotPlaced) → r ≡ Err v → (x : Result Step NotPlaced) → x ≡ Err v
          → Steps t w W K O lay ol wl sp c n top vs O' K' x
      unfolding NextIs
      next_stops None z v er x e = next_over z x (over_err _ _ _ _ er e)
      next_stops (Some b) z v er x e = step_stops z.at z.moves q b h z.left z.right z.holds r O' K' k v er x e
