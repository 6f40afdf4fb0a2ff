-- Uses turned one after the other: each leaves the answer as it is, and behind an end the scan goes on. Assumes nothing.
use mathlib.Core.Path.{◌≡◌, refl, sym, ap, subst, ◌∙◌}
use mathlib.Core.List.{List, [], ◌∷◌, ◌++◌}
use Prim.Native.Nat.{ℕ, ◌+◌, ◌-◌, ◌*◌, ◌≤◌, ◌<◌}
use native.Mathlib.Omega.{arith}
use lib.ListN.{length, get_or, length-set}
use lib.Seq.{get_or-set_same}
use Rattle.words.specs.Tab.{tab, tab_ext}
use Rattle.words.specs.Parts.{splice}
use Rattle.definition.specs.declared.RegClass.{RegClass}
use Rattle.definition.specs.declared.ValueSet.{ValueSet}
use Rattle.definition.specs.declared.Use.{Use}
use Rattle.definition.specs.declared.UseKind.TheVariants.{ConstraintConflict}
use Rattle.definition.specs.Types.{Job, Out, State}
use Rattle.definition.specs.Types as types
use Rattle.definition.specs.Admit.{scan, through, fresh, turn, move}
use Rattle.definition.specs.Place.{uses_of}
use Rattle.definition.specs.declared.Inst.{Inst}
use Rattle.definition.specs.declared.Stop.{Stop}
use Rattle.definition.specs.Build.{Built}
use Rattle.definition.proofs.Scans.{scan_snoc}
use Rattle.job.specs.declared.Layout.{Layout}
use Rattle.job.specs.Job.{job_of}
use Rattle.set_part.specs.declared.SetPart.{SetPart}
use Rattle.set_part.specs.Part.{PartOk, marked_use, part_segs}
use Rattle.set_part.specs.Turned.{turned_row}
use Rattle.virt_regs.specs.declared.Counts.{Counts}
use Rattle.virt_regs.specs.declared.OutLayout.{OutLayout}
use Rattle.job.specs.declared.work.WorkLayout.{WorkLayout}
use Rattle.constraints.specs.Ready.{Stands}
use Rattle.constraints.specs.declared.Held.{Held}
use Rattle.constraints.specs.Held.{held_of}
use Rattle.constraints.specs.Asks.{ask_of}
use Rattle.constraints.proofs.Kept.{stands_kept}
use Rattle.scans.specs.declared.Move as code
use Rattle.scans.specs.declared.Move.TheVariants as code_move
use Rattle.scans.specs.Answers.{move_of}
use Rattle.scans.specs.Walks.{asked_of}
use Rattle.scans.proofs.Lists.{tab_none, tab_next}
use Rattle.scans.proofs.Admitting.{admit_any}
use Rattle.steps.specs.Turns.{turned_once, turned_words}
use Rattle.steps.specs.Laid.{uses_left, Laid}
use Rattle.steps.proofs.Turn.{row_number, once_before, once_long, once_stands}
use Rattle.steps.proofs.Changed.{changed_none}
use Rattle.steps.proofs.Cut.{part_scanned}
use Rattle.std.specs.Prelude.{Result, Ok, Err, IfOk}
use Rattle.placing.specs.declared.end.NotPlaced.{NotPlaced}
use Rattle.build_part.specs.declared.Step.{Step}
use Rattle.build_part.specs.declared.Step.TheVariants.{On, Over}
use Rattle.build_part.specs.Steps.{StepReady, Moves, OnwardBy, StepTo}
use Rattle.build_part.specs.declared.Settled.{Settled}
use Rattle.build_part.specs.declared.Settled.TheVariants.{Whole, Cut, Halt}
use Rattle.build_part.specs.Turning.{Turning, settles}
use Rattle.build_part.proofs.Turns.{few, room, inside, number, once, same}
use Rattle.build_part.proofs.Behind.{changed_on}
use Rattle.build_part.proofs.Ways.{Steps}

module _ {t w : ℕ} {W O : List ℕ} {lay : Layout} {ol : OutLayout} {wl : WorkLayout} {top : RegClass} {sp : SetPart} where
  -- none is turned
  pub turning_none : {K : List ℕ} {n : ℕ} → Laid t w W K lay wl sp n → Turning t w W K K O lay ol wl top sp n n
  turning_none {K} {n} l = record {
    laid = l;
    changed = changed_none lay wl sp n K;
    fewer = omega arith;
    more = omega arith;
    stands = λ st h. h;
    back = λ st h. h;
    same = λ vs st h. refl;
  }

  pub turning_then : {K K' K'' : List ℕ} {n n' n'' : ℕ} → Turning t w W K K' O lay ol wl top sp n n' → Turning t w W K' K'' O lay ol wl top sp n' n''
      → Turning t w W K K'' O lay ol wl top sp n n''
  turning_then {K} {K'} {K''} {n} {n'} {n''} a b = record {
    laid = b.laid;
    changed = changed_on lay wl sp sp n n' K K' K'' (omega arith) refl a.more a.changed b.changed;
    fewer = omega (arith, a.fewer, b.fewer);
    more = omega (arith, a.more, b.more);
    stands = λ st h. b.stands st (a.stands st h);
    back = λ st h. a.back st (b.back st h);
    same = λ vs st h. a.same vs st h ∙ b.same vs st (a.stands st h);
  }

  -- a step behind the turns is a step from before them; the work slice is as long as before
  pub after_turns : {K K' : List ℕ} {n n' : ℕ} → Turning t w W K K' O lay ol wl top sp n n' → (w' : ℕ) → w' ≡ w → (vs : ValueSet) (c : Counts) (O'' K'' : List ℕ) (x : Result Step NotPlaced)
      → Steps t w' W K' O lay ol wl sp c n' top vs O'' K'' x → Steps t w W K O lay ol wl sp c n top vs O'' K'' x
  unfolding OnwardBy
  after_turns {K} {K'} {n} {n'} a w' e vs c O'' K'' x s =
      let z : Steps t w W K' O lay ol wl sp c n' top vs O'' K'' x = subst (λ (k : ℕ). Steps t k W K' O lay ol wl sp c n' top vs O'' K'' x) e s in (
        record {
          changed = changed_on lay wl sp sp n n' K K' K'' (omega arith) refl a.more a.changed z.0.changed;
          rows = z.0.rows;
          goes = goes x z.0.goes;
        },
        λ st h.
            subst (λ (o : Out Built). StepTo W lay ol wl vs top O'' K'' x o) (sym (a.same vs st h.stands))
            (z.1 st (record { stands = a.stands st h.stands; counts = h.counts; fits = h.fits })),
      )
    where
      goes : (y : Result Step NotPlaced) → IfOk y (λ q. OnwardBy t w W K' K'' lay wl sp n' q) → IfOk y (λ q. OnwardBy t w W K K'' lay wl sp n q)
      goes (Err v) g = tt
      goes (Ok (Over q)) g = tt
      goes (Ok (On q k m)) g = record { laid = g.laid; less = omega (arith, g.less, a.fewer); first = g.first; end = g.end; more = omega (arith, g.more, a.more) }

  pub ready_turned : {o : ℕ} {K K' : List ℕ} {n n' : ℕ} {c : Counts} → StepReady t w o W K O lay ol wl sp c n → Turning t w W K K' O lay ol wl top sp n n'
      → (w' : ℕ) → w' ≡ w → StepReady t w' o W K' O lay ol wl sp c n'
  ready_turned {o} {K} {K'} {n} {n'} {c} g a w' e = subst (λ (k : ℕ). StepReady t k o W K' O lay ol wl sp c n') (sym e) (record {
    laid = a.laid;
    builds = g.builds;
    state = g.state;
    stands = record { stands = a.stands g.state g.stands.stands; counts = g.stands.counts; fits = g.stands.fits };
  })

-- nothing is passed yet
pub none_held : (J : Job) (st : State) (f : ℕ → Use) (a : ℕ) (top : RegClass) (h : Held) → held_of h ≡ fresh top
    → scan J st (tab f a (a - a)) (fresh top) ≡ through (held_of h)
unfolding scan
none_held J st f a top h e = ap (λ (us : List Use). scan J st us (fresh top)) (tab_none f a) ∙ ap through (sym e)

-- ---- one turn

module _ {t w n : ℕ} {W K O : List ℕ} {lay : Layout} {ol : OutLayout} {wl : WorkLayout} {sp : SetPart} (l : Laid t w W K lay wl sp n) (ew : w ≡ length K) (st₀ : State) (s₀ : Stands ol O W K lay wl st₀)
    (top : RegClass) (i : ℕ) (m : Moves W K O lay ol wl top sp (turn i)) where
  abbrev K₁ : List ℕ
  K₁ = turned_once K wl n (turned_row K wl.marks W lay sp i)

  one : Turning t w W K (turned_once K wl n (turned_row K wl.marks W lay sp i)) O lay ol wl top sp n (n + 1)
  unfolding OnwardBy
  one =
      let m₀ = m st₀ s₀ in
      let s = once l ew st₀ top i m₀ (record { regs = 0; segs = 0; uses = 0; groups = 0 }) in
      let row = turned_row K wl.marks W lay sp i in
      let rm = room l ew st₀ top i m₀ in
      let fw = few l ew st₀ top i m₀ in
      let nm = number l ew st₀ top i m₀ in
      record {
        laid = s.goes.laid;
        changed = s.changed;
        fewer = omega (arith, s.goes.less);
        more = omega arith;
        stands = λ st h. once_stands K lay wl n row l.mapping rm fw nm ol O W st h;
        back = λ st h.
            stands_kept K (λ k lk. sym (once_before K lay wl n row l.mapping rm fw nm (wl.mapping + k) (omega (arith, rm.marks, l.mapping.marks)) (λ e. omega (arith, l.mapping.marks)))) h;
        same = λ vs st h. same l ew st top i (m st h) ol vs;
      }

  -- the use that is turned is one of the part's
  pub turn_within : sp.first + i < sp.end
  turn_within = inside l ew st₀ top i (m st₀ s₀)

  -- a class use less is left
  less : uses_left W (turned_once K wl n (turned_row K wl.marks W lay sp i)) lay wl sp < uses_left W K lay wl sp
  unfolding OnwardBy
  less = (once l ew st₀ top i (m st₀ s₀) (record { regs = 0; segs = 0; uses = 0; groups = 0 })).goes.less

  mark_same : (j : ℕ) → get_or K₁ (wl.marks + j) 0 ≡ get_or K (wl.marks + j) 0 → marked_use K₁ wl.marks W lay j ≡ marked_use K wl.marks W lay j
  unfolding marked_use
  mark_same j e = rw e

  mark_set : (j : ℕ) → get_or K₁ (wl.marks + j) 0 ≡ 1 → (marked_use K₁ wl.marks W lay j).kind ≡ ConstraintConflict
  unfolding marked_use
  mark_set j e = rw e

  -- what was held before the turned use is held behind it
  held_behind : (e : ℕ) → i ≡ e - sp.first → sp.first ≤ e → (J : Job) (st : State) (h₀ h : types.Held)
      → scan J st (tab (marked_use K wl.marks W lay) sp.first (e - sp.first)) h₀ ≡ through h
      → scan J st (tab (marked_use (turned_once K wl n (turned_row K wl.marks W lay sp i)) wl.marks W lay) sp.first (e + 1 - sp.first)) h₀ ≡ through h
  unfolding turned_once
  held_behind e ei le J st h₀ h p =
      let m₀ = m st₀ s₀ in
      let row = turned_row K wl.marks W lay sp i in
      let rm = room l ew st₀ top i m₀ in
      let fw = few l ew st₀ top i m₀ in
      let nm = number l ew st₀ top i m₀ in
      let num : row.number ≡ e = row_number K wl.marks W lay sp i ∙ (let z : sp.first + i ≡ e = omega arith in z) in
      let f = marked_use K wl.marks W lay in
      let g = marked_use K₁ wl.marks W lay in
      let a = sp.first in
      let prefix : tab g a (e - a) ≡ tab f a (e - a) =
      tab_ext g f a a (e - a) (λ k lk. mark_same (a + k) (once_before K lay wl n row l.mapping rm fw nm (wl.marks + (a + k)) (omega (arith, rm.marks, num, nm)) (λ z. omega (arith, num)))) in
      let long : wl.marks + row.number < length (splice K (wl.turned + n * 4) (turned_words row)) =
      omega (arith, sym (length-set (splice K (wl.turned + n * 4) (turned_words row)) (wl.marks + row.number) 1) ∙ once_long K lay wl n row l.mapping rm fw nm, rm.marks, rm.room, nm) in
      let set_e : get_or K₁ (wl.marks + e) 0 ≡ 1 =
      ap (λ (x : ℕ). get_or K₁ (wl.marks + x) 0) (sym num) ∙ get_or-set_same (splice K (wl.turned + n * 4) (turned_words row)) (wl.marks + row.number) 1 0 long in
      ap (λ (us : List Use). scan J st us h₀) (tab_next g a e le ∙ ap (λ (us : List Use). us ++ (g e ∷ [])) prefix)
      ∙ scan_snoc J st (tab f a (e - a)) (g e) h₀ h h p (admit_any J st h (g e) (ap (λ k. asked_of (ask_of k)) (mark_set e set_e)))

  -- the words behind the turn are K'
  module _ (K' : List ℕ) (ek : K' ≡ turned_once K wl n (turned_row K wl.marks W lay sp i)) where
    pub turning_one : Turning t w W K K' O lay ol wl top sp n (n + 1)
    turning_one = subst (λ (x : List ℕ). Turning t w W K x O lay ol wl top sp n (n + 1)) (sym ek) one

    pub turn_less : uses_left W K' lay wl sp < uses_left W K lay wl sp
    turn_less = subst (λ (x : List ℕ). uses_left W x lay wl sp < uses_left W K lay wl sp) (sym ek) less

    -- the scan goes on behind a turned end
    pub end_held : (e : ℕ) → i ≡ e - sp.first → sp.first ≤ e → (h : types.Held)
        → ((st : State) → Stands ol O W K lay wl st → scan (job_of W lay) st (tab (marked_use K wl.marks W lay) sp.first (e - sp.first)) (fresh top) ≡ through h)
        → (st : State) → Stands ol O W K' lay wl st → scan (job_of W lay) st (tab (marked_use K' wl.marks W lay) sp.first (e + 1 - sp.first)) (fresh top) ≡ through h
    end_held e ei le h p st s =
        ap (λ (x : List ℕ). scan (job_of W lay) st (tab (marked_use x wl.marks W lay) sp.first (e + 1 - sp.first)) (fresh top)) ek
        ∙ held_behind e ei le (job_of W lay) st (fresh top) h (p st (turning_one.back st s))

-- ---- a step that turns no use, and one that turns one

settled_by : (a : ℕ) (h : Held) (m : code.Move) (k : code.Move) (x : Result Settled ℕ) → m ≡ k → move_of a h k ≡ settles a h x → move_of a h m ≡ settles a h x
settled_by a h m k x e q = ap (λ (y : code.Move). move_of a h y) e ∙ q

pub settled_whole : (a : ℕ) (h : Held) (m : code.Move) → m ≡ code_move.Whole → move_of a h m ≡ settles a h (Ok Whole)
unfolding move_of
settled_whole a h m e = settled_by a h m code_move.Whole (Ok Whole) e refl

pub settled_turn : (a : ℕ) (h : Held) (m : code.Move) (k : ℕ) → m ≡ code_move.Turn k → move_of a h m ≡ settles a h (Err k)
unfolding move_of
settled_turn a h m k e = settled_by a h m (code_move.Turn k) (Err k) e refl

pub settled_cut : (a : ℕ) (h : Held) (m : code.Move) (p : Inst) → m ≡ code_move.Cut p → move_of a h m ≡ settles a h (Ok (Cut p))
unfolding move_of
settled_cut a h m p e = settled_by a h m (code_move.Cut p) (Ok (Cut p)) e refl

pub settled_halt : (a : ℕ) (h : Held) (m : code.Move) (s : Stop) → m ≡ code_move.Halt s → move_of a h m ≡ settles a h (Ok (Halt s))
unfolding move_of
settled_halt a h m s e = settled_by a h m (code_move.Halt s) (Ok (Halt s)) e refl

-- the move of a part
pub moves_settled : (K : List ℕ) (marks : ℕ) (W : List ℕ) (lay : Layout) (sp : SetPart) → PartOk W lay sp → (st : State) (top : RegClass) (h : Held) (r : code.Move)
    → move_of sp.first h r ≡ move (job_of W lay) st top (tab (marked_use K marks W lay) sp.first (sp.end - sp.first))
    → (x y : Result Settled ℕ) → move_of sp.first h r ≡ settles sp.first h x → x ≡ y
    → move (job_of W lay) st top (uses_of (part_segs K marks W lay sp)) ≡ settles sp.first h y
moves_settled K marks W lay sp ok st top h r e x y es q =
    ap (λ (us : List Use). move (job_of W lay) st top us) (part_scanned K marks W lay sp ok)
    ∙ sym e
    ∙ es
    ∙ ap (λ (z : Result Settled ℕ). settles sp.first h z) q
