-- One round over rows of turned uses, placed: what it leaves is what the definition answers. Assumes nothing.
use mathlib.Core.Path.{◌≡◌, refl, sym, ap, ◌∙◌, subst}
use mathlib.Core.Option.{Option}
use mathlib.Core.List.{List, [], ◌∷◌, map}
use Prim.Native.Nat.{ℕ, zero, suc, ◌+◌, ◌-◌, ◌*◌, ◌/◌, ◌≤◌, ◌<◌}
use native.Mathlib.Omega.{arith}
use lib.ListN.{length, get_or}
use Rattle.words.specs.Tab.{tab}
use Rattle.words.specs.Words.{word_count, words_of}
use Rattle.definition.specs.declared.Inst.{Inst}
use Rattle.definition.specs.declared.RegClass.{RegClass}
use Rattle.definition.specs.declared.Refusal.TheVariants.{Stopped}
use Rattle.definition.specs.declared.Stop.TheVariants.{NoneAdmitted}
use Rattle.definition.specs.declared.Use.{Use}
use Rattle.definition.specs.declared.Value.{Value}
use Rattle.definition.specs.declared.ValueSet.{ValueSet}
use Rattle.definition.specs.Types.{Job, Piece, Room, State, Turned, Out, done, refused}
use Rattle.definition.specs.Types as types
use Rattle.definition.specs.Entry.{insts_of}
use Rattle.definition.specs.Admit.{fresh, scan, through}
use Rattle.definition.specs.Place.{◌>>=◌, place}
use Rattle.definition.specs.Build.{conflict_piece, place_round, rounds}
use Rattle.definition.specs.Build as build
use Rattle.definition.proofs.Admission.{UseFits}
use Rattle.definition.proofs.Places.{All}
use Rattle.job.specs.declared.Layout.{Layout}
use Rattle.job.specs.Job.{job_of}
use Rattle.virt_regs.specs.declared.OutLayout.{OutLayout}
use Rattle.virt_regs.specs.declared.Counts.{Counts}
use Rattle.virt_regs.specs.Encoding.{room_of, counts_of}
use Rattle.vreg_weight.specs.Weighed.{Weighable}
use Rattle.job.specs.declared.work.WorkLayout.{WorkLayout}
use Rattle.constraints.specs.Held.{held_of}
use Rattle.constraints.specs.Ready.{Ready, Stands}
use Rattle.pieces.specs.Maps.{Outside}
use Rattle.pieces.specs.Conflict.{row_use, turned_rows_of, RowsOk, param_by}
use Rattle.pieces.proofs.ConflictRows.{rows_uses}
use Rattle.conflicts.specs.declared.round.Round.{Round}
use Rattle.conflicts.specs.Rounds.{Elsewhere, try_all, Tried}
use Rattle.placing.specs.Kept.{weighable}
use Rattle.conflicts.proofs.RoundKept.{ready_kept, stands_kept, rows_none, rows_long, rows_now, rows_part}
use Rattle.placing.specs.Held.{HeldFits}
use Rattle.std.specs.Prelude.{Result, Ok, Err}
use Rattle.placing.specs.declared.end.NotPlaced.{NotPlaced}
use Rattle.placing.specs.declared.end.NotPlaced.TheVariants as not_placed
use Rattle.placing.specs.EndEnds.{Placed, placed_state, Sane, DoneAs, Answers, Ends}
use Rattle.place.specs.Asks.{Asks, pieces_of, HeldIn, rows_kept, rows_ok}
use Rattle.steps.specs.Builds.{Builds}
use Rattle.steps.specs.Fits.{StandsAs}
use Rattle.steps.specs.Held.{held_fits}
use Rattle.steps.specs.Rounds.{try_scan, conflict_fits}
use Rattle.pieces.specs.declared.conflict.First.{First}
use Rattle.conflicts.specs.declared.RoundEnd.{RoundEnd}
use Rattle.conflicts.specs.Conflicts.{Rounded, EndsAs, Given, IsFirst, RoundAs}
use Rattle.conflicts.proofs.Kept.{turned_apart, rounded_then, rounded_tried, rounded_placed}

-- ---- the definition's round

module _ (f : ℕ) (J : Job) (room : Room) (set' : ValueSet) (top : RegClass) (t : Turned) (st : State) where
  abbrev behind : build.Round → State → Out State
  behind q st' = rounds f J room set' top t st' q.left

  abbrev placing : build.Round → List Turned → Out State
  placing q ts = place J room set' q.held (conflict_piece t.value t.use'.pos t.param ts ∷ []) st >>= behind q

  opened : (us : List Turned) → 0 < length us
      → rounds (suc f) J room set' top t st us ≡ place_round J room set' t st (try_all J st top us) (try_all J st top us).taken (λ st' left. rounds f J room set' top t st' left)
  unfolding rounds
  opened [] l = absurd (omega arith)
  opened (u ∷ us) l = refl

  taken_some : (q : build.Round) (ts : List Turned) → 0 < length ts → place_round J room set' t st q ts (λ st' left. rounds f J room set' top t st' left) ≡ placing q ts
  unfolding place_round
  taken_some q [] l = absurd (omega arith)
  taken_some q (x ∷ xs) l = refl

  taken_none : (q : build.Round) → place_round J room set' t st q [] (λ st' left. rounds f J room set' top t st' left) ≡ refused (Stopped NoneAdmitted)
  unfolding place_round
  taken_none q = refl

  pub round_some : (us : List Turned) → 0 < length us → 0 < length (try_all J st top us).taken → rounds (suc f) J room set' top t st us ≡ placing (try_all J st top us) (try_all J st top us).taken
  round_some us l m = opened us l ∙ taken_some (try_all J st top us) (try_all J st top us).taken m

  pub round_none : (us : List Turned) → 0 < length us → (try_all J st top us).taken ≡ [] → rounds (suc f) J room set' top t st us ≡ refused (Stopped NoneAdmitted)
  round_none us l e =
      opened us l
      ∙ ap (λ (ts : List Turned). place_round J room set' t st (try_all J st top us) ts (λ st' left. rounds f J room set' top t st' left)) e
      ∙ taken_none (try_all J st top us)

-- ---- the uses of rows

all_tab : (P : Use → Type 0) (f : ℕ → Use) (i n : ℕ) → ((k : ℕ) → i ≤ k → k < i + n → P (f k)) → All P (tab f i n)
all_tab P f i zero h = tt
all_tab P f i (suc n) h = (h i (omega arith) (omega arith), all_tab P f (i + 1) n (λ k a b. h k (omega arith) (omega arith)))

pub uses_fit : (o : ℕ) (W : List ℕ) (lay : Layout) (ol : OutLayout) (w : ℕ) (K : List ℕ) (turned a b : ℕ) → Builds o W lay ol → RowsOk w K turned lay a b
    → All (UseFits (job_of W lay)) (map (λ t. t.use') (turned_rows_of K turned W lay a b))
unfolding row_use
uses_fit o W lay ol w K turned a b s r =
    subst (λ (us : List Use). All (UseFits (job_of W lay)) us) (sym (rows_uses K turned W lay a b))
    (all_tab (UseFits (job_of W lay)) (row_use K turned W lay) a (b - a) (λ k x y. s.kinds (get_or K (turned + k * 4 + 1) 0) (r.known k x (omega arith))))

-- ---- the round on rows

-- rows a to b - 1 are tried, with the answer r and the words K₁ then
pub record TriedTo (w : ℕ) (W K O : List ℕ) (lay : Layout) (wl : WorkLayout) (ol : OutLayout) (top : RegClass) (a b : ℕ) (K₁ : List ℕ) (r : Round) : Type 0 where
  pub low : a ≤ r.end
  pub high : r.end ≤ b
  pub elsewhere : Elsewhere wl.turned a b K K₁
  pub rows : RowsOk w K₁ wl.turned lay a b
  pub answers : (st : State) → Stands ol O W K lay wl st → Tried K₁ wl.turned W lay a b r (try_all (job_of W lay) st top (turned_rows_of K wl.turned W lay a b))

module _ (t w o : ℕ) (W K O : List ℕ) (lay : Layout) (wl : WorkLayout) (ol : OutLayout) (a b : ℕ) (c : Counts) (g : Given t w o W K O lay wl ol a b c) (top : RegClass) (K₁ : List ℕ) (r : Round)
    (d : TriedTo w W K O lay wl ol top a b K₁ r) where
  abbrev J : Job
  J = job_of W lay

  abbrev us : List Turned
  us = turned_rows_of K wl.turned W lay a b

  -- those admitted
  abbrev ts : List Turned
  ts = turned_rows_of K₁ wl.turned W lay a r.end

  ready_tried : Ready t w W K₁ lay wl
  ready_tried = ready_kept lay wl a b K K₁ d.elsewhere (turned_apart w lay wl g.apart g.turns) t w W g.ready

  stands_tried : (st : State) → StandsAs J ol O W K lay wl c st → Stands ol O W K₁ lay wl st
  stands_tried st s = stands_kept lay wl a b K K₁ d.elsewhere (turned_apart w lay wl g.apart g.turns) ol O W st s.stands

  rows_tried : RowsOk w K₁ wl.turned lay a r.end
  rows_tried = rows_part w K₁ wl.turned lay a b a r.end d.rows (omega arith) d.low d.high

  fit : All (UseFits J) (map (λ t. t.use') ts)
  fit = uses_fit o W lay ol w K₁ wl.turned a r.end g.builds rows_tried

  scanned : (st : State) → StandsAs J ol O W K lay wl c st → scan J st (map (λ t. t.use') ts) (fresh top) ≡ through (held_of r.held)
  scanned st s =
      let y = d.answers st s.stands in
      ap (λ (l : List Turned). scan J st (map (λ t. t.use') l) (fresh top)) y.taken ∙ try_scan J st top (length us) us ∙ ap through (sym y.held)

  pub tried_held : (st : State) → StandsAs J ol O W K lay wl c st → HeldFits J st r.held
  tried_held st s =
      held_fits J g.builds.masks g.builds.sizes g.builds.widths st s.fits (map (λ t. t.use') ts) top r.held fit (scanned st s)

  pub tried_asks : (x : First) → x.pos.0 < insts_of (job_of W lay).blocks → Asks t w o W K₁ O lay wl ol a r.end x.pos c (HeldIn (job_of W lay) r.held)
  tried_asks x i =
      record {
        ready = ready_tried;
        apart = g.apart;
        rows = rows_tried;
        segments = g.segments;
        inst = i;
        long = g.builds.long;
        small = (g.builds.regs, g.builds.segs, g.builds.uses, g.builds.groups);
        st = g.st;
        holds = g.stands.stands.tables;
        counts = g.stands.counts;
        more = (tried_held g.st g.stands, g.stands.fits.sane);
      }

  -- ---- none is admitted
  module _ (set' : ValueSet) (l : a < b) (x : Turned) (f : ℕ) (st : State) (s : StandsAs J ol O W K lay wl c st) where
    some_use : 0 < length us
    some_use = omega (arith, rows_long K wl.turned W lay a b)

    pub tried_none : r.end ≡ a → (e : Result RoundEnd NotPlaced) → e ≡ Err (not_placed.Stopped NoneAdmitted)
        → RoundAs (job_of W lay) ol W lay wl O K₁ b (room_of ol) set' top x f st (turned_rows_of K wl.turned W lay a b) e
    unfolding RoundAs EndsAs
    tried_none z e q =
        let no_one : (try_all J st top us).taken ≡ [] = sym (d.answers st s.stands).taken ∙ rows_none K₁ wl.turned W lay a r.end (omega arith) in
        subst (λ (y : Result RoundEnd NotPlaced). RoundAs J ol W lay wl O K₁ b (room_of ol) set' top x f st us y) (sym q)
        (subst (λ (o : Out State). EndsAs J ol W lay wl O K₁ (Err (not_placed.Stopped NoneAdmitted)) o) (sym (round_none f J (room_of ol) set' top x st us some_use no_one)) refl)

  -- ---- their register is placed, with the answer e and the words O₂ and K₂ then
  module _ (set' : ValueSet) (l : a < b) (z : r.end ≡ a → ⊥) (x : First) (O₂ K₂ : List ℕ) (e : Placed)
      (p : (st : State) → Stands ol O W K₁ lay wl st → c ≡ counts_of st → Sane (job_of W lay) st → HeldFits (job_of W lay) st r.held
      → Ends (job_of W lay) ol W lay wl K₁ O₂ K₂ e (place (job_of W lay) (room_of ol) set' (held_of r.held) (pieces_of K₁ wl.turned W lay a r.end x.value x.pos x.param) st)) where
    abbrev placed : State → Out State
    placed st = place J (room_of ol) set' (held_of r.held) (pieces_of K₁ wl.turned W lay a r.end x.value x.pos x.param) st

    ends : (st : State) → StandsAs J ol O W K lay wl c st → Ends J ol W lay wl K₁ O₂ K₂ e (placed st)
    ends st s = p st (stands_tried st s) s.counts s.fits.sane (tried_held st s)

    pub tried_further : a < r.end
    tried_further = omega (arith, d.low, z)

    outside : Outside lay wl K₁ K₂
    outside = (ends g.st g.stands).outside

    pub tried_rounded : Rounded lay wl b K K₂
    tried_rounded =
        rounded_then lay wl b K K₁ K₂ (rounded_tried lay wl a b K K₁ g.apart d.elsewhere) (rounded_placed lay wl b K₁ K₂ g.apart outside)

    pub tried_left : RowsOk w K₂ wl.turned lay r.end b
    tried_left =
        rows_ok lay wl K₁ K₂ outside g.apart w w r.end b refl (rows_part w K₁ wl.turned lay a b r.end b d.rows d.low d.high (omega arith))

    module _ (y : Turned) (f : ℕ) (st : State) (s : StandsAs J ol O W K lay wl c st) (i : IsFirst x y) where
      abbrev q : build.Round
      q = try_all J st top us

      abbrev left₂ : List Turned
      left₂ = turned_rows_of K₂ wl.turned W lay r.end b

      same_piece : conflict_piece y.value y.use'.pos y.param q.taken ≡ conflict_piece x.value x.pos (param_by x.param) ts
      same_piece =
          ap (λ (v : Value). conflict_piece v y.use'.pos y.param q.taken) i.value
          ∙ ap (λ (n : Inst). conflict_piece x.value n y.param q.taken) i.pos
          ∙ ap (λ (o : Option ℕ). conflict_piece x.value x.pos o q.taken) i.param
          ∙ ap (λ (l : List Turned). conflict_piece x.value x.pos (param_by x.param) l) (sym (d.answers st s.stands).taken)

      same_place : place J (room_of ol) set' q.held (conflict_piece y.value y.use'.pos y.param q.taken ∷ []) st ≡ placed st
      same_place =
          ap (λ (k : Piece). place J (room_of ol) set' q.held (k ∷ []) st) same_piece
          ∙ ap (λ (h : types.Held). place J (room_of ol) set' h (conflict_piece x.value x.pos (param_by x.param) ts ∷ []) st) (sym (d.answers st s.stands).held)

      same_left : q.left ≡ left₂
      same_left = sym (d.answers st s.stands).left ∙ rows_kept lay wl K₁ K₂ outside g.apart W r.end b

      some_taken : 0 < length q.taken
      some_taken = omega (arith, ap (λ (l : List Turned). length l) (d.answers st s.stands).taken, rows_long K₁ wl.turned W lay a r.end, tried_further)

      way : rounds (suc f) J (room_of ol) set' top y st us ≡ (placed st >>= λ st'. rounds f J (room_of ol) set' top y st' left₂)
      way =
          round_some f J (room_of ol) set' top y st us (omega (arith, rows_long K wl.turned W lay a b)) some_taken
          ∙ ap (λ (o : Out State). o >>= λ st'. rounds f J (room_of ol) set' top y st' q.left) same_place
          ∙ ap (λ (l : List Turned). placed st >>= λ st'. rounds f J (room_of ol) set' top y st' l) same_left

      stands_as : (n : Counts) (st' : State) → placed st ≡ done st' → DoneAs J ol W lay wl O₂ K₂ n st' → StandsAs J ol O₂ W K₂ lay wl n st'
      stands_as n st' p' d' =
          record {
            stands = d'.stands;
            counts = d'.counts;
            fits =
                conflict_fits J g.builds.masks g.builds.sizes (room_of ol) set' top (held_of r.held) x.value x.pos (param_by x.param) ts st st' (scanned st s) fit p' s.fits d'.sane;
          }

      refused_as : (u : NotPlaced) (o : Out State) → Answers J ol W lay wl O₂ K₂ (Err u) o → EndsAs J ol W lay wl O₂ K₂ (Err u) (o >>= λ st'. rounds f J (room_of ol) set' top y st' left₂)
      unfolding Answers EndsAs
      refused_as u (done st') h = absurd h
      refused_as u (refused v) h = h

      -- a register is placed, or that is the end
      pub tried_on : (n : Counts) → e ≡ Ok n → RoundAs (job_of W lay) ol W lay wl O₂ K₂ b (room_of ol) set' top y f st (turned_rows_of K wl.turned W lay a b) (Ok (record { counts = n; next = r.end }))
      unfolding RoundAs
      tried_on n h =
          let v = placed_state J ol W lay wl O₂ K₂ e (placed st) n (ends st s).answers h in (
            v.0,
            stands_as n v.0 v.1 v.2,
            way ∙ ap (λ (o : Out State). o >>= λ st'. rounds f J (room_of ol) set' top y st' left₂) v.1,
          )

      pub tried_off : (u : NotPlaced) → e ≡ Err u → (z : Result RoundEnd NotPlaced) → z ≡ Err u
          → RoundAs (job_of W lay) ol W lay wl O₂ K₂ b (room_of ol) set' top y f st (turned_rows_of K wl.turned W lay a b) z
      unfolding RoundAs
      tried_off u h z k =
          subst (λ (j : Result RoundEnd NotPlaced). RoundAs J ol W lay wl O₂ K₂ b (room_of ol) set' top y f st us j) (sym k)
          (subst (λ (o : Out State). EndsAs J ol W lay wl O₂ K₂ (Err u) o) (sym way)
          (refused_as u (placed st) (subst (λ (j : Placed). Answers J ol W lay wl O₂ K₂ j (placed st)) h (ends st s).answers)))

-- ---- of slices

pub tried_to : (W O : List ℕ) (lay : Layout) (wl : WorkLayout) (ol : OutLayout) (top : RegClass) (a b : ℕ) (s₀ s : List ℕ) (r : Round) → length s ≡ length s₀
    → (a ≤ r.end) × (r.end ≤ b) × Elsewhere wl.turned a b (words_of s₀) (words_of s) × RowsOk (word_count s) (words_of s) wl.turned lay a b
    → ((st : State) → Stands ol O W (words_of s₀) lay wl st → Tried (words_of s) wl.turned W lay a b r (try_all (job_of W lay) st top (turned_rows_of (words_of s₀) wl.turned W lay a b)))
    → TriedTo (word_count s₀) W (words_of s₀) O lay wl ol top a b (words_of s) r
tried_to W O lay wl ol top a b s₀ s r e f h =
    record { low = f.0; high = f.1; elsewhere = f.2; rows = rows_now s s₀ (words_of s) wl.turned lay a b (sym e) f.3; answers = h }

pub tried_requires : (job s₀ s out : List ℕ) (lay : Layout) (wl : WorkLayout) (ol : OutLayout) (a b : ℕ) (c : Counts) (top : RegClass) (r : Round) (x : First) → length s ≡ length s₀
    → Given (word_count job) (word_count s₀) (word_count out) (words_of job) (words_of s₀) (words_of out) lay wl ol a b c
    → TriedTo (word_count s₀) (words_of job) (words_of s₀) (words_of out) lay wl ol top a b (words_of s) r → x.pos.0 < insts_of (job_of (words_of job) lay).blocks
    → Weighable job lay s wl.starts × Asks (word_count job) (word_count s) (word_count out) (words_of job) (words_of s) (words_of out) lay wl ol a r.end x.pos c (HeldIn (job_of (words_of job) lay) r.held)
tried_requires job s₀ s out lay wl ol a b c top r x e g d i =
    let k : Asks (word_count job) (word_count s) (word_count out) (words_of job) (words_of s) (words_of out) lay wl ol a r.end x.pos c (HeldIn (job_of (words_of job) lay) r.held) =
    subst (λ (n : ℕ). Asks (word_count job) (n / 4) (word_count out) (words_of job) (words_of s) (words_of out) lay wl ol a r.end x.pos c (HeldIn (job_of (words_of job) lay) r.held)) (sym e)
    (tried_asks (word_count job) (word_count s₀) (word_count out) (words_of job) (words_of s₀) (words_of out) lay wl ol a b c g top (words_of s) r d x i) in
    (weighable job s lay wl k.ready g.builds.book, k)
