-- A part that is placed: what is asked of it, and what it leaves. Assumes nothing.
use mathlib.Core.Path.{◌≡◌, refl, sym, subst}
use mathlib.Core.List.{List}
use Prim.Native.Nat.{ℕ}
use Rattle.definition.specs.declared.RegClass.{RegClass}
use Rattle.definition.specs.declared.Stop.{Stop}
use Rattle.definition.specs.declared.ValueSet.{ValueSet}
use Rattle.definition.specs.Types.{Job, Out, done, refused, Segment, State, Turned}
use Rattle.definition.specs.Admit.{whole, halt, move, scan, through, fresh}
use Rattle.definition.specs.Place.{◌>>=◌, place, uses_of}
use Rattle.definition.specs.Build.{Built, as_own}
use Rattle.definition.proofs.Admission.{UseFits}
use Rattle.definition.proofs.Moves.{move_whole}
use Rattle.definition.proofs.Places.{All}
use Rattle.definition.proofs.Fuel.{run}
use Rattle.job.specs.declared.Layout.{Layout}
use Rattle.job.specs.Job.{job_of}
use Rattle.set_part.specs.declared.SetPart.{SetPart}
use Rattle.set_part.specs.Part.{PartOk, part_segs}
use Rattle.virt_regs.specs.declared.Counts.{Counts}
use Rattle.virt_regs.specs.declared.OutLayout.{OutLayout}
use Rattle.virt_regs.specs.Encoding.{room_of}
use Rattle.job.specs.declared.work.WorkLayout.{WorkLayout}
use Rattle.constraints.specs.declared.Held.{Held}
use Rattle.constraints.specs.Held.{held_of}
use Rattle.pieces.specs.Maps.{Outside}
use Rattle.pieces.specs.Conflict.{turned_rows_of}
use Rattle.vreg_weight.specs.Fair.{Fair}
use Rattle.std.specs.Prelude.{Result, Ok, Err}
use Rattle.placing.specs.declared.end.NotPlaced.{NotPlaced}
use Rattle.placing.specs.declared.end.NotPlaced.TheVariants as not_placed
use Rattle.placing.specs.EndEnds.{Placed, DoneAs, Answers, Ends}
use Rattle.place.specs.Asked.{new_pieces, Standing, Asked}
use Rattle.placing.specs.Held.{HeldFits}
use Rattle.steps.specs.Builds.{Builds}
use Rattle.steps.specs.Fits.{StandsAs}
use Rattle.steps.specs.Held.{held_fits}
use Rattle.steps.specs.Placing.{part_fits}
use Rattle.steps.specs.Laid.{Laid}
use Rattle.steps.proofs.Run.{run_whole, run_halt}
use Rattle.steps.proofs.Cut.{rows_kept, rows_ok_kept, fair_part, part_kinds}
use Rattle.steps.proofs.Changed.{changed_none, changed_placed}
use Rattle.build_part.specs.declared.Step.{Step}
use Rattle.build_part.specs.declared.Step.TheVariants.{Over}
use Rattle.build_part.specs.Steps.{BuiltFit, OnwardBy, Stepped, StepTo}

-- as placing asks for it
pub standing : {ol : OutLayout} {O W K : List ℕ} {lay : Layout} {wl : WorkLayout} {c : Counts} {st : State} {J : Job} → StandsAs J ol O W K lay wl c st → Standing J ol O W K lay wl c st
standing s = record { stands = s.stands; counts = s.counts; sane = s.fits.sane }

-- the last step x, as placing ended with r
unfoldable pub OverBy : Placed → ℕ → Result Step NotPlaced → Type 0
OverBy (Ok c) n x = x ≡ Ok (Over (record { counts = c; turned = n }))
OverBy (Err v) n x = x ≡ Err v

pub over_ok : (r : Placed) (c : Counts) (n : ℕ) → r ≡ Ok c → OverBy r n (Ok (Over (record { counts = c; turned = n })))
unfolding OverBy
over_ok r c n e = subst (λ (y : Placed). OverBy y n (Ok (Over (record { counts = c; turned = n })))) (sym e) refl

pub over_err : (r : Placed) (v : NotPlaced) (n : ℕ) (x : Result Step NotPlaced) → r ≡ Err v → x ≡ Err v → OverBy r n x
unfolding OverBy
over_err r v n x e q = subst (λ (y : Placed). OverBy y n x) (sym e) q

module _ {t w o n : ℕ} {W K O : List ℕ} {lay : Layout} {ol : OutLayout} {wl : WorkLayout} {sp : SetPart} {c : Counts} {st : State} (l : Laid t w W K lay wl sp n) (b : Builds o W lay ol)
    (s : StandsAs (job_of W lay) ol O W K lay wl c st) (top : RegClass) where
  abbrev J : Job
  J = job_of W lay

  abbrev ss : List Segment
  ss = part_segs K wl.marks W lay sp

  abbrev ts : List Turned
  ts = turned_rows_of K wl.turned W lay 0 n

  -- segments whose uses are all admitted
  module _ (xs : List Segment) (h : Held) (ks : All (UseFits (job_of W lay)) (uses_of xs)) (e : scan (job_of W lay) st (uses_of xs) (fresh top) ≡ through (held_of h)) where
    pub held_ok : HeldFits (job_of W lay) st h
    held_ok = held_fits J b.masks b.sizes b.widths st s.fits (uses_of xs) top h ks e

    pub state_ok : (vs : ValueSet) (n' : Counts) (O' K' : List ℕ) (st' : State) → place (job_of W lay) (room_of ol) vs (held_of h) (as_own xs) st ≡ done st' → DoneAs (job_of W lay) ol W lay wl O' K' n' st'
        → StandsAs (job_of W lay) ol O' W K' lay wl n' st'
    state_ok vs n' O' K' st' p d = record {
      stands = d.stands;
      counts = d.counts;
      fits = part_fits J b.masks b.sizes (room_of ol) vs top (held_of h) xs st st' e ks p s.fits d.sane;
    }

    pub asked_ok : (q : SetPart) → PartOk W lay q → Fair (job_of W lay) 4096 (new_pieces K wl W lay q) → Asked t w o W K O lay ol wl q h c
    asked_ok q ok f = record {
      ready = l.ready;
      apart = l.mapping;
      book = b.book;
      long = b.long;
      part = ok;
      regs = b.regs;
      segs = b.segs;
      uses = b.uses;
      groups = b.groups;
      st = st;
      holds = s.stands.tables;
      counts = s.counts;
      fits = held_ok;
      sane = s.fits.sane;
      fair = f;
    }

  -- ---- all is placed

  module _ (h : Held) (m : move (job_of W lay) st top (uses_of (part_segs K wl.marks W lay sp)) ≡ whole (held_of h)) where
    kinds : All (UseFits (job_of W lay)) (uses_of (part_segs K wl.marks W lay sp))
    kinds = part_kinds t w W K lay wl sp n l

    scanned : scan (job_of W lay) st (uses_of (part_segs K wl.marks W lay sp)) (fresh top) ≡ through (held_of h)
    scanned = move_whole J st top (uses_of ss) (held_of h) m

    pub whole_held : HeldFits (job_of W lay) st h
    whole_held = held_ok ss h kinds scanned

    pub whole_fair : Fair (job_of W lay) 4096 (new_pieces K wl W lay sp)
    whole_fair = fair_part t w W K lay wl sp n l

    pub whole_asked : Asked t w o W K O lay ol wl sp h c
    whole_asked = asked_ok ss h kinds scanned sp l.ok whole_fair

    pub whole_to : (vs : ValueSet) (r : Placed) (O' K' : List ℕ) → Ends (job_of W lay) ol W lay wl K O' K' r (place (job_of W lay) (room_of ol) vs (held_of h) (new_pieces K wl W lay sp) st) → (x : Result Step NotPlaced) → OverBy r n x
        → StepTo W lay ol wl vs top O' K' x (run (job_of W lay) (room_of ol) vs top st (part_segs K wl.marks W lay sp) (turned_rows_of K wl.turned W lay 0 n))
    unfolding StepTo BuiltFit Answers OverBy
    whole_to vs r O' K' p x e =
        subst (λ (y : Out Built). StepTo W lay ol wl vs top O' K' x y) (sym (run_whole J (room_of ol) vs top st ss ts 0 l.fair.fit (held_of h) m)) (go r x e _ refl p.answers)
      where
        go : (r : Placed) (x : Result Step NotPlaced) → OverBy r n x → (y : Out State) → place (job_of W lay) (room_of ol) vs (held_of h) (as_own (part_segs K wl.marks W lay sp)) st ≡ y → Answers (job_of W lay) ol W lay wl O' K' r y
            → StepTo W lay ol wl vs top O' K' x (y >>= λ st'. done (record { state = st'; turned = turned_rows_of K wl.turned W lay 0 n }))
        go (Ok c') x e (done st') q a =
            subst (λ (z : Result Step NotPlaced). StepTo W lay ol wl vs top O' K' z (done (record { state = st'; turned = turned_rows_of K wl.turned W lay 0 n }))) (sym e)
            (record { stands = state_ok ss h kinds scanned vs c' O' K' st' q a; turned = rows_kept lay wl K K' p.outside l.mapping W 0 n })
        go (Ok c') x e (refused f) q a = absurd a
        go (Err v) x e (done st') q a = absurd a
        go (Err v) x e (refused f) q a = subst (λ (z : Result Step NotPlaced). StepTo W lay ol wl vs top O' K' z (refused f)) (sym e) a

  -- ---- a stop

  pub halt_to : (vs : ValueSet) (z : Stop) → move (job_of W lay) st top (uses_of (part_segs K wl.marks W lay sp)) ≡ halt z → (x : Result Step NotPlaced) → x ≡ Err (not_placed.Stopped z)
      → StepTo W lay ol wl vs top O K x (run (job_of W lay) (room_of ol) vs top st (part_segs K wl.marks W lay sp) (turned_rows_of K wl.turned W lay 0 n))
  unfolding StepTo BuiltFit
  halt_to vs z m x e =
      subst (λ (y : Result Step NotPlaced). StepTo W lay ol wl vs top O K y (run J (room_of ol) vs top st ss ts)) (sym e)
      (subst (λ (y : Out Built). BuiltFit J ol W lay wl O K (Err (not_placed.Stopped z)) y) (sym (run_halt J (room_of ol) vs top st ss ts 0 l.fair.fit z m)) refl)

-- ---- the words of the work slice

pub whole_stepped : {t w n : ℕ} {W K : List ℕ} {lay : Layout} {wl : WorkLayout} {sp : SetPart} → Laid t w W K lay wl sp n → (K' : List ℕ) → Outside lay wl K K' → (r : Placed) (x : Result Step NotPlaced) → OverBy r n x
    → Stepped t w W K K' lay wl sp n x
unfolding OverBy OnwardBy
whole_stepped {t} {w} {n} {W} {K} {lay} {wl} {sp} l K' o (Ok c) x e =
    subst (λ (y : Result Step NotPlaced). Stepped t w W K K' lay wl sp n y) (sym e)
    (record { changed = changed_placed lay wl sp n K K' l.mapping o; rows = rows_ok_kept lay wl K K' o l.mapping W w 0 n l.rows; goes = tt })
whole_stepped {t} {w} {n} {W} {K} {lay} {wl} {sp} l K' o (Err v) x e =
    subst (λ (y : Result Step NotPlaced). Stepped t w W K K' lay wl sp n y) (sym e)
    (record { changed = changed_placed lay wl sp n K K' l.mapping o; rows = tt; goes = tt })

pub halt_stepped : {t w n : ℕ} {W K : List ℕ} {lay : Layout} {wl : WorkLayout} {sp : SetPart} → Laid t w W K lay wl sp n → (v : NotPlaced) (x : Result Step NotPlaced) → x ≡ Err v → Stepped t w W K K lay wl sp n x
halt_stepped {t} {w} {n} {W} {K} {lay} {wl} {sp} l v x e =
    subst (λ (y : Result Step NotPlaced). Stepped t w W K K lay wl sp n y) (sym e) (record { changed = changed_none lay wl sp n K; rows = tt; goes = tt })
