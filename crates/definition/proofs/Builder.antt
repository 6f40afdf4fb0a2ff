-- One induction over the builder: a fact on the state, the segments still to be placed and the turned uses, which every placing and every turn keep. Assumes nothing.
use mathlib.Core.Path.{◌≡◌, refl, ap, ◌∙◌, subst}
use Prim.Native.Nat.{ℕ, zero, suc, ◌+◌, ◌-◌, ◌*◌, ◌≤◌, ◌<◌}
use native.Mathlib.Omega.{arith}
use mathlib.Core.Bool.{Bool, true, false, cond}
use mathlib.Core.Option.{Option, none, some}
use mathlib.Core.List.{List, [], ◌∷◌, ◌++◌, append-nil, reverse, reverse_aux}
use lib.ListN.{length}
use lib.Dec.{eqb, leb, ltb}
use borrow.Author.Tests.{eqb-true, leb-false}
use Rattle.definition.specs.Types.{Held, Hint, Inst, Job, Piece, RegClass, Room, Segment, State, Stopped, Turned, Use, Value, ValueSet, ValuesDiffer, done, refused, val}
use Rattle.definition.specs.RegInfo.{set_of, top_of}
use Rattle.definition.specs.Cuts.{left_cut, left_of, right_cut, right_of}
use Rattle.definition.specs.Admit.{Move, Scan, admit, admit_kind, cut, fails_at, fresh, halt, move, scan, through, turn, whole}
use Rattle.definition.specs.Place.{place, segs_of, total, uses_of, empty}
use Rattle.definition.specs.Build.{Built, Result, Round, all_of, as_own, at_inst, build, build_set, build_sets, class_uses, conflict_piece, conflicts, last_first, last_first', onto, opening, place_front, place_round, place_scan, rounds, runs, same_inst, same_set, step, steps, try, turn_at, turn_in, turned_at, uses_turned, with_uses}
use Rattle.definition.proofs.Scans.{scan_snoc}
use Rattle.definition.proofs.Moves.{ClassAt, move_whole, move_turn}
use Rattle.definition.proofs.Places.{All, all_append, all_first, bind_done, own_uses_lem, total_append}
use Rattle.definition.proofs.Entries.{and_both}

-- ---- runs of neighbours, joined again

abbrev pub joined : {A : Type 0} → List (List A) → List A
joined [] = []
joined (r ∷ rs) = r ++ joined rs

pub joined_runs : {A : Type 0} (alike : A → A → Bool) (xs : List A) → joined (runs alike xs) ≡ xs
unfolding runs
joined_runs alike [] = refl
joined_runs {A} alike (x ∷ xs) = put (runs alike xs) ∙ ap (λ (l : List A). x ∷ l) (joined_runs alike xs)
  where
    put : (rs : List (List A)) → joined (onto alike x rs) ≡ x ∷ joined rs
    put [] = refl
    put ([] ∷ rs) = refl
    put ((r ∷ rs) ∷ rest) = go (alike x r)
      where
        go : (b : Bool) → joined {A = A} (cond b ((x ∷ r ∷ rs) ∷ rest) ((x ∷ []) ∷ (r ∷ rs) ∷ rest)) ≡ x ∷ r ∷ rs ++ joined rest
        go true = refl
        go false = refl

-- ---- a round over turned uses: some are taken, the others are left

total_reverse : (f : Turned → ℕ) (xs : List Turned) → total f (reverse xs) ≡ total f xs
unfolding total
total_reverse f xs = onto_rest xs [] ∙ omega arith
  where
    onto_rest : (xs ys : List Turned) → total f (reverse_aux xs ys) ≡ total f xs + total f ys
    onto_rest [] ys = omega arith
    onto_rest (x ∷ xs) ys = onto_rest xs (x ∷ ys) ∙ omega arith

first_total : (f : Turned → ℕ) (us : List Turned) → total f (last_first us) ≡ total f us
unfolding total
first_total f us = go (reverse us) ∙ total_reverse f us
  where
    go : (rs : List Turned) → total f (last_first' rs) ≡ total f rs
    go [] = refl
    go (t ∷ ts) = ap (λ (n : ℕ). f t + n) (total_reverse f ts)

total_one : (xs : List Turned) → total (λ _. 1) xs ≡ length xs
unfolding total
total_one [] = refl
total_one (x ∷ xs) = omega (arith, total_one xs)

pub first_length : (us : List Turned) → length (last_first us) ≡ length us
first_length us = omega (arith, first_total (λ _. 1) us, total_one us, total_one (last_first us))

pub uses_snoc : (ts : List Turned) (t : Turned) → uses_turned (ts ++ (t ∷ [])) ≡ uses_turned ts ++ (t.use' ∷ [])
uses_snoc [] t = refl
uses_snoc (s ∷ ts) t = ap (λ (l : List Use). s.use' ∷ l) (uses_snoc ts t)

-- each turned use of us stands in exactly one of the two lists
pub record Split (us taken left : List Turned) : Type 1 where
  pub sums : (f : Turned → ℕ) → total f taken + total f left ≡ total f us
  pub alls : (P : Turned → Type 0) → All P us → All P taken × All P left

module _ (job : Job) (st : State) (h₀ : Held) where
  abbrev Picked : (Turned → ℕ) → (Turned → Type 0) → List Turned → List Turned → List Turned → Round → Type 0
  Picked f P taken us left r =
      (scan job st (uses_turned r.taken) h₀ ≡ through r.held) × (total f r.taken + total f r.left ≡ total f taken + total f us + total f left)
      × (All P taken → All P us → All P left → All P r.taken × All P r.left)

  try_picked : (f : Turned → ℕ) (P : Turned → Type 0) (n : ℕ) (h : Held) (taken us left : List Turned) → length us ≤ n → scan job st (uses_turned taken) h₀ ≡ through h
      → Picked f P taken us left (try n job st h taken us left)
  unfolding try total
  try_picked f P zero h taken [] left l e = (e, omega arith, λ a b c. (a, c))
  try_picked f P zero h taken (t ∷ us) left l e = absurd (omega arith)
  try_picked f P (suc n) h taken [] left l e = (e, omega arith, λ a b c. (a, c))
  try_picked f P (suc n) h taken (t ∷ us) left l e =
      go (admit job st h t.use') refl (λ g d. try_picked f P n g (taken ++ (t ∷ [])) us left (omega arith) d)
      (try_picked f P n h taken (last_first us) (t ∷ left) (omega (arith, first_length us)) e)
    where
      go : (r : Option Held) → admit job st h t.use' ≡ r
          → ((g : Held) → scan job st (uses_turned (taken ++ (t ∷ []))) h₀ ≡ through g → Picked f P (taken ++ (t ∷ [])) us left (try n job st g (taken ++ (t ∷ [])) us left))
          → Picked f P taken (last_first us) (t ∷ left) (try n job st h taken (last_first us) (t ∷ left)) → Picked f P taken (t ∷ us) left (try (suc n) job st h taken (t ∷ us) left)
      go none a y k = rw (a, try) (k.0, omega (arith, k.1, first_total f us), λ x z w. k.2 x (all_first P us z.1) (z.0, w))
      go (some g) a y k =
          let q = y g (rw (uses_snoc taken t) (scan_snoc job st (uses_turned taken) t.use' h₀ h g e a)) in
          rw (a, try) (q.0, omega (arith, q.1, total_append f taken (t ∷ [])), λ x z w. q.2 (all_append P taken (t ∷ []) x (z.0, tt)) z.1 w)

-- a round parts its uses into those taken and those left
pub try_length : (job : Job) (st : State) (top : RegClass) (us : List Turned)
    → length (try (length us) job st (fresh top) [] us []).taken + length (try (length us) job st (fresh top) [] us []).left ≡ length us
unfolding scan total
try_length job st top us =
    let r = try (length us) job st (fresh top) [] us [] in
    omega (arith, (try_picked job st (fresh top) (λ _. 1) (λ _. Unit {0}) (length us) (fresh top) [] us [] (omega arith) refl).1, total_one r.taken, total_one r.left, total_one us)

-- an opening block parameter is admitted
opened_scan : (job : Job) (st : State) (p : Inst) (o : Option ℕ) (us : List Use) (h g : Held) → scan job st us h ≡ through g → scan job st (opening p o ++ us) h ≡ through g
unfolding scan admit admit_kind
opened_scan job st p none us h g e = e
opened_scan job st p (some q) us h g e = rw e

pub conflict_scan : (job : Job) (st : State) (v : Value) (p : Inst) (o : Option ℕ) (ts : List Turned) (h g : Held) → scan job st (uses_turned ts) h ≡ through g
    → scan job st (uses_of (segs_of (conflict_piece v p o ts ∷ []))) h ≡ through g
unfolding uses_of conflict_piece
conflict_scan job st v p o ts h g e = rw append-nil (opened_scan job st p o (uses_turned ts) h g e)

all_of_lem : (v : Value) (ts : List Turned) → all_of v ts ≡ true → All (λ t. t.value ≡ v) ts
all_of_lem v [] e = tt
all_of_lem v (t ∷ ts) e =
    let a = and_both (eqb t.value.0 v.0) (all_of v ts) e in
    let q : t.value.0 ≡ v.0 = eqb-true _ _ a.0 in
    (ap val q, all_of_lem v ts a.1)

-- ---- the parts that a set's segments are placed in: all of them, or those before a cut

pub data Part (hs : List Hint) : List Segment → List Segment → List Segment → Type 0 where
  all : (ss : List Segment) → Part hs ss ss []
  before : (p : Inst) (ss : List Segment) → Part hs ss (left_cut hs p ss) (right_cut hs p ss)

-- a fact on segments that both halves of a cut one have, and one with a use turned
module _ (P : Segment → Type 0) where
  pub part_all : (hs : List Hint)
      → ((p : Inst) (s : Segment) → 4 * p.0 < s.to.0 → P s → P (left_of hs p s) × P (right_of hs p s))
      → {ss l r : List Segment} → Part hs ss l r → All P ss → All P l × All P r
  unfolding left_cut right_cut
  part_all hs f (all ss) a = (a, tt)
  part_all hs f (before p ss) a = cut_all ss a
    where
      cut_all : (ss : List Segment) → All P ss → All P (left_cut hs p ss) × All P (right_cut hs p ss)
      cut_all [] a = (tt, tt)
      cut_all (s ∷ ss) a = go (leb s.to.0 (4 * p.0)) (ltb s.«from».0 (4 * p.0)) refl refl (cut_all ss a.1)
        where
          go : (b c : Bool) → leb s.to.0 (4 * p.0) ≡ b → ltb s.«from».0 (4 * p.0) ≡ c → All P (left_cut hs p ss) × All P (right_cut hs p ss)
              → All P (left_cut hs p (s ∷ ss)) × All P (right_cut hs p (s ∷ ss))
          go true c e d ih = rw (e, left_cut, right_cut) ((a.0, ih.0), ih.1)
          go false true e d ih =
              let q = f p s (leb-false _ _ e) a.0 in
              rw (e, d, left_cut, right_cut) ((q.0, tt), (q.1, a.1))
          go false false e d ih = rw (e, d, left_cut, right_cut) (tt, a)

  pub turn_all : ((n : ℕ) (s : Segment) → P s → P (with_uses (turn_in n s.uses) s)) → (n : ℕ) (ss : List Segment) → All P ss → All P (turn_at n ss)
  unfolding turn_at
  turn_all f n [] a = tt
  turn_all f n (s ∷ ss) a = go (ltb n (length s.uses)) refl (turn_all f (n - length s.uses) ss a.1)
    where
      go : (b : Bool) → ltb n (length s.uses) ≡ b → All P (turn_at (n - length s.uses) ss) → All P (turn_at n (s ∷ ss))
      go true e ih = rw (e, turn_at) (f n s a.0, a.1)
      go false e ih = rw (e, turn_at) (a.0, ih)

-- a register was placed: the uses of its pieces were all admitted, from the top class
pub record Placing (job : Job) (room : Room) (u : ValueSet) (new : List Piece) (st st' : State) : Type 0 where
  pub top : RegClass
  pub held : Held
  pub admitted : scan job st (uses_of (segs_of new)) (fresh top) ≡ through held
  pub put : place job room u held new st ≡ done st'

-- what every step of a set's run keeps
pub record Keeps (job : Job) (room : Room) (u : ValueSet) (Inv : State → List Segment → List Turned → Type 0) : Type 1 where
  pub part : (ss l r : List Segment) (ts : List Turned) (st st' : State) → Part job.hints ss l r → Placing job room u (as_own l) st st' → Inv st ss ts → Inv st' r ts
  pub turned : (n : ℕ) (ss : List Segment) (ts : List Turned) (st : State) → ClassAt (uses_of ss) n → Inv st ss ts → Inv st (turn_at n ss) (ts ++ (turned_at n ss ∷ []))
  pub conflict : (v : Value) (p : Inst) (o : Option ℕ) (w : Turned) (ws us left more : List Turned) (st st' : State) → Split us (w ∷ ws) left → All (λ t. t.value ≡ v) (w ∷ ws)
      → Placing job room u (conflict_piece v p o (w ∷ ws) ∷ []) st st' → Inv st [] (us ++ more) → Inv st' [] (left ++ more)

module _ (job : Job) (room : Room) (u : ValueSet) (Inv : State → List Segment → List Turned → Type 0) (k : Keeps job room u Inv) (top : RegClass) where
  own_kept : (ss l r : List Segment) (ts : List Turned) (h : Held) (st st' : State) → Part job.hints ss l r → scan job st (uses_of l) (fresh top) ≡ through h
      → place job room u h (as_own l) st ≡ done st' → Inv st ss ts → Inv st' r ts
  own_kept ss l r ts h st st' p e f i = k.part ss l r ts st st' p (record { top = top; held = h; admitted = rw (own_uses_lem l) e; put = f }) i

  steps_kept : (f : ℕ) (st : State) (ss : List Segment) (ts : List Turned) (b : Built) → Inv st ss ts → steps f job room u top st ss ts ≡ done b → Inv b.state [] b.turned
  unfolding steps place_front
  steps_kept zero st ss ts b i e = let z : ◌≡◌ {A = ℕ} 0 1 = cc in absurd (omega arith)
  steps_kept (suc f) st ss ts b i e = go (move job st top (uses_of ss)) refl e (λ st' ss' ts' i' e'. steps_kept f st' ss' ts' b i' e')
    where
      go : (m : Move) → move job st top (uses_of ss) ≡ m → step job room u top st ss ts (λ st' ss' ts'. steps f job room u top st' ss' ts') m ≡ done b
          → ((st' : State) (ss' : List Segment) (ts' : List Turned) → Inv st' ss' ts' → steps f job room u top st' ss' ts' ≡ done b → Inv b.state [] b.turned)
          → Inv b.state [] b.turned
      go (whole h) m a ih =
          let p = bind_done (place job room u h (as_own ss) st) _ b a in
          let w : Built = record { state = p.0; turned = ts } in
          let s : w ≡ b = cc in
          subst (λ (x : Built). Inv x.state [] x.turned) s (own_kept ss ss [] ts h st p.0 (all ss) (move_whole job st top (uses_of ss) h m) p.1 i)
      go (turn n) m a ih = ih st (turn_at n ss) (ts ++ (turned_at n ss ∷ [])) (k.turned n ss ts st (move_turn job st top (uses_of ss) n m) i) a
      go (cut p) m a ih =
          let r = bind_done (place_front job room u top (left_cut job.hints p ss) st) _ b a in
          ih r.0 (right_cut job.hints p ss) ts (front (scan job st (uses_of (left_cut job.hints p ss)) (fresh top)) refl r.0 r.1) r.2
        where
          front : (r : Scan) → scan job st (uses_of (left_cut job.hints p ss)) (fresh top) ≡ r → (st' : State) → place_scan job room u (left_cut job.hints p ss) st r ≡ done st'
              → Inv st' (right_cut job.hints p ss) ts
          front (through h) c st' d = own_kept ss (left_cut job.hints p ss) (right_cut job.hints p ss) ts h st st' (before p ss) c d i
          front (fails_at n) c st' d = let z : ◌≡◌ {A = ℕ} 0 1 = cc in absurd (omega arith)
      go (halt s) m a ih = let z : ◌≡◌ {A = ℕ} 0 1 = cc in absurd (omega arith)

  rounds_kept : (f : ℕ) (t : Turned) (st : State) (us more : List Turned) (st' : State) → length us ≤ f → All (λ x. x.value ≡ t.value) us → Inv st [] (us ++ more)
      → rounds f job room u top t st us ≡ done st' → Inv st' [] more
  unfolding rounds scan total
  rounds_kept zero t st [] more st' l a i e = let q : st ≡ st' = cc in subst (λ (x : State). Inv x [] more) q i
  rounds_kept zero t st (w ∷ ws) more st' l a i e = absurd (omega arith)
  rounds_kept (suc f) t st [] more st' l a i e = let q : st ≡ st' = cc in subst (λ (x : State). Inv x [] more) q i
  rounds_kept (suc f) t st (w ∷ ws) more st' l a i e =
      let r = try (suc (length ws)) job st (fresh top) [] (w ∷ ws) [] in
      let q : (g : Turned → ℕ) (P : Turned → Type 0) → Picked job st (fresh top) g P [] (w ∷ ws) [] r =
      λ g P. try_picked job st (fresh top) g P (suc (length ws)) (fresh top) [] (w ∷ ws) [] (omega arith) refl in
      go r r.taken (q (λ _. 0) (λ _. Unit {0})).0 (record { sums = λ g. (q g (λ _. Unit {0})).1 ∙ omega arith; alls = λ P b. (q (λ _. 0) P).2 tt b tt })
      (λ st'' s b j d. rounds_kept f t st'' r.left more st' s b j d) e
    where
      go : (r : Round) (taken : List Turned) → scan job st (uses_turned taken) (fresh top) ≡ through r.held → Split (w ∷ ws) taken r.left
          → ((st'' : State) → length r.left ≤ f → All (λ x. x.value ≡ t.value) r.left → Inv st'' [] (r.left ++ more) → rounds f job room u top t st'' r.left ≡ done st' → Inv st' [] more)
          → place_round job room u t st r taken (λ st'' left. rounds f job room u top t st'' left) ≡ done st' → Inv st' [] more
      go r [] s x ih d = let z : ◌≡◌ {A = ℕ} 0 1 = cc in absurd (omega arith)
      go r (y ∷ ys) s x ih d =
          let p = t.use'.pos in
          let c = conflict_piece t.value p t.param (y ∷ ys) in
          let b = bind_done (place job room u r.held (c ∷ []) st) (λ st''. rounds f job room u top t st'' r.left) st' d in
          let v = x.alls (λ x. x.value ≡ t.value) a in
          let j = k.conflict t.value p t.param y ys (w ∷ ws) r.left more st b.0 x v.0
          (record { top = top; held = r.held; admitted = conflict_scan job st t.value p t.param (y ∷ ys) (fresh top) r.held s; put = b.1 }) i in
          ih b.0 (omega (arith, x.sums (λ _. 1), total_one ys, total_one r.left, total_one ws)) v.1 j b.2

  inst_kept : (st : State) (ts more : List Turned) (st' : State) → Inv st [] (ts ++ more) → at_inst job room u top st ts ≡ done st' → Inv st' [] more
  unfolding at_inst
  inst_kept st [] more st' i e = let q : st ≡ st' = cc in subst (λ (x : State). Inv x [] more) q i
  inst_kept st (t ∷ ts) more st' i e = go (all_of t.value ts) refl e
    where
      go : (b : Bool) → all_of t.value ts ≡ b → cond b (rounds (suc (length ts)) job room u top t st (t ∷ ts)) (refused (Stopped ValuesDiffer)) ≡ done st' → Inv st' [] more
      go true a f = rounds_kept (suc (length ts)) t st (t ∷ ts) more st' (omega arith) (refl, all_of_lem t.value ts a) i f
      go false a f = let z : ◌≡◌ {A = ℕ} 0 1 = cc in absurd (omega arith)

  conflicts_kept : (cs : List (List Turned)) (st st' : State) → Inv st [] (joined cs) → conflicts job room u top cs st ≡ done st' → Inv st' [] []
  unfolding conflicts
  conflicts_kept [] st st' i e = let q : st ≡ st' = cc in subst (λ (x : State). Inv x [] []) q i
  conflicts_kept (c ∷ cs) st st' i e =
      let b = bind_done (at_inst job room u top st c) _ st' e in
      conflicts_kept cs b.0 st' (inst_kept st c (joined cs) b.0 i b.1) b.2

-- a set is built
pub set_kept : (job : Job) (room : Room) (s : Segment) (ss : List Segment) (Inv : State → List Segment → List Turned → Type 0) → Keeps job room (set_of job s.value) Inv
    → (st st' : State) → Inv st (s ∷ ss) [] → build_set job room (s ∷ ss) st ≡ done st' → Inv st' [] []
unfolding build_set
set_kept job room s ss Inv k st st' i e =
    let u = set_of job s.value in
    let top = top_of job s.value in
    let n = suc (class_uses (uses_of (s ∷ ss))) in
    let b = bind_done (steps n job room u top st (s ∷ ss) []) _ st' e in
    let j = steps_kept job room u Inv k top n st (s ∷ ss) [] b.0 i b.1 in
    conflicts_kept job room u Inv k top (runs same_inst b.0.turned) b.0.state st' (rw (joined_runs same_inst b.0.turned) j) b.2

-- all sets are built: a fact on the state and the sets to come
module _ (job : Job) (room : Room) (Inv : State → List (List Segment) → Type 0)
    (set : (s : Segment) (ss : List Segment) (rest : List (List Segment)) (st st' : State) → Inv st ((s ∷ ss) ∷ rest) → build_set job room (s ∷ ss) st ≡ done st' → Inv st' rest)
    (skip : (rest : List (List Segment)) (st : State) → Inv st ([] ∷ rest) → Inv st rest) where
  pub all_sets_kept : (rest : List (List Segment)) (st st' : State) → Inv st rest → build_sets job room rest st ≡ done st' → Inv st' []
  unfolding build_sets build_set
  all_sets_kept [] st st' i e = let q : st ≡ st' = cc in subst (λ (x : State). Inv x []) q i
  all_sets_kept ([] ∷ rest) st st' i e = all_sets_kept rest st st' (skip rest st i) e
  all_sets_kept ((s ∷ ss) ∷ rest) st st' i e =
      let b = bind_done (build_set job room (s ∷ ss) st) _ st' e in
      all_sets_kept rest b.0 st' (set s ss rest st b.0 i b.1) b.2

  pub built_kept : (res : Result) → Inv empty (runs (same_set job) job.segments) → build job room ≡ done res → (st : State) × Inv st [] × (st.registers ≡ res.registers)
  unfolding build
  built_kept res i e =
      let b = bind_done (build_sets job room (runs (same_set job) job.segments) empty) _ res e in
      (b.0, all_sets_kept (runs (same_set job) job.segments) empty b.0 i b.1, cc)
