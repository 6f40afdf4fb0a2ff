-- The own pieces of a set in the order that the run makes them: they count as those in the tables, follow each other, and list the input's uses. Assumes nothing.
use mathlib.Core.Path.{◌≡◌, refl, ap, sym, ◌∙◌, subst}
use mathlib.Core.Logic.{inl, inr}
use Prim.Native.Nat.{ℕ, zero, suc, ◌+◌, ◌-◌, ◌*◌, ◌≤◌, ◌<◌}
use native.Mathlib.Omega.{arith}
use mathlib.Core.Bool.{Bool, true, false, cond, ◌&&◌, ◌||◌}
use mathlib.Core.List.{List, [], ◌∷◌, ◌++◌, append_assoc, append-nil}
use lib.ListN.{length}
use lib.Dec.{leb, ltb, eqb}
use borrow.Author.Tests.{ltb-true, ltb-false, eqb-true, eqb-false, eq-eqb, ne_eqb}
use Rattle.definition.specs.Types.{Hint, Inst, Job, Register, Room, Segment, State, Use, Value, ValueSet, done, vset}
use Rattle.definition.specs.RegInfo.{set_of}
use Rattle.definition.specs.Uses.{is_class_use}
use Rattle.definition.specs.Cuts.{left_cut, left_of, right_cut, right_of}
use Rattle.definition.specs.Place.{total, uses_of}
use Rattle.definition.specs.Build.{Result, build, build_set, conflict_piece, onto, runs, same_set, turn_at, turn_in, turned_use}
use Rattle.definition.specs.Entry.{in_order, chained}
use Rattle.definition.specs.Promised.{Follows, Listed, StandsFor, of_set, under, valued}
use Rattle.definition.proofs.Cuts.{uses_cut}
use Rattle.definition.proofs.Moves.{ClassAt}
use Rattle.definition.proofs.Fits.{SegsFit, turn_fit, right_fit}
use Rattle.definition.proofs.Places.{total_append, counted, Groups, All, all_append}
use Rattle.definition.proofs.Builder.{Keeps, Part, all, before, built_kept, joined, joined_runs, part_all, set_kept, turn_all}
use Rattle.definition.proofs.Measures.{Grown, class_left, class_right, own_grown, placing_grown}
use Rattle.definition.proofs.Points.{of_own}
use Rattle.definition.proofs.Entries.{and_both, Good, next_to, from_on}

-- ---- uses, place by place

listed_refl : (xs : List (Value × Use)) → Listed xs xs
listed_refl [] = tt
listed_refl (x ∷ xs) = ((refl, inl refl), listed_refl xs)

stands_trans : (a b c : Value × Use) → StandsFor a b → StandsFor b c → StandsFor a c
stands_trans a b c (e, inl f) (g, inl h) = (g ∙ e, inl (h ∙ f))
stands_trans a b c (e, inl f) (g, inr h) = (g ∙ e, inr (subst (λ (u : Use). is_class_use u.kind ≡ true) f h.0, h.1 ∙ ap turned_use f))
stands_trans a b c (e, inr f) (g, inl h) = (g ∙ e, inr (f.0, h ∙ f.1))
stands_trans a b c (e, inr f) (g, inr h) =
    let q : is_class_use (turned_use a.1).kind ≡ true = subst (λ (u : Use). is_class_use u.kind ≡ true) f.1 h.0 in
    let z : ◌≡◌ {A = ℕ} 0 1 = cc in absurd (omega arith)

listed_trans : (xs ys zs : List (Value × Use)) → Listed xs ys → Listed ys zs → Listed xs zs
listed_trans [] [] [] h k = tt
listed_trans [] [] (z ∷ zs) h k = absurd k
listed_trans [] (y ∷ ys) zs h k = absurd h
listed_trans (x ∷ xs) [] zs h k = absurd h
listed_trans (x ∷ xs) (y ∷ ys) [] h k = absurd k
listed_trans (x ∷ xs) (y ∷ ys) (z ∷ zs) h k = (stands_trans x y z h.0 k.0, listed_trans xs ys zs h.1 k.1)

listed_append : (xs ys vs ws : List (Value × Use)) → Listed xs ys → Listed vs ws → Listed (xs ++ vs) (ys ++ ws)
listed_append [] [] vs ws h k = k
listed_append [] (y ∷ ys) vs ws h k = absurd h
listed_append (x ∷ xs) [] vs ws h k = absurd h
listed_append (x ∷ xs) (y ∷ ys) vs ws h k = (h.0, listed_append xs ys vs ws h.1 k)

under_append : (v : Value) (us ws : List Use) → under v (us ++ ws) ≡ under v us ++ under v ws
under_append v [] ws = refl
under_append v (u ∷ us) ws = ap (λ (l : List (Value × Use)). (v, u) ∷ l) (under_append v us ws)

valued_append : (ss rs : List Segment) → valued (ss ++ rs) ≡ valued ss ++ valued rs
unfolding valued
valued_append [] rs = refl
valued_append (s ∷ ss) rs = ap (λ (l : List (Value × Use)). under s.value s.uses ++ l) (valued_append ss rs) ∙ sym (append_assoc (under s.value s.uses) (valued ss) (valued rs))

-- ---- a cut keeps them; a turn marks one

module _ (hs : List Hint) (p : Inst) where
  cut_valued : (ss : List Segment) → valued (left_cut hs p ss) ++ valued (right_cut hs p ss) ≡ valued ss
  unfolding valued left_cut right_cut left_of right_of
  cut_valued [] = refl
  cut_valued (s ∷ ss) = go (leb s.to.0 (4 * p.0)) (ltb s.«from».0 (4 * p.0)) refl refl (cut_valued ss)
    where
      go : (a b : Bool) → leb s.to.0 (4 * p.0) ≡ a → ltb s.«from».0 (4 * p.0) ≡ b
          → valued (left_cut hs p ss) ++ valued (right_cut hs p ss) ≡ valued ss
          → valued (left_cut hs p (s ∷ ss)) ++ valued (right_cut hs p (s ∷ ss)) ≡ under s.value s.uses ++ valued ss
      go true b e f ih = rw (e, left_cut, right_cut) (rw (append_assoc, ih))
      go false true e f ih = rw (e, f, left_cut, right_cut) (rw (append-nil, ← append_assoc, ← under_append, uses_cut))
      go false false e f ih = rw (e, f, left_cut, right_cut)

under_turn : (v : Value) (n : ℕ) (us : List Use) → ClassAt us n → Listed (under v us) (under v (turn_in n us))
unfolding turn_in
under_turn v n [] c = absurd (omega arith)
under_turn v zero (u ∷ us) c = ((refl, inr (c.1, refl)), listed_refl (under v us))
under_turn v (suc n) (u ∷ us) c = ((refl, inl refl), under_turn v n us (omega arith, c.1))

turn_listed : (n : ℕ) (ss : List Segment) → ClassAt (uses_of ss) n → Listed (valued ss) (valued (turn_at n ss))
unfolding valued turn_at uses_of
turn_listed n [] c = absurd (omega arith)
turn_listed n (s ∷ ss) c = go (ltb n (length s.uses)) refl (λ d. turn_listed (n - length s.uses) ss d)
  where
    go : (b : Bool) → ltb n (length s.uses) ≡ b → (ClassAt (uses_of ss) (n - length s.uses) → Listed (valued ss) (valued (turn_at (n - length s.uses) ss)))
        → Listed (under s.value s.uses ++ valued ss) (valued (turn_at n (s ∷ ss)))
    go true e ih =
        rw (e, turn_at) (listed_append (under s.value s.uses) (under s.value (turn_in n s.uses)) (valued ss) (valued ss)
        (under_turn s.value n s.uses (class_left s.uses (uses_of ss) n (ltb-true _ _ e) c)) (listed_refl (valued ss)))
    go false e ih =
        rw (e, turn_at) (listed_append (under s.value s.uses) (under s.value s.uses) (valued ss) (valued (turn_at (n - length s.uses) ss))
        (listed_refl (under s.value s.uses)) (ih (class_right s.uses (uses_of ss) n (ltb-false _ _ e) c)))

-- ---- segments that follow each other

-- the part before a cut, and what is made of the part behind it
cut_follows : (hs : List Hint) (p : Inst) (made : List Segment) (ss : List Segment) (q : ℕ) → SegsFit q ss → ((r : ℕ) → SegsFit r (right_cut hs p ss) → Follows r made)
    → Follows q (left_cut hs p ss ++ made)
unfolding left_cut right_cut left_of
cut_follows hs p made [] q h f = f q tt
cut_follows hs p made (s ∷ ss) q h f = go (leb s.to.0 (4 * p.0)) (ltb s.«from».0 (4 * p.0)) refl refl f (λ f'. cut_follows hs p made ss s.to.0 h.3 f')
  where
    go : (a b : Bool) → leb s.to.0 (4 * p.0) ≡ a → ltb s.«from».0 (4 * p.0) ≡ b → ((r : ℕ) → SegsFit r (right_cut hs p (s ∷ ss)) → Follows r made)
        → (((r : ℕ) → SegsFit r (right_cut hs p ss) → Follows r made) → Follows s.to.0 (left_cut hs p ss ++ made)) → Follows q (left_cut hs p (s ∷ ss) ++ made)
    go true b e g f ih =
        let same : right_cut hs p (s ∷ ss) ≡ right_cut hs p ss = rw (e, right_cut) in
        rw (e, left_cut) (h.0, h.1, ih (λ r k. f r (rw same k)))
    go false true e g f ih = rw (e, g, left_cut) (h.0, ltb-true _ _ g, f (4 * p.0) (right_fit hs p (s ∷ ss) q h))
    go false false e g f ih =
        let same : right_cut hs p (s ∷ ss) ≡ s ∷ ss = rw (e, g, right_cut) in
        rw (e, g, left_cut) (f q (rw same h))

-- ---- the values that the segments are of

abbrev pub AllOf : Job → ValueSet → List Segment → Type 0
AllOf job u ss = All (λ s. set_of job s.value ≡ u) ss

-- ---- a part that is placed, and what is left

module _ (hs : List Hint) where
  part_valued : {ss l r : List Segment} → Part hs ss l r → valued l ++ valued r ≡ valued ss
  unfolding valued
  part_valued (all ss) = append-nil (valued ss)
  part_valued (before p ss) = cut_valued hs p ss

  pub part_follows : {ss l r : List Segment} → Part hs ss l r → (made : List Segment) (q : ℕ) → SegsFit q ss
      → ((n : ℕ) → SegsFit n r → Follows n made) → Follows q (l ++ made)
  part_follows (all ss) made q h f = go ss q h
    where
      go : (ss : List Segment) (q : ℕ) → SegsFit q ss → Follows q (ss ++ made)
      go [] q h = f q tt
      go (s ∷ ss) q h = (h.0, h.1, go ss s.to.0 h.3)
  part_follows (before p ss) made q h f = cut_follows hs p made ss q h f

-- ---- what a run over the segments ss₀ has made where the segments ss are left

pub record Made (job : Job) (st₀ : State) (ss₀ : List Segment) (st : State) (ss : List Segment) : Type 0 where
  -- the own pieces that it added, in order
  pub pieces : List Segment
  pub counts : (ν : Segment → ℕ) → counted (of_own ν) st.registers ≡ counted (of_own ν) st₀.registers + total ν pieces
  pub follow : (made : List Segment) → ((q : ℕ) → SegsFit q ss → Follows q made) → (q : ℕ) → SegsFit q ss₀ → Follows q (pieces ++ made)
  pub listed : Listed (valued ss₀) (valued pieces ++ valued ss)
  pub led : (u : ValueSet) → AllOf job u ss₀ → AllOf job u pieces × AllOf job u ss
  pub groups : Groups st

made_kept : (job : Job) (room : Room) (set' : ValueSet) (st₀ : State) (ss₀ : List Segment) → Keeps job room set' (λ st ss ts. Made job st₀ ss₀ st ss)
unfolding conflict_piece total left_of right_of
made_kept job room set' st₀ ss₀ = record {
  part = λ ss l r ts st st' p x i.
      let g : (ν : Segment → ℕ) → Grown (of_own ν) (total ν l) st st' = λ ν. own_grown (of_own ν) job room set' l st st' i.groups x in
      record {
        pieces = i.pieces ++ l;
        counts = λ ν. omega (arith, i.counts ν, (g ν).0, total_append ν i.pieces l);
        follow = λ made f q h. rw append_assoc (i.follow (l ++ made) (λ n k. part_follows job.hints p made n k f) q h);
        listed = rw (valued_append, append_assoc, part_valued job.hints p) i.listed;
        led = λ u a.
            let c = i.led u a in
            let d = part_all (λ s. set_of job s.value ≡ u) job.hints (λ p s l a. (a, a)) p c.1 in
            (all_append (λ s. set_of job s.value ≡ u) i.pieces l c.0 d.0, d.1);
        groups = (g (λ _. 0)).1;
      };
  turned = λ n ss ts st c i. record {
    pieces = i.pieces;
    counts = i.counts;
    follow = λ made f. i.follow made (λ q h. f q (turn_fit ss n q h));
    listed = listed_trans (valued ss₀) (valued i.pieces ++ valued ss) (valued i.pieces ++ valued (turn_at n ss)) i.listed
        (listed_append (valued i.pieces) (valued i.pieces) (valued ss) (valued (turn_at n ss)) (listed_refl (valued i.pieces)) (turn_listed n ss c));
    led = λ u a. ((i.led u a).0, turn_all (λ s. set_of job s.value ≡ u) (λ n s a. a) n ss (i.led u a).1);
    groups = i.groups;
  };
  conflict = λ v p o w ws us left more st st' x a y i.
      let g : (ν : Segment → ℕ) → Grown (of_own ν) 0 st st' = λ ν. placing_grown (of_own ν) job room set' (conflict_piece v p o (w ∷ ws) ∷ []) st st' i.groups y in
      record {
        pieces = i.pieces;
        counts = λ ν. omega (arith, i.counts ν, (g ν).0);
        follow = i.follow;
        listed = i.listed;
        led = i.led;
        groups = (g (λ _. 0)).1;
      };
}

set_made : (job : Job) (room : Room) (s : Segment) (ss : List Segment) (st st' : State) → Groups st → build_set job room (s ∷ ss) st ≡ done st' → Made job st (s ∷ ss) st' []
unfolding valued total
set_made job room s ss st st' gs e =
    set_kept job room s ss (λ st'' ss'' ts. Made job st (s ∷ ss) st'' ss'') (made_kept job room (set_of job s.value) st (s ∷ ss)) st st' (record {
      pieces = [];
      counts = λ ν. omega arith;
      follow = λ made f. f;
      listed = listed_refl (valued (s ∷ ss));
      led = λ u a. (tt, a);
      groups = gs;
    }) e

-- ---- the sets rise

abbrev pub Rise : Job → ℕ → List (List Segment) → Type 0
Rise job t [] = Unit {0}
Rise job t ([] ∷ rs) = Rise job t rs
Rise job t ((c ∷ cs) ∷ rs) = (t ≤ (set_of job c.value).0) × AllOf job (set_of job c.value) cs × SegsFit 0 (c ∷ cs) × Rise job (suc (set_of job c.value).0) rs

onto_first : {A : Type 0} (alike : A → A → Bool) (a : A) (rs : List (List A)) → (xs : List A) × (ys : List (List A)) × (onto alike a rs ≡ (a ∷ xs) ∷ ys)
onto_first alike a [] = ([], [], refl)
onto_first alike a ([] ∷ cs) = ([], cs, refl)
onto_first {A} alike a ((c ∷ cs) ∷ ds) = go (alike a c)
  where
    go : (b : Bool) → (xs : List A) × (ys : List (List A)) × (cond b ((a ∷ c ∷ cs) ∷ ds) ((a ∷ []) ∷ (c ∷ cs) ∷ ds) ≡ (a ∷ xs) ∷ ys)
    go true = (c ∷ cs, ds, refl)
    go false = ([], (c ∷ cs) ∷ ds, refl)

-- a segment behind another one is of the same set or of a higher one
order_set : (job : Job) (s t : Segment) → in_order job s t ≡ true → (set_of job s.value).0 ≤ (set_of job t.value).0
unfolding in_order
order_set job s t e = go (ltb (set_of job s.value).0 (set_of job t.value).0) refl e
  where
    go : (b : Bool) → ltb (set_of job s.value).0 (set_of job t.value).0 ≡ b → (b || (same_set job s t && leb s.to.0 t.«from».0)) ≡ true → (set_of job s.value).0 ≤ (set_of job t.value).0
    go true a d = let l : (set_of job s.value).0 < (set_of job t.value).0 = ltb-true _ _ a in omega arith
    go false a d = let q : (set_of job s.value).0 ≡ (set_of job t.value).0 = eqb-true _ _ (and_both (same_set job s t) (leb s.to.0 t.«from».0) d).0 in omega arith

pub runs_rise : (job : Job) (s : Segment) (ss : List Segment) → All (Good job) (s ∷ ss) → chained (in_order job) (s ∷ ss) ≡ true → Rise job (set_of job s.value).0 (runs (same_set job) (s ∷ ss))
unfolding runs chained
runs_rise job s [] g c = (omega arith, tt, (omega arith, g.0.0, g.0.1, tt), tt)
runs_rise job s (t ∷ ss) g c =
    let d = and_both (in_order job s t) (chained (in_order job) (t ∷ ss)) c in
    let o = onto_first (same_set job) t (runs (same_set job) ss) in
    let ih : Rise job (set_of job t.value).0 ((t ∷ o.0) ∷ o.1) = subst (Rise job (set_of job t.value).0) o.2 (runs_rise job t ss g.1 d.1) in
    subst (λ (l : List (List Segment)). Rise job (set_of job s.value).0 (onto (same_set job) s l)) (sym o.2) (go o.0 o.1 d.0 ih (same_set job s t) refl)
  where
    go : (xs : List Segment) (ys : List (List Segment)) → in_order job s t ≡ true → Rise job (set_of job t.value).0 ((t ∷ xs) ∷ ys) → (b : Bool) → same_set job s t ≡ b
        → Rise job (set_of job s.value).0 (cond b ((s ∷ t ∷ xs) ∷ ys) ((s ∷ []) ∷ (t ∷ xs) ∷ ys))
    go xs ys e r true f =
        let n : (set_of job s.value).0 ≡ (set_of job t.value).0 = eqb-true _ _ f in
        let q : set_of job s.value ≡ set_of job t.value = ap vset n in
        (omega arith, (sym q, subst (λ (v : ValueSet). AllOf job v xs) (sym q) r.1), (omega arith, g.0.0, g.0.1, from_on job s.to.0 t xs (next_to job s t e f) r.2), rw q r.3)
    go xs ys e r false f =
        let n : (set_of job s.value).0 ≡ (set_of job t.value).0 → ⊥ = eqb-false _ _ f in
        let l = order_set job s t e in
        (omega arith, tt, (omega arith, g.0.0, g.0.1, tt), (omega arith, r.1, r.2, r.3))

-- ---- what is of the set s

abbrev number : ValueSet → ℕ
number s = s.0

abbrev pub led_by : Job → ValueSet → (Segment → ℕ) → Segment → ℕ
led_by job s ν x = cond (eqb (set_of job x.value).0 s.0) (ν x) 0

module _ (job : Job) (s : ValueSet) where
  of_append : (xs ys : List Segment) → of_set job s (xs ++ ys) ≡ of_set job s xs ++ of_set job s ys
  unfolding of_set
  of_append [] ys = refl
  of_append (x ∷ xs) ys = go (eqb (set_of job x.value).0 s.0) (of_append xs ys)
    where
      go : (b : Bool) → of_set job s (xs ++ ys) ≡ of_set job s xs ++ of_set job s ys
          → cond b (x ∷ of_set job s (xs ++ ys)) (of_set job s (xs ++ ys)) ≡ cond b (x ∷ of_set job s xs) (of_set job s xs) ++ of_set job s ys
      go true ih = ap (λ (l : List Segment). x ∷ l) ih
      go false ih = ih

  of_same : (xs : List Segment) → AllOf job s xs → of_set job s xs ≡ xs
  unfolding of_set
  of_same [] a = refl
  of_same (x ∷ xs) a = rw (eq-eqb _ _ (ap number a.0)) (ap (λ (l : List Segment). x ∷ l) (of_same xs a.1))

  of_other : (u : ValueSet) (xs : List Segment) → (u.0 ≡ s.0 → ⊥) → AllOf job u xs → of_set job s xs ≡ []
  unfolding of_set
  of_other u [] n a = refl
  of_other u (x ∷ xs) n a = rw (ne_eqb _ _ (λ e. n (sym (ap number a.0) ∙ e))) (of_other u xs n a.1)

  pub of_total : (ν : Segment → ℕ) (xs : List Segment) → total (led_by job s ν) xs ≡ total ν (of_set job s xs)
  unfolding of_set total
  of_total ν [] = refl
  of_total ν (x ∷ xs) = go (eqb (set_of job x.value).0 s.0) (of_total ν xs)
    where
      go : (b : Bool) → total (led_by job s ν) xs ≡ total ν (of_set job s xs) → cond b (ν x) 0 + total (led_by job s ν) xs ≡ total ν (cond b (x ∷ of_set job s xs) (of_set job s xs))
      go true ih = omega arith
      go false ih = omega arith

-- ---- the pieces of the set s

-- what was made of it where the segments `left` are to come, of sets from number t on
record MadeOf (job : Job) (s : ValueSet) (st : State) (t : ℕ) (left : List Segment) : Type 0 where
  pieces : List Segment
  none : t ≤ s.0 → pieces ≡ []
  counts : (ν : Segment → ℕ) → counted (of_own (led_by job s ν)) st.registers ≡ total ν pieces
  follow : Follows 0 pieces
  listed : Listed (valued (of_set job s job.segments)) (valued pieces ++ valued (of_set job s left))
  groups : Groups st

abbrev MadeTo : Job → ValueSet → State → List (List Segment) → Type 0
MadeTo job s st rest = (t : ℕ) × Rise job t rest × MadeOf job s st t (joined rest)

set_of_lem : (job : Job) (room : Room) (s : ValueSet) (c : Segment) (cs : List Segment) (rest : List (List Segment)) (st st' : State) → MadeTo job s st ((c ∷ cs) ∷ rest)
    → build_set job room (c ∷ cs) st ≡ done st' → MadeTo job s st' rest
unfolding total valued
set_of_lem job room s c cs rest st st' (t, r, i) e = (suc (set_of job c.value).0, r.3, go (set_made job room c cs st st' i.groups e) (eqb (set_of job c.value).0 s.0) refl)
  where
    here : AllOf job (set_of job c.value) (c ∷ cs)
    here = (refl, r.1)

    go : (m : Made job st (c ∷ cs) st' []) (b : Bool) → eqb (set_of job c.value).0 s.0 ≡ b → MadeOf job s st' (suc (set_of job c.value).0) (joined rest)
    go m true f =
        let n : (set_of job c.value).0 ≡ s.0 = eqb-true _ _ f in
        let q : set_of job c.value ≡ s = ap vset n in
        let first : i.pieces ≡ [] = i.none (omega (arith, r.0)) in
        let a : AllOf job s m.pieces = subst (λ (x : ValueSet). AllOf job x m.pieces) q (m.led (set_of job c.value) here).0 in
        let front : of_set job s (c ∷ cs) ≡ c ∷ cs = of_same job s (c ∷ cs) (subst (λ (x : ValueSet). AllOf job x (c ∷ cs)) q here) in
        let later = valued (of_set job s (joined rest)) in
        let listed' : Listed (valued (of_set job s job.segments)) (valued (c ∷ cs) ++ later) =
        rw (first, of_append job s (c ∷ cs) (joined rest), front, valued_append (c ∷ cs) (of_set job s (joined rest))) at i.listed in
        record {
          pieces = m.pieces;
          none = λ l. absurd (omega arith);
          counts = λ ν. omega (arith, m.counts (led_by job s ν), i.counts ν, ap (total ν) first, of_total job s ν m.pieces, ap (total ν) (of_same job s m.pieces a));
          follow = rw append-nil at (m.follow [] (λ n h. tt) 0 r.2);
          listed = listed_trans (valued (of_set job s job.segments)) (valued (c ∷ cs) ++ later) (valued m.pieces ++ later) listed'
              (listed_append (valued (c ∷ cs)) (valued m.pieces) later later (rw append-nil at m.listed) (listed_refl later));
          groups = m.groups;
        }
    go m false f =
        let n : (set_of job c.value).0 ≡ s.0 → ⊥ = eqb-false _ _ f in
        let front : of_set job s (c ∷ cs) ≡ [] = of_other job s (set_of job c.value) (c ∷ cs) n here in
        record {
          pieces = i.pieces;
          none = λ l. i.none (omega (arith, r.0));
          counts = λ ν. omega (
            arith,
            m.counts (led_by job s ν),
            i.counts ν,
            of_total job s ν m.pieces,
            ap (total ν) (of_other job s (set_of job c.value) m.pieces n (m.led (set_of job c.value) here).0),
          );
          follow = i.follow;
          listed = rw (of_append job s (c ∷ cs) (joined rest), front) at i.listed;
          groups = m.groups;
        }

-- a result: the own pieces of set s in order
pub record InOrder (job : Job) (s : ValueSet) (rs : List Register) : Type 0 where
  pub pieces : List Segment
  pub counts : (ν : Segment → ℕ) → counted (of_own (led_by job s ν)) rs ≡ total ν pieces
  pub follow : Follows 0 pieces
  pub listed : Listed (valued (of_set job s job.segments)) (valued pieces)

pub built_in_order : (job : Job) (room : Room) (res : Result) (s : ValueSet) (t : ℕ) → Rise job t (runs (same_set job) job.segments) → build job room ≡ done res → InOrder job s res.registers
unfolding counted total valued of_set
built_in_order job room res s t r e =
    let b = built_kept job room (MadeTo job s) (set_of_lem job room s) (λ rest st i. i) res (
      t,
      r,
      record {
        pieces = [];
        none = λ l. refl;
        counts = λ ν. refl;
        follow = tt;
        listed = rw (joined_runs (same_set job) job.segments) (listed_refl (valued (of_set job s job.segments)));
        groups = tt;
      },
    ) e in
    let m = b.1.2 in
    record {
      pieces = m.pieces;
      counts = λ ν. ap (λ (l : List Register). counted (of_own (led_by job s ν)) l) (sym b.2) ∙ m.counts ν;
      follow = m.follow;
      listed = rw append-nil at m.listed;
    }
