-- Counting: what a cut parts, a turn moves to the turned use and a conflict piece takes from there is the same in the job and in the result. Assumes nothing.
use mathlib.Core.Path.{◌≡◌, refl, ap, ◌∙◌, subst}
use Prim.Native.Nat.{ℕ, ◌+◌, ◌-◌, ◌≤◌, ◌<◌}
use native.Mathlib.Omega.{arith}
use mathlib.Core.Bool.{Bool, true, false}
use mathlib.Core.Option.{Option}
use mathlib.Core.List.{List, [], ◌∷◌, ◌++◌, map}
use lib.ListN.{length, get_or, length-append, get_or-append}
use lib.Seq.{get_or-append-add}
use lib.Dec.{ltb}
use borrow.Author.Tests.{ltb-true, ltb-false}
use Rattle.definition.specs.Types.{Hint, Inst, Job, Own, Piece, Room, Segment, State, Turned, Use, Value, ValueSet, done}
use Rattle.definition.specs.RegInfo.{set_of}
use Rattle.definition.specs.Uses.{is_class_use}
use Rattle.definition.specs.Admit.{fresh, no_use, use_at}
use Rattle.definition.specs.Place.{segs_of, total, uses_of}
use Rattle.definition.specs.Build.{Result, as_own, build, build_set, conflict_piece, runs, same_set, turn_at, turn_in, turned_at, turned_of, with_uses}
use Rattle.definition.proofs.Cuts.{PartedBy, cut_total}
use Rattle.definition.proofs.Moves.{ClassAt}
use Rattle.definition.proofs.Places.{All, Groups, counted, placed, scan_target, total_append}
use Rattle.definition.proofs.Builder.{Keeps, Part, Placing, all, before, built_kept, joined, joined_runs, set_kept}

-- ---- sums

total_map : {A B : Type 0} (f : B → ℕ) (g : A → B) (xs : List A) → total f (map g xs) ≡ total (λ x. f (g x)) xs
unfolding total
total_map f g [] = refl
total_map f g (x ∷ xs) = ap (λ (n : ℕ). f (g x) + n) (total_map f g xs)

total_joined : {A : Type 0} (f : A → ℕ) (rs : List (List A)) → total (λ r. total f r) rs ≡ total f (joined rs)
unfolding total
total_joined f [] = refl
total_joined f (r ∷ rs) = omega (arith, total_joined f rs, total_append f r (joined rs))

-- ---- a class use of two lists stands in the one or in the other

pub class_left : (us vs : List Use) (n : ℕ) → n < length us → ClassAt (us ++ vs) n → ClassAt us n
class_left us vs n l c =
    let q : use_at (us ++ vs) n ≡ use_at us n = get_or-append us vs no_use n l in
    (l, subst (λ (u : Use). is_class_use u.kind ≡ true) q c.1)

pub class_right : (us vs : List Use) (n : ℕ) → length us ≤ n → ClassAt (us ++ vs) n → ClassAt vs (n - length us)
class_right us vs n l c =
    let q : use_at (us ++ vs) n ≡ use_at vs (n - length us) =
    ap (λ (i : ℕ). get_or (us ++ vs) i no_use) (omega arith) ∙ get_or-append-add us vs (n - length us) no_use in
    (omega (arith, length-append us vs), subst (λ (u : Use). is_class_use u.kind ≡ true) q c.1)

-- ---- a register is placed

-- the state st' holds n more than st, and its groups name registers
abbrev pub Grown : (Piece → ℕ) → ℕ → State → State → Type 0
Grown μ n st st' = (counted μ st'.registers ≡ counted μ st.registers + n) × Groups st'

pub placing_grown : (μ : Piece → ℕ) (job : Job) (room : Room) (u : ValueSet) (new : List Piece) (st st' : State) → Groups st → Placing job room u new st st' → Grown μ (total μ new) st st'
unfolding fresh
placing_grown μ job room u new st st' gs p =
    placed μ job room u p.held new st gs st' (scan_target job st gs (uses_of (segs_of new)) (fresh p.top) p.held tt p.admitted) p.put

-- a part of the job's ranges, as a piece
abbrev pub own : Segment → Piece
own s = record { origin = Own; seg = s }

pub own_grown : (μ : Piece → ℕ) (job : Job) (room : Room) (u : ValueSet) (ss : List Segment) (st st' : State) → Groups st → Placing job room u (as_own ss) st st'
    → Grown μ (total (λ s. μ (own s)) ss) st st'
own_grown μ job room u ss st st' gs p = rw (← total_map μ own ss) (placing_grown μ job room u (as_own ss) st st' gs p)

-- ---- what is counted of pieces and of turned uses

pub record Measure (μ : Piece → ℕ) (τ : Turned → ℕ) : Type 0 where
  pub parted : (hs : List Hint) (p : Inst) → PartedBy (λ s. μ (own s)) hs p
  pub turned : (n : ℕ) (s : Segment) → ClassAt s.uses n → μ (own (with_uses (turn_in n s.uses) s)) + τ (turned_of n s) ≡ μ (own s)
  pub taken : (v : Value) (p : Inst) (o : Option ℕ) (ts : List Turned) → All (λ t. t.value ≡ v) ts → μ (conflict_piece v p o ts) ≡ total τ ts

module _ (μ : Piece → ℕ) (τ : Turned → ℕ) (m : Measure μ τ) where
  abbrev ranges : List Segment → ℕ
  ranges ss = total (λ s. μ (own s)) ss

  part_total : (hs : List Hint) {ss l r : List Segment} → Part hs ss l r → ranges l + ranges r ≡ ranges ss
  unfolding total
  part_total hs (all ss) = omega arith
  part_total hs (before p ss) = cut_total (λ s. μ (own s)) hs p (m.parted hs p) ss

  turn_total : (n : ℕ) (ss : List Segment) → ClassAt (uses_of ss) n → ranges (turn_at n ss) + τ (turned_at n ss) ≡ ranges ss
  unfolding total turn_at turned_at uses_of
  turn_total n [] c = absurd (omega arith)
  turn_total n (s ∷ ss) c = go (ltb n (length s.uses)) refl (λ d. turn_total (n - length s.uses) ss d)
    where
      go : (b : Bool) → ltb n (length s.uses) ≡ b
          → (ClassAt (uses_of ss) (n - length s.uses) → ranges (turn_at (n - length s.uses) ss) + τ (turned_at (n - length s.uses) ss) ≡ ranges ss)
          → ranges (turn_at n (s ∷ ss)) + τ (turned_at n (s ∷ ss)) ≡ μ (own s) + ranges ss
      go true e ih = rw (e, turn_at, turned_at) (omega (arith, m.turned n s (class_left s.uses (uses_of ss) n (ltb-true _ _ e) c)))
      go false e ih = rw (e, turn_at, turned_at) (omega (arith, ih (class_right s.uses (uses_of ss) n (ltb-false _ _ e) c)))

  -- what is placed, what is not placed yet and what is turned, together n
  abbrev Level : ℕ → State → List Segment → List Turned → Type 0
  Level n st ss ts = (counted μ st.registers + ranges ss + total τ ts ≡ n) × Groups st

  level_kept : (job : Job) (room : Room) (u : ValueSet) (n : ℕ) → Keeps job room u (Level n)
  unfolding total
  level_kept job room u n = record {
    part = λ ss l r ts st st' p x i. let g = own_grown μ job room u l st st' i.1 x in (omega (arith, i.0, g.0, part_total job.hints p), g.1);
    turned = λ n ss ts st c i. (omega (arith, i.0, turn_total n ss c, total_append τ ts (turned_at n ss ∷ [])), i.1);
    conflict = λ v p o w ws us left more st st' x a y i.
        let g = placing_grown μ job room u (conflict_piece v p o (w ∷ ws) ∷ []) st st' i.1 y in
        (omega (arith, i.0, g.0, m.taken v p o (w ∷ ws) a, x.sums τ, total_append τ us more, total_append τ left more), g.1);
  }

  -- the same with the sets to come
  abbrev AllLevel : ℕ → State → List (List Segment) → Type 0
  AllLevel n st rest = (counted μ st.registers + total ranges rest ≡ n) × Groups st

  set_level : (job : Job) (room : Room) (n : ℕ) (s : Segment) (ss : List Segment) (rest : List (List Segment)) (st st' : State) → AllLevel n st ((s ∷ ss) ∷ rest)
      → build_set job room (s ∷ ss) st ≡ done st' → AllLevel n st' rest
  unfolding total
  set_level job room n s ss rest st st' i e =
      let k = counted μ st.registers + ranges (s ∷ ss) in
      let j = set_kept job room s ss (Level k) (level_kept job room (set_of job s.value) k) st st' (omega arith, i.1) e in
      (omega (arith, i.0, j.0), j.1)

  -- the pieces of an accepted job's result count as its segments do
  pub measured : (job : Job) (room : Room) (res : Result) → build job room ≡ done res → counted μ res.registers ≡ total (λ s. μ (own s)) job.segments
  unfolding total counted
  measured job room res e =
      let rs = runs (same_set job) job.segments in
      let n = total ranges rs in
      let b = built_kept job room (AllLevel n) (set_level job room n) (λ rest st i. (omega (arith, i.0), i.1)) res (omega arith, tt) e in
      let q : total ranges rs ≡ ranges job.segments = total_joined (λ s. μ (own s)) rs ∙ ap ranges (joined_runs (same_set job) job.segments) in
      rw (← b.2) (omega (arith, b.1.0, q))
