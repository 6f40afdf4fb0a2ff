-- The definition's cuts are document 01's: `early_rule` and `late_rule`. And there is one such place: `one_earliest`, `one_latest`. Assumes nothing.
use Prim.Native.Nat.{ℕ, zero, suc, ◌+◌, ◌-◌, ◌≤◌, ◌<◌}
use native.Mathlib.Omega.{arith}
use mathlib.Core.Path.{◌≡◌, refl, ap, ◌∙◌}
use mathlib.Core.Logic.{◌⊎◌, inl, inr}
use mathlib.Core.Bool.{Bool, true, false, ◌&&◌, cond}
use mathlib.Core.List.{List, [], ◌∷◌, ◌++◌}
use lib.Dec.{leb, ltb}
use lib.ListN.{length}
use lib.Ieee.{Float}
use borrow.Author.Tests.{ltb-true, leb-true, lt-ltb, le-leb}
use Rattle.definition.specs.declared.BlockData.{BlockData}
use Rattle.definition.specs.declared.Side.TheVariants.{Early, Late}
use Rattle.definition.specs.Entry.{plain, every, block_ok}
use Rattle.definition.specs.SplitPlacement.{freq_at, starts, ends, keep, early_cut, late_cut}
use Rattle.function.specs.Bools.{and_l, and_r, both}
use Rattle.function.specs.Blocks.{start_of}
use Rattle.function.specs.BlockLaws.{block_plain}
use Rattle.split_placement.specs.Places.{EarlyPlace, next, start, LatePlace, last, end, EarliestLeast, LatestLeast}
use Rattle.split_placement.proofs.Wins.{one_wins}
use Rattle.split_placement.proofs.Folds.{In, Rising, Wanted, not_both, early_best, late_best}

-- ---- one place is wanted

pub one_earliest : (Place : ℕ → Type 0) (price : ℕ → Float) (c d : ℕ) → EarliestLeast Place price c → EarliestLeast Place price d → c ≡ d
one_earliest Place price c d f g = one_wins (not_both price) Early Place c d f.place g.place (wins c f) (wins d g)
  where
    wins : (x : ℕ) → EarliestLeast Place price x → (p : ℕ) → Place p → Wanted price Early x p
    wins x f p q = record { least = f.least p q; ahead = f.earliest p q }

pub one_latest : (Place : ℕ → Type 0) (price : ℕ → Float) (c d : ℕ) → LatestLeast Place price c → LatestLeast Place price d → c ≡ d
one_latest Place price c d f g = one_wins (not_both price) Late Place c d f.place g.place (wins c f) (wins d g)
  where
    wins : (x : ℕ) → LatestLeast Place price x → (p : ℕ) → Place p → Wanted price Late x p
    wins x f p q = record { least = f.least p q; ahead = f.latest p q }

-- ---- every frequency is finite and not negative

pub frequency_plain : (bs : List BlockData) → every block_ok bs ≡ true → (i : ℕ) → plain (freq_at bs i) ≡ true
unfolding every freq_at
frequency_plain [] e i = refl
frequency_plain (b ∷ bs) e i =
    go (ltb i b.insts) (block_plain b (and_l (block_ok b) (every block_ok bs) e)) (frequency_plain bs (and_r (block_ok b) (every block_ok bs) e) (i - b.insts))
  where
    go : (t : Bool) → plain b.frequency ≡ true → plain (freq_at bs (i - b.insts)) ≡ true → plain (elim t [ true ↦ b.frequency | false ↦ freq_at bs (i - b.insts) ]) ≡ true
    go true f g = f
    go false f g = g

-- ---- the lists of places

-- what `keep` keeps
kept : (f : ℕ → Bool) (xs : List ℕ) (x : ℕ) → In x (keep f xs) → In x xs × (f x ≡ true)
unfolding keep
kept f [] x m = absurd m
kept f (y ∷ ys) x m = go (f y) refl m (kept f ys x)
  where
    go : (t : Bool) → f y ≡ t → In x (cond t (y ∷ keep f ys) (keep f ys)) → (In x (keep f ys) → In x ys × (f x ≡ true)) → In x (y ∷ ys) × (f x ≡ true)
    go true e (inl g) r = (inl g, ap f g ∙ e)
    go true e (inr k) r = (inr (r k).0, (r k).1)
    go false e k r = (inr (r k).0, (r k).1)

keeps : (f : ℕ → Bool) (xs : List ℕ) (x : ℕ) → In x xs → f x ≡ true → In x (keep f xs)
unfolding keep
keeps f [] x m h = absurd m
keeps f (y ∷ ys) x m h = go (f y) refl m (keeps f ys x)
  where
    go : (t : Bool) → f y ≡ t → In x (y ∷ ys) → (In x ys → f x ≡ true → In x (keep f ys)) → In x (cond t (y ∷ keep f ys) (keep f ys))
    go true e (inl g) r = inl g
    go true e (inr k) r = inr (r k h)
    go false e (inl g) r = absurd (let z : ◌≡◌ {A = ℕ} 0 1 = cc (ap f g) in omega arith)
    go false e (inr k) r = r k h

keep_rises : (f : ℕ → Bool) (xs : List ℕ) → Rising xs → Rising (keep f xs)
unfolding keep
keep_rises f [] s = tt
keep_rises f (y ∷ ys) s = go (f y) (keep_rises f ys s.1)
  where
    go : (t : Bool) → Rising (keep f ys) → Rising (cond t (y ∷ keep f ys) (keep f ys))
    go true r = ((λ x m. s.0 x (kept f ys x m).0), r)
    go false r = r

-- the starts of blocks that begin at instruction i
record Begins (i : ℕ) (bs : List BlockData) (p : ℕ) : Type 0 where
  block : ℕ
  there : block < length bs
  is : p ≡ i + start_of bs block

in_starts : (i : ℕ) (bs : List BlockData) (p : ℕ) → In p (starts i bs) → Begins i bs p
unfolding starts start_of
in_starts i [] p m = absurd m
in_starts i (b ∷ bs) p (inl e) = record { block = 0; there = omega arith; is = omega arith }
in_starts i (b ∷ bs) p (inr m) =
    let r = in_starts (i + b.insts) bs p m in
    record { block = suc r.block; there = omega (arith, r.there); is = omega (arith, r.is) }

starts_in : (i : ℕ) (bs : List BlockData) (p j : ℕ) → j < length bs → p ≡ i + start_of bs j → In p (starts i bs)
unfolding starts start_of
starts_in i [] p j h e = absurd (omega arith)
starts_in i (b ∷ bs) p zero h e = inl (omega arith)
starts_in i (b ∷ bs) p (suc j) h e = inr (starts_in (i + b.insts) bs p j (omega arith) (omega arith))

starts_rise : (i : ℕ) (bs : List BlockData) → Rising (starts i bs)
unfolding starts
starts_rise i [] = tt
starts_rise i (b ∷ bs) = ((λ x m. omega (arith, (in_starts (i + b.insts) bs x m).is)), starts_rise (i + b.insts) bs)

-- their ends
record Ends (i : ℕ) (bs : List BlockData) (p : ℕ) : Type 0 where
  block : ℕ
  there : block < length bs
  is : p ≡ i + start_of bs (suc block)

in_ends : (i : ℕ) (bs : List BlockData) (p : ℕ) → In p (ends i bs) → Ends i bs p
unfolding ends start_of
in_ends i [] p m = absurd m
in_ends i (b ∷ bs) p (inl e) = record { block = 0; there = omega arith; is = omega arith }
in_ends i (b ∷ bs) p (inr m) =
    let r = in_ends (i + b.insts) bs p m in
    record { block = suc r.block; there = omega (arith, r.there); is = omega (arith, r.is) }

ends_in : (i : ℕ) (bs : List BlockData) (p j : ℕ) → j < length bs → p ≡ i + start_of bs (suc j) → In p (ends i bs)
unfolding ends start_of
ends_in i [] p j h e = absurd (omega arith)
ends_in i (b ∷ bs) p zero h e = inl (omega arith)
ends_in i (b ∷ bs) p (suc j) h e = inr (ends_in (i + b.insts) bs p j (omega arith) (omega arith))

ends_rise : (i : ℕ) (bs : List BlockData) → Rising (ends i bs)
unfolding ends
ends_rise i [] = tt
ends_rise i (b ∷ bs) = ((λ x m. omega (arith, (in_ends (i + b.insts) bs x m).is)), ends_rise (i + b.insts) bs)

-- ---- the places that the definition keeps

abbrev early_open : ℕ → ℕ → ℕ → Bool
early_open after before i = ltb (suc after) i && leb i before

abbrev late_open : ℕ → ℕ → ℕ → Bool
late_open after before i = ltb after i && leb i before

module _ (bs : List BlockData) (after before : ℕ) where
  -- ---- early

  early_list : List ℕ
  early_list = keep (early_open after before) (starts 0 bs)

  to_early : (p : ℕ) → In p (suc after ∷ early_list) → EarlyPlace bs after before p
  unfolding early_list
  to_early p (inl e) = next e
  to_early p (inr m) =
      let k = kept (early_open after before) (starts 0 bs) p m in
      let b = in_starts 0 bs p k.0 in
      start (record { block = b.block; there = b.there; is = omega (arith, b.is) })
      (ltb-true (suc after) p (and_l (ltb (suc after) p) (leb p before) k.1))
      (leb-true p before (and_r (ltb (suc after) p) (leb p before) k.1))

  from_early : (p : ℕ) → EarlyPlace bs after before p → In p (suc after ∷ early_list)
  unfolding early_list
  from_early p (next e) = inl e
  from_early p (start s h l) =
      inr (keeps (early_open after before) (starts 0 bs) p (starts_in 0 bs p s.block s.there (omega (arith, s.is)))
      (both (ltb (suc after) p) (leb p before) (lt-ltb (suc after) p h) (le-leb p before l)))

  early_rises : Rising (suc after ∷ early_list)
  unfolding early_list
  early_rises = (above, keep_rises (early_open after before) (starts 0 bs) (starts_rise 0 bs))
    where
      above : (x : ℕ) → In x (keep (early_open after before) (starts 0 bs)) → suc after ≤ x
      above x m =
          let h : suc after < x = ltb-true (suc after) x (and_l (ltb (suc after) x) (leb x before) (kept (early_open after before) (starts 0 bs) x m).1) in
          omega arith

  -- "Early: among `after`+1 and the block starts above it up to `before`, the earliest whose block frequency is least."
  pub early_rule : every block_ok bs ≡ true → EarliestLeast (EarlyPlace bs after before) (freq_at bs) (early_cut bs after before)
  unfolding early_list early_cut
  early_rule ok =
      let b = early_best (freq_at bs) (frequency_plain bs ok) (suc after) early_list early_rises in
      record {
        place = to_early _ b.inside;
        least = λ p q. (b.wins p (from_early p q)).least;
        earliest = λ p q. (b.wins p (from_early p q)).ahead;
      }

  -- ---- late

  late_list : List ℕ
  late_list = keep (late_open after before) (ends 0 bs)

  in_last : (xs : List ℕ) (b p : ℕ) → In p (xs ++ (b ∷ [])) → In p xs ⊎ (p ≡ b)
  in_last [] b p (inl e) = inr e
  in_last [] b p (inr m) = absurd m
  in_last (x ∷ xs) b p (inl e) = inl (inl e)
  in_last (x ∷ xs) b p (inr m) = go (in_last xs b p m)
    where
      go : In p xs ⊎ (p ≡ b) → In p (x ∷ xs) ⊎ (p ≡ b)
      go (inl k) = inl (inr k)
      go (inr e) = inr e

  last_in : (xs : List ℕ) (b p : ℕ) → p ≡ b → In p (xs ++ (b ∷ []))
  last_in [] b p e = inl e
  last_in (x ∷ xs) b p e = inr (last_in xs b p e)

  ahead_in : (xs : List ℕ) (b p : ℕ) → In p xs → In p (xs ++ (b ∷ []))
  ahead_in [] b p m = absurd m
  ahead_in (x ∷ xs) b p (inl e) = inl e
  ahead_in (x ∷ xs) b p (inr m) = inr (ahead_in xs b p m)

  rises_to : (xs : List ℕ) (b : ℕ) → Rising xs → ((x : ℕ) → In x xs → x ≤ b) → Rising (xs ++ (b ∷ []))
  rises_to [] b s h = ((λ x m. absurd m), tt)
  rises_to (y ∷ ys) b s h = ((λ x m. go x (in_last ys b x m)), rises_to ys b s.1 (λ x m. h x (inr m)))
    where
      go : (x : ℕ) → In x ys ⊎ (x ≡ b) → y ≤ x
      go x (inl m) = s.0 x m
      go x (inr e) = omega (arith, e, h y (inl refl))

  late_kept : (p : ℕ) → In p late_list → In p (ends 0 bs) × (ltb after p && leb p before ≡ true)
  unfolding late_list
  late_kept p m = kept (late_open after before) (ends 0 bs) p m

  late_upto : (p : ℕ) → In p late_list → p ≤ before
  late_upto p m = leb-true p before (and_r (ltb after p) (leb p before) (late_kept p m).1)

  to_late : (p : ℕ) → In p (late_list ++ (before ∷ [])) → LatePlace bs after before p
  to_late p m = go (in_last late_list before p m)
    where
      go : In p late_list ⊎ (p ≡ before) → LatePlace bs after before p
      go (inr e) = last e
      go (inl k) =
          let b = in_ends 0 bs p (late_kept p k).0 in
          end (record { block = b.block; there = b.there; is = omega (arith, b.is) }) (ltb-true after p (and_l (ltb after p) (leb p before) (late_kept p k).1)) (late_upto p k)

  from_late : (p : ℕ) → LatePlace bs after before p → In p (late_list ++ (before ∷ []))
  unfolding late_list
  from_late p (last e) = last_in late_list before p e
  from_late p (end s h l) =
      ahead_in late_list before p
      (keeps (late_open after before) (ends 0 bs) p (ends_in 0 bs p s.block s.there (omega (arith, s.is)))
      (both (ltb after p) (leb p before) (lt-ltb after p h) (le-leb p before l)))

  late_rises : Rising (late_list ++ (before ∷ []))
  unfolding late_list
  late_rises = rises_to late_list before (keep_rises (late_open after before) (ends 0 bs) (ends_rise 0 bs)) late_upto

  -- "Late: among `before` and the block ends (the instruction after the last) from `after`+1 to it, the latest whose preceding instruction's block frequency is least."
  pub late_rule : every block_ok bs ≡ true → LatestLeast (LatePlace bs after before) (λ p. freq_at bs (p - 1)) (late_cut bs after before)
  unfolding late_list late_cut
  late_rule ok =
      let b = late_best (λ p. freq_at bs (p - 1)) (λ p. frequency_plain bs ok (p - 1)) late_list before late_rises in
      record {
        place = to_late _ b.inside;
        least = λ p q. (b.wins p (from_late p q)).least;
        latest = λ p q. (b.wins p (from_late p q)).ahead;
      }
