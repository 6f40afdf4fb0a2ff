-- When a pattern moves the cut: exactly if another open block is chosen then. So in another open block than the one
-- chosen, a low one does; in the one chosen, one from its edge on; in a block outside, none. `low_moves`, `moves_low`,
-- `high_moves`, `moves_high`, `moves_open`. Assumes nothing.
use Prim.Native.Nat.{ℕ, suc, ◌+◌, ◌-◌, ◌≤◌, ◌<◌}
use native.Mathlib.Omega.{arith}
use mathlib.Core.Path.{◌≡◌, refl, sym, ◌∙◌}
use mathlib.Core.Logic.{◌⊎◌, inl, inr}
use mathlib.Core.Bool.{Bool, true, false}
use mathlib.Core.List.{List}
use lib.Dec.{leb}
use borrow.Author.Tests.{leb-true, leb-false}
use Rattle.definition.specs.declared.Inst.{Inst}
use Rattle.definition.specs.declared.BlockData.{BlockData}
use Rattle.definition.specs.declared.Side.{Side}
use Rattle.definition.specs.Entry.{side_of}
use Rattle.definition.specs.CutMoves.{Moves, with_frequency, infinity, pattern_of, first_open, last_open}
use Rattle.definition.specs.CutMoves.{tie, chosen_of, edge_of}
use Rattle.split_placement.specs.Margins.{changed, Chosen, other_moves, other_stays, own_moves, own_stays, outside_stays}
use Rattle.split_placement.specs.Promised.{Fair}
use Rattle.split_placement.proofs.Choice.{chosen_of_lem, chosen_ext}
use Rattle.split_placement.proofs.Edge.{Rival, EdgeOf, edge_of_lem}
use Rattle.split_placement.proofs.Table.{open_blocks}
use Rattle.split_placement.proofs.Chosen.{place_of}
use Rattle.split_placement.proofs.Place.{Pick, place_is, place_once}
use Rattle.split_placement.proofs.Changed.{first_kept, last_kept, place_kept, pattern_changed, fair_changed}

module _ (bs : List BlockData) (after before : Inst) (side : Side) (p : Fair bs after before) where
  -- the patterns, the first and the last open block, the one chosen, and its edge
  abbrev f : ℕ → ℕ
  f = pattern_of bs

  abbrev a : ℕ
  a = first_open side bs after.0

  abbrev b : ℕ
  b = last_open side bs before.0

  abbrev c : ℕ
  c = chosen_of side f a a (b - a)

  abbrev e : ℕ
  e = edge_of side f c infinity a (suc b - a)

  pub some_open : a ≤ b
  some_open = (open_blocks bs after before p side).0

  pub chosen : Chosen side f a b c
  chosen = chosen_of_lem side f a b some_open

  edge : EdgeOf side f infinity a (suc b) c e
  edge = edge_of_lem side f a c infinity b some_open

  -- ---- the cut, by the block chosen

  abbrev place : ℕ → ℕ
  place = place_of side bs after.0 before.0

  cut_now : place c ≡ side_of side bs after.0 before.0
  cut_now = place_is bs after before p side c chosen

  module _ (j x : ℕ) (h : x < infinity) where
    -- the same blocks with x in block j
    abbrev new : List BlockData
    new = with_frequency bs j x

    picked : (d : ℕ) → Chosen side (changed f j x) a b d → Pick new after before side d
    picked d q =
        rw (first_kept bs j x side after.0, last_kept bs j x side before.0)
        (chosen_ext side (changed f j x) (pattern_of new) a b d (λ i l u. sym (same i u)) q)
      where
        same : (i : ℕ) → i ≤ b → pattern_of new i ≡ changed f j x i
        same i u = pattern_changed x h bs j i (omega (arith, (open_blocks bs after before p side).1))

    cut_then : (d : ℕ) → Chosen side (changed f j x) a b d → place d ≡ side_of side new after.0 before.0
    cut_then d q =
        sym (place_kept bs j x side after.0 before.0 d)
        ∙ place_is new after before (fair_changed x h bs after before j p) side d (picked d q)

    stays : Chosen side (changed f j x) a b c → Moves bs after before side j x → ⊥
    stays q m = m (sym (cut_then c q) ∙ cut_now)

    moves : ((d : ℕ) → Chosen side (changed f j x) a b d → c ≡ d → ⊥) → Moves bs after before side j x
    moves n s =
        let d = chosen_of side (changed f j x) a a (b - a) in
        let q : Chosen side (changed f j x) a b d = chosen_of_lem side (changed f j x) a b some_open in
        let g : place c ≡ place d = cut_now ∙ sym s ∙ sym (cut_then d q) in
        n d q (place_once bs after before p side c d chosen.low chosen.high q.low q.high g)

    -- ---- another open block than c: all patterns that come below c's, and no others

    pub low_moves : a ≤ j → j ≤ b → (j ≡ c → ⊥) → x + tie side j c ≤ f c → Moves bs after before side j x
    low_moves l u n s = moves (λ d q. other_moves side f a b c j x d l u n q s)

    pub moves_low : (j ≡ c → ⊥) → Moves bs after before side j x → x + tie side j c ≤ f c
    moves_low n m = go (leb (x + tie side j c) (f c)) refl
      where
        go : (t : Bool) → leb (x + tie side j c) (f c) ≡ t → x + tie side j c ≤ f c
        go true q = leb-true _ _ q
        go false q = absurd (stays (other_stays side f a b c j x chosen n (leb-false _ _ q)) m)

    -- ---- a block outside: none

    pub moves_open : Moves bs after before side j x → (a ≤ j) × (j ≤ b)
    moves_open m = go (leb a j) (leb j b) refl refl
      where
        outside : (a ≤ j → j ≤ b → ⊥) → ⊥
        outside o = stays (outside_stays side f a b c j x chosen o) m

        go : (s t : Bool) → leb a j ≡ s → leb j b ≡ t → (a ≤ j) × (j ≤ b)
        go true true q r = (leb-true a j q, leb-true j b r)
        go true false q r = absurd (outside (λ l u. omega (arith, leb-false j b r)))
        go false t q r = absurd (outside (λ l u. omega (arith, leb-false a j q)))

  -- ---- c itself: all patterns from its edge on, and no others

  module _ (x : ℕ) (h : x < infinity) where
    pub high_moves : e ≤ x → Moves bs after before side c x
    high_moves s = moves c x h (λ d q. go edge.is d q)
      where
        go : (e ≡ infinity) ⊎ Rival side f a (suc b) c e → (d : ℕ) → Chosen side (changed f c x) a b d → c ≡ d → ⊥
        go (inl k) d q = absurd (omega (arith, k))
        go (inr r) d q =
            let u : r.rival ≤ b = omega (arith, r.high) in
            own_moves side f a b c x d r.rival r.low u r.other q (omega (arith, r.has))

    pub moves_high : Moves bs after before side c x → e ≤ x
    moves_high m = go (leb e x) refl
      where
        below : x < e → (i : ℕ) → a ≤ i → i ≤ b → (i ≡ c → ⊥) → x < f i + tie side i c
        below k i l u n = omega (arith, edge.least i l (omega arith) n)

        go : (t : Bool) → leb e x ≡ t → e ≤ x
        go true q = leb-true e x q
        go false q =
            let k = own_stays side f a b c x chosen.low chosen.high (below (leb-false e x q)) in
            absurd (stays c x h k m)
