-- The rows of the definition's list, by what moves the cut: `list_fewest`, `movable_named`, `list_order`.
-- Assumes nothing.
use Prim.Native.Nat.{ℕ, suc, ◌+◌, ◌-◌, ◌≤◌, ◌<◌}
use native.Mathlib.Omega.{arith}
use mathlib.Core.Path.{◌≡◌, refl, sym, ap, ◌∙◌, subst}
use mathlib.Core.Bool.{Bool, true, false}
use mathlib.Core.List.{List, Memᴰ as In}
use lib.Dec.{eqb}
use lib.ListN.{length}
use borrow.Author.Tests.{eqb-true, eqb-false}
use Rattle.definition.specs.declared.Inst.{Inst}
use Rattle.definition.specs.declared.BlockData.{BlockData}
use Rattle.definition.specs.declared.Side.{Side}
use Rattle.definition.specs.declared.CutMove.{CutMove}
use Rattle.definition.specs.CutMoves.{Moves, infinity, pattern_of, first_open, last_open, tie, chosen_of, edge_of}
use Rattle.definition.specs.CutMoves.{cut_moves, steps_of}
use Rattle.split_placement.specs.Promised.{Fair, Named, Fewest, move_at, no_move}
use Rattle.split_placement.proofs.Edge.{edge_above}
use Rattle.split_placement.proofs.Table.{open_blocks}
use Rattle.split_placement.proofs.Moved.{some_open, chosen, low_moves, moves_low, moves_open, high_moves, moves_high}
use Rattle.split_placement.proofs.Sorted.{Before, at_member, member_at, pair_at}
use Rattle.split_placement.proofs.Listed.{up_row, down_row, Row, up, down, Among, block_of_move, listed_row, row_listed}
use Rattle.split_placement.proofs.Listed.{listed_order}

module _ (bs : List BlockData) (after before : Inst) (side : Side) (p : Fair bs after before) where
  abbrev f : ℕ → ℕ
  f = pattern_of bs

  abbrev a : ℕ
  a = first_open side bs after.0

  abbrev b : ℕ
  b = last_open side bs before.0

  abbrev c : ℕ
  c = chosen_of side f a a (b - a)

  abbrev e : ℕ
  e = edge_of side f c infinity a (suc b - a)

  abbrev list : List CutMove
  list = cut_moves bs after before side

  abbrev FewestOf : CutMove → Type 0
  FewestOf m = Fewest (pattern_of bs) (Moves bs after before side) m

  chosen_finite : f c < infinity
  chosen_finite =
      p.finite c (omega (arith, (chosen bs after before side p).high, (open_blocks bs after before p side).1))

  -- ---- the fewest steps

  up_fewest : e < infinity → FewestOf (up_row side f c e)
  up_fewest h =
      let l : f c < e = edge_above side f a b c (chosen bs after before side p) chosen_finite in
      let g : f c + (e - f c) ≡ e = omega arith in
      record {
        there = omega arith;
        finite = omega arith;
        moved = rw g (high_moves bs after before side p e h (omega arith));
        nearest = λ x k m. omega (arith, moves_high bs after before side p x k m);
        further = λ x k o. high_moves bs after before side p x k (omega arith);
      }

  down_fewest : (i : ℕ) → a ≤ i → i ≤ b → (i ≡ c → ⊥) → tie side i c ≤ f c → FewestOf (down_row side f c e i)
  down_fewest i l u n h =
      let k : f c < f i + tie side i c = (chosen bs after before side p).first i l u n in
      let g : f i - (f i + tie side i c - f c) ≡ f c - tie side i c = omega arith in
      let y : f c - tie side i c < infinity = omega (arith, chosen_finite) in
      record {
        there = omega arith;
        finite = omega arith;
        moved = rw g (low_moves bs after before side p i (f c - tie side i c) y l u n (omega arith));
        nearest = λ x z m. omega (arith, moves_low bs after before side p i x z n m);
        further = λ x z o. low_moves bs after before side p i x z l u n (omega arith);
      }

  row_fewest : (m : CutMove) → Among side f c e a (suc b) m → FewestOf m
  row_fewest m r = go r.block r.low (omega (arith, r.high)) r.row
    where
      go : (i : ℕ) → a ≤ i → i ≤ b → Row side f c e i m → FewestOf m
      go i l u (up q h g) = subst FewestOf g (up_fewest h)
      go i l u (down n h g) = subst FewestOf g (down_fewest i l u n h)

  pub list_fewest : (k : ℕ) → k < length list → Fewest (pattern_of bs) (Moves bs after before side) (move_at list k)
  unfolding cut_moves
  list_fewest k h =
      let m = at_member list k no_move h in
      row_fewest (move_at list k) (listed_row side f a b c (some_open bs after before side p) _ m)

  -- ---- a block that can move the cut has a row

  member_named : (m : CutMove) (j : ℕ) → block_of_move m ≡ j → In m list → Named list j
  member_named m j g q =
      let r = member_at m no_move list q in
      record { row = r.row; there = r.there; is = ap block_of_move r.is ∙ g }

  pub movable_named : (j x : ℕ) → x < infinity → Moves bs after before side j x → Named list j
  unfolding cut_moves
  movable_named j x h m = go (eqb j c) refl
    where
      among : (a ≤ j) × (j ≤ b)
      among = moves_open bs after before side p j x h m

      named : (w : CutMove) → block_of_move w ≡ j → Row side f c e j w → Named list j
      named w g r =
          member_named w j g (row_listed side f a b c (some_open bs after before side p) j w among.0 among.1 r)

      go : (t : Bool) → eqb j c ≡ t → Named list j
      go true q =
          let k : j ≡ c = eqb-true j c q in
          let w = subst (λ (i : ℕ). Moves bs after before side i x) k m in
          let y : e ≤ x = moves_high bs after before side p x h w in
          named (up_row side f c e) (sym k) (up k (omega arith) refl)
      go false q =
          let n : j ≡ c → ⊥ = eqb-false j c q in
          named (down_row side f c e j) refl (down n (omega (arith, moves_low bs after before side p j x h n m)) refl)

  pub list_order : (j k : ℕ) → j < k → k < length list → Before steps_of block_of_move (move_at list j) (move_at list k)
  unfolding cut_moves
  list_order j k h u = pair_at _ list no_move (listed_order side f a b c (some_open bs after before side p)) j k h u
