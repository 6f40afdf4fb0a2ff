-- Change request 12's promises of the list of moves, each with two wrong answers that it rules out: `moves_listed`,
-- `moves_none`, `moves_fewest`, `moves_sorted`, `moves_first`. Assumes nothing.
use Prim.Native.Nat.{ℕ, zero, suc, ◌≤◌, ◌<◌}
use native.Mathlib.Omega.{arith}
use mathlib.Core.Path.{◌≡◌, sym, ap, subst}
use mathlib.Core.List.{List, []}
use lib.ListN.{length}
use Rattle.definition.specs.declared.Inst.{Inst}
use Rattle.definition.specs.declared.BlockData.{BlockData}
use Rattle.definition.specs.declared.Side.{Side}
use Rattle.definition.specs.declared.Way.{Way}
use Rattle.definition.specs.declared.Way.TheVariants.{Up, Down}
use Rattle.definition.specs.CutMoves.{Moves, infinity, pattern_of, cut_moves}
use Rattle.split_placement.specs.Promised.{Fair, Named, Movable, Fewest, InOrder, Off, apart, move_at}
use Rattle.split_placement.proofs.Rows.{list_fewest, movable_named, list_order}

-- what lies so far off is so many steps apart
off_apart : (w : Way) (own k x : ℕ) → Off w own k x → k ≤ apart own x
off_apart Up own k x h = omega arith
off_apart Down own k x h = omega arith

module _ (bs : List BlockData) (after before : Inst) (side : Side) (p : Fair bs after before) where
  -- A block is left off "exactly if no finite frequency from zero up moves the cut".
  -- Ruled out: a list of all the open blocks, also of one that would have to go below zero; a list without the block
  -- chosen.
  pub moves_listed : (j : ℕ)
      → (Named (cut_moves bs after before side) j → Movable (pattern_of bs) (Moves bs after before side) j)
      × (Movable (pattern_of bs) (Moves bs after before side) j → Named (cut_moves bs after before side) j)
  moves_listed j = (movable, λ m. movable_named bs after before side p j m.pattern m.finite m.moved)
    where
      movable : Named (cut_moves bs after before side) j → Movable (pattern_of bs) (Moves bs after before side) j
      movable n =
          let r = list_fewest bs after before side p n.row n.there in
          subst (λ (i : ℕ). Movable (pattern_of bs) (Moves bs after before side) i) n.is
          (record { pattern = _; finite = r.finite; moved = r.moved })

  -- An empty list says that no block's frequency by itself moves the cut.
  -- Ruled out: an empty list where two open blocks have one frequency; one where the block chosen has frequency zero
  -- and can go up.
  pub moves_none : cut_moves bs after before side ≡ [] → (j x : ℕ) → x < infinity → Moves bs after before side j x → ⊥
  moves_none g j x h m = omega (arith, (movable_named bs after before side p j x h m).there, ap length g)

  -- "the way, up or down, and the fewest f32 steps needed": so many steps move the cut, fewer do not, more do, and none
  -- do the other way.
  -- Ruled out: the difference of the two patterns alone, one too few where the block is not ahead; a row that has
  -- another block than the one chosen go up.
  pub moves_fewest : (k : ℕ) → k < length (cut_moves bs after before side)
      → Fewest (pattern_of bs) (Moves bs after before side) (move_at (cut_moves bs after before side) k)
  moves_fewest k h = list_fewest bs after before side p k h

  -- "The list runs from the fewest steps, equal ones by block."
  -- Ruled out: a list by block alone; a list in which equal ones stand by falling block.
  pub moves_sorted : InOrder (cut_moves bs after before side)
  moves_sorted =
      record {
        fewest = λ j k h u. (list_order bs after before side p j k h u).fewest;
        equal = λ j k h u. (list_order bs after before side p j k h u).equal;
        once = λ j k h u. (list_order bs after before side p j k h u).other;
      }

  first_least : (k : ℕ) → k < length (cut_moves bs after before side)
      → (move_at (cut_moves bs after before side) 0).steps ≤ (move_at (cut_moves bs after before side) k).steps
  first_least zero h = omega arith
  first_least (suc k) h = moves_sorted.fewest 0 (suc k) (omega arith) h

  -- Fewer steps than the first row has, in whatever block, leave the cut where it is.
  -- Ruled out: a list without its nearest row; a list that runs from the most steps.
  pub moves_first : 0 < length (cut_moves bs after before side) → (j x : ℕ) → x < infinity
      → Moves bs after before side j x → (move_at (cut_moves bs after before side) 0).steps ≤ apart (pattern_of bs j) x
  moves_first l j x h m =
      let n = movable_named bs after before side p j x h m in
      let own = move_at (cut_moves bs after before side) n.row in
      let g : pattern_of bs own.block.0 ≡ pattern_of bs j = ap (pattern_of bs) n.is in
      let there = subst (λ (i : ℕ). Moves bs after before side i x) (sym n.is) m in
      let o = (moves_fewest n.row n.there).nearest x h there in
      let q = off_apart own.way (pattern_of bs own.block.0) own.steps x o in
      omega (arith, first_least n.row n.there, q, g)
