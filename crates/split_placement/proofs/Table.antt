-- Blocks that 01 accepts, with their patterns as `split_placement` reads them, and their open blocks: `priced`,
-- `open_blocks`. Assumes nothing.
use Prim.Native.Nat.{◌≤◌, ◌<◌}
use mathlib.Core.List.{List}
use lib.ListN.{length}
use Rattle.definition.specs.declared.Inst.{Inst}
use Rattle.definition.specs.declared.BlockData.{BlockData}
use Rattle.definition.specs.declared.Side.{Side}
use Rattle.definition.specs.CutMoves.{pattern_of, first_open, last_open}
use Rattle.split_placement.proofs.Chosen.{Priced, open_order, open_there}
use Rattle.split_placement.specs.Promised.{Fair}

module _ (bs : List BlockData) (after before : Inst) (p : Fair bs after before) where
  pub priced : Priced (pattern_of bs) bs
  priced = record { ok = p.blocks_ok; is = p.f32s; finite = p.finite }

  -- there is one, and all are blocks
  pub open_blocks : (side : Side) → (first_open side bs after.0 ≤ last_open side bs before.0)
      × (last_open side bs before.0 < length bs)
  open_blocks side = (
    open_order priced after.0 before.0 p.order p.within side,
    open_there priced after.0 before.0 p.order p.within side,
  )
