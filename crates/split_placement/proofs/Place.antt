-- The cut is the place of the open block that is chosen, and open blocks have different places: `place_is`,
-- `place_once`. Assumes nothing.
use Prim.Native.Nat.{ℕ, ◌≤◌, ◌<◌}
use native.Mathlib.Omega.{arith}
use mathlib.Core.Path.{◌≡◌, refl}
use mathlib.Core.Bool.{Bool, true, false}
use mathlib.Core.List.{List}
use lib.Dec.{ltb}
use borrow.Author.Tests.{ltb-true, ltb-false}
use Rattle.definition.specs.declared.Inst.{Inst}
use Rattle.definition.specs.declared.BlockData.{BlockData}
use Rattle.definition.specs.declared.Side.{Side}
use Rattle.definition.specs.Entry.{side_of}
use Rattle.definition.specs.CutMoves.{pattern_of, first_open, last_open}
use Rattle.split_placement.proofs.Chosen.{place_of, places_rise, chosen_place}
use Rattle.split_placement.specs.Margins.{Chosen}
use Rattle.split_placement.specs.Promised.{Fair}
use Rattle.split_placement.proofs.Choice.{chosen_wins}
use Rattle.split_placement.proofs.Table.{priced}

-- c is chosen among the open blocks
abbrev pub Pick : List BlockData → Inst → Inst → Side → ℕ → Type 0
Pick bs after before side c = Chosen side (pattern_of bs) (first_open side bs after.0) (last_open side bs before.0) c

module _ (bs : List BlockData) (after before : Inst) (p : Fair bs after before) where
  -- the cut is the place of the block chosen
  pub place_is : (side : Side) (c : ℕ) → Pick bs after before side c
      → place_of side bs after.0 before.0 c ≡ side_of side bs after.0 before.0
  place_is side c q =
      chosen_place (priced bs after before p) after.0 before.0 p.order p.within side c (chosen_wins q)

  -- open blocks with one place are one
  pub place_once : (side : Side) (c d : ℕ) → first_open side bs after.0 ≤ c → c ≤ last_open side bs before.0
      → first_open side bs after.0 ≤ d → d ≤ last_open side bs before.0
      → place_of side bs after.0 before.0 c ≡ place_of side bs after.0 before.0 d → c ≡ d
  place_once side c d lc hc ld hd e = go (ltb c d) (ltb d c) refl refl
    where
      rise : (i j : ℕ) → first_open side bs after.0 ≤ i → i < j → j ≤ last_open side bs before.0
          → place_of side bs after.0 before.0 i < place_of side bs after.0 before.0 j
      rise = places_rise (priced bs after before p) after.0 before.0 p.order p.within side

      go : (s t : Bool) → ltb c d ≡ s → ltb d c ≡ t → c ≡ d
      go true t x y = absurd (omega (arith, e, rise c d lc (ltb-true c d x) hd))
      go false true x y = absurd (omega (arith, e, rise d c ld (ltb-true d c y) hc))
      go false false x y = omega (arith, ltb-false c d x, ltb-false d c y)
