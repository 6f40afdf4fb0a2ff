-- The table of starts holds the patterns of the blocks, and the moves turn on the patterns of the open blocks alone: so
-- the moves by the table are the definition's (`moves_by_table`). Assumes nothing.
use Prim.Native.Nat.{ℕ, zero, suc, ◌+◌, ◌-◌, ◌≤◌, ◌<◌}
use native.Mathlib.Omega.{arith}
use mathlib.Core.Path.{◌≡◌, refl, sym, ap, ◌∙◌, subst}
use mathlib.Core.Bool.{true, not, ◌&&◌, cond}
use mathlib.Core.Option.{Option, none, some}
use mathlib.Core.List.{List, [], ◌∷◌}
use lib.Dec.{eqb, ltb}
use lib.ListN.{length}
use lib.Ieee.{binary32, of_bits, to_bits}
use Rattle.definition.specs.declared.BlockData.{BlockData}
use Rattle.definition.specs.declared.CutMove.{CutMove}
use Rattle.definition.specs.declared.Side.{Side}
use Rattle.definition.specs.declared.Way.TheVariants.{Up, Down}
use Rattle.definition.specs.Types.{inst}
use Rattle.definition.specs.Entry.{insts_of, every, block_ok}
use Rattle.definition.specs.CutMoves.{infinity, pattern_of, first_open, last_open, tie, chosen_of, edge_of, move_of}
use Rattle.definition.specs.CutMoves.{up_of, down_of, moves_from, steps_of, sorted, moves_among, cut_moves}
use Rattle.weights.proofs.Bits.{bits_back}
use Rattle.function.specs.Blocks.{block_at}
use Rattle.function.specs.declared.starts.table.BlockStarts.{BlockStarts}
use Rattle.function.specs.Table.{Encodes}
use Rattle.split_placement.specs.Places.{bits_in}
use Rattle.split_placement.specs.Margins.{Chosen, chosen_once}
use Rattle.split_placement.specs.Promised.{Fair}
use Rattle.split_placement.proofs.Choice.{chosen_of_lem, chosen_ext}
use Rattle.split_placement.proofs.Table.{open_blocks}
use Rattle.split_placement.proofs.Listed.{step}
use Rattle.cut_moves.proofs.Rows.{moves_more}

-- ---- the patterns in the table

pub pattern_at : (bs : List BlockData) (j : ℕ) → j < length bs
    → pattern_of bs j ≡ to_bits binary32 (block_at bs j).frequency
unfolding pattern_of block_at
pattern_at [] j h = absurd (omega arith)
pattern_at (b ∷ bs) zero h = refl
pattern_at (b ∷ bs) (suc j) h = pattern_at bs j (omega arith)

module _ (t : BlockStarts) (bs : List BlockData) (s : Encodes t bs) where
  pub pattern_bits : (j : ℕ) → j < length bs → pattern_of bs j ≡ bits_in t j
  pattern_bits j h =
      pattern_at bs j h ∙ ap (to_bits binary32) (sym (s.starts.bits j h))
      ∙ bits_back (bits_in t j) (omega (arith, s.starts.finite j h))

  pub fair : (a b : ℕ) → every block_ok bs ≡ true → a < b → b < insts_of bs → Fair bs (inst a) (inst b)
  fair a b ok h l =
      record {
        blocks_ok = ok;
        f32s = λ j g. ap (of_bits binary32) (pattern_bits j g) ∙ s.starts.bits j g;
        finite = λ j g. omega (arith, pattern_bits j g, s.starts.finite j g);
        order = h;
        within = l;
      }

-- ---- moves by two that agree

module _ (side : Side) (f g : ℕ → ℕ) (c : ℕ) where
  edge_ext : (e i k : ℕ) → ((j : ℕ) → i ≤ j → j < i + k → f j ≡ g j) → edge_of side f c e i k ≡ edge_of side g c e i k
  unfolding edge_of
  edge_ext e i zero h = refl
  edge_ext e i (suc k) h =
      let t = tie side i c in
      ap (λ (z : ℕ). edge_of side f c (cond (not (eqb i c) && ltb (z + t) e) (z + t) e) (suc i) k)
      (h i (omega arith) (omega arith))
      ∙ edge_ext (cond (not (eqb i c) && ltb (g i + t) e) (g i + t) e) (suc i) k (λ j l u. h j (omega arith) (omega arith))

  move_ext : (e i : ℕ) → f c ≡ g c → f i ≡ g i → move_of side f c e i ≡ move_of side g c e i
  move_ext e i p q = λ x. cond (eqb i c) (up x) (down x)
    where
      up : up_of side f c e ≡ up_of side g c e
      up = λ x. cond (ltb e infinity) (some (record { block = record { 0 = c }; way = Up; steps = e - p x })) none

      down : down_of side f c i ≡ down_of side g c i
      down =
          let t = tie side i c in
          λ x. cond (ltb (p x) t) none (some (record { block = record { 0 = i }; way = Down; steps = q x + t - p x }))

  moves_ext : (e i k : ℕ) → f c ≡ g c → ((j : ℕ) → i ≤ j → j < i + k → f j ≡ g j)
      → moves_from side f c e i k ≡ moves_from side g c e i k
  unfolding moves_from
  moves_ext e i zero p h = refl
  moves_ext e i (suc k) p h =
      let own = move_ext e i p (h i (omega arith) (omega arith)) in
      moves_more side f c e i k ∙ ap (λ (o : Option CutMove). step o (moves_from side f c e (suc i) k)) own
      ∙ ap (step (move_of side g c e i)) (moves_ext e (suc i) k p (λ j l u. h j (omega arith) (omega arith)))
      ∙ sym (moves_more side g c e i k)

-- ---- the moves by the table

-- t is the table of the blocks, which are accepted with the ends a and b; of them lo to hi are open
pub record Open (t : BlockStarts) (bs : List BlockData) (a b : ℕ) (side : Side) (lo hi : ℕ) : Type 0 where
  pub table : Encodes t bs
  pub ok : every block_ok bs ≡ true
  pub order : a < b
  pub within : b < insts_of bs
  pub low : lo ≡ first_open side bs a
  pub high : hi ≡ last_open side bs b

module _ {t : BlockStarts} {bs : List BlockData} {a b : ℕ} {side : Side} {lo hi : ℕ} (o : Open t bs a b side lo hi) where
  open_at : (lo ≤ hi) × (hi < t.n)
  open_at =
      let p = open_blocks bs (inst a) (inst b) (fair t bs o.table a b o.ok o.order o.within) side in
      (omega (arith, p.0, o.low, o.high), omega (arith, p.1, o.high, o.table.long))

  pub open_order : lo ≤ hi
  open_order = open_at.0

  pub open_there : hi < t.n
  open_there = open_at.1

  pub open_finite : (i : ℕ) → i ≤ hi → bits_in t i < infinity
  open_finite i u = omega (arith, o.table.starts.finite i (omega (arith, open_there, o.table.long)))

  same : (i : ℕ) → i ≤ hi → bits_in t i ≡ pattern_of bs i
  same i u = sym (pattern_bits t bs o.table i (omega (arith, open_there, o.table.long)))

  module _ {c : ℕ} (ec : c ≡ chosen_of side (bits_in t) lo lo (hi - lo)) where
    pub table_chosen : Chosen side (bits_in t) lo hi c
    table_chosen =
        subst (λ (k : ℕ). Chosen side (bits_in t) lo hi k) (sym ec) (chosen_of_lem side (bits_in t) lo hi open_order)

    same_chosen : c ≡ chosen_of side (pattern_of bs) lo lo (hi - lo)
    same_chosen =
        chosen_once side (pattern_of bs) lo hi _ _
        (chosen_ext side (bits_in t) (pattern_of bs) lo hi c (λ i g u. same i u) table_chosen)
        (chosen_of_lem side (pattern_of bs) lo hi open_order)

    same_among : moves_among side (bits_in t) lo hi c ≡ moves_among side (pattern_of bs) lo hi c
    unfolding moves_among
    same_among =
        let k = suc hi - lo in
        let e : edge_of side (bits_in t) c infinity lo k ≡ edge_of side (pattern_of bs) c infinity lo k =
        edge_ext side (bits_in t) (pattern_of bs) c infinity lo k (λ j g u. same j (omega arith)) in
        ap (sorted steps_of)
        (ap (λ (x : ℕ). moves_from side (bits_in t) c x lo k) e
        ∙ moves_ext side (bits_in t) (pattern_of bs) c _ lo k (same c table_chosen.high) (λ j g u. same j (omega arith)))

    pub moves_by_table : moves_among side (bits_in t) lo hi c ≡ cut_moves bs (inst a) (inst b) side
    unfolding cut_moves
    moves_by_table =
        let among : ℕ → ℕ → List CutMove = λ l h. moves_among side (pattern_of bs) l h
        (chosen_of side (pattern_of bs) l l (h - l)) in
        same_among ∙ ap (moves_among side (pattern_of bs) lo hi) same_chosen ∙ (λ x. among (o.low x) (o.high x))
