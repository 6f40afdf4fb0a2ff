-- Change request 12, "What would move this cut": the blocks whose frequency by itself could move a cut, each with its
-- way and its fewest f32 steps. What is asked is `Moves`; what is answered is `cut_moves`, which computes. That each
-- says the other are `moves_listed`, `moves_fewest`, `moves_sorted` and `moves_first` of crates/split_placement.
-- Assumes nothing.
use Rattle.std.specs.Prelude.{ℕ, zero, suc, ◌+◌, ◌-◌, ◌≡◌, Bool, true, false, not, ◌&&◌, cond, leb, ltb, eqb, length}
use Rattle.std.proofs.Math.Option.{Option, none, some}
use mathlib.Core.List.{List, [], ◌∷◌, ◌++◌}
use Rattle.std.specs.Float.{binary32}
use Rattle.std.specs.Float.Ieee.{of_bits, to_bits}
use Rattle.definition.specs.Types.{Inst, BlockData, Side, Early, Late, Refusal, Full, Out, done, refused}
use Rattle.definition.specs.Entry.{lowest_of, insts_of, every, block_ok, side_of, cut_tests}
pub use Rattle.definition.specs.declared.Block.{Block}
pub use Rattle.definition.specs.declared.CutMove.{CutMove}
pub use Rattle.definition.specs.declared.Way.{Way}
pub use Rattle.definition.specs.declared.Way.TheVariants.{Up, Down}

-- ---- what is asked

-- the same blocks, but block j's frequency is that of the pattern x
unfoldable pub with_frequency : List BlockData → ℕ → ℕ → List BlockData
unfolding of_bits
with_frequency [] j x = []
with_frequency (b ∷ bs) zero x = record { insts = b.insts; frequency = of_bits binary32 x } ∷ bs
with_frequency (b ∷ bs) (suc j) x = b ∷ with_frequency bs j x

-- the pattern x in block j "moves the cut": it is another instruction then
abbrev pub Moves : List BlockData → Inst → Inst → Side → ℕ → ℕ → Type 0
Moves bs after before side j x =
    side_of side (with_frequency bs j x) after.0 before.0 ≡ side_of side bs after.0 before.0 → ⊥

-- a "finite frequency from zero up" has a pattern below this one, which is infinity's
abbrev pub infinity : ℕ
infinity = 0x7f80_0000

-- "bit patterns read as whole numbers": that of block j's frequency
unfoldable pub pattern_of : List BlockData → ℕ → ℕ
unfolding to_bits
pattern_of [] j = 0
pattern_of (b ∷ bs) zero = to_bits binary32 b.frequency
pattern_of (b ∷ bs) (suc j) = pattern_of bs j

-- ---- the open blocks: each judges one of the places that are open to the cut, and each place is judged by one of them

-- the block that holds instruction i
unfoldable pub block_of : List BlockData → ℕ → ℕ
block_of [] i = 0
block_of (b ∷ bs) i = elim (ltb i b.insts) [ true ↦ 0 | false ↦ suc (block_of bs (i - b.insts)) ]

-- early, the block of `after`+1; late, that of `after`
unfoldable pub first_open : Side → List BlockData → ℕ → ℕ
unfolding block_of
first_open Early bs after = block_of bs (suc after)
first_open Late bs after = block_of bs after

-- early, the block of `before`; late, that of `before`-1
unfoldable pub last_open : Side → List BlockData → ℕ → ℕ
unfolding block_of
last_open Early bs before = block_of bs before
last_open Late bs before = block_of bs (before - 1)

-- ---- which of them is chosen, f giving the patterns

-- the steps that i lacks against c at an equal frequency: none where i is ahead (early: before c; late: behind it),
-- else one
abbrev pub tie : Side → ℕ → ℕ → ℕ
tie Early i c = cond (ltb i c) 0 1
tie Late i c = cond (ltb c i) 0 1

module _ (side : Side) (f : ℕ → ℕ) where
  -- of c and the k blocks behind j, the one of least frequency, of equal ones the one ahead
  unfoldable pub chosen_of : ℕ → ℕ → ℕ → ℕ
  chosen_of c j zero = c
  chosen_of c j (suc k) = chosen_of (cond (leb (f (suc j) + tie side (suc j) c) (f c)) (suc j) c) (suc j) k

  -- the least of e and of what the k blocks from i on, c left out, have with the steps they lack against c
  unfoldable pub edge_of : ℕ → ℕ → ℕ → ℕ → ℕ
  edge_of c e i zero = e
  edge_of c e i (suc k) = edge_of c (cond (not (eqb i c) && ltb (f i + tie side i c) e) (f i + tie side i c) e) (suc i) k

  -- ---- each open block's way and "the fewest f32 steps needed", c being the chosen block and e its edge

  -- up, until another block is chosen; "left off exactly if no finite frequency" is so high
  abbrev pub up_of : ℕ → ℕ → Option CutMove
  up_of c e = cond (ltb e infinity) (some (record { block = record { 0 = c }; way = Up; steps = e - f c })) none

  -- down, until it is chosen; "left off exactly if no finite frequency from zero up" is so low
  abbrev pub down_of : ℕ → ℕ → Option CutMove
  down_of c i =
      cond (ltb (f c) (tie side i c)) none
      (some (record { block = record { 0 = i }; way = Down; steps = f i + tie side i c - f c }))

  abbrev pub move_of : ℕ → ℕ → ℕ → Option CutMove
  move_of c e i = cond (eqb i c) (up_of c e) (down_of c i)

  -- those of the k blocks from i on, by rising block
  unfoldable pub moves_from : ℕ → ℕ → ℕ → ℕ → List CutMove
  moves_from c e i zero = []
  moves_from c e i (suc k) = let r = moves_from c e (suc i) k in elim (move_of c e i) [ none ↦ r | some m ↦ m ∷ r ]

-- ---- "The list runs from the fewest steps, equal ones by block."

module _ {A : Type 0} (key : A → ℕ) where
  -- x before the first that has as much or more
  unfoldable pub insert : A → List A → List A
  insert x [] = x ∷ []
  insert x (y ∷ ys) = cond (ltb (key y) (key x)) (y ∷ insert x ys) (x ∷ y ∷ ys)

  -- by what each has; equal ones stay in the order that they had
  unfoldable pub sorted : List A → List A
  unfolding insert
  sorted [] = []
  sorted (x ∷ xs) = insert x (sorted xs)

abbrev pub steps_of : CutMove → ℕ
steps_of m = m.steps

-- the moves among the blocks a to b, c being the chosen one
unfoldable pub moves_among : Side → (ℕ → ℕ) → ℕ → ℕ → ℕ → List CutMove
unfolding sorted moves_from edge_of
moves_among side f a b c = sorted steps_of (moves_from side f c (edge_of side f c infinity a (suc b - a)) a (suc b - a))

-- "name each block whose frequency by itself could move the cut, with the way, up or down, and the fewest f32 steps
-- needed"
unfoldable pub cut_moves : List BlockData → Inst → Inst → Side → List CutMove
unfolding pattern_of first_open last_open chosen_of moves_among
cut_moves bs after before side =
    let a = first_open side bs after.0 in
    let b = last_open side bs before.0 in
    moves_among side (pattern_of bs) a b (chosen_of side (pattern_of bs) a a (b - a))

-- ---- the answer: "Ends that 01 refuses get 4; then a lent list with fewer places than blocks gets 9."

abbrev pub moves_tests : List BlockData → Inst → Inst → ℕ → List (Bool × Refusal)
moves_tests bs after before places = cut_tests bs after before ++ ((leb (length bs) places, Full) ∷ [])

unfoldable pub moves_to : Option Refusal → List BlockData → Inst → Inst → Side → Out (List CutMove)
unfolding cut_moves
moves_to (some r) bs after before side = refused r
moves_to none bs after before side = done (cut_moves bs after before side)

unfoldable pub find_moves : List BlockData → Inst → Inst → Side → ℕ → Out (List CutMove)
unfolding lowest_of insts_of every block_ok moves_to
find_moves bs after before side places = moves_to (lowest_of (moves_tests bs after before places)) bs after before side

-- the number of each way
abbrev pub way_number : Way → ℕ
way_number Up = 0
way_number Down = 1
