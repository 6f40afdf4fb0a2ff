-- Change request 12's promises of the two exported calls, `find_cut_moves` and the cut finder
-- `find_optimal_split_point`, each with two wrong programs that it rules out: `promise_read`, `promise_count`,
-- `promise_asked`, `promise_listed`, `promise_there`, `promise_none`, `promise_fewest`, `promise_sorted`,
-- `promise_first`. By the calls' contracts `moves_end` is what the first returns, `list_left` what it leaves in the lent
-- list, and `cut_answer` what the finder returns. Assumes nothing.
use Prim.Native.Nat.{ℕ, ◌/◌, ◌≤◌, ◌<◌}
use native.Mathlib.Omega.{arith}
use mathlib.Core.Path.{◌≡◌, refl, sym, ap, ◌∙◌, subst}
use mathlib.Core.Bool.{true}
use mathlib.Core.List.{List}
use lib.ListN.{length, get_or}
use Rattle.definition.specs.declared.BlockData.{BlockData}
use Rattle.definition.specs.declared.CutMove.{CutMove}
use Rattle.definition.specs.Types.{Out, done, inst}
use Rattle.definition.specs.CutMoves.{Moves, infinity, pattern_of, cut_moves}
use Rattle.find_cut.specs.Answer.{blocks_in, side_named, readable, cut_answer}
use Rattle.find_cut.proofs.Tests.{Passed, count as blocks-many}
use Rattle.split_placement.specs.Promised.{Fair, Named, Movable, Fewest, InOrder, Off, target, apart, move_at}
use Rattle.split_placement.proofs.Table.{open_blocks}
use Rattle.split_placement.proofs.Moved.{moves_open}
use Rattle.split_placement.proofs.Promises.{moves_listed, moves_fewest, moves_sorted, moves_first}
use Rattle.cut_moves.specs.Answer.{moves_at, end_of, list_of, moves_end, list_left}
use Rattle.cut_moves.specs.Promised.{word_in, with_word, Asked, moves_read}
use Rattle.cut_moves.proofs.Numbers.{Free, was_zero}
use Rattle.cut_moves.proofs.Read.{moves_read_lem}
use Rattle.cut_moves.proofs.Asked.{word_pattern, fair_in, asked_again, asked_moves, moves_asked}

-- the fewest steps by another judge that says the same of the row's block
fewest_same : (own new : ℕ → ℕ) (moves asks : ℕ → ℕ → Type 0) (m : CutMove) → own m.block.0 ≡ new m.block.0
    → ((x : ℕ) → x < infinity
    → (moves m.block.0 x → asks m.block.0 x) × (asks m.block.0 x → moves m.block.0 x))
    → Fewest own moves m → Fewest new asks m
fewest_same own new moves asks m e same f =
    let at : ℕ → ℕ = λ z. target m.way z m.steps in
    let h : at (new m.block.0) < infinity = subst (λ (z : ℕ). at z < infinity) e f.finite in
    record {
      there = subst (λ (z : ℕ). Off m.way z m.steps (at z)) e f.there;
      finite = h;
      moved = (same _ h).0 (subst (λ (z : ℕ). moves m.block.0 (at z)) e f.moved);
      nearest = λ x l a. subst (λ (z : ℕ). Off m.way z m.steps x) e (f.nearest x l ((same x l).1 a));
      further = λ x l o. (same x l).0 (f.further x l (subst (λ (z : ℕ). Off m.way z m.steps x) (sym e) o));
    }

-- any bytes, ends, side and room for which the list of moves ends with number 0
module _ (s : List ℕ) (after before side room : ℕ) (small : (i : ℕ) → get_or s i 0 < 256)
    (e : (moves_end s after before side room).number ≡ 0) where
  abbrev pub count : ℕ
  count = (moves_end s after before side room).count

  -- the rows that the call leaves in the lent list
  abbrev pub rows : List CutMove
  rows = moves_read (list_left s after before side room) count

  -- ---- the same over the definition

  abbrev bs : List BlockData
  bs = blocks_in s

  abbrev list : List CutMove
  list = cut_moves bs (inst after) (inst before) (side_named side)

  abbrev Moved : ℕ → ℕ → Type 0
  Moved = Moves bs (inst after) (inst before) (side_named side)

  free : Free s after before side (room / 12) (side_named side)
  unfolding moves_end
  free = was_zero s after before side (room / 12) e

  ok : Passed s after before
  ok = free.passed

  read : readable s side ≡ true
  read = free.read

  fair : Fair bs (inst after) (inst before)
  fair = fair_in s after before small ok

  listed : (j : ℕ) → (Named list j → Movable (pattern_of bs) Moved j) × (Movable (pattern_of bs) Moved j → Named list j)
  listed = moves_listed bs (inst after) (inst before) (side_named side) fair

  there : (j : ℕ) → Named list j → j < length s / 8
  there j n =
      let m = (listed j).0 n in
      let o = moves_open bs (inst after) (inst before) (side_named side) fair j m.pattern m.finite m.moved in
      let l = (open_blocks bs (inst after) (inst before) fair (side_named side)).1 in
      omega (arith, o.1, l, blocks-many s after before)

  same : (j : ℕ) → j < length s / 8 → (x : ℕ) → x < infinity
      → (Moved j x → Asked s after before side j x) × (Asked s after before side j x → Moved j x)
  same j h x l =
      (moves_asked s after before small ok side read j x h l, asked_moves s after before small ok side read j x h l)

  ended : moves_at s after before side (room / 12) ≡ done list
  ended = free.accepted

  counted : count ≡ length list
  unfolding moves_end end_of
  counted = ap (λ (o : Out (List CutMove)). (end_of o).count) ended

  -- ---- the promises

  -- Where there is no refusal, the rows read back from the lent list are the definition's.
  -- Ruled out: a call that leaves the rows in another order; one that writes the way behind the steps.
  pub promise_read : rows ≡ cut_moves (blocks_in s) (inst after) (inst before) (side_named side)
  unfolding list_left
  promise_read = (λ x. moves_read (list_of room (ended x)) (counted x)) ∙ moves_read_lem room list

  -- There are as many as the call counts.
  -- Ruled out: a call that counts all the open blocks; one that counts the words of its rows.
  pub promise_count : (moves_end s after before side room).count
      ≡ length (cut_moves (blocks_in s) (inst after) (inst before) (side_named side))
  promise_count = counted

  -- Asked again with another finite frequency from zero up in one of the rows, the finder does not refuse: so each
  -- promise below can be tried.
  -- Ruled out: a call that ends with 0 for ends that the finder refuses; a finder that refuses a frequency of zero.
  pub promise_asked : (j x : ℕ) → j < length s / 8 → x < infinity
      → (cut_answer (with_word s j x) after before side).number ≡ 0
  promise_asked j x h l = asked_again s after before small ok side read j x h l

  -- A block is left off "exactly if no finite frequency from zero up moves the cut", that is, has the finder answer
  -- another instruction.
  -- Ruled out: a call that lists all the open blocks, also one that would have to go below zero; one that leaves off
  -- the block chosen.
  pub promise_listed : (j : ℕ) → j < length s / 8
      → (Named rows j → Movable (word_in s) (Asked s after before side) j)
      × (Movable (word_in s) (Asked s after before side) j → Named rows j)
  promise_listed j h =
      rw promise_read (
        λ n.
            let m = (listed j).0 n in
            let q = (same j h m.pattern m.finite).0 m.moved in
            record { pattern = m.pattern; finite = m.finite; moved = q },
        λ m.
            let q = (same j h m.pattern m.finite).1 m.moved in
            (listed j).1 (record { pattern = m.pattern; finite = m.finite; moved = q }),
      )

  -- Each row names a block that is there.
  -- Ruled out: a call that numbers the blocks from 1; one that names a block by its first instruction.
  pub promise_there : (j : ℕ) → Named rows j → j < length s / 8
  promise_there j n = there j (subst (λ (ms : List CutMove). Named ms j) promise_read n)

  -- A count of 0 says that no block's frequency by itself has the finder answer another instruction.
  -- Ruled out: a call that lists none where two open blocks have one frequency; one that lists none where the block
  -- chosen has frequency zero and can go up.
  pub promise_none : (moves_end s after before side room).count ≡ 0 → (j x : ℕ) → j < length s / 8 → x < infinity
      → Asked s after before side j x → ⊥
  promise_none z j x h l a =
      let n = (promise_listed j h).1 (record { pattern = x; finite = l; moved = a }) in
      omega (arith, n.there, ap length promise_read, counted)

  -- "the way, up or down, and the fewest f32 steps needed": with so many steps that way the finder answers another
  -- instruction, with fewer or the other way it does not, and with more it does.
  -- Ruled out: a call that gives the difference of the two patterns alone, one too few where the block is not ahead;
  -- one that has another block than the one chosen go up.
  pub promise_fewest : (k : ℕ) → k < (moves_end s after before side room).count
      → Fewest (word_in s) (Asked s after before side) (move_at rows k)
  promise_fewest k h =
      let l : k < length list = omega (arith, counted) in
      let m = move_at list k in
      let b = there m.block.0 (record { row = k; there = l; is = refl }) in
      let w = word_pattern s after before small ok m.block.0 b in
      let f = moves_fewest bs (inst after) (inst before) (side_named side) fair k l in
      subst (λ (ms : List CutMove). Fewest (word_in s) (Asked s after before side) (move_at ms k)) (sym promise_read)
      (fewest_same (pattern_of bs) (word_in s) Moved (Asked s after before side) m w (same m.block.0 b) f)

  -- "The list runs from the fewest steps, equal ones by block."
  -- Ruled out: a call that leaves the rows by block alone; one whose sort turns equal ones around.
  pub promise_sorted : InOrder rows
  promise_sorted = rw promise_read (moves_sorted bs (inst after) (inst before) (side_named side) fair)

  -- With fewer steps than the first row has, in whatever block, the finder answers the same instruction.
  -- Ruled out: a call that loses the nearest row; one that lists from the most steps.
  pub promise_first : 0 < (moves_end s after before side room).count → (j x : ℕ) → j < length s / 8 → x < infinity
      → Asked s after before side j x → (move_at rows 0).steps ≤ apart (word_in s j) x
  promise_first g j x h l a =
      let c : 0 < length list = omega (arith, counted) in
      let m = moves_first bs (inst after) (inst before) (side_named side) fair c j x l ((same j h x l).1 a) in
      rw promise_read (omega (arith, m, word_pattern s after before small ok j h))
