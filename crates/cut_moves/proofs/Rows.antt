-- The rows put into the list: one turn of the loop, and what it leaves. `put_first`, `put_next`, `put_end`.
-- Assumes nothing.
use Prim.Native.Nat.{ℕ, suc, ◌+◌, ◌-◌, ◌*◌, ◌≤◌, ◌<◌}
use native.Mathlib.Omega.{arith}
use native.Mathlib.Numerals.{add-one}
use mathlib.Core.Path.{◌≡◌, refl, sym, ap, ◌∙◌}
use denote.Enum.Declared.{tag_of}
use Rattle.definition.specs.declared.Way.{Way}
use Rattle.definition.specs.declared.Way.TheVariants.{Up, Down}
use Rattle.definition.specs.contracts.Way.{the_type}
use mathlib.Core.Bool.{Bool, true, false, cond}
use mathlib.Core.Option.{Option, none, some}
use mathlib.Core.List.{List, [], ◌∷◌, ◌++◌, append_assoc, append-nil}
use lib.Dec.{eqb}
use lib.ListN.{length, replicate, length-append}
use borrow.Author.Tests.{eq-eqb, ne_eqb}
use Rattle.definition.specs.declared.CutMove.{CutMove}
use Rattle.definition.specs.declared.Side.{Side}
use Rattle.definition.specs.CutMoves.{move_of, moves_from, steps_of, way_number}
use Rattle.words.specs.Parts.{splice, splice_none, pad, pad_splice, pad_none}
use Rattle.split_placement.specs.Margins.{Chosen}
use Rattle.split_placement.specs.Table.{steps_in}
use Rattle.split_placement.proofs.Listed.{Row, up, down, row_block, move_row_lem, step}
use Rattle.cut_moves.specs.Answer.{move_words, move_row}

pub move_words_append : (ms ns : List CutMove) → move_words (ms ++ ns) ≡ move_words ms ++ move_words ns
unfolding move_words
move_words_append [] ns = refl
move_words_append (m ∷ ms) ns = rw (move_words_append ms ns)

pub length_move_words : (ms : List CutMove) → length (move_words ms) ≡ length ms * 3
unfolding move_words
length_move_words [] = refl
length_move_words (m ∷ ms) = let r = length_move_words ms in omega arith

-- ---- a row, or none

pub way_up : (i c : ℕ) → i ≡ c → ◌≡◌ {A = ℕ} 0 (cond (eqb i c) 0 1)
way_up i c e = rw (eq-eqb i c e)

pub way_down : (i c : ℕ) → (i ≡ c → ⊥) → ◌≡◌ {A = ℕ} 1 (cond (eqb i c) 0 1)
way_down i c n = rw (ne_eqb i c n)

-- a way's number is its place in the enum
pub tag_way : (i c : ℕ) (w : Way) → w ≡ cond (eqb i c) Up Down → tag_of the_type w ≡ cond (eqb i c) 0 1
tag_way i c w e = ap (tag_of the_type) e ∙ go (eqb i c)
  where
    go : (t : Bool) → tag_of the_type (cond t Up Down) ≡ cond t 0 1
    go true = refl
    go false = refl

one_more_lem : (k steps : ℕ) → (steps ≡ 0 → ⊥) → k + 1 ≡ k + cond (eqb steps 0) 0 1
one_more_lem k steps n = rw (ne_eqb steps 0 n)

module _ (W : List ℕ) (k i c steps : ℕ) where
  pub put_none : steps ≡ 0 → (k ≡ k + cond (eqb steps 0) 0 1) × (W ≡ splice W (k * 3) (move_row i c steps))
  unfolding move_row
  put_none e = rw (eq-eqb steps 0 e) (omega arith, sym (splice_none W (k * 3)))

  pub put_one : (X : List ℕ) (w : ℕ) → (steps ≡ 0 → ⊥) → w ≡ cond (eqb i c) 0 1
      → X ≡ splice W (k * 3) (i ∷ w ∷ steps ∷ [])
      → (k + 1 ≡ k + cond (eqb steps 0) 0 1) × (X ≡ splice W (k * 3) (move_row i c steps))
  unfolding move_row
  put_one X w n e q =
      (one_more_lem k steps n, rw (ne_eqb steps 0 n) (q ∙ ap (λ (v : ℕ). splice W (k * 3) (i ∷ v ∷ steps ∷ [])) e))

-- ---- the row of a move

-- block i has no move and no steps; or it has one, whose row is put
data Turn (side : Side) (f : ℕ → ℕ) (c e i steps : ℕ) : Type 0 where
  no_row : move_of side f c e i ≡ none → steps ≡ 0 → Turn side f c e i steps
  row : (m : CutMove) → move_of side f c e i ≡ some m → (steps ≡ 0 → ⊥) → move_row i c steps ≡ move_words (m ∷ [])
      → Turn side f c e i steps

row_is : (i c steps : ℕ) (m : CutMove) → (steps ≡ 0 → ⊥) → i ≡ m.block.0 → cond (eqb i c) 0 1 ≡ way_number m.way
    → steps ≡ m.steps → move_row i c steps ≡ move_words (m ∷ [])
unfolding move_row move_words
row_is i c steps m n b w q = rw (ne_eqb steps 0 n) (λ x. b x ∷ w x ∷ q x ∷ [])

module _ (side : Side) (f : ℕ → ℕ) (a b c e i : ℕ) (p : Chosen side f a b c) (l : f c < e) (g : a ≤ i) (h : i ≤ b) where
  some_steps : (m : CutMove) → Row side f c e i m → 0 < m.steps
  some_steps m (up d u r) = omega (arith, ap steps_of r, l)
  some_steps m (down n u r) = omega (arith, ap steps_of r, p.first i g h n)

  own_way : (m : CutMove) → Row side f c e i m → cond (eqb i c) 0 1 ≡ way_number m.way
  own_way m (up d u r) = sym (way_up i c d) ∙ ap (λ (w : CutMove). way_number w.way) r
  own_way m (down n u r) = sym (way_down i c n) ∙ ap (λ (w : CutMove). way_number w.way) r

  turn : (steps : ℕ) → steps ≡ steps_in (move_of side f c e i) → Turn side f c e i steps
  turn steps q = go (move_of side f c e i) refl
    where
      go : (o : Option CutMove) → move_of side f c e i ≡ o → Turn side f c e i steps
      go none k = no_row k (q ∙ ap steps_in k)
      go (some m) k =
          let r = move_row_lem side f c e i m k in
          let s : steps ≡ m.steps = q ∙ ap steps_in k in
          let n : steps ≡ 0 → ⊥ = λ y. omega (arith, y, s, some_steps m r) in
          row m k n (row_is i c steps m n (sym (row_block side f c e i m r)) (own_way m r) s)

-- ---- the loop

pub step_long : (o : Option CutMove) (ms : List CutMove) → length (step o ms) ≤ suc (length ms)
step_long none ms = omega arith
step_long (some m) ms = omega arith

module _ (side : Side) (f : ℕ → ℕ) (c e i j : ℕ) where
  pub moves_more : moves_from side f c e i (suc j) ≡ step (move_of side f c e i) (moves_from side f c e (suc i) j)
  unfolding moves_from
  moves_more = refl

  moves_next : (o : Option CutMove) → move_of side f c e i ≡ o
      → moves_from side f c e i (suc j) ≡ step o (moves_from side f c e (i + 1) j)
  moves_next o z =
      moves_more ∙ ap (λ (p : Option CutMove). step p (moves_from side f c e (suc i) j)) z
      ∙ ap (λ (k : ℕ). step o (moves_from side f c e k j)) (sym (add-one i))

-- the blocks before i are seen: their moves stand in the list, k of them
pub record Putting (side : Side) (f : ℕ → ℕ) (c e lo end n k i : ℕ) (W : List ℕ) : Type 0 where
  pub past : lo ≤ i
  pub moves : List CutMove
  pub is : moves_from side f c e lo (end - lo) ≡ moves ++ moves_from side f c e i (end - i)
  pub count : k ≡ length moves
  pub few : k ≤ i - lo
  pub words : W ≡ pad n (move_words moves)

pub put_first : (side : Side) (f : ℕ → ℕ) (c e lo end n : ℕ) (W : List ℕ) → W ≡ replicate n 0
    → Putting side f c e lo end n 0 lo W
unfolding move_words
put_first side f c e lo end n W z =
    record { past = omega arith; moves = []; is = refl; count = refl; few = omega arith; words = z ∙ sym (pad_none n) }

module _ {side : Side} {f : ℕ → ℕ} {c e lo end n k i : ℕ} {W : List ℕ} (s : Putting side f c e lo end n k i W) where
  pub put_next : (b steps r : ℕ) (X : List ℕ) → Chosen side f lo b c → f c < e → i < end → end ≡ b + 1
      → steps ≡ steps_in (move_of side f c e i) → r ≡ k + cond (eqb steps 0) 0 1
      → X ≡ splice W (k * 3) (move_row i c steps) → Putting side f c e lo end n r (i + 1) X
  put_next b steps r X p l h u q ek ew = go (turn side f lo b c e i p l s.past (omega arith) steps q)
    where
      next : (o : Option CutMove) → move_of side f c e i ≡ o
          → moves_from side f c e lo (end - lo) ≡ s.moves ++ step o (moves_from side f c e (i + 1) (end - (i + 1)))
      next o m =
          let left : end - i ≡ suc (end - (i + 1)) = omega arith in
          s.is ∙ ap (λ (j : ℕ). s.moves ++ moves_from side f c e i j) left
          ∙ ap (λ (ms : List CutMove). s.moves ++ ms) (moves_next side f c e i (end - (i + 1)) o m)

      go : Turn side f c e i steps → Putting side f c e lo end n r (i + 1) X
      go (no_row m z) =
          let v = put_none W k i c steps z in
          record {
            past = omega (arith, s.past);
            moves = s.moves;
            is = next none m;
            count = ek ∙ sym v.0 ∙ s.count;
            few = omega (arith, ek, v.0, s.few);
            words = ew ∙ sym v.1 ∙ s.words;
          }
      go (row m d z w) =
          let one : r ≡ k + 1 = ek ∙ sym (one_more_lem k steps z) in
          let own = move_words (m ∷ []) in
          let at : length (move_words s.moves) ≡ k * 3 = omega (arith, length_move_words s.moves, s.count) in
          record {
            past = omega (arith, s.past);
            moves = s.moves ++ (m ∷ []);
            is = next (some m) d ∙ sym (append_assoc s.moves (m ∷ []) _);
            count = (let v = length-append s.moves (m ∷ []) in omega (arith, one, s.count));
            few = omega (arith, one, s.few, s.past);
            words =
                ew ∙ (λ x. splice (s.words x) (k * 3) (w x)) ∙ pad_splice n (move_words s.moves) own (k * 3) at
                ∙ ap (pad n) (sym (move_words_append s.moves (m ∷ [])));
          }

  pub put_end : (b : ℕ) → end ≤ i → end ≡ b + 1 → (k ≡ length (moves_from side f c e lo (suc b - lo)))
      × (W ≡ pad n (move_words (moves_from side f c e lo (suc b - lo))))
  unfolding moves_from
  put_end b h u =
      let z : end - i ≡ 0 = omega arith in
      let y : end - lo ≡ suc b - lo = omega arith in
      let m : moves_from side f c e lo (suc b - lo) ≡ s.moves =
      sym (ap (moves_from side f c e lo) y) ∙ s.is ∙ ap (λ (j : ℕ). s.moves ++ moves_from side f c e i j) z
      ∙ append-nil s.moves in
      rw m (s.count, s.words)
