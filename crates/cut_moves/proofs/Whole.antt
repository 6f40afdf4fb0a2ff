-- The answer and the lent list, one law for each way out of the exported function: `left_empty`, `left_moves`.
-- Assumes nothing.
use Prim.Native.Nat.{ℕ, ◌*◌, ◌/◌, ◌≤◌, ◌<◌}
use native.Mathlib.Omega.{arith}
use mathlib.Core.Path.{◌≡◌, sym, ap, ◌∙◌}
use mathlib.Core.List.{List, ◌++◌}
use lib.ListN.{length, get_or, take, drop, replicate, length-replicate}
use lib.Seq.{take_all}
use Rattle.definition.specs.declared.CutMove.{CutMove}
use Rattle.definition.specs.declared.Side.{Side}
use Rattle.std.specs.Prelude.{Err}
use Rattle.definition.specs.declared.Refusal.{Refusal}
use Rattle.definition.specs.Types.{done, refused, inst, number_of}
use Rattle.definition.specs.CutMoves.{cut_moves}
use Rattle.words.specs.Parts.{pad}
use Rattle.words.specs.Words.{word_count, words_of}
use Rattle.words.specs.Laws.{length_words, words_replicate, words_take, count_whole}
use Rattle.find_cut.specs.Answer.{blocks_in}
use Rattle.cut_moves.specs.declared.MovesEnd.{MovesEnd}
use Rattle.cut_moves.specs.Answer.{move_words, moves_at, end_of, list_of, moves_end, list_left, moves_admission}
use Rattle.cut_moves.proofs.Numbers.{refused_out, Free}
use Rattle.cut_moves.proofs.Lists.{list_whole}

abbrev pub ended : ℕ → ℕ → MovesEnd
ended k n = record { number = k; count = n }

-- ---- the lent list cleared

module _ (room : ℕ) (z : List ℕ) (ez : z ≡ replicate room 0) where
  long : length z ≡ room
  long = ap length ez ∙ length-replicate room 0

  -- its whole words
  pub part_zero : words_of (take (word_count z * 4) z) ≡ replicate (word_count (take (word_count z * 4) z)) 0
  part_zero =
      let k : room / 4 ≡ word_count (take (word_count z * 4) z) = omega (arith, long, count_whole z) in
      words_take (word_count z) z ∙ take_all (word_count z) (words_of z) (omega (arith, length_words z)) ∙ ap words_of ez
      ∙ words_replicate room ∙ ap (λ (m : ℕ). replicate m 0) k

-- ---- refused

pub left_empty : (s : List ℕ) (a b side room : ℕ) (z : List ℕ) → z ≡ replicate room 0 → (k : ℕ) (r : Refusal)
    → moves_admission s a b side (length z / 12) ≡ Err r → k ≡ number_of r
    → (ended k 0 ≡ moves_end s a b side room) × (z ≡ list_left s a b side room)
unfolding moves_end list_left end_of list_of
left_empty s a b side room z ez k r e h =
    let o : moves_at s a b side (room / 12) ≡ refused r =
    sym (ap (λ (m : ℕ). moves_at s a b side (m / 12)) (long room z ez)) ∙ refused_out s a b side (length z / 12) r e in
    (ap (λ (x : ℕ). ended x 0) h ∙ sym (ap end_of o), ez ∙ sym (ap (list_of room) o))

-- ---- accepted

-- nothing is refused, and z is the lent list, cleared
pub record Accepted (s : List ℕ) (a b side room : ℕ) (z : List ℕ) (d : Side) : Type 0 where
  pub zeros : z ≡ replicate room 0
  pub free : Free s a b side (length z / 12) d

module _ {s : List ℕ} {a b side room : ℕ} {z : List ℕ} {d : Side} (o : Accepted s a b side room z d) where
  pub rows_fit : length s / 8 * 3 ≤ word_count (take (word_count z * 4) z)
  rows_fit = omega (arith, o.free.fits, count_whole z)

  -- the whole words are p now
  pub left_moves : (k : ℕ) (p : List ℕ) → length p ≡ length (take (word_count z * 4) z)
      → ((i : ℕ) → get_or (p ++ drop (word_count z * 4) z) i 0 < 256)
      → k ≡ length (cut_moves (blocks_in s) (inst a) (inst b) d)
      → words_of p ≡ pad (word_count (take (word_count z * 4) z)) (move_words (cut_moves (blocks_in s) (inst a) (inst b) d))
      → (ended 0 k ≡ moves_end s a b side room) × (p ++ drop (word_count z * 4) z ≡ list_left s a b side room)
  unfolding moves_end list_left end_of list_of
  left_moves k p l small ek ew = (
    ap (λ (m : ℕ). ended 0 m) ek ∙ sym (ap end_of out),
    list_whole room z p (move_words ms) o.zeros l small ew ∙ sym (ap (list_of room) out),
  )
    where
      ms : List CutMove
      ms = cut_moves (blocks_in s) (inst a) (inst b) d

      out : moves_at s a b side (room / 12) ≡ done ms
      out =
          sym (ap (λ (m : ℕ). moves_at s a b side (m / 12)) (long room z o.zeros))
          ∙ o.free.accepted
          ∙ ap (λ (x : Side). done (cut_moves (blocks_in s) (inst a) (inst b) x)) (sym o.free.named)
