-- The exported cut finder's answer, for any bytes and numbers: through the definition's `find_cut`. Assumes nothing.
use Rattle.std.specs.Prelude.{ℕ, ◌/◌, ◌%◌, Bool, ◌&&◌, cond, List, leb, ltb, eqb, length, Result, Ok, Err}
use Rattle.std.proofs.Math.Option.{Option, none, some}
use Rattle.definition.specs.declared.Inst.{Inst}
use Rattle.definition.specs.declared.BlockData.{BlockData}
use Rattle.definition.specs.declared.Side.{Side}
use Rattle.definition.specs.declared.Side.TheVariants.{Early, Late}
use Rattle.definition.specs.declared.Refusal.{Refusal}
use Rattle.definition.specs.declared.Refusal.TheVariants.{NotARecord}
use Rattle.definition.specs.Types.{Out, done, refused, inst, number_of}
use Rattle.definition.specs.Entry.{find_cut, cut_tests, lowest_of, insts_of, every, block_ok}
use Rattle.words.specs.Parts.{splice}
use Rattle.words.specs.Words.{words_of}
use Rattle.function.specs.Blocks.{blocks_at, start_words}
use Rattle.find_cut.specs.declared.Cut.{Cut}

-- the blocks that the bytes are rows of, eight bytes to a row
abbrev pub blocks_in : List ℕ → List BlockData
blocks_in s = blocks_at (words_of s) 0 (length s / 8)

-- 0 is early, 1 is late
unfoldable pub side_named : ℕ → Side
side_named side = cond (eqb side 0) Early Late

-- a side on its list, whole rows, and a block at least: otherwise 1
abbrev pub readable : List ℕ → ℕ → Bool
readable s side = leb side 1 && (eqb (length s % 8) 0 && ltb 0 (length s))

unfoldable pub cut_out : List ℕ → ℕ → ℕ → ℕ → Out Inst
unfolding find_cut side_named
cut_out s after before side = cond (readable s side) (find_cut (blocks_in s) (inst after) (inst before) (side_named side)) (refused NotARecord)

-- number 0 and the place; or the refusal's number alone
unfoldable pub cut_of : Out Inst → Cut
cut_of (done i) = record { number = 0; inst = i.0 }
cut_of (refused r) = record { number = number_of r; inst = 0 }

unfoldable pub cut_answer : List ℕ → ℕ → ℕ → ℕ → Cut
unfolding cut_out cut_of
cut_answer s after before side = cut_of (cut_out s after before side)

-- what is left in the work space w: the table of starts if a place was found, else what was there
unfoldable pub work_left : List ℕ → ℕ → ℕ → ℕ → List ℕ → List ℕ
unfolding cut_answer
work_left s after before side w = cond (eqb (cut_answer s after before side).number 0) (splice w 0 (start_words (words_of s) 0 (length s / 8))) w

-- ---- within the code

-- the first refusal that the tests of numbers 2 and 4 find
unfoldable pub cut_refusal : List ℕ → ℕ → ℕ → Option Refusal
unfolding lowest_of insts_of every block_ok
cut_refusal s after before = lowest_of (cut_tests (blocks_in s) (inst after) (inst before))

-- x, unless there is a refusal
abbrev pub unless : {A : Type 0} → Option Refusal → A → Result A Refusal
unless none x = Ok x
unless (some r) x = Err r

-- what all the tests of a call say: its side, or the first refusal
unfoldable pub admission : List ℕ → ℕ → ℕ → ℕ → Result Side Refusal
unfolding side_named cut_refusal
admission s after before side =
    cond (readable s side) (unless (cut_refusal s after before) (side_named side)) (Err NotARecord)
