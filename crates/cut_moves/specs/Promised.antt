-- The words in which `proofs/Promise.antt` speaks of bytes: the cut finder asked again with one frequency word
-- replaced, and the rows of the list read back. So a reader can try each promise by two calls. Assumes nothing.
use Rattle.std.specs.Prelude.{ℕ, ◌+◌, ◌*◌, ◌≡◌, cond, List, [], ◌∷◌, eqb, get_or}
use Rattle.definition.specs.declared.CutMove.{CutMove}
use Rattle.definition.specs.declared.Way.TheVariants.{Up, Down}
use Rattle.words.specs.Parts.{splice}
use Rattle.words.specs.RowsAt.{rows_at}
use Rattle.words.specs.Words.{words_of, bytes_of}
use Rattle.find_cut.specs.Answer.{cut_answer}

-- the frequency word of row j
abbrev pub word_in : List ℕ → ℕ → ℕ
word_in s j = get_or (words_of s) (j * 2 + 1) 0

-- the bytes s, but the frequency word of row j is x
unfoldable pub with_word : List ℕ → ℕ → ℕ → List ℕ
unfolding splice bytes_of
with_word s j x = splice s (j * 8 + 4) (bytes_of (x ∷ []))

-- the exported cut finder, asked again with x for the frequency word of row j, answers another instruction
abbrev pub Asked : List ℕ → ℕ → ℕ → ℕ → ℕ → ℕ → Type 0
Asked s after before side j x =
    (cut_answer (with_word s j x) after before side).inst ≡ (cut_answer s after before side).inst → ⊥

-- the row of three words from word i on: 0 is up, 1 is down
unfoldable pub move_read : List ℕ → ℕ → CutMove
move_read W i =
    record {
      block = record { 0 = get_or W i 0 };
      way = cond (eqb (get_or W (i + 1) 0) 0) Up Down;
      steps = get_or W (i + 2) 0;
    }

-- the n rows at the front of a list's bytes
unfoldable pub moves_read : List ℕ → ℕ → List CutMove
unfolding rows_at move_read words_of
moves_read L n = rows_at move_read (words_of L) 0 3 n
