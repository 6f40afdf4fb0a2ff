-- What placing a conflict piece asks, and the piece, of the frame and the slices. Asks has it of words and layouts.
-- Assumes nothing.
use Rattle.std.specs.Prelude.{ℕ, List}
use Rattle.std.specs.Prelude as code
use Rattle.words.specs.Words.{word_count, words_of}
use Rattle.job.specs.JobWords.{words_in}
use Rattle.frame.specs.declared.lent.Frame.{Frame}
use Rattle.definition.specs.Types.{State}
use Rattle.definition.specs.Types.{Piece}
use Rattle.definition.specs.declared.Inst.{Inst}
use Rattle.definition.specs.declared.Value.{Value}
use Rattle.virt_regs.specs.declared.Counts.{Counts}
use Rattle.place.specs.Asks as asks

-- what the placing of a conflict piece asks
abbrev pub Asks : Frame → List ℕ → List ℕ → ℕ → ℕ → Inst → Counts → (State → Type 0) → Type 0
Asks fr work out = asks.Asks (word_count fr.job.bytes.now) (word_count work) (word_count out) (words_in fr.job) (words_of work) (words_of out) fr.job.lay fr.wl fr.ol

-- the piece of these turned rows
abbrev pub pieces_of : Frame → List ℕ → ℕ → ℕ → Value → Inst → code.Option ℕ → List Piece
pieces_of fr work = asks.pieces_of (words_of work) fr.wl.turned (words_in fr.job) fr.job.lay
