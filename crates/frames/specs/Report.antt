-- What `replay` writes on the bytes that it reads. Assumes nothing.
use Rattle.std.specs.Prelude.{Bool, true, false, cond, List, [], ◌∷◌, ◌++◌, ℕ, zero, suc, ◌+◌, eqb, length}
use Rattle.definition.specs.Text.{bytes, decimal, line_feed}
use Rattle.frames.specs.Frames.{is_frame, agrees, past_frame}

-- a line for an answer that is another
unfoldable pub differs_line : Bool → ℕ → List ℕ
differs_line true k = []
differs_line false k = bytes "differs: " ++ decimal k ++ (line_feed ∷ [])

abbrev pub missed : Bool → ℕ
missed true = 0
missed false = 1

-- the last line, for n answers of which d differ: the input ended with them, or went on with something else
unfoldable pub summary : Bool → ℕ → ℕ → List ℕ
summary false n d = decimal n ++ (bytes " answers, then no frame" ++ (line_feed ∷ []))
summary true n d =
    cond (eqb d 0) (decimal n ++ (bytes " answers, all equal" ++ (line_feed ∷ [])))
    (decimal n ++ bytes " answers, " ++ decimal d ++ (bytes " differ" ++ (line_feed ∷ [])))

-- n answers and d that differ lie behind; the first number counts the frames that may be left, and bytes behind them are no frame
unfoldable pub report_from : ℕ → ℕ → ℕ → List ℕ → List ℕ
report_from zero n d bs = summary (eqb (length bs) 0) n d
report_from (suc k) n d bs =
    cond (is_frame bs) (differs_line (agrees bs) (n + 1) ++ report_from k (n + 1) (d + missed (agrees bs)) (past_frame bs)) (summary (eqb (length bs) 0) n d)

-- a frame has 18 bytes or more, so there are fewer frames than bytes
abbrev pub report : List ℕ → List ℕ
report bs = report_from (length bs) 0 0 bs
