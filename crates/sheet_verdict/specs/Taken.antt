-- What the reader was fed of a stream. Assumes nothing.
use Rattle.std.specs.Prelude.{◌≡◌, refl, Bool, true, false, List, ◌++◌, ℕ, length, drop, Result, Ok, Err}
use Rattle.std.proofs.Common.{sym, ap, ◌∙◌, append-nil}
use Rattle.std.proofs.Math.Seq.{drop-length}
use Rattle.sheet.specs.declared.either.Reading.{Reading}
use Rattle.sheet.specs.Front.{Formed}
use Rattle.sheet.specs.Stream.{Streamed}
use Rattle.streams.specs.declared.Stream.{Stream}
use Rattle.streams.specs.Tape.{is_tape, at_of, Passed, Unread}
use Rattle.sheet_verdict.specs.declared.input.Unread.{Unread as Behind}

-- the state of the reader, where a read failed too
abbrev pub reading_in : Result Reading Behind → Reading
reading_in (Ok cur) = cur
reading_in (Err e) = e.behind

-- on a tape: the reader was fed the bytes from where the stream stood to where it stands; and it stands at their end,
-- and no read failed, or a read failed
pub record OnTape (tape given bytes : List ℕ) (s : Stream) (failed : Bool) (next : Stream) : Type 0 where
  pub fed : bytes ++ drop (at_of next) given ≡ drop (at_of s) given
  pub whole : failed ≡ false → at_of next ≡ length given
  pub passed : failed ≡ false → Passed tape s next
  pub stopped : failed ≡ true → Unread tape s next

-- the reader went from f to g on some bytes, and on a tape on those
pub record Taken (tape given : List ℕ) (s : Stream) (f g : Formed) (failed : Bool) (next : Stream) : Type 0 where
  pub streamed : Streamed f g
  pub on_tape : is_tape s ≡ true → OnTape tape given streamed.bytes s failed next

-- so where no read failed, the reader was fed all bytes
pub all_fed : (tape given bytes : List ℕ) (s next : Stream) → OnTape tape given bytes s false next
    → bytes ≡ drop (at_of s) given
all_fed tape given bytes s next t =
    sym (append-nil bytes) ∙ ap (λ (l : List ℕ). bytes ++ l) (sym (drop-length given))
    ∙ ap (λ (m : ℕ). bytes ++ drop m given) (sym (t.whole refl)) ∙ t.fed
