-- What is known of a job sheet that was read from a stream. Assumes nothing.
use Rattle.std.specs.Prelude.{◌≡◌, true, List, ℕ, Result, Ok, Err, IsOk, drop, length}
use Rattle.words.specs.Words.{words_of}
use Rattle.definition.specs.declared.SheetRefusal.{SheetRefusal}
use Rattle.job_pages.specs.Cursors.{at_start}
use Rattle.job_pages.specs.Pages.{Shows}
use Rattle.order_answer.specs.Shelved.{Shelved}
use Rattle.streams.specs.declared.Cut.{Cut}
use Rattle.streams.specs.Tape.{is_tape, at_of, Passed, Unread}
use Rattle.order_answer.specs.Tapes.{Taped}

-- the bytes that a stream is given from where it stands
abbrev pub rest_of : Taped → List ℕ
rest_of s = drop (at_of s.at) s.bytes

-- on a tape the stream stands at the end of its bytes, and no read failed
abbrev pub ReadAll : Taped → Type 0
ReadAll s = is_tape s.at ≡ true → (at_of s.next ≡ length s.bytes) × Passed s.tape s.at s.next

-- v is the verdict on a sheet, of which the bytes T are the table; on a tape, on all bytes that it is given
pub record Told (s : Taped) (v : Result Unit SheetRefusal) (T : List ℕ) : Type 0 where
  pub whole : ReadAll s
  pub shows : IsOk v → Shows T at_start
  pub shelved : is_tape s.at ≡ true → Shelved (rest_of s) (words_of T) v

-- on a tape a read failed: the first one whose answer fails, and none was made behind it
abbrev pub Fails : Taped → Type 0
Fails s = is_tape s.at ≡ true → Unread s.tape s.at s.next

-- the sheet was read to its end; or a read failed
abbrev pub JobRead : Taped → Result (Result Unit SheetRefusal) Cut → List ℕ → Type 0
JobRead s (Ok v) T = Told s v T
JobRead s (Err e) T = Fails s
