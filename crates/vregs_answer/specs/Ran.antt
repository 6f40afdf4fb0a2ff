-- What `replay` does on tapes. Assumes nothing.
use Rattle.std.specs.Prelude.{◌≡◌, Bool, true, false, List, [], ◌++◌, ℕ, ◌+◌, ◌≤◌, length, take, drop, Result, IfOk, IfErr}
use Rattle.streams.specs.declared.Stream.{Stream}
use Rattle.streams.specs.declared.Broken.{Broken}
use Rattle.streams.specs.Tape.{is_tape, call_of, at_of, Passed, Unread, Unwritten, in_broken, out_broken}
use Rattle.frames.specs.declared.NoFrame.{NoFrame}
use Rattle.frames.specs.Frames.{is_frame, frame_size, agrees}
use Rattle.frames.specs.Report.{report}
use Rattle.frames.specs.Read.{Missing}

-- the bytes D begin with a frame, and its answer was compared
pub record Compared (tape D : List ℕ) (s : Stream) (same : Bool) (t : Stream) : Type 0 where
  pub frame : is_frame D ≡ true
  pub is : same ≡ agrees D
  pub at : at_of t ≡ at_of s + frame_size D
  pub passed : Passed tape s t
  pub onward : call_of s + 1 ≤ call_of t

pub record AnswerRead (tape given : List ℕ) (s : Stream) (r : Result Bool NoFrame) (t : Stream) : Type 0 where
  pub taped : is_tape t ≡ is_tape s
  pub bound : at_of t ≤ length given
  pub whole : IfOk r (λ b. is_tape s ≡ true → Compared tape (drop (at_of s) given) s b t)
  pub missing : IfErr r (λ e. is_tape s ≡ true → Missing tape (drop (at_of s) given) s e t)

-- behind what stood on the paper stands the report on all bytes that are given; or its first bytes, and then a read or a
-- write failed. No call is made behind one that failed
pub record OnTapes (reads given : List ℕ) (input at : Stream) (writes paper : List ℕ) (output : Stream) (r : Result Unit Broken) (to : Stream) (P : List ℕ) : Type 0 where
  pub rest : List ℕ
  pub is : take (at_of to) P ++ rest ≡ take (at_of output) paper ++ report (drop (at_of input) given)
  pub whole : in_broken r ≡ false → out_broken r ≡ false → rest ≡ []
  pub unread : in_broken r ≡ true → Unread reads input at
  pub read : in_broken r ≡ false → Passed reads input at
  pub unwritten : out_broken r ≡ true → Unwritten writes output to P
  pub written : out_broken r ≡ false → Passed writes output to

pub record Ran (reads given : List ℕ) (input at : Stream) (writes paper : List ℕ) (output : Stream) (r : Result Unit Broken) (to : Stream) (P : List ℕ) : Type 0 where
  pub on_tapes : is_tape input ≡ true → is_tape output ≡ true → OnTapes reads given input at writes paper output r to P
