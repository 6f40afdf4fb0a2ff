-- What is read of a stream of frames. Assumes nothing.
use Rattle.std.specs.Prelude.{◌≡◌, Bool, true, false, List, ℕ, ◌+◌, ◌≤◌, eqb, length, take, drop, Result, IfOk, IfErr}
use Rattle.streams.specs.declared.Stream.{Stream}
use Rattle.streams.specs.Tape.{is_tape, call_of, at_of, Passed, Unread}
use Rattle.frames.specs.declared.Frame.{Frame}
use Rattle.frames.specs.declared.NoFrame.{NoFrame}
use Rattle.frames.specs.declared.NoFrame.TheVariants.{Failed, Ended, Other}
use Rattle.frames.specs.Frames.{sheet_size, answer_size, frame_size, is_head, is_frame, frame_sheet, frame_answer}

abbrev pub failed : NoFrame → Bool
failed Failed = true
failed Ended = false
failed Other = false

abbrev pub ended : NoFrame → Bool
ended Failed = false
ended Ended = true
ended Other = false

-- on a tape, the bytes D being left, where no whole frame was read: a read failed; or none did, what is left is no
-- frame, and whether it is nothing is told
pub record Missing (tape D : List ℕ) (s : Stream) (e : NoFrame) (t : Stream) : Type 0 where
  pub stopped : failed e ≡ true → Unread tape s t
  pub passed : failed e ≡ false → Passed tape s t
  pub none : failed e ≡ false → is_frame D ≡ false
  pub empty : failed e ≡ false → ended e ≡ eqb (length D) 0

-- its head
pub record Headed (tape D : List ℕ) (s : Stream) (f : Frame) (t : Stream) : Type 0 where
  pub long : 18 ≤ length D
  pub head : is_head D ≡ true
  pub sheet : f.sheet ≡ sheet_size D
  pub answer : f.answer ≡ answer_size D
  pub at : at_of t ≡ at_of s + 18
  pub passed : Passed tape s t
  pub onward : call_of s + 1 ≤ call_of t

pub record HeadRead (tape given : List ℕ) (s : Stream) (r : Result Frame NoFrame) (t : Stream) : Type 0 where
  pub taped : is_tape t ≡ is_tape s
  pub bound : at_of t ≤ length given
  pub room : IfOk r (λ f. (f.sheet ≤ 262144) × (f.answer ≤ 524288))
  pub whole : IfOk r (λ f. is_tape s ≡ true → Headed tape (drop (at_of s) given) s f t)
  pub missing : IfErr r (λ e. is_tape s ≡ true → Missing tape (drop (at_of s) given) s e t)

-- all of it, in the buffers S and A
pub record Framed (tape D : List ℕ) (s : Stream) (f : Frame) (t : Stream) (S A : List ℕ) : Type 0 where
  pub frame : is_frame D ≡ true
  pub sheet : take f.sheet S ≡ frame_sheet D
  pub answer : take f.answer A ≡ frame_answer D
  pub at : at_of t ≡ at_of s + frame_size D
  pub passed : Passed tape s t
  pub onward : call_of s + 1 ≤ call_of t

pub record FrameRead (tape given : List ℕ) (s : Stream) (r : Result Frame NoFrame) (t : Stream) (S A : List ℕ) : Type 0 where
  pub taped : is_tape t ≡ is_tape s
  pub bound : at_of t ≤ length given
  pub sheet : IfOk r (λ f. (f.sheet ≤ length S) × (f.sheet ≡ length (take f.sheet S)))
  pub answer : IfOk r (λ f. (f.answer ≤ length A) × (f.answer ≡ length (take f.answer A)))
  pub whole : IfOk r (λ f. is_tape s ≡ true → Framed tape (drop (at_of s) given) s f t S A)
  pub missing : IfErr r (λ e. is_tape s ≡ true → Missing tape (drop (at_of s) given) s e t)
