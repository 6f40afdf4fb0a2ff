-- What `order` writes. Assumes nothing.
use Rattle.std.specs.Prelude.{◌≡◌, Bool, true, false, List, ℕ, Result, Ok, Err}
use Rattle.definition.specs.JobOrder.{ordered_text}
use Rattle.streams.specs.Tape.{is_tape}
use Rattle.streams.specs.Paper.{OnPaper}
use Rattle.order_answer.specs.declared.run.BrokenAt.{BrokenAt}
use Rattle.order_answer.specs.declared.run.BrokenAt.TheVariants.{First, Second, Output}
use Rattle.order_answer.specs.Tapes.{Taped}
use Rattle.order_answer.specs.Reads.{rest_of, ReadAll, Fails}

-- a text, on a tape
abbrev pub Written : Taped → List ℕ → Bool → List ℕ → Type 0
Written o text failed P = is_tape o.at ≡ true → OnPaper o.tape o.bytes text o.at failed o.next P

-- nothing
abbrev pub Nothing : Taped → List ℕ → Type 0
Nothing o P = (P ≡ o.bytes) × (o.next ≡ o.at)

-- both sheets were read to their ends, and on tapes the answer to them is written, or its first bytes
pub record Answered (s t o : Taped) (failed : Bool) (P : List ℕ) : Type 0 where
  pub first : ReadAll s
  pub second : ReadAll t
  pub written : is_tape s.at ≡ true → is_tape t.at ≡ true
      → Written o (ordered_text (rest_of s) (rest_of t)) failed P

-- by where the run broke off
abbrev pub Ordered : Taped → Taped → Taped → Result Unit BrokenAt → List ℕ → Type 0
Ordered s t o (Err First) P = Fails s × Nothing o P
Ordered s t o (Err Second) P = ReadAll s × Fails t × Nothing o P
Ordered s t o (Err Output) P = Answered s t o true P
Ordered s t o (Ok u) P = Answered s t o false P
