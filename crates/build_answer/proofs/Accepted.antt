-- A call that answers 0: the result that is read from the bytes is the definition's. Assumes nothing.
use mathlib.Core.Path.{◌≡◌, refl, sym, ap, ◌∙◌}
use mathlib.Core.Bool.{Bool, true, false}
use mathlib.Core.List.{List}
use Prim.Native.Nat.{ℕ, ◌≤◌}
use native.Mathlib.Omega.{arith}
use lib.ListN.{replicate}
use Rattle.words.specs.Words.{words_of}
use Rattle.definition.specs.declared.Refusal.{Refusal}
use Rattle.definition.specs.declared.Refusal.TheVariants.{NotARecord, OverALimit, BadBook, BadFunction, BadHint, BadSegment, BadUse, Stopped, Full}
use Rattle.definition.specs.Types.{Job, Room, Out, done, refused, number_of}
use Rattle.definition.specs.Build.{Result}
use Rattle.definition.specs.Entry.{answer}
use Rattle.job_shape.specs.Shape.{shape_ok}
use Rattle.job_shape.specs.Answer.{binary_job, answer_if, binary_answer}
use Rattle.virt_regs.specs.declared.OutLayout.{OutLayout}
use Rattle.virt_regs.specs.Encoding.{room_of, Holds}
use Rattle.virt_regs.specs.View.{registers_in, groups_in, registers_held, groups_held}
use Rattle.definition.specs.declared.SheetRefusal.TheVariants.{By, WrittenDiffers}
use Rattle.definition.specs.SheetForms.{SheetOut, given', refused', lift}
use Rattle.build_answer.specs.Sheets.{sheet_end, sheet_bytes, SheetAnswered}
use Rattle.build_answer.specs.declared.BuildEnd.{BuildEnd}
use Rattle.build_answer.specs.Answered.{bytes_left, end_left, state_of, Answered, result_in}

pub number_in : (f : Refusal) → (1 ≤ number_of f) × (number_of f ≤ 9)
number_in NotARecord = (omega arith, omega arith)
number_in OverALimit = (omega arith, omega arith)
number_in BadBook = (omega arith, omega arith)
number_in BadFunction = (omega arith, omega arith)
number_in BadHint = (omega arith, omega arith)
number_in BadSegment = (omega arith, omega arith)
number_in BadUse = (omega arith, omega arith)
number_in (Stopped s) = (omega arith, omega arith)
number_in Full = (omega arith, omega arith)

-- the answer to an accepted job, and to a refused one
pub end_done : (n : ℕ) (ol : OutLayout) (o : Out Result) (r : BuildEnd) (x : List ℕ) (res : Result) → Answered n ol o r x → o ≡ done res → r.number ≡ 0
unfolding end_left
end_done n ol o r x res a e = ap (λ (b : BuildEnd). b.number) (a.end ∙ ap end_left e)

pub end_refused : (n : ℕ) (ol : OutLayout) (o : Out Result) (r : BuildEnd) (x : List ℕ) (f : Refusal) → Answered n ol o r x → o ≡ refused f → r.number ≡ number_of f
unfolding end_left
end_refused n ol o r x f a e = ap (λ (b : BuildEnd). b.number) (a.end ∙ ap end_left e)

-- what is read where the definition's answer is done
pub read_done : (n : ℕ) (ol : OutLayout) (o : Out Result) (r : BuildEnd) (x : List ℕ) (res : Result) → Answered n ol o r x → o ≡ done res → result_in ol r x ≡ res
unfolding end_left
read_done n ol o r x res a e =
    let h : Holds ol (words_of x) (state_of res) = a.holds res e in
    let q : r ≡ end_left (done res) = a.end ∙ ap end_left e in
    let rs : registers_in ol (words_of x) r.registers ≡ res.registers = ap (λ (b : BuildEnd). registers_in ol (words_of x) b.registers) q ∙ registers_held ol (words_of x) (state_of res) h in
    let gs : groups_in ol (words_of x) r.groups ≡ res.groups = ap (λ (b : BuildEnd). groups_in ol (words_of x) b.groups) q ∙ groups_held ol (words_of x) (state_of res) h in
    λ i. record { registers = rs i; groups = gs i }

-- 0 is the number of no refusal
pub read_answer : (n : ℕ) (ol : OutLayout) (o : Out Result) (r : BuildEnd) (x : List ℕ) → Answered n ol o r x → r.number ≡ 0 → o ≡ done (result_in ol r x)
unfolding end_left
read_answer n ol (done res) r x a z = ap done (sym (read_done n ol (done res) r x res a refl))
read_answer n ol (refused f) r x a z = absurd (omega (arith, ap (λ (b : BuildEnd). b.number) a.end, (number_in f).0))

-- the same of an answer to a sheet
pub read_given : (n : ℕ) (ol : OutLayout) (o : SheetOut Result) (r : BuildEnd) (x : List ℕ) → SheetAnswered n ol o r x → r.number ≡ 0
    → o ≡ given' (result_in ol r x)
unfolding sheet_end sheet_bytes end_left bytes_left
read_given n ol (given' res) r x a z =
    ap given' (sym (read_done n ol (done res) r x res (record { end = a.end; bytes = a.bytes; holds = λ k e. a.holds k (ap (λ (t : Out Result). lift t) e) }) refl))
read_given n ol (refused' (By f)) r x a z = absurd (omega (arith, ap (λ (b : BuildEnd). b.number) a.end, (number_in f).0))
read_given n ol (refused' WrittenDiffers) r x a z = absurd (omega (arith, ap (λ (b : BuildEnd). b.number) a.end))

shaped_answer : (t : Bool) (job : Job) (room : Room) (res : Result) → answer_if t job room ≡ done res → answer job room ≡ done res
unfolding answer_if
shaped_answer true job room res e = e
shaped_answer false job room res e = absurd (let w : ◌≡◌ {A = ℕ} 0 1 = cc in omega arith)

by_shape : (s : List ℕ) (room : Room) → binary_answer s room ≡ answer_if (shape_ok s) (binary_job s) room
unfolding binary_answer
by_shape s room = refl

-- The one lemma of the promises: the job that the bytes s stand for is accepted, and its result is the one that is read from the bytes x.
pub accepted : (n : ℕ) (ol : OutLayout) (s : List ℕ) (r : BuildEnd) (x : List ℕ) → Answered n ol (binary_answer s (room_of ol)) r x → r.number ≡ 0
    → answer (binary_job s) (room_of ol) ≡ done (result_in ol r x)
accepted n ol s r x a z = shaped_answer (shape_ok s) (binary_job s) (room_of ol) (result_in ol r x) (sym (by_shape s (room_of ol)) ∙ read_answer n ol (binary_answer s (room_of ol)) r x a z)

-- a refused call
pub zeros_left : (n : ℕ) (ol : OutLayout) (o : Out Result) (r : BuildEnd) (x : List ℕ) → Answered n ol o r x
    → (r.number ≤ 9) × ((r.number ≡ 0 → ⊥) → (x ≡ replicate n 0) × (r.registers ≡ 0) × (r.groups ≡ 0))
unfolding end_left bytes_left
zeros_left n ol (done res) r x a =
    let z : r.number ≡ 0 = ap (λ (b : BuildEnd). b.number) a.end in
    (omega arith, λ w. absurd (w z))
zeros_left n ol (refused f) r x a =
    let z : r.number ≡ number_of f = ap (λ (b : BuildEnd). b.number) a.end in
    (omega (arith, (number_in f).1), λ w. (a.bytes, ap (λ (b : BuildEnd). b.registers) a.end, ap (λ (b : BuildEnd). b.groups) a.end))
