-- The promises on calls of the exported build, of the bytes that a call leaves: a theorem for each. Assumes nothing.
-- A call is lent a slice of n bytes with the tables ol and a job of the bytes s; it answers r and leaves the bytes x (`Answered`). It accepts where `r.number` is 0.
-- `binary_job s` is the job that s stands for; `result_in ol r x` the result, its registers and groups read back from the bytes x by the counts in r.
-- What each word means is in `specs/Promised.antt` of the definition: `live_at v q` how many segments of value v hold the point q, `had v u` how often they have the use u.
use mathlib.Core.Path.{◌≡◌}
use mathlib.Core.Bool.{true}
use mathlib.Core.Option.{some}
use mathlib.Core.List.{List}
use Prim.Native.Nat.{ℕ, ◌+◌, ◌≤◌}
use lib.ListN.{replicate}
use Rattle.words.specs.Words.{words_of}
use Rattle.definition.specs.declared.Inst.{Inst}
use Rattle.definition.specs.declared.Value.{Value}
use Rattle.definition.specs.declared.ValueSet.{ValueSet}
use Rattle.definition.specs.declared.RegClass.{RegClass}
use Rattle.definition.specs.declared.Use.{Use}
use Rattle.definition.specs.declared.Refusal.{Refusal}
use Rattle.definition.specs.Types.{Job, done, refused, number_of}
use Rattle.definition.specs.RegInfo.{set_of}
use Rattle.definition.specs.Uses.{class_of, is_class_use}
use Rattle.definition.specs.Build.{Result}
use Rattle.definition.specs.Lines.{printed}
use Rattle.definition.specs.SheetForms.{job_in, answer_to_sheet}
use Rattle.definition.specs.Promised.{Follows, In, Listed, Transitive, added_in, by_first, class_uses_at, covered, had, live_at, input_of, marks_at, own_in, own_of, valued, marked_for}
use Rattle.definition.proofs.Places.{All}
use Rattle.definition.proofs.Promises as defined
use Rattle.job_shape.specs.Answer.{binary_job, binary_answer}
use Rattle.virt_regs.specs.declared.OutLayout.{OutLayout}
use Rattle.virt_regs.specs.Encoding.{room_of}
use Rattle.virt_regs.specs.View.{registers_in, groups_in}
use Rattle.build_answer.specs.Truth.{RankTrue, TrueWeight}
use Rattle.build_answer.proofs.TruthPromises.{promise_weights, promise_ranks, promise_weights_sheet as sheet-weights}
use Rattle.build_answer.specs.declared.BuildEnd.{BuildEnd}
use Rattle.build_answer.specs.Answered.{Answered, result_in}
use Rattle.build_answer.specs.Sheets.{SheetAnswered}
use Rattle.build_answer.proofs.Accepted.{end_done, end_refused, read_done, read_given, accepted, zeros_left}
use Rattle.build_answer.proofs.Floats.{binary_f32}

-- ---- every job gets an answer

-- "All nine return the number alone, leave the job as it was and zero the result tables." The number is 0 or one of 1 to 9; where it is not 0, each byte of the slice is 0, and
-- no register and no group is counted.
-- Rules out: a build that runs out of room and leaves the registers that it had placed; a refusal at entry that leaves the slice as it was lent.
pub promise_answered : (n : ℕ) (ol : OutLayout) (s : List ℕ) (r : BuildEnd) (x : List ℕ) → Answered n ol (binary_answer s (room_of ol)) r x
    → (r.number ≤ 9) × ((r.number ≡ 0 → ⊥) → (x ≡ replicate n 0) × (r.registers ≡ 0) × (r.groups ≡ 0))
promise_answered n ol s r x a = zeros_left n ol (binary_answer s (room_of ol)) r x a

-- "A job is accepted if the rules give it no number; its result is the one they define." The answer to the bytes s (1 where they are off the shape of a job, else the answer of the
-- rules to the job) is what the call answers: 0, and the rows read back are the rules' result; or the rules' number.
-- Rules out: a build that refuses all with 9; a build that answers 0 and leaves the tables as they were.
pub promise_result : (n : ℕ) (ol : OutLayout) (s : List ℕ) (r : BuildEnd) (x : List ℕ) → Answered n ol (binary_answer s (room_of ol)) r x
    → ((res : Result) → binary_answer s (room_of ol) ≡ done res → (r.number ≡ 0) × (result_in ol r x ≡ res))
    × ((f : Refusal) → binary_answer s (room_of ol) ≡ refused f → r.number ≡ number_of f)
promise_result n ol s r x a = (
  λ res e. (end_done n ol (binary_answer s (room_of ol)) r x res a e, read_done n ol (binary_answer s (room_of ol)) r x res a e),
  λ f e. end_refused n ol (binary_answer s (room_of ol)) r x f a e,
)

-- ---- read back

-- Read back: two accepted jobs with the same register book, function and options, any hints, any segments, any lent tables: equal results give, for every value, the same points,
-- and at each instruction the same uses, each as often. Results are equal if their lines are the same. The slices, their lengths and their tables may differ, and nothing is asked
-- of book, function and options: more than is promised. A use is its kind with all fields and its instruction.
-- Rules out: the same bytes for every job; a turned use that is marked and put into no conflict register, so that its slot and class are lost.
module _ (n₁ n₂ : ℕ) (ol₁ ol₂ : OutLayout) (s₁ s₂ : List ℕ) (r₁ r₂ : BuildEnd) (x₁ x₂ : List ℕ) (a₁ : Answered n₁ ol₁ (binary_answer s₁ (room_of ol₁)) r₁ x₁) (z₁ : r₁.number ≡ 0)
    (a₂ : Answered n₂ ol₂ (binary_answer s₂ (room_of ol₂)) r₂ x₂) (z₂ : r₂.number ≡ 0) where
  pub promise_read_back : printed (result_in ol₁ r₁ x₁) ≡ printed (result_in ol₂ r₂ x₂)
      → (v : Value) → ((q : ℕ) → live_at v q (binary_job s₁).segments ≡ live_at v q (binary_job s₂).segments) × ((u : Use) → had v u (binary_job s₁).segments ≡ had v u (binary_job s₂).segments)
  promise_read_back e v =
      defined.promise_read_back (binary_job s₁) (binary_job s₂) (room_of ol₁) (room_of ol₂) _ _ (accepted n₁ ol₁ s₁ r₁ x₁ a₁ z₁) (accepted n₂ ol₂ s₂ r₂ x₂ a₂ z₂) e v

  -- the same, of the registers and groups that are read
  pub promise_rows_back : registers_in ol₁ (words_of x₁) r₁.registers ≡ registers_in ol₂ (words_of x₂) r₂.registers → groups_in ol₁ (words_of x₁) r₁.groups ≡ groups_in ol₂ (words_of x₂) r₂.groups
      → (v : Value) → ((q : ℕ) → live_at v q (binary_job s₁).segments ≡ live_at v q (binary_job s₂).segments) × ((u : Use) → had v u (binary_job s₁).segments ≡ had v u (binary_job s₂).segments)
  promise_rows_back er eg = promise_read_back (λ i. printed (record { registers = er i; groups = eg i }))

  -- the same, of the bytes: tables with the same numbers of rows, the same answer and the same bytes
  pub promise_bytes_back : ol₁ ≡ ol₂ → r₁ ≡ r₂ → x₁ ≡ x₂
      → (v : Value) → ((q : ℕ) → live_at v q (binary_job s₁).segments ≡ live_at v q (binary_job s₂).segments) × ((u : Use) → had v u (binary_job s₁).segments ≡ had v u (binary_job s₂).segments)
  promise_bytes_back eo er ex = promise_read_back (λ i. printed (result_in (eo i) (er i) (ex i)))

module _ (n : ℕ) (ol : OutLayout) (s : List ℕ) (r : BuildEnd) (x : List ℕ) (a : Answered n ol (binary_answer s (room_of ol)) r x) (z : r.number ≡ 0) where
  -- ---- points

  -- Points: for each value set, its own pieces hold each point of its input ranges exactly once, under the same value, and no other point. For each set t: a point q is held under
  -- value v as often as by the input ranges of t, and under whatever values as often as by them, which is once or not at all.
  -- Rules out: a right half whose row begins one instruction behind the cut, so that points are lost; a segment cut in two whose left row keeps the old end, so that points are held twice.
  pub promise_points : (t : ValueSet)
      → ((v : Value) (q : ℕ) → (live_at v q (own_of t (result_in ol r x).registers) ≡ live_at v q (input_of (binary_job s) t)) × (live_at v q (input_of (binary_job s) t) ≤ 1))
      × ((q : ℕ) → (covered q (own_of t (result_in ol r x).registers) ≡ covered q (input_of (binary_job s) t)) × (covered q (input_of (binary_job s) t) ≤ 1))
  promise_points = defined.promise_points (binary_job s) (room_of ol) (result_in ol r x) (accepted n ol s r x a z)

  -- The pieces of a set: every piece, own or made for a conflict, stands in a register of the set of its value.
  -- Rules out: a merge that does not compare the value sets of the two vgroups; a register row whose set is its first value in place of that value's leader.
  pub promise_sets : All (λ g. All (λ p. set_of (binary_job s) p.seg.value ≡ g.set) g.pieces) (result_in ol r x).registers
  promise_sets = defined.promise_sets (binary_job s) (room_of ol) (result_in ol r x) (accepted n ol s r x a z)

  -- ---- uses

  -- Uses: the own pieces of a set, in order of their first points, list its input uses, each once and in input order, a turned one as kind 3 at its place and instruction. The own
  -- pieces, so ordered, follow each other. Place by place their uses are those of the input ranges, of the same value; or the input's is a class use, and the piece's is of kind 3 at
  -- the same instruction.
  -- Rules out: a turned use taken out of its own piece; uses behind a cut whose rows stand under both halves.
  pub promise_order : (t : ValueSet)
      → Follows 0 (by_first (own_of t (result_in ol r x).registers)) × Listed (valued (input_of (binary_job s) t)) (valued (by_first (own_of t (result_in ol r x).registers)))
  promise_order = defined.promise_order (binary_job s) (room_of ol) (result_in ol r x) (accepted n ol s r x a z)

  -- The marked ones are the turned ones: each class use w of value v stands in own pieces, unmarked, and in pieces made for a conflict, together as often as in the job; and at each instruction
  -- the own pieces have as many marks under v as the pieces made for a conflict have class uses.
  -- Rules out: a round whose leftover uses go into no further register; a start that is marked while the end goes into the conflict register.
  pub promise_turned : (v : Value)
      → ((w : Use) → is_class_use w.kind ≡ true → had v w (own_in (result_in ol r x).registers) + had v w (added_in (result_in ol r x).registers) ≡ had v w (binary_job s).segments)
      × ((p : Inst) → marks_at v p (own_in (result_in ol r x).registers) ≡ class_uses_at v p (added_in (result_in ol r x).registers))
  promise_turned = defined.promise_turned (binary_job s) (room_of ol) (result_in ol r x) (accepted n ol s r x a z)

  -- The marks stand at the places of the turned uses: where the input uses of its set and those of the own pieces are laid side by side, a class use w of value v is marked as often as it stands in pieces made for a
  -- conflict.
  -- Rules out: marks on the first class uses of an instruction, whichever were turned; a conflict piece that repeats a use left unmarked.
  pub promise_marked : (v : Value) (w : Use) → is_class_use w.kind ≡ true
      → marked_for v w (valued (input_of (binary_job s) (set_of (binary_job s) v))) (valued (by_first (own_of (set_of (binary_job s) v) (result_in ol r x).registers)))
      ≡ had v w (added_in (result_in ol r x).registers)
  promise_marked = defined.promise_marked (binary_job s) (room_of ol) (result_in ol r x) (accepted n ol s r x a z)

  -- ---- classes

  -- Classes: where subclassing is transitive, the class of every class use in a result admits its register's final class. Uses of own pieces and of pieces made for a conflict.
  -- Rules out: one register for each set, uncut; a merge that leaves the class in the row of the register that it merges into.
  pub promise_classes : Transitive (binary_job s)
      → All (λ g. All (λ p. All (λ u. (c : RegClass) → class_of u.kind ≡ some c → In (binary_job s) g.class c) p.seg.uses) g.pieces) (result_in ol r x).registers
  promise_classes = defined.promise_classes (binary_job s) (room_of ol) (result_in ol r x) (accepted n ol s r x a z)

-- The input ranges and the input uses of a value's set have all the points and uses that the value has in the job, so the promises speak of every segment of the job.
-- Rules out, as readings of the input of a set: the segments of the leader alone; those of the set's first value alone.
pub input_whole : (s : List ℕ) (v : Value)
    → ((q : ℕ) → live_at v q (input_of (binary_job s) (set_of (binary_job s) v)) ≡ live_at v q (binary_job s).segments)
    × ((w : Use) → had v w (input_of (binary_job s) (set_of (binary_job s) v)) ≡ had v w (binary_job s).segments)
input_whole s v = defined.input_whole (binary_job s) v

-- ---- weights

-- Weights: each register that is read back from the bytes x, without group and of finite weight and under the
-- conditions of change request 13 (`Spoken`), has a weight within (n + 3) parts in 2 ^ 23 of the exact fraction
-- (`NearExact`) of the job's own numbers; n are the uses of its own pieces whose exact product is not zero. The weight
-- is the word of its row.
-- Rules out, as readings: a group member's weight, which is its group's least; n as the uses of the whole set.
pub promise_weights_left : (n : ℕ) (ol : OutLayout) (s : List ℕ) (r : BuildEnd) (x : List ℕ)
    → Answered n ol (binary_answer s (room_of ol)) r x → r.number ≡ 0
    → All (TrueWeight (binary_job s)) (result_in ol r x).registers
promise_weights_left n ol s r x a z =
    promise_weights (binary_job s) (room_of ol) (result_in ol r x) (binary_f32 s) (accepted n ol s r x a z)

-- Ranks: of each two such registers, weights that are far enough apart have their exact fractions in the same order.
-- Rules out, as readings: that the greater weight is enough; that one of the two allowances is.
pub promise_ranks_left : (n : ℕ) (ol : OutLayout) (s : List ℕ) (r : BuildEnd) (x : List ℕ)
    → Answered n ol (binary_answer s (room_of ol)) r x → r.number ≡ 0
    → All (λ g. All (RankTrue (binary_job s) g) (result_in ol r x).registers) (result_in ol r x).registers
promise_ranks_left n ol s r x a z =
    promise_ranks (binary_job s) (room_of ol) (result_in ol r x) (binary_f32 s) (accepted n ol s r x a z)

-- The same of a job sheet bs of either form, whose job is `job`: what `vregs` leaves in its tables is `SheetAnswered` for the
-- answer to the sheet (crates/vregs_answer: `Answers`, `promise_weights_vregs`).
-- Rules out, as readings: the job that the reader's table stands for, in place of the sheet's; a sheet that is refused.
pub promise_weights_sheet : (n : ℕ) (ol : OutLayout) (bs : List ℕ) (job : Job) (r : BuildEnd) (x : List ℕ)
    → SheetAnswered n ol (answer_to_sheet bs (room_of ol)) r x → r.number ≡ 0
    → job_in bs ≡ some job → All (TrueWeight job) (result_in ol r x).registers
promise_weights_sheet n ol bs job r x a z j =
    sheet-weights bs (room_of ol) job (result_in ol r x) j (read_given n ol (answer_to_sheet bs (room_of ol)) r x a z)
