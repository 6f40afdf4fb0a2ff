-- The promises on accepted jobs (`answer job room ≡ done res`, for any room), each as one theorem in the words of `specs/Promised.antt`. Assumes nothing.
use mathlib.Core.Path.{◌≡◌, refl, ap, sym, ◌∙◌, subst}
use Prim.Native.Nat.{ℕ, suc, ◌+◌, ◌≤◌, ◌<◌}
use native.Mathlib.Omega.{arith}
use mathlib.Core.Bool.{Bool, true, false, cond}
use mathlib.Core.Option.{some}
use mathlib.Core.List.{List, [], ◌∷◌}
use lib.ListN.{length}
use lib.Dec.{eqb}
use Rattle.definition.specs.Types.{Inst, Value, ValueSet, RegClass, VirtReg, Use, Origin, Own, Conflict, Segment}
use Rattle.definition.specs.Types.{Job, Room, Piece, Register, done, vreg}
use Rattle.definition.specs.RegInfo.{set_of}
use Rattle.definition.specs.Uses.{class_of, is_class_use}
use Rattle.definition.specs.Place.{total}
use Rattle.definition.specs.Build.{Result, build, one, runs, same_set}
use Rattle.definition.specs.Entry.{answer, entry, entry_tests, every, uses_ok}
use Rattle.definition.specs.Lines.{Line, printed}
use Rattle.definition.specs.Promised.{Follows, In, Listed, Transitive, added_in, by_first, class_uses_at, covered}
use Rattle.definition.specs.Promised.{had, live_at, input_of, is_mark, marks_at, OwnWeight, of_set, own_in, own_of}
use Rattle.definition.specs.Promised.{same_use, valued, marked_for}
use Rattle.definition.specs.JobSheet.{Record, job_of_records, sheet_answer}
use Rattle.definition.specs.RegisterSheet.{register_sheet}
use Rattle.definition.specs.declared.SheetRefusal.TheVariants.{WrittenDiffers}
use Rattle.definition.specs.SheetForms.{is_second, records_in, as_written, refused', lift, answer_to_sheet, answer_text}
use Rattle.definition.proofs.Places.{All}
use Rattle.definition.proofs.Points.{Additive, points_additive, of_own, own_uses, built_same}
use Rattle.definition.proofs.Entries.{lowest_none}
use Rattle.definition.proofs.Tables.{nth}
use Rattle.definition.proofs.Accepted.{Kept, kept, accepted}
use Rattle.definition.proofs.Rises.{led_by, InOrder, built_in_order, of_total, Rise}
use Rattle.definition.proofs.Same.{class_test, other_test, first_total, first_is}
use Rattle.definition.proofs.Printed.{read_point, read_use, piece_uses, points_read, uses_read}
use Rattle.definition.proofs.Sets.{InSet, built_in_set, runs_in}
use Rattle.definition.proofs.Marks.{valued_had, listed_marked}
use Rattle.definition.proofs.Weighed.{built_weighed}
use Rattle.definition.proofs.Owned.{both_counted, led_counted, led_additive, covered_additive, covered_once}
use Rattle.definition.proofs.Owned.{live_covered, counted_same, of_led, own_led, accepted_rise, no_mark_had}
use Rattle.definition.proofs.Owned.{marks_turned}
use Rattle.definition.proofs.Forms.{number_given, AsJob, as_job, either_form, Differs, exactly_ten, ten_exactly, as_before, same_text}

-- ---- what an accepted job is known to be

record Facts (job : Job) (room : Room) (res : Result) : Type 0 where
  built : build job room ≡ done res
  uses_ok_lem : every (uses_ok job) job.segments ≡ true
  sets : (t : ℕ) × Rise job t (runs (same_set job) job.segments)
  in_sets : All (InSet job) res.registers

facts : (job : Job) (room : Room) (res : Result) → answer job room ≡ done res → Facts job room res
unfolding answer entry
facts job room res e =
    let a = accepted (entry job) job room res refl e in
    let t = lowest_none (entry_tests job) a.0 in
    let us = t.1.1.1.1.1.0 in
    let r = accepted_rise job t.1.1.1.1.0 us in
    record { built = a.1; uses_ok_lem = us; sets = r; in_sets = built_in_set job room res (runs_in job t.1.1.0 r.0 r.1 us) a.1 }

-- ---- reading back

-- which seg lines count for a use of value v: all, for a class use; the own ones, for another
wanted : Value → Bool → Value → Origin → Bool
wanted v true u o = eqb u.0 v.0
wanted v false u Own = eqb u.0 v.0
wanted v false u Conflict = false

-- how many uses w of value v a job had, read from the lines of its result
pub read_uses : Value → Use → List Line → ℕ
read_uses v w ls = cond (is_mark w.kind) 0 (read_use (wanted v (is_class_use w.kind)) w false ls)

-- The points and the uses of every value, of every kind, are read from the lines of the result.
pub read_back : (job : Job) (room : Room) (res : Result) → answer job room ≡ done res
    → (v : Value) → ((x : ℕ) → read_point v x (printed res) ≡ live_at v x job.segments) × ((u : Use) → read_uses v u (printed res) ≡ had v u job.segments)
unfolding live_at had read_uses wanted
read_back job room res e v = (
  λ x. points_read v x res ∙ k.points v x,
  λ u. go u (is_mark u.kind) (is_class_use u.kind) refl refl,
)
  where
    k : Kept job res
    k = kept job room res e

    own_of_lem : (u : Use) (p : Piece) → piece_uses (wanted v false) u p ≡ of_own (own_uses v (same_use u)) p
    own_of_lem u p = pick p.origin
      where
        pick : (o : Origin) → cond (wanted v false p.seg.value o) (total (λ w. one (same_use u w)) p.seg.uses) 0
            ≡ elim o [ Own ↦ own_uses v (same_use u) p.seg | Conflict ↦ 0 ]
        pick Own = refl
        pick Conflict = refl

    go : (u : Use) (m c : Bool) → is_mark u.kind ≡ m → is_class_use u.kind ≡ c → cond m 0 (read_use (wanted v c) u false (printed res)) ≡ had v u job.segments
    go u true c a b = sym (no_mark_had job v u a (facts job room res e).uses_ok_lem)
    go u false true a b = uses_read (wanted v true) u res ∙ k.uses v (same_use u) (class_test u.kind u.pos b)
    go u false false a b =
        uses_read (wanted v false) u res ∙ counted_same (piece_uses (wanted v false) u) (of_own (own_uses v (same_use u))) (own_of_lem u) res.registers
        ∙ k.own_uses_lem v (same_use u) (other_test u b a)

-- P1. For every two accepted jobs with the same register book, function and options, whatever their hints and segments and whatever the lent tables held: if the results
-- are equal, every value covered exactly the same points and had the same uses, each as often, at each instruction.
-- Nothing is asked of book, function and options: more than is promised. A use is its kind with all fields and its instruction.
-- Rules out: one fixed result for all jobs; a turned use that is marked and put into no conflict register, so that its slot and class are lost.
pub promise_read_back : (job₁ job₂ : Job) (room₁ room₂ : Room) (res₁ res₂ : Result) → answer job₁ room₁ ≡ done res₁ → answer job₂ room₂ ≡ done res₂ → printed res₁ ≡ printed res₂
    → (v : Value) → ((x : ℕ) → live_at v x job₁.segments ≡ live_at v x job₂.segments) × ((u : Use) → had v u job₁.segments ≡ had v u job₂.segments)
promise_read_back job₁ job₂ room₁ room₂ res₁ res₂ e₁ e₂ same v =
    let a = read_back job₁ room₁ res₁ e₁ v in
    let b = read_back job₂ room₂ res₂ e₂ v in
    (λ x. sym (a.0 x) ∙ ap (read_point v x) same ∙ b.0 x, λ u. sym (a.1 u) ∙ ap (read_uses v u) same ∙ b.1 u)

-- ---- the pieces of a set

-- Every piece, own or made for a conflict, stands in a register of the set of its value: so the pieces of a set are those of its registers.
-- Rules out: a merge that does not compare the value sets of the two vgroups and puts pieces into another set's register; a register numbered by its value instead of its leader.
pub promise_sets : (job : Job) (room : Room) (res : Result) → answer job room ≡ done res → All (λ r. All (λ p. set_of job p.seg.value ≡ r.set) r.pieces) res.registers
promise_sets job room res e = (facts job room res e).in_sets

in_order : (job : Job) (room : Room) (res : Result) → answer job room ≡ done res → (s : ValueSet) → InOrder job s res.registers
in_order job room res e s = let f = facts job room res e in built_in_order job room res s f.sets.0 f.sets.1 f.built

of_own_lem : (job : Job) (room : Room) (res : Result) (e : answer job room ≡ done res) (s : ValueSet) (ν : Segment → ℕ) → total ν (own_of s res.registers) ≡ total ν (in_order job room res e s).pieces
of_own_lem job room res e s ν = sym (led_counted ν job s res.registers (facts job room res e).in_sets) ∙ (in_order job room res e s).counts ν

by_first_lem : (job : Job) (room : Room) (res : Result) (e : answer job room ≡ done res) (s : ValueSet) → by_first (own_of s res.registers) ≡ (in_order job room res e s).pieces
by_first_lem job room res e s = first_is (own_of s res.registers) (in_order job room res e s).pieces (in_order job room res e s).follow (of_own_lem job room res e s)

-- P2. In the result of every accepted job, for each value set, its pieces not made for a conflict hold each point of its input ranges exactly once, under the same
-- value, and no other point. For each set s: a point x is held under value v as often as by the input ranges of s; and under whatever values it is held as often as by
-- them, which is once or not at all.
-- Rules out: a right half that starts one instruction behind the cut, whose points are lost; a split segment that keeps its old end on the left, whose points are held twice.
pub promise_points : (job : Job) (room : Room) (res : Result) → answer job room ≡ done res → (s : ValueSet)
    → ((v : Value) (x : ℕ) → (live_at v x (own_of s res.registers) ≡ live_at v x (input_of job s)) × (live_at v x (input_of job s) ≤ 1))
    × ((x : ℕ) → (covered x (own_of s res.registers) ≡ covered x (input_of job s)) × (covered x (input_of job s) ≤ 1))
unfolding live_at covered input_of
promise_points job room res e s = (
  λ v x. (same _ (points_additive v x), omega (arith, live_covered v x (input_of job s), once x)),
  λ x. (same _ (covered_additive x), once x),
)
  where
    f : Facts job room res
    f = facts job room res e

    same : (ν : Segment → ℕ) → Additive ν → total ν (own_of s res.registers) ≡ total ν (of_set job s job.segments)
    same ν add =
        sym (led_counted ν job s res.registers f.in_sets) ∙ built_same (led_by job s ν) (led_additive job s ν add) job room res f.built ∙ of_total job s ν job.segments

    once : (x : ℕ) → covered x (of_set job s job.segments) ≤ 1
    once x =
        subst (λ (n : ℕ). n ≤ 1) (sym (of_own_lem job room res e s _) ∙ same _ (covered_additive x)) (covered_once 0 x (in_order job room res e s).pieces (in_order job room res e s).follow)

-- The input ranges of a value's set have all its points and uses, so P2 and P3 speak of every segment of the job.
-- Rules out, as readings of the input of a set: the segments of the leader alone; those of the set's first value alone.
pub input_whole : (job : Job) (v : Value) → ((x : ℕ) → live_at v x (input_of job (set_of job v)) ≡ live_at v x job.segments) × ((w : Use) → had v w (input_of job (set_of job v)) ≡ had v w job.segments)
unfolding live_at had input_of
input_whole job v = (λ x. of_led job v _ (λ s n. rw n) job.segments, λ w. of_led job v _ (λ s n. rw n) job.segments)

-- P3. In order of their first points the own pieces of a set list its input uses, each once and in input order, a turned one marked as a conflict. Put in this
-- order they follow each other, so their first points differ. Place by place their uses are those of its input ranges, of the same value; or the input's is a class use,
-- and the piece's is of kind 3 at the same instruction.
-- Rules out: a turned use taken out of its own piece; uses behind a cut that stand in both halves.
pub promise_order : (job : Job) (room : Room) (res : Result) → answer job room ≡ done res → (s : ValueSet)
    → Follows 0 (by_first (own_of s res.registers)) × Listed (valued (input_of job s)) (valued (by_first (own_of s res.registers)))
unfolding input_of
promise_order job room res e s =
    let o = in_order job room res e s in
    rw (by_first_lem job room res e s) (o.follow, o.listed)

-- The marked ones are the turned ones. Each class use w of value v stands in own pieces, unmarked, and in pieces made for a conflict, together as often as in the job; and at each
-- instruction the own pieces have as many marks under v as the pieces made for a conflict have class uses.
-- Rules out: a round whose leftover uses go into no further register; a start that is marked while the end goes into the conflict register.
pub promise_turned : (job : Job) (room : Room) (res : Result) → answer job room ≡ done res → (v : Value)
    → ((w : Use) → is_class_use w.kind ≡ true → had v w (own_in res.registers) + had v w (added_in res.registers) ≡ had v w job.segments)
    × ((p : Inst) → marks_at v p (own_in res.registers) ≡ class_uses_at v p (added_in res.registers))
unfolding had
promise_turned job room res e v =
    let k = kept job room res e in (
      λ w c. let t = class_test w.kind w.pos c in sym (both_counted (own_uses v (same_use w)) res.registers) ∙ k.uses v (same_use w) t,
      λ p. marks_turned v p job res.registers (facts job room res e).uses_ok_lem (λ P s. k.own_uses_lem v P s) (λ P t. k.uses v P t),
    )

-- The marks stand at the places of the turned uses: where the input list of its set and that of the own pieces are laid side by side, a class use w of value v
-- is marked as often as it stands in pieces made for a conflict.
-- Rules out: marks on the first class uses of an instruction, whichever were turned; a conflict piece that repeats a use left unmarked.
pub promise_marked : (job : Job) (room : Room) (res : Result) → answer job room ≡ done res → (v : Value) (w : Use) → is_class_use w.kind ≡ true
    → marked_for v w (valued (input_of job (set_of job v))) (valued (by_first (own_of (set_of job v) res.registers))) ≡ had v w (added_in res.registers)
unfolding had
promise_marked job room res e v w c =
    let s = set_of job v in
    let own = own_of s res.registers in
    let ν = own_uses v (same_use w) in
    omega (
      arith,
      listed_marked v w c (valued (input_of job s)) (valued (by_first own)) (promise_order job room res e s).1,
      valued_had v w (input_of job s),
      (input_whole job v).1 w,
      valued_had v w (by_first own),
      first_total ν own,
      own_led job v ν (λ t n. rw n) res.registers (facts job room res e).in_sets,
      (promise_turned job room res e v).0 w c,
    )

-- ---- classes

all_nth : (P : Register → Type 0) (rs : List Register) → ((v : VirtReg) → v.0 < length rs → P (nth rs v)) → All P rs
all_nth P [] f = tt
all_nth P (r ∷ rs) f = (f (vreg 0) (omega arith), all_nth P rs (λ v l. f (vreg (suc v.0)) (omega arith)))

-- P4. Where subclassing is transitive, the class of every class use in a result admits its register's final class. Uses of own pieces and of pieces made for a conflict.
-- Rules out: one register per set, uncut; a merge that keeps the class of the register that it merges into.
pub promise_classes : (job : Job) (room : Room) (res : Result) → answer job room ≡ done res → Transitive job
    → All (λ r. All (λ p. All (λ u. (c : RegClass) → class_of u.kind ≡ some c → In job r.class c) p.seg.uses) r.pieces) res.registers
promise_classes job room res e t = all_nth _ res.registers ((kept job room res e).classes t)

-- ---- weights

-- A register without group has the weight of its class and its own pieces, whatever was placed after it, and these
-- touch at most 4,096 instructions.
-- Rules out: a join or merge that writes its group's least weight into registers of no group; a weight of all segments
-- of the set in a register that was cut off.
pub promise_weighed : (job : Job) (room : Room) (res : Result) → answer job room ≡ done res
    → All (OwnWeight job) res.registers
unfolding answer
promise_weighed job room res e =
    let a = accepted (entry job) job room res refl e in
    built_weighed job room res a.0 a.1

-- ---- the second form of a job sheet (change request 3)

-- Either form, one sheet: a sheet of the second form whose answer is neither 1 nor 10 is answered as its job is.
-- Rules out: a set taken from the written field, so that a register has the set that the sheet says and not its values' leader;
-- 10 for every sheet of the second form.
pub promise_as_job : (bs : List ℕ) (room : Room) → is_second bs ≡ true
    → (number_given (answer_to_sheet bs room) ≡ 1 → ⊥) → (number_given (answer_to_sheet bs room) ≡ 10 → ⊥) → AsJob bs room
promise_as_job bs room e one ten = as_job bs room e one ten

-- Either form, two sheets: "a job that passes has the same result in either form", for any room; and one that stops or overfills a table the same number.
-- Rules out: blocks cut where the written first instructions say; room counted for the written fields.
pub promise_either_form : (a b : List ℕ) (room : Room) (rs ks : List Record) → is_second a ≡ false → records_in a ≡ some rs
    → is_second b ≡ true → records_in b ≡ some ks → as_written ks ≡ true → job_of_records ks ≡ job_of_records rs
    → answer_to_sheet b room ≡ answer_to_sheet a room
promise_either_form a b room rs ks e f g h w j = either_form a b room rs ks e f g h w j

-- Exactly 10: the answer is 10 exactly if the sheet is well-formed in the second form, its job passes 2 to 7 and a written field differs.
-- Rules out: 10 where the job has a 7; 8 for a job that stops and has a wrong field; a wrong field of the last block that is passed over.
pub promise_ten : (bs : List ℕ) (room : Room)
    → (number_given (answer_to_sheet bs room) ≡ 10 → Differs bs) × (Differs bs → answer_to_sheet bs room ≡ refused' WrittenDiffers)
promise_ten bs room = (exactly_ten bs room, ten_exactly bs room)

-- As before: a sheet without the form line has the answer that it had, and prints the bytes that it printed.
-- Rules out: a first-form sheet whose block lines may have a third field; `form`, tab, `1` taken as a form line.
pub promise_as_before : (bs : List ℕ) (room : Room) → is_second bs ≡ false
    → (answer_to_sheet bs room ≡ lift (sheet_answer bs room)) × (answer_text (answer_to_sheet bs room) ≡ register_sheet (sheet_answer bs room))
promise_as_before bs room e = (as_before bs room e, ap answer_text (as_before bs room e) ∙ same_text (sheet_answer bs room))
