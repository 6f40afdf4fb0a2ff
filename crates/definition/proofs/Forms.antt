-- The answers to the two forms of a sheet (change request 3). Assumes nothing.
use mathlib.Core.Path.{◌≡◌, refl, sym, ap, subst, ◌∙◌}
use Prim.Native.Nat.{ℕ}
use native.Mathlib.Omega.{arith}
use mathlib.Core.Bool.{Bool, true, false, cond}
use mathlib.Core.Option.{Option, none, some, some-injective}
use mathlib.Core.List.{List}
use Rattle.definition.specs.declared.Refusal.{Refusal}
use Rattle.definition.specs.declared.Refusal.TheVariants.{NotARecord, OverALimit, BadBook, BadFunction, BadHint}
use Rattle.definition.specs.declared.Refusal.TheVariants.{BadSegment, BadUse, Stopped, Full}
use Rattle.definition.specs.Types.{Job, Room, Out, done, refused, number_of}
use Rattle.definition.specs.Build.{Result, build}
use Rattle.definition.specs.Entry.{entry, answer, answer_to}
use Rattle.definition.specs.JobSheet.{Record, sheet_of, job_of_records, sheet_answer, job_of_sheet, answer_or_one}
use Rattle.definition.specs.RegisterSheet.{register_sheet}
use Rattle.definition.specs.Text.{◌>>=◌}
use Rattle.definition.specs.declared.SheetRefusal.{SheetRefusal}
use Rattle.definition.specs.declared.SheetRefusal.TheVariants.{WrittenDiffers}
use Rattle.definition.specs.SheetForms.{is_second, behind_form, second_sheet, records_in, job_in, as_written}
use Rattle.definition.specs.SheetForms.{sheet_number_of, tenth_test, tests_of, verdict_of, verdict}
use Rattle.definition.specs.SheetForms.{SheetOut, given', refused', lift, built_unless, answer_for, answer_to_sheet}
use Rattle.definition.specs.SheetForms.{answer_text}

-- 0 for registers, else the number of the refusal
abbrev pub number_given : SheetOut Result → ℕ
number_given (given' res) = 0
number_given (refused' r) = sheet_number_of r

-- ---- the records of either form

pub first_records : (bs : List ℕ) → is_second bs ≡ false → records_in bs ≡ sheet_of bs
unfolding records_in
first_records bs e = ap (λ (t : Bool). cond t (second_sheet (behind_form bs)) (sheet_of bs)) e

pub second_records_lem : (bs : List ℕ) → is_second bs ≡ true → records_in bs ≡ second_sheet (behind_form bs)
unfolding records_in
second_records_lem bs e = ap (λ (t : Bool). cond t (second_sheet (behind_form bs)) (sheet_of bs)) e

-- the answer by the form and the records
pub answer_by : (bs : List ℕ) (room : Room) (t : Bool) (m : Option (List Record)) → is_second bs ≡ t → records_in bs ≡ m
    → answer_to_sheet bs room ≡ answer_for t m room
unfolding answer_to_sheet
answer_by bs room t m e f = ap (λ (u : Bool). answer_for u (records_in bs) room) e
    ∙ ap (λ (k : Option (List Record)). answer_for t k room) f

-- ---- a sheet that passes, and one whose written fields are the implied ones, is answered as its job is

passed : (o : Option Refusal) (job : Job) (room : Room)
    → built_unless (tenth_test o true) job room ≡ lift (answer_to o job room)
unfolding answer_to
passed (some r) job room = refl
passed none job room = refl

first_answer : (rs : List Record) (room : Room) → answer_for false (some rs) room ≡ lift (answer (job_of_records rs) room)
unfolding answer
first_answer rs room = passed (entry (job_of_records rs)) (job_of_records rs) room

second_answer : (rs : List Record) (room : Room) → as_written rs ≡ true
    → answer_for true (some rs) room ≡ lift (answer (job_of_records rs) room)
unfolding answer
second_answer rs room w =
    ap (λ (t : Bool). built_unless (tenth_test (entry (job_of_records rs)) t) (job_of_records rs) room) w
    ∙ passed (entry (job_of_records rs)) (job_of_records rs) room

refused_by : (job : Job) (room : Room) (r : Refusal) → entry job ≡ some r → answer job room ≡ refused r
unfolding answer answer_to
refused_by job room r h = ap (λ (o : Option Refusal). answer_to o job room) h

-- the refusals of a job have the numbers 1 to 9
pub not_zero : (r : Refusal) → number_of r ≡ 0 → ⊥
not_zero NotARecord e = omega (arith, e)
not_zero OverALimit e = omega (arith, e)
not_zero BadBook e = omega (arith, e)
not_zero BadFunction e = omega (arith, e)
not_zero BadHint e = omega (arith, e)
not_zero BadSegment e = omega (arith, e)
not_zero BadUse e = omega (arith, e)
not_zero (Stopped s) e = omega (arith, e)
not_zero Full e = omega (arith, e)

few : (r : Refusal) → number_of r ≡ 10 → ⊥
few NotARecord e = omega (arith, e)
few OverALimit e = omega (arith, e)
few BadBook e = omega (arith, e)
few BadFunction e = omega (arith, e)
few BadHint e = omega (arith, e)
few BadSegment e = omega (arith, e)
few BadUse e = omega (arith, e)
few (Stopped s) e = omega (arith, e)
few Full e = omega (arith, e)

lifted_few : (o : Out Result) → number_given (lift o) ≡ 10 → ⊥
lifted_few (done r) e = omega (arith, e)
lifted_few (refused r) e = few r e

-- ---- the theorems

-- "Jobs without that line are read as before."
pub as_before : (bs : List ℕ) (room : Room) → is_second bs ≡ false → answer_to_sheet bs room ≡ lift (sheet_answer bs room)
unfolding sheet_answer job_of_sheet
as_before bs room e = answer_by bs room false (sheet_of bs) e (first_records bs e) ∙ go (sheet_of bs)
  where
    go : (m : Option (List Record))
        → answer_for false m room ≡ lift (answer_or_one (m >>= λ rs. some (job_of_records rs)) room)
    go none = refl
    go (some rs) = first_answer rs room

-- the bytes of an answer to a job are those of the same answer to its sheet
pub same_text : (o : Out Result) → answer_text (lift o) ≡ register_sheet o
unfolding answer_text register_sheet
same_text (done res) = refl
same_text (refused r) = refl

-- the job of a sheet, with the answer that it gives the sheet
pub record AsJob (bs : List ℕ) (room : Room) : Type 0 where
  pub job : Job
  pub is : job_in bs ≡ some job
  pub answer : answer_to_sheet bs room ≡ lift (answer job room)

-- a sheet of the second form that neither 1 nor 10 refuses
pub as_job : (bs : List ℕ) (room : Room) → is_second bs ≡ true → (number_given (answer_to_sheet bs room) ≡ 1 → ⊥)
    → (number_given (answer_to_sheet bs room) ≡ 10 → ⊥) → AsJob bs room
unfolding job_in
as_job bs room e one ten = go (records_in bs) refl
  where
    by : (rs : List Record) → records_in bs ≡ some rs → (w : Bool) → as_written rs ≡ w → (o : Option Refusal)
        → entry (job_of_records rs) ≡ o → AsJob bs room
    by rs f true g o h = record {
      job = job_of_records rs;
      is = ap (λ (m : Option (List Record)). m >>= λ xs. some (job_of_records xs)) f;
      answer = answer_by bs room true (some rs) e f ∙ second_answer rs room g;
    }
    by rs f false g (some r) h = record {
      job = job_of_records rs;
      is = ap (λ (m : Option (List Record)). m >>= λ xs. some (job_of_records xs)) f;
      answer =
          answer_by bs room true (some rs) e f
          ∙ ap (λ (o : Option Refusal). built_unless (tenth_test o (as_written rs)) (job_of_records rs) room) h
          ∙ ap (λ (x : Out Result). lift x) (sym (refused_by (job_of_records rs) room r h));
    }
    by rs f false g none h =
        absurd (ten (ap number_given (answer_by bs room true (some rs) e f
        ∙ ap (λ (o : Option Refusal). built_unless (tenth_test o (as_written rs)) (job_of_records rs) room) h
        ∙ ap (λ (t : Bool). built_unless (tenth_test none t) (job_of_records rs) room) g)))

    go : (m : Option (List Record)) → records_in bs ≡ m → AsJob bs room
    go none f = absurd (one (ap number_given (answer_by bs room true none e f)))
    go (some rs) f = by rs f (as_written rs) refl (entry (job_of_records rs)) refl

-- "a job that passes has the same result in either form"
pub either_form : (a b : List ℕ) (room : Room) (rs ks : List Record) → is_second a ≡ false → records_in a ≡ some rs
    → is_second b ≡ true → records_in b ≡ some ks
    → as_written ks ≡ true → job_of_records ks ≡ job_of_records rs → answer_to_sheet b room ≡ answer_to_sheet a room
either_form a b room rs ks e f g h w j =
    answer_by b room true (some ks) g h
    ∙ second_answer ks room w
    ∙ ap (λ (k : Job). lift (answer k room)) j
    ∙ sym (answer_by a room false (some rs) e f ∙ first_answer rs room)

-- a sheet of the second form, well-formed, whose job passes tests 2 to 7, with a written field that differs
pub record Differs (bs : List ℕ) : Type 0 where
  pub second : is_second bs ≡ true
  pub records : List Record
  pub are : second_sheet (behind_form bs) ≡ some records
  pub passes : entry (job_of_records records) ≡ none
  pub differs : as_written records ≡ false

-- "10 when a written set or first instruction differs from the implied one, an entry rule tested after 7 and before 8"
pub exactly_ten : (bs : List ℕ) (room : Room) → number_given (answer_to_sheet bs room) ≡ 10 → Differs bs
exactly_ten bs room e = go (is_second bs) refl
  where
    by : is_second bs ≡ true → (rs : List Record) → records_in bs ≡ some rs → (o : Option Refusal)
        → entry (job_of_records rs) ≡ o → (w : Bool) → as_written rs ≡ w
        → number_given (built_unless (tenth_test o w) (job_of_records rs) room) ≡ 10 → Differs bs
    by s rs f (some r) g w h n = absurd (few r n)
    by s rs f none g true h n = absurd (lifted_few (build (job_of_records rs) room) n)
    by s rs f none g false h n = record {
      second = s;
      records = rs;
      are = sym (second_records_lem bs s)
          ∙ f;
      passes = g;
      differs = h;
    }

    second : is_second bs ≡ true → (m : Option (List Record)) → records_in bs ≡ m
        → number_given (answer_for true m room) ≡ 10 → Differs bs
    second s none f n = absurd (omega (arith, n))
    second s (some rs) f n = by s rs f (entry (job_of_records rs)) refl (as_written rs) refl n

    go : (t : Bool) → is_second bs ≡ t → Differs bs
    go true s = second s (records_in bs) refl (sym (ap number_given (answer_by bs room true (records_in bs) s refl)) ∙ e)
    go false s = absurd (lifted_few (sheet_answer bs room) (sym (ap number_given (as_before bs room s)) ∙ e))

pub ten_exactly : (bs : List ℕ) (room : Room) → Differs bs → answer_to_sheet bs room ≡ refused' WrittenDiffers
ten_exactly bs room d =
    answer_by bs room true (some d.records) d.second (second_records_lem bs d.second ∙ d.are)
    ∙ ap (λ (o : Option Refusal). built_unless (tenth_test o (as_written d.records)) (job_of_records d.records) room)
    d.passes
    ∙ ap (λ (t : Bool). built_unless (tenth_test none t) (job_of_records d.records) room) d.differs

-- ---- the verdict

-- what a verdict leaves to be answered
abbrev pub refused_or : Option SheetRefusal → SheetOut Result → SheetOut Result
refused_or (some r) o = refused' r
refused_or none o = o

-- a sheet that its verdict refuses is answered by that
pub answer_refused : (bs : List ℕ) (room : Room) (r : SheetRefusal) → verdict bs ≡ some r
    → answer_to_sheet bs room ≡ refused' r
unfolding verdict answer_to_sheet
answer_refused bs room r e = go (is_second bs) (records_in bs) e
  where
    go : (t : Bool) (m : Option (List Record)) → verdict_of t m ≡ some r → answer_for t m room ≡ refused' r
    go t none q = ap (λ (o : Option SheetRefusal). refused_or o (refused' r)) q
    go t (some rs) q = ap (λ (o : Option SheetRefusal). built_unless o (job_of_records rs) room) q

-- and one that passes by the build of its job
pub answer_passed : (bs : List ℕ) (room : Room) (job : Job) → verdict bs ≡ none → job_in bs ≡ some job
    → answer_to_sheet bs room ≡ lift (build job room)
unfolding verdict answer_to_sheet job_in
answer_passed bs room job e f = go (is_second bs) (records_in bs) e f
  where
    the : Option Job → Job
    the none = job
    the (some k) = k

    go : (t : Bool) (m : Option (List Record)) → verdict_of t m ≡ none → (m >>= λ rs. some (job_of_records rs)) ≡ some job
        → answer_for t m room ≡ lift (build job room)
    go t none q j = ap (λ (o : Option SheetRefusal). refused_or o (lift (build job room))) q
    go t (some rs) q j = ap (λ (o : Option SheetRefusal). built_unless o (job_of_records rs) room) q
        ∙ ap (λ (k : Option Job). lift (build (the k) room)) j

lifted_given : (o : Out Result) (res : Result) → lift o ≡ given' res → o ≡ done res
lifted_given (done a) res e = let m : a ≡ res = cc in ap (λ (t : Result). done t) m
lifted_given (refused f) res e = absurd (let z : ◌≡◌ {A = ℕ} 0 1 = cc in omega arith)

given_by : (k : Job) (room : Room) (res : Result) (w : Bool) → built_unless (tenth_test (entry k) w) k room ≡ given' res
    → answer k room ≡ done res
unfolding answer answer_to
given_by k room res w f = go (entry k) w f
  where
    go : (o : Option Refusal) (w : Bool) → built_unless (tenth_test o w) k room ≡ given' res
        → answer_to o k room ≡ done res
    go (some r) w q = absurd (let z : ◌≡◌ {A = ℕ} 0 1 = cc in omega arith)
    go none true q = lifted_given (build k room) res q
    go none false q = absurd (let z : ◌≡◌ {A = ℕ} 0 1 = cc in omega arith)

-- registers that a sheet is given are those of its job
pub answer_given : (bs : List ℕ) (room : Room) (job : Job) (res : Result) → job_in bs ≡ some job
    → answer_to_sheet bs room ≡ given' res → answer job room ≡ done res
unfolding answer_to_sheet job_in
answer_given bs room job res j e = go (is_second bs) (records_in bs) j e
  where
    by : (k : Job) (w : Bool) → built_unless (tenth_test (entry k) w) k room ≡ given' res → answer k room ≡ done res
    by k w f = given_by k room res w f

    tests : (t : Bool) (rs : List Record) → built_unless (tests_of t rs) (job_of_records rs) room ≡ given' res
        → answer (job_of_records rs) room ≡ done res
    tests true rs f = by (job_of_records rs) (as_written rs) f
    tests false rs f = by (job_of_records rs) true f

    go : (t : Bool) (m : Option (List Record)) → (m >>= λ rs. some (job_of_records rs)) ≡ some job
        → answer_for t m room ≡ given' res → answer job room ≡ done res
    go t none q f = absurd (let z : ◌≡◌ {A = ℕ} 0 1 = cc in omega arith)
    go t (some rs) q f = subst (λ (k : Job). answer k room
        ≡ done res) (some-injective (job_of_records rs) job q) (tests t rs f)
