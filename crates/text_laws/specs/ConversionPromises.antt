-- The page: what the two conversions of a job sheet promise, each as one theorem over the definition, for every list
-- of bytes. `to_form2` asks for the second form (`move_to true`), `to_form1` for the first (`move_to false`); a sheet
-- passes where its verdict is none: tests 1 to 7 and 10 leave it. Assumes nothing.
use Rattle.std.specs.Prelude.{◌≡◌, refl, ◌⊎◌, ℕ, ◌≤◌, ◌<◌, Bool, true, false, not, cond, List, [], ◌∷◌, get_or}
use Rattle.std.proofs.Common.{sym, ap, subst, ◌∙◌, inl, inr, arith}
use Rattle.std.proofs.Math.Option.{Option, none, some}
use Rattle.definition.specs.declared.Refusal.{Refusal}
use Rattle.definition.specs.declared.Refusal.TheVariants.{NotARecord}
use Rattle.definition.specs.declared.SheetRefusal.{SheetRefusal}
use Rattle.definition.specs.declared.SheetRefusal.TheVariants.{By}
use Rattle.definition.specs.Types.{Job, Room, number_of}
use Rattle.definition.specs.Limits.{vregs_room}
use Rattle.definition.specs.Entry.{lowest_of, entry_tests, entry}
use Rattle.definition.specs.Text.{◌>>=◌}
use Rattle.definition.specs.JobSheet.{Record, job_of_records}
use Rattle.definition.specs.SheetForms.{is_second, records_in, job_in, as_written, sheet_number_of, tenth_test}
use Rattle.definition.specs.SheetForms.{verdict_of, given_unless}
use Rattle.definition.specs.SheetForms.{verdict, SheetOut, given', refused', answer_to_sheet, answer_text}
use Rattle.definition.specs.SheetForms.{refusal_text, vregs_of}
use Rattle.definition.specs.Conversion.{sheet_text, moved_records, moved_sheet, already, move_to}
use Rattle.definition.specs.Conversion.{moved_text}
use Rattle.definition.specs.Conversion.{to_form1, to_form2}
use Rattle.definition.proofs.Places.{All}
use Rattle.definition.proofs.Forms.{answer_passed, not_zero}
use Rattle.definition.proofs.Conversions.{other_form, moved_same, moved_other}
use Rattle.sheet_laws.specs.Words.{none_some}
use Rattle.sheet_laws.specs.Sheets.{On}
use Rattle.text_laws.specs.Texts.{Sheet, sheet_whole}
use Rattle.text_laws.specs.Back.{form_back, first_byte, sheet_back}
use Rattle.text_laws.specs.Grown.{Other, other}

-- ---- a conversion by the verdict

-- a sheet that has the form asked for has not the other
not_already : (asked t : Bool) → t ≡ asked → already (not asked) t ≡ false
not_already true t e = ap not e
not_already false t e = e

verdict_by : (bs : List ℕ) (t : Bool) (m : Option (List Record)) → is_second bs ≡ t → records_in bs ≡ m
    → verdict bs ≡ verdict_of t m
unfolding verdict
verdict_by bs t m e f =
    ap (λ (u : Bool). verdict_of u (records_in bs)) e ∙ ap (λ (o : Option (List Record)). verdict_of t o) f

-- what a sheet that passes is moved to
moved_text_lem : (asked : Bool) (bs : List ℕ) (rs : List Record) → already asked (is_second bs) ≡ false
    → records_in bs ≡ some rs → verdict bs ≡ none
    → move_to asked bs ≡ given' (sheet_text asked (moved_records asked rs))
moved_text_lem asked bs rs a f v =
    moved_other asked bs a
    ∙ ap (λ (o : Option SheetRefusal). given_unless o (moved_sheet asked (records_in bs))) v
    ∙ ap (λ (m : Option (List Record)). given' (moved_sheet asked m)) f

job_by : (bs : List ℕ) (rs : List Record) → records_in bs ≡ some rs → job_in bs ≡ some (job_of_records rs)
unfolding job_in
job_by bs rs f = ap (λ (m : Option (List Record)). m >>= λ ks. some (job_of_records ks)) f

-- ---- the text of a sheet

-- A sheet is the text of its records, in its form: nothing that stands in it is lost when it is read, and every number
-- and every mask has one spelling.
-- Rules out: a reader that takes 007 for 7, or upper-case digits; one that takes a last line without its line feed.
pub promise_text : (bs : List ℕ) (rs : List Record) → records_in bs ≡ some rs → sheet_text (is_second bs) rs ≡ bs
promise_text bs rs e = (sheet_whole (is_second bs) bs rs refl e).text

-- ---- a sheet that passes, in the other form

-- what a sheet in the form that is not asked for is moved to
pub record Moved (asked : Bool) (bs : List ℕ) : Type 0 where
  pub text : List ℕ
  pub is : move_to asked bs ≡ given' text
  pub form : is_second text ≡ asked
  pub passes : verdict text ≡ none
  pub job : job_in text ≡ job_in bs
  pub answer : (room : Room) → answer_to_sheet text room ≡ answer_to_sheet bs room
  pub printed : vregs_of text ≡ vregs_of bs
  pub back : move_to (not asked) text ≡ given' bs
  pub first : get_or text 0 0 ≡ cond asked 102 111

-- Each sheet that passes, in the form that is not asked for, is moved to a sheet of the form asked for: that one passes
-- too, has the same job, gets the same answer for every size of the lent tables and the same bytes from `vregs`, and is
-- moved back to the sheet that it came from. It begins with `f` or `o`.
-- Rules out: a set written as the number of the segment's value, so that the new sheet gets 10; segments, uses or
-- hints left out on the way, so that `vregs` prints another sheet.
pub promise_same_job : (asked : Bool) (bs : List ℕ) → already asked (is_second bs) ≡ false → verdict bs ≡ none
    → Moved asked bs
unfolding vregs_of
promise_same_job asked bs a v = go (records_in bs) refl
  where
    s : is_second bs ≡ not asked
    s = other_form asked (is_second bs) a

    by : (rs : List Record) → records_in bs ≡ some rs → Sheet (not asked) bs rs → Other asked rs → Moved asked bs
    by rs f w o =
        let ks : List Record = moved_records asked rs in
        let text : List ℕ = sheet_text asked ks in
        let form : is_second text ≡ asked = form_back asked ks o.order in
        let are : records_in text ≡ some ks = sheet_back asked ks o.reads o.order in
        let passes : verdict text ≡ none = verdict_by text asked (some ks) form are ∙ o.tests in
        let j : job_in text ≡ some (job_of_records rs) = job_by text ks are ∙ ap some o.job in
        let answer : (room : Room) → answer_to_sheet text room ≡ answer_to_sheet bs room =
        λ room. answer_passed text room (job_of_records rs) passes j
        ∙ sym (answer_passed bs room (job_of_records rs) v (job_by bs rs f)) in
        record {
          text = text;
          is = moved_text_lem asked bs rs a f v;
          form = form;
          passes = passes;
          job = j ∙ sym (job_by bs rs f);
          answer = answer;
          printed = ap answer_text (answer vregs_room);
          back =
              moved_text_lem (not asked) text ks (not_already asked (is_second text) form) are passes
              ∙ ap (λ (l : List Record). given' (sheet_text (not asked) l)) o.back
              ∙ ap given' w.text;
          first = first_byte asked ks o.order;
        }

    go : (m : Option (List Record)) → records_in bs ≡ m → Moved asked bs
    go none f = absurd (none_some (sym v ∙ verdict_by bs (not asked) none s f))
    go (some rs) f =
        let w : Sheet (not asked) bs rs = sheet_whole (not asked) bs rs s f in
        by rs f w (other asked rs w.reads w.order (sym (verdict_by bs (not asked) (some rs) s f) ∙ v))

-- "Old to new to old gives the same bytes", for each sheet that passes.
-- Rules out: masks written in upper-case digits on the way back; segments put into the order of their first points.
pub promise_home : (bs : List ℕ) → is_second bs ≡ false → verdict bs ≡ none → to_form1 (to_form2 bs) ≡ bs
unfolding to_form1 to_form2
promise_home bs s v =
    let m = promise_same_job true bs s v in
    ap (λ (o : SheetOut (List ℕ)). moved_text (move_to false (moved_text o))) m.is ∙ ap moved_text m.back

-- "new to old to new does too, for each sheet that passes"
-- Rules out: a first instruction counted from 1, or counted up to the end of its block; a form line written twice.
pub promise_again : (bs : List ℕ) → is_second bs ≡ true → verdict bs ≡ none → to_form2 (to_form1 bs) ≡ bs
unfolding to_form1 to_form2
promise_again bs s v =
    let m = promise_same_job false bs (ap not s) v in
    ap (λ (o : SheetOut (List ℕ)). moved_text (move_to true (moved_text o))) m.is ∙ ap moved_text m.back

-- ---- a sheet that is refused

-- "A sheet already in the form asked for gets 1, whatever else is wrong with it."
-- Rules out: a sheet that has the form asked for given back as it is; one of these that 7 would refuse, answered by 7.
pub promise_already : (asked : Bool) (bs : List ℕ) → already asked (is_second bs) ≡ true
    → move_to asked bs ≡ refused' (By NotARecord)
promise_already asked bs a = moved_same asked bs a

-- "A sheet that tests 1 to 7 or 10 refuse is answered by `refused` and the same number alone": of the sheets that are
-- not already in the form asked for, exactly those that their verdict refuses are refused, and by the same refusal.
-- Rules out: a sheet of the second form moved to the first with its differing written fields left out, in place of 10;
-- a sheet whose job breaks two rules, answered by the higher number.
pub promise_refused : (asked : Bool) (bs : List ℕ) → already asked (is_second bs) ≡ false → (r : SheetRefusal)
    → (move_to asked bs ≡ refused' r → verdict bs ≡ some r) × (verdict bs ≡ some r → move_to asked bs ≡ refused' r)
promise_refused asked bs a r = (
  λ e. go (verdict bs) (sym (moved_other asked bs a) ∙ e),
  λ e. moved_other asked bs a ∙ ap (λ (o : Option SheetRefusal). given_unless o (moved_sheet asked (records_in bs))) e,
)
  where
    go : (o : Option SheetRefusal) → given_unless o (moved_sheet asked (records_in bs)) ≡ refused' r → o ≡ some r
    go none e = absurd (let z : ◌≡◌ {A = ℕ} 0 1 = cc in omega arith)
    go (some q) e = let m : q ≡ r = cc in ap some m

-- ---- the numbers

lowest_on : (P : Refusal → Type 0) (ts : List (Bool × Refusal)) → All (λ t. P t.1) ts → On P (lowest_of ts)
unfolding lowest_of
lowest_on P [] h = tt
lowest_on P (t ∷ ts) h = go t.0 (lowest_on P ts h.1)
  where
    go : (b : Bool) → On P (lowest_of ts) → On P (cond b (lowest_of ts) (some t.1))
    go true ih = ih
    go false ih = h.0

-- the tests of a job have numbers below 8
abbrev Low : Refusal → Type 0
Low r = number_of r < 8

entry_low : (job : Job) → On Low (entry job)
unfolding entry
entry_low job =
    lowest_on Low (entry_tests job)
    (omega arith, (omega arith, (omega arith, (omega arith, (omega arith, (omega arith, tt))))))

-- a test's refusal: not the build's 8 or 9
abbrev Tested : SheetRefusal → Type 0
Tested r = (sheet_number_of r ≡ 8 → ⊥) × (sheet_number_of r ≡ 9 → ⊥)

tests_on : (o : Option Refusal) (w : Bool) → On Low o → On Tested (tenth_test o w)
tests_on (some r) w h = (λ e. omega (arith, e, h), λ e. omega (arith, e, h))
tests_on none true h = tt
tests_on none false h = (λ e. omega (arith, e), λ e. omega (arith, e))

verdict_on : (t : Bool) (m : Option (List Record)) → On Tested (verdict_of t m)
verdict_on t none = (λ e. omega (arith, e), λ e. omega (arith, e))
verdict_on true (some rs) = tests_on (entry (job_of_records rs)) (as_written rs) (entry_low (job_of_records rs))
verdict_on false (some rs) = tests_on (entry (job_of_records rs)) true (entry_low (job_of_records rs))

-- "8 and 9 play no part": no verdict has either number, and so, by the two theorems before, no conversion.
-- Rules out: a sheet whose build stops, answered by 8; one whose registers overfill the tables of `vregs`, by 9.
pub promise_no_part : (bs : List ℕ) (r : SheetRefusal) → verdict bs ≡ some r
    → (sheet_number_of r ≡ 8 → ⊥) × (sheet_number_of r ≡ 9 → ⊥)
unfolding verdict
promise_no_part bs r e = subst (On Tested) e (verdict_on (is_second bs) (records_in bs))

-- a number from 1 to 7
abbrev pub OneToSeven : SheetRefusal → Type 0
OneToSeven r = (1 ≤ sheet_number_of r) × (sheet_number_of r ≤ 7)

-- what is asked for, and the numbers there are: 1 to 7 for the second form, 10 too for the first
abbrev pub InRange : Bool → SheetRefusal → Type 0
InRange true r = OneToSeven r
InRange false r = OneToSeven r ⊎ (sheet_number_of r ≡ 10)

low_range : (r : Refusal) → Low r → InRange true (By r)
low_range r h = let n : number_of r ≡ 0 → ⊥ = not_zero r in (omega (arith, n), omega (arith, h))

first_range : (o : Option Refusal) → On Low o → On (InRange true) (tenth_test o true)
first_range none h = tt
first_range (some r) h = low_range r h

second_range : (o : Option Refusal) (w : Bool) → On Low o → On (InRange false) (tenth_test o w)
second_range (some r) w h = inl (low_range r h)
second_range none true h = tt
second_range none false h = inr refl

-- by the form of the sheet, which is not the one asked for
range_on : (asked : Bool) (m : Option (List Record)) → On (InRange asked) (verdict_of (not asked) m)
range_on true none = (omega arith, omega arith)
range_on true (some rs) = first_range (entry (job_of_records rs)) (entry_low (job_of_records rs))
range_on false none = inl (omega arith, omega arith)
range_on false (some rs) = second_range (entry (job_of_records rs)) (as_written rs) (entry_low (job_of_records rs))

-- The numbers: `to_form2` refuses by 1 to 7 alone, `to_form1` by these and by 10; so "8 and 9 play no part".
-- Rules out: 10 from `to_form2`, whose sheets have no written field; 8 for a sheet whose build stops; 9 for one whose
-- registers overfill the tables of `vregs`.
pub promise_numbers : (asked : Bool) (bs : List ℕ) (r : SheetRefusal) → move_to asked bs ≡ refused' r → InRange asked r
unfolding verdict
promise_numbers asked bs r e = go (already asked (is_second bs)) refl
  where
    the : SheetOut (List ℕ) → SheetRefusal
    the (given' t) = r
    the (refused' q) = q

    one : (t : Bool) → InRange t (By NotARecord)
    one true = (omega arith, omega arith)
    one false = inl (omega arith, omega arith)

    go : (t : Bool) → already asked (is_second bs) ≡ t → InRange asked r
    go true a = subst (InRange asked) (ap the (sym (promise_already asked bs a) ∙ e)) (one asked)
    go false a =
        let v : verdict bs ≡ some r = (promise_refused asked bs a r).0 e in
        let w : verdict_of (not asked) (records_in bs) ≡ some r =
        ap (λ (t : Bool). verdict_of t (records_in bs)) (sym (other_form asked (is_second bs) a)) ∙ v in
        subst (On (InRange asked)) w (range_on asked (records_in bs))

-- ---- what is written

-- What is written tells: a sheet that is given begins with `f` or `o`, so it is no refusal's line.
-- Rules out: a sheet of the first form with an empty line in front; a moved sheet that could be taken for a refusal.
pub promise_told : (asked : Bool) (bs text : List ℕ) → move_to asked bs ≡ given' text
    → (get_or text 0 0 ≡ cond asked 102 111) × ((r : SheetRefusal) → text ≡ refusal_text r → ⊥)
promise_told asked bs text e = go (already asked (is_second bs)) refl
  where
    by : already asked (is_second bs) ≡ false → (o : Option SheetRefusal) → verdict bs ≡ o
        → get_or text 0 0 ≡ cond asked 102 111
    by a none v =
        let m = promise_same_job asked bs a v in
        let s : m.text ≡ text = cc in
        ap (λ (l : List ℕ). get_or l 0 0) (sym s) ∙ m.first
    by a (some r) v =
        absurd (let f = (promise_refused asked bs a r).1 v in let z : ◌≡◌ {A = ℕ} 0 1 = cc in omega arith)

    never : (t : Bool) → ◌≡◌ {A = ℕ} 114 (cond t 102 111) → ⊥
    never true e = omega (arith, e)
    never false e = omega (arith, e)

    go : (t : Bool) → already asked (is_second bs) ≡ t
        → (get_or text 0 0 ≡ cond asked 102 111) × ((r : SheetRefusal) → text ≡ refusal_text r → ⊥)
    go true a = absurd (let f = promise_already asked bs a in let z : ◌≡◌ {A = ℕ} 0 1 = cc in omega arith)
    go false a =
        let b : get_or text 0 0 ≡ cond asked 102 111 = by a (verdict bs) refl in
        (b, λ r s. never asked (sym (ap (λ (l : List ℕ). get_or l 0 0) s) ∙ b))
