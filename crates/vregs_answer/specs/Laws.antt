-- From the verdict on a sheet to its answer. Assumes nothing.
use Rattle.std.specs.Prelude.{◌≡◌, refl, Ok, Err, List, ℕ, length, replicate}
use Rattle.std.proofs.Common.{sym, ap, subst, ◌∙◌, arith}
use Rattle.std.proofs.Math.Option.{Option, none, some}
use Rattle.std.proofs.lemmas.List.{length-replicate}
use Rattle.words.specs.Words.{words_of}
use Rattle.definition.specs.Build.{Result, build}
use Rattle.definition.specs.Limits.{vregs_room}
use Rattle.definition.specs.declared.SheetRefusal.{SheetRefusal}
use Rattle.definition.specs.declared.SheetRefusal.TheVariants.{By, WrittenDiffers}
use Rattle.definition.specs.SheetForms.{SheetOut, sheet_number_of, answer_to_sheet}
use Rattle.definition.proofs.Forms.{not_zero, answer_refused, answer_passed}
use Rattle.job.specs.Job.{raw_job}
use Rattle.virt_regs.specs.declared.OutLayout.{OutLayout}
use Rattle.virt_regs.specs.Encoding.{room_of}
use Rattle.entry.specs.declared.Entered.{Entered}
use Rattle.sheet.specs.declared.either.Reading.{Reading}
use Rattle.build_answer.specs.declared.BuildEnd.{BuildEnd}
use Rattle.build_answer.specs.Answered.{Answered}
use Rattle.build_answer.specs.Sheets.{SheetAnswered, answered_lift, sheet_refused}
use Rattle.build.specs.Ends.{Cleared}
use Rattle.sheet_verdict.specs.Judged.{verdict_number, Judged}
use Rattle.vregs_answer.specs.Sheet.{vregs_tables, refusal, Answers}

-- ---- a slice that was cleared

pub cleared_long : (n : ℕ) (x : List ℕ) → x ≡ replicate n 0 → length x ≡ n
cleared_long n x z = ap length z ∙ length-replicate n 0

cleared : (n : ℕ) (x : List ℕ) → x ≡ replicate n 0 → x ≡ replicate (length x) 0
cleared n x z = z ∙ ap (λ (k : ℕ). replicate k 0) (sym (cleared_long n x z))

pub cleared_tables : (ol : OutLayout) (n : ℕ) (x : List ℕ) → ol ≡ vregs_tables → n ≡ 460800 → x ≡ replicate n 0
    → Cleared ol x
cleared_tables ol n x e h z =
    subst (λ (l : OutLayout). Cleared l x) (sym e)
    (record {
      long = cleared_long n x z
          ∙ h;
      zeros = cleared n x z;
      regs = omega arith;
      segs = omega arith;
      uses = omega arith;
      groups = omega arith;
    })

-- ---- by the verdict

-- a verdict without a number is none
none_by : (v : Option SheetRefusal) → verdict_number v ≡ 0 → v ≡ none
none_by none e = refl
none_by (some (By r)) e = absurd (not_zero r e)
none_by (some WrittenDiffers) e = absurd (omega (arith, e))

module _ (n : ℕ) (cur : Reading) (T Y K : List ℕ) where
  -- a refusal, by its number alone
  pub answers_refused : (f : SheetRefusal) → Judged cur T Y K (Err f) → (k : ℕ) → k ≡ sheet_number_of f → (r : BuildEnd)
      → r ≡ refusal k → (x : List ℕ) → x ≡ replicate n 0 → Answers n cur (words_of T) Y r x
  answers_refused f j k e r d x z sheet s =
      sheet_refused n vregs_tables (answer_to_sheet sheet vregs_room) f r x
      (answer_refused sheet vregs_room f (sym (j.refused sheet s))) (d ∙ ap refusal e) z

  -- the build of a sheet that passes
  pub answers_built : (e : Entered) → Judged cur T Y K (Ok e) → (m : ℕ) → m ≡ n → (ol : OutLayout) → ol ≡ vregs_tables
      → (r : BuildEnd) (x : List ℕ)
      → Answered m ol (build (raw_job (words_of T) e.lay) (room_of ol)) r x → Answers n cur (words_of T) Y r x
  answers_built e j m l ol d r x a sheet s =
      subst (λ (o : SheetOut Result). SheetAnswered n vregs_tables o r x)
      (sym (answer_passed sheet vregs_room (raw_job (words_of T) e.lay) (sym (j.refused sheet s)) (j.job sheet s)))
      (answered_lift
      (subst (λ (k : ℕ). Answered k vregs_tables (build (raw_job (words_of T) e.lay) vregs_room) r x) l
      (subst (λ (t : OutLayout). Answered m t (build (raw_job (words_of T) e.lay) (room_of t)) r x) d a)))
