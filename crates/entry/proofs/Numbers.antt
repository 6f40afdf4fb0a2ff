-- The first test that fails. Assumes nothing.
use Prim.Native.Nat.{ℕ}
use mathlib.Core.Path.{◌≡◌, refl, sym, ap, ◌∙◌}
use mathlib.Core.Bool.{Bool, true, false, not}
use mathlib.Core.Option.{Option, none, some}
use mathlib.Core.List.{List, [], ◌∷◌}
use Rattle.definition.specs.declared.Refusal.{Refusal}
use Rattle.definition.specs.declared.Refusal.TheVariants.{NotARecord, OverALimit, BadBook}
use Rattle.definition.specs.Types.{Job, Room, refused, number_of}
use Rattle.definition.specs.Entry.{limits_ok, book_ok, lowest_of, entry, answer_to, answer}
use Rattle.definition.specs.Build.{build}
use Rattle.words.specs.Words.{words_of}
use Rattle.job.specs.declared.Layout.{Layout}
use Rattle.job.specs.Job.{raw_job}
use Rattle.job_shape.specs.Shape.{layout_of, shape_ok}
use Rattle.job_shape.specs.Answer.{binary_job, answer_if, binary_answer}
use Rattle.job_shape.proofs.Tests.{passed, failed}
use Rattle.entry.specs.Number.{number_in, table_tests, number_for, entry_of, entry_number}

-- ---- tests one after the other: one of which a callee answered t

pub fails : {t b : Bool} (r : Refusal) (ts : List (Bool × Refusal)) → not t ≡ true → t ≡ b → some r ≡ lowest_of ((b, r) ∷ ts)
unfolding lowest_of
fails r ts h e = rw (failed h e)

pub passes : {o : Option Refusal} {t b : Bool} (r : Refusal) (ts : List (Bool × Refusal)) → not t ≡ false → t ≡ b → o ≡ lowest_of ts → o ≡ lowest_of ((b, r) ∷ ts)
unfolding lowest_of
passes r ts h e f = rw (passed h e) f

pub all_pass : none ≡ lowest_of []
unfolding lowest_of
all_pass = refl

-- ---- the tests of a job

module _ (W : List ℕ) (lay : Layout) where
  abbrev job : Job
  job = raw_job W lay

  entry_is : entry job ≡ lowest_of ((limits_ok job, OverALimit) ∷ (book_ok job, BadBook) ∷ table_tests job)
  unfolding entry
  entry_is = refl

  pub entry_limits : {t : Bool} → not t ≡ true → t ≡ limits_ok job → some OverALimit ≡ entry job
  entry_limits h e = fails OverALimit ((book_ok job, BadBook) ∷ table_tests job) h e ∙ sym entry_is

  pub entry_book : {t u : Bool} → not t ≡ false → t ≡ limits_ok job → not u ≡ true → u ≡ book_ok job → some BadBook ≡ entry job
  entry_book h e i f = passes OverALimit ((book_ok job, BadBook) ∷ table_tests job) h e (fails BadBook (table_tests job) i f) ∙ sym entry_is

  pub entry_tables : {t u : Bool} {o : Option Refusal} → not t ≡ false → t ≡ limits_ok job → not u ≡ false → u ≡ book_ok job → o ≡ lowest_of (table_tests job) → o ≡ entry job
  entry_tables h e i f g = passes OverALimit ((book_ok job, BadBook) ∷ table_tests job) h e (passes BadBook (table_tests job) i f g) ∙ sym entry_is

  -- ---- the answer to it

  pub answer_built : (room : Room) → entry job ≡ none → answer job room ≡ build job room
  unfolding answer answer_to
  answer_built room e = ap (λ (o : Option Refusal). answer_to o job room) e

  pub answer_refused : (room : Room) (r : Refusal) → entry job ≡ some r → (answer job room ≡ refused r) × (number_for W lay ≡ number_of r)
  unfolding answer answer_to number_for number_in
  answer_refused room r e = (ap (λ (o : Option Refusal). answer_to o job room) e, ap number_in e)

-- ---- a binary job

-- a slice off its shape
pub number_off : (s : List ℕ) → shape_ok s ≡ false → 1 ≡ entry_number s
unfolding entry_number entry_of number_in
number_off s e = rw e

pub binary_off : (s : List ℕ) (room : Room) → shape_ok s ≡ false → binary_answer s room ≡ refused NotARecord
unfolding binary_answer answer_if
binary_off s room e = rw e

-- a slice of good shape
module _ (s : List ℕ) (lay : Layout) (found : lay ≡ layout_of (words_of s)) (ok : shape_ok s ≡ true) where
  job_is : binary_job s ≡ raw_job (words_of s) lay
  unfolding binary_job
  job_is = ap (λ (l : Layout). raw_job (words_of s) l) (sym found)

  pub number_is : entry_number s ≡ number_for (words_of s) lay
  unfolding entry_number entry_of number_for
  number_is = rw (ok, job_is)

  pub binary_on : (room : Room) → binary_answer s room ≡ answer (raw_job (words_of s) lay) room
  unfolding binary_answer answer_if
  binary_on room = rw (ok, job_is)
