-- What the answer to a job sheet leaves in the lent result tables, byte for byte, and ends with. Assumes nothing.
use Rattle.std.specs.Prelude.{◌≡◌, refl, List, ℕ, length, replicate}
use Rattle.std.proofs.Common.{sym, ap, ◌∙◌, arith}
use Rattle.words.specs.Parts.{pad}
use Rattle.words.specs.Words.{words_of, bytes_of}
use Rattle.definition.specs.Types.{Out, done, refused}
use Rattle.definition.specs.Build.{Result}
use Rattle.definition.specs.declared.SheetRefusal.{SheetRefusal}
use Rattle.definition.specs.SheetForms.{sheet_number_of, SheetOut, given', refused', lift}
use Rattle.virt_regs.specs.declared.OutLayout.{OutLayout}
use Rattle.virt_regs.specs.Encoding.{Holds}
use Rattle.build_answer.specs.declared.BuildEnd.{BuildEnd}
use Rattle.build_answer.specs.Answered.{result_words, bytes_left, end_left, state_of, Answered}

-- the number of a refusal alone
abbrev pub number_alone : ℕ → BuildEnd
number_alone k = record { number = k; registers = 0; groups = 0 }

-- the answer: 0 and how many registers and groups; or the number alone
unfoldable pub sheet_end : SheetOut Result → BuildEnd
sheet_end (given' res) = record { number = 0; registers = length res.registers; groups = length res.groups }
sheet_end (refused' r) = number_alone (sheet_number_of r)

-- the bytes of a slice of n bytes: the result and zeros behind it; or zeros
unfoldable pub sheet_bytes : ℕ → OutLayout → SheetOut Result → List ℕ
sheet_bytes n ol (given' res) = pad n (bytes_of (result_words ol res))
sheet_bytes n ol (refused' r) = replicate n 0

-- A sheet of which o is the definition's answer ended with r and left the bytes x in a slice of n bytes with these
-- tables. Where registers are given, their rows can be read back.
pub record SheetAnswered (n : ℕ) (ol : OutLayout) (o : SheetOut Result) (r : BuildEnd) (x : List ℕ) : Type 0 where
  pub end : r ≡ sheet_end o
  pub bytes : x ≡ sheet_bytes n ol o
  pub holds : (res : Result) → o ≡ given' res → Holds ol (words_of x) (state_of res)

-- ---- an answer to a job, as one to its sheet

lift_end : (o : Out Result) → end_left o ≡ sheet_end (lift o)
unfolding end_left sheet_end
lift_end (done res) = refl
lift_end (refused f) = refl

lift_bytes : (n : ℕ) (ol : OutLayout) (o : Out Result) → bytes_left n ol o ≡ sheet_bytes n ol (lift o)
unfolding bytes_left sheet_bytes
lift_bytes n ol (done res) = refl
lift_bytes n ol (refused f) = refl

lift_done : (o : Out Result) (res : Result) → lift o ≡ given' res → o ≡ done res
lift_done (done a) res e = let m : a ≡ res = cc in ap (λ (t : Result). done t) m
lift_done (refused f) res e = absurd (let w : ◌≡◌ {A = ℕ} 0 1 = cc in omega arith)

pub answered_lift : {n : ℕ} {ol : OutLayout} {o : Out Result} {r : BuildEnd} {x : List ℕ} → Answered n ol o r x
    → SheetAnswered n ol (lift o) r x
answered_lift {n} {ol} {o} a =
    record {
      end = a.end ∙ lift_end o;
      bytes = a.bytes ∙ lift_bytes n ol o;
      holds = λ res e. a.holds res (lift_done o res e);
    }

-- ---- refused: the slice is cleared

pub sheet_refused : (n : ℕ) (ol : OutLayout) (o : SheetOut Result) (f : SheetRefusal) (r : BuildEnd) (x : List ℕ)
    → o ≡ refused' f → r ≡ number_alone (sheet_number_of f) → x ≡ replicate n 0 → SheetAnswered n ol o r x
unfolding sheet_end sheet_bytes
sheet_refused n ol o f r x q e z =
    record {
      end = e ∙ ap sheet_end (sym q);
      bytes = z ∙ ap (λ (u : SheetOut Result). sheet_bytes n ol u) (sym q);
      holds = λ res d. absurd (let w : ◌≡◌ {A = ℕ} 0 1 = cc in omega arith);
    }
