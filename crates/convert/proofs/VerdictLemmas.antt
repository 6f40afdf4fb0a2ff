-- The verdict on a sheet that was read. Assumes nothing.
use mathlib.Core.Path.{◌≡◌, refl, sym, ap, ◌∙◌}
use mathlib.Core.Bool.{Bool, true, false, false≢true}
use mathlib.Core.Option.{Option, none, some}
use mathlib.Core.List.{List}
use Rattle.std.specs.Prelude.{Result, Ok, Err, is_ok, IsOk}
use Prim.Native.Nat.{ℕ}
use Rattle.words.specs.Words.{word_count, words_of}
use Rattle.definition.specs.declared.SheetRefusal.{SheetRefusal}
use Rattle.definition.specs.declared.SheetRefusal.TheVariants.{By}
use Rattle.definition.specs.declared.Refusal.TheVariants.{NotARecord}
use Rattle.definition.specs.SheetForms.{is_second, records_in, verdict, given_unless}
use Rattle.definition.specs.Conversion.{already, moved_sheet}
use Rattle.definition.proofs.Conversions.{moved_same, moved_other}
use Rattle.entry.specs.declared.Entered.{Entered}
use Rattle.entry.specs.Number.{refusal_in}
use Rattle.sheet_rules.specs.Places.{table_words}
use Rattle.sheet.specs.declared.either.Reading.{Reading}
use Rattle.sheet.specs.Fronts.{front_at}
use Rattle.sheet.specs.Front.{Formed, second_of}
use Rattle.sheet_laws.specs.Read.{forms_front}
use Rattle.sheet_verdict.specs.Leads.{table_read}
use Rattle.sheet_verdict.specs.Judged.{LeadsTo, Judged}
use Rattle.job_pages.specs.Starts.{moves}
use Rattle.convert.specs.Settled.{moved_verdict, Settles}

-- ---- the definition's verdict

-- as the verdict of an answer
abbrev ended : Option SheetRefusal → Result Unit SheetRefusal
ended none = Ok tt
ended (some r) = Err r

-- no refusal is none
none_by : (o : Option SheetRefusal) → IsOk (ended o) → o ≡ none
none_by none e = refl
none_by (some r) e = absurd (false≢true e)

unless_verdict : (o : Option SheetRefusal) (t : List ℕ) → ended o ≡ moved_verdict (given_unless o t)
unless_verdict none t = refl
unless_verdict (some r) t = refl

-- ---- the sheets that lead here

module _ (second : Bool) (cur : Reading) (b : Bool) (i : b ≡ already second (second_of (front_at cur.front))) where
  front : (sheet W Y : List ℕ) → LeadsTo sheet cur W Y → b ≡ already second (is_second sheet)
  front sheet W Y s =
      i
      ∙ ap (already second)
      (ap (λ (f : Formed). second_of f.at.front) s.is ∙ forms_front table_words 1536 sheet s.bytes)

  -- they have the form that is asked for
  pub settled_same : (W Y : List ℕ) → b ≡ true → Settles second cur W Y (Err (By NotARecord))
  settled_same W Y e = λ sheet s. record {
    verdict = ap moved_verdict (sym (moved_same second sheet (sym (front sheet W Y s) ∙ e)));
    moves = λ z. absurd (false≢true z);
  }

  -- they have the other one: the verdict is the definition's
  pub settled_judged : (T U K : List ℕ) (r : Result Entered SheetRefusal) (v : Result Unit SheetRefusal)
      → word_count T ≡ table_words → word_count U ≡ 1536
      → Judged cur T (words_of U) K r → v ≡ ended (refusal_in r) → b ≡ false
      → Settles second cur (words_of T) (words_of U) v
  settled_judged T U K r v l k j q f = λ sheet s.
      let a : already second (is_second sheet) ≡ false = sym (front sheet (words_of T) (words_of U) s) ∙ f in
      let d : v ≡ ended (verdict sheet) = q ∙ ap (λ (o : Option SheetRefusal). ended o) (j.refused sheet s) in
      record {
        verdict =
            d
            ∙ unless_verdict (verdict sheet) (moved_sheet second (records_in sheet))
            ∙ ap moved_verdict (sym (moved_other second sheet a));
        moves = λ z.
            let p : verdict sheet ≡ none =
            none_by (verdict sheet) (ap (λ (w : Result Unit SheetRefusal). is_ok w) (sym d) ∙ z) in
            moves second sheet (words_of T) (table_read sheet cur T U l k s p) p a;
      }
