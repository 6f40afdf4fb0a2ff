-- From the input to the first page. Assumes nothing.
use mathlib.Core.Path.{◌≡◌, sym, ap, subst, ◌∙◌}
use mathlib.Core.Bool.{Bool, true, false}
use mathlib.Core.List.{List}
use Prim.Native.Nat.{ℕ}
use lib.ListN.{drop}
use Rattle.std.specs.Prelude.{Result, Err, IsOk}
use Rattle.words.specs.Words.{word_count, words_of}
use Rattle.definition.specs.declared.SheetRefusal.{SheetRefusal}
use Rattle.definition.specs.SheetForms.{SheetOut, sheet_number_of}
use Rattle.definition.specs.Conversion.{move_to, moved_text, converted}
use Rattle.sheet_rules.specs.Places.{table_words}
use Rattle.sheet.specs.declared.either.Reading.{Reading}
use Rattle.sheet.specs.Front.{Formed, formed, run_form, open_form}
use Rattle.sheet.specs.Stream.{Streamed}
use Rattle.sheet_laws.specs.Agree.{all_bytes}
use Rattle.job_pages.specs.Cursors.{at_start}
use Rattle.job_pages.specs.Pages.{Shows}
use Rattle.job_pages.specs.Starts.{Moves}
use Rattle.sheet_verdict.specs.Judged.{LeadsTo}
use Rattle.sheet_verdict.specs.Fed.{leads, leads_all}
use Rattle.convert.specs.Settled.{Settles, refused_line_text}
use Rattle.streams.specs.declared.Stream.{Stream}
use Rattle.streams.specs.Tape.{is_tape, at_of}
use Rattle.sheet_verdict.specs.Taken.{Taken, all_fed}
use Rattle.convert.specs.Shown.{Written, Shown, Refused, Put}

-- the table of a sheet that is to be written has records at the start
pub shows_read : (second : Bool) (cur : Reading) (T Y : List ℕ) (v : Result Unit SheetRefusal)
    → Streamed (open_form table_words 1536) (formed cur (words_of T) Y) → word_count T ≡ table_words
    → Settles second cur (words_of T) Y v → IsOk v → Shows T at_start
shows_read second cur T Y v s l h z =
    let m : Moves second s.bytes (words_of T) = (h s.bytes (leads cur (words_of T) Y s)).moves z in
    record { long = l; job = m.job; records = m.records; left = m.left }

-- ---- the answer

module _ (second : Bool) (v : Result Unit SheetRefusal) (T tape paper : List ℕ) (s : Stream) (failed : Bool)
    (t : Stream) (P : List ℕ) where
  pub put_sheet : IsOk v → Shown second T tape paper s failed t P → Put second v T tape paper s failed t P
  put_sheet z h = λ sheet e.
      let m : Moves second sheet T = e.moves z in
      subst (λ (o : SheetOut (List ℕ)). Written tape paper (moved_text o) s failed t P) (sym m.is)
      (h m.job m.records m.left)

  pub put_refusal : (r : SheetRefusal) → v ≡ Err r → Refused (sheet_number_of r) tape paper s failed t P
      → Put second v T tape paper s failed t P
  put_refusal r z h = λ sheet e.
      subst (λ (l : List ℕ). Written tape paper l s failed t P)
      (refused_line_text r (move_to second sheet) (sym z ∙ e.verdict)) h

-- ---- where no read failed, the sheet that was read is all bytes that are given

module _ (reads given : List ℕ) (input next : Stream) (n m : ℕ) (cur : Reading) (W Y : List ℕ) (en : n ≡ table_words)
    (em : m ≡ 1536) (t : Taken reads given input (open_form n m) (formed cur W Y) false next) where
  -- what is put is the answer to them
  pub put_all : (second : Bool) (v : Result Unit SheetRefusal) (writes paper : List ℕ) (output : Stream) (failed : Bool)
      (to : Stream) (P : List ℕ) → Settles second cur W Y v → Put second v W writes paper output failed to P
      → is_tape input ≡ true → Written writes paper (converted second (drop (at_of input) given)) output failed to P
  put_all second v writes paper output failed to P a h y =
      let sheet : List ℕ = drop (at_of input) given in
      h sheet (a sheet (leads_all reads given input next n m cur W Y en em t y))
