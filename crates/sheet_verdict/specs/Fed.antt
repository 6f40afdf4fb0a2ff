-- A sheet that was fed to the reader leads to its state and its tables. Assumes nothing.
use Rattle.std.specs.Prelude.{◌≡◌, true, false, List, ℕ, drop}
use Rattle.std.proofs.Common.{ap, subst, ◌∙◌}
use Rattle.sheet_rules.specs.Places.{table_words}
use Rattle.sheet.specs.declared.either.Reading.{Reading}
use Rattle.sheet.specs.Front.{Formed, formed, run_form, open_form}
use Rattle.sheet.specs.Stream.{Streamed}
use Rattle.sheet_laws.specs.Agree.{all_bytes}
use Rattle.streams.specs.declared.Stream.{Stream}
use Rattle.streams.specs.Tape.{is_tape, at_of}
use Rattle.sheet_verdict.specs.Taken.{Taken, all_fed}
use Rattle.sheet_verdict.specs.Judged.{LeadsTo}

-- the reader's tables have the words of all tables and of all written fields
pub both_open : (n m : ℕ) → n ≡ table_words → m ≡ 1536 → open_form n m ≡ open_form table_words 1536
both_open n m e f = ap (λ (k : ℕ). open_form k m) e ∙ ap (λ (k : ℕ). open_form table_words k) f

pub streamed_in : (n m : ℕ) (g : Formed) → n ≡ table_words → m ≡ 1536 → Streamed (open_form n m) g
    → Streamed (open_form table_words 1536) g
streamed_in n m g e f s = subst (λ (k : Formed). Streamed k g) (both_open n m e f) s

pub leads : (cur : Reading) (W Y : List ℕ) (s : Streamed (open_form table_words 1536) (formed cur W Y))
    → LeadsTo s.bytes cur W Y
leads cur W Y s = record { bytes = all_bytes s.bytes s.small; is = s.is }

-- ---- where no read failed, the sheet that was read is all bytes that are given

pub leads_all : (reads given : List ℕ) (input next : Stream) (n m : ℕ) (cur : Reading) (W Y : List ℕ)
    → n ≡ table_words → m ≡ 1536 → Taken reads given input (open_form n m) (formed cur W Y) false next
    → is_tape input ≡ true → LeadsTo (drop (at_of input) given) cur W Y
leads_all reads given input next n m cur W Y en em t y =
    let b : List ℕ = t.streamed.bytes in
    subst (λ (l : List ℕ). LeadsTo l cur W Y) (all_fed reads given b input next (t.on_tape y)) (record {
      bytes = all_bytes b t.streamed.small;
      is = t.streamed.is ∙ ap (λ (f : Formed). run_form f b) (both_open n m en em);
    })
