-- From a sheet that was read to its verdict and its table. Assumes nothing.
use Rattle.std.specs.Prelude.{◌≡◌, refl, false, List, ℕ, drop, Result}
use Rattle.words.specs.Words.{word_count, words_of}
use Rattle.definition.specs.declared.SheetRefusal.{SheetRefusal}
use Rattle.definition.specs.JobSheet.{job_of_records}
use Rattle.sheet_rules.specs.Places.{table_words}
use Rattle.sheet.specs.declared.either.Reading.{Reading}
use Rattle.sheet.specs.Front.{formed, open_form}
use Rattle.sheet.specs.Stream.{Streamed}
use Rattle.sheet_verdict.specs.Fed.{streamed_in, leads, leads_all}
use Rattle.job_pages.specs.Starts.{Begins}
use Rattle.order_answer.specs.Shelved.{Shelves}
use Rattle.streams.specs.declared.Stream.{Stream}
use Rattle.streams.specs.Tape.{at_of}
use Rattle.sheet_verdict.specs.Taken.{Taken}
use Rattle.order_answer.specs.Tapes.{taped}
use Rattle.order_answer.specs.Reads.{Told}

pub told : (reads given : List ℕ) (input next : Stream) (n m : ℕ) (cur : Reading) (T Y : List ℕ)
    (v : Result Unit SheetRefusal) → n ≡ table_words → m ≡ 1536 → word_count T ≡ table_words
    → Taken reads given input (open_form n m) (formed cur (words_of T) Y) false next
    → Shelves cur (words_of T) Y v → Told (taped reads given input next) v T
told reads given input next n m cur T Y v e f l t h =
    let s : Streamed (open_form table_words 1536) (formed cur (words_of T) Y) =
    streamed_in n m (formed cur (words_of T) Y) e f t.streamed in
    record {
      whole = λ y. ((t.on_tape y).whole refl, (t.on_tape y).passed refl);
      shows = λ z.
          let b : Begins s.bytes (words_of T) = (h s.bytes (leads cur (words_of T) Y s)).begins z in
          record { long = l; job = job_of_records b.records; records = b.records; left = b.left };
      shelved = λ y.
          h (drop (at_of input) given) (leads_all reads given input next n m cur (words_of T) Y e f t y);
    }
