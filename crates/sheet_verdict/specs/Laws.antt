-- From what the machine says of a sheet to the reader's number and table. Assumes nothing.
use Rattle.std.specs.Prelude.{◌≡◌, List, Bool, not, ℕ, ◌/◌, ◌≤◌, ◌<◌, get_or, replicate, Ok, Err}
use Rattle.std.proofs.Math.Path.{refl, sym, ap}
use Rattle.std.proofs.Common.{◌∙◌, subst, arith}
use Rattle.std.proofs.Math.Bool.{true, false, cond}
use Rattle.std.proofs.Math.Option.{Option, none, some}
use Rattle.std.proofs.Math.ListN.{length}
use Rattle.std.proofs.lemmas.List.{length-replicate}
use Rattle.std.proofs.Math.Dec.{leb}
use borrow.Author.Tests.{le-leb, lt-leb}
use Rattle.words.specs.Words.{word_count, words_of}
use Rattle.definition.specs.Entry.{conj}
use Rattle.definition.specs.Text.{◌>>=◌}
use Rattle.definition.specs.JobSheet.{Word as Named, opt, bank, class, reg, block, value, vgroup, operand, hint, seg}
use Rattle.definition.specs.JobSheet.{use', end, word_number, Record, only, job_of_records}
use Rattle.definition.specs.SheetForms.{is_second, records_in, written_firsts, written_sets}
use Rattle.definition.proofs.Forms.{second_records_lem}
use Rattle.definition.specs.Conversion.{shrunk}
use Rattle.job.specs.Job.{raw_job}
use Rattle.sheet_rules.specs.Places.{limits, limit_of, table_words}
use Rattle.sheet.specs.Machine.{Answer}
use Rattle.sheet.specs.declared.first.SheetError.{SheetError}
use Rattle.sheet.specs.declared.first.SheetError.TheVariants.{Malformed, TooMany}
use Rattle.sheet.specs.declared.either.Reading.{Reading}
use Rattle.sheet.specs.Fronts.{front_at}
use Rattle.sheet.specs.Front.{Keeping, Formed, formed, run_form, open_form, finish_of}
use Rattle.sheet_laws.specs.Words.{Bytes, none_some}
use Rattle.sheet_laws.specs.Table.{Filled, filled, fill, blank}
use Rattle.sheet_laws.specs.Agree.{outcome, all_bytes}
use Rattle.sheet_laws.specs.Put.{cnt}
use Rattle.sheet_laws.specs.Counts.{TooMany as Crowded, zero_count, fill_count, fill_over}
use Rattle.sheet_laws.specs.Sheets.{On, Sound}
use Rattle.sheet_job.specs.Fixed.{fixed_layout}
use Rattle.sheet_job.specs.Jobs.{Alike, table_job}
use Rattle.sheet_job.specs.Answers.{conj_at}
use Rattle.sheet_job.specs.Present.{fill_most}
use Rattle.sheet_job.specs.Shape.{read_shaped}
use Rattle.sheet_laws.specs.Jobs.{only_long}
use Rattle.sheet_laws.specs.Kept.{kept_words}
use Rattle.sheet_laws.specs.Read.{bare_of, bare_in, bare_in_sound, bare_in_chosen, bare_in_job}
use Rattle.sheet_laws.specs.Read.{forms_bare, none_written, all_written}
use Rattle.sheet_verdict.specs.Read.{record_tests, records_fit, records_number, records_table, sheet_number, sheet_table}
use Rattle.sheet_verdict.specs.Read.{records_written, written_table, number_said, Cleared, JobRead, ReadAs}

-- ---- the table was full exactly where a kind of record passes its limit

module _ (n : ℕ) (e : n ≡ table_words) (rs : List Record) where
  blank_long : length {A = ℕ} (replicate n 0) ≡ table_words
  blank_long = length-replicate n 0 ∙ e

  -- its counts are those of the records
  pub counted : (fill (blank n) rs).over ≡ false → (w : Named) → 1 ≤ word_number w → word_number w ≤ 10
      → cnt (fill (blank n) rs).out (word_number w) ≡ length (only w rs)
  counted v w a b = omega (arith, fill_count rs (blank n) blank_long v w a b, zero_count n e (word_number w))

  pub few : (fill (blank n) rs).over ≡ false → (w : Named) → 1 ≤ word_number w → word_number w ≤ 10
      → length (only w rs) ≤ limit_of (word_number w)
  few v w a b =
      let z : (k : ℕ) → cnt (replicate n 0) k ≡ 0 = zero_count n e in
      let m : cnt (fill (blank n) rs).out (word_number w) ≤ limit_of (word_number w) =
      fill_most rs (blank n) blank_long v (λ k p q. omega (arith, z k)) (word_number w) a b in
      omega (arith, counted v w a b, m)

  fits : (fill (blank n) rs).over ≡ false → records_fit rs ≡ true
  unfolding records_fit conj limit_of limits
  fits v =
      rw (
        t bank 8 (few v bank (omega arith) (omega arith)),
        t class 32
            (few v class (omega arith) (omega arith)),
        t reg 256 (few v reg (omega arith) (omega arith)),
        t block 512
            (few v block (omega arith) (omega arith)),
        t value 1024
            (few v value (omega arith) (omega arith)),
        t vgroup 256
            (few v vgroup (omega arith) (omega arith)),
        t operand 1024
            (few v operand (omega arith) (omega arith)),
        t hint 1024 (few v hint (omega arith) (omega arith)),
        t seg 1024
            (few v seg (omega arith) (omega arith)),
        t use' 4096 (few v use' (omega arith) (omega arith)),
      )
    where
      t : (w : Named) (most : ℕ) → length (only w rs) ≤ most → leb (length (only w rs)) most ≡ true
      t w most h = le-leb (length (only w rs)) most h

  over_kind : (w : Named) → 1 ≤ word_number w → word_number w ≤ 10 → limit_of (word_number w) < length (only w rs)
      → records_fit rs ≡ false
  unfolding records_fit limit_of limits
  over_kind opt a b h = absurd (omega (arith, a))
  over_kind bank a b h = conj_at (record_tests rs) 0 (lt-leb (length (only bank rs)) 8 h)
  over_kind class a b h = conj_at (record_tests rs) 1 (lt-leb (length (only class rs)) 32 h)
  over_kind reg a b h = conj_at (record_tests rs) 2 (lt-leb (length (only reg rs)) 256 h)
  over_kind block a b h = conj_at (record_tests rs) 3 (lt-leb (length (only block rs)) 512 h)
  over_kind value a b h = conj_at (record_tests rs) 4 (lt-leb (length (only value rs)) 1024 h)
  over_kind vgroup a b h = conj_at (record_tests rs) 5 (lt-leb (length (only vgroup rs)) 256 h)
  over_kind operand a b h = conj_at (record_tests rs) 6 (lt-leb (length (only operand rs)) 1024 h)
  over_kind hint a b h = conj_at (record_tests rs) 7 (lt-leb (length (only hint rs)) 1024 h)
  over_kind seg a b h = conj_at (record_tests rs) 8 (lt-leb (length (only seg rs)) 1024 h)
  over_kind use' a b h = conj_at (record_tests rs) 9 (lt-leb (length (only use' rs)) 4096 h)
  over_kind end a b h = absurd (omega (arith, b))

  crowds : (fill (blank n) rs).over ≡ true → records_fit rs ≡ false
  crowds v =
      let c : Crowded (replicate n 0) rs = fill_over rs (blank n) blank_long refl v in
      over_kind c.word c.low c.high (omega (arith, c.more, zero_count n e (word_number c.word)))

  -- THE LAW of the limits
  pub fill_fits : (t : Bool) → records_fit rs ≡ t → (fill (blank n) rs).over ≡ not t
  fill_fits t p = go (fill (blank n) rs).over refl
    where
      go : (v : Bool) → (fill (blank n) rs).over ≡ v → v ≡ not t
      go false q = ap not (sym (fits q) ∙ p)
      go true q = ap not (sym (crowds q) ∙ p)

-- the written fields are no matter of the limits
pub bare_fits : (rs : List Record) → records_fit (shrunk rs) ≡ records_fit rs
unfolding records_fit
bare_fits rs =
    rw (only_long bank rs, only_long class rs, only_long reg rs, only_long block rs, only_long value rs)
    (rw (only_long vgroup rs, only_long operand rs, only_long hint rs, only_long seg rs, only_long use' rs))

-- ---- the number and the table by what the machine says

abbrev the : Option Filled → Filled
the none = blank 0
the (some f) = f

abbrev pub table_said : ℕ → Answer → List ℕ → List ℕ
table_said n (Ok tt) o = o
table_said n (Err Malformed) o = replicate n 0
table_said n (Err TooMany) o = replicate n 0

module _ (n : ℕ) (e : n ≡ table_words) where
  by_number : (a : Answer) (o : List ℕ) (m : Option (List Record))
      → outcome a o ≡ (m >>= λ rs. some (fill (blank n) rs)) → records_number m ≡ number_said a
  by_number (Err Malformed) o none q = refl
  by_number (Err Malformed) o (some rs) q = absurd (none_some q)
  by_number (Ok tt) o none q = absurd (none_some (sym q))
  by_number (Err TooMany) o none q = absurd (none_some (sym q))
  by_number (Ok tt) o (some rs) q = ap (λ (t : Bool). cond t 0 2)
      (fits n e rs (sym (ap (λ (f : Option Filled). (the f).over) q)))
  by_number (Err TooMany) o (some rs) q = ap (λ (t : Bool). cond t 0 2)
      (crowds n e rs (sym (ap (λ (f : Option Filled). (the f).over) q)))

  by_table : (a : Answer) (o : List ℕ) (m : Option (List Record)) → outcome a o ≡ (m >>= λ rs. some (fill (blank n) rs))
      → records_table n m ≡ table_said n a o
  by_table (Err Malformed) o none q = refl
  by_table (Err Malformed) o (some rs) q = absurd (none_some q)
  by_table (Ok tt) o none q = absurd (none_some (sym q))
  by_table (Err TooMany) o none q = absurd (none_some (sym q))
  by_table (Ok tt) o (some rs) q =
      ap (λ (t : Bool). cond t (fill (blank n) rs).out (replicate n 0))
      (fits n e rs (sym (ap (λ (f : Option Filled). (the f).over) q)))
      ∙ sym (ap (λ (f : Option Filled). (the f).out) q)
  by_table (Err TooMany) o (some rs) q = ap (λ (t : Bool). cond t (fill (blank n) rs).out (replicate n 0))
      (crowds n e rs (sym (ap (λ (f : Option Filled). (the f).over) q)))

  -- the job of a sheet that was read
  by_job : (sheet o : List ℕ) (m : Option (List Record)) → bare_in sheet ≡ m → On Sound m
      → some (filled false o) ≡ (m >>= λ rs. some (fill (blank n) rs)) → JobRead sheet o
  by_job sheet o none i s q = absurd (none_some (sym q))
  by_job sheet o (some rs) i s q = record {
    job = job_of_records rs;
    is = sym (bare_in_job sheet) ∙ ap (λ (k : Option (List Record)). k >>= λ xs. some (job_of_records xs)) i;
    alike =
        subst (λ (T : List ℕ). Alike (raw_job T (fixed_layout T)) (job_of_records rs))
        (sym (ap (λ (f : Option Filled). (the f).out) q))
        (table_job n e rs s (sym (ap (λ (f : Option Filled). (the f).over) q)));
  }

  -- its written fields
  by_written : (sheet o : List ℕ) → Bytes sheet
      → some (filled false o) ≡ (bare_in sheet >>= λ rs. some (fill (blank n) rs))
      → (run_form (open_form n 1536) sheet).keeping.words ≡ written_table sheet
  unfolding bare_in written_table limit_of limits
  by_written sheet o b q = go (is_second sheet) refl (records_in sheet) refl q
    where
      go : (t : Bool) → is_second sheet ≡ t → (m : Option (List Record)) → records_in sheet ≡ m
          → some (filled false o) ≡ (bare_of t m >>= λ rs. some (fill (blank n) rs))
          → (run_form (open_form n 1536) sheet).keeping.words ≡ records_written t m
      go false i m j q = ap (λ (k : Keeping). k.words) (none_written n 1536 sheet b i)
      go true i none j q = absurd (none_some (sym q))
      go true i (some rs) j q =
          let v : (fill (blank n) (shrunk rs)).over ≡ false = sym (ap (λ (f : Option Filled). (the f).over) q) in
          all_written n sheet b i rs (sym (second_records_lem sheet i) ∙ j)
          (omega (arith, few n e (shrunk rs) v block (omega arith) (omega arith), only_long block rs))
          (omega (arith, few n e (shrunk rs) v seg (omega arith) (omega arith), only_long seg rs))
          ∙ ap (λ (u : Bool). cond u (kept_words (written_firsts rs) (written_sets rs)) (replicate 1536 0))
          (sym (sym (bare_fits rs) ∙ fits n e (shrunk rs) v))

-- a refusal leaves none
none_left : (sheet : List ℕ) → 1 ≤ sheet_number sheet → written_table sheet ≡ replicate 1536 0
unfolding sheet_number bare_in written_table
none_left sheet h = go (is_second sheet) (records_in sheet) h
  where
    last : (u : Bool) (l : List ℕ) → 1 ≤ cond u 0 2 → cond u l (replicate 1536 0) ≡ replicate 1536 0
    last true l h = absurd (omega (arith, h))
    last false l h = refl

    go : (t : Bool) (m : Option (List Record)) → 1 ≤ records_number (bare_of t m) → records_written t m ≡ replicate 1536 0
    go false m h = refl
    go true none h = refl
    go true (some rs) h =
        last (records_fit rs) (kept_words (written_firsts rs) (written_sets rs))
        (subst (λ (u : Bool). 1 ≤ cond u 0 2) (bare_fits rs) h)

-- ---- the function's ways

abbrev pub said_of : Reading → Answer
said_of cur = finish_of (front_at cur.front) cur.next

-- the machine went over the whole sheet, and left the state cur, the table x and the written fields y
pub record Went (n : ℕ) (sheet : List ℕ) (cur : Reading) (x y : List ℕ) : Type 0 where
  pub bytes : Bytes sheet
  pub is : formed cur (words_of x) (words_of y) ≡ run_form (open_form n 1536) sheet
  pub long : word_count x ≡ n
  pub all : n ≡ table_words
  pub room : word_count y ≡ 1536

pub went : (k l : ℕ) (sheet : List ℕ) (first cur : Reading) (t u x y : List ℕ) → ((i : ℕ) → get_or sheet i 0 < 256)
    → formed first t u ≡ open_form (k / 4) (l / 4)
    → formed cur (words_of x) (words_of y) ≡ run_form (formed first t u) sheet
    → length x ≡ k → length y ≡ l → k / 4 ≡ table_words → l / 4 ≡ 1536 → Went (k / 4) sheet cur x y
went k l sheet first cur t u x y b o g p q e f = record {
  bytes = all_bytes sheet b;
  is = g ∙ ap (λ (s : Formed). run_form s sheet) o ∙ ap (λ (m : ℕ). run_form (open_form (k / 4) m) sheet) f;
  long = ap (λ (m : ℕ). m / 4) p;
  all = e;
  room = ap (λ (m : ℕ). m / 4) q ∙ f;
}

module _ (n : ℕ) (sheet : List ℕ) (cur : Reading) (x y : List ℕ) (w : Went n sheet cur x y) where
  pub agreed : outcome (said_of cur) (words_of x) ≡ (bare_in sheet >>= λ rs. some (fill (blank n) rs))
  agreed =
      ap (λ (s : Formed). outcome (finish_of s.at.front s.at.fed.next) s.at.fed.out) w.is
      ∙ forms_bare n 1536 sheet w.bytes

  of_number : (a : Answer) → said_of cur ≡ a → number_said a ≡ sheet_number sheet
  unfolding sheet_number
  of_number a i = ap number_said (sym i) ∙ sym (by_number n w.all (said_of cur) (words_of x) (bare_in sheet) agreed)

  of_table : (a : Answer) → said_of cur ≡ a → table_said n a (words_of x) ≡ sheet_table n sheet
  unfolding sheet_table
  of_table a i =
      ap (λ (c : Answer). table_said n c (words_of x)) (sym i)
      ∙ sym (by_table n w.all (said_of cur) (words_of x) (bare_in sheet) agreed)

  -- a job sheet
  pub read_sheet : (a : Answer) → a ≡ said_of cur → a ≡ Ok tt → ReadAs sheet 0 x y
  read_sheet a i j = record {
    number = of_number (Ok tt) is;
    long = w.long ∙ w.all;
    table = of_table (Ok tt) is ∙ ap (λ (k : ℕ). sheet_table k sheet) (sym w.long);
    written =
        ap (λ (s : Formed). s.keeping.words) w.is ∙ by_written n w.all sheet (words_of x) w.bytes read;
    zeros = λ h. absurd (omega (arith, h));
    job = λ z. by_job n w.all sheet (words_of x) (bare_in sheet) refl (bare_in_sound sheet) read;
    shaped = λ z.
        read_shaped n w.all (said_of cur) (words_of x) (bare_in sheet) (bare_in_sound sheet)
        (bare_in_chosen sheet) agreed is x
        (w.long ∙ w.all) refl;
  }
    where
      is : said_of cur ≡ Ok tt
      is = sym i ∙ j

      read : some (filled false (words_of x)) ≡ (bare_in sheet >>= λ rs. some (fill (blank n) rs))
      read = ap (λ (c : Answer). outcome c (words_of x)) (sym is) ∙ agreed

  -- a refusal: the tables are cleared to v and z
  refuse_sheet : (a : Answer) (r : ℕ) (v z : List ℕ) → said_of cur ≡ a → 1 ≤ r → r ≡ number_said a
      → table_said n a (words_of x) ≡ replicate n 0 → Cleared x v → Cleared y z → ReadAs sheet r v z
  refuse_sheet a r v z i h d t c u = record {
    number = d ∙ of_number a i;
    long = m ∙ w.all;
    table =
        c.words ∙ ap (λ (k : ℕ). replicate k 0) w.long ∙ sym t ∙ of_table a i
        ∙ ap (λ (k : ℕ). sheet_table k sheet) (sym m);
    written =
        u.words ∙ ap (λ (k : ℕ). replicate k 0) w.room
        ∙ sym (none_left sheet (subst (λ (k : ℕ). 1 ≤ k) (d ∙ of_number a i) h));
    zeros = λ k. (all_zero x v c, all_zero y z u);
    job = λ k. absurd (omega (arith, h, k));
    shaped = λ k. absurd (omega (arith, h, k));
  }
    where
      all_zero : (p q : List ℕ) → Cleared p q → q ≡ replicate (length q) 0
      all_zero p q k = k.bytes
          ∙ ap (λ (l : ℕ). replicate l 0) (sym (ap length k.bytes ∙ length-replicate (length p) 0))

      m : word_count v ≡ n
      m = ap (λ (k : ℕ). k / 4) (ap length c.bytes ∙ length-replicate (length x) 0) ∙ w.long

  pub refused_sheet : (a : Answer) (e : SheetError) (v z : List ℕ) → a ≡ said_of cur → a ≡ Err e → Cleared x v
      → Cleared y z → ReadAs sheet (number_said (Err e)) v z
  refused_sheet a Malformed v z i j c u = refuse_sheet (Err Malformed) 1 v z (sym i ∙ j) (omega arith) refl refl c u
  refused_sheet a TooMany v z i j c u = refuse_sheet (Err TooMany) 2 v z (sym i ∙ j) (omega arith) refl refl c u
