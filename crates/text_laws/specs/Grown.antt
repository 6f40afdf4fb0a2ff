-- The implied fields written into records and left out of them again: the records, the job and the words that are
-- written. Assumes nothing.
use Rattle.std.specs.Prelude.{◌≡◌, refl, ℕ, zero, suc, ◌+◌, ◌≤◌, Bool, true, false, cond, not, ◌&&◌, List, [], ◌∷◌}
use Rattle.std.specs.Prelude.{◌++◌, map, length, take, drop, get_or, eqb}
use Rattle.std.proofs.Common.{sym, ap, subst, ◌∙◌, arith}
use Rattle.std.proofs.Math.Option.{Option, none, some}
use Rattle.definition.specs.declared.Refusal.{Refusal}
use Rattle.definition.specs.declared.Value.{Value}
use Rattle.definition.specs.Types.{Segment, Job, val}
use Rattle.definition.specs.RegInfo.{no_value, value_at, set_of}
use Rattle.definition.specs.Place.{total}
use Rattle.definition.specs.Entry.{insts_of, insts, entry}
use Rattle.definition.specs.Text.{◌>>=◌, same}
use Rattle.definition.specs.JobSheet.{Word, opt, block, value, seg}
use Rattle.definition.specs.JobSheet.{word_number, Form, number, bits, use_flags, read_field, read_fields, read_record}
use Rattle.definition.specs.JobSheet.{Record, ordered, at, only, block_data_of, value_data_of, segment_of}
use Rattle.definition.specs.JobSheet.{onto_segments}
use Rattle.definition.specs.JobSheet.{segments_of, job_of_records}
use Rattle.definition.specs.SheetForms.{read_second, written_firsts, written_sets, firsts_from, implied_firsts}
use Rattle.definition.specs.SheetForms.{implied_sets}
use Rattle.definition.specs.SheetForms.{as_written, tenth_test, tests_of}
use Rattle.definition.specs.Conversion.{field_text, field_texts, first_texts, second_texts, implied_field, longer}
use Rattle.definition.specs.Conversion.{insts_behind, rec, grown, bare_fields, shrunk, moved_records}
use Rattle.definition.proofs.Entries.{and_both, accepted_insts}
use Rattle.definition.proofs.Same.{same_eq, same_refl}
use Rattle.lines.specs.Round.{round_number}
use Rattle.sheet_laws.specs.Words.{none_some}
use Rattle.sheet_laws.specs.Values.{Small, AllSmall, record_small}
use Rattle.sheet_laws.specs.Sheets.{On}
use Rattle.sheet_laws.specs.Bare.{fields_long, take_before, at_last, shrunk_ordered}
use Rattle.sheet_laws.specs.Jobs.{bare_job}
use Rattle.text_laws.specs.Texts.{cons_some, Reads₁, Reads}

-- ---- how many fields

long : (ms : List Form) (fs : List (List ℕ)) (ns : List ℕ) → read_fields ms fs ≡ some ns → length ns ≡ length ms
long ms fs ns e = subst (On (λ (ks : List ℕ). length ks ≡ length ms)) e (fields_long ms fs)

two : (ns : List ℕ) → Reads₁ false (rec block ns) → length ns ≡ 2
unfolding read_record
two ns e = long (number ∷ bits ∷ []) (first_texts block ns) ns e

four : (ns : List ℕ) → Reads₁ false (rec seg ns) → length ns ≡ 4
unfolding read_record
four ns e = long (number ∷ number ∷ number ∷ use_flags ∷ []) (first_texts seg ns) ns e

three : (ns : List ℕ) → Reads₁ true (rec block ns) → length ns ≡ 3
unfolding read_second
three ns e = long (number ∷ bits ∷ number ∷ []) (second_texts block ns) ns e

five : (ns : List ℕ) → Reads₁ true (rec seg ns) → length ns ≡ 5
unfolding read_second
five ns e = long (number ∷ number ∷ number ∷ use_flags ∷ number ∷ []) (second_texts seg ns) ns e

-- ---- one field more, one field less

head_same : {x y : ℕ} {xs ys : List ℕ} → x ∷ xs ≡ y ∷ ys → x ≡ y
head_same e = ap (λ (l : List ℕ). get_or l 0 0) e

tail_same : {x y : ℕ} {xs ys : List ℕ} → x ∷ xs ≡ y ∷ ys → xs ≡ ys
tail_same e = ap (λ (l : List ℕ). drop 1 l) e

-- a number that reads and numbers that read
reads_cons : (m : Form) (ms : List Form) (x : ℕ) (xs : List ℕ)
    → read_fields (m ∷ ms) (field_texts (m ∷ ms) (x ∷ xs)) ≡ some (x ∷ xs)
    → (read_field m (field_text m x) ≡ some x) × (read_fields ms (field_texts ms xs) ≡ some xs)
unfolding read_fields field_texts
reads_cons m ms x xs e =
    let p = cons_some (read_field m (field_text m x)) (read_fields ms (field_texts ms xs)) (x ∷ xs) e in
    (p.2 ∙ ap some (head_same p.4), p.3 ∙ ap some (tail_same p.4))

cons_reads : (m : Form) (ms : List Form) (x : ℕ) (xs : List ℕ) → read_field m (field_text m x) ≡ some x
    → read_fields ms (field_texts ms xs) ≡ some xs
    → read_fields (m ∷ ms) (field_texts (m ∷ ms) (x ∷ xs)) ≡ some (x ∷ xs)
unfolding read_fields field_texts
cons_reads m ms x xs e f =
    ap (λ (o : Option ℕ). o >>= λ k. read_fields ms (field_texts ms xs) >>= λ ks. some (k ∷ ks)) e
    ∙ ap (λ (o : Option (List ℕ)). o >>= λ ks. some (x ∷ ks)) f

more_fields : (ms : List Form) (ns : List ℕ) (n : ℕ) → read_fields ms (field_texts ms ns) ≡ some ns → n ≤ 4294967295
    → read_fields (ms ++ (number ∷ [])) (field_texts (ms ++ (number ∷ [])) (ns ++ (n ∷ []))) ≡ some (ns ++ (n ∷ []))
more_fields [] [] n e l = cons_reads number [] n [] (round_number 4294967295 n l) e
more_fields [] (x ∷ xs) n e l =
    absurd (let k : suc (length xs) ≡ 0 = long [] (field_texts [] (x ∷ xs)) (x ∷ xs) e in omega arith)
more_fields (m ∷ ms) [] n e l =
    absurd (let k : 0 ≡ suc (length ms) = long (m ∷ ms) (field_texts (m ∷ ms) []) [] e in omega arith)
more_fields (m ∷ ms) (x ∷ xs) n e l =
    let p = reads_cons m ms x xs e in
    cons_reads m (ms ++ (number ∷ [])) x (xs ++ (n ∷ [])) p.0 (more_fields ms xs n p.1 l)

fewer_fields : (ms : List Form) (m : Form) (ns : List ℕ)
    → read_fields (ms ++ (m ∷ [])) (field_texts (ms ++ (m ∷ [])) ns) ≡ some ns
    → read_fields ms (field_texts ms (take (length ms) ns)) ≡ some (take (length ms) ns)
unfolding read_fields field_texts
fewer_fields [] m ns e = refl
fewer_fields (k ∷ ms) m [] e = absurd (none_some e)
fewer_fields (k ∷ ms) m (x ∷ xs) e =
    let p = reads_cons k (ms ++ (m ∷ [])) x xs e in
    cons_reads k ms x (take (length ms) xs) p.0 (fewer_fields ms m xs p.1)

-- ---- the records read in the other form

-- what is written in is a 32-bit word
abbrev pub Fits : ℕ → Job → List Record → Type 0
Fits n job [] = Unit {0}
Fits n job (r ∷ rs) =
    (implied_field r.word n job r.fields ≤ 4294967295) × Fits (insts_behind r.word n r.fields) job rs

longer_reads : (w : Word) (k : ℕ) (ns : List ℕ) → k ≤ 4294967295 → Reads₁ false (rec w ns)
    → Reads₁ true (rec w (longer w k ns))
unfolding read_record first_texts read_second second_texts
longer_reads block k ns l e = more_fields (number ∷ bits ∷ []) ns k e l
longer_reads seg k ns l e = more_fields (number ∷ number ∷ number ∷ use_flags ∷ []) ns k e l
longer_reads w k ns l e = e

grown_reads : (n : ℕ) (job : Job) (rs : List Record) → Fits n job rs → Reads false rs → Reads true (grown n job rs)
unfolding grown
grown_reads n job [] f h = tt
grown_reads n job (r ∷ rs) f h = (
  longer_reads r.word (implied_field r.word n job r.fields) r.fields f.0 h.0,
  grown_reads (insts_behind r.word n r.fields) job rs f.1 h.1,
)

bare_reads : (w : Word) (ns : List ℕ) → Reads₁ true (rec w ns) → Reads₁ false (rec w (bare_fields w ns))
unfolding read_record first_texts read_second second_texts
bare_reads block ns e = fewer_fields (number ∷ bits ∷ []) number ns e
bare_reads seg ns e = fewer_fields (number ∷ number ∷ number ∷ use_flags ∷ []) number ns e
bare_reads w ns e = e

shrunk_reads : (rs : List Record) → Reads true rs → Reads false (shrunk rs)
unfolding shrunk
shrunk_reads [] h = tt
shrunk_reads (r ∷ rs) h = (bare_reads r.word r.fields h.0, shrunk_reads rs h.1)

-- ---- the fields left out again

bare_longer : (w : Word) (k : ℕ) (ns : List ℕ) → Reads₁ false (rec w ns) → bare_fields w (longer w k ns) ≡ ns
bare_longer block k ns e = take_before ns k 2 (two ns e)
bare_longer seg k ns e = take_before ns k 4 (four ns e)
bare_longer w k ns e = refl

pub shrunk_grown : (n : ℕ) (job : Job) (rs : List Record) → Reads false rs → shrunk (grown n job rs) ≡ rs
unfolding shrunk grown
shrunk_grown n job [] h = refl
shrunk_grown n job (r ∷ rs) h =
    let m : ℕ = insts_behind r.word n r.fields in
    ap (λ (ns : List ℕ). rec r.word ns ∷ shrunk (grown m job rs))
    (bare_longer r.word (implied_field r.word n job r.fields) r.fields h.0)
    ∙ ap (λ (l : List Record). r ∷ l) (shrunk_grown m job rs h.1)

pub grown_ordered : (n : ℕ) (job : Job) (rs : List Record) (ws : List Word) → Reads false rs
    → ordered ws (grown n job rs) ≡ ordered ws rs
grown_ordered n job rs ws h = sym (shrunk_ordered (grown n job rs) ws) ∙ ap (ordered ws) (shrunk_grown n job rs h)

pub grown_job : (n : ℕ) (job : Job) (rs : List Record) → Reads false rs
    → job_of_records (grown n job rs) ≡ job_of_records rs
grown_job n job rs h = sym (bare_job (grown n job rs)) ∙ ap job_of_records (shrunk_grown n job rs h)

-- ---- the implied fields by the records

-- the set of each seg record
abbrev sets_of : Job → List (List ℕ) → List ℕ
sets_of job nss = map (λ ns. (set_of job (val (at ns 0))).0) nss

-- the segments of a job have the values of the seg records, in order
segment_values : (f : Value → ℕ) (rs : List Record)
    → map (λ (s : Segment). f s.value) (segments_of rs).made ≡ map (λ ns. f (val (at ns 0))) (only seg rs)
unfolding segments_of segment_of only
segment_values f [] = refl
segment_values f (r ∷ rs) = go r.word r.fields (segment_values f rs)
  where
    go : (w : Word) (ns : List ℕ)
        → map (λ (s : Segment). f s.value) (segments_of rs).made ≡ map (λ ks. f (val (at ks 0))) (only seg rs)
        → map (λ (s : Segment). f s.value) (onto_segments w ns (segments_of rs)).made
        ≡ map (λ ks. f (val (at ks 0))) (cond (eqb (word_number w) 9) (ns ∷ only seg rs) (only seg rs))
    go seg ns ih = ap (λ (l : List ℕ). f (val (at ns 0)) ∷ l) ih
    go w ns ih = ih

firsts_are : (rs : List Record) → implied_firsts (job_of_records rs) ≡ firsts_from 0 (map block_data_of (only block rs))
unfolding implied_firsts job_of_records
firsts_are rs = refl

sets_are : (rs : List Record) → implied_sets (job_of_records rs) ≡ sets_of (job_of_records rs) (only seg rs)
unfolding implied_sets job_of_records
sets_are rs = segment_values (λ v. (set_of (job_of_records rs) v).0) rs

-- ---- the written fields are the implied ones

firsts_grown : (n : ℕ) (job : Job) (rs : List Record) → Reads false rs
    → written_firsts (grown n job rs) ≡ firsts_from n (map block_data_of (only block rs))
unfolding written_firsts only grown firsts_from block_data_of
firsts_grown n job [] h = refl
firsts_grown n job (r ∷ rs) h =
    go r.word r.fields h.0 (firsts_grown (insts_behind r.word n r.fields) job rs h.1)
  where
    rest : ℕ → List (List ℕ)
    rest m = only block (grown m job rs)

    go : (w : Word) (ns : List ℕ) → Reads₁ false (rec w ns)
        → map (λ ks. at ks 2) (rest (insts_behind w n ns))
        ≡ firsts_from (insts_behind w n ns) (map block_data_of (only block rs))
        → map (λ ks. at ks 2)
        (cond (eqb (word_number w) 4) (longer w (implied_field w n job ns) ns ∷ rest (insts_behind w n ns))
        (rest (insts_behind w n ns)))
        ≡ firsts_from n (map block_data_of (cond (eqb (word_number w) 4) (ns ∷ only block rs) (only block rs)))
    go block ns e ih =
        ap (λ (k : ℕ). k ∷ map (λ ks. at ks 2) (rest (n + at ns 0))) (at_last ns n 2 (two ns e))
        ∙ ap (λ (l : List ℕ). n ∷ l) ih
    go w ns e ih = ih

sets_grown : (n : ℕ) (job : Job) (rs : List Record) → Reads false rs
    → written_sets (grown n job rs) ≡ sets_of job (only seg rs)
unfolding written_sets only grown
sets_grown n job [] h = refl
sets_grown n job (r ∷ rs) h =
    go r.word r.fields h.0 (sets_grown (insts_behind r.word n r.fields) job rs h.1)
  where
    rest : ℕ → List (List ℕ)
    rest m = only seg (grown m job rs)

    go : (w : Word) (ns : List ℕ) → Reads₁ false (rec w ns)
        → map (λ ks. at ks 4) (rest (insts_behind w n ns)) ≡ sets_of job (only seg rs)
        → map (λ ks. at ks 4)
        (cond (eqb (word_number w) 9) (longer w (implied_field w n job ns) ns ∷ rest (insts_behind w n ns))
        (rest (insts_behind w n ns)))
        ≡ sets_of job (cond (eqb (word_number w) 9) (ns ∷ only seg rs) (only seg rs))
    go seg ns e ih =
        let k : ℕ = (set_of job (val (at ns 0))).0 in
        ap (λ (j : ℕ). j ∷ map (λ ks. at ks 4) (rest n)) (at_last ns k 4 (four ns e)) ∙ ap (λ (l : List ℕ). k ∷ l) ih
    go w ns e ih = ih

same_equal : (f g : List ℕ) → f ≡ g → same f g ≡ true
same_equal f g e = subst (λ (k : List ℕ). same f k ≡ true) e (same_refl f)

pub written_grown : (rs : List Record) → Reads false rs → as_written (grown 0 (job_of_records rs) rs) ≡ true
unfolding as_written
written_grown rs h =
    let job : Job = job_of_records rs in
    let ks : List Record = grown 0 job rs in
    let a : same (written_firsts ks) (implied_firsts job) ≡ true =
    same_equal (written_firsts ks) (implied_firsts job) (firsts_grown 0 job rs h ∙ sym (firsts_are rs)) in
    let b : same (written_sets ks) (implied_sets job) ≡ true =
    same_equal (written_sets ks) (implied_sets job) (sets_grown 0 job rs h ∙ sym (sets_are rs)) in
    ap (λ (j : Job). same (written_firsts ks) (implied_firsts j) && same (written_sets ks) (implied_sets j))
    (grown_job 0 job rs h)
    ∙ ap (λ (t : Bool). t && same (written_sets ks) (implied_sets job)) a
    ∙ b

-- ---- the fields written in again

whole₃ : (ns : List ℕ) (k : ℕ) → length ns ≡ 3 → at ns 2 ≡ k → take 2 ns ++ (k ∷ []) ≡ ns
whole₃ (a ∷ b ∷ c ∷ []) k e f = ap (λ (x : ℕ). a ∷ b ∷ x ∷ []) (sym f)
whole₃ [] k e f = absurd (omega arith)
whole₃ (a ∷ []) k e f = absurd (omega arith)
whole₃ (a ∷ b ∷ []) k e f = absurd (omega arith)
whole₃ (a ∷ b ∷ c ∷ d ∷ ns) k e f = absurd (omega arith)

whole₅ : (ns : List ℕ) (k : ℕ) → length ns ≡ 5 → at ns 4 ≡ k → take 4 ns ++ (k ∷ []) ≡ ns
whole₅ (a ∷ b ∷ c ∷ d ∷ x ∷ []) k e f = ap (λ (y : ℕ). a ∷ b ∷ c ∷ d ∷ y ∷ []) (sym f)
whole₅ [] k e f = absurd (omega arith)
whole₅ (a ∷ []) k e f = absurd (omega arith)
whole₅ (a ∷ b ∷ []) k e f = absurd (omega arith)
whole₅ (a ∷ b ∷ c ∷ []) k e f = absurd (omega arith)
whole₅ (a ∷ b ∷ c ∷ d ∷ []) k e f = absurd (omega arith)
whole₅ (a ∷ b ∷ c ∷ d ∷ x ∷ y ∷ ns) k e f = absurd (omega arith)

first_kept : (m : ℕ) (ns : List ℕ) → at (take (suc m) ns) 0 ≡ at ns 0
first_kept m [] = refl
first_kept m (n ∷ ns) = refl

pub grown_shrunk : (n : ℕ) (job : Job) (rs : List Record) → Reads true rs
    → written_firsts rs ≡ firsts_from n (map block_data_of (only block rs))
    → written_sets rs ≡ sets_of job (only seg rs)
    → grown n job (shrunk rs) ≡ rs
unfolding grown shrunk only firsts_from written_firsts written_sets block_data_of
grown_shrunk n job [] h e f = refl
grown_shrunk n job (r ∷ rs) h e f = go r.word r.fields h.0 (λ m. grown_shrunk m job rs h.1) e f
  where
    go : (w : Word) (ns : List ℕ) → Reads₁ true (rec w ns)
        → ((m : ℕ) → map (λ ks. at ks 2) (only block rs) ≡ firsts_from m (map block_data_of (only block rs))
        → map (λ ks. at ks 4) (only seg rs) ≡ sets_of job (only seg rs) → grown m job (shrunk rs) ≡ rs)
        → map (λ ks. at ks 2) (cond (eqb (word_number w) 4) (ns ∷ only block rs) (only block rs))
        ≡ firsts_from n (map block_data_of (cond (eqb (word_number w) 4) (ns ∷ only block rs) (only block rs)))
        → map (λ ks. at ks 4) (cond (eqb (word_number w) 9) (ns ∷ only seg rs) (only seg rs))
        ≡ sets_of job (cond (eqb (word_number w) 9) (ns ∷ only seg rs) (only seg rs))
        → rec w (longer w (implied_field w n job (bare_fields w ns)) (bare_fields w ns))
        ∷ grown (insts_behind w n (bare_fields w ns)) job (shrunk rs) ≡ rec w ns ∷ rs
    go block ns h ih e f =
        ap (λ (l : List ℕ). rec block l ∷ grown (n + at (take 2 ns) 0) job (shrunk rs))
        (whole₃ ns n (three ns h) (head_same e))
        ∙ ap (λ (k : ℕ). rec block ns ∷ grown (n + k) job (shrunk rs)) (first_kept 1 ns)
        ∙ ap (λ (l : List Record). rec block ns ∷ l) (ih (n + at ns 0) (tail_same e) f)
    go seg ns h ih e f =
        ap (λ (l : List ℕ). rec seg l ∷ grown n job (shrunk rs))
        (whole₅ ns (set_of job (val (at (take 4 ns) 0))).0 (five ns h)
        (head_same f ∙ ap (λ (k : ℕ). (set_of job (val k)).0) (sym (first_kept 3 ns))))
        ∙ ap (λ (l : List Record). rec seg ns ∷ l) (ih n e (tail_same f))
    go w ns h ih e f = ap (λ (l : List Record). rec w ns ∷ l) (ih n e f)

-- ---- what is written in is a word

small_at : (ns : List ℕ) → Small ns → (i : ℕ) → at ns i ≤ 4294967295
small_at [] h i = omega arith
small_at (n ∷ ns) h zero = h.0
small_at (n ∷ ns) h (suc i) = small_at ns h.1 i

value_small : (ns : List ℕ) → Reads₁ false (rec value ns) → at ns 1 ≤ 4294967295
value_small ns e = small_at ns (subst AllSmall e (record_small value (first_texts value ns))) 1

leaders_small : (rs : List Record) → Reads false rs → (i : ℕ)
    → (get_or (map value_data_of (only value rs)) i no_value).leader.0 ≤ 4294967295
unfolding only value_data_of
leaders_small [] h i = omega arith
leaders_small (r ∷ rs) h i = go r.word r.fields h.0 i (leaders_small rs h.1)
  where
    go : (w : Word) (ns : List ℕ) → Reads₁ false (rec w ns) → (j : ℕ)
        → ((k : ℕ) → (get_or (map value_data_of (only value rs)) k no_value).leader.0 ≤ 4294967295)
        → (get_or (map value_data_of (cond (eqb (word_number w) 5) (ns ∷ only value rs) (only value rs))) j
        no_value).leader.0 ≤ 4294967295
    go value ns e zero ih = value_small ns e
    go value ns e (suc j) ih = ih j
    go w ns e j ih = ih j

fits_from : (job : Job) (n : ℕ) (rs : List Record) → ((v : Value) → (set_of job v).0 ≤ 4294967295)
    → n + total (λ b. b.insts) (map block_data_of (only block rs)) ≤ 4294967295 → Fits n job rs
unfolding only block_data_of total
fits_from job n [] s l = tt
fits_from job n (r ∷ rs) s l = go r.word r.fields l (λ m. fits_from job m rs s)
  where
    go : (w : Word) (ns : List ℕ)
        → n + total (λ b. b.insts)
        (map block_data_of (cond (eqb (word_number w) 4) (ns ∷ only block rs) (only block rs))) ≤ 4294967295
        → ((m : ℕ) → m + total (λ b. b.insts) (map block_data_of (only block rs)) ≤ 4294967295 → Fits m job rs)
        → (implied_field w n job ns ≤ 4294967295) × Fits (insts_behind w n ns) job rs
    go block ns h ih = (omega arith, ih (n + at ns 0) (omega arith))
    go seg ns h ih = (s (val (at ns 0)), ih n h)
    go w ns h ih = (omega arith, ih n h)

-- for every job that passes: its leaders are 32-bit numbers, its instructions few
pub fits : (rs : List Record) → Reads false rs → entry (job_of_records rs) ≡ none → Fits 0 (job_of_records rs) rs
unfolding set_of value_at job_of_records insts insts_of
fits rs h p =
    let l : insts (job_of_records rs) ≤ 4096 = accepted_insts (job_of_records rs) p in
    fits_from (job_of_records rs) 0 rs (λ v. leaders_small rs h v.0) (omega (arith, l))

-- ---- a sheet that passes, in the other form

-- the records of the form asked for
pub record Other (asked : Bool) (rs : List Record) : Type 0 where
  pub reads : Reads asked (moved_records asked rs)
  pub order : ordered (opt ∷ []) (moved_records asked rs) ≡ true
  pub job : job_of_records (moved_records asked rs) ≡ job_of_records rs
  pub tests : tests_of asked (moved_records asked rs) ≡ none
  pub back : moved_records (not asked) (moved_records asked rs) ≡ rs

tests_passed : (o : Option Refusal) (w : Bool) → tenth_test o w ≡ none → (o ≡ none) × (w ≡ true)
tests_passed (some r) w e = absurd (none_some (sym e))
tests_passed none true e = (refl, refl)
tests_passed none false e = absurd (none_some (sym e))

pub other : (asked : Bool) (rs : List Record) → Reads (not asked) rs → ordered (opt ∷ []) rs ≡ true
    → tests_of (not asked) rs ≡ none → Other asked rs
unfolding moved_records as_written
other true rs h o t =
    let job : Job = job_of_records rs in
    let p : entry job ≡ none = (tests_passed (entry job) true t).0 in
    record {
      reads = grown_reads 0 job rs (fits rs h p) h;
      order = grown_ordered 0 job rs (opt ∷ []) h ∙ o;
      job = grown_job 0 job rs h;
      tests =
          ap (λ (j : Job). tenth_test (entry j) (as_written (grown 0 job rs))) (grown_job 0 job rs h)
          ∙ ap (λ (q : Option Refusal). tenth_test q (as_written (grown 0 job rs))) p
          ∙ ap (λ (w : Bool). tenth_test none w) (written_grown rs h);
      back = shrunk_grown 0 job rs h;
    }
other false rs h o t =
    let job : Job = job_of_records rs in
    let p = tests_passed (entry job) (as_written rs) t in
    let w = and_both (same (written_firsts rs) (implied_firsts job)) (same (written_sets rs) (implied_sets job)) p.1 in
    record {
      reads = shrunk_reads rs h;
      order = shrunk_ordered rs (opt ∷ []) ∙ o;
      job = bare_job rs;
      tests = ap (λ (j : Job). tenth_test (entry j) true) (bare_job rs)
          ∙ ap (λ (q : Option Refusal). tenth_test q true) p.0;
      back =
          ap (λ (j : Job). grown 0 j (shrunk rs)) (bare_job rs)
          ∙ grown_shrunk 0 job rs h (same_eq _ _ w.0 ∙ firsts_are rs) (same_eq _ _ w.1 ∙ sets_are rs);
    }
