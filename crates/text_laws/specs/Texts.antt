-- A job sheet is the text of its records, in either form: what was read, written again, is the same bytes.
-- Assumes nothing.
use Rattle.std.specs.Prelude.{◌≡◌, Bool, true, false, cond, ℕ, zero, suc, length, take, replicate, eqb}
use Rattle.std.proofs.Math.Path.{refl, ap, subst}
use Rattle.std.proofs.Common.{sym, ◌∙◌, take-append-drop, eqb-true}
use mathlib.Core.List.{List, [], ◌∷◌, ◌++◌, map, append_assoc}
use Rattle.std.proofs.Math.Option.{Option, none, some, some-injective}
use Rattle.definition.specs.Text.{same, ◌>>=◌, given, lines_of, end_line, onto_line, fields_of, end_field, onto_field}
use Rattle.definition.specs.Text.{decimal}
use Rattle.definition.specs.JobSheet.{Word, opt, bank, class, reg, block, value, vgroup, operand, hint, seg, use', end}
use Rattle.definition.specs.JobSheet.{spelling, all_words, word_among, Form, up_to, bits, number, flag, remat}
use Rattle.definition.specs.JobSheet.{use_flags}
use Rattle.definition.specs.JobSheet.{use_kind, read_field, read_fields, kind_fields, read_use, read_record, Record}
use Rattle.definition.specs.JobSheet.{record_of}
use Rattle.definition.specs.JobSheet.{records_of, ordered, sheet_of}
use Rattle.definition.specs.SheetForms.{form_line, is_second, behind_form, read_second, second_record, second_records}
use Rattle.definition.specs.SheetForms.{second_sheet, records_in}
use Rattle.definition.specs.Conversion.{field_text, field_texts, first_texts, second_texts, texts_in, record_line}
use Rattle.definition.specs.Conversion.{lines_text}
use Rattle.definition.specs.Conversion.{sheet_text, rec}
use Rattle.definition.proofs.Forms.{first_records, second_records_lem}
use Rattle.definition.proofs.Same.{same_eq}
use Rattle.lines.specs.Clean.{body, tabbed_body}
use Rattle.sheet_laws.specs.Words.{none_some}
use Rattle.text_laws.specs.Spelling.{given_some, number_text, bits_text}

-- what a bind that gives something went through
pub bind_some : {A B : Type 0} (m : Option A) (k : A → Option B) (b : B) → (m >>= k) ≡ some b
    → (a : A) × (m ≡ some a) × (k a ≡ some b)
bind_some none k b e = absurd (none_some e)
bind_some (some a) k b e = (a, refl, e)

-- the number and the numbers behind it that a list was read of
pub cons_some : (m : Option ℕ) (o : Option (List ℕ)) (ns : List ℕ) → (m >>= λ n. o >>= λ ks. some (n ∷ ks)) ≡ some ns
    → (n : ℕ) × (ks : List ℕ) × (m ≡ some n) × (o ≡ some ks) × (n ∷ ks ≡ ns)
cons_some none o ns e = absurd (none_some e)
cons_some (some n) none ns e = absurd (none_some e)
cons_some (some n) (some ks) ns e = (n, ks, refl, refl, some-injective (n ∷ ks) ns e)

-- ---- the fields of a record

field_text_lem : (m : Form) (f : List ℕ) (n : ℕ) → read_field m f ≡ some n → field_text m n ≡ f
field_text_lem (up_to most) f n e = number_text most n f e
field_text_lem bits f n e = bits_text n f e

fields_text : (ms : List Form) (fs : List (List ℕ)) (ns : List ℕ) → read_fields ms fs ≡ some ns → field_texts ms ns ≡ fs
unfolding read_fields field_texts
fields_text [] [] ns e = refl
fields_text [] (f ∷ fs) ns e = absurd (none_some e)
fields_text (m ∷ ms) [] ns e = absurd (none_some e)
fields_text (m ∷ ms) (f ∷ fs) ns e =
    let p = cons_some (read_field m f) (read_fields ms fs) ns e in
    ap (λ (l : List ℕ). field_texts (m ∷ ms) l) (sym p.4)
    ∙ ap (λ (t : List ℕ). t ∷ field_texts ms p.1) (field_text_lem m f p.0 p.2)
    ∙ ap (λ (l : List (List ℕ)). f ∷ l) (fields_text ms fs p.1 p.3)

-- all of them numbers, however many
numbers_text : (c : ℕ) (fs : List (List ℕ)) (ns : List ℕ) → read_fields (replicate c number) fs ≡ some ns
    → map decimal ns ≡ fs
unfolding read_fields
numbers_text zero [] ns e = ap (λ (l : List ℕ). map decimal l) (sym (some-injective [] ns e))
numbers_text zero (f ∷ fs) ns e = absurd (none_some e)
numbers_text (suc c) [] ns e = absurd (none_some e)
numbers_text (suc c) (f ∷ fs) ns e =
    let p = cons_some (read_field number f) (read_fields (replicate c number) fs) ns e in
    ap (λ (l : List ℕ). map decimal l) (sym p.4)
    ∙ ap (λ (t : List ℕ). t ∷ map decimal p.1) (field_text_lem number f p.0 p.2)
    ∙ ap (λ (l : List (List ℕ)). f ∷ l) (numbers_text c fs p.1 p.3)

use_text_lem : (fs : List (List ℕ)) (ns : List ℕ) → read_use fs ≡ some ns → map decimal ns ≡ fs
unfolding read_use
use_text_lem [] ns e = absurd (none_some e)
use_text_lem (f ∷ fs) ns e =
    let p = bind_some (read_field use_kind f)
    (λ k. read_fields (number ∷ replicate (kind_fields k) number) fs >>= λ ks. some (k ∷ ks)) ns e in
    let q = cons_some (some p.0) (read_fields (number ∷ replicate (kind_fields p.0) number) fs) ns p.2 in
    ap (λ (l : List ℕ). map decimal l) (sym q.4)
    ∙ ap (λ (t : List ℕ). t ∷ map decimal q.1) (field_text_lem use_kind f q.0 (p.1 ∙ q.2))
    ∙ ap (λ (l : List (List ℕ)). f ∷ l) (numbers_text (suc (kind_fields p.0)) fs q.1 q.3)

none_text : (fs : List (List ℕ)) (ns : List ℕ) → read_fields [] fs ≡ some ns → [] ≡ fs
unfolding read_fields
none_text [] ns e = refl
none_text (f ∷ fs) ns e = absurd (none_some e)

first_texts_lem : (w : Word) (fs : List (List ℕ)) (ns : List ℕ) → read_record w fs ≡ some ns → first_texts w ns ≡ fs
unfolding read_record first_texts
first_texts_lem opt fs ns e = fields_text (number ∷ bits ∷ bits ∷ bits ∷ []) fs ns e
first_texts_lem bank fs ns e = fields_text (number ∷ []) fs ns e
first_texts_lem class fs ns e = fields_text (bits ∷ bits ∷ number ∷ flag ∷ []) fs ns e
first_texts_lem reg fs ns e = fields_text (flag ∷ []) fs ns e
first_texts_lem block fs ns e = fields_text (number ∷ bits ∷ []) fs ns e
first_texts_lem value fs ns e = fields_text (number ∷ number ∷ remat ∷ []) fs ns e
first_texts_lem vgroup fs ns e = numbers_text (length fs) fs ns e
first_texts_lem operand fs ns e = fields_text (number ∷ number ∷ number ∷ number ∷ []) fs ns e
first_texts_lem hint fs ns e = fields_text (number ∷ number ∷ flag ∷ []) fs ns e
first_texts_lem seg fs ns e = fields_text (number ∷ number ∷ number ∷ use_flags ∷ []) fs ns e
first_texts_lem use' fs ns e = use_text_lem fs ns e
first_texts_lem end fs ns e = none_text fs ns e

second_texts_lem : (w : Word) (fs : List (List ℕ)) (ns : List ℕ) → read_second w fs ≡ some ns → second_texts w ns ≡ fs
unfolding read_second second_texts
second_texts_lem block fs ns e = fields_text (number ∷ bits ∷ number ∷ []) fs ns e
second_texts_lem seg fs ns e = fields_text (number ∷ number ∷ number ∷ use_flags ∷ number ∷ []) fs ns e
second_texts_lem w fs ns e = first_texts_lem w fs ns e

-- ---- either form by one reading: the second, or the first

abbrev pub read_in : Bool → Word → List (List ℕ) → Option (List ℕ)
read_in true w fs = read_second w fs
read_in false w fs = read_record w fs

unfoldable pub line_in : Bool → List ℕ → Option Record
unfolding word_among fields_of read_second read_record
line_in second l =
    let fs = fields_of l in
    word_among all_words fs.first >>= λ w. read_in second w fs.rest >>= λ ns. some (rec w ns)

unfoldable pub lines_in : Bool → List (List ℕ) → Option (List Record)
unfolding line_in
lines_in second [] = some []
lines_in second (l ∷ ls) = line_in second l >>= λ r. lines_in second ls >>= λ rs. some (r ∷ rs)

-- the records of lines in the right order, behind the form line of the second form
unfoldable pub sheet_in : Bool → List ℕ → Option (List Record)
unfolding lines_of lines_in ordered
sheet_in second bs = lines_of bs >>= λ ls. lines_in second ls >>= λ rs. given (ordered (opt ∷ []) rs) rs

first_lines : (ls : List (List ℕ)) → records_of ls ≡ lines_in false ls
unfolding records_of record_of lines_in line_in
first_lines [] = refl
first_lines (l ∷ ls) =
    ap (λ (o : Option (List Record)). record_of l >>= λ r. o >>= λ rs. some (r ∷ rs)) (first_lines ls)

second_lines : (ls : List (List ℕ)) → second_records ls ≡ lines_in true ls
unfolding second_records second_record lines_in line_in
second_lines [] = refl
second_lines (l ∷ ls) =
    ap (λ (o : Option (List Record)). second_record l >>= λ r. o >>= λ rs. some (r ∷ rs)) (second_lines ls)

module _ (f g : List (List ℕ) → Option (List Record)) (same : (ls : List (List ℕ)) → f ls ≡ g ls) where
  either : (o : Option (List (List ℕ)))
      → (o >>= λ ls. f ls >>= λ rs. given (ordered (opt ∷ []) rs) rs)
      ≡ (o >>= λ ls. g ls >>= λ rs. given (ordered (opt ∷ []) rs) rs)
  either none = refl
  either (some ls) = ap (λ (m : Option (List Record)). m >>= λ rs. given (ordered (opt ∷ []) rs) rs) (same ls)

pub first_sheet : (bs : List ℕ) → sheet_of bs ≡ sheet_in false bs
unfolding sheet_of sheet_in
first_sheet bs = either records_of (lines_in false) first_lines (lines_of bs)

pub second_sheet_lem : (bs : List ℕ) → second_sheet bs ≡ sheet_in true bs
unfolding second_sheet sheet_in
second_sheet_lem bs = either second_records (lines_in true) second_lines (lines_of bs)

-- ---- words and lines

word_text : (ws : List Word) (f : List ℕ) (w : Word) → word_among ws f ≡ some w → spelling w ≡ f
unfolding word_among
word_text [] f w e = absurd (none_some e)
word_text (v ∷ ws) f w e = go (same f (spelling v)) refl e (word_text ws f w)
  where
    go : (t : Bool) → same f (spelling v) ≡ t → elim t [ true ↦ some v | false ↦ word_among ws f ] ≡ some w
        → (word_among ws f ≡ some w → spelling w ≡ f) → spelling w ≡ f
    go true s h r = ap spelling (sym (some-injective v w h)) ∙ sym (same_eq f (spelling v) s)
    go false s h r = r h

fields_line : (l : List ℕ) → (fields_of l).first ++ body (fields_of l).rest ≡ l
unfolding fields_of
fields_line [] = refl
fields_line (b ∷ bs) = go (eqb b 9) refl (fields_line bs)
  where
    go : (t : Bool) → eqb b 9 ≡ t → (fields_of bs).first ++ body (fields_of bs).rest ≡ bs
        → (cond t (end_field (fields_of bs)) (onto_field b (fields_of bs))).first
        ++ body (cond t (end_field (fields_of bs)) (onto_field b (fields_of bs))).rest ≡ b ∷ bs
    go true e whole = ap (λ (l : List ℕ). 9 ∷ l) whole ∙ ap (λ (n : ℕ). n ∷ bs) (sym (eqb-true b 9 e))
    go false e whole = ap (λ (l : List ℕ). b ∷ l) whole

-- lines, each with its line feed
unfoldable pub joined : List (List ℕ) → List ℕ
joined [] = []
joined (l ∷ ls) = (l ++ (10 ∷ [])) ++ joined ls

lines_joined : (bs : List ℕ) (ls : List (List ℕ)) → lines_of bs ≡ some ls → joined ls ≡ bs
unfolding lines_of joined
lines_joined [] ls e = ap joined (sym (some-injective [] ls e))
lines_joined (b ∷ bs) ls e = go (eqb b 10) refl (lines_of bs) refl e (lines_joined bs)
  where
    go : (t : Bool) → eqb b 10 ≡ t → (m : Option (List (List ℕ))) → lines_of bs ≡ m
        → cond t (end_line m) (onto_line b m) ≡ some ls
        → ((ks : List (List ℕ)) → lines_of bs ≡ some ks → joined ks ≡ bs) → joined ls ≡ b ∷ bs
    go true f none g h r = absurd (none_some h)
    go true f (some ks) g h r =
        ap joined (sym (some-injective ([] ∷ ks) ls h))
        ∙ ap (λ (l : List ℕ). 10 ∷ l) (r ks g)
        ∙ ap (λ (n : ℕ). n ∷ bs) (sym (eqb-true b 10 f))
    go false f none g h r = absurd (none_some h)
    go false f (some []) g h r = absurd (none_some h)
    go false f (some (k ∷ ks)) g h r =
        ap joined (sym (some-injective ((b ∷ k) ∷ ks) ls h)) ∙ ap (λ (l : List ℕ). b ∷ l) (r (k ∷ ks) g)

-- ---- the law

module _ (second : Bool) where
  texts_in_lem : (w : Word) (fs : List (List ℕ)) (ns : List ℕ) → read_in second w fs ≡ some ns
      → texts_in second w ns ≡ fs
  texts_in_lem w fs ns e = go second e
    where
      go : (t : Bool) → read_in t w fs ≡ some ns → texts_in t w ns ≡ fs
      go true h = second_texts_lem w fs ns h
      go false h = first_texts_lem w fs ns h

  -- a record's line, without its line feed
  unfoldable pub line_text : Record → List ℕ
  line_text r = spelling r.word ++ body (texts_in second r.word r.fields)

  -- the texts of a record read as its fields
  abbrev pub Reads₁ : Record → Type 0
  Reads₁ r = read_in second r.word (texts_in second r.word r.fields) ≡ some r.fields

  abbrev pub Reads : List Record → Type 0
  Reads [] = Unit {0}
  Reads (r ∷ rs) = Reads₁ r × Reads rs

  pub lines_are : (rs : List Record) → lines_text second rs ≡ joined (map line_text rs)
  unfolding lines_text record_line joined line_text
  lines_are [] = refl
  lines_are (r ∷ rs) =
      let fs : List (List ℕ) = texts_in second r.word r.fields in
      ap (λ (l : List ℕ). (spelling r.word ++ l) ++ lines_text second rs) (tabbed_body fs)
      ∙ ap (λ (l : List ℕ). l ++ lines_text second rs) (sym (append_assoc (spelling r.word) (body fs) (10 ∷ [])))
      ∙ ap (λ (l : List ℕ). (line_text r ++ (10 ∷ [])) ++ l) (lines_are rs)

  -- a line that reads as a record
  record Line (l : List ℕ) (r : Record) : Type 0 where
    text : line_text r ≡ l
    reads : Reads₁ r

  line_read : (l : List ℕ) (r : Record) → line_in second l ≡ some r → Line l r
  unfolding line_in line_text
  line_read l r e =
      let fs = fields_of l in
      let p = bind_some (word_among all_words fs.first)
      (λ w. read_in second w fs.rest >>= λ ns. some (rec w ns)) r e in
      let q = bind_some (read_in second p.0 fs.rest) (λ ns. some (rec p.0 ns)) r p.2 in
      let t : texts_in second p.0 q.0 ≡ fs.rest = texts_in_lem p.0 fs.rest q.0 q.1 in
      subst (λ (k : Record). Line l k) (some-injective (rec p.0 q.0) r q.2) (record {
        text =
            ap (λ (w : List ℕ). w ++ body (texts_in second p.0 q.0)) (word_text all_words fs.first p.0 p.1)
            ∙ ap (λ (x : List (List ℕ)). fs.first ++ body x) t
            ∙ fields_line l;
        reads = ap (λ (x : List (List ℕ)). read_in second p.0 x) t ∙ q.1;
      })

  lines_read : (ls : List (List ℕ)) (rs : List Record) → lines_in second ls ≡ some rs
      → (map line_text rs ≡ ls) × Reads rs
  unfolding lines_in
  lines_read [] rs e =
      subst (λ (k : List Record). (map line_text k ≡ []) × Reads k) (some-injective [] rs e) (refl, tt)
  lines_read (l ∷ ls) rs e =
      let p = bind_some (line_in second l) (λ r. lines_in second ls >>= λ ks. some (r ∷ ks)) rs e in
      let q = bind_some (lines_in second ls) (λ ks. some (p.0 ∷ ks)) rs p.2 in
      let a = line_read l p.0 p.1 in
      let b = lines_read ls q.0 q.1 in
      subst (λ (k : List Record). (map line_text k ≡ l ∷ ls) × Reads k)
      (some-injective (p.0 ∷ q.0) rs q.2) (
        ap (λ (t : List ℕ). t ∷ map line_text q.0) a.text ∙ ap (λ (t : List (List ℕ)). l ∷ t) b.0,
        (a.reads, b.1),
      )

  -- what was read of a sheet
  record Read (bs : List ℕ) (rs : List Record) : Type 0 where
    text : lines_text second rs ≡ bs
    reads : Reads rs
    order : ordered (opt ∷ []) rs ≡ true

  -- THE LAW: the bytes of a sheet are the text of the records that are read from it
  sheet_read : (bs : List ℕ) (rs : List Record) → sheet_in second bs ≡ some rs → Read bs rs
  unfolding sheet_in
  sheet_read bs rs e =
      let p = bind_some (lines_of bs) (λ ls. lines_in second ls >>= λ ks. given (ordered (opt ∷ []) ks) ks) rs e in
      let q = bind_some (lines_in second p.0) (λ ks. given (ordered (opt ∷ []) ks) ks) rs p.2 in
      let g = given_some (ordered (opt ∷ []) q.0) q.0 rs q.2 in
      let b = lines_read p.0 q.0 q.1 in
      subst (λ (k : List Record). Read bs k) g.1 (record {
        text = lines_are q.0 ∙ ap joined b.0 ∙ lines_joined bs p.0 p.1;
        reads = b.1;
        order = g.0;
      })

-- ---- the bytes of a whole sheet

-- a sheet of the second form, or the first, and its records
pub record Sheet (second : Bool) (bs : List ℕ) (rs : List Record) : Type 0 where
  pub text : sheet_text second rs ≡ bs
  pub reads : Reads second rs
  pub order : ordered (opt ∷ []) rs ≡ true

pub sheet_whole : (second : Bool) (bs : List ℕ) (rs : List Record) → is_second bs ≡ second → records_in bs ≡ some rs
    → Sheet second bs rs
unfolding is_second sheet_text
sheet_whole true bs rs s e =
    let h = sym (second_records_lem bs s ∙ second_sheet_lem (behind_form bs)) ∙ e in
    let r = sheet_read true (behind_form bs) rs h in
    record {
      text =
          ap (λ (l : List ℕ). form_line ++ l) r.text
          ∙ ap (λ (l : List ℕ). l ++ behind_form bs) (sym (same_eq (take (length form_line) bs) form_line s))
          ∙ take-append-drop (length form_line) bs;
      reads = r.reads;
      order = r.order;
    }
sheet_whole false bs rs s e =
    let r = sheet_read false bs rs (sym (first_records bs s ∙ first_sheet bs) ∙ e) in
    record { text = r.text; reads = r.reads; order = r.order }
