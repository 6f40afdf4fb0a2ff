-- What is written of records is read as these records, in either form. Assumes nothing.
use Rattle.std.specs.Prelude.{◌≡◌, Bool, true, false, cond, get_or}
use Rattle.std.proofs.Math.Path.{refl, ap}
use Rattle.std.proofs.Common.{sym, subst, ◌∙◌, arith}
use Prim.Native.Nat.{ℕ}
use Rattle.std.proofs.Math.Option.{Option, some}
use mathlib.Core.List.{List, [], ◌∷◌, ◌++◌, map, append_assoc}
use Rattle.definition.proofs.Forms.{first_records, second_records_lem}
use Rattle.definition.specs.Text.{◌>>=◌, given, lines_of, Fields, decimal, tabbed}
use Rattle.definition.specs.JobSheet.{Word, opt, bank, class, reg, block, value, vgroup, operand, hint, seg, use', end}
use Rattle.definition.specs.JobSheet.{spelling, all_words, word_among, Form, up_to, bits, number, flag, remat}
use Rattle.definition.specs.JobSheet.{use_flags}
use Rattle.definition.specs.JobSheet.{Record, ordered}
use Rattle.definition.specs.SheetForms.{is_second, records_in}
use Rattle.definition.specs.Conversion.{field_text, field_texts, first_texts, second_texts, texts_in, record_line}
use Rattle.definition.specs.Conversion.{lines_text}
use Rattle.definition.specs.Conversion.{rec, sheet_text}
use Rattle.lines.specs.Clean.{Clean, AllClean, clean_decimal, clean_bits, feed_line, fields_back, lines_back}
use Rattle.sheet_laws.specs.Sheets.{opened}
use Rattle.text_laws.specs.Texts.{read_in, line_in, lines_in, sheet_in, first_sheet, second_sheet_lem, joined}
use Rattle.text_laws.specs.Texts.{line_text}
use Rattle.text_laws.specs.Texts.{Reads₁, Reads, lines_are}

-- ---- no tab and no line feed in a field

clean_field : (m : Form) (n : ℕ) → Clean (field_text m n)
clean_field (up_to most) n = clean_decimal n
clean_field bits n = clean_bits n

clean_fields : (ms : List Form) (ns : List ℕ) → AllClean (field_texts ms ns)
unfolding field_texts
clean_fields [] ns = tt
clean_fields (m ∷ ms) [] = tt
clean_fields (m ∷ ms) (n ∷ ns) = (clean_field m n, clean_fields ms ns)

clean_numbers : (ns : List ℕ) → AllClean (map decimal ns)
clean_numbers [] = tt
clean_numbers (n ∷ ns) = (clean_decimal n, clean_numbers ns)

clean_first : (w : Word) (ns : List ℕ) → AllClean (first_texts w ns)
unfolding first_texts
clean_first opt ns = clean_fields (number ∷ bits ∷ bits ∷ bits ∷ []) ns
clean_first bank ns = clean_fields (number ∷ []) ns
clean_first class ns = clean_fields (bits ∷ bits ∷ number ∷ flag ∷ []) ns
clean_first reg ns = clean_fields (flag ∷ []) ns
clean_first block ns = clean_fields (number ∷ bits ∷ []) ns
clean_first value ns = clean_fields (number ∷ number ∷ remat ∷ []) ns
clean_first vgroup ns = clean_numbers ns
clean_first operand ns = clean_fields (number ∷ number ∷ number ∷ number ∷ []) ns
clean_first hint ns = clean_fields (number ∷ number ∷ flag ∷ []) ns
clean_first seg ns = clean_fields (number ∷ number ∷ number ∷ use_flags ∷ []) ns
clean_first use' ns = clean_numbers ns
clean_first end ns = tt

clean_second : (w : Word) (ns : List ℕ) → AllClean (second_texts w ns)
unfolding second_texts
clean_second block ns = clean_fields (number ∷ bits ∷ number ∷ []) ns
clean_second seg ns = clean_fields (number ∷ number ∷ number ∷ use_flags ∷ number ∷ []) ns
clean_second w ns = clean_first w ns

clean_texts : (second : Bool) (w : Word) (ns : List ℕ) → AllClean (texts_in second w ns)
clean_texts true w ns = clean_second w ns
clean_texts false w ns = clean_first w ns

clean_word : (w : Word) → Clean (spelling w)
clean_word opt = (omega arith, (omega arith, (omega arith, tt)))
clean_word bank = (omega arith, (omega arith, (omega arith, (omega arith, tt))))
clean_word class = (omega arith, (omega arith, (omega arith, (omega arith, (omega arith, tt)))))
clean_word reg = (omega arith, (omega arith, (omega arith, tt)))
clean_word block = (omega arith, (omega arith, (omega arith, (omega arith, (omega arith, tt)))))
clean_word value = (omega arith, (omega arith, (omega arith, (omega arith, (omega arith, tt)))))
clean_word vgroup = (omega arith, (omega arith, (omega arith, (omega arith, (omega arith, (omega arith, tt))))))
clean_word operand =
    (omega arith, (omega arith, (omega arith, (omega arith, (omega arith, (omega arith, (omega arith, tt)))))))
clean_word hint = (omega arith, (omega arith, (omega arith, (omega arith, tt))))
clean_word seg = (omega arith, (omega arith, (omega arith, tt)))
clean_word use' = (omega arith, (omega arith, (omega arith, tt)))
clean_word end = (omega arith, (omega arith, (omega arith, tt)))

word_back : (w : Word) → word_among all_words (spelling w) ≡ some w
unfolding word_among
word_back opt = refl
word_back w = refl

-- ---- lines and records

module _ (second : Bool) where
  line_back : (r : Record) → Reads₁ second r → line_in second (line_text second r) ≡ some r
  unfolding line_in line_text
  line_back r e =
      let fs : List (List ℕ) = texts_in second r.word r.fields in
      ap (λ (x : Fields). word_among all_words x.first >>= λ w. read_in second w x.rest >>= λ ns. some (rec w ns))
      (fields_back (spelling r.word) fs (clean_word r.word) (clean_texts second r.word r.fields))
      ∙ ap (λ (m : Option Word). m >>= λ w. read_in second w fs >>= λ ns. some (rec w ns)) (word_back r.word)
      ∙ ap (λ (m : Option (List ℕ)). m >>= λ ns. some (rec r.word ns)) e

  records_back : (rs : List Record) → Reads second rs → lines_in second (map (line_text second) rs) ≡ some rs
  unfolding lines_in
  records_back [] h = refl
  records_back (r ∷ rs) h =
      ap (λ (m : Option Record). m >>= λ k. lines_in second (map (line_text second) rs) >>= λ ks. some (k ∷ ks))
      (line_back r h.0)
      ∙ ap (λ (m : Option (List Record)). m >>= λ ks. some (r ∷ ks)) (records_back rs h.1)

  lines_cut : (rs : List Record) → lines_of (joined (map (line_text second) rs)) ≡ some (map (line_text second) rs)
  unfolding joined lines_of line_text
  lines_cut [] = refl
  lines_cut (r ∷ rs) =
      let l : List ℕ = line_text second r in
      let t : List ℕ = joined (map (line_text second) rs) in
      ap lines_of (append_assoc l (10 ∷ []) t)
      ∙ lines_back l t (feed_line (spelling r.word) (texts_in second r.word r.fields) (clean_word r.word)
      (clean_texts second r.word r.fields))
      ∙ ap (λ (m : Option (List (List ℕ))). m >>= λ ls. some (l ∷ ls)) (lines_cut rs)

  lines_read_back : (rs : List Record) → Reads second rs → ordered (opt ∷ []) rs ≡ true
      → sheet_in second (lines_text second rs) ≡ some rs
  unfolding sheet_in
  lines_read_back rs h o =
      ap (λ (m : Option (List (List ℕ))). m >>= λ ls. lines_in second ls >>= λ ks. given (ordered (opt ∷ []) ks) ks)
      (ap lines_of (lines_are second rs) ∙ lines_cut rs)
      ∙ ap (λ (m : Option (List Record)). m >>= λ ks. given (ordered (opt ∷ []) ks) ks) (records_back rs h)
      ∙ ap (λ (t : Bool). given t rs) o

-- ---- the form

-- records that begin with opt do not open with the form line
not_second : (rs : List Record) → ordered (opt ∷ []) rs ≡ true → is_second (lines_text false rs) ≡ false
unfolding is_second lines_text record_line
not_second [] e = absurd (opened [] e)
not_second (r ∷ rs) e =
    subst (λ (w : Word). is_second ((spelling w ++ tabbed (first_texts w r.fields)) ++ lines_text false rs) ≡ false)
    (sym (opened (r ∷ rs) e).0) refl

-- the first byte: `f` in the second form, `o` in the first
pub first_byte : (second : Bool) (rs : List Record) → ordered (opt ∷ []) rs ≡ true
    → get_or (sheet_text second rs) 0 0 ≡ cond second 102 111
unfolding sheet_text lines_text record_line
first_byte true rs e = refl
first_byte false [] e = absurd (opened [] e)
first_byte false (r ∷ rs) e =
    subst (λ (w : Word). get_or ((spelling w ++ tabbed (first_texts w r.fields)) ++ lines_text false rs) 0 0 ≡ 111)
    (sym (opened (r ∷ rs) e).0) refl

pub form_back : (second : Bool) (rs : List Record) → ordered (opt ∷ []) rs ≡ true
    → is_second (sheet_text second rs) ≡ second
unfolding is_second sheet_text
form_back true rs o = refl
form_back false rs o = not_second rs o

-- THE LAW: the records of a sheet that was written are those that it was written from
pub sheet_back : (second : Bool) (rs : List Record) → Reads second rs → ordered (opt ∷ []) rs ≡ true
    → records_in (sheet_text second rs) ≡ some rs
unfolding sheet_text
sheet_back true rs h o =
    second_records_lem (sheet_text true rs) (form_back true rs o)
    ∙ second_sheet_lem (lines_text true rs)
    ∙ lines_read_back true rs h o
sheet_back false rs h o =
    first_records (lines_text false rs) (form_back false rs o)
    ∙ first_sheet (lines_text false rs)
    ∙ lines_read_back false rs h o
