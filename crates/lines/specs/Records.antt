-- The line that is written of a row is the line of its record, in either form. Assumes nothing.
use Rattle.std.specs.Prelude.{◌≡◌, refl, Bool, true, false, List, [], ◌∷◌, ◌++◌, map, ℕ, suc, ◌+◌, length, get_or}
use Rattle.std.specs.Prelude.{replicate, Some, None}
use Rattle.std.proofs.Common.{sym, ap, subst, ◌∙◌, append_assoc, append-nil, arith}
use Rattle.std.proofs.Math.Option.{Option, none, some, some-injective}
use Rattle.std.proofs.lemmas.List.{length-replicate}
use Rattle.definition.specs.Text.{decimal, tabbed, ◌>>=◌}
use Rattle.definition.specs.JobSheet.{Word, opt, bank, class, reg, block, value, vgroup, operand, hint, seg, use', end}
use Rattle.definition.specs.JobSheet.{word_number, kind_fields, spelling, Form, up_to, bits, number, flag, remat}
use Rattle.definition.specs.JobSheet.{use_flags, use_kind, read_field, read_fields, read_use, read_record}
use Rattle.definition.specs.Conversion.{record_line, longer, rec, field_text, field_texts, first_texts, second_texts}
use Rattle.definition.specs.Conversion.{texts_in}
use Rattle.lines.specs.Rows.{word_text, bits_at, value_text, row_fields, tabs, row_text, more_fields, more_text}
use Rattle.lines.specs.Rows.{line_text}

-- how many fields the records of a kind have
abbrev pub Long : Word → List ℕ → Type 0
Long opt ns = length ns ≡ 4
Long bank ns = length ns ≡ 1
Long class ns = length ns ≡ 4
Long reg ns = length ns ≡ 1
Long block ns = length ns ≡ 2
Long value ns = length ns ≡ 3
Long vgroup ns = Unit {0}
Long operand ns = length ns ≡ 4
Long hint ns = length ns ≡ 3
Long seg ns = length ns ≡ 4
Long use' ns = length ns ≡ 2 + kind_fields (get_or ns 0 0)
Long end ns = length ns ≡ 0

-- the field k, where a record has a written field in a form
abbrev pub written : Bool → Word → ℕ → Rattle.std.specs.Prelude.Option ℕ
written false w k = None
written true block k = Some k
written true seg k = Some k
written true w k = None

-- a record of the first form as the form has it, with the field k
abbrev pub fields_in : Bool → Word → ℕ → List ℕ → List ℕ
fields_in true w k ns = longer w k ns
fields_in false w k ns = ns

-- ---- the line that is written is the record's

word_spelling : (w : Word) → word_text (word_number w) ≡ spelling w
unfolding word_text
word_spelling opt = refl
word_spelling w = refl

-- fields before fields
tabs_tabbed : (fs gs : List (List ℕ)) → tabs fs ++ tabbed gs ≡ tabbed (fs ++ gs)
tabs_tabbed [] gs = refl
tabs_tabbed (f ∷ fs) gs =
    ap (λ (l : List ℕ). 9 ∷ l) (append_assoc f (tabs fs) (tabbed gs) ∙ ap (λ (l : List ℕ). f ++ l) (tabs_tabbed fs gs))

more_tabbed : (more : Rattle.std.specs.Prelude.Option ℕ) → more_text more ≡ tabbed (more_fields more)
unfolding more_text
more_tabbed more = tabs_tabbed (more_fields more) [] ∙ ap tabbed (append-nil (more_fields more))

-- the forms of fields, the first of which is field j of a kind
abbrev is_bits : Form → Bool
is_bits (up_to most) = false
is_bits bits = true

abbrev Formed : ℕ → ℕ → List Form → Type 0
Formed key j [] = Unit {0}
Formed key j (m ∷ ms) = (bits_at key j ≡ is_bits m) × Formed key (j + 1) ms

form_text : (m : Form) (n : ℕ) → value_text (is_bits m) n ≡ field_text m n
unfolding value_text
form_text (up_to most) n = refl
form_text bits n = refl

by_forms : (key j : ℕ) (ms : List Form) → Formed key j ms → (ns : List ℕ) → length ns ≡ length ms
    → row_fields key j ns ≡ field_texts ms ns
unfolding row_fields field_texts
by_forms key j [] f [] e = refl
by_forms key j [] f (n ∷ ns) e = absurd (omega (arith, e))
by_forms key j (m ∷ ms) f [] e = absurd (omega (arith, e))
by_forms key j (m ∷ ms) f (n ∷ ns) e =
    ap (λ (t : Bool). value_text t n ∷ row_fields key (j + 1) ns) f.0
    ∙ ap (λ (l : List ℕ). l ∷ row_fields key (j + 1) ns) (form_text m n)
    ∙ ap (λ (l : List (List ℕ)). field_text m n ∷ l) (by_forms key (j + 1) ms f.1 ns (omega (arith, e)))

-- however many, where all of them are numbers
all_numbers : (key : ℕ) → ((j : ℕ) → bits_at key j ≡ false) → (j : ℕ) (ns : List ℕ)
    → row_fields key j ns ≡ map decimal ns
unfolding row_fields value_text
all_numbers key f j [] = refl
all_numbers key f j (n ∷ ns) =
    ap (λ (t : Bool). value_text t n ∷ row_fields key (j + 1) ns) (f j)
    ∙ ap (λ (l : List (List ℕ)). decimal n ∷ l) (all_numbers key f (j + 1) ns)

first_fields : (w : Word) (ns : List ℕ) → Long w ns → row_fields (word_number w) 0 ns ≡ first_texts w ns
unfolding first_texts bits_at
first_fields opt ns h = by_forms 0 0 (number ∷ bits ∷ bits ∷ bits ∷ []) (refl, (refl, (refl, (refl, tt)))) ns h
first_fields bank ns h = by_forms 1 0 (number ∷ []) (refl, tt) ns h
first_fields class ns h = by_forms 2 0 (bits ∷ bits ∷ number ∷ flag ∷ []) (refl, (refl, (refl, (refl, tt)))) ns h
first_fields reg ns h = by_forms 3 0 (flag ∷ []) (refl, tt) ns h
first_fields block ns h = by_forms 4 0 (number ∷ bits ∷ []) (refl, (refl, tt)) ns h
first_fields value ns h = by_forms 5 0 (number ∷ number ∷ remat ∷ []) (refl, (refl, (refl, tt))) ns h
first_fields vgroup ns h = all_numbers 6 (λ j. refl) 0 ns
first_fields operand ns h =
    by_forms 7 0 (number ∷ number ∷ number ∷ number ∷ []) (refl, (refl, (refl, (refl, tt)))) ns h
first_fields hint ns h = by_forms 8 0 (number ∷ number ∷ flag ∷ []) (refl, (refl, (refl, tt))) ns h
first_fields seg ns h =
    by_forms 9 0 (number ∷ number ∷ number ∷ use_flags ∷ []) (refl, (refl, (refl, (refl, tt)))) ns h
first_fields use' ns h = all_numbers 10 (λ j. refl) 0 ns
first_fields end ns h = by_forms 11 0 [] tt ns h

-- one number more
one_more_lem : (ms : List Form) (ns : List ℕ) (k : ℕ) → length ns ≡ length ms
    → field_texts (ms ++ (number ∷ [])) (ns ++ (k ∷ [])) ≡ field_texts ms ns ++ (decimal k ∷ [])
unfolding field_texts
one_more_lem [] [] k e = refl
one_more_lem [] (n ∷ ns) k e = absurd (omega (arith, e))
one_more_lem (m ∷ ms) [] k e = absurd (omega (arith, e))
one_more_lem (m ∷ ms) (n ∷ ns) k e =
    ap (λ (l : List (List ℕ)). field_text m n ∷ l) (one_more_lem ms ns k (omega (arith, e)))

fields_with : (w : Word) (ns : List ℕ) (k : ℕ) (ms : List Form) → Long w ns → first_texts w ns ≡ field_texts ms ns
    → length ns ≡ length ms
    → row_fields (word_number w) 0 ns ++ (decimal k ∷ []) ≡ field_texts (ms ++ (number ∷ [])) (ns ++ (k ∷ []))
fields_with w ns k ms h e l =
    ap (λ (fs : List (List ℕ)). fs ++ (decimal k ∷ [])) (first_fields w ns h ∙ e) ∙ sym (one_more_lem ms ns k l)

plain : (w : Word) (ns : List ℕ) → Long w ns → row_fields (word_number w) 0 ns ++ [] ≡ first_texts w ns
plain w ns h = append-nil (row_fields (word_number w) 0 ns) ∙ first_fields w ns h

form_fields : (second : Bool) (w : Word) (ns : List ℕ) (k : ℕ) → Long w ns
    → row_fields (word_number w) 0 ns ++ more_fields (written second w k) ≡ texts_in second w (fields_in second w k ns)
unfolding first_texts second_texts
form_fields false w ns k h = plain w ns h
form_fields true block ns k h = fields_with block ns k (number ∷ bits ∷ []) h refl h
form_fields true seg ns k h = fields_with seg ns k (number ∷ number ∷ number ∷ use_flags ∷ []) h refl h
form_fields true w ns k h = plain w ns h

pub line_record : (second : Bool) (w : Word) (ns : List ℕ) (k : ℕ) → Long w ns
    → line_text (word_number w) ns (written second w k) ≡ record_line second (rec w (fields_in second w k ns))
unfolding line_text row_text record_line
line_record second w ns k h =
    ap (λ (l : List ℕ). l ++ (tabs fs ++ more_text (written second w k))) (word_spelling w)
    ∙ ap (λ (l : List ℕ). spelling w ++ (tabs fs ++ l)) (more_tabbed (written second w k))
    ∙ ap (λ (l : List ℕ). spelling w ++ l) (tabs_tabbed fs (more_fields (written second w k)))
    ∙ ap (λ (gs : List (List ℕ)). spelling w ++ tabbed gs) (form_fields second w ns k h)
  where
    fs : List (List ℕ)
    fs = row_fields (word_number w) 0 ns

-- ---- a record that was read has its fields

bind_some : {A B : Type 0} (m : Option A) (f : A → Option B) (b : B) → (m >>= f) ≡ some b
    → (a : A) × (m ≡ some a) × (f a ≡ some b)
bind_some none f b e = let z : ◌≡◌ {A = ℕ} 0 1 = cc in absurd (omega arith)
bind_some (some a) f b e = (a, refl, e)

-- as many numbers as forms
forms_long : (ms : List Form) (fs : List (List ℕ)) (ns : List ℕ) → read_fields ms fs ≡ some ns → length ns ≡ length ms
unfolding read_fields
forms_long [] [] ns e = ap length (sym (some-injective [] ns e))
forms_long [] (f ∷ fs) ns e = let z : ◌≡◌ {A = ℕ} 0 1 = cc in absurd (omega arith)
forms_long (m ∷ ms) [] ns e = let z : ◌≡◌ {A = ℕ} 0 1 = cc in absurd (omega arith)
forms_long (m ∷ ms) (f ∷ fs) ns e =
    let p = bind_some (read_field m f) (λ n. read_fields ms fs >>= λ ks. some (n ∷ ks)) ns e in
    let q = bind_some (read_fields ms fs) (λ ks. some (p.0 ∷ ks)) ns p.2 in
    ap length (sym (some-injective _ ns q.2)) ∙ ap suc (forms_long ms fs q.0 q.1)

use_long : (fs : List (List ℕ)) (ns : List ℕ) → read_use fs ≡ some ns → Long use' ns
unfolding read_use
use_long [] ns e = let z : ◌≡◌ {A = ℕ} 0 1 = cc in absurd (omega arith)
use_long (f ∷ fs) ns e =
    let p = bind_some (read_field use_kind f) (λ k. read_fields (forms k) fs >>= λ ks. some (k ∷ ks)) ns e in
    let q = bind_some (read_fields (forms p.0) fs) (λ ks. some (p.0 ∷ ks)) ns p.2 in
    let l : length q.0 ≡ length (forms p.0) = forms_long (forms p.0) fs q.0 q.1 in
    let r : length (replicate (kind_fields p.0) number) ≡ kind_fields p.0
    = length-replicate (kind_fields p.0) number in
    subst (Long use') (some-injective (p.0 ∷ q.0) ns q.2) (omega (arith, l, r))
  where
    forms : ℕ → List Form
    forms k = number ∷ replicate (kind_fields k) number

pub record_long : (w : Word) (fs : List (List ℕ)) (ns : List ℕ) → read_record w fs ≡ some ns → Long w ns
unfolding read_record
record_long opt fs ns e = forms_long (number ∷ bits ∷ bits ∷ bits ∷ []) fs ns e
record_long bank fs ns e = forms_long (number ∷ []) fs ns e
record_long class fs ns e = forms_long (bits ∷ bits ∷ number ∷ flag ∷ []) fs ns e
record_long reg fs ns e = forms_long (flag ∷ []) fs ns e
record_long block fs ns e = forms_long (number ∷ bits ∷ []) fs ns e
record_long value fs ns e = forms_long (number ∷ number ∷ remat ∷ []) fs ns e
record_long vgroup fs ns e = tt
record_long operand fs ns e = forms_long (number ∷ number ∷ number ∷ number ∷ []) fs ns e
record_long hint fs ns e = forms_long (number ∷ number ∷ flag ∷ []) fs ns e
record_long seg fs ns e = forms_long (number ∷ number ∷ number ∷ use_flags ∷ []) fs ns e
record_long use' fs ns e = use_long fs ns e
record_long end fs ns e = forms_long [] fs ns e
