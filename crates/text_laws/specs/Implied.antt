-- The written fields never decide: where all lines before agree, equal counts give equal first instructions and equal
-- values equal sets, so two jobs are compared in the second form as they are without the written fields.
-- Assumes nothing.
use Rattle.std.specs.Prelude.{◌≡◌, refl, ℕ, true, false, cond, List, [], ◌∷◌, ◌++◌, map, length, get_or, eqb}
use Rattle.std.proofs.Common.{sym, ap, subst, ◌∙◌, arith}
use Rattle.std.proofs.lemmas.Bool.{false≢true}
use Rattle.std.proofs.Math.Option.{some}
use Rattle.definition.specs.declared.Order.{Order}
use Rattle.definition.specs.declared.Order.TheVariants.{Same}
use Rattle.definition.specs.declared.Value.{Value}
use Rattle.definition.specs.declared.ValueSet.{ValueSet}
use Rattle.definition.specs.Types.{Job, val, vset}
use Rattle.definition.specs.RegInfo.{no_value, value_at, set_of}
use Rattle.definition.specs.JobSheet.{Word, opt, block, value, seg, use', end, word_number, Form, number, bits}
use Rattle.definition.specs.JobSheet.{use_flags, read_fields, read_record, Record, among, next, ordered, at, only}
use Rattle.definition.specs.JobSheet.{value_data_of, job_of_records}
use Rattle.definition.specs.Conversion.{first_texts, implied_field, longer, insts_behind, rec, grown}
use Rattle.definition.specs.JobOrder.{decided, by_places, by_number, kind_place, by_line, by_lines}
use Rattle.sheet_laws.specs.Sheets.{On, ordered_first}
use Rattle.sheet_laws.specs.Bare.{fields_long}
use Rattle.text_laws.specs.Texts.{Reads₁, Reads}
use Rattle.text_laws.specs.Lawful.{decided_same, number_lawful}
use Rattle.text_laws.specs.Lines.{kind_same, line_lawful}

-- ---- one field more at the end of both

as_many : (fs : List Form) (ts us : List (List ℕ)) (ns ms : List ℕ) → read_fields fs ts ≡ some ns
    → read_fields fs us ≡ some ms → length ns ≡ length ms
as_many fs ts us ns ms e f = long ts ns e ∙ sym (long us ms f)
  where
    long : (xs : List (List ℕ)) (ks : List ℕ) → read_fields fs xs ≡ some ks → length ks ≡ length fs
    long xs ks g = subst (On (λ (l : List ℕ). length l ≡ length fs)) g (fields_long fs xs)

more_same : (ns ms : List ℕ) (k l : ℕ) → length ns ≡ length ms → (ns ≡ ms → k ≡ l)
    → by_places by_number (ns ++ (k ∷ [])) (ms ++ (l ∷ [])) ≡ by_places by_number ns ms
unfolding by_places
more_same [] [] k l e f =
    ap (λ (x : ℕ). decided (by_number x l) Same) (f refl)
    ∙ ap (λ (o : Order). decided o Same) (number_lawful.self l)
more_same [] (m ∷ ms) k l e f = absurd (omega arith)
more_same (n ∷ ns) [] k l e f = absurd (omega arith)
more_same (n ∷ ns) (m ∷ ms) k l e f =
    decided_same (by_number n m) (by_number n m) (by_places by_number (ns ++ (k ∷ [])) (ms ++ (l ∷ [])))
    (by_places by_number ns ms) refl (λ q. more_same ns ms k l (omega arith) (λ g.
    f (ap (λ (x : ℕ). x ∷ ns) (number_lawful.equal n m q) ∙ ap (λ (x : List ℕ). m ∷ x) g)))

longer_same : (w : Word) (ns ms : List ℕ) (k l : ℕ) → Reads₁ false (rec w ns) → Reads₁ false (rec w ms)
    → (ns ≡ ms → k ≡ l) → by_places by_number (longer w k ns) (longer w l ms) ≡ by_places by_number ns ms
unfolding read_record
longer_same block ns ms k l a b f =
    more_same ns ms k l (as_many (number ∷ bits ∷ []) (first_texts block ns) (first_texts block ms) ns ms a b) f
longer_same seg ns ms k l a b f =
    more_same ns ms k l
    (as_many (number ∷ number ∷ number ∷ use_flags ∷ []) (first_texts seg ns) (first_texts seg ms) ns ms a b) f
longer_same w ns ms k l a b f = refl

line_kept : (r s : Record) (k l : ℕ) → Reads₁ false r → Reads₁ false s → (r.word ≡ s.word → r.fields ≡ s.fields → k ≡ l)
    → by_line (rec r.word (longer r.word k r.fields)) (rec s.word (longer s.word l s.fields)) ≡ by_line r s
line_kept r s k l a b f =
    decided_same (by_number (kind_place r.word) (kind_place s.word)) (by_number (kind_place r.word) (kind_place s.word))
    (by_places by_number (longer r.word k r.fields) (longer s.word l s.fields)) (by_places by_number r.fields s.fields)
    refl (λ q. by (kind_same r.word s.word (number_lawful.equal (kind_place r.word) (kind_place s.word) q)))
  where
    by : r.word ≡ s.word
        → by_places by_number (longer r.word k r.fields) (longer s.word l s.fields)
        ≡ by_places by_number r.fields s.fields
    by e =
        subst (λ (w : Word). by_places by_number (longer r.word k r.fields) (longer w l s.fields)
        ≡ by_places by_number r.fields s.fields) e
        (longer_same r.word r.fields s.fields k l a
        (subst (λ (w : Word). Reads₁ false (rec w s.fields)) (sym e) b) (f e))

-- ---- behind a seg line stands no value line

abbrev Late : Word → Type 0
Late seg = Unit {0}
Late use' = Unit {0}
Late end = Unit {0}
Late w = ⊥

late_among : (v : Word) → among v (seg ∷ use' ∷ end ∷ []) ≡ true → Late v
late_among seg e = tt
late_among use' e = tt
late_among end e = tt
late_among v e = absurd (false≢true e)

late_next : (w : Word) → Late w → (v : Word) → among v (next w) ≡ true → Late v
late_next seg l v e = late_among v e
late_next use' l v e = late_among v e
late_next end l v e = absurd (false≢true e)
late_next w l v e = absurd l

late_number : (w : Word) → Late w → eqb (word_number w) (word_number value) ≡ false
late_number value l = absurd l
late_number w l = refl

no_values : (ws : List Word) → ((v : Word) → among v ws ≡ true → Late v) → (rs : List Record) → ordered ws rs ≡ true
    → only value rs ≡ []
unfolding only
no_values ws p [] e = refl
no_values ws p (r ∷ rs) e =
    let t = ordered_first ws r rs e in
    let l = p r.word t.0 in
    rw (late_number r.word l) (no_values (next r.word) (late_next r.word l) rs t.1)

behind_seg : (r : Record) (rs : List Record) → r.word ≡ seg → ordered (next r.word) rs ≡ true
    → only value (r ∷ rs) ≡ []
unfolding only
behind_seg r rs e o =
    ap (λ (w : Word). cond (eqb (word_number w) (word_number value)) (r.fields ∷ only value rs) (only value rs)) e
    ∙ no_values (next seg) (late_next seg tt) rs (subst (λ (w : Word). ordered (next w) rs ≡ true) e o)

values_behind : (r : Record) (rs ss : List Record) → only value rs ≡ only value ss
    → only value (r ∷ rs) ≡ only value (r ∷ ss)
unfolding only
values_behind r rs ss e =
    ap (λ (l : List (List ℕ)). cond (eqb (word_number r.word) (word_number value)) (r.fields ∷ l) l) e

-- ---- the law

abbrev SameSets : Job → Job → Type 0
SameSets j k = (v : Value) → set_of j v ≡ set_of k v

implied_same : (w : Word) (n : ℕ) (j k : Job) (ns : List ℕ) → (w ≡ seg → SameSets j k)
    → implied_field w n j ns ≡ implied_field w n k ns
implied_same seg n j k ns f = ap (λ (s : ValueSet). s.0) (f refl (val (at ns 0)))
implied_same w n j k ns f = refl

module _ (j k : Job) where
  implied : (n : ℕ) (ws : List Word) (a b : List Record) → Reads false a → Reads false b → ordered ws a ≡ true
      → ordered ws b ≡ true → (only value a ≡ only value b → SameSets j k)
      → by_lines (grown n j a) (grown n k b) ≡ by_lines a b
  unfolding by_lines by_places grown
  implied n ws [] [] h i o p s = refl
  implied n ws [] (t ∷ b) h i o p s = refl
  implied n ws (r ∷ a) [] h i o p s = refl
  implied n ws (r ∷ a) (t ∷ b) h i o p s =
      decided_same (by_line r t)
      (by_line (rec r.word (longer r.word x r.fields)) (rec t.word (longer t.word y t.fields)))
      (by_lines (grown (insts_behind r.word n r.fields) j a) (grown (insts_behind t.word n t.fields) k b))
      (by_lines a b) (line_kept r t x y h.0 i.0 alike)
      (λ q. rest (line_lawful.equal r t q) (λ m e u. implied m (next r.word) a b h.1 i.1 after e u))
    where
      after : ordered (next r.word) a ≡ true
      after = (ordered_first ws r a o).1

      behind : ordered (next t.word) b ≡ true
      behind = (ordered_first ws t b p).1

      x : ℕ
      x = implied_field r.word n j r.fields

      y : ℕ
      y = implied_field t.word n k t.fields

      late : r.word ≡ seg → t.word ≡ seg → SameSets j k
      late e f = s (behind_seg r a e after ∙ sym (behind_seg t b f behind))

      alike : r.word ≡ t.word → r.fields ≡ t.fields → x ≡ y
      alike e f =
          implied_same r.word n j k r.fields (λ d. late d (sym e ∙ d))
          ∙ ap (λ (w : Word). implied_field w n k r.fields) e
          ∙ ap (λ (l : List ℕ). implied_field t.word n k l) f

      rest : r ≡ t
          → ((m : ℕ) → ordered (next r.word) b ≡ true → (only value a ≡ only value b → SameSets j k)
          → by_lines (grown m j a) (grown m k b) ≡ by_lines a b)
          → by_lines (grown (insts_behind r.word n r.fields) j a) (grown (insts_behind t.word n t.fields) k b)
          ≡ by_lines a b
      rest e ih =
          subst (λ (q : Record). by_lines (grown (insts_behind r.word n r.fields) j a)
          (grown (insts_behind q.word n q.fields) k b) ≡ by_lines a b) e
          (ih (insts_behind r.word n r.fields)
          (subst (λ (q : Record). ordered (next q.word) b ≡ true) (sym e) behind)
          (λ g. s (values_behind r a b g ∙ ap (λ (q : Record). only value (q ∷ b)) e)))

-- a set is read from the value records alone
sets_by : (a b : List Record) → only value a ≡ only value b → SameSets (job_of_records a) (job_of_records b)
unfolding set_of value_at job_of_records
sets_by a b e v = ap (λ (l : List (List ℕ)). vset (get_or (map value_data_of l) v.0 no_value).leader.0) e

-- THE LAW: with their implied fields written in, the records of two sheets compare as they do without
pub never_decide : (a b : List Record) → Reads false a → Reads false b → ordered (opt ∷ []) a ≡ true
    → ordered (opt ∷ []) b ≡ true
    → by_lines (grown 0 (job_of_records a) a) (grown 0 (job_of_records b) b) ≡ by_lines a b
never_decide a b h i o p =
    implied (job_of_records a) (job_of_records b) 0 (opt ∷ []) a b h i o p (sets_by a b)
