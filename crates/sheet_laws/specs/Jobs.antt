-- The bare records of a sheet of the second form: they have its job, and all that holds of the records of a sheet.
-- Assumes nothing.
use Rattle.std.specs.Prelude.{◌≡◌, Bool, cond, ℕ, suc, ◌≤◌}
use Rattle.std.proofs.Math.Path.{refl, ap}
use Rattle.std.proofs.Common.{sym, subst, ◌∙◌, eqb-true}
use mathlib.Core.List.{List, [], ◌∷◌, ◌++◌, map}
use Rattle.std.proofs.Math.Bool.{true, false}
use Rattle.std.proofs.Math.Option.{Option, none, some}
use lib.ListN.{length, take}
use Rattle.std.proofs.Math.Dec.{eqb}
use Rattle.definition.specs.declared.Use.{Use}
use Rattle.definition.specs.Text.{◌>>=◌, given, lines_of, fields_of, read_number}
use Rattle.definition.specs.JobSheet.{Word, opt, bank, class, reg, block, value, vgroup, operand, hint, seg, use', end}
use Rattle.definition.specs.JobSheet.{word_number, all_words, word_among, Form, number, bits, use_flags, read_fields}
use Rattle.definition.specs.JobSheet.{read_record, Record, at, ordered, only, options_of, bank_of, class_data_of}
use Rattle.definition.specs.JobSheet.{memory_of, block_data_of, value_data_of, vgroup_of, operand_of, hint_of}
use Rattle.definition.specs.JobSheet.{segment_of, use_of, Segments, segments_of, job_of_records}
use Rattle.definition.specs.SheetForms.{read_second, second_record, second_records, second_sheet}
use Rattle.definition.specs.Conversion.{rec, bare_fields, shrunk}
use Rattle.sheet_laws.specs.Words.{word_of, word_number_lem}
use Rattle.sheet_laws.specs.Values.{OneSmall, AllSmall, number_small, record_small}
use Rattle.sheet_laws.specs.Stands.{SmallRecords}
use Rattle.sheet_laws.specs.Sheets.{On, Sound}
use Rattle.sheet_laws.specs.Choices.{Chosen, record_chosen, ChosenRecords}
use Rattle.sheet_laws.specs.Lines.{Parted, last_of}
use Rattle.sheet_laws.specs.Bare.{fields_cut, fields_long, take_before, at_last, shrunk_ordered}

-- ---- the job

the : Word → Option Word → Word
the d none = d
the d (some w) = w

-- a word by its number
pub same_word : (v w : Word) → eqb (word_number v) (word_number w) ≡ true → v ≡ w
unfolding the
same_word v w e = ap (the v) (sym (word_number_lem v) ∙ ap word_of (eqb-true (word_number v) (word_number w) e)
    ∙ word_number_lem w)

-- the records with one word, read by what does not look at a written field
module _ {A : Type 0} (w : Word) (h : List ℕ → A) (k : (ns : List ℕ) → h (bare_fields w ns) ≡ h ns) where
  pub only_mapped : (rs : List Record) → map h (only w (shrunk rs)) ≡ map h (only w rs)
  unfolding only shrunk
  only_mapped [] = refl
  only_mapped (r ∷ rs) = go (eqb (word_number r.word) (word_number w)) refl (only_mapped rs)
    where
      go : (u : Bool) → eqb (word_number r.word) (word_number w) ≡ u → map h (only w (shrunk rs)) ≡ map h (only w rs)
          → map h (cond u (bare_fields r.word r.fields ∷ only w (shrunk rs)) (only w (shrunk rs)))
          ≡ map h (cond u (r.fields ∷ only w rs) (only w rs))
      go true e ih =
          ap (λ (x : A). x ∷ map h (only w (shrunk rs))) (subst (λ (v : Word). h (bare_fields v r.fields)
          ≡ h r.fields) (sym (same_word r.word w e)) (k r.fields))
          ∙ ap (λ (xs : List A). h r.fields ∷ xs) ih
      go false e ih = ih

pub only_long : (w : Word) (rs : List Record) → length (only w (shrunk rs)) ≡ length (only w rs)
unfolding only shrunk
only_long w [] = refl
only_long w (r ∷ rs) = go (eqb (word_number r.word) (word_number w)) (only_long w rs)
  where
    go : (u : Bool) → length (only w (shrunk rs)) ≡ length (only w rs)
        → length (cond u (bare_fields r.word r.fields ∷ only w (shrunk rs)) (only w (shrunk rs)))
        ≡ length (cond u (r.fields ∷ only w rs) (only w rs))
    go true h = ap suc h
    go false h = h

map_same : (xs : List (List ℕ)) → map (λ ns. ns) xs ≡ xs
map_same [] = refl
map_same (x ∷ xs) = ap (λ (ys : List (List ℕ)). x ∷ ys) (map_same xs)

only_same : (w : Word) → ((ns : List ℕ) → bare_fields w ns ≡ ns) → (rs : List Record) → only w (shrunk rs) ≡ only w rs
only_same w k rs = sym (map_same (only w (shrunk rs))) ∙ only_mapped w (λ ns. ns) k rs ∙ map_same (only w rs)

bare_block : (ns : List ℕ) → block_data_of (take 2 ns) ≡ block_data_of ns
unfolding block_data_of
bare_block [] = refl
bare_block (a ∷ []) = refl
bare_block (a ∷ b ∷ ns) = refl

bare_seg : (ns : List ℕ) (us : List Use) → segment_of (take 4 ns) us ≡ segment_of ns us
unfolding segment_of
bare_seg [] us = refl
bare_seg (a ∷ []) us = refl
bare_seg (a ∷ b ∷ []) us = refl
bare_seg (a ∷ b ∷ c ∷ []) us = refl
bare_seg (a ∷ b ∷ c ∷ d ∷ ns) us = refl

bare_segments : (rs : List Record) → segments_of (shrunk rs) ≡ segments_of rs
unfolding segments_of shrunk
bare_segments [] = refl
bare_segments (r ∷ rs) = by r.word (bare_segments rs)
  where
    by : (w : Word) → segments_of (shrunk rs) ≡ segments_of rs
        → segments_of (rec w (bare_fields w r.fields) ∷ shrunk rs) ≡ segments_of (rec w r.fields ∷ rs)
    by opt h = h
    by bank h = h
    by class h = h
    by reg h = h
    by block h = h
    by value h = h
    by vgroup h = h
    by operand h = h
    by hint h = h
    by seg h =
        ap (λ (s : Segments). record { waiting = []; made = segment_of (take 4 r.fields) s.waiting ∷ s.made }) h
        ∙ ap (λ x. record { waiting = []; made = x ∷ (segments_of rs).made })
        (bare_seg r.fields (segments_of rs).waiting)
    by use' h = ap (λ (s : Segments). record { waiting = use_of r.fields ∷ s.waiting; made = s.made }) h
    by end h = h

-- THE LAW: "The written fields never replace the implied ones": a sheet's job is that of its bare records
pub bare_job : (rs : List Record) → job_of_records (shrunk rs) ≡ job_of_records rs
unfolding job_of_records
bare_job rs =
    λ i. record {
      options = options_of (lib.ListN.get_or (only_same opt (λ ns. refl) rs i) 0 []);
      banks = only_mapped bank bank_of (λ ns. refl) rs i;
      classes = only_mapped class class_data_of (λ ns. refl) rs i;
      memory = only_mapped reg memory_of (λ ns. refl) rs i;
      blocks = only_mapped block block_data_of bare_block rs i;
      values = only_mapped value value_data_of (λ ns. refl) rs i;
      vgroups = only_mapped vgroup vgroup_of (λ ns. refl) rs i;
      operands = only_mapped operand operand_of (λ ns. refl) rs i;
      hints = only_mapped hint hint_of (λ ns. refl) rs i;
      segments = (bare_segments rs i).made;
    }

-- ---- what holds of the bare records

-- a written field is a 32-bit number
abbrev pub WrittenSmall : Word → List ℕ → Type 0
WrittenSmall opt ns = Unit {0}
WrittenSmall bank ns = Unit {0}
WrittenSmall class ns = Unit {0}
WrittenSmall reg ns = Unit {0}
WrittenSmall block ns = at ns 2 ≤ 4294967295
WrittenSmall value ns = Unit {0}
WrittenSmall vgroup ns = Unit {0}
WrittenSmall operand ns = Unit {0}
WrittenSmall hint ns = Unit {0}
WrittenSmall seg ns = at ns 4 ≤ 4294967295
WrittenSmall use' ns = Unit {0}
WrittenSmall end ns = Unit {0}

-- the bare fields are those of a line of the first form
pub record Bared (w : Word) (ns : List ℕ) : Type 0 where
  pub texts : List (List ℕ)
  pub reads : read_record w texts ≡ some (bare_fields w ns)
  pub small : WrittenSmall w ns

module _ (w : Word) (fs : List (List ℕ)) (b : (ns : List ℕ) → bare_fields w ns ≡ ns) (k : (ns : List ℕ)
    → WrittenSmall w ns) where
  bared_plain : On (Bared w) (read_record w fs)
  bared_plain = go (read_record w fs) refl
    where
      go : (m : Option (List ℕ)) → read_record w fs ≡ m → On (Bared w) m
      go none e = tt
      go (some ns) e = record { texts = fs; reads = e ∙ ap some (sym (b ns)); small = k ns }

module _ (w : Word) (ms : List Form) (r : (fs : List (List ℕ)) → read_record w fs ≡ read_fields ms fs)
    (b : (ns : List ℕ) → bare_fields w ns ≡ take (length ms) ns) (k : (ns : List ℕ) → at ns (length ms) ≤ 4294967295
    → WrittenSmall w ns) where
  bared_written : (fs : List (List ℕ)) → On (Bared w) (read_fields (ms ++ (number ∷ [])) fs)
  bared_written fs = subst (λ (m : Option (List ℕ)). On (Bared w) m) (sym (fields_cut ms fs))
      (go (last_of (length ms) fs))
    where
      by : (p : Parted) (q : Option (List ℕ)) → read_fields ms p.0 ≡ q → On (λ (ns : List ℕ). length ns ≡ length ms) q
          → (o : Option ℕ) → OneSmall 4294967295 o
          → On (Bared w) (q >>= λ ns. o >>= λ v. some (ns ++ (v ∷ [])))
      by p none e l o h = tt
      by p (some ns) e l none h = tt
      by p (some ns) e l (some v) h = record {
        texts = p.0;
        reads = r p.0 ∙ e ∙ ap some (sym (take_before ns v (length ms) l) ∙ sym (b (ns ++ (v ∷ []))));
        small = k (ns ++ (v ∷ [])) (subst (λ (x : ℕ). x ≤ 4294967295) (sym (at_last ns v (length ms) l)) h);
      }

      go : (m : Option Parted)
          → On (Bared w) (m >>= λ p. read_fields ms p.0 >>= λ ns. read_number 4294967295 p.1 >>= λ v. some
          (ns ++ (v ∷ [])))
      go none = tt
      go (some p) = by p (read_fields ms p.0) refl (fields_long ms p.0) (read_number 4294967295 p.1)
          (number_small 4294967295 p.1)

bared : (w : Word) (fs : List (List ℕ)) → On (Bared w) (read_second w fs)
unfolding read_second read_record
bared opt fs = bared_plain opt fs (λ ns. refl) (λ ns. tt)
bared bank fs = bared_plain bank fs (λ ns. refl) (λ ns. tt)
bared class fs = bared_plain class fs (λ ns. refl) (λ ns. tt)
bared reg fs = bared_plain reg fs (λ ns. refl) (λ ns. tt)
bared block fs = bared_written block (number ∷ bits ∷ []) (λ gs. refl) (λ ns. refl) (λ ns h. h) fs
bared value fs = bared_plain value fs (λ ns. refl) (λ ns. tt)
bared vgroup fs = bared_plain vgroup fs (λ ns. refl) (λ ns. tt)
bared operand fs = bared_plain operand fs (λ ns. refl) (λ ns. tt)
bared hint fs = bared_plain hint fs (λ ns. refl) (λ ns. tt)
bared seg fs = bared_written seg (number ∷ number ∷ number ∷ use_flags ∷ []) (λ gs. refl) (λ ns. refl) (λ ns h. h) fs
bared use' fs = bared_plain use' fs (λ ns. refl) (λ ns. tt)
bared end fs = bared_plain end fs (λ ns. refl) (λ ns. tt)

abbrev pub AllBared : List Record → Type 0
AllBared [] = Unit {0}
AllBared (r ∷ rs) = Bared r.word r.fields × AllBared rs

one_bared : (l : List ℕ) → On (λ (r : Record). Bared r.word r.fields) (second_record l)
unfolding second_record
one_bared l = go (word_among all_words (fields_of l).first)
  where
    by : (w : Word) (o : Option (List ℕ)) → On (Bared w) o
        → On (λ (r : Record). Bared r.word r.fields) (o >>= λ ns. some (rec w ns))
    by w none h = tt
    by w (some ns) h = h

    go : (o : Option Word)
        → On (λ (r : Record). Bared r.word r.fields)
        (o >>= λ w. read_second w (fields_of l).rest >>= λ ns. some (rec w ns))
    go none = tt
    go (some w) = by w (read_second w (fields_of l).rest) (bared w (fields_of l).rest)

all_bared : (ls : List (List ℕ)) → On AllBared (second_records ls)
unfolding second_records
all_bared [] = tt
all_bared (l ∷ ls) = go (second_record l) (one_bared l) (second_records ls) (all_bared ls)
  where
    go : (o : Option Record) → On (λ (r : Record). Bared r.word r.fields) o → (q : Option (List Record))
        → On AllBared q → On AllBared (o >>= λ r. q >>= λ rs. some (r ∷ rs))
    go none h q g = tt
    go (some r) h none g = tt
    go (some r) h (some rs) g = (h, g)

-- the records of a sheet of the second form
pub record SoundSecond (rs : List Record) : Type 0 where
  pub bared : AllBared rs
  pub order : ordered (opt ∷ []) rs ≡ true

pub second_sound : (bs : List ℕ) → On SoundSecond (second_sheet bs)
unfolding second_sheet
second_sound bs = go (lines_of bs)
  where
    last : (rs : List Record) → AllBared rs → (t : Bool) → ordered (opt ∷ []) rs ≡ t → On SoundSecond (given t rs)
    last rs s true e = record { bared = s; order = e }
    last rs s false e = tt

    by : (o : Option (List Record)) → On AllBared o → On SoundSecond (o >>= λ rs. given (ordered (opt ∷ []) rs) rs)
    by none h = tt
    by (some rs) h = last rs h (ordered (opt ∷ []) rs) refl

    go : (o : Option (List (List ℕ)))
        → On SoundSecond (o >>= λ ls. second_records ls >>= λ rs. given (ordered (opt ∷ []) rs) rs)
    go none = tt
    go (some ls) = by (second_records ls) (all_bared ls)

bare_small : (rs : List Record) → AllBared rs → SmallRecords (shrunk rs)
unfolding shrunk
bare_small [] h = tt
bare_small (r ∷ rs) h = (subst AllSmall h.0.reads (record_small r.word h.0.texts), bare_small rs h.1)

bare_chosen : (rs : List Record) → AllBared rs → ChosenRecords (shrunk rs)
unfolding shrunk
bare_chosen [] h = tt
bare_chosen (r ∷ rs) h =
    (subst (On (Chosen r.word)) h.0.reads (record_chosen r.word h.0.texts), bare_chosen rs h.1)

-- the bare ones are as those of a sheet of the first form
pub bare_sound : (rs : List Record) → SoundSecond rs → Sound (shrunk rs)
bare_sound rs s = record { small = bare_small rs s.bared; order = shrunk_ordered rs (opt ∷ []) ∙ s.order }

pub bare_choices : (rs : List Record) → SoundSecond rs → ChosenRecords (shrunk rs)
bare_choices rs s = bare_chosen rs s.bared
