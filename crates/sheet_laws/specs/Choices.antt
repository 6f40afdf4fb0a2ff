-- The choices of a sheet's records are on their lists. Assumes nothing.
use Rattle.std.specs.Prelude.{List, [], ◌∷◌, Bool, true, false, ℕ, ◌≤◌, get_or, replicate}
use Rattle.std.proofs.Math.Option.{Option, none, some}
use Rattle.definition.specs.Text.{◌>>=◌, given, lines_of, fields_of}
use Rattle.definition.specs.JobSheet.{Word as Named, opt, bank, class, reg, block, value, vgroup, operand, hint, seg, use', end, Form as Asked, up_to, bits, number, flag, remat, use_flags, use_kind, kind_fields, read_field, read_fields, read_use, read_record, word_among, all_words, Record, record_of, records_of, ordered, sheet_of}
use Rattle.definition.specs.Conversion.{rec}
use Rattle.sheet_laws.specs.Values.{OneSmall, number_small}
use Rattle.sheet_laws.specs.Sheets.{On}

-- each field is up to its form's greatest number
abbrev Within : List Asked → List ℕ → Type 0
Within [] ns = Unit {0}
Within (m ∷ ms) [] = ⊥
Within (up_to m ∷ ms) (n ∷ ns) = (n ≤ m) × Within ms ns
Within (bits ∷ ms) (n ∷ ns) = Unit {0} × Within ms ns

fields_within : (ms : List Asked) (fs : List (List ℕ)) → On (Within ms) (read_fields ms fs)
unfolding read_fields
fields_within [] [] = tt
fields_within [] (f ∷ fs) = tt
fields_within (m ∷ ms) [] = tt
fields_within (up_to m ∷ ms) (f ∷ fs) = go (read_field (up_to m) f) (number_small m f) (read_fields ms fs) (fields_within ms fs)
  where
    go : (o : Option ℕ) → OneSmall m o → (q : Option (List ℕ)) → On (Within ms) q → On (Within (up_to m ∷ ms)) (o >>= λ n. q >>= λ ns. some (n ∷ ns))
    go none h q g = tt
    go (some n) h none g = tt
    go (some n) h (some ns) g = (h, g)
fields_within (bits ∷ ms) (f ∷ fs) = go (read_field bits f) (read_fields ms fs) (fields_within ms fs)
  where
    go : (o : Option ℕ) (q : Option (List ℕ)) → On (Within ms) q → On (Within (bits ∷ ms)) (o >>= λ n. q >>= λ ns. some (n ∷ ns))
    go none q g = tt
    go (some n) none g = tt
    go (some n) (some ns) g = (tt, g)

-- spillslots, memory and incoming are 0 or 1; remat 0 to 3; flags 0 to 15; kinds 0 to 9
abbrev pub Chosen : Named → List ℕ → Type 0
Chosen opt ns = Unit {0}
Chosen bank ns = Unit {0}
Chosen class ns = get_or ns 3 0 ≤ 1
Chosen reg ns = get_or ns 0 0 ≤ 1
Chosen block ns = Unit {0}
Chosen value ns = get_or ns 2 0 ≤ 3
Chosen vgroup ns = Unit {0}
Chosen operand ns = Unit {0}
Chosen hint ns = get_or ns 2 0 ≤ 1
Chosen seg ns = get_or ns 3 0 ≤ 15
Chosen use' ns = get_or ns 0 0 ≤ 9
Chosen end ns = Unit {0}

module _ {A : Type 0} where
  on_map : (P Q : A → Type 0) → ((a : A) → P a → Q a) → (o : Option A) → On P o → On Q o
  on_map P Q f none h = tt
  on_map P Q f (some a) h = f a h

  on_any : (o : Option A) → On (λ (a : A). Unit {0}) o
  on_any none = tt
  on_any (some a) = tt

first_of_lem : (ms : List Asked) (m : ℕ) (ns : List ℕ) → Within (up_to m ∷ ms) ns → get_or ns 0 0 ≤ m
first_of_lem ms m [] h = absurd h
first_of_lem ms m (n ∷ ns) h = h.0

third : (a b : Asked) (m : ℕ) (ns : List ℕ) → Within (a ∷ b ∷ up_to m ∷ []) ns → get_or ns 2 0 ≤ m
third a b m [] h = absurd h
third (up_to x) b m (n ∷ []) h = absurd h.1
third bits b m (n ∷ []) h = absurd h.1
third (up_to x) (up_to y) m (n ∷ k ∷ ns) h = first_of_lem [] m ns h.1.1
third (up_to x) bits m (n ∷ k ∷ ns) h = first_of_lem [] m ns h.1.1
third bits (up_to y) m (n ∷ k ∷ ns) h = first_of_lem [] m ns h.1.1
third bits bits m (n ∷ k ∷ ns) h = first_of_lem [] m ns h.1.1

fourth : (c : Asked) (m : ℕ) (ns : List ℕ) → Within (bits ∷ bits ∷ c ∷ up_to m ∷ []) ns → get_or ns 3 0 ≤ m
fourth c m [] h = absurd h
fourth c m (n ∷ ns) h = third bits c m ns h.1

fourth_number : (m : ℕ) (ns : List ℕ) → Within (number ∷ number ∷ number ∷ up_to m ∷ []) ns → get_or ns 3 0 ≤ m
fourth_number m [] h = absurd h
fourth_number m (n ∷ ns) h = third number number m ns h.1

use_chosen : (fs : List (List ℕ)) → On (Chosen use') (read_use fs)
unfolding read_use
use_chosen [] = tt
use_chosen (f ∷ fs) = go (read_field use_kind f) (number_small 9 f)
  where
    later : (k : ℕ) → k ≤ 9 → (q : Option (List ℕ)) → On (Chosen use') (q >>= λ ns. some (k ∷ ns))
    later k h none = tt
    later k h (some ns) = h

    go : (o : Option ℕ) → OneSmall 9 o → On (Chosen use') (o >>= λ k. read_fields (number ∷ replicate (kind_fields k) number) fs >>= λ ns. some (k ∷ ns))
    go none h = tt
    go (some k) h = later k h (read_fields (number ∷ replicate (kind_fields k) number) fs)

pub record_chosen : (w : Named) (fs : List (List ℕ)) → On (Chosen w) (read_record w fs)
unfolding read_record
record_chosen opt fs = on_any (read_fields (number ∷ bits ∷ bits ∷ bits ∷ []) fs)
record_chosen bank fs = on_any (read_fields (number ∷ []) fs)
record_chosen class fs = on_map (Within (bits ∷ bits ∷ number ∷ flag ∷ [])) (Chosen class) (fourth number 1) (read_fields (bits ∷ bits ∷ number ∷ flag ∷ []) fs) (fields_within (bits ∷ bits ∷ number ∷ flag ∷ []) fs)
record_chosen reg fs = on_map (Within (flag ∷ [])) (Chosen reg) (first_of_lem [] 1) (read_fields (flag ∷ []) fs) (fields_within (flag ∷ []) fs)
record_chosen block fs = on_any (read_fields (number ∷ bits ∷ []) fs)
record_chosen value fs = on_map (Within (number ∷ number ∷ remat ∷ [])) (Chosen value) (third number number 3) (read_fields (number ∷ number ∷ remat ∷ []) fs) (fields_within (number ∷ number ∷ remat ∷ []) fs)
record_chosen vgroup fs = on_any (read_record vgroup fs)
record_chosen operand fs = on_any (read_fields (number ∷ number ∷ number ∷ number ∷ []) fs)
record_chosen hint fs = on_map (Within (number ∷ number ∷ flag ∷ [])) (Chosen hint) (third number number 1) (read_fields (number ∷ number ∷ flag ∷ []) fs) (fields_within (number ∷ number ∷ flag ∷ []) fs)
record_chosen seg fs = on_map (Within (number ∷ number ∷ number ∷ use_flags ∷ [])) (Chosen seg) (fourth_number 15) (read_fields (number ∷ number ∷ number ∷ use_flags ∷ []) fs) (fields_within (number ∷ number ∷ number ∷ use_flags ∷ []) fs)
record_chosen use' fs = use_chosen fs
record_chosen end fs = on_any (read_fields [] fs)

-- ---- of all records

abbrev pub ChosenRecords : List Record → Type 0
ChosenRecords [] = Unit {0}
ChosenRecords (r ∷ rs) = Chosen r.word r.fields × ChosenRecords rs

one_chosen : (l : List ℕ) → On (λ (r : Record). Chosen r.word r.fields) (record_of l)
unfolding record_of
one_chosen l = go (word_among all_words (fields_of l).first)
  where
    by : (w : Named) (o : Option (List ℕ)) → On (Chosen w) o → On (λ (r : Record). Chosen r.word r.fields) (o >>= λ ns. some (rec w ns))
    by w none h = tt
    by w (some ns) h = h

    go : (o : Option Named) → On (λ (r : Record). Chosen r.word r.fields) (o >>= λ w. read_record w (fields_of l).rest >>= λ ns. some (rec w ns))
    go none = tt
    go (some w) = by w (read_record w (fields_of l).rest) (record_chosen w (fields_of l).rest)

all_chosen : (ls : List (List ℕ)) → On ChosenRecords (records_of ls)
unfolding records_of
all_chosen [] = tt
all_chosen (l ∷ ls) = go (record_of l) (one_chosen l) (records_of ls) (all_chosen ls)
  where
    go : (o : Option Record) → On (λ (r : Record). Chosen r.word r.fields) o → (q : Option (List Record)) → On ChosenRecords q → On ChosenRecords (o >>= λ r. q >>= λ rs. some (r ∷ rs))
    go none h q g = tt
    go (some r) h none g = tt
    go (some r) h (some rs) g = (h, g)

pub sheet_chosen : (bs : List ℕ) → On ChosenRecords (sheet_of bs)
unfolding sheet_of
sheet_chosen bs = go (lines_of bs)
  where
    last : (rs : List Record) → ChosenRecords rs → (t : Bool) → On ChosenRecords (given t rs)
    last rs s true = s
    last rs s false = tt

    by : (o : Option (List Record)) → On ChosenRecords o → On ChosenRecords (o >>= λ rs. given (ordered (opt ∷ []) rs) rs)
    by none h = tt
    by (some rs) h = last rs h (ordered (opt ∷ []) rs)

    go : (o : Option (List (List ℕ))) → On ChosenRecords (o >>= λ ls. records_of ls >>= λ rs. given (ordered (opt ∷ []) rs) rs)
    go none = tt
    go (some ls) = by (records_of ls) (all_chosen ls)
