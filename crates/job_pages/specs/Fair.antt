-- Each bare record of a sheet that passes is fair: of its kind's length, its choices on their lists, and not too long a
-- group. Assumes nothing.
use Rattle.std.specs.Prelude.{◌≡◌, refl, Bool, true, false, cond, List, [], ◌∷◌, map, ℕ, ◌≤◌, length, eqb}
use Rattle.std.proofs.Common.{sym, subst, leb-true}
use Rattle.std.proofs.Math.Option.{Option, none, some}
use Rattle.std.proofs.lemmas.List.{length-map}
use Rattle.definition.specs.declared.Value.{Value}
use Rattle.definition.specs.Types.{Job, val}
use Rattle.definition.specs.Entry.{vgroup_tests, vgroup_ok, function_tests, function_ok, entry_tests, entry}
use Rattle.definition.specs.Text.{◌>>=◌, given, lines_of, fields_of}
use Rattle.definition.specs.JobSheet.{Word, opt, vgroup, word_number, all_words, word_among, read_record, Record}
use Rattle.definition.specs.JobSheet.{record_of, records_of, ordered, sheet_of, only, vgroup_of, job_of_records}
use Rattle.definition.specs.SheetForms.{is_second, behind_form, second_sheet, records_in}
use Rattle.definition.specs.Conversion.{rec, shrunk}
use Rattle.definition.proofs.Places.{All, all_map}
use Rattle.definition.proofs.Entries.{conj_all, every_all, lowest_none}
use Rattle.definition.proofs.Forms.{first_records, second_records_lem}
use Rattle.sheet_laws.specs.Sheets.{On}
use Rattle.sheet_laws.specs.Choices.{Chosen, record_chosen}
use Rattle.sheet_laws.specs.Jobs.{AllBared, SoundSecond, second_sound}
use Rattle.sheet_laws.specs.Read.{bare_of, bare_in}
use Rattle.lines.specs.Records.{Long, record_long}
use Rattle.job_pages.specs.Left.{Grouped, Fair, Each}

-- ---- each bare record of a sheet was read

abbrev Read : Word → List ℕ → Type 0
Read w ns = Long w ns × Chosen w ns

read : (w : Word) (fs : List (List ℕ)) (ns : List ℕ) → read_record w fs ≡ some ns → Read w ns
read w fs ns e = (record_long w fs ns e, subst (On (Chosen w)) e (record_chosen w fs))

one_read : (l : List ℕ) → On (λ (r : Record). Read r.word r.fields) (record_of l)
unfolding record_of
one_read l = go (word_among all_words (fields_of l).first)
  where
    by : (w : Word) (o : Option (List ℕ)) → read_record w (fields_of l).rest ≡ o
        → On (λ (r : Record). Read r.word r.fields) (o >>= λ ns. some (rec w ns))
    by w none e = tt
    by w (some ns) e = read w (fields_of l).rest ns e

    go : (o : Option Word)
        → On (λ (r : Record). Read r.word r.fields)
        (o >>= λ w. read_record w (fields_of l).rest >>= λ ns. some (rec w ns))
    go none = tt
    go (some w) = by w (read_record w (fields_of l).rest) refl

all_read : (ls : List (List ℕ)) → On (Each Read) (records_of ls)
unfolding records_of
all_read [] = tt
all_read (l ∷ ls) = go (record_of l) (one_read l) (records_of ls) (all_read ls)
  where
    go : (o : Option Record) → On (λ (r : Record). Read r.word r.fields) o → (q : Option (List Record))
        → On (Each Read) q → On (Each Read) (o >>= λ r. q >>= λ rs. some (r ∷ rs))
    go none h q g = tt
    go (some r) h none g = tt
    go (some r) h (some rs) g = (h, g)

first_read : (bs : List ℕ) → On (Each Read) (sheet_of bs)
unfolding sheet_of
first_read bs = go (lines_of bs)
  where
    last : (rs : List Record) → Each Read rs → (t : Bool) → On (Each Read) (given t rs)
    last rs s true = s
    last rs s false = tt

    by : (o : Option (List Record)) → On (Each Read) o
        → On (Each Read) (o >>= λ rs. given (ordered (opt ∷ []) rs) rs)
    by none h = tt
    by (some rs) h = last rs h (ordered (opt ∷ []) rs)

    go : (o : Option (List (List ℕ)))
        → On (Each Read) (o >>= λ ls. records_of ls >>= λ rs. given (ordered (opt ∷ []) rs) rs)
    go none = tt
    go (some ls) = by (records_of ls) (all_read ls)

second_read : (rs : List Record) → AllBared rs → Each Read (shrunk rs)
unfolding shrunk
second_read [] h = tt
second_read (r ∷ rs) h = (read r.word h.0.texts _ h.0.reads, second_read rs h.1)

bare_read : (bs : List ℕ) → On (Each Read) (bare_in bs)
unfolding bare_in shrunk
bare_read bs = go (is_second bs) refl
  where
    by : (m : Option (List Record)) → On SoundSecond m → On (Each Read) (bare_of true m)
    by none h = tt
    by (some rs) h = second_read rs h.bared

    go : (t : Bool) → is_second bs ≡ t → On (Each Read) (bare_of t (records_in bs))
    go true e = subst (λ (m : Option (List Record)). On (Each Read) (bare_of true m)) (sym (second_records_lem bs e))
        (by (second_sheet (behind_form bs)) (second_sound (behind_form bs)))
    go false e = subst (On (Each Read)) (sym (first_records bs e)) (first_read bs)

-- ---- what the entry tests add

groups_pass : (job : Job) → entry job ≡ none → All (λ (g : List Value). length g ≤ 8) job.vgroups
unfolding entry function_ok vgroup_ok
groups_pass job e =
    all_map (λ g. vgroup_ok job g ≡ true) (λ g. length g ≤ 8)
    (λ g k. leb-true (length g) 8 (conj_all (vgroup_tests job g) k).1.0) job.vgroups
    (every_all (vgroup_ok job) job.vgroups
    (conj_all (function_tests job) (lowest_none (entry_tests job) e).1.1.0).1.1.0)

all_fair : (rs : List Record) → Each Read rs → All (λ (g : List Value). length g ≤ 8) (map vgroup_of (only vgroup rs))
    → Each Fair rs
unfolding only vgroup_of
all_fair [] h g = tt
all_fair (r ∷ rs) h g = go r.word r.fields h.0 g (all_fair rs h.1)
  where
    plain : (w : Word) (ns : List ℕ) → Read w ns → Grouped w ns → Fair w ns
    plain w ns k l = record { long = k.0; chosen = k.1; grouped = l }

    go : (w : Word) (ns : List ℕ) → Read w ns
        → All (λ (g : List Value). length g ≤ 8)
        (map vgroup_of (cond (eqb (word_number w) 6) (ns ∷ only vgroup rs) (only vgroup rs)))
        → (All (λ (g : List Value). length g ≤ 8) (map vgroup_of (only vgroup rs)) → Each Fair rs)
        → Fair w ns × Each Fair rs
    go vgroup ns k l ih =
        (plain vgroup ns k (subst (λ (n : ℕ). n ≤ 8) (length-map ns val) l.0), ih l.1)
    go w ns k l ih = (plain w ns k tt, ih l)

-- THE LAW: the bare records of a sheet whose job passes are fair
pub fair : (bs : List ℕ) (rs : List Record) → bare_in bs ≡ some rs → entry (job_of_records rs) ≡ none → Each Fair rs
unfolding job_of_records
fair bs rs i e = all_fair rs (subst (On (Each Read)) i (bare_read bs)) (groups_pass (job_of_records rs) e)
