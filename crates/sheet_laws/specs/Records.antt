-- Lines are records, a sheet is its records in order. Assumes nothing.
use Rattle.std.specs.Prelude.{◌≡◌, refl, List, [], ◌∷◌, Bool, not, true, false, cond, ℕ, zero, suc, ◌+◌, ◌*◌, get_or, set, ltb, eqb, Some, None}
use Rattle.std.proofs.Common.{sym, ap, ◌∙◌, arith, lt-ltb}
use Rattle.std.proofs.Math.Option.{Option, none, some}
use Rattle.definition.specs.Text.{◌>>=◌, Fields, fields_of, end_field as field_ended, onto_field}
use Rattle.definition.specs.JobSheet.{Word as Named, Record, word_number, all_words, word_among, read_record, record_of, records_of}
use Rattle.definition.specs.Conversion.{rec}
use Rattle.sheet_rules.specs.Bytes.{num}
use Rattle.sheet_rules.specs.declared.digits.Form.{Form}
use Rattle.sheet_rules.specs.declared.digits.Form.TheVariants.{Nothing, Number, Mask, Word}
use Rattle.sheet_rules.specs.Rules.{forms, form_row, form_of, code_at, form_at, key_of, order, follows_of, more_after, kind_after, low_of}
use Rattle.sheet_rules.specs.Places.{limit_of, count_at, place_of, tail_at, tail_of, up_of}
use Rattle.sheet.specs.declared.fields.St.{St}
use Rattle.sheet.specs.Fields.{fed, begin_of, with_num, start_of, next_of, close_record}
use Rattle.sheet_laws.specs.Words.{Bytes, spelled, word_of, record_word}
use Rattle.sheet_laws.specs.Split.{field_of, Bounded, Seen, gone, at, view_n, view, on, field_s, fields_s, close_f, close_r, run_b, line_s, lines_s, form_of_st, with_value, done_b, done_s, field_done, line_fields, up_some}
use Rattle.sheet_laws.specs.Table.{Filled, filled, puts, ups, counted, keyed, row_of, put}
use Rattle.sheet_laws.specs.Values.{values_of, record_values}

pick : (t : Bool) (f g : Form) → Bounded f → Bounded g → Bounded (cond t f g)
pick true f g h k = h
pick false f g h k = k

bounded : (c : ℕ) → Bounded (form_of c)
unfolding form_of
bounded c =
    pick (eqb c 1) (Number 4294967295) _ (omega arith)
    (pick (eqb c 2) Mask _ tt
    (pick (eqb c 3) Word _ tt
    (pick (eqb c 4) (Number 1) _ (omega arith)
    (pick (eqb c 5) (Number 3) _ (omega arith)
    (pick (eqb c 6) (Number 9) _ (omega arith) (pick (eqb c 7) (Number 15) Nothing (omega arith) tt))))))

bounded_at : (s : St) → Bounded (form_of_st s)
unfolding form_at
bounded_at s = bounded (code_at s.key s.kind s.n)

abbrev pub AllBytes : List (List ℕ) → Type 0
AllBytes [] = Unit {0}
AllBytes (f ∷ fs) = Bytes f × AllBytes fs

-- the fields of a list, from a state at the start of a field
abbrev all_s : Seen → List (List ℕ) → Seen
all_s x [] = x
all_s x (f ∷ fs) = all_s (field_s x f) fs

all_gone : (fs : List (List ℕ)) → all_s gone fs ≡ gone
all_gone [] = refl
all_gone (f ∷ fs) = ap (λ x. all_s (on x close_f) fs) (gone_run f) ∙ all_gone fs
  where
    gone_run : (f : List ℕ) → run_b gone f ≡ gone
    gone_run [] = refl
    gone_run (b ∷ f) = gone_run f

fields_all : (x : Seen) (f : List ℕ) (fs : List (List ℕ)) → fields_s x f fs ≡ all_s x (f ∷ fs)
fields_all x f [] = refl
fields_all x f (g ∷ gs) = fields_all (field_s x f) g gs

-- a whole record leaves the machine at the start of a line
abbrev pub placed : ℕ → Filled → Seen
placed key f = at (begin_of key f.over) f.out

abbrev record_s : St → List ℕ → Option (List ℕ) → Seen
record_s t o none = gone
record_s t o (some vs) = placed t.key (counted t.key t.row (ups t.n vs) t.over (puts t.key t.row t.n vs o))

-- at the start of a field behind the word
pub record Inside (t : St) : Type 0 where
  pub clean : with_num t (num 0 0) ≡ t
  pub behind : eqb t.n 0 ≡ false

close_record_lem : (t : St) (o : List ℕ) → close_r t o ≡ record_s t o (cond (more_after t.key t.kind t.n) none (some []))
unfolding close_record counted puts ups
close_record_lem t o = go (more_after t.key t.kind t.n) refl
  where
    o₁ : List ℕ
    o₁ = set o (tail_at t.key t.row) (tail_of t.key t.n (get_or o 9 0))

    by : (v : Bool) → view (cond v (fed (Some (begin_of t.key t.over)) (set o₁ (count_at t.key) (get_or o (count_at t.key) 0 + 1))) (fed (Some (begin_of t.key true)) o₁))
        ≡ placed t.key (cond v (filled t.over (set o₁ (count_at t.key) (get_or o (count_at t.key) 0 + 1))) (filled true o₁))
    by true = refl
    by false = refl

    go : (u : Bool) → more_after t.key t.kind t.n ≡ u → close_r t o ≡ record_s t o (cond u none (some []))
    go true e = rw e
    go false e = rw e (by (ltb (get_or o (count_at t.key) 0) (limit_of t.key)))

-- the fields behind the word
next_inside : (t : St) (v : ℕ) → Inside (next_of (with_value t v))
unfolding next_of
next_inside t v = record { clean = refl; behind = up_some t.n }

abbrev done_in : St → List ℕ → Option ℕ → Seen
done_in t o none = gone
done_in t o (some v) = at (next_of (with_value t v)) (set o (place_of t.key t.row t.n) (low_of v))

next_puts : (t : St) (o : List ℕ) (v : ℕ) (vs : List ℕ)
    → record_s (next_of (with_value t v)) (set o (place_of t.key t.row t.n) (low_of v)) (some vs) ≡ record_s t o (some (v ∷ vs))
unfolding next_of puts ups
next_puts t o v vs = refl

field_in : (t : St) (o : List ℕ) (f : List ℕ) → Inside t → Bytes f → (m : Option ℕ) → field_of (form_of_st t) f ≡ m → field_s (at t o) f ≡ done_in t o m
field_in t o f i b m e =
    ap (λ s. field_s (at s o) f) (sym i.clean) ∙ field_done t o f (bounded_at t) b ∙ ap (done_s t o) e ∙ done m
  where
    done : (m : Option ℕ) → done_s t o m ≡ done_in t o m
    done none = refl
    done (some v) = ap (λ u. done_b u t o v) i.behind

values_in : (fs : List (List ℕ)) (t : St) (o : List ℕ) → Inside t → AllBytes fs → on (all_s (at t o) fs) close_r ≡ record_s t o (values_of t.key t.kind t.n fs)
unfolding values_of next_of
values_in [] t o i b = close_record_lem t o
values_in (f ∷ fs) t o i b = go (field_of (form_of_st t) f) refl
    (λ v. values_in fs (next_of (with_value t v)) (set o (place_of t.key t.row t.n) (low_of v)) (next_inside t v) b.1)
  where
    later : (v : ℕ) (m : Option (List ℕ)) → record_s (next_of (with_value t v)) (set o (place_of t.key t.row t.n) (low_of v)) m ≡ record_s t o (m >>= λ vs. some (v ∷ vs))
    later v m = later_by m
      where
        later_by : (m : Option (List ℕ)) → record_s (next_of (with_value t v)) (set o (place_of t.key t.row t.n) (low_of v)) m ≡ record_s t o (m >>= λ vs. some (v ∷ vs))
        later_by none = refl
        later_by (some vs) = next_puts t o v vs

    go : (m : Option ℕ) → field_of (form_of_st t) f ≡ m
        → ((v : ℕ) → on (all_s (at (next_of (with_value t v)) (set o (place_of t.key t.row t.n) (low_of v))) fs) close_r
        ≡ record_s (next_of (with_value t v)) (set o (place_of t.key t.row t.n) (low_of v)) (values_of t.key (kind_after t.n t.kind v) (up_of t.n) fs))
        → on (all_s (field_s (at t o) f) fs) close_r ≡ record_s t o (m >>= λ v. values_of t.key (kind_after t.n t.kind v) (up_of t.n) fs >>= λ vs. some (v ∷ vs))
    go none e ih = ap (λ x. on (all_s x fs) close_r) (field_in t o f i b.0 none e) ∙ ap (λ x. on x close_r) (all_gone fs)
    go (some v) e ih = ap (λ x. on (all_s x fs) close_r) (field_in t o f i b.0 (some v) e) ∙ ih v ∙ later v (values_of t.key (kind_after t.n t.kind v) (up_of t.n) fs)

-- a line from its start
abbrev pub line_p : ℕ → Filled → Option Record → Seen
line_p prev f none = gone
line_p prev f (some r) = cond (not (follows_of prev (keyed r))) gone (placed (keyed r) (put f r))

unfoldable pub started : ℕ → Filled → ℕ → St
started prev f k = record { prev = prev; key = k; kind = 0; n = 1; row = row_of f.out k; over = f.over; value = 0; len = 0 }

pub fields_bytes : (l : List ℕ) → Bytes l → Bytes (fields_of l).first × AllBytes (fields_of l).rest
unfolding fields_of
fields_bytes [] b = (tt, tt)
fields_bytes (c ∷ l) b = go (eqb c 9) (fields_of l) (fields_bytes l b.1)
  where
    go : (t : Bool) (r : Fields) → Bytes r.first × AllBytes r.rest
        → Bytes (cond t (field_ended r) (onto_field c r)).first
        × AllBytes (cond t (field_ended r) (onto_field c r)).rest
    go true r h = (tt, (h.0, h.1))
    go false r h = ((b.0, h.0), h.1)

pub first_field : (prev : ℕ) (f : Filled) (w : List ℕ) → Bytes w → field_s (placed prev f) w ≡ done_s (begin_of prev f.over) f.out (spelled w)
unfolding begin_of form_at code_at form_row forms form_of field_of
first_field prev f w b = field_done (begin_of prev f.over) f.out w tt b

-- a number is a word's, or above them all
abbrev pub Named? : ℕ → Option Named → Type 0
Named? k none = ltb 11 k ≡ true
Named? k (some w) = k ≡ word_number w

pub named : (k : ℕ) → Named? k (word_of k)
named zero = refl
named (suc zero) = refl
named (suc (suc zero)) = refl
named (suc (suc (suc zero))) = refl
named (suc (suc (suc (suc zero)))) = refl
named (suc (suc (suc (suc (suc zero))))) = refl
named (suc (suc (suc (suc (suc (suc zero)))))) = refl
named (suc (suc (suc (suc (suc (suc (suc zero))))))) = refl
named (suc (suc (suc (suc (suc (suc (suc (suc zero)))))))) = refl
named (suc (suc (suc (suc (suc (suc (suc (suc (suc zero))))))))) = refl
named (suc (suc (suc (suc (suc (suc (suc (suc (suc (suc zero)))))))))) = refl
named (suc (suc (suc (suc (suc (suc (suc (suc (suc (suc (suc zero))))))))))) = refl
named (suc (suc (suc (suc (suc (suc (suc (suc (suc (suc (suc (suc k)))))))))))) = lt-ltb 11 (suc (suc (suc (suc (suc (suc (suc (suc (suc (suc (suc (suc k)))))))))))) (omega arith)

pub no_follower : (prev k : ℕ) → ltb 11 k ≡ true → not (follows_of prev k) ≡ true
unfolding follows_of
no_follower prev k e = go (ltb 12 prev)
  where
    go : (t : Bool) → not (cond t false (cond (ltb 11 k) false (not (eqb (get_or order (prev * 12 + k) 0) 0)))) ≡ true
    go true = refl
    go false = rw e

-- the record of a line's fields
abbrev pub fields_record : List ℕ → List (List ℕ) → Option Record
fields_record w rest = word_among all_words w >>= λ v. read_record v rest >>= λ ns. some (rec v ns)

pub fields_record_lem : (prev : ℕ) (f : Filled) (first : List ℕ) (rest : List (List ℕ)) → Bytes first → AllBytes rest
    → on (fields_s (placed prev f) first rest) close_r ≡ line_p prev f (fields_record first rest)
unfolding begin_of start_of started put
fields_record_lem prev f first rest b bs =
    ap (λ x. on x close_r) (fields_all (placed prev f) first rest)
    ∙ ap (λ x. on (all_s x rest) close_r) (first_field prev f first b)
    ∙ go (spelled first)
    ∙ ap (λ (o : Option Named). line_p prev f (o >>= λ w. read_record w rest >>= λ ns. some (rec w ns))) (record_word first b)
  where
    refuse : (m : Option (List ℕ)) (w : Named) → not (follows_of prev (word_number w)) ≡ true → gone ≡ line_p prev f (m >>= λ ns. some (rec w ns))
    refuse none w e = refl
    refuse (some ns) w e = rw e

    admit : (m : Option (List ℕ)) (w : Named) → not (follows_of prev (word_number w)) ≡ false → record_s (started prev f (word_number w)) f.out m ≡ line_p prev f (m >>= λ ns. some (rec w ns))
    admit none w e = refl
    admit (some ns) w e = rw e

    begun : ℕ → Bool → Seen
    begun k u = on (all_s (view_n (cond u None (Some (started prev f k))) f.out) rest) close_r

    by : (w : Named) (u : Bool) → not (follows_of prev (word_number w)) ≡ u → begun (word_number w) u ≡ line_p prev f (read_record w rest >>= λ ns. some (rec w ns))
    by w true e = ap (λ x. on x close_r) (all_gone rest) ∙ refuse (read_record w rest) w e
    by w false e =
        values_in rest (started prev f (word_number w)) f.out (record { clean = refl; behind = refl }) bs
        ∙ ap (λ (m : Option (List ℕ)). record_s (started prev f (word_number w)) f.out m) (record_values w rest)
        ∙ admit (read_record w rest) w e

    word : (k : ℕ) (m : Option Named) → Named? k m → begun k (not (follows_of prev k)) ≡ line_p prev f (m >>= λ w. read_record w rest >>= λ ns. some (rec w ns))
    word k none h = ap (λ (u : Bool). begun k u) (no_follower prev k h) ∙ ap (λ x. on x close_r) (all_gone rest)
    word k (some w) h = ap (λ (j : ℕ). begun j (not (follows_of prev j))) h ∙ by w (not (follows_of prev (word_number w))) refl

    go : (m : Option ℕ) → on (all_s (done_s (begin_of prev f.over) f.out m) rest) close_r ≡ line_p prev f ((m >>= λ v. word_of (key_of v)) >>= λ w. read_record w rest >>= λ ns. some (rec w ns))
    go none = ap (λ x. on x close_r) (all_gone rest)
    go (some v) = word (key_of v) (word_of (key_of v)) (named (key_of v))

pub line_record : (prev : ℕ) (f : Filled) (l : List ℕ) → Bytes l → line_s (placed prev f) l ≡ line_p prev f (record_of l)
unfolding record_of
line_record prev f l b =
    line_fields l (placed prev f) ∙ fields_record_lem prev f (fields_of l).first (fields_of l).rest (fields_bytes l b).0 (fields_bytes l b).1

-- the records of a sheet, in order
abbrev pub go_s : ℕ → Filled → List Record → Seen
go_s prev f [] = placed prev f
go_s prev f (r ∷ rs) = cond (not (follows_of prev (keyed r))) gone (go_s (keyed r) (put f r) rs)

abbrev pub sheet_s : ℕ → Filled → Option (List Record) → Seen
sheet_s prev f none = gone
sheet_s prev f (some rs) = go_s prev f rs

gone_line : (l : List ℕ) → line_s gone l ≡ gone
gone_line [] = refl
gone_line (b ∷ l) = gone_line l

lines_gone : (ls : List (List ℕ)) → lines_s gone ls ≡ gone
lines_gone [] = refl
lines_gone (l ∷ ls) = ap (λ x. lines_s x ls) (gone_line l) ∙ lines_gone ls

pub lines_records : (ls : List (List ℕ)) → AllBytes ls → (prev : ℕ) (f : Filled) → lines_s (placed prev f) ls ≡ sheet_s prev f (records_of ls)
unfolding records_of
lines_records [] b prev f = refl
lines_records (l ∷ ls) b prev f = ap (λ x. lines_s x ls) (line_record prev f l b.0) ∙ go (record_of l) (λ r. lines_records ls b.1 (keyed r) (put f r))
  where
    refuse : (m : Option (List Record)) (r : Record) → not (follows_of prev (keyed r)) ≡ true → gone ≡ sheet_s prev f (m >>= λ rs. some (r ∷ rs))
    refuse none r e = refl
    refuse (some rs) r e = rw e

    admit : (m : Option (List Record)) (r : Record) → not (follows_of prev (keyed r)) ≡ false → sheet_s (keyed r) (put f r) m ≡ sheet_s prev f (m >>= λ rs. some (r ∷ rs))
    admit none r e = refl
    admit (some rs) r e = rw e

    by : (r : Record) → lines_s (placed (keyed r) (put f r)) ls ≡ sheet_s (keyed r) (put f r) (records_of ls) → (u : Bool) → not (follows_of prev (keyed r)) ≡ u
        → lines_s (cond u gone (placed (keyed r) (put f r))) ls ≡ sheet_s prev f (records_of ls >>= λ rs. some (r ∷ rs))
    by r ih true e = lines_gone ls ∙ refuse (records_of ls) r e
    by r ih false e = ih ∙ admit (records_of ls) r e

    go : (m : Option Record) → ((r : Record) → lines_s (placed (keyed r) (put f r)) ls ≡ sheet_s (keyed r) (put f r) (records_of ls))
        → lines_s (line_p prev f m) ls ≡ sheet_s prev f (m >>= λ r. records_of ls >>= λ rs. some (r ∷ rs))
    go none ih = lines_gone ls
    go (some r) ih = by r (ih r) (not (follows_of prev (keyed r))) refl
