-- What holds of the records of every sheet: 32-bit fields, one opt, and that first. Assumes nothing.
use Rattle.std.specs.Prelude.{◌≡◌, refl, List, [], ◌∷◌, Bool, true, false, ℕ, ◌≤◌}
use Rattle.std.proofs.Common.{sym, ◌∙◌, arith}
use Rattle.std.proofs.lemmas.Bool.{false≢true}
use Rattle.std.proofs.Math.Option.{Option, none, some}
use Rattle.definition.specs.Text.{◌>>=◌, given, lines_of, fields_of}
use Rattle.definition.specs.JobSheet.{Word as Named, opt, bank, class, reg, block, value, vgroup, operand, hint, seg, use', end, word_number, all_words, word_among, read_record, Record, record_of, records_of, next, among, ordered, sheet_of}
use Rattle.definition.specs.Conversion.{rec}
use Rattle.sheet_laws.specs.Values.{Small, AllSmall, record_small}
use Rattle.sheet_laws.specs.Stands.{NoOpt, SmallRecords}

module _ {A : Type 0} where
  -- of what an option has
  abbrev pub On : (A → Type 0) → Option A → Type 0
  On P none = Unit {0}
  On P (some a) = P a

one_small : (l : List ℕ) → On (λ (r : Record). Small r.fields) (record_of l)
unfolding record_of
one_small l = go (word_among all_words (fields_of l).first)
  where
    by : (w : Named) (o : Option (List ℕ)) → AllSmall o → On (λ (r : Record). Small r.fields) (o >>= λ ns. some (rec w ns))
    by w none h = tt
    by w (some ns) h = h

    go : (o : Option Named) → On (λ (r : Record). Small r.fields) (o >>= λ w. read_record w (fields_of l).rest >>= λ ns. some (rec w ns))
    go none = tt
    go (some w) = by w (read_record w (fields_of l).rest) (record_small w (fields_of l).rest)

all_small : (ls : List (List ℕ)) → On SmallRecords (records_of ls)
unfolding records_of
all_small [] = tt
all_small (l ∷ ls) = go (record_of l) (one_small l) (records_of ls) (all_small ls)
  where
    go : (o : Option Record) → On (λ (r : Record). Small r.fields) o → (q : Option (List Record)) → On SmallRecords q → On SmallRecords (o >>= λ r. q >>= λ rs. some (r ∷ rs))
    go none h q g = tt
    go (some r) h none g = tt
    go (some r) h (some rs) g = (h, g)

-- one opt, and that first
abbrev pub Opened : List Record → Type 0
Opened [] = ⊥
Opened (r ∷ rs) = (r.word ≡ opt) × NoOpt rs

is_opt : (w : Named) → among w (opt ∷ []) ≡ true → w ≡ opt
is_opt opt e = refl
is_opt bank e = absurd (false≢true e)
is_opt class e = absurd (false≢true e)
is_opt reg e = absurd (false≢true e)
is_opt block e = absurd (false≢true e)
is_opt value e = absurd (false≢true e)
is_opt vgroup e = absurd (false≢true e)
is_opt operand e = absurd (false≢true e)
is_opt hint e = absurd (false≢true e)
is_opt seg e = absurd (false≢true e)
is_opt use' e = absurd (false≢true e)
is_opt end e = absurd (false≢true e)

not_opt : (w : Named) (ws : List Named) → among opt ws ≡ false → among w ws ≡ true → 1 ≤ word_number w
not_opt opt ws f e = absurd (false≢true (sym f ∙ e))
not_opt bank ws f e = omega arith
not_opt class ws f e = omega arith
not_opt reg ws f e = omega arith
not_opt block ws f e = omega arith
not_opt value ws f e = omega arith
not_opt vgroup ws f e = omega arith
not_opt operand ws f e = omega arith
not_opt hint ws f e = omega arith
not_opt seg ws f e = omega arith
not_opt use' ws f e = omega arith
not_opt end ws f e = omega arith

opt_follows_none : (w : Named) → among opt (next w) ≡ false
opt_follows_none opt = refl
opt_follows_none bank = refl
opt_follows_none class = refl
opt_follows_none reg = refl
opt_follows_none block = refl
opt_follows_none value = refl
opt_follows_none vgroup = refl
opt_follows_none operand = refl
opt_follows_none hint = refl
opt_follows_none seg = refl
opt_follows_none use' = refl
opt_follows_none end = refl

-- a record that may come, and the order behind it
pub ordered_first : (ws : List Named) (r : Record) (rs : List Record) → ordered ws (r ∷ rs) ≡ true → (among r.word ws ≡ true) × (ordered (next r.word) rs ≡ true)
unfolding ordered
ordered_first [] r rs e = absurd (false≢true e)
ordered_first (w ∷ ws) r rs e = go (among r.word (w ∷ ws)) e
  where
    go : (t : Bool) → elim t [ true ↦ ordered (next r.word) rs | false ↦ false ] ≡ true → (t ≡ true) × (ordered (next r.word) rs ≡ true)
    go true h = (refl, h)
    go false h = absurd (false≢true h)

no_opt : (rs : List Record) (ws : List Named) → among opt ws ≡ false → ordered ws rs ≡ true → NoOpt rs
no_opt [] ws f e = tt
no_opt (r ∷ rs) ws f e =
    let o = ordered_first ws r rs e in
    (not_opt r.word ws f o.0, no_opt rs (next r.word) (opt_follows_none r.word) o.1)

pub opened : (rs : List Record) → ordered (opt ∷ []) rs ≡ true → Opened rs
unfolding ordered
opened [] e = false≢true e
opened (r ∷ rs) e =
    let o = ordered_first (opt ∷ []) r rs e in
    (is_opt r.word o.0, no_opt rs (next r.word) (opt_follows_none r.word) o.1)

-- the records of a sheet
pub record Sound (rs : List Record) : Type 0 where
  pub small : SmallRecords rs
  pub order : ordered (opt ∷ []) rs ≡ true

pub sheet_sound : (bs : List ℕ) → On Sound (sheet_of bs)
unfolding sheet_of
sheet_sound bs = go (lines_of bs)
  where
    last : (rs : List Record) → SmallRecords rs → (t : Bool) → ordered (opt ∷ []) rs ≡ t → On Sound (given t rs)
    last rs s true e = record { small = s; order = e }
    last rs s false e = tt

    by : (o : Option (List Record)) → On SmallRecords o → On Sound (o >>= λ rs. given (ordered (opt ∷ []) rs) rs)
    by none h = tt
    by (some rs) h = last rs h (ordered (opt ∷ []) rs) refl

    go : (o : Option (List (List ℕ))) → On Sound (o >>= λ ls. records_of ls >>= λ rs. given (ordered (opt ∷ []) rs) rs)
    go none = tt
    go (some ls) = by (records_of ls) (all_small ls)
