-- The choices and the use counts of a sheet's table. Assumes nothing.
use Rattle.std.specs.Prelude.{◌≡◌, refl, List, [], ◌∷◌, Bool, true, false, cond, ℕ, suc, ◌+◌, ◌*◌, ◌≤◌, ◌<◌, length, get_or, ltb, eqb}
use Rattle.std.proofs.Common.{sym, ap, ◌∙◌, subst, arith, lt-ltb, le-leb, eqb-true}
use Rattle.std.proofs.lemmas.Bool.{false≢true}
use Rattle.std.proofs.Math.Option.{Option, none, some}
use Rattle.words.specs.RowsAt.{rows_at, rows_at_cons}
use Rattle.definition.specs.Entry.{every}
use Rattle.definition.specs.JobSheet.{Word as Named, opt, bank, class, reg, block, value, vgroup, operand, hint, seg, use', end, word_number, Record, only, next, among, ordered}
use Rattle.definition.specs.Conversion.{rec}
use Rattle.job_shape.specs.Shape.{word_in, rises}
use Rattle.sheet_rules.specs.Places.{bases, base_of, widths, width_of, stored_of}
use Rattle.sheet_laws.specs.Words.{word_of, word_number_lem}
use Rattle.sheet_laws.specs.Table.{keyed}
use Rattle.sheet_laws.specs.Regions.{first_of}
use Rattle.sheet_laws.specs.Stands.{Row, Stands, bump}
use Rattle.sheet_laws.specs.Sheets.{ordered_first}
use Rattle.sheet_laws.specs.Choices.{Chosen, ChosenRecords}
use Rattle.sheet_job.specs.Decode.{Pairs, start, listed, field}

-- ---- a column of a table

abbrev pub Bound : ℕ → ℕ → List (List ℕ) → Type 0
Bound j b [] = Unit {0}
Bound j b (ns ∷ nss) = (get_or ns j 0 < b) × Bound j b nss

every_bound : (j b : ℕ) (xs : List ℕ) (nss : List (List ℕ)) → Pairs (λ a ns. a ≡ get_or ns j 0) xs nss → Bound j b nss → every (λ x. ltb x b) xs ≡ true
unfolding every
every_bound j b [] [] p h = refl
every_bound j b [] (ns ∷ nss) p h = absurd p
every_bound j b (x ∷ xs) [] p h = absurd p
every_bound j b (x ∷ xs) (ns ∷ nss) p h =
    let l : x < b = subst (λ (y : ℕ). y < b) (sym p.0) h.0 in
    rw (lt-ltb x b l) (every_bound j b xs nss p.1 h.1)

-- word j of every row is below b
pub column : (T : List ℕ) (w : Named) (j b : ℕ) → 1 ≤ word_number w → word_number w ≤ 10 → first_of (word_number w) ≡ 0 → j < stored_of (word_number w)
    → (rs : List Record) → Stands T (λ k. 0) rs → Bound j b (only w rs)
    → every (λ x. ltb x b) (rows_at (word_in j) T (start (word_number w) 0) (width_of (word_number w)) (length (only w rs))) ≡ true
column T w j b low high z h rs s d =
    every_bound j b (rows_at (word_in j) T (start (word_number w) 0) (width_of (word_number w)) (length (only w rs))) (only w rs)
    (listed T w (word_in j) (λ a ns. a ≡ get_or ns j 0) low high (λ i ns u r. field T (word_number w) i ns u z r j (start (word_number w) i + j) h refl) rs (λ k. 0) s) d

abbrev the : Named → Option Named → Named
the d none = d
the d (some w) = w

same_word : (v w : Named) → word_number v ≡ word_number w → v ≡ w
same_word v w e = sym (ap (the w) (word_number_lem v)) ∙ ap (λ (k : ℕ). the w (word_of k)) e ∙ ap (the w) (word_number_lem w)

pub bound_of : (w : Named) (j b : ℕ) → ((ns : List ℕ) → Chosen w ns → get_or ns j 0 < b) → (rs : List Record) → ChosenRecords rs → Bound j b (only w rs)
unfolding only
bound_of w j b f [] h = tt
bound_of w j b f (r ∷ rs) h = go (eqb (keyed r) (word_number w)) refl (bound_of w j b f rs h.1)
  where
    go : (t : Bool) → eqb (keyed r) (word_number w) ≡ t → Bound j b (only w rs) → Bound j b (cond t (r.fields ∷ only w rs) (only w rs))
    go false e ih = ih
    go true e ih = (f r.fields (subst (λ (v : Named). Chosen v r.fields) (same_word r.word w (eqb-true (keyed r) (word_number w) e)) h.0), ih)

-- ---- the use counts

abbrev before_on : Named → ℕ → (ℕ → List ℕ) → List ℕ
before_on opt u k = k u
before_on bank u k = k u
before_on class u k = k u
before_on reg u k = k u
before_on block u k = k u
before_on value u k = k u
before_on vgroup u k = k u
before_on operand u k = k u
before_on hint u k = k u
before_on seg u k = u ∷ k u
before_on use' u k = k (u + 1)
before_on end u k = k u

-- how many uses come before each segment, u of them before the records
unfoldable pub before : ℕ → List Record → List ℕ
before u [] = []
before u (r ∷ rs) = before_on r.word u (λ v. before v rs)

counts_step : (T : List ℕ) (w : Named) (ns : List ℕ) (rs : List Record) (c : ℕ → ℕ) → Stands T c (rec w ns ∷ rs)
    → ((d : ℕ → ℕ) → Stands T d rs → rows_at (word_in 4) T (13974 + d 9 * 5) 5 (length (only seg rs)) ≡ before (d 10) rs)
    → rows_at (word_in 4) T (13974 + c 9 * 5) 5 (length (only seg (rec w ns ∷ rs))) ≡ before (c 10) (rec w ns ∷ rs)
unfolding only before bases base_of widths width_of
counts_step T opt ns rs c s ih = ih (bump 0 c) s.1
counts_step T bank ns rs c s ih = ih (bump 1 c) s.1
counts_step T class ns rs c s ih = ih (bump 2 c) s.1
counts_step T reg ns rs c s ih = ih (bump 3 c) s.1
counts_step T block ns rs c s ih = ih (bump 4 c) s.1
counts_step T value ns rs c s ih = ih (bump 5 c) s.1
counts_step T vgroup ns rs c s ih = ih (bump 6 c) s.1
counts_step T operand ns rs c s ih = ih (bump 7 c) s.1
counts_step T hint ns rs c s ih = ih (bump 8 c) s.1
counts_step T use' ns rs c s ih = ih (bump 10 c) s.1
counts_step T end ns rs c s ih = ih (bump 11 c) s.1
counts_step T seg ns rs c s ih =
    let r : Row T 9 (c 9) ns (c 10) = s.0 (omega arith) (omega arith) in
    let e : 13974 + c 9 * 5 + 5 ≡ 13974 + (c 9 + 1) * 5 = omega arith in
    rows_at_cons (word_in 4) T (13974 + c 9 * 5) 5 (length (only seg rs))
    ∙ ap (λ (x : ℕ). x ∷ rows_at (word_in 4) T (13974 + c 9 * 5 + 5) 5 (length (only seg rs))) (r.before refl)
    ∙ ap (λ (a : ℕ). c 10 ∷ rows_at (word_in 4) T a 5 (length (only seg rs))) e
    ∙ ap (λ (l : List ℕ). c 10 ∷ l) (ih (bump 9 c) s.1)

pub counts_list : (T : List ℕ) (rs : List Record) (c : ℕ → ℕ) → Stands T c rs → rows_at (word_in 4) T (13974 + c 9 * 5) 5 (length (only seg rs)) ≡ before (c 10) rs
unfolding only before rows_at
counts_list T [] c s = refl
counts_list T (r ∷ rs) c s = counts_step T r.word r.fields rs c s (λ d t. counts_list T rs d t)

-- they do not fall, nor pass the number of uses
pub rises_before : (rs : List Record) (a u : ℕ) → a ≤ u → rises a (before u rs) (u + length (only use' rs)) ≡ true
unfolding rises before only
rises_before [] a u h = le-leb a (u + 0) (omega arith)
rises_before (r ∷ rs) a u h = go r.word (λ b v l. rises_before rs b v l)
  where
    go : (w : Named) → ((b v : ℕ) → b ≤ v → rises b (before v rs) (v + length (only use' rs)) ≡ true) → rises a (before u (rec w r.fields ∷ rs)) (u + length (only use' (rec w r.fields ∷ rs))) ≡ true
    go opt ih = ih a u h
    go bank ih = ih a u h
    go class ih = ih a u h
    go reg ih = ih a u h
    go block ih = ih a u h
    go value ih = ih a u h
    go vgroup ih = ih a u h
    go operand ih = ih a u h
    go hint ih = ih a u h
    go end ih = ih a u h
    go seg ih = rw (le-leb a u h) (ih u u (omega arith))
    go use' ih =
        let e : u + suc (length (only use' rs)) ≡ u + 1 + length (only use' rs) = omega arith in
        ap (λ (n : ℕ). rises a (before (u + 1) rs) n) e ∙ ih a (u + 1) (omega arith)

-- none comes before the first segment, and none without a segment
pub first_before : (rs : List Record) (ws : List Named) → among use' ws ≡ false → ordered ws rs ≡ true → (u : ℕ) → get_or (before u rs) 0 (u + length (only use' rs)) ≡ u
unfolding before only
first_before [] ws f e u = omega arith
first_before (r ∷ rs) ws f e u = by r.word (ordered_first ws r rs e).0 (ordered_first ws r rs e).1 (λ vs g o. first_before rs vs g o u)
  where
    by : (w : Named) → among w ws ≡ true → ordered (next w) rs ≡ true → ((vs : List Named) → among use' vs ≡ false → ordered vs rs ≡ true → get_or (before u rs) 0 (u + length (only use' rs)) ≡ u)
        → get_or (before u (rec w r.fields ∷ rs)) 0 (u + length (only use' (rec w r.fields ∷ rs))) ≡ u
    by opt a o ih = ih (next opt) refl o
    by bank a o ih = ih (next bank) refl o
    by class a o ih = ih (next class) refl o
    by reg a o ih = ih (next reg) refl o
    by block a o ih = ih (next block) refl o
    by value a o ih = ih (next value) refl o
    by vgroup a o ih = ih (next vgroup) refl o
    by operand a o ih = ih (next operand) refl o
    by hint a o ih = ih (next hint) refl o
    by seg a o ih = refl
    by use' a o ih = absurd (false≢true (sym f ∙ a))
    by end a o ih = ih (next end) refl o
