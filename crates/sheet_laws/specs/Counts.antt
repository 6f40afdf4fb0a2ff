-- How many records of each kind the table has, and what it means that one was full. Assumes nothing.
use Rattle.std.specs.Prelude.{◌≡◌, refl, List, [], ◌∷◌, Bool, true, false, cond, ℕ, ◌+◌, ◌≤◌, ◌<◌, length, replicate, ltb, eqb}
use Rattle.std.proofs.Common.{sym, ap, ◌∙◌, subst, arith}
use Rattle.std.proofs.lemmas.Bool.{false≢true}
use Rattle.std.proofs.lemmas.List.{length-replicate, get_or-replicate}
use Rattle.std.proofs.Math.ListN.{get_or-eq_default}
use borrow.Author.Tests.{ltb-true, ltb-false}
use Rattle.definition.specs.JobSheet.{Word as Named, opt, bank, class, reg, block, value, vgroup, operand, hint, seg, use', end, word_number, Record, only}
use Rattle.sheet_rules.specs.Places.{limits, limit_of, count_at, table_words}
use Rattle.sheet_laws.specs.Table.{Filled, keyed, put, fill}
use Rattle.sheet_laws.specs.Regions.{row_low}
use Rattle.sheet_laws.specs.Put.{cnt, put_long, put_over, put_count}
use Rattle.sheet_laws.specs.Stands.{Good, room}

-- a table of zeros
pub good_zeros : (n : ℕ) → n ≡ table_words → Good (replicate n 0)
good_zeros n e = record {
  long = length-replicate n 0 ∙ e;
  zeros = λ k i m a b h l w. get_or-replicate n _ 0 0 (subst (λ (t : ℕ). Rattle.sheet_laws.specs.Regions.cell k i m < t) (sym e) (row_low k i m (omega arith) l w));
}

pub zero_count : (n : ℕ) → n ≡ table_words → (k : ℕ) → cnt (replicate n 0) k ≡ 0
zero_count n e k = go (ltb (count_at k) n) refl
  where
    go : (t : Bool) → ltb (count_at k) n ≡ t → cnt (replicate n 0) k ≡ 0
    go true q = get_or-replicate n (count_at k) 0 0 (ltb-true (count_at k) n q)
    go false q =
        let h : n ≤ count_at k = ltb-false (count_at k) n q in
        let l : length {A = ℕ} (replicate n 0) ≡ n = length-replicate n 0 in
        get_or-eq_default (replicate n 0) 0 (omega arith)

-- one of them or none
abbrev one : Bool → ℕ
one true = 1
one false = 0

only_long : (w : Named) (r : Record) (rs : List Record) → length (only w (r ∷ rs)) ≡ one (eqb (keyed r) (word_number w)) + length (only w rs)
unfolding only
only_long w r rs = go (eqb (keyed r) (word_number w))
  where
    go : (t : Bool) → length (cond t (r.fields ∷ only w rs) (only w rs)) ≡ one t + length (only w rs)
    go true = omega arith
    go false = omega arith

pick_one : (t : Bool) (n : ℕ) → cond t (n + 1) n ≡ n + one t
pick_one true n = refl
pick_one false n = omega arith

-- the counts of a table that was not full
pub fill_count : (rs : List Record) (f : Filled) → length f.out ≡ table_words → (fill f rs).over ≡ false
    → (w : Named) → 1 ≤ word_number w → word_number w ≤ 10 → cnt (fill f rs).out (word_number w) ≡ cnt f.out (word_number w) + length (only w rs)
unfolding fill only
fill_count [] f l e w a b = omega arith
fill_count (r ∷ rs) f l e w a b =
    let q : cnt f.out (keyed r) < limit_of (keyed r) = room rs f r l e in
    let i : cnt (fill (put f r) rs).out (word_number w) ≡ cnt (put f r).out (word_number w) + length (only w rs) = fill_count rs (put f r) (put_long f r l q) e w a b in
    let p : cnt (put f r).out (word_number w) ≡ cnt f.out (word_number w) + one (eqb (keyed r) (word_number w)) = put_count f r l q (word_number w) a b ∙ pick_one (eqb (keyed r) (word_number w)) (cnt f.out (word_number w)) in
    let o : length (only w (r ∷ rs)) ≡ one (eqb (keyed r) (word_number w)) + length (only w rs) = only_long w r rs in
    omega arith

pub fill_long : (rs : List Record) (f : Filled) → length f.out ≡ table_words → (fill f rs).over ≡ false → length (fill f rs).out ≡ table_words
unfolding fill
fill_long [] f l e = l
fill_long (r ∷ rs) f l e = fill_long rs (put f r) (put_long f r l (room rs f r l e)) e

-- ---- a table that was full

-- a kind with more records than its limit
pub record TooMany (T : List ℕ) (rs : List Record) : Type 0 where
  pub word : Named
  pub low : 1 ≤ word_number word
  pub high : word_number word ≤ 10
  pub more : limit_of (word_number word) < cnt T (word_number word) + length (only word rs)

-- opt and end are never full
full_counted : (w : Named) (T : List ℕ) → length T ≡ table_words → limit_of (word_number w) ≤ cnt T (word_number w) → (1 ≤ word_number w) × (word_number w ≤ 10)
unfolding limit_of limits count_at
full_counted opt T l h = let z : cnt T 0 ≡ 0 = get_or-eq_default T 0 (omega arith) in absurd (omega (arith, h, z))
full_counted bank T l h = (omega arith, omega arith)
full_counted class T l h = (omega arith, omega arith)
full_counted reg T l h = (omega arith, omega arith)
full_counted block T l h = (omega arith, omega arith)
full_counted value T l h = (omega arith, omega arith)
full_counted vgroup T l h = (omega arith, omega arith)
full_counted operand T l h = (omega arith, omega arith)
full_counted hint T l h = (omega arith, omega arith)
full_counted seg T l h = (omega arith, omega arith)
full_counted use' T l h = (omega arith, omega arith)
full_counted end T l h = let z : cnt T 11 ≡ 0 = get_or-eq_default T 0 (omega arith) in absurd (omega (arith, h, z))

pub fill_over : (rs : List Record) (f : Filled) → length f.out ≡ table_words → f.over ≡ false → (fill f rs).over ≡ true → TooMany f.out rs
unfolding fill
fill_over [] f l n e = absurd (false≢true (sym n ∙ e))
fill_over (r ∷ rs) f l n e =
    go (ltb (cnt f.out (keyed r)) (limit_of (keyed r))) refl
    (λ q. fill_over rs (put f r) (put_long f r l q) (put_over f r l q ∙ n) e)
  where
    go : (t : Bool) → ltb (cnt f.out (keyed r)) (limit_of (keyed r)) ≡ t → (cnt f.out (keyed r) < limit_of (keyed r) → TooMany (put f r).out rs) → TooMany f.out (r ∷ rs)
    go true q ih =
        let h : cnt f.out (keyed r) < limit_of (keyed r) = ltb-true (cnt f.out (keyed r)) (limit_of (keyed r)) q in
        let m : TooMany (put f r).out rs = ih h in
        let w : Named = m.word in
        let p : cnt (put f r).out (word_number w) ≡ cnt f.out (word_number w) + one (eqb (keyed r) (word_number w)) = put_count f r l h (word_number w) m.low m.high ∙ pick_one (eqb (keyed r) (word_number w)) (cnt f.out (word_number w)) in
        let o : length (only w (r ∷ rs)) ≡ one (eqb (keyed r) (word_number w)) + length (only w rs) = only_long w r rs in
        record { word = w; low = m.low; high = m.high; more = omega (arith, p, o, m.more) }
    go false q ih =
        let h : limit_of (keyed r) ≤ cnt f.out (keyed r) = ltb-false (cnt f.out (keyed r)) (limit_of (keyed r)) q in
        let c : (1 ≤ keyed r) × (keyed r ≤ 10) = full_counted r.word f.out l h in
        let o : length (only r.word (r ∷ rs)) ≡ one (eqb (keyed r) (keyed r)) + length (only r.word rs) = only_long r.word r rs in
        let t : one (eqb (keyed r) (keyed r)) ≡ 1 = ap one (borrow.Author.Tests.eq-eqb (keyed r) (keyed r) refl) in
        record { word = r.word; low = c.0; high = c.1; more = omega (arith, o, t, h) }
