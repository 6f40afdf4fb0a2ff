-- The records of a sheet stand in the table that they fill: row i of a kind is the i-th record of that kind. Assumes nothing.
use Rattle.std.specs.Prelude.{◌≡◌, refl, List, [], ◌∷◌, Bool, true, false, cond, ℕ, ◌+◌, ◌-◌, ◌≤◌, ◌<◌, length, get_or, set, ltb, eqb}
use Rattle.std.proofs.Common.{sym, ap, ◌∙◌, subst, arith, ltb-true, ltb-false, le-ltb, eq-eqb}
use Rattle.std.proofs.lemmas.Bool.{false≢true}
use Rattle.std.proofs.Math.Seq.{set_out}
use Rattle.definition.specs.JobSheet.{Record}
use Rattle.sheet_rules.specs.Rules.{low_of}
use Rattle.sheet_rules.specs.Places.{limit_of, base_of, width_of, stored_of, count_at, row_at, place_of, up_of, nowhere, table_words}
use Rattle.sheet_laws.specs.Table.{Filled, puts, ups, counted, keyed, row_of, put, fill}
use Rattle.sheet_laws.specs.Values.{Small}
use Rattle.sheet_laws.specs.Regions.{first_of, cell, sizes, row_low, apart}
use Rattle.sheet_laws.specs.Put.{cnt, key_most, put_long, put_other, put_field, put_members, put_before, put_count}

-- row i of a kind holds a record's fields; a vgroup's also their number (9 for more), a segment's the number of uses before it
pub record Row (T : List ℕ) (key i : ℕ) (ns : List ℕ) (u : ℕ) : Type 0 where
  pub within : i < limit_of key
  pub fields : (j : ℕ) → j < stored_of key → get_or T (cell key i (first_of key + j)) 0 ≡ get_or ns j 0
  pub members : key ≡ 6 → get_or T (cell key i 0) 0 ≡ ups 1 ns - 1
  pub before : key ≡ 9 → get_or T (cell key i 4) 0 ≡ u

-- one more of a kind
abbrev pub bump : ℕ → (ℕ → ℕ) → ℕ → ℕ
bump key c k = cond (eqb key k) (c k + 1) (c k)

-- the records stand in the table, the first of a kind in the row that c names
abbrev pub Stands : List ℕ → (ℕ → ℕ) → List Record → Type 0
Stands T c [] = Unit {0}
Stands T c (r ∷ rs) = (1 ≤ keyed r → keyed r ≤ 10 → Row T (keyed r) (c (keyed r)) r.fields (c 10)) × Stands T (bump (keyed r) c) rs

-- a table that records may go on to fill: the rows behind the counts are zero
pub record Good (T : List ℕ) : Type 0 where
  pub long : length T ≡ table_words
  pub zeros : (k i m : ℕ) → 1 ≤ k → k ≤ 10 → cnt T k ≤ i → i < limit_of k → m < width_of k → get_or T (cell k i m) 0 ≡ 0

-- ---- a full table

places_nowhere : (key row n : ℕ) → row ≡ nowhere → place_of key row n ≡ nowhere
unfolding place_of
places_nowhere key row n e = rw e

puts_nowhere : (key row : ℕ) → row ≡ nowhere → (vs : List ℕ) (n : ℕ) (out : List ℕ) → length out ≡ table_words → puts key row n vs out ≡ out
unfolding puts
puts_nowhere key row e [] n out l = refl
puts_nowhere key row e (v ∷ vs) n out l =
    ap (λ (a : ℕ). puts key row (up_of n) vs (set out a (low_of v))) (places_nowhere key row n e)
    ∙ ap (λ (o : List ℕ). puts key row (up_of n) vs o) (set_out out nowhere (low_of v) (omega arith))
    ∙ puts_nowhere key row e vs (up_of n) out l

put_full : (f : Filled) (r : Record) → length f.out ≡ table_words → limit_of (keyed r) ≤ cnt f.out (keyed r) → (put f r).over ≡ true
unfolding put counted row_at
put_full f r l h =
    let t : ltb (cnt f.out (keyed r)) (limit_of (keyed r)) ≡ false = le-ltb (cnt f.out (keyed r)) (limit_of (keyed r)) h in
    let e : row_of f.out (keyed r) ≡ nowhere = rw t in
    let p : puts (keyed r) (row_of f.out (keyed r)) 1 r.fields f.out ≡ f.out = puts_nowhere (keyed r) (row_of f.out (keyed r)) e r.fields 1 f.out l in
    ap (λ (o : List ℕ). (counted (keyed r) (row_of f.out (keyed r)) (ups 1 r.fields) f.over o).over) p ∙ rw t

put_stays : (f : Filled) (r : Record) → f.over ≡ true → (put f r).over ≡ true
unfolding put counted
put_stays f r e = go (ltb (get_or (puts (keyed r) (row_of f.out (keyed r)) 1 r.fields f.out) (count_at (keyed r)) 0) (limit_of (keyed r))) _ _ e refl
  where
    go : (t : Bool) (x y : Filled) → x.over ≡ true → y.over ≡ true → (cond t x y).over ≡ true
    go true x y h g = h
    go false x y h g = g

over_stays : (rs : List Record) (f : Filled) → f.over ≡ true → (fill f rs).over ≡ true
unfolding fill
over_stays [] f e = e
over_stays (r ∷ rs) f e = over_stays rs (put f r) (put_stays f r e)

-- where no table was full, a record had room
pub room : (rs : List Record) (f : Filled) (r : Record) → length f.out ≡ table_words → (fill (put f r) rs).over ≡ false → cnt f.out (keyed r) < limit_of (keyed r)
room rs f r l e = go (ltb (cnt f.out (keyed r)) (limit_of (keyed r))) refl
  where
    go : (t : Bool) → ltb (cnt f.out (keyed r)) (limit_of (keyed r)) ≡ t → cnt f.out (keyed r) < limit_of (keyed r)
    go true q = ltb-true (cnt f.out (keyed r)) (limit_of (keyed r)) q
    go false q = absurd (false≢true (sym e ∙ over_stays rs (put f r) (put_full f r l (ltb-false (cnt f.out (keyed r)) (limit_of (keyed r)) q))))

-- ---- rows are kept

count_rises : (f : Filled) (r : Record) → length f.out ≡ table_words → cnt f.out (keyed r) < limit_of (keyed r) → (k : ℕ) → 1 ≤ k → k ≤ 10 → cnt f.out k ≤ cnt (put f r).out k
count_rises f r l h k a b = rw (put_count f r l h k a b) (go (eqb (keyed r) k))
  where
    go : (t : Bool) → cnt f.out k ≤ cond t (cnt f.out k + 1) (cnt f.out k)
    go true = omega arith
    go false = omega arith

pub kept : (rs : List Record) (f : Filled) → length f.out ≡ table_words → (fill f rs).over ≡ false
    → (k i m : ℕ) → 1 ≤ k → k ≤ 10 → i < cnt f.out k → i < limit_of k → m < width_of k → get_or (fill f rs).out (cell k i m) 0 ≡ get_or f.out (cell k i m) 0
unfolding fill
kept [] f l e k i m a b h g w = refl
kept (r ∷ rs) f l e k i m a b h g w =
    let q : cnt f.out (keyed r) < limit_of (keyed r) = room rs f r l e in
    let up : cnt f.out k ≤ cnt (put f r).out k = count_rises f r l q k a b in
    let low : 10 ≤ base_of k = (sizes k (omega arith)).low in
    kept rs (put f r) (put_long f r l q) e k i m a b (omega arith) g w
    ∙ put_other f r l q (cell k i m) (omega arith) (row_low k i m (omega arith) g w)
    (λ n p s. apart k (keyed r) i (cnt f.out (keyed r)) m n (omega arith) (key_most r.word) g q w p (λ z. subst (λ (x : ℕ). i < cnt f.out x) z h) s)

-- the options stay, where no second opt comes
abbrev pub NoOpt : List Record → Type 0
NoOpt [] = Unit {0}
NoOpt (r ∷ rs) = (1 ≤ keyed r) × NoOpt rs

pub kept_opt : (rs : List Record) (f : Filled) → length f.out ≡ table_words → (fill f rs).over ≡ false → NoOpt rs
    → (m : ℕ) → 0 < limit_of 0 → m < width_of 0 → get_or (fill f rs).out (cell 0 0 m) 0 ≡ get_or f.out (cell 0 0 m) 0
unfolding fill
kept_opt [] f l e o m z w = refl
kept_opt (r ∷ rs) f l e o m z w =
    let q : cnt f.out (keyed r) < limit_of (keyed r) = room rs f r l e in
    let low : 10 ≤ base_of 0 = (sizes 0 (omega arith)).low in
    let one : 1 ≤ keyed r = o.0 in
    kept_opt rs (put f r) (put_long f r l q) e o.1 m z w
    ∙ put_other f r l q (cell 0 0 m) (omega arith) (row_low 0 0 m (omega arith) z w)
    (λ n p s. apart 0 (keyed r) 0 (cnt f.out (keyed r)) m n (omega arith) (key_most r.word) z q w p (λ y. absurd (omega (arith, y, one))) s)

-- ---- a record's own row

good_put : (f : Filled) (r : Record) → Good f.out → cnt f.out (keyed r) < limit_of (keyed r) → Good (put f r).out
good_put f r g q = record {
  long = put_long f r g.long q;
  zeros =
      λ k i m a b h l w.
      let up : cnt f.out k ≤ cnt (put f r).out k = count_rises f r g.long q k a b in
      let low : 10 ≤ base_of k = (sizes k (omega arith)).low in
      put_other f r g.long q (cell k i m) (omega arith) (row_low k i m (omega arith) l w)
      (λ n p s. apart (keyed r) k (cnt f.out (keyed r)) i n m (key_most r.word) (omega arith) q l p w (λ z. later k i a b h z) (sym s))
      ∙ g.zeros k i m a b (omega arith) l w;
}
  where
    later : (k i : ℕ) → 1 ≤ k → k ≤ 10 → cnt (put f r).out k ≤ i → keyed r ≡ k → cnt f.out (keyed r) < i
    later k i a b h z =
        let e : cnt (put f r).out k ≡ cond (eqb (keyed r) k) (cnt f.out k + 1) (cnt f.out k) = put_count f r g.long q k a b in
        let t : eqb (keyed r) k ≡ true = eq-eqb (keyed r) k z in
        let e' : cnt (put f r).out k ≡ cnt f.out k + 1 = e ∙ ap (λ (u : Bool). cond u (cnt f.out k + 1) (cnt f.out k)) t in
        let s : cnt f.out (keyed r) ≡ cnt f.out k = ap (λ (x : ℕ). cnt f.out x) z in
        omega arith

row_put : (f : Filled) (r : Record) → Good f.out → (q : cnt f.out (keyed r) < limit_of (keyed r)) → 1 ≤ keyed r → keyed r ≤ 10 → Small r.fields
    → Row (put f r).out (keyed r) (cnt f.out (keyed r)) r.fields (cnt f.out 10)
unfolding count_at
row_put f r g q a b s = record {
  within = q;
  fields =
      λ j h.
      put_field f r g.long q j h s
      ∙ ap (λ (d : ℕ). get_or r.fields j d)
      (g.zeros (keyed r) (cnt f.out (keyed r)) (first_of (keyed r) + j) a b (omega arith) q (omega (arith, h, (sizes (keyed r) (key_most r.word)).fits)));
  members = λ e. put_members f r g.long q e;
  before = λ e. put_before f r g.long q e;
}

row_kept : (T T' : List ℕ) (key i : ℕ) (ns : List ℕ) (u : ℕ) → key ≤ 11 → ((m : ℕ) → m < width_of key → get_or T' (cell key i m) 0 ≡ get_or T (cell key i m) 0) → Row T key i ns u → Row T' key i ns u
unfolding width_of Rattle.sheet_rules.specs.Places.widths
row_kept T T' key i ns u hk h r = record {
  within = r.within;
  fields = λ j l. h (first_of key + j) (omega (arith, l, (sizes key hk).fits)) ∙ r.fields j l;
  members = λ e. h 0 (subst (λ (k : ℕ). 0 < width_of k) (sym e) (omega arith)) ∙ r.members e;
  before = λ e. h 4 (subst (λ (k : ℕ). 4 < width_of k) (sym e) (omega arith)) ∙ r.before e;
}

abbrev pub SmallRecords : List Record → Type 0
SmallRecords [] = Unit {0}
SmallRecords (r ∷ rs) = Small r.fields × SmallRecords rs

-- THE LAW: the records stand in the table that they fill
pub stands : (rs : List Record) (f : Filled) (c : ℕ → ℕ) → Good f.out → (fill f rs).over ≡ false → SmallRecords rs
    → ((k : ℕ) → 1 ≤ k → k ≤ 10 → c k ≡ cnt f.out k) → Stands (fill f rs).out c rs
unfolding fill
stands [] f c g e s n = tt
stands (r ∷ rs) f c g e s n =
    let q : cnt f.out (keyed r) < limit_of (keyed r) = room rs f r g.long e in
    (λ a b. own q a b, stands rs (put f r) (bump (keyed r) c) (good_put f r g q) e s.1 (λ k a b. counts q k a b))
  where
    counts : cnt f.out (keyed r) < limit_of (keyed r) → (k : ℕ) → 1 ≤ k → k ≤ 10 → bump (keyed r) c k ≡ cnt (put f r).out k
    counts q k a b =
        ap (λ (x : ℕ). cond (eqb (keyed r) k) (x + 1) x) (n k a b) ∙ sym (put_count f r g.long q k a b)

    own : cnt f.out (keyed r) < limit_of (keyed r) → 1 ≤ keyed r → keyed r ≤ 10 → Row (fill (put f r) rs).out (keyed r) (c (keyed r)) r.fields (c 10)
    own q a b =
        let one : cnt (put f r).out (keyed r) ≡ cnt f.out (keyed r) + 1 = put_count f r g.long q (keyed r) a b ∙ ap (λ (u : Bool). cond u (cnt f.out (keyed r) + 1) (cnt f.out (keyed r))) (eq-eqb (keyed r) (keyed r) refl) in
        let w : Row (fill (put f r) rs).out (keyed r) (cnt f.out (keyed r)) r.fields (cnt f.out 10) =
        row_kept (put f r).out (fill (put f r) rs).out (keyed r) (cnt f.out (keyed r)) r.fields (cnt f.out 10) (key_most r.word)
        (λ m h. kept rs (put f r) (put_long f r g.long q) e (keyed r) (cnt f.out (keyed r)) m a b (omega arith) q h) (row_put f r g q a b s.0) in
        subst (λ (i : ℕ). Row (fill (put f r) rs).out (keyed r) i r.fields (c 10)) (sym (n (keyed r) a b))
        (subst (λ (u : ℕ). Row (fill (put f r) rs).out (keyed r) (cnt f.out (keyed r)) r.fields u) (sym (n 10 (omega arith) (omega arith))) w)
