-- One step of the cursor: whether a record of its kind comes next, and what is left behind. Assumes nothing.
use Rattle.std.specs.Prelude.{◌≡◌, refl, Bool, true, false, cond, List, [], ◌∷◌, ℕ, suc, ◌+◌, ◌-◌, ◌*◌, ◌≤◌, ◌<◌}
use Rattle.std.specs.Prelude.{ltb, eqb, length}
use Rattle.std.proofs.Common.{sym, ap, ◌∙◌, lt-ltb, le-ltb, eq-eqb}
use Rattle.std.proofs.lemmas.Bool.{false≢true}
use native.Mathlib.Omega.{arith}
use Rattle.words.specs.RowsAt.{length_rows_at}
use Rattle.definition.specs.Types.{Job}
use Rattle.definition.specs.JobSheet.{Word, opt, seg, use', end}
use Rattle.definition.specs.JobSheet.{word_number, Record, next, among, only, ordered, segments_of}
use Rattle.definition.specs.Conversion.{rec}
use Rattle.uses.specs.Rows.{raw_row}
use Rattle.sheet_laws.specs.Sheets.{ordered_first}
use Rattle.sheet_job.specs.Segments.{next_first, Claim, claim}
use Rattle.sheet_job.specs.Answers.{none_waits}
use Rattle.sheet_laws.specs.Jobs.{same_word}
use Rattle.job_pages.specs.Cursors.{Cursor, shown_row, rows_in, has_row}
use Rattle.job_pages.specs.Left.{later, Going}
use Rattle.job_pages.specs.Order.{none_later, ordered_later}

-- ---- whether a record of the cursor's kind comes next

module _ (T : List ℕ) (c : Cursor) where
  -- by the kind
  abbrev has_at : Word → Bool
  has_at opt = true
  has_at use' = ltb c.uses (next_first T c.segs)
  has_at end = true
  has_at w = ltb (shown_row c) (rows_in T (word_number w))

  has_at_lem : (w : Word) → c.key ≡ word_number w → has_row T c ≡ has_at w
  unfolding has_row
  has_at_lem opt e = rw e
  has_at_lem w e = rw e

-- a record of the kind itself, one more of it
only_here : (w : Word) (ns : List ℕ) (rs : List Record) → length (only w (rec w ns ∷ rs)) ≡ suc (length (only w rs))
unfolding only
only_here w ns rs =
    ap (λ (t : Bool). length (cond t (ns ∷ only w rs) (only w rs))) (eq-eqb (word_number w) (word_number w) refl)

-- behind the last segment comes the end alone
none_behind : (rs : List Record) → ordered (end ∷ []) rs ≡ true → only seg rs ≡ []
unfolding ordered only
none_behind [] e = absurd (false≢true e)
none_behind (r ∷ rs) e = go r.word (ordered_first (end ∷ []) r rs e)
  where
    last : (xs : List Record) → ordered [] xs ≡ true → only seg xs ≡ []
    last [] o = refl
    last (x ∷ xs) o = absurd (false≢true (ordered_first [] x xs o).0)

    go : (w : Word) → (among w (end ∷ []) ≡ true) × (ordered (next w) rs ≡ true)
        → only seg (rec w r.fields ∷ rs) ≡ []
    go end o = last rs o.1
    go w o = absurd (false≢true o.0)

module _ {T : List ℕ} {job : Job} {c : Cursor} where
  -- how many uses come next
  uses_next : {rs : List Record} (g : Going T job c rs)
      → (next_first T c.segs - c.uses ≡ length (segments_of rs).waiting) × (c.uses ≤ next_first T c.segs)
  uses_next {rs = rs} g =
      let k : Claim T g.rows rs =
      claim T rs g.rows g.stands (g.counts seg (omega arith) (omega arith))
      (g.counts use' (omega arith) (omega arith)) in
      let n : next_first T (g.rows 9) - g.rows 10 ≡ length (segments_of rs).waiting =
      sym (length_rows_at raw_row T (19094 + g.rows 10 * 6) 6 (next_first T (g.rows 9) - g.rows 10))
      ∙ ap length k.1.0 in
      let a : next_first T c.segs ≡ next_first T (g.rows 9) = ap (next_first T) g.segs in
      (omega (arith, n, a, g.uses), omega (arith, k.1.1, a, g.uses))

  pub some_left : {rs : List Record} → Going T job c rs → 0 < length rs
  unfolding ordered
  some_left {rs = []} g = absurd (false≢true g.order)
  some_left {rs = r ∷ rs} g = omega arith

-- a record of the kind w comes next
module _ {T : List ℕ} {job : Job} {c : Cursor} (w : Word) (ns : List ℕ) (rs : List Record)
    (g : Going T job c (rec w ns ∷ rs)) (e : g.kind ≡ w) where
  row_at : shown_row c ≡ g.rows (word_number w)
  row_at = g.row ∙ ap (λ (v : Word). g.rows (word_number v)) e

  at_key : c.key ≡ word_number w
  at_key = g.key ∙ ap word_number e

  counted_here : 1 ≤ word_number w → word_number w ≤ 10 → ltb (shown_row c) (rows_in T (word_number w)) ≡ true
  counted_here a b =
      lt-ltb (shown_row c) (rows_in T (word_number w)) (omega (arith, g.counts w a b, only_here w ns rs, row_at))

-- so the cursor has a row
has_here : {T : List ℕ} {job : Job} {c : Cursor} (w : Word) (ns : List ℕ) (rs : List Record)
    (g : Going T job c (rec w ns ∷ rs)) → g.kind ≡ w → has_row T c ≡ true
unfolding segments_of
has_here {T = T} {job = job} {c = c} w ns rs g e = has_at_lem T c w (at_key w ns rs g e) ∙ go w ns g e
  where
    go : (v : Word) (ms : List ℕ) (h : Going T job c (rec v ms ∷ rs)) → h.kind ≡ v → has_at T c v ≡ true
    go opt ms h q = refl
    go use' ms h q =
        let u = uses_next h in
        lt-ltb c.uses (next_first T c.segs) (omega (arith, u.0, u.1))
    go end ms h q = refl
    go w ms h q = counted_here w ms rs h q (omega arith) (omega arith)

-- and where a record of a later kind comes next it has none
module _ {T : List ℕ} {job : Job} {c : Cursor} {rs : List Record} (g : Going T job c rs) where
  counted_none : (w : Word) → g.kind ≡ w → 1 ≤ word_number w → word_number w ≤ 10 → only w rs ≡ []
      → ltb (shown_row c) (rows_in T (word_number w)) ≡ false
  counted_none w e a b n =
      let r : shown_row c ≡ g.rows (word_number w) = g.row ∙ ap (λ (v : Word). g.rows (word_number v)) e in
      le-ltb (shown_row c) (rows_in T (word_number w)) (omega (arith, g.counts w a b, ap length n, r))

  has_none : ordered (later g.kind) rs ≡ true → has_row T c ≡ false
  has_none o = has_at_lem T c g.kind g.key ∙ go g.kind refl o
    where
      plain : (w : Word) → g.kind ≡ w → 1 ≤ word_number w → word_number w ≤ 8 → ordered (later w) rs ≡ true
          → ltb (shown_row c) (rows_in T (word_number w)) ≡ false
      plain w e a b q = counted_none w e a (omega (arith, b)) (none_later w a b rs q)

      empty : (xs : List Record) → 0 < length xs → ordered [] xs ≡ true → ⊥
      empty [] l q = omega (arith, l)
      empty (x ∷ xs) l q = false≢true (ordered_first [] x xs q).0

      go : (w : Word) → g.kind ≡ w → ordered (later w) rs ≡ true → has_at T c w ≡ false
      go opt e q = absurd (empty rs (some_left g) q)
      go seg e q = counted_none seg e (omega arith) (omega arith) (none_behind rs q)
      go use' e q =
          let u = uses_next g in
          let z : length (segments_of rs).waiting ≡ 0 = ap length (none_waits rs (seg ∷ end ∷ []) refl q) in
          le-ltb c.uses (next_first T c.segs) (omega (arith, u.0, u.1, z))
      go end e q = absurd (empty rs (some_left g) q)
      go w e q = plain w e (omega arith) (omega arith) q

-- THE LAW of the test: the first record left is of the cursor's kind exactly where it says so
pub record Here (T : List ℕ) (job : Job) (c : Cursor) (rs : List Record) : Type 0 where
  pub first : Record
  pub rest : List Record
  pub is : rs ≡ first ∷ rest
  pub going : Going T job c (first ∷ rest)
  pub kind : going.kind ≡ first.word

pub here : {T : List ℕ} {job : Job} {c : Cursor} {rs : List Record} → Going T job c rs → has_row T c ≡ true
    → Here T job c rs
unfolding ordered
here {rs = []} g h = absurd (false≢true g.order)
here {T = T} {job = job} {c = c} {rs = r ∷ rs} g h = go (eqb (word_number r.word) (word_number g.kind)) refl
  where
    go : (t : Bool) → eqb (word_number r.word) (word_number g.kind) ≡ t → Here T job c (r ∷ rs)
    go true q = record {
      first = r;
      rest = rs;
      is = refl;
      going = g;
      kind = sym (same_word r.word g.kind q);
    }
    go false q =
        absurd (false≢true (sym (has_none g (ordered_later g.kind (later g.kind) r rs g.order q)) ∙ h))

pub gone : {T : List ℕ} {job : Job} {c : Cursor} {rs : List Record} (g : Going T job c rs) → has_row T c ≡ false
    → ordered (later g.kind) rs ≡ true
unfolding ordered
gone {rs = []} g h = absurd (false≢true g.order)
gone {rs = r ∷ rs} g h = go (eqb (word_number r.word) (word_number g.kind)) refl
  where
    go : (t : Bool) → eqb (word_number r.word) (word_number g.kind) ≡ t
        → ordered (later g.kind) (r ∷ rs) ≡ true
    go true q =
        absurd (false≢true (sym h ∙ has_here r.word r.fields rs g (sym (same_word r.word g.kind q))))
    go false q = ordered_later g.kind (later g.kind) r rs g.order q
