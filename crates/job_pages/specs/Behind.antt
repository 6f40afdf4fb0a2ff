-- What is left behind a line, and behind a kind of which no record is left. Assumes nothing.
use Rattle.std.specs.Prelude.{◌≡◌, Bool, ℕ, zero, suc, ◌+◌, ◌≤◌, ◌<◌, eqb}
use Rattle.std.proofs.Math.Path.{refl, ap}
use Rattle.std.proofs.Common.{sym, subst, ◌∙◌, inl, arith}
use Rattle.std.proofs.Math.Logic.{inr}
use Rattle.std.proofs.Math.Bool.{true, false, cond, false≢true}
use mathlib.Core.List.{List, [], ◌∷◌}
use Rattle.std.proofs.Math.ListN.{length, get_or}
use borrow.Author.Tests.{ne_eqb, eq-eqb}
use Rattle.definition.specs.Types.{Job}
use Rattle.definition.specs.JobSheet.{Word, opt, bank, class, reg, block, value, vgroup, operand, hint, seg, use', end}
use Rattle.definition.specs.JobSheet.{word_number, Record, at, next, only, ordered}
use Rattle.definition.specs.Conversion.{rec}
use Rattle.sheet_laws.specs.Jobs.{same_word}
use Rattle.sheet_rules.specs.Places.{limits, limit_of}
use Rattle.sheet_laws.specs.Stands.{Row, bump}
use Rattle.sheet_laws.specs.Sheets.{ordered_first}
use Rattle.job_pages.specs.Cursors.{Cursor, cursor, shown_row, rows_in, passed_on, behind_row}
use Rattle.job_pages.specs.Left.{insts_in, later, Going, Left}
use Rattle.job_pages.specs.Order.{inside, ordered_more}
use Rattle.job_pages.specs.Steps.{some_left}

-- ---- behind a line

module _ {T : List ℕ} {job : Job} {c : Cursor} (w : Word) (ns : List ℕ) (rs : List Record)
    (g : Going T job c (rec w ns ∷ rs)) (e : g.kind ≡ w) where
  abbrev pub rows_behind : ℕ → ℕ
  rows_behind = bump (word_number w) g.rows

  at_key : c.key ≡ word_number w
  at_key = g.key ∙ ap word_number e

  -- the row of the record
  pub row_here : word_number w ≤ 10 → Row T (word_number w) (shown_row c) ns (g.rows 10)
  row_here h = go (eqb (word_number w) 0) refl
    where
      go : (t : Bool) → eqb (word_number w) 0 ≡ t → Row T (word_number w) (shown_row c) ns (g.rows 10)
      go true q =
          let o : w ≡ opt = same_word w opt q in
          subst (λ (v : Word). Row T (word_number v) (shown_row c) ns (g.rows 10)) (sym o)
          (g.opt_stands (e ∙ o) (g.rows 10))
      go false q =
          let n : word_number w ≡ 0 → ⊥ = borrow.Author.Tests.eqb-false (word_number w) 0 q in
          subst (λ (i : ℕ). Row T (word_number w) i ns (g.rows 10))
          (sym (g.row ∙ ap (λ (v : Word). g.rows (word_number v)) e))
          (g.stands.0 (positive (word_number w) n) h)
        where
          positive : (k : ℕ) → (k ≡ 0 → ⊥) → 1 ≤ k
          positive zero f = absurd (f refl)
          positive (suc k) f = omega arith

  -- the cursor c' stands at the kind v behind it
  module _ (v : Word) (c' : Cursor) (key : c'.key ≡ word_number v) (some : 1 ≤ word_number v)
      (top : word_number v ≤ 10) (up : word_number w ≤ word_number v) (filled : ordered (next w) [] ≡ false)
      (follows : inside (next w) (v ∷ later v) ≡ true) (row : shown_row c' ≡ rows_behind (word_number v))
      (low : c'.row ≤ 1024) (segs : c'.segs ≡ rows_behind 9) (uses : c'.uses ≡ rows_behind 10)
      (insts : c'.insts + insts_in (only block rs) ≤ 4096) where
    next_order : ordered (v ∷ later v) rs ≡ true
    next_order = go rs (ordered_first (g.kind ∷ later g.kind) (rec w ns) rs g.order).1
      where
        go : (xs : List Record) → ordered (next w) xs ≡ true → ordered (v ∷ later v) xs ≡ true
        go [] o = absurd (false≢true (sym filled ∙ o))
        go (x ∷ xs) o = ordered_more (next w) (v ∷ later v) x xs follows o

    next_counts : (u : Word) → 1 ≤ word_number u → word_number u ≤ 10
        → rows_in T (word_number u) ≡ rows_behind (word_number u) + length (only u rs)
    unfolding only
    next_counts u a b = go (eqb (word_number w) (word_number u)) (g.counts u a b)
      where
        go : (t : Bool)
            → rows_in T (word_number u) ≡ g.rows (word_number u) + length (cond t (ns ∷ only u rs) (only u rs))
            → rows_in T (word_number u)
            ≡ cond t (g.rows (word_number u) + 1) (g.rows (word_number u)) + length (only u rs)
        go true h = omega (arith, h)
        go false h = h

    next_fresh : (k : ℕ) → word_number v < k → k ≤ 11 → (k ≡ 9 → ⊥) → (k ≡ 10 → ⊥) → rows_behind k ≡ 0
    next_fresh k l h n m =
        ap (λ (t : Bool). cond t (g.rows k + 1) (g.rows k))
        (ne_eqb (word_number w) k (λ q. omega (arith, q, l, up)))
        ∙ g.fresh k (omega (arith, l, up, ap word_number e)) h n m

    pub next_going : Going T job c' rs
    next_going = record {
      kind = v;
      key = key;
      rows = rows_behind;
      stands = g.stands.1;
      opt_stands = λ q. absurd (omega (arith, some, ap word_number q));
      counts = next_counts;
      few = g.few;
      order = next_order;
      row = row;
      last = λ q. absurd (omega (arith, top, ap word_number q));
      low = low;
      segs = segs;
      uses = uses;
      fresh = next_fresh;
      fair = g.fair.1;
      insts = insts;
      values = g.values;
    }

-- how many rows of the other kinds
other_rows : (k j n : ℕ) → eqb k j ≡ false → cond (eqb k j) (n + 1) n ≡ n
other_rows k j n e = ap (λ (t : Bool). cond t (n + 1) n) e

same_rows : (k n : ℕ) → cond (eqb k k) (n + 1) n ≡ n + 1
same_rows k n = ap (λ (t : Bool). cond t (n + 1) n) (eq-eqb k k refl)

-- a cursor at a kind that is neither seg nor use
plain_shown : (d : Cursor) (k : ℕ) → d.key ≡ k → eqb k 9 ≡ false → eqb k 10 ≡ false → shown_row d ≡ d.row
unfolding shown_row
plain_shown d k q a b = rw (ap (λ (j : ℕ). eqb j 9) q ∙ a, ap (λ (j : ℕ). eqb j 10) q ∙ b)

-- a record of a kind that is neither opt, seg, use nor end
plain_next : {T : List ℕ} {job : Job} {c : Cursor} (w : Word) (ns : List ℕ) (rs : List Record)
    (g : Going T job c (rec w ns ∷ rs)) (e : g.kind ≡ w) → 1 ≤ word_number w → word_number w ≤ 8
    → eqb (word_number w) 9 ≡ false → eqb (word_number w) 10 ≡ false → limit_of (word_number w) ≤ 1024
    → ordered (next w) [] ≡ false → inside (next w) (w ∷ later w) ≡ true → (n : ℕ)
    → n + insts_in (only block rs) ≤ 4096 → Going T job (cursor (word_number w) (c.row + 1) c.segs c.uses n) rs
plain_next {c = c} w ns rs g e s b q₉ q₁₀ few o f n i =
    let r : Row _ (word_number w) (shown_row c) ns (g.rows 10) = row_here w ns rs g e (omega (arith, b)) in
    let m : shown_row c ≡ c.row = plain_shown c (word_number w) (at_key w ns rs g e) q₉ q₁₀ in
    let k : shown_row c ≡ g.rows (word_number w) = g.row ∙ ap (λ (v : Word). g.rows (word_number v)) e in
    let z : cond (eqb (word_number w) (word_number w)) (g.rows (word_number w) + 1) (g.rows (word_number w))
    ≡ g.rows (word_number w) + 1 = same_rows (word_number w) (g.rows (word_number w)) in
    let p : c.row + 1 ≡ rows_behind w ns rs g e (word_number w) = omega (arith, m, k, z) in
    next_going w ns rs g e w (cursor (word_number w) (c.row + 1) c.segs c.uses n) refl s (omega (arith, b))
    (omega arith) o f
    (plain_shown (cursor (word_number w) (c.row + 1) c.segs c.uses n) (word_number w) refl q₉ q₁₀ ∙ p)
    (omega (arith, m, r.within, few))
    (g.segs ∙ sym (other_rows (word_number w) 9 (g.rows 9) q₉))
    (g.uses ∙ sym (other_rows (word_number w) 10 (g.rows 10) q₁₀))
    i

-- THE LAW of a line: what is left behind the record that it says, whose row begins at word x
module _ {T : List ℕ} {job : Job} (c : Cursor) (rs : List Record) (x : ℕ) where
  -- by the cursor's key
  by_key : (k : ℕ) → c.key ≡ k
      → Going T job (behind_row T (cursor k c.row c.segs c.uses c.insts) x) rs
      → Left T job (behind_row T c x) rs
  by_key k q g =
      inl (subst (λ (j : ℕ). Going T job (behind_row T (cursor j c.row c.segs c.uses c.insts) x) rs)
      (sym q) g)

  pub behind_left : (w : Word) (ns : List ℕ) (g : Going T job c (rec w ns ∷ rs)) → g.kind ≡ w
      → (w ≡ block → get_or T x 0 ≡ at ns 0) → Left T job (behind_row T c x) rs
  unfolding behind_row shown_row only ordered inside limit_of limits
  behind_left opt ns g e h =
      by_key 0 (g.key ∙ ap word_number e)
      (next_going opt ns rs g e bank (cursor 1 0 c.segs c.uses c.insts) refl (omega arith) (omega arith)
      (omega arith) refl refl
      (sym (g.fresh 1 (omega (arith, ap word_number e)) (omega arith) (λ q. omega (arith, q)) (λ q. omega (arith, q))))
      (omega arith) g.segs g.uses g.insts)
  behind_left block ns g e h =
      by_key 4 (g.key ∙ ap word_number e)
      (plain_next block ns rs g e (omega arith) (omega arith) refl refl (omega arith) refl refl
      (c.insts + get_or T x 0) (omega (arith, g.insts, h refl)))
  behind_left seg ns g e h =
      by_key 9 (g.key ∙ ap word_number e)
      (next_going seg ns rs g e use' (cursor 10 c.row (c.segs + 1) c.uses c.insts) refl (omega arith)
      (omega arith) (omega arith) refl refl g.uses g.low (ap (λ (n : ℕ). n + 1) g.segs) g.uses g.insts)
  behind_left use' ns g e h =
      by_key 10 (g.key ∙ ap word_number e)
      (next_going use' ns rs g e use' (cursor 10 c.row c.segs (c.uses + 1) c.insts) refl (omega arith)
      (omega arith) (omega arith) refl refl (ap (λ (n : ℕ). n + 1) g.uses) g.low g.segs
      (ap (λ (n : ℕ). n + 1) g.uses) g.insts)
  behind_left end ns g e h =
      inr (record {
        key = ap (λ (k : ℕ). (behind_row T (cursor k c.row c.segs c.uses c.insts) x).key)
            (g.key ∙ ap word_number e);
        none_left = last rs (ordered_first (g.kind ∷ later g.kind) (rec end ns) rs g.order).1;
      })
    where
      last : (xs : List Record) → ordered [] xs ≡ true → xs ≡ []
      last [] o = refl
      last (y ∷ ys) o = absurd (false≢true (ordered_first [] y ys o).0)
  behind_left w ns g e h =
      by_key (word_number w) (g.key ∙ ap word_number e)
      (plain_next w ns rs g e (omega arith) (omega arith) refl refl (omega arith) refl refl c.insts g.insts)

-- ---- behind a kind

module _ {T : List ℕ} {job : Job} (c : Cursor) (rs : List Record) (g : Going T job c rs) where
  -- the cursor stands at the kind v then
  pass_going : (w v : Word) → g.kind ≡ w → (d : Cursor) → d.key ≡ word_number v → 1 ≤ word_number v
      → ordered (v ∷ later v) rs ≡ true → shown_row d ≡ g.rows (word_number v) → (v ≡ end → shown_row d ≡ 0)
      → d.row ≡ 0 → d.segs ≡ c.segs → d.uses ≡ c.uses → d.insts ≡ c.insts
      → ((k : ℕ) → word_number v < k → (k ≡ 9 → ⊥) → (k ≡ 10 → ⊥) → word_number w < k) → Going T job d rs
  pass_going w v e d key some o row last low segs uses insts up = record {
    kind = v;
    key = key;
    rows = g.rows;
    stands = g.stands;
    opt_stands = λ q. absurd (omega (arith, some, ap word_number q));
    counts = g.counts;
    few = g.few;
    order = o;
    row = row;
    last = last;
    low = omega (arith, low);
    segs = segs ∙ g.segs;
    uses = uses ∙ g.uses;
    fresh = λ k l h n m. g.fresh k (omega (arith, ap word_number e, up k l n m)) h n m;
    fair = g.fair;
    insts = omega (arith, insts, g.insts);
    values = g.values;
  }

  pass_key : (k : ℕ) → c.key ≡ k → Going T job (passed_on (cursor k c.row c.segs c.uses c.insts)) rs
      → Going T job (passed_on c) rs
  pass_key k q h =
      subst (λ (j : ℕ). Going T job (passed_on (cursor j c.row c.segs c.uses c.insts)) rs) (sym q) h

  abbrev cleared : ℕ → Cursor
  cleared k = cursor k 0 c.segs c.uses c.insts

  -- from a kind to the next, up to hints
  pass_plain : (w v : Word) (e : g.kind ≡ w) → word_number v ≡ suc (word_number w) → word_number v ≤ 8
      → ordered (v ∷ later v) rs ≡ true → Going T job (cleared (word_number v)) rs
  unfolding shown_row
  pass_plain w v e u h o =
      pass_going w v e (cleared (word_number v)) refl (omega (arith, u)) o
      (rw (ne_eqb (word_number v) 9 (λ q. omega (arith, q, h)), ne_eqb (word_number v) 10 (λ q. omega (arith, q, h)))
      (sym (g.fresh (word_number v) (omega (arith, u, ap word_number e)) (omega (arith, h)) (λ q. omega (arith, q, h))
      (λ q. omega (arith, q, h)))))
      (λ q. absurd (omega (arith, h, ap word_number q))) refl refl refl refl (λ k l n m. omega (arith, l, u))

  -- THE LAW of a kind of which no record is left
  pub pass_left : ordered (later g.kind) rs ≡ true → Going T job (passed_on c) rs
  unfolding passed_on shown_row
  pass_left o = go g.kind refl o
    where
      none_left : (xs : List Record) → 0 < length xs → ordered [] xs ≡ true → ⊥
      none_left [] l q = omega (arith, l)
      none_left (y ∷ ys) l q = false≢true (ordered_first [] y ys q).0

      go : (w : Word) → g.kind ≡ w → ordered (later w) rs ≡ true → Going T job (passed_on c) rs
      go opt e q = absurd (none_left rs (some_left g) q)
      go bank e q = pass_key 1 (g.key ∙ ap word_number e) (pass_plain bank class e (omega arith) (omega arith) q)
      go class e q = pass_key 2 (g.key ∙ ap word_number e) (pass_plain class reg e (omega arith) (omega arith) q)
      go reg e q = pass_key 3 (g.key ∙ ap word_number e) (pass_plain reg block e (omega arith) (omega arith) q)
      go block e q = pass_key 4 (g.key ∙ ap word_number e) (pass_plain block value e (omega arith) (omega arith) q)
      go value e q = pass_key 5 (g.key ∙ ap word_number e) (pass_plain value vgroup e (omega arith) (omega arith) q)
      go vgroup e q = pass_key 6 (g.key ∙ ap word_number e) (pass_plain vgroup operand e (omega arith) (omega arith) q)
      go operand e q = pass_key 7 (g.key ∙ ap word_number e) (pass_plain operand hint e (omega arith) (omega arith) q)
      go hint e q =
          pass_key 8 (g.key ∙ ap word_number e)
          (pass_going hint seg e (cleared 9) refl (omega arith) q g.segs
          (λ z. absurd (omega (arith, ap word_number z))) refl refl refl refl (λ k l n m. omega (arith, l)))
      go seg e q =
          pass_key 9 (g.key ∙ ap word_number e)
          (pass_going seg end e (cleared 11) refl (omega arith) q
          (sym (g.fresh 11 (omega (arith, ap word_number e)) (omega arith) (λ z. omega (arith, z))
          (λ z. omega (arith, z))))
          (λ z. refl) refl refl refl refl (λ k l n m. omega (arith, l)))
      go use' e q =
          pass_key 10 (g.key ∙ ap word_number e)
          (pass_going use' seg e (cleared 9) refl (omega arith) q g.segs
          (λ z. absurd (omega (arith, ap word_number z))) refl refl refl refl (λ k l n m. tenth k l m))
        where
          tenth : (k : ℕ) → 9 < k → (k ≡ 10 → ⊥) → 10 < k
          tenth k l m = omega (arith, l, m)
      go end e q = absurd (none_left rs (some_left g) q)
