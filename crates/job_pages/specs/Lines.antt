-- The line of a record from its row, and a step of either kind. Assumes nothing.
use Rattle.std.specs.Prelude.{◌≡◌, Bool, ℕ, ◌+◌, ◌≤◌, ◌<◌, ltb, drop, Option, Some}
use Rattle.std.proofs.Math.Path.{refl, sym, ap, subst}
use Rattle.std.proofs.Common.{◌∙◌, inl, inr}
use Rattle.std.proofs.Math.Bool.{true, false, cond}
use Rattle.std.proofs.lemmas.Bool.{false≢true}
use mathlib.Core.List.{List, [], ◌∷◌, ◌++◌, append_assoc}
use native.Mathlib.Omega.{arith}
use Rattle.std.proofs.Math.Dec.{eqb}
use Rattle.std.proofs.Math.ListN.{length, get_or, take}
use borrow.Author.Tests.{eqb-true, eq-eqb, ne_eqb, ltb-false}
use Rattle.words.specs.Words.{word_count, words_of}
use Rattle.words.specs.Laws.{length_words}
use Rattle.definition.specs.Types.{Job, val}
use Rattle.definition.specs.RegInfo.{set_of}
use Rattle.definition.specs.JobSheet.{Word, opt, block, value, vgroup, seg, use', end}
use Rattle.definition.specs.JobSheet.{word_number, Record, at, only}
use Rattle.definition.specs.Conversion.{rec, record_line, lines_text, grown, implied_field, insts_behind}
use Rattle.sheet_laws.specs.Jobs.{same_word}
use Rattle.values.specs.ValueRows.{values_at}
use Rattle.sheet_rules.specs.Places.{limits, limit_of, widths, width_of, stored_fields, stored_of, bases, base_of}
use Rattle.sheet_rules.specs.Places.{row_at, table_words}
use Rattle.sheet_laws.specs.Regions.{row_is, row_low}
use Rattle.sheet_laws.specs.Stands.{Row}
use Rattle.sheet_laws.specs.Choices.{Chosen}
use Rattle.sheet_job.specs.Segments.{next_first}
use Rattle.lines.specs.Wrote.{Wrote}
use Rattle.lines.specs.Laws.{then}
use Rattle.lines.specs.Rows.{line_text}
use Rattle.lines.specs.Records.{written, fields_in, line_record}
use Rattle.job_pages.specs.Cursors.{Cursor}
use Rattle.job_pages.specs.Cursors.{shown_row, rows_in, has_row, passed_on, field_count, first_field, written_by}
use Rattle.job_pages.specs.Cursors.{front_text, behind_row, steps_left}
use Rattle.job_pages.specs.Left.{insts_in, Going, Over, Left, in_form, text_left}
use Rattle.job_pages.specs.Pages.{Shows, Went, Stepped}
use Rattle.job_pages.specs.Rows.{Fields, row_fields, first_word}
use Rattle.job_pages.specs.Steps.{Here, here, gone}
use Rattle.job_pages.specs.Behind.{row_here, behind_left, pass_left}
use Rattle.job_pages.specs.Falls.{line_falls, pass_falls}

-- ---- what the functions ask that write the line of a row which begins at word x

pub record Ready (T : List ℕ) (c : Cursor) (k x : ℕ) : Type 0 where
  pub shown : shown_row c ≤ 4096
  pub row : x ≤ table_words
  pub group : eqb k 6 ≡ true → x < table_words
  pub kind : eqb k 10 ≡ true → (x < table_words) × (get_or T x 0 < 10)
  pub seg : eqb k 9 ≡ true → x < table_words
  pub block : eqb k 4 ≡ true → (x < table_words) × (c.insts + get_or T x 0 ≤ 4096)
  pub fields : first_field k x + field_count T k x ≤ table_words
  pub few : field_count T k x ≤ 8
  pub values : rows_in T 5 ≤ 1024
  pub key : k ≤ 11
  pub rows : c.row ≤ 1024
  pub segs : c.segs ≤ 1024
  pub uses : c.uses ≤ 4096

-- no kind has more rows
most_rows : (w : Word) → limit_of (word_number w) ≤ 4096
unfolding limit_of limits
most_rows opt = omega arith
most_rows w = omega arith

-- a row has a word
some_word : (w : Word) → word_number w ≤ 10 → 0 < width_of (word_number w)
unfolding width_of widths
some_word end h = absurd (omega (arith, h))
some_word w h = omega arith

-- the table has few segments
pub few_segs : {T : List ℕ} {job : Job} {c : Cursor} {rs : List Record} → Going T job c rs → rows_in T 9 ≤ 1024
unfolding limit_of limits
few_segs g = g.few seg (omega arith) (omega arith)

-- so few are printed
pub few_left : {T : List ℕ} {job : Job} {c : Cursor} {rs : List Record} → Going T job c rs → c.segs ≤ 1024
few_left g = omega (arith, g.segs, g.counts seg (omega arith) (omega arith), few_segs g)

module _ {T : List ℕ} {job : Job} {c : Cursor} (long : length T ≡ table_words) (w : Word) (ns : List ℕ)
    (rs : List Record) (g : Going T job c (rec w ns ∷ rs)) (e : g.kind ≡ w) where
  abbrev start : ℕ
  start = row_at (word_number w) (shown_row c)

  fields_here : word_number w ≤ 10 → Fields T w (shown_row c) ns
  fields_here h = row_fields T long (shown_row c) ns (g.rows 10) w h (row_here w ns rs g e h) g.fair.0

  inside : word_number w ≤ 10 → start < table_words
  inside h =
      let r : Row T (word_number w) (shown_row c) ns (g.rows 10) = row_here w ns rs g e h in
      omega (
        arith,
        row_is (word_number w) (shown_row c) r.within,
        row_low (word_number w) (shown_row c) 0 (omega (arith, h)) r.within (some_word w h),
      )

  few_uses : c.uses ≤ 4096
  unfolding limit_of limits
  few_uses =
      omega (arith, g.uses, g.counts use' (omega arith) (omega arith), g.few use' (omega arith) (omega arith))

  few_values : rows_in T 5 ≤ 1024
  unfolding limit_of limits
  few_values = g.few value (omega arith) (omega arith)

  -- the first word of a use, a block and a segment is the first field
  first_is : word_number w ≤ 10 → (word_number w ≡ 6 → ⊥) → get_or T start 0 ≡ get_or ns 0 0
  unfolding stored_of stored_fields
  first_is h n = go w h n (row_here w ns rs g e h)
    where
      go : (v : Word) → word_number v ≤ 10 → (word_number v ≡ 6 → ⊥)
          → Row T (word_number v) (shown_row c) ns (g.rows 10)
          → get_or T (row_at (word_number v) (shown_row c)) 0 ≡ get_or ns 0 0
      go vgroup a b r = absurd (b refl)
      go end a b r = absurd (omega (arith, a))
      go v a b r = first_word T long (shown_row c) ns (g.rows 10) (word_number v) a r refl (omega arith)

  -- the number k is this kind's
  of_kind : (k : ℕ) → eqb (word_number w) k ≡ true → word_number w ≡ k
  of_kind k q = eqb-true (word_number w) k q

  -- a use's kind is one of the ten
  use_kind : word_number w ≡ 10 → get_or ns 0 0 ≤ 9
  use_kind q =
      subst (λ (v : Word). Chosen v ns) (same_word w use' (eq-eqb (word_number w) 10 q)) g.fair.0.chosen

  -- the instructions behind a block
  insts_few : word_number w ≡ 4 → c.insts + get_or ns 0 0 ≤ 4096
  unfolding only
  insts_few q =
      omega (
        arith,
        g.insts,
        ap (λ (t : Bool). insts_in (cond t (ns ∷ only block rs) (only block rs))) (eq-eqb (word_number w) 4 q),
      )

  ready_row : word_number w ≤ 10 → Ready T c (word_number w) start
  ready_row h =
      let f : Fields T w (shown_row c) ns = fields_here h in
      let r : Row T (word_number w) (shown_row c) ns (g.rows 10) = row_here w ns rs g e h in
      let i : start < table_words = inside h in
      record {
        shown = omega (arith, r.within, most_rows w);
        row = omega (arith, i);
        group = λ q. i;
        kind = λ q.
            let k : word_number w ≡ 10 = of_kind 10 q in
            (i, omega (arith, use_kind k, first_is h (λ z. omega (arith, z, k))));
        seg = λ q. i;
        block = λ q.
            let k : word_number w ≡ 4 = of_kind 4 q in
            (i, omega (arith, insts_few k, first_is h (λ z. omega (arith, z, k))));
        fields = f.within;
        few = f.few;
        values = few_values;
        key = omega (arith, h);
        rows = g.low;
        segs = few_left g;
        uses = few_uses;
      }

-- the end has no row
module _ {T : List ℕ} {job : Job} {c : Cursor} (long : length T ≡ table_words) (ns : List ℕ) (rs : List Record)
    (g : Going T job c (rec end ns ∷ rs)) (e : g.kind ≡ end) where
  end_start : row_at 11 (shown_row c) ≡ table_words
  unfolding row_at base_of bases limit_of limits width_of widths
  end_start = ap (λ (i : ℕ). row_at 11 i) (g.last e)

  ready_end : Ready T c 11 (row_at 11 (shown_row c))
  unfolding first_field field_count stored_of stored_fields
  ready_end = record {
    shown = omega (arith, g.last e);
    row = omega (arith, end_start);
    group = λ q. absurd (false≢true q);
    kind = λ q. absurd (false≢true q);
    seg = λ q. absurd (false≢true q);
    block = λ q. absurd (false≢true q);
    fields = omega (arith, end_start);
    few = omega arith;
    values = few_values long end ns rs g e;
    key = omega arith;
    rows = g.low;
    segs = few_left g;
    uses = few_uses long end ns rs g e;
  }

-- by the kind
word_cases : (P : Word → Type 0) → ((w : Word) → word_number w ≤ 10 → P w) → P end → (w : Word) → P w
word_cases P p q end = q
word_cases P p q w = p w (omega arith)

set_is : (T : List ℕ) (job : Job) (c : Cursor) (x : ℕ) → c.key ≡ 9
    → written_by true T job c x ≡ Some (set_of job (val (get_or T x 0))).0
unfolding written_by
set_is T job c x k = rw k

module _ {T : List ℕ} {job : Job} {c : Cursor} (long : length T ≡ table_words) (ns : List ℕ) (rs : List Record) where
  ready_here : (w : Word) (g : Going T job c (rec w ns ∷ rs)) → g.kind ≡ w
      → Ready T c (word_number w) (row_at (word_number w) (shown_row c))
  ready_here w =
      word_cases
      (λ (v : Word). (g : Going T job c (rec v ns ∷ rs)) → g.kind ≡ v
      → Ready T c (word_number v) (row_at (word_number v) (shown_row c)))
      (λ v h g e. ready_row long v ns rs g e h) (λ g e. ready_end long ns rs g e) w

  -- the words that are written are the fields
  fields_are : (w : Word) (g : Going T job c (rec w ns ∷ rs)) → g.kind ≡ w
      → take (field_count T (word_number w) (row_at (word_number w) (shown_row c)))
      (drop (first_field (word_number w) (row_at (word_number w) (shown_row c))) T) ≡ ns
  unfolding field_count stored_of stored_fields
  fields_are w =
      word_cases
      (λ (v : Word). (g : Going T job c (rec v ns ∷ rs)) → g.kind ≡ v
      → take (field_count T (word_number v) (row_at (word_number v) (shown_row c)))
      (drop (first_field (word_number v) (row_at (word_number v) (shown_row c))) T) ≡ ns)
      (λ v h g e. (fields_here long v ns rs g e h).are) (λ g e. none ns g.fair.0.long) w
    where
      none : (xs : List ℕ) → length xs ≡ 0 → [] ≡ xs
      none [] z = refl
      none (x ∷ xs) z = absurd (omega (arith, z))

  -- the field behind them is the implied one
  written_is : (second : Bool) (w : Word) (g : Going T job c (rec w ns ∷ rs)) → g.kind ≡ w
      → written_by second T job c (row_at (word_number w) (shown_row c))
      ≡ written second w (implied_field w c.insts job ns)
  unfolding written_by
  written_is false w g e = refl
  written_is true w g e = go w g e (g.key ∙ ap word_number e)
    where
      go : (v : Word) (h : Going T job c (rec v ns ∷ rs)) → h.kind ≡ v → c.key ≡ word_number v
          → written_by true T job c (row_at (word_number v) (shown_row c))
          ≡ written true v (implied_field v c.insts job ns)
      go seg h q k =
          set_is T job c (row_at 9 (shown_row c)) k
          ∙ ap (λ (n : ℕ). Some (set_of job (val n)).0)
          (first_is long seg ns rs h q (omega arith) (λ z. omega (arith, z)))
      go v h q k = rw k

-- the instructions behind a record, and no form line comes any more
module _ (T : List ℕ) (c : Cursor) (x : ℕ) where
  insts_behind_lem : (w : Word) (ns : List ℕ) → c.key ≡ word_number w → (w ≡ block → get_or T x 0 ≡ at ns 0)
      → (behind_row T c x).insts ≡ insts_behind w c.insts ns
  unfolding behind_row
  insts_behind_lem block ns k h = rw (k, h refl)
  insts_behind_lem w ns k h = rw k

  key_behind : (w : Word) → c.key ≡ word_number w → eqb (behind_row T c x).key 0 ≡ false
  unfolding behind_row
  key_behind opt k = rw k
  key_behind w k = rw k

no_front : (second : Bool) (k : ℕ) → eqb k 0 ≡ false → front_text second k ≡ []
unfolding front_text
no_front true k e = rw e
no_front false k e = refl

-- one record and the others
lines_one : (second : Bool) (n : ℕ) (job : Job) (w : Word) (ns : List ℕ) (rs : List Record)
    → lines_text second (in_form second n job (rec w ns ∷ rs))
    ≡ record_line second (rec w (fields_in second w (implied_field w n job ns) ns))
    ++ lines_text second (in_form second (insts_behind w n ns) job rs)
unfolding lines_text grown
lines_one true n job w ns rs = refl
lines_one false n job w ns rs = refl

-- ---- a step

-- what the line of a record says, and what is left behind it, is what was left
module _ (second : Bool) {T : List ℕ} {job : Job} {c : Cursor} (long : length T ≡ table_words) (w : Word) (ns : List ℕ)
    (rs : List Record) (g : Going T job c (rec w ns ∷ rs)) (e : g.kind ≡ w) where
  abbrev first : ℕ
  first = row_at (word_number w) (shown_row c)

  block_first : w ≡ block → get_or T first 0 ≡ at ns 0
  block_first q =
      let k : word_number w ≡ 4 = ap word_number q in
      first_is long w ns rs g e (omega (arith, k)) (λ z. omega (arith, z, k))

  line_is : line_text (word_number w) (take (field_count T (word_number w) first)
      (drop (first_field (word_number w) first) T)) (written_by second T job c first)
      ≡ record_line second (rec w (fields_in second w (implied_field w c.insts job ns) ns))
  line_is =
      ap (λ (vs : List ℕ). line_text (word_number w) vs (written_by second T job c first))
      (fields_are long ns rs w g e)
      ∙ ap (λ (k : Option ℕ). line_text (word_number w) ns k) (written_is long ns rs second w g e)
      ∙ line_record second w ns (implied_field w c.insts job ns) g.fair.0.long

  -- behind it
  text_behind : text_left second job c (rec w ns ∷ rs)
      ≡ (front_text second c.key
      ++ line_text (word_number w) (take (field_count T (word_number w) first)
      (drop (first_field (word_number w) first) T)) (written_by second T job c first))
      ++ text_left second job (behind_row T c first) rs
  unfolding text_left
  text_behind =
      ap (λ (l : List ℕ). front_text second c.key ++ l)
      (lines_one second c.insts job w ns rs
      ∙ ap (λ (l : List ℕ). l ++ lines_text second (in_form second (insts_behind w c.insts ns) job rs)) (sym line_is)
      ∙ ap (λ (n : ℕ). text ++ lines_text second (in_form second n job rs))
      (sym (insts_behind_lem T c first w ns key block_first))
      ∙ ap (λ (l : List ℕ). text ++ (l ++ lines_text second (in_form second (behind_row T c first).insts job rs)))
      (sym (no_front second (behind_row T c first).key (key_behind T c first w key))))
      ∙ sym (append_assoc (front_text second c.key) text
      (front_text second (behind_row T c first).key
      ++ lines_text second (in_form second (behind_row T c first).insts job rs)))
    where
      key : c.key ≡ word_number w
      key = g.key ∙ ap word_number e

      text : List ℕ
      text = line_text (word_number w) (take (field_count T (word_number w) first)
          (drop (first_field (word_number w) first) T)) (written_by second T job c first)

module _ (x : List ℕ) (c : Cursor) (more : eqb c.key 12 ≡ false) where
  abbrev T : List ℕ
  T = words_of x

  -- the end was not written
  not_over : {rs : List Record} → Over c rs → ⊥
  not_over o = false≢true (sym more ∙ eq-eqb c.key 12 o.key)

  pub going_on : {job : Job} {rs : List Record} → Left T job c rs → Going T job c rs
  going_on (inl g) = g
  going_on (inr o) = absurd (not_over o)

  pub key_of : {job : Job} {rs : List Record} (q : Here T job c rs) → word_number q.first.word ≡ c.key
  key_of q = sym (q.going.key ∙ ap word_number q.kind)

  module _ (long : word_count x ≡ table_words) where
    all : length T ≡ table_words
    all = length_words x ∙ long

    -- what a line asks
    pub ready : Shows x c → has_row T c ≡ true → Ready T c c.key (row_at c.key (shown_row c))
    ready s h =
        let q : Here T s.job c s.records = here (going_on s.left) h in
        subst (λ (k : ℕ). Ready T c k (row_at k (shown_row c))) (key_of q)
        (ready_here all q.first.fields q.rest q.first.word q.going q.kind)

    -- the row at which the cursor stands, whose first word is here
    abbrev here_word : ℕ → ℕ
    here_word j = row_at j (shown_row c)

    module _ {job : Job} {rs : List Record} (q : Here T job c rs) where
      -- its fields are the record's
      pub fields_here_are : take (field_count T c.key (here_word c.key)) (drop (first_field c.key (here_word c.key)) T)
          ≡ q.first.fields
      fields_here_are =
          subst
          (λ (j : ℕ). take (field_count T j (here_word j)) (drop (first_field j (here_word j)) T) ≡ q.first.fields)
          (key_of q) (fields_are all q.first.fields q.rest q.first.word q.going q.kind)

      -- the first word of a block is how many instructions it has
      pub block_word : c.key ≡ 4 → get_or T (here_word c.key) 0 ≡ at q.first.fields 0
      block_word e =
          ap (λ (j : ℕ). get_or T (here_word j) 0) (sym (key_of q))
          ∙ block_first false all q.first.word q.first.fields q.rest q.going q.kind
          (same_word q.first.word block (eq-eqb (word_number q.first.word) 4 (key_of q ∙ e)))

      -- what is left behind it
      pub line_left : Left T job (behind_row T c (here_word c.key)) q.rest
      line_left =
          subst (λ (j : ℕ). Left T job (behind_row T c (here_word j)) q.rest) (key_of q)
          (behind_left c q.rest (here_word (word_number q.first.word)) q.first.word q.first.fields q.going q.kind
          (block_first false all q.first.word q.first.fields q.rest q.going q.kind))

      pub line_less : steps_left (behind_row T c (here_word c.key)) < steps_left c
      line_less =
          subst (λ (j : ℕ). steps_left (behind_row T c (here_word j)) < steps_left c) (key_of q)
          (line_falls T c (here_word (word_number q.first.word)) q.first.word q.first.fields q.rest q.going q.kind)

    -- THE LAW of a line: w is the row's first word, of n fields from word a on; the text ends at z
    module _ (second : Bool) (k : ℕ) (B : List ℕ) (w n front a z : ℕ) (more' : Option ℕ) (B₁ B₂ : List ℕ) (d : Cursor)
        (s : Shows x c) (h : has_row T c ≡ true) (ew : w ≡ row_at c.key (shown_row c))
        (en : n ≡ field_count T c.key w)
        (ef : (job : Job) → job.values ≡ values_at T (row_at 5 0) (rows_in T 5) → more' ≡ written_by second T job c w)
        (wf : Wrote (7) k B front B₁ (front_text second c.key))
        (ea : a ≡ first_field c.key w)
        (wl : Wrote (248) front B₁ z B₂ (line_text c.key (take n (drop a T)) more'))
        (ed : d ≡ behind_row T c w) where
      module _ {job : Job} {rs : List Record} (q : Here T job c rs) where
        -- by the number of the kind
        abbrev text_at : ℕ → List ℕ
        text_at j =
            line_text j (take (field_count T j (row_at j (shown_row c)))
            (drop (first_field j (row_at j (shown_row c))) T)) (written_by second T job c (row_at j (shown_row c)))

        abbrev text_from : ℕ → List ℕ
        text_from v =
            line_text c.key (take (field_count T c.key v) (drop (first_field c.key v) T))
            (written_by second T job c v)

        text_is : line_text c.key (take n (drop a T)) more' ≡ text_at (word_number q.first.word)
        text_is =
            ap (λ (v : ℕ). line_text c.key (take v (drop a T)) more') en
            ∙ ap (λ (v : ℕ). line_text c.key (take (field_count T c.key w) (drop v T)) more') ea
            ∙ ap (λ (v : Option ℕ). line_text c.key (take (field_count T c.key w) (drop (first_field c.key w) T)) v)
            (ef job q.going.values)
            ∙ ap text_from ew
            ∙ ap text_at (sym (key_of q))

        here_is : d ≡ behind_row T c (row_at c.key (shown_row c))
        here_is = ed ∙ ap (λ (v : ℕ). behind_row T c v) ew

        behind_is : d ≡ behind_row T c (row_at (word_number q.first.word) (shown_row c))
        behind_is = here_is ∙ ap (λ (j : ℕ). behind_row T c (row_at j (shown_row c))) (sym (key_of q))

        falls : steps_left d < steps_left c
        falls = subst (λ (u : Cursor). steps_left u < steps_left c) (sym here_is) (line_less q)

        went : Went second T job c rs k B d z B₂
        went = record {
          records = q.rest;
          left = subst (λ (u : Cursor). Left T job u q.rest) (sym here_is) (line_left q);
          text =
              ap (λ (u : List ℕ). u ++ text_left second job d q.rest) (then wf wl).is
              ∙ append_assoc (take k B) (front_text second c.key ++ line_text c.key (take n (drop a T)) more')
              (text_left second job d q.rest)
              ∙ ap (λ (u : List ℕ). take k B ++ ((front_text second c.key ++ u) ++ text_left second job d q.rest))
              text_is
              ∙ ap (λ (u : Cursor). take k B ++ ((front_text second c.key ++ text_at (word_number q.first.word))
              ++ text_left second job u q.rest)) behind_is
              ∙ ap (λ (u : List ℕ). take k B ++ u)
              (sym (text_behind second all q.first.word q.first.fields q.rest q.going q.kind))
              ∙ ap (λ (u : List Record). take k B ++ text_left second job c u) (sym q.is);
        }

      pub line_step : Stepped second T c k B (record { cur = d; n = z }) B₂
      line_step = record {
        most = omega (arith, wf.most, wl.most);
        fewer = falls (here (going_on s.left) h);
        goes = λ job rs l. went (here (going_on l) h);
      }

  -- a kind of which no record is left is neither opt nor the end
  pub passing : has_row T c ≡ false → (eqb c.key 0 ≡ false) × (c.key ≤ 10)
  unfolding has_row
  passing h = (zero' (eqb c.key 0) refl, last (ltb 10 c.key) refl)
    where
      zero' : (t : Bool) → eqb c.key 0 ≡ t → eqb c.key 0 ≡ false
      zero' false q = q
      zero' true q =
          absurd (false≢true (sym h ∙ ap (λ (t : Bool). cond t true (cond (ltb 10 c.key) true
          (cond (eqb c.key 10) (ltb c.uses (next_first T c.segs)) (ltb (shown_row c) (rows_in T c.key))))) q))

      any : (t : Bool) → cond t true true ≡ true
      any true = refl
      any false = refl

      last : (t : Bool) → ltb 10 c.key ≡ t → c.key ≤ 10
      last false q = ltb-false 10 c.key q
      last true q =
          absurd (false≢true (sym h ∙ ap (λ (t : Bool). cond (eqb c.key 0) true (cond t true
          (cond (eqb c.key 10) (ltb c.uses (next_first T c.segs)) (ltb (shown_row c) (rows_in T c.key))))) q
          ∙ any (eqb c.key 0)))

  passed_key : eqb (passed_on c).key 0 ≡ false
  unfolding passed_on
  passed_key = go (eqb c.key 10) (eqb c.key 9)
    where
      go : (s t : Bool) → eqb (cond s 9 (cond t 11 (c.key + 1))) 0 ≡ false
      go true t = refl
      go false true = refl
      go false false = ne_eqb (c.key + 1) 0 (λ q. omega (arith, q))

  -- THE LAW of such a kind
  pub pass_step : (second : Bool) (k : ℕ) (B : List ℕ) (d : Cursor) → Shows x c → has_row T c ≡ false → d ≡ passed_on c
      → Stepped second T c k B (record { cur = d; n = k }) B
  unfolding text_left passed_on
  pass_step second k B d s h e = record {
    most = omega arith;
    fewer =
        let g : Going T s.job c s.records = going_on s.left in
        subst (λ (u : Cursor). steps_left u < steps_left c) (sym e)
        (pass_falls c g (omega (arith, g.key, (passing h).1)));
    goes = λ job rs l. record {
      records = rs;
      left =
          subst (λ (u : Cursor). Left T job u rs) (sym e)
          (inl (pass_left c rs (going_on l) (gone (going_on l) h)));
      text =
          ap (λ (u : Cursor). take k B ++ text_left second job u rs) e
          ∙ ap (λ (u : List ℕ). take k B ++ (u ++ lines_text second (in_form second c.insts job rs)))
          (no_front second (passed_on c).key passed_key ∙ sym (no_front second c.key (passing h).0));
    };
  }
