-- One step in two tables that agree so far. Assumes nothing.
use Rattle.std.specs.Prelude.{◌≡◌, refl, Bool, true, false, cond, ◌||◌, List, [], ◌∷◌, ℕ, ◌+◌, ◌<◌, eqb, get_or, length}
use Rattle.std.proofs.Common.{sym, ap, subst, ◌∙◌, inl, arith, eqb-true, eq-eqb}
use Rattle.std.proofs.lemmas.Bool.{false≢true}
use Rattle.words.specs.Words.{words_of}
use Rattle.definition.specs.declared.Order.{Order}
use Rattle.definition.specs.declared.Order.TheVariants.{Before, Same, After}
use Rattle.definition.specs.Types.{Job}
use Rattle.definition.specs.JobSheet.{Word, opt, end}
use Rattle.definition.specs.JobSheet.{word_number, Record, at, among, ordered}
use Rattle.definition.specs.JobOrder.{turned, decided, by_number, by_places, kind_place, by_line, by_lines}
use Rattle.sheet_laws.specs.Jobs.{same_word}
use Rattle.sheet_laws.specs.Sheets.{ordered_first}
use Rattle.job_pages.specs.Cursors.{Cursor, cursor, has_row, passed_on, behind_row, steps_left}
use Rattle.job_pages.specs.Left.{later, Going, Left}
use Rattle.job_pages.specs.Pages.{Shows}
use Rattle.job_pages.specs.Steps.{Here, here, gone, some_left}
use Rattle.job_pages.specs.Behind.{pass_left}
use Rattle.job_pages.specs.Falls.{pass_falls}
use Rattle.job_pages.specs.Over.{over_none}
use Rattle.job_pages.specs.Lines.{going_on, key_of, fields_here_are, block_word, line_left, line_less, passing}
use Rattle.text_laws.specs.Lawful.{number_lawful, places_lawful}
use Rattle.text_laws.specs.Lines.{line_lawful, lower_kind, one_kind}
use Rattle.job_order.specs.Rows.{row_start, fields_at, behind_at}
use Rattle.job_order.specs.Orders.{Orders, Advanced}
use Rattle.job_order.proofs.Fields.{by_words, decided_by}

-- ---- a record of a kind, and one of a later kind

-- all of the words have a later place
abbrev Below : ℕ → List Word → Type 0
Below n [] = Unit {0}
Below n (v ∷ vs) = (n < kind_place v) × Below n vs

among_below : (n : ℕ) (v : Word) (ws : List Word) → Below n ws → among v ws ≡ true → n < kind_place v
among_below n v [] h e = absurd (false≢true e)
among_below n v (w ∷ ws) h e = go (eqb (word_number v) (word_number w)) refl e (among_below n v ws h.1)
  where
    go : (t : Bool) → eqb (word_number v) (word_number w) ≡ t → t || among v ws ≡ true
        → (among v ws ≡ true → n < kind_place v) → n < kind_place v
    go true q f ih = subst (λ (u : Word). n < kind_place u) (sym (same_word v w q)) h.0
    go false q f ih = ih f

later_below : (w : Word) → Below (kind_place w) (later w)
later_below opt = tt
later_below end = tt
later_below w = omega arith

module _ (x : List ℕ) (c : Cursor) (more : eqb c.key 12 ≡ false) where
  -- where no record of the cursor's kind is left, the first one is of a later kind
  pub record Later (w : Word) (rs : List Record) : Type 0 where
    pub first : Record
    pub rest : List Record
    pub is : rs ≡ first ∷ rest
    pub place : kind_place w < kind_place first.word

  pub none_here : {j : Job} {rs : List Record} (w : Word) → word_number w ≡ c.key → Left (words_of x) j c rs
      → has_row (words_of x) c ≡ false → Later w rs
  none_here {j = j} {rs = rs} w e l h = go rs (some_left g) (gone g h)
    where
      g : Going (words_of x) j c rs
      g = going_on x c more l

      kind : g.kind ≡ w
      kind = same_word g.kind w (eq-eqb (word_number g.kind) (word_number w) (sym g.key ∙ sym e))

      go : (ss : List Record) → 0 < length ss → ordered (later g.kind) ss ≡ true → Later w ss
      go [] p o = absurd (omega (arith, p))
      go (s ∷ ss) p o = record {
        first = s;
        rest = ss;
        is = refl;
        place =
            subst (λ (u : Word). kind_place u < kind_place s.word) kind
            (among_below (kind_place g.kind) s.word (later g.kind) (later_below g.kind)
            (ordered_first (later g.kind) s ss o).0);
      }

-- ---- the answer

lines_by : (r s : Record) (rs ss : List Record) (o : Order) → by_line r s ≡ o → (o ≡ Same → ⊥)
    → by_lines (r ∷ rs) (s ∷ ss) ≡ o
unfolding by_lines by_places
lines_by r s rs ss o e n = ap (λ (p : Order). decided p (by_lines rs ss)) e ∙ decided_by o (by_lines rs ss) n

lines_alike : (r s : Record) (rs ss : List Record) → r.word ≡ s.word
    → by_lines (r ∷ rs) (s ∷ ss) ≡ decided (by_words r.fields s.fields) (by_lines rs ss)
unfolding by_lines by_places
lines_alike r s rs ss e = ap (λ (o : Order). decided o (by_lines rs ss)) (one_kind r s e)

module _ (x y : List ℕ) (c : Cursor) (more : eqb c.key 12 ≡ false) where
  abbrev T : List ℕ
  T = words_of x

  abbrev U : List ℕ
  U = words_of y

  -- ---- only one has a record of the kind

  pub first_alone : has_row T c ≡ true → has_row U c ≡ false → Orders T U c Before
  first_alone h k = λ i j rs ss l m.
      let q : Here T i c rs = here (going_on x c more l) h in
      let z : Later y c more q.first.word ss = none_here y c more q.first.word (key_of x c more q) m k in
      sym
      (ap (λ (us : List Record). by_lines us ss) q.is
      ∙ ap (λ (us : List Record). by_lines (q.first ∷ q.rest) us) z.is
      ∙ lines_by q.first z.first q.rest z.rest Before (lower_kind q.first z.first z.place) (λ z. cc))

  pub second_alone : has_row T c ≡ false → has_row U c ≡ true → Orders T U c After
  second_alone h k = λ i j rs ss l m.
      let q : Here U j c ss = here (going_on y c more m) k in
      let z : Later x c more q.first.word rs = none_here x c more q.first.word (key_of y c more q) l h in
      sym
      (ap (λ (us : List Record). by_lines rs us) q.is
      ∙ ap (λ (us : List Record). by_lines us (q.first ∷ q.rest)) z.is
      ∙ lines_by z.first q.first z.rest q.rest After
      (line_lawful.turns q.first z.first ∙ ap turned (lower_kind q.first z.first z.place)) (λ z. cc))

  -- ---- both have one

  module _ (s : Shows x c) (t : Shows y c) (h : has_row T c ≡ true) (k : has_row U c ≡ true) where
    module _ {i j : Job} {rs ss : List Record} (l : Left T i c rs) (m : Left U j c ss) where
      first : Here T i c rs
      first = here (going_on x c more l) h

      second : Here U j c ss
      second = here (going_on y c more m) k

      -- field by field, and then what is left
      heads : by_lines rs ss ≡ decided (by_words (fields_at T c) (fields_at U c)) (by_lines first.rest second.rest)
      heads =
          ap (λ (us : List Record). by_lines us ss) first.is
          ∙ ap (λ (us : List Record). by_lines (first.first ∷ first.rest) us) second.is
          ∙ lines_alike first.first second.first first.rest second.rest
          (same_word first.first.word second.first.word
          (eq-eqb (word_number first.first.word) (word_number second.first.word)
          (key_of x c more first ∙ sym (key_of y c more second))))
          ∙ ap (λ (ns : List ℕ). decided (by_words ns second.first.fields) (by_lines first.rest second.rest))
          (sym (fields_here_are x c more s.long first))
          ∙ ap (λ (ns : List ℕ). decided (by_words (fields_at T c) ns) (by_lines first.rest second.rest))
          (sym (fields_here_are y c more t.long second))

    -- they differ
    pub record_decides : (o : Order) → o ≡ by_words (fields_at T c) (fields_at U c) → (o ≡ Same → ⊥) → Orders T U c o
    record_decides o e n = λ i j rs ss l m.
        sym
        (heads l m ∙ ap (λ (p : Order). decided p (by_lines (first l m).rest (second l m).rest)) (sym e)
        ∙ decided_by o (by_lines (first l m).rest (second l m).rest) n)

    -- they are the same
    module _ (e : by_words (fields_at T c) (fields_at U c) ≡ Same) where
      fields_same : fields_at T c ≡ fields_at U c
      fields_same = (places_lawful by_number number_lawful).equal (fields_at T c) (fields_at U c) e

      -- so the cursor behind them is the same
      words_same : c.key ≡ 4 → get_or T (row_start c) 0 ≡ get_or U (row_start c) 0
      words_same q =
          block_word x c more s.long (first s.left t.left) q
          ∙ ap (λ (ns : List ℕ). at ns 0)
          (sym (fields_here_are x c more s.long (first s.left t.left)) ∙ fields_same
          ∙ fields_here_are y c more t.long (second s.left t.left))
          ∙ sym (block_word y c more t.long (second s.left t.left) q)

      behind_same : behind_at T c ≡ behind_at U c
      unfolding behind_row
      behind_same =
          ap
          (λ (n : ℕ). cursor (behind_at T c).key (behind_at T c).row (behind_at T c).segs (behind_at T c).uses n)
          (go (eqb c.key 4) refl)
        where
          go : (b : Bool) → eqb c.key 4 ≡ b
              → cond b (c.insts + get_or T (row_start c) 0) c.insts
              ≡ cond b (c.insts + get_or U (row_start c) 0) c.insts
          go true q = ap (λ (n : ℕ). c.insts + n) (words_same (eqb-true c.key 4 q))
          go false q = refl

      pub record_same : (d : Cursor) → d ≡ behind_at T c → Advanced x y c d
      record_same d f =
          let p : d ≡ behind_at U c = f ∙ behind_same in
          let a : Here T s.job c s.records = first s.left t.left in
          let b : Here U t.job c t.records = second s.left t.left in
          record {
            first = record {
              long = s.long;
              job = s.job;
              records = a.rest;
              left = subst (λ (u : Cursor). Left T s.job u a.rest) (sym f) (line_left x c more s.long a);
            };
            second = record {
              long = t.long;
              job = t.job;
              records = b.rest;
              left = subst (λ (u : Cursor). Left U t.job u b.rest) (sym p) (line_left y c more t.long b);
            };
            fewer = subst (λ (u : Cursor). steps_left u < steps_left c) (sym f) (line_less x c more s.long a);
            answer = λ o g i j rs ss l m.
                g i j (first l m).rest (second l m).rest
                (subst (λ (u : Cursor). Left T i u (first l m).rest) (sym f) (line_left x c more s.long (first l m)))
                (subst (λ (u : Cursor). Left U j u (second l m).rest) (sym p)
                (line_left y c more t.long (second l m)))
                ∙ sym
                (heads l m ∙ ap (λ (u : Order). decided u (by_lines (first l m).rest (second l m).rest)) e);
          }

  -- ---- none has one

  pub both_pass : Shows x c → Shows y c → has_row T c ≡ false → has_row U c ≡ false → (d : Cursor) → d ≡ passed_on c
      → Advanced x y c d
  both_pass s t h k d e =
      let g : Going T s.job c s.records = going_on x c more s.left in
      let f : Going U t.job c t.records = going_on y c more t.left in
      record {
        first = record {
          long = s.long;
          job = s.job;
          records = s.records;
          left = inl (subst (λ (u : Cursor). Going T s.job u s.records) (sym e) (pass_left c s.records g (gone g h)));
        };
        second = record {
          long = t.long;
          job = t.job;
          records = t.records;
          left = inl (subst (λ (u : Cursor). Going U t.job u t.records) (sym e) (pass_left c t.records f (gone f k)));
        };
        fewer =
            subst (λ (u : Cursor). steps_left u < steps_left c) (sym e)
            (pass_falls c g (omega (arith, g.key, (passing x c more h).1)));
        answer = λ o a i j rs ss l m.
            let p : Going T i c rs = going_on x c more l in
            let q : Going U j c ss = going_on y c more m in
            a i j rs ss
            (inl (subst (λ (u : Cursor). Going T i u rs) (sym e) (pass_left c rs p (gone p h))))
            (inl (subst (λ (u : Cursor). Going U j u ss) (sym e) (pass_left c ss q (gone q k))));
      }

-- ---- behind the end

pub both_over : (T U : List ℕ) (c : Cursor) → c.key ≡ 12 → Orders T U c Same
unfolding by_lines by_places
both_over T U c e = λ i j rs ss l m.
    sym
    (ap (λ (us : List Record). by_lines us ss) (over_none c rs e l)
    ∙ ap (λ (us : List Record). by_lines [] us) (over_none c ss e m))
