-- The machine's bytes in the second form, cut into lines. Assumes nothing.
use Rattle.std.specs.Prelude.{◌≡◌, List, [], ◌∷◌, ℕ, ◌-◌, ltb, Some, None}
use Rattle.std.proofs.Math.Path.{refl, sym, ap}
use Rattle.std.proofs.Common.{◌∙◌, subst, arith, eqb-true}
use Rattle.std.proofs.Math.Bool.{Bool, true, false, cond}
use Rattle.std.proofs.lemmas.Bool.{false≢true}
use Rattle.std.proofs.Math.Option.{Option, none, some}
use Rattle.std.proofs.Math.Dec.{eqb}
use Rattle.definition.specs.Text.{lines_of, end_line as line_ended, onto_line}
use Rattle.sheet_rules.specs.Bytes.{num, take_byte, closed_of, Took}
use Rattle.sheet_rules.specs.declared.digits.Form.{Form}
use Rattle.sheet_rules.specs.declared.digits.Form.TheVariants.{Number}
use Rattle.sheet_rules.specs.declared.digits.Num.{Num}
use Rattle.sheet.specs.declared.fields.St.{St}
use Rattle.sheet.specs.Fields.{Next, Fed, fed}
use Rattle.sheet.specs.Machine.{step_of, push_of, answer_of}
use Rattle.sheet.specs.Fronts.{Front, Opening, First, Word, Plain, Before, Written}
use Rattle.sheet.specs.Front.{stands, stood, lost, standing, on_digit, front_after, in_word, in_plain}
use Rattle.sheet.specs.Front.{before_of, written_of, close_of, Keeping, keep_of, Formed, onward, by_front, push_form}
use Rattle.sheet.specs.Front.{run_form, second_of, finish_of}
use Rattle.sheet_laws.specs.Split.{Seen, gone, at, view_n, view, step_l, close_l, step_b, close_f, Mid, mid}
use Rattle.sheet_laws.specs.Table.{Filled}
use Rattle.sheet_laws.specs.Agree.{outcome, ans_s, mid_answer}

abbrev pub digits : Form
digits = Number 4294967295

-- where a line of the second form stands
pub data Place : Type 0 where
  word plain : Place
  before : ℕ → ℕ → Place
  written : ℕ → Num → Place

-- what the machine holds in the second form, or that it saw something malformed
pub data Viewed : Type 0 where
  nought : Viewed
  seen : Place → St → List ℕ → Keeping → Viewed

abbrev pub with_p : Place → Keeping → Seen → Viewed
with_p p t gone = nought
with_p p t (at s o) = seen p s o t

abbrev pub on_v : Viewed → (Place → St → List ℕ → Keeping → Viewed) → Viewed
on_v nought k = nought
on_v (seen p s o t) k = k p s o t

abbrev pub view_p : Front → Fed → Keeping → Viewed
view_p (Opening k) g t = nought
view_p First g t = nought
view_p Word g t = with_p word t (view g)
view_p Plain g t = with_p plain t (view g)
view_p (Before key left) g t = with_p (before key left) t (view g)
view_p (Written key x) g t = with_p (written key x) t (view g)

abbrev pub view_f : Formed → Viewed
view_f f = view_p f.at.front f.at.fed f.keeping

-- ---- a byte within a line, and the end of a line

abbrev pub place_after : ℕ → Place
place_after key = cond (eqb key 4) (before 4 2) (cond (eqb key 9) (before 9 4) plain)

abbrev pub after_p : Keeping → Seen → Viewed
after_p t gone = nought
after_p t (at s o) = seen (place_after s.key) s o t

abbrev pub took_p : ℕ → St → List ℕ → Keeping → Took → Viewed
took_p key s o t (Some y) = seen (written key y) s o t
took_p key s o t None = nought

abbrev pub in_line : ℕ → Place → St → List ℕ → Keeping → Viewed
in_line b word s o t = cond (eqb b 9) (after_p t (close_f s o)) (with_p word t (step_b b s o))
in_line b plain s o t = with_p plain t (step_l b s o)
in_line b (before key left) s o t =
    cond (eqb b 9)
    (cond (ltb left 2) (seen (written key (num 0 0)) s o t) (with_p (before key (left - 1)) t (close_f s o)))
    (with_p (before key left) t (step_b b s o))
in_line b (written key x) s o t = cond (eqb b 9) nought (took_p key s o t (take_byte digits x b))

abbrev pub line_end : Place → St → List ℕ → Keeping → Viewed
line_end word s o t = with_p word t (close_l s o)
line_end plain s o t = with_p word t (close_l s o)
line_end (before key left) s o t = nought
line_end (written key x) s o t = cond (closed_of digits x) (with_p word (keep_of key x.value t) (close_l s o)) nought

abbrev pub push_p : ℕ → Place → St → List ℕ → Keeping → Viewed
push_p b p s o t = cond (eqb b 10) (line_end p s o t) (in_line b p s o t)

abbrev pub run_v : Viewed → List ℕ → Viewed
run_v x [] = x
run_v x (b ∷ bs) = run_v (on_v x (push_p b)) bs

-- ---- the machine does so

both_not : {A : Type 0} (b : ℕ) → eqb b 10 ≡ true → eqb b 9 ≡ true → A
both_not b e f = absurd (let x : b ≡ 10 = eqb-true b 10 e in let y : b ≡ 9 = eqb-true b 9 f in omega arith)

step_is : (s : St) (b : ℕ) (o : List ℕ) (t u : Bool) → eqb b 10 ≡ t → eqb b 9 ≡ u
    → view (step_of s b o) ≡ cond t (close_l s o) (cond u (close_f s o) (step_b b s o))
unfolding step_of
step_is s b o true u e f = rw e
step_is s b o false true e f = rw (e, f)
step_is s b o false false e f = rw (e, f)

in_is : (s : St) (b : ℕ) (o : List ℕ) (u : Bool) → eqb b 9 ≡ u → step_l b s o ≡ cond u (close_f s o) (step_b b s o)
in_is s b o u e = ap (λ (v : Bool). cond v (close_f s o) (step_b b s o)) e

module _ (t : Keeping) (b : ℕ) where
  after_view : (h : Fed) → view_p (front_after h.next) h t ≡ after_p t (view h)
  unfolding front_after
  after_view h = go h.next
    where
      by : (s : St) (u v : Bool)
          → view_p (cond u (Before 4 2) (cond v (Before 9 4) Plain)) (fed (Some s) h.out) t
          ≡ seen (cond u (before 4 2) (cond v (before 9 4) plain)) s h.out t
      by s true v = refl
      by s false true = refl
      by s false false = refl

      go : (n : Next) → view_p (front_after n) (fed n h.out) t ≡ after_p t (view_n n h.out)
      go (Some s) = by s (eqb s.key 4) (eqb s.key 9)
      go None = refl

  push_word : (g : Fed) → view_f (by_front Word g t b) ≡ on_v (view_p Word g t) (push_p b)
  unfolding in_word push_of
  push_word g = go g.next
    where
      by : (s : St) (u v : Bool) → eqb b 10 ≡ u → eqb b 9 ≡ v
          → view_p (cond v (front_after (step_of s b g.out).next) Word) (step_of s b g.out) t
          ≡ cond u (with_p word t (close_l s g.out))
          (cond v (after_p t (close_f s g.out)) (with_p word t (step_b b s g.out)))
      by s true true e f = both_not b e f
      by s true false e f = ap (with_p word t) (step_is s b g.out true false e f)
      by s false true e f = after_view (step_of s b g.out) ∙ ap (after_p t) (step_is s b g.out false true e f)
      by s false false e f = ap (with_p word t) (step_is s b g.out false false e f)

      none_left : (v : Bool) → view_p (cond v (front_after None) Word) (fed None g.out) t ≡ nought
      none_left true = refl
      none_left false = refl

      go : (n : Next) → view_f (by_front Word (fed n g.out) t b) ≡ on_v (view_p Word (fed n g.out) t) (push_p b)
      go (Some s) = by s (eqb b 10) (eqb b 9) refl refl
      go None = none_left (eqb b 9)

  push_plain : (g : Fed) → view_f (by_front Plain g t b) ≡ on_v (view_p Plain g t) (push_p b)
  unfolding in_plain push_of
  push_plain g = go g.next
    where
      by : (s : St) (u v : Bool) → eqb b 10 ≡ u → eqb b 9 ≡ v
          → view_p (cond u Word Plain) (step_of s b g.out) t
          ≡ cond u (with_p word t (close_l s g.out)) (with_p plain t (step_l b s g.out))
      by s true v e f = ap (with_p word t) (step_is s b g.out true v e f)
      by s false v e f = ap (with_p plain t) (step_is s b g.out false v e f ∙ sym (in_is s b g.out v f))

      none_left : (u : Bool) → view_p (cond u Word Plain) (fed None g.out) t ≡ nought
      none_left true = refl
      none_left false = refl

      go : (n : Next) → view_f (by_front Plain (fed n g.out) t b) ≡ on_v (view_p Plain (fed n g.out) t) (push_p b)
      go (Some s) = by s (eqb b 10) (eqb b 9) refl refl
      go None = none_left (eqb b 10)

  push_before : (key left : ℕ) (g : Fed)
      → view_f (by_front (Before key left) g t b) ≡ on_v (view_p (Before key left) g t) (push_p b)
  unfolding before_of push_of
  push_before key left g = go g.next
    where
      shut : Fed → (u v w : Bool) → Viewed
      shut h u v w =
          view_f (onward (cond u (lost (Before key left) (fed h.next g.out))
          (cond v (cond w (stands (Written key (num 0 0)) (fed h.next g.out)) (stands (Before key (left - 1)) h))
          (stands (Before key left) h))) t)

      by : (s : St) (u v w : Bool) → eqb b 10 ≡ u → eqb b 9 ≡ v
          → view_f (onward (cond u (lost (Before key left) (fed (Some s) g.out))
          (cond v (cond w (stands (Written key (num 0 0)) (fed (Some s) g.out))
          (stands (Before key (left - 1)) (step_of s b g.out)))
          (stands (Before key left) (step_of s b g.out)))) t)
          ≡ cond u nought (cond v
          (cond w (seen (written key (num 0 0)) s g.out t) (with_p (before key (left - 1)) t (close_f s g.out)))
          (with_p (before key left) t (step_b b s g.out)))
      by s true v w e f = refl
      by s false true true e f = refl
      by s false true false e f = ap (with_p (before key (left - 1)) t) (step_is s b g.out false true e f)
      by s false false w e f = ap (with_p (before key left) t) (step_is s b g.out false false e f)

      none_left : (u v w : Bool) → shut (fed None g.out) u v w ≡ nought
      none_left true v w = refl
      none_left false true true = refl
      none_left false true false = refl
      none_left false false w = refl

      go : (n : Next) → view_f (by_front (Before key left) (fed n g.out) t b)
          ≡ on_v (view_p (Before key left) (fed n g.out) t) (push_p b)
      go (Some s) = by s (eqb b 10) (eqb b 9) (ltb left 2) refl refl
      go None = none_left (eqb b 10) (eqb b 9) (ltb left 2)

  push_written : (key : ℕ) (x : Num) (g : Fed)
      → view_f (by_front (Written key x) g t b) ≡ on_v (view_p (Written key x) g t) (push_p b)
  unfolding written_of close_of push_of
  push_written key x g = go g.next
    where
      put : Next → Bool → Bool → Bool → Took → Viewed
      put n u v w k =
          view_f (cond u (onward (cond w (stands Word (push_of (fed n g.out) 10)) (lost Word (fed n g.out)))
          (keep_of key x.value t))
          (onward (stood (cond v (standing (Written key x) None) (on_digit key x n k)) g.out) t))

      by : (s : St) (u v w : Bool) (k : Took) → put (Some s) u v w k
          ≡ cond u (cond w (with_p word (keep_of key x.value t) (close_l s g.out)) nought)
          (cond v nought (took_p key s g.out t k))
      by s true v true k = ap (with_p word (keep_of key x.value t)) (step_is s 10 g.out true false refl refl)
      by s true v false k = refl
      by s false true w k = refl
      by s false false w (Some y) = refl
      by s false false w None = refl

      none_left : (u v w : Bool) (k : Took) → put None u v w k ≡ nought
      none_left true v true k = refl
      none_left true v false k = refl
      none_left false true w k = refl
      none_left false false w (Some y) = refl
      none_left false false w None = refl

      go : (n : Next) → view_f (by_front (Written key x) (fed n g.out) t b)
          ≡ on_v (view_p (Written key x) (fed n g.out) t) (push_p b)
      go (Some s) = by s (eqb b 10) (eqb b 9) (closed_of digits x) (take_byte digits x b)
      go None = none_left (eqb b 10) (eqb b 9) (closed_of digits x) (take_byte digits x b)

  view_push : (m : Front) → second_of m ≡ true → (g : Fed) → view_f (by_front m g t b) ≡ on_v (view_p m g t) (push_p b)
  unfolding second_of
  view_push (Opening k) e g = absurd (false≢true e)
  view_push First e g = absurd (false≢true e)
  view_push Word e g = push_word g
  view_push Plain e g = push_plain g
  view_push (Before key left) e g = push_before key left g
  view_push (Written key x) e g = push_written key x g

-- a sheet of the second form stays one
stays : (m : Front) (g : Fed) (t : Keeping) (b : ℕ) → second_of m ≡ true → second_of (by_front m g t b).at.front ≡ true
unfolding second_of in_word in_plain before_of written_of close_of front_after
stays (Opening k) g t b e = absurd (false≢true e)
stays First g t b e = absurd (false≢true e)
stays Word g t b e = go (eqb b 9) (push_of g b).next
  where
    by : (u v : Bool) → second_of (cond u (Before 4 2) (cond v (Before 9 4) Plain)) ≡ true
    by true v = refl
    by false true = refl
    by false false = refl

    go : (u : Bool) (n : Next) → second_of (cond u (front_after n) Word) ≡ true
    go true (Some s) = by (eqb s.key 4) (eqb s.key 9)
    go true None = refl
    go false n = refl
stays Plain g t b e = go (eqb b 10)
  where
    go : (u : Bool) → second_of (cond u Word Plain) ≡ true
    go true = refl
    go false = refl
stays (Before key left) g t b e = go (eqb b 10) (eqb b 9) (ltb left 2)
  where
    go : (u v w : Bool) → second_of
        (cond u (lost (Before key left) g)
        (cond v (cond w (stands (Written key (num 0 0)) g) (stands (Before key (left - 1)) (push_of g b)))
        (stands (Before key left) (push_of g b)))).front ≡ true
    go true v w = refl
    go false true true = refl
    go false true false = refl
    go false false w = refl
stays (Written key x) g t b e = go (eqb b 10) (eqb b 9) (closed_of digits x) (take_byte digits x b)
  where
    go : (u v w : Bool) (k : Took)
        → second_of (cond u (onward (cond w (stands Word (push_of g 10)) (lost Word g)) (keep_of key x.value t))
        (onward (stood (cond v (standing (Written key x) None) (on_digit key x g.next k)) g.out) t)).at.front
        ≡ true
    go true v true k = refl
    go true v false k = refl
    go false true w k = refl
    go false false w (Some y) = refl
    go false false w None = refl

pub second_stays : (f : Formed) (bs : List ℕ) → second_of f.at.front ≡ true
    → second_of (run_form f bs).at.front ≡ true
unfolding run_form push_form
second_stays f [] e = e
second_stays f (b ∷ bs) e = second_stays (push_form f b) bs (stays f.at.front f.at.fed f.keeping b e)

pub view_runs : (f : Formed) (bs : List ℕ) → second_of f.at.front ≡ true → view_f (run_form f bs) ≡ run_v (view_f f) bs
unfolding run_form push_form
view_runs f [] e = refl
view_runs f (b ∷ bs) e =
    view_runs (push_form f b) bs (stays f.at.front f.at.fed f.keeping b e)
    ∙ ap (λ x. run_v x bs) (view_push f.keeping b f.at.front e f.at.fed)

-- ---- lines

abbrev pub run_l : Viewed → List ℕ → Viewed
run_l x [] = x
run_l x (b ∷ bs) = run_l (on_v x (in_line b)) bs

abbrev pub line_v : Viewed → List ℕ → Viewed
line_v x l = on_v (run_l x l) line_end

abbrev pub lines_v : Viewed → List (List ℕ) → Viewed
lines_v x [] = x
lines_v x (l ∷ ls) = lines_v (line_v x l) ls

-- what the end of the sheet makes of it: the table and the written fields
pub record Ended : Type 0 where
  pub filled : Filled
  pub keeping : Keeping

abbrev pub with_kept : Keeping → Option Filled → Option Ended
with_kept t none = none
with_kept t (some f) = some (record { filled = f; keeping = t })

abbrev pub front_of : Place → Front
front_of word = Word
front_of plain = Plain
front_of (before key left) = Before key left
front_of (written key x) = Written key x

abbrev pub ans_v : Viewed → Option Ended
ans_v nought = none
ans_v (seen p s o t) = with_kept t (outcome (finish_of (front_of p) (Some s)) o)

pub ans_word : (t : Keeping) (y : Seen) → ans_v (with_p word t y) ≡ with_kept t (ans_s y)
unfolding finish_of answer_of
ans_word t gone = refl
ans_word t (at s o) = refl

-- a byte that ends no line leaves the machine inside one
inside : (x : Viewed) (b : ℕ) → ans_v (on_v x (in_line b)) ≡ none
unfolding finish_of
inside nought b = refl
inside (seen word s o t) b = go (eqb b 9) refl
  where
    after : (u v : Bool) (r : St) (q : List ℕ)
        → ans_v (seen (cond u (before 4 2) (cond v (before 9 4) plain)) r q t) ≡ none
    after true v r q = refl
    after false true r q = refl
    after false false r q = refl

    ended : (y : Seen) → ans_v (after_p t y) ≡ none
    ended gone = refl
    ended (at r q) = after (eqb r.key 4) (eqb r.key 9) r q

    go : (u : Bool) → eqb b 9 ≡ u → ans_v (cond u (after_p t (close_f s o)) (with_p word t (step_b b s o))) ≡ none
    go true e = ended (close_f s o)
    go false e =
        ans_word t (step_b b s o)
        ∙ ap (with_kept t) (mid_answer (step_b b s o) (subst Mid (in_is s b o false e) (mid (at s o) b)))
inside (seen plain s o t) b = go (step_l b s o)
  where
    go : (y : Seen) → ans_v (with_p plain t y) ≡ none
    go gone = refl
    go (at r q) = refl
inside (seen (before key left) s o t) b = go (eqb b 9) (ltb left 2) (close_f s o) (step_b b s o)
  where
    go : (u v : Bool) (y z : Seen)
        → ans_v (cond u (cond v (seen (written key (num 0 0)) s o t) (with_p (before key (left - 1)) t y))
        (with_p (before key left) t z)) ≡ none
    go true true y z = refl
    go true false gone z = refl
    go true false (at r q) z = refl
    go false v y gone = refl
    go false v y (at r q) = refl
inside (seen (written key x) s o t) b = go (eqb b 9) (take_byte digits x b)
  where
    go : (u : Bool) (k : Took) → ans_v (cond u nought (took_p key s o t k)) ≡ none
    go true k = refl
    go false (Some y) = refl
    go false None = refl

-- the bytes of a sheet are its lines; without a line feed at their end there is no sheet
abbrev pub CutV : Option (List (List ℕ)) → Viewed → List ℕ → Type 0
CutV none x bs = ans_v (run_v x bs) ≡ none
CutV (some ls) x bs = run_v x bs ≡ lines_v x ls

pushed : (x : Viewed) (b : ℕ) (u : Bool) → eqb b 10 ≡ u → on_v x (push_p b) ≡ cond u (on_v x line_end) (on_v x (in_line b))
pushed nought b true e = refl
pushed nought b false e = refl
pushed (seen p s o t) b true e = ap (λ (u : Bool). cond u (line_end p s o t) (in_line b p s o t)) e
pushed (seen p s o t) b false e = ap (λ (u : Bool). cond u (line_end p s o t) (in_line b p s o t)) e

pub cut_lines : (bs : List ℕ) (x : Viewed) → CutV (lines_of bs) x bs
unfolding lines_of
cut_lines [] x = refl
cut_lines (b ∷ bs) x = go (eqb b 10) refl (lines_of bs) (cut_lines bs (on_v x (push_p b)))
  where
    go : (u : Bool) → eqb b 10 ≡ u → (r : Option (List (List ℕ))) → CutV r (on_v x (push_p b)) bs
        → CutV (cond u (line_ended r) (onto_line b r)) x (b ∷ bs)
    go true e none h = h
    go true e (some ls) h = h ∙ ap (λ y. lines_v y ls) (pushed x b true e)
    go false e none h = h
    go false e (some []) h = ap ans_v (h ∙ pushed x b false e) ∙ inside x b
    go false e (some (l ∷ ls)) h = h ∙ ap (λ y. lines_v (line_v y l) ls) (pushed x b false e)
