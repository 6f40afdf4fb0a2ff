-- A line of the second form by its fields. Assumes nothing.
use Rattle.std.specs.Prelude.{◌≡◌, refl, List, [], ◌∷◌, Bool, true, false, cond, ℕ, zero, suc, ◌-◌, ltb, eqb, Some, None}
use Rattle.std.proofs.Common.{sym, ap, ◌∙◌, arith, le-ltb}
use Rattle.std.proofs.Math.Option.{Option, none, some}
use Rattle.definition.specs.Text.{◌>>=◌, Fields, fields_of, end_field as field_ended, onto_field, read_number}
use Rattle.sheet_rules.specs.Bytes.{num, take_byte, closed_of, Took}
use Rattle.sheet_rules.specs.declared.digits.Num.{Num}
use Rattle.sheet.specs.declared.fields.St.{St}
use Rattle.sheet.specs.Front.{Keeping, keep_of}
use Rattle.sheet_laws.specs.Fields.{onward as took_on, take_all, closing, number_field}
use Rattle.sheet_laws.specs.Split.{Seen, gone, at, on, step_l, close_l, run_l as run_s, line_s, step_b, run_b, close_f, field_s}
use Rattle.sheet_laws.specs.Split.{fields_s, close_r, close_lines}
use Rattle.sheet_laws.specs.Views.{digits, Viewed, nought, seen, word, plain, before, written, with_p, on_v}
use Rattle.sheet_laws.specs.Views.{after_p, took_p, in_line, line_end, run_l, line_v}

nought_line : (l : List ℕ) → line_v nought l ≡ nought
nought_line [] = refl
nought_line (b ∷ l) = nought_line l

-- ---- a line that has no written field

plain_run : (l : List ℕ) (t : Keeping) (x : Seen) → run_l (with_p plain t x) l ≡ with_p plain t (run_s x l)
plain_run [] t x = refl
plain_run (b ∷ l) t gone = plain_run l t gone
plain_run (b ∷ l) t (at s o) = plain_run l t (step_l b s o)

plain_line : (l : List ℕ) (t : Keeping) (x : Seen) → line_v (with_p plain t x) l ≡ with_p word t (line_s x l)
plain_line l t x = ap (λ y. on_v y line_end) (plain_run l t x) ∙ go (run_s x l)
  where
    go : (y : Seen) → on_v (with_p plain t y) line_end ≡ with_p word t (on y close_l)
    go gone = refl
    go (at s o) = refl

-- ---- the written field, and the line's end

-- a number is kept
abbrev pub keep_if : ℕ → Keeping → Option ℕ → Seen → Viewed
keep_if key t none y = nought
keep_if key t (some v) y = with_p word (keep_of key v t) y

-- with other fields behind it
abbrev close_w : ℕ → Keeping → List (List ℕ) → Option ℕ → Seen → Viewed
close_w key t [] m y = keep_if key t m y
close_w key t (g ∷ gs) m y = nought

closed_none : (key : ℕ) (t : Keeping) (gs : List (List ℕ)) (y : Seen) → nought ≡ close_w key t gs none y
closed_none key t [] y = refl
closed_none key t (g ∷ gs) y = refl

written_line : (l : List ℕ) (key : ℕ) (x : Num) (s : St) (o : List ℕ) (t : Keeping)
    → line_v (seen (written key x) s o t) l
    ≡ close_w key t (fields_of l).rest (closing digits (take_all digits x (fields_of l).first)) (close_l s o)
unfolding fields_of take_all
written_line [] key x s o t = go (closed_of digits x)
  where
    go : (u : Bool) → cond u (with_p word (keep_of key x.value t) (close_l s o)) nought
        ≡ keep_if key t (cond u (some x.value) none) (close_l s o)
    go true = refl
    go false = refl
written_line (b ∷ l) key x s o t = go (eqb b 9) (fields_of l) (λ y. written_line l key y s o t)
  where
    by : (r : Fields) (k : Took)
        → ((y : Num) → line_v (seen (written key y) s o t) l
        ≡ close_w key t r.rest (closing digits (take_all digits y r.first)) (close_l s o))
        → line_v (took_p key s o t k) l
        ≡ close_w key t r.rest (closing digits (took_on k (λ y. take_all digits y r.first))) (close_l s o)
    by r (Some y) h = h y
    by r None h = nought_line l ∙ closed_none key t r.rest (close_l s o)

    go : (u : Bool) (r : Fields)
        → ((y : Num) → line_v (seen (written key y) s o t) l
        ≡ close_w key t r.rest (closing digits (take_all digits y r.first)) (close_l s o))
        → line_v (cond u nought (took_p key s o t (take_byte digits x b))) l
        ≡ close_w key t (cond u (field_ended r) (onto_field b r)).rest
        (closing digits (take_all digits x (cond u (field_ended r) (onto_field b r)).first)) (close_l s o)
    go true r h = nought_line l
    go false r h = by r (take_byte digits x b) h

-- ---- the fields before it

-- behind one more field of the reader
abbrev last_w : ℕ → Keeping → Seen → List (List ℕ) → Option ℕ → Viewed
last_w key t gone gs m = nought
last_w key t (at s o) gs m = close_w key t gs m (close_l s o)

-- k more fields stand between field f and the written one
before_s : ℕ → Keeping → Seen → List ℕ → List (List ℕ) → ℕ → Viewed
before_s key t x f [] k = nought
before_s key t x f (g ∷ gs) zero = last_w key t (run_b x f) gs (read_number 4294967295 g)
before_s key t x f (g ∷ gs) (suc k) = before_s key t (field_s x f) g gs k

first_byte : (key : ℕ) (t : Keeping) (x : Seen) (b : ℕ) (f : List ℕ) (gs : List (List ℕ)) (k : ℕ)
    → before_s key t (on x (step_b b)) f gs k ≡ before_s key t x (b ∷ f) gs k
unfolding before_s
first_byte key t x b f [] k = refl
first_byte key t x b f (g ∷ gs) zero = refl
first_byte key t x b f (g ∷ gs) (suc k) = refl

many : (k : ℕ) → ltb (suc (suc k)) 2 ≡ false
many k = le-ltb (suc (suc k)) 2 (omega arith)

one_less : (k : ℕ) → suc (suc k) - 1 ≡ suc k
one_less k = omega arith

before_line : (l : List ℕ) (key : ℕ) (t : Keeping) (x : Seen) (k : ℕ)
    → line_v (with_p (before key (suc k)) t x) l ≡ before_s key t x (fields_of l).first (fields_of l).rest k
unfolding fields_of before_s
before_line [] key t gone k = refl
before_line [] key t (at s o) k = refl
before_line (b ∷ l) key t x k = go (eqb b 9) refl (fields_of l) k (λ j y. before_line l key t y j)
    (λ s o. written_line l key (num 0 0) s o t)
  where
    inner : (u : Bool) → eqb b 9 ≡ u → (y : Seen) (j : ℕ) → on_v (with_p (before key (suc j)) t y) (in_line b)
        ≡ elim y [
          | gone ↦ nought
          | at s o ↦ cond u
              (cond (ltb (suc j) 2) (seen (written key (num 0 0)) s o t) (with_p (before key (suc j - 1)) t (close_f s o)))
              (with_p (before key (suc j)) t (step_b b s o))
        ]
    inner u e gone j = refl
    inner u e (at s o) j = ap
        (λ (v : Bool). cond v
        (cond (ltb (suc j) 2) (seen (written key (num 0 0)) s o t) (with_p (before key (suc j - 1)) t (close_f s o)))
        (with_p (before key (suc j)) t (step_b b s o))) e

    last : (y : Seen) (r : Fields)
        → ((s : St) (o : List ℕ)
        → line_v (seen (written key (num 0 0)) s o t) l
        ≡ close_w key t r.rest (closing digits (take_all digits (num 0 0) r.first)) (close_l s o))
        → line_v (elim y [ gone ↦ nought | at s o ↦ seen (written key (num 0 0)) s o t ]) l
        ≡ last_w key t y r.rest (read_number 4294967295 r.first)
    last gone r h = nought_line l
    last (at s o) r h = h s o
        ∙ ap (λ (m : Option ℕ). close_w key t r.rest m (close_l s o))
        (number_field 4294967295 (omega arith) r.first)

    more : (y : Seen) (j : ℕ)
        → elim y [
          | gone ↦ nought
          | at s o ↦ cond (ltb (suc (suc j)) 2) (seen (written key (num 0 0)) s o t)
              (with_p (before key (suc (suc j) - 1)) t (close_f s o))
        ] ≡ with_p (before key (suc j)) t (on y close_f)
    more gone j = refl
    more (at s o) j = rw (many j, one_less j)

    other : (y : Seen) (j : ℕ)
        → elim y [ gone ↦ nought | at s o ↦ with_p (before key (suc j)) t (step_b b s o) ]
        ≡ with_p (before key (suc j)) t (on y (step_b b))
    other gone j = refl
    other (at s o) j = refl

    go : (u : Bool) → eqb b 9 ≡ u → (r : Fields) (j : ℕ)
        → ((i : ℕ) (y : Seen) → line_v (with_p (before key (suc i)) t y) l ≡ before_s key t y r.first r.rest i)
        → ((s : St) (o : List ℕ)
        → line_v (seen (written key (num 0 0)) s o t) l
        ≡ close_w key t r.rest (closing digits (take_all digits (num 0 0) r.first)) (close_l s o))
        → line_v (with_p (before key (suc j)) t x) (b ∷ l)
        ≡ before_s key t x (cond u (field_ended r) (onto_field b r)).first
        (cond u (field_ended r) (onto_field b r)).rest j
    go true e r zero h w = ap (λ y. line_v y l) (inner true e x zero) ∙ last x r w
    go true e r (suc j) h w = ap (λ y. line_v y l) (inner true e x (suc j) ∙ more x j) ∙ h j (on x close_f)
    go false e r j h w = ap (λ y. line_v y l) (inner false e x j ∙ other x j) ∙ h j (on x (step_b b))
        ∙ first_byte key t x b r.first r.rest j

-- ---- the fields cut: those before the written one, and that

abbrev pub Parted : Type 0
Parted = List (List ℕ) × List ℕ

unfoldable pub last_of : ℕ → List (List ℕ) → Option Parted
last_of k [] = none
last_of zero (c ∷ []) = some ([], c)
last_of zero (c ∷ d ∷ ds) = none
last_of (suc k) (f ∷ fs) = last_of k fs >>= λ p. some (f ∷ p.0, p.1)

abbrev pub cut_s : ℕ → Keeping → Seen → List ℕ → Option Parted → Viewed
cut_s key t x f none = nought
cut_s key t x f (some p) = keep_if key t (read_number 4294967295 p.1) (on (fields_s x f p.0) close_r)

before_cut : (k : ℕ) (gs : List (List ℕ)) (key : ℕ) (t : Keeping) (x : Seen) (f : List ℕ)
    → before_s key t x f gs k ≡ cut_s key t x f (last_of k gs)
unfolding before_s last_of
before_cut zero [] key t x f = refl
before_cut (suc k) [] key t x f = refl
before_cut zero (c ∷ []) key t x f = go (run_b x f) (read_number 4294967295 c)
  where
    go : (y : Seen) (m : Option ℕ) → last_w key t y [] m ≡ keep_if key t m (on (on y close_f) close_r)
    go gone none = refl
    go gone (some v) = refl
    go (at s o) m = ap (λ z. keep_if key t m z) (close_lines (at s o))
before_cut zero (c ∷ d ∷ ds) key t x f = go (run_b x f)
  where
    go : (y : Seen) → last_w key t y (d ∷ ds) (read_number 4294967295 c) ≡ nought
    go gone = refl
    go (at s o) = refl
before_cut (suc k) (g ∷ gs) key t x f = before_cut k gs key t (field_s x f) g ∙ go (last_of k gs)
  where
    go : (m : Option Parted) → cut_s key t (field_s x f) g m ≡ cut_s key t x f (m >>= λ p. some (g ∷ p.0, p.1))
    go none = refl
    go (some p) = refl

-- ---- a line from its start

-- behind the word: block and seg have a written field
abbrev pub next_s : Keeping → Seen → Seen → List ℕ → List (List ℕ) → Viewed
next_s t gone y g gs = nought
next_s t (at s o) y g gs =
    cond (eqb s.key 4) (cut_s 4 t (at s o) g (last_of 1 gs))
    (cond (eqb s.key 9) (cut_s 9 t (at s o) g (last_of 3 gs)) (with_p word t y))

abbrev pub word_s : Keeping → Seen → Seen → List ℕ → List (List ℕ) → Viewed
word_s t x y c [] = with_p word t y
word_s t x y c (g ∷ gs) = next_s t (field_s x c) y g gs

word_first : (t : Keeping) (x y : Seen) (b : ℕ) (c : List ℕ) (gs : List (List ℕ))
    → word_s t (on x (step_b b)) y c gs ≡ word_s t x y (b ∷ c) gs
word_first t x y b c [] = refl
word_first t x y b c (g ∷ gs) = refl

pub word_line : (l : List ℕ) (t : Keeping) (x : Seen)
    → line_v (with_p word t x) l ≡ word_s t x (line_s x l) (fields_of l).first (fields_of l).rest
unfolding fields_of
word_line [] t gone = refl
word_line [] t (at s o) = refl
word_line (b ∷ l) t x = go (eqb b 9) refl (fields_of l) (λ y. word_line l t y) (λ key y k. before_line l key t y k
    ∙ before_cut k (fields_of l).rest key t y (fields_of l).first)
  where
    stepped : (u : Bool) → eqb b 9 ≡ u → (y : Seen) → on y (step_l b) ≡ cond u (on y close_f) (on y (step_b b))
    stepped true e gone = refl
    stepped false e gone = refl
    stepped true e (at s o) = ap (λ (v : Bool). cond v (close_f s o) (step_b b s o)) e
    stepped false e (at s o) = ap (λ (v : Bool). cond v (close_f s o) (step_b b s o)) e

    inner : (u : Bool) → eqb b 9 ≡ u → (y : Seen)
        → on_v (with_p word t y) (in_line b) ≡ cond u (after_p t (on y close_f)) (with_p word t (on y (step_b b)))
    inner true e gone = refl
    inner false e gone = refl
    inner true e (at s o) = ap (λ (v : Bool). cond v (after_p t (close_f s o)) (with_p word t (step_b b s o))) e
    inner false e (at s o) = ap (λ (v : Bool). cond v (after_p t (close_f s o)) (with_p word t (step_b b s o))) e

    after : (y : Seen) (r : Fields)
        → ((key : ℕ) (z : Seen) (k : ℕ)
        → line_v (with_p (before key (suc k)) t z) l ≡ cut_s key t z r.first (last_of k r.rest))
        → line_v (after_p t y) l ≡ next_s t y (line_s y l) r.first r.rest
    after gone r w = nought_line l
    after (at s o) r w = by (eqb s.key 4) (eqb s.key 9)
      where
        by : (u v : Bool) → line_v (seen (cond u (before 4 2) (cond v (before 9 4) plain)) s o t) l
            ≡ cond u (cut_s 4 t (at s o) r.first (last_of 1 r.rest))
            (cond v (cut_s 9 t (at s o) r.first (last_of 3 r.rest)) (with_p word t (line_s (at s o) l)))
        by true v = w 4 (at s o) 1
        by false true = w 9 (at s o) 3
        by false false = plain_line l t (at s o)

    go : (u : Bool) → eqb b 9 ≡ u → (r : Fields)
        → ((y : Seen) → line_v (with_p word t y) l ≡ word_s t y (line_s y l) r.first r.rest)
        → ((key : ℕ) (z : Seen) (k : ℕ)
        → line_v (with_p (before key (suc k)) t z) l ≡ cut_s key t z r.first (last_of k r.rest))
        → line_v (with_p word t x) (b ∷ l)
        ≡ word_s t x (line_s x (b ∷ l)) (cond u (field_ended r) (onto_field b r)).first
        (cond u (field_ended r) (onto_field b r)).rest
    go true e r h w =
        ap (λ y. line_v y l) (inner true e x) ∙ after (on x close_f) r w
        ∙ ap (λ y. next_s t (on x close_f) (line_s y l) r.first r.rest) (sym (stepped true e x))
    go false e r h w =
        ap (λ y. line_v y l) (inner false e x) ∙ h (on x (step_b b))
        ∙ ap (λ y. word_s t (on x (step_b b)) (line_s y l) r.first r.rest) (sym (stepped false e x))
        ∙ word_first t x (line_s x (b ∷ l)) b r.first r.rest
