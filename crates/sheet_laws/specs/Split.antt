-- The machine's bytes, cut into lines and fields. Assumes nothing.
use Rattle.std.specs.Prelude.{◌≡◌, Bool, not, cond, ℕ, ◌+◌, ◌*◌, ◌≤◌, get_or, set, ltb, Some, None}
use Rattle.std.proofs.Math.Path.{refl, ap, subst}
use Rattle.std.proofs.Common.{sym, ◌∙◌, arith, ne_eqb}
use mathlib.Core.List.{List, [], ◌∷◌}
use Rattle.std.proofs.Math.Bool.{true, false}
use Rattle.std.proofs.Math.Option.{Option, none, some}
use Rattle.std.proofs.Math.Dec.{eqb}
use Rattle.definition.specs.Text.{digit_of, read_number, read_bits, lines_of, end_line as line_ended, onto_line, Fields, fields_of, end_field as field_ended, onto_field}
use Rattle.sheet_rules.specs.Bytes.{num, take_byte, closed_of, number_byte, mask_byte, word_byte, Took}
use Rattle.sheet_rules.specs.declared.digits.Form.{Form}
use Rattle.sheet_rules.specs.declared.digits.Form.TheVariants.{Nothing, Number, Mask, Word}
use Rattle.sheet_rules.specs.declared.digits.Num.{Num}
use Rattle.sheet_rules.specs.Rules.{form_at, low_of, follows_of, key_of}
use Rattle.sheet_rules.specs.Places.{count_at, row_at, place_of, up_of}
use Rattle.sheet.specs.declared.fields.St.{St}
use Rattle.sheet.specs.Fields.{Next}
use Rattle.sheet.specs.Fields.{Fed, fed, with_num, on_took, byte_of, start_of, next_of, end_field, close_record}
use Rattle.sheet.specs.Machine.{on_field, end_line, step_of, on_next, push_of, run_of}
use Rattle.sheet_laws.specs.Fields.{onward, take_all, closing, number_field, bits_field}
use Rattle.sheet_laws.specs.Words.{Bytes, spelled, word_field}

-- a field by its form
unfoldable pub field_of : Form → List ℕ → Option ℕ
unfolding read_number read_bits spelled
field_of Nothing bs = none
field_of (Number most) bs = read_number most bs
field_of Mask bs = read_bits bs
field_of Word bs = spelled bs

-- every number's bound is a 32-bit number
abbrev pub Bounded : Form → Type 0
Bounded Nothing = Unit {0}
Bounded (Number most) = most ≤ 4294967295
Bounded Mask = Unit {0}
Bounded Word = Unit {0}

pub field : (f : Form) → Bounded f → (bs : List ℕ) → Bytes bs → closing f (take_all f (num 0 0) bs) ≡ field_of f bs
unfolding field_of take_all take_byte closed_of
field Nothing h [] y = refl
field Nothing h (b ∷ bs) y = refl
field (Number most) h bs y = number_field most h bs
field Mask h bs y = bits_field bs
field Word h bs y = word_field bs y

-- what the machine holds, or that it saw something malformed
pub data Seen : Type 0 where
  gone : Seen
  at : St → List ℕ → Seen

abbrev pub view_n : Next → List ℕ → Seen
view_n (Some s) o = at s o
view_n None o = gone

abbrev pub view : Fed → Seen
view f = view_n f.next f.out

abbrev pub on : Seen → (St → List ℕ → Seen) → Seen
on gone k = gone
on (at s o) k = k s o

abbrev pub run_s : Seen → List ℕ → Seen
run_s x [] = x
run_s x (b ∷ bs) = run_s (on x (λ s o. view (step_of s b o))) bs

view_push : (n : Next) (b : ℕ) (o : List ℕ) → view (on_next n b o) ≡ on (view_n n o) (λ s o. view (step_of s b o))
view_push (Some s) b o = refl
view_push None b o = refl

pub view_run : (f : Fed) (bs : List ℕ) → view (run_of f bs) ≡ run_s (view f) bs
unfolding run_of push_of
view_run f [] = refl
view_run f (b ∷ bs) = view_run (push_of f b) bs ∙ ap (λ x. run_s x bs) (view_push f.next b f.out)

-- a line's bytes: no line feed among them
abbrev pub step_l : ℕ → St → List ℕ → Seen
step_l b s o = cond (eqb b 9) (view (end_field s o)) (view_n (byte_of s b) o)

abbrev pub run_l : Seen → List ℕ → Seen
run_l x [] = x
run_l x (b ∷ bs) = run_l (on x (step_l b)) bs

abbrev pub close_l : St → List ℕ → Seen
close_l s o = view (end_line s o)

abbrev pub line_s : Seen → List ℕ → Seen
line_s x l = on (run_l x l) close_l

abbrev pub lines_s : Seen → List (List ℕ) → Seen
lines_s x [] = x
lines_s x (l ∷ ls) = lines_s (line_s x l) ls

step_line : (x : Seen) (b : ℕ) → eqb b 10 ≡ true → on x (λ s o. view (step_of s b o)) ≡ on x close_l
unfolding step_of
step_line gone b e = refl
step_line (at s o) b e = ap (λ t. view (cond t (end_line s o) (cond (eqb b 9) (end_field s o) (fed (byte_of s b) o)))) e

step_in : (x : Seen) (b : ℕ) → eqb b 10 ≡ false → on x (λ s o. view (step_of s b o)) ≡ on x (step_l b)
unfolding step_of
step_in gone b e = refl
step_in (at s o) b e = ap (λ t. view (cond t (end_line s o) (cond (eqb b 9) (end_field s o) (fed (byte_of s b) o)))) e ∙ by (eqb b 9)
  where
    by : (t : Bool) → view (cond t (end_field s o) (fed (byte_of s b) o)) ≡ cond t (view (end_field s o)) (view_n (byte_of s b) o)
    by true = refl
    by false = refl

-- no line feed at the end: the machine stands inside a line
abbrev pub fresh : St → Bool
fresh s = cond (eqb s.n 0) (eqb s.len 0) false

abbrev pub Mid : Seen → Type 0
Mid gone = Unit {0}
Mid (at s o) = fresh s ≡ false

abbrev pub Cut : Option (List (List ℕ)) → Seen → List ℕ → Type 0
Cut none x bs = Mid (run_s x bs)
Cut (some ls) x bs = run_s x bs ≡ lines_s x ls

module _ (mid : (x : Seen) (b : ℕ) → Mid (on x (step_l b))) where
  pub cut : (bs : List ℕ) (x : Seen) → Cut (lines_of bs) x bs
  unfolding lines_of
  cut [] x = refl
  cut (b ∷ bs) x = go (eqb b 10) refl (lines_of bs) (cut bs (on x (λ s o. view (step_of s b o))))
    where
      go : (t : Bool) → eqb b 10 ≡ t → (r : Option (List (List ℕ))) → Cut r (on x (λ s o. view (step_of s b o))) bs → Cut (cond t (line_ended r) (onto_line b r)) x (b ∷ bs)
      go true e none h = h
      go true e (some ls) h = h ∙ ap (λ y. lines_s y ls) (step_line x b e)
      go false e none h = h
      go false e (some []) h = subst Mid (sym (h ∙ step_in x b e)) (mid x b)
      go false e (some (l ∷ ls)) h = h ∙ ap (λ y. lines_s (line_s y l) ls) (step_in x b e)

-- a field's bytes: no tab among them
abbrev pub step_b : ℕ → St → List ℕ → Seen
step_b b s o = view_n (byte_of s b) o

abbrev pub run_b : Seen → List ℕ → Seen
run_b x [] = x
run_b x (b ∷ bs) = run_b (on x (step_b b)) bs

abbrev pub close_f : St → List ℕ → Seen
close_f s o = view (end_field s o)

abbrev pub field_s : Seen → List ℕ → Seen
field_s x f = on (run_b x f) close_f

abbrev pub fields_s : Seen → List ℕ → List (List ℕ) → Seen
fields_s x f [] = field_s x f
fields_s x f (g ∷ gs) = fields_s (field_s x f) g gs

abbrev pub close_r : St → List ℕ → Seen
close_r s o = view (close_record s o)

close_line : (s : St) (o : List ℕ) → close_l s o ≡ on (close_f s o) close_r
unfolding end_line
close_line s o = go (end_field s o).next (end_field s o).out
  where
    go : (n : Next) (p : List ℕ) → view (on_field n p) ≡ on (view_n n p) close_r
    go (Some t) p = refl
    go None p = refl

pub close_lines : (x : Seen) → on x close_l ≡ on (on x close_f) close_r
close_lines gone = refl
close_lines (at s o) = close_line s o

first_byte : (x : Seen) (b : ℕ) (f : List ℕ) (gs : List (List ℕ)) → fields_s x (b ∷ f) gs ≡ fields_s (on x (step_b b)) f gs
first_byte x b f [] = refl
first_byte x b f (g ∷ gs) = refl

-- a line is its fields
pub line_fields : (l : List ℕ) (x : Seen) → line_s x l ≡ on (fields_s x (fields_of l).first (fields_of l).rest) close_r
unfolding fields_of
line_fields [] x = close_lines x
line_fields (b ∷ l) x = go (eqb b 9) refl (fields_of l) (line_fields l (on x (step_l b)))
  where
    step : (t : Bool) → eqb b 9 ≡ t → (y : Seen) → on y (step_l b) ≡ on y (λ s o. cond t (view (end_field s o)) (view_n (byte_of s b) o))
    step t e gone = refl
    step t e (at s o) = ap (λ u. cond u (view (end_field s o)) (view_n (byte_of s b) o)) e

    go : (t : Bool) → eqb b 9 ≡ t → (r : Fields) → line_s (on x (step_l b)) l ≡ on (fields_s (on x (step_l b)) r.first r.rest) close_r
        → line_s x (b ∷ l) ≡ on (fields_s x (cond t (field_ended r) (onto_field b r)).first (cond t (field_ended r) (onto_field b r)).rest) close_r
    go true e r h = h ∙ ap (λ y. on (fields_s y r.first r.rest) close_r) (step true e x)
    go false e r h = h ∙ ap (λ y. on (fields_s y r.first r.rest) close_r) (step false e x) ∙ ap (λ y. on y close_r) (sym (first_byte x b r.first r.rest))

-- a field's bytes are taken one by one
abbrev pub form_of_st : St → Form
form_of_st s = form_at s.key s.kind s.n

abbrev pub took_s : St → List ℕ → Took → Seen
took_s s o (Some y) = at (with_num s y) o
took_s s o None = gone

run_gone : (bs : List ℕ) → run_b gone bs ≡ gone
run_gone [] = refl
run_gone (b ∷ bs) = run_gone bs

pub bytes : (s : St) (o : List ℕ) (f : List ℕ) (x : Num) → run_b (at (with_num s x) o) f ≡ took_s s o (take_all (form_of_st s) x f)
unfolding take_all byte_of
bytes s o [] x = refl
bytes s o (b ∷ f) x = go (take_byte (form_of_st s) x b) (λ y. bytes s o f y)
  where
    go : (t : Took) → ((y : Num) → run_b (at (with_num s y) o) f ≡ took_s s o (take_all (form_of_st s) y f))
        → run_b (view_n (on_took (with_num s x) t) o) f ≡ took_s s o (onward t (λ y. take_all (form_of_st s) y f))
    go (Some y) h = h y
    go None h = run_gone f

-- what a field's value does
abbrev pub with_value : St → ℕ → St
with_value s v = with_num s (num v 0)

abbrev pub done_b : Bool → St → List ℕ → ℕ → Seen
done_b u s o v = cond u (view_n (start_of (with_value s v) o) o) (at (next_of (with_value s v)) (set o (place_of s.key s.row s.n) (low_of v)))

abbrev pub done_s : St → List ℕ → Option ℕ → Seen
done_s s o none = gone
done_s s o (some v) = done_b (eqb s.n 0) s o v

pub field_done : (s : St) (o : List ℕ) (f : List ℕ) → Bounded (form_of_st s) → Bytes f → field_s (at (with_num s (num 0 0)) o) f ≡ done_s s o (field_of (form_of_st s) f)
unfolding end_field start_of next_of
field_done s o f b y =
    ap (λ x. on x close_f) (bytes s o f (num 0 0)) ∙ go (take_all (form_of_st s) (num 0 0) f) ∙ ap (done_s s o) (field (form_of_st s) b f y)
  where
    done_t : Bool → Option ℕ → Seen
    done_t u none = gone
    done_t u (some v) = done_b u s o v

    by : (t u : Bool) (x : Num) → view (cond t (cond u (fed (start_of (with_num s x) o) o) (fed (Some (next_of (with_num s x))) (set o (place_of s.key s.row s.n) (low_of x.value)))) (fed None o))
        ≡ done_t u (cond t (some x.value) none)
    by true true x = refl
    by true false x = refl
    by false u x = refl

    same : (m : Option ℕ) → done_t (eqb s.n 0) m ≡ done_s s o m
    same none = refl
    same (some v) = refl

    go : (t : Took) → on (took_s s o t) close_f ≡ done_s s o (closing (form_of_st s) t)
    go (Some x) = by (closed_of (form_of_st s) x) (eqb s.n 0) x ∙ same (cond (closed_of (form_of_st s) x) (some x.value) none)
    go None = refl

-- a byte that ends no line leaves the machine inside one
abbrev NotEmpty : Took → Type 0
NotEmpty (Some y) = eqb y.len 0 ≡ false
NotEmpty None = Unit {0}

else : (t : Bool) (y : Took) → NotEmpty y → NotEmpty (cond t None y)
else true y h = tt
else false y h = h

one_more_lem : (n : ℕ) → eqb (n + 1) 0 ≡ false
one_more_lem n = ne_eqb (n + 1) 0 (λ q. let q' : n + 1 ≡ 0 = q in omega arith)

took_some : (f : Form) (x : Num) (b : ℕ) → NotEmpty (take_byte f x b)
unfolding take_byte number_byte mask_byte word_byte
took_some Nothing x b = tt
took_some (Number most) x b = else (ltb 9 (digit_of b)) R₁ (else (ltb 4294967295 x.value) R₂ (else (ltb x.value x.len) R₃ (else (ltb most (x.value * 10 + digit_of b)) R₄ refl)))
  where
    R₄ : Took
    R₄ = Some (num (x.value * 10 + digit_of b) 1)

    R₃ : Took
    R₃ = cond (ltb most (x.value * 10 + digit_of b)) None R₄

    R₂ : Took
    R₂ = cond (ltb x.value x.len) None R₃

    R₁ : Took
    R₁ = cond (ltb 4294967295 x.value) None R₂
took_some Mask x b =
    else (ltb 15 (digit_of b)) (cond (ltb 4294967295 x.value) None (cond (ltb 7 x.len) None (Some (num (x.value * 16 + digit_of b) (x.len + 1)))))
    (else (ltb 4294967295 x.value) (cond (ltb 7 x.len) None (Some (num (x.value * 16 + digit_of b) (x.len + 1))))
    (else (ltb 7 x.len) (Some (num (x.value * 16 + digit_of b) (x.len + 1))) (one_more_lem x.len)))
took_some Word x b =
    else (ltb b 1) (cond (ltb 281474976710655 x.value) None (cond (ltb 6 x.len) None (Some (num (x.value * 256 + b) (x.len + 1)))))
    (else (ltb 281474976710655 x.value) (cond (ltb 6 x.len) None (Some (num (x.value * 256 + b) (x.len + 1))))
    (else (ltb 6 x.len) (Some (num (x.value * 256 + b) (x.len + 1))) (one_more_lem x.len)))

pub up_some : (n : ℕ) → eqb (up_of n) 0 ≡ false
unfolding up_of
up_some n = go (ltb n 10)
  where
    go : (t : Bool) → eqb (cond t (n + 1) 10) 0 ≡ false
    go true = one_more_lem n
    go false = refl

pub mid : (x : Seen) (b : ℕ) → Mid (on x (step_l b))
unfolding end_field start_of next_of byte_of
mid gone b = tt
mid (at s o) b = go (eqb b 9)
  where
    took : (t : Took) → NotEmpty t → Mid (view_n (on_took s t) o)
    took (Some y) h = by (eqb s.n 0) h
      where
        by : (t : Bool) → eqb y.len 0 ≡ false → cond t (eqb y.len 0) false ≡ false
        by true h = h
        by false h = refl
    took None h = tt

    start : (t : Bool) (u : St) → fresh u ≡ false → Mid (view_n (cond t None (Some u)) o)
    start true u h = tt
    start false u h = h

    end : (t u : Bool) → Mid (view (cond t (cond u (fed (start_of s o) o) (fed (Some (next_of s)) (set o (place_of s.key s.row s.n) (low_of s.value)))) (fed None o)))
    end true true = start (not (follows_of s.prev (key_of s.value))) (record { prev = s.prev; key = key_of s.value; kind = 0; n = 1; row = row_at (key_of s.value) (get_or o (count_at (key_of s.value)) 0); over = s.over; value = 0; len = 0 }) refl
    end true false = ap (λ t. cond t (eqb 0 0) false) (up_some s.n)
    end false u = tt

    go : (t : Bool) → Mid (cond t (view (end_field s o)) (view_n (byte_of s b) o))
    go true = end (closed_of (form_of_st s) (num s.value s.len)) (eqb s.n 0)
    go false = took (take_byte (form_of_st s) (num s.value s.len) b) (took_some (form_of_st s) (num s.value s.len) b)
