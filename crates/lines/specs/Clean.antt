-- Lines and fields of a printed text are cut where they were joined. Assumes nothing.
use Rattle.std.specs.Prelude.{◌≡◌, refl, List, [], ◌∷◌, ◌++◌, Bool, true, false, cond, ℕ, zero, suc, ◌+◌, ◌/◌, ◌%◌, ◌≤◌, ◌<◌, ltb, eqb}
use Rattle.std.proofs.Common.{sym, ap, ◌∙◌, append_assoc, append-nil, arith, ne_eqb}
use Rattle.std.proofs.Math.Option.{Option, none, some}
use Rattle.definition.specs.Text.{◌>>=◌, lines_of, end_line, onto_line, Fields, fields_of, end_field, onto_field, glyph, digits, places, decimal, eight_digits, tabbed}

-- no tab and no line feed
abbrev pub Clean : List ℕ → Type 0
Clean [] = Unit {0}
Clean (b ∷ bs) = (10 < b) × Clean bs

abbrev pub AllClean : List (List ℕ) → Type 0
AllClean [] = Unit {0}
AllClean (f ∷ fs) = Clean f × AllClean fs

-- no line feed
abbrev pub NoFeed : List ℕ → Type 0
NoFeed [] = Unit {0}
NoFeed (b ∷ bs) = (eqb b 10 ≡ false) × NoFeed bs

clean_append : (xs ys : List ℕ) → Clean xs → Clean ys → Clean (xs ++ ys)
clean_append [] ys a b = b
clean_append (x ∷ xs) ys a b = (a.0, clean_append xs ys a.1 b)

pub glyph_most : (d : ℕ) → 48 ≤ glyph d
glyph_most d = go (ltb d 10)
  where
    go : (t : Bool) → 48 ≤ cond t (48 + d) (87 + d)
    go true = omega arith
    go false = omega arith

clean_digits : (b k n : ℕ) → Clean (digits b k n)
clean_digits b zero n = tt
clean_digits b (suc k) n = clean_append (digits b k (n / b)) (glyph (n % b) ∷ []) (clean_digits b k (n / b)) (let h : 48 ≤ glyph (n % b) = glyph_most (n % b) in omega arith, tt)

pub clean_decimal : (n : ℕ) → Clean (decimal n)
unfolding decimal
clean_decimal n = clean_digits 10 (places 10 n n) n

pub clean_bits : (n : ℕ) → Clean (eight_digits n)
unfolding eight_digits
clean_bits n = clean_digits 16 8 n

-- ---- a line without its line feed

abbrev pub body : List (List ℕ) → List ℕ
body [] = []
body (f ∷ fs) = 9 ∷ (f ++ body fs)

pub tabbed_body : (fs : List (List ℕ)) → tabbed fs ≡ body fs ++ (10 ∷ [])
tabbed_body [] = refl
tabbed_body (f ∷ fs) = ap (λ (l : List ℕ). 9 ∷ l) (ap (λ (l : List ℕ). f ++ l) (tabbed_body fs) ∙ sym (append_assoc f (body fs) (10 ∷ [])))

feed_append : (xs ys : List ℕ) → Clean xs → NoFeed ys → NoFeed (xs ++ ys)
feed_append [] ys a b = b
feed_append (x ∷ xs) ys a b = (ne_eqb x 10 (λ e. let h : 10 < x = a.0 in omega (arith, e, h)), feed_append xs ys a.1 b)

feed_body : (fs : List (List ℕ)) → AllClean fs → NoFeed (body fs)
feed_body [] a = tt
feed_body (f ∷ fs) a = (refl, feed_append f (body fs) a.0 (feed_body fs a.1))

pub feed_line : (w : List ℕ) (fs : List (List ℕ)) → Clean w → AllClean fs → NoFeed (w ++ body fs)
feed_line w fs a b = feed_append w (body fs) a (feed_body fs b)

-- a word before more text goes to the first field
word_front : (w t : List ℕ) → Clean w → fields_of (w ++ t) ≡ record { first = w ++ (fields_of t).first; rest = (fields_of t).rest }
unfolding fields_of
word_front [] t a = refl
word_front (b ∷ w) t a =
    ap (λ (u : Bool). cond u (end_field (fields_of (w ++ t))) (onto_field b (fields_of (w ++ t)))) (ne_eqb b 9 (λ e. let h : 10 < b = a.0 in omega (arith, e, h)))
    ∙ ap (λ (r : Fields). onto_field b r) (word_front w t a.1)

body_back : (fs : List (List ℕ)) → AllClean fs → fields_of (body fs) ≡ record { first = []; rest = fs }
unfolding fields_of
body_back [] a = refl
body_back (f ∷ fs) a =
    ap end_field (word_front f (body fs) a.0 ∙ ap (λ (r : Fields). record { first = f ++ r.first; rest = r.rest }) (body_back fs a.1) ∙ ap (λ (l : List ℕ). record { first = l; rest = fs }) (append-nil f))

pub fields_back : (w : List ℕ) (fs : List (List ℕ)) → Clean w → AllClean fs → fields_of (w ++ body fs) ≡ record { first = w; rest = fs }
fields_back w fs a b =
    word_front w (body fs) a ∙ ap (λ (r : Fields). record { first = w ++ r.first; rest = r.rest }) (body_back fs b) ∙ ap (λ (l : List ℕ). record { first = l; rest = fs }) (append-nil w)

pub lines_back : (b t : List ℕ) → NoFeed b → lines_of (b ++ (10 ∷ t)) ≡ (lines_of t >>= λ ls. some (b ∷ ls))
unfolding lines_of
lines_back [] t a = go (lines_of t)
  where
    go : (m : Option (List (List ℕ))) → end_line m ≡ (m >>= λ ls. some ([] ∷ ls))
    go none = refl
    go (some ls) = refl
lines_back (c ∷ b) t a =
    ap (λ (u : Bool). cond u (end_line (lines_of (b ++ (10 ∷ t)))) (onto_line c (lines_of (b ++ (10 ∷ t))))) a.0
    ∙ ap (λ (m : Option (List (List ℕ))). onto_line c m) (lines_back b t a.1)
    ∙ go (lines_of t)
  where
    go : (m : Option (List (List ℕ))) → onto_line c (m >>= λ ls. some (b ∷ ls)) ≡ (m >>= λ ls. some ((c ∷ b) ∷ ls))
    go none = refl
    go (some ls) = refl
