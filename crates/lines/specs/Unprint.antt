-- The lines of a register sheet are read back from its bytes, so different lines have different bytes. Assumes nothing.
use Rattle.std.specs.Prelude.{◌≡◌, refl, List, [], ◌∷◌, ◌++◌, map, Bool, true, false, cond, ℕ, zero, suc, ◌/◌, ◌%◌, ◌^◌, ◌≤◌, ◌<◌, get_or, drop, eqb}
use Rattle.std.proofs.Common.{sym, ap, ◌∙◌, append_assoc, arith, ne_eqb}
use Rattle.std.proofs.Math.Option.{Option, none, some}
use Rattle.definition.specs.declared.VirtReg.{VirtReg}
use Rattle.definition.specs.declared.VirtRegGroup.{VirtRegGroup}
use Rattle.definition.specs.declared.Origin.{Origin}
use Rattle.definition.specs.declared.Origin.TheVariants.{Own, Conflict}
use Rattle.definition.specs.Types.{val, vset, cls, point, vreg, vrgroup}
use Rattle.definition.specs.Lines.{Line, vreg_line_lem, seg_line_lem, use_line_lem, group_line_lem, end_line_lem, use_numbers, flags_number}
use Rattle.definition.specs.Text.{◌>>=◌, bytes, digit_of, value_from, glyph, digits, places, decimal, eight_digits, tabbed, Fields, fields_of, lines_of}
use Rattle.definition.specs.JobSheet.{use_of, flags_of}
use Rattle.definition.specs.RegisterSheet.{group_field, member_field, origin_field, hint_field, line_bytes, lines_bytes}
use Rattle.definition.proofs.Written.{flags_back, use_back}
use Rattle.lines.specs.Places.{fewest_decimal}
use Rattle.lines.specs.Round.{digits_cons, spells, spells_bits}
use Rattle.lines.specs.Clean.{Clean, AllClean, glyph_most, clean_decimal, clean_bits, body, tabbed_body, feed_line, fields_back, lines_back}

-- ---- a line's word and fields

abbrev word_of : Line → List ℕ
word_of (vreg_line_lem n s c w g i h) = bytes "vreg"
word_of (seg_line_lem v a b f o) = bytes "seg"
word_of (use_line_lem u) = bytes "use"
word_of (group_line_lem n ms) = bytes "group"
word_of (end_line_lem r g) = bytes "end"

abbrev texts_of : Line → List (List ℕ)
texts_of (vreg_line_lem n s c w g i h) = decimal n ∷ decimal s.0 ∷ decimal c.0 ∷ eight_digits w ∷ group_field g ∷ decimal i ∷ hint_field h ∷ []
texts_of (seg_line_lem v a b f o) = decimal v.0 ∷ decimal a.0 ∷ decimal b.0 ∷ decimal (flags_number f) ∷ origin_field o ∷ []
texts_of (use_line_lem u) = map decimal (use_numbers u)
texts_of (group_line_lem n ms) = decimal n ∷ map member_field ms
texts_of (end_line_lem r g) = decimal r ∷ decimal g ∷ []

line_is : (l : Line) → line_bytes l ≡ word_of l ++ tabbed (texts_of l)
unfolding line_bytes
line_is (vreg_line_lem n s c w g i h) = refl
line_is (seg_line_lem v a b f o) = refl
line_is (use_line_lem u) = refl
line_is (group_line_lem n ms) = refl
line_is (end_line_lem r g) = refl

clean_word : (l : Line) → Clean (word_of l)
clean_word (vreg_line_lem n s c w g i h) = (omega arith, (omega arith, (omega arith, (omega arith, tt))))
clean_word (seg_line_lem v a b f o) = (omega arith, (omega arith, (omega arith, tt)))
clean_word (use_line_lem u) = (omega arith, (omega arith, (omega arith, tt)))
clean_word (group_line_lem n ms) = (omega arith, (omega arith, (omega arith, (omega arith, (omega arith, tt)))))
clean_word (end_line_lem r g) = (omega arith, (omega arith, (omega arith, tt)))

clean_numbers : (ns : List ℕ) → AllClean (map decimal ns)
clean_numbers [] = tt
clean_numbers (n ∷ ns) = (clean_decimal n, clean_numbers ns)

clean_group : (g : Option VirtRegGroup) → Clean (group_field g)
clean_group none = (omega arith, tt)
clean_group (some g) = clean_decimal g.0

clean_members : (ms : List (Option VirtReg)) → AllClean (map member_field ms)
clean_members [] = tt
clean_members (none ∷ ms) = ((omega arith, tt), clean_members ms)
clean_members (some r ∷ ms) = (clean_decimal r.0, clean_members ms)

clean_hint : (h : Bool) → Clean (hint_field h)
clean_hint true = clean_decimal 1
clean_hint false = clean_decimal 0

clean_origin : (o : Origin) → Clean (origin_field o)
clean_origin Own = (omega arith, (omega arith, (omega arith, tt)))
clean_origin Conflict = (omega arith, (omega arith, (omega arith, (omega arith, (omega arith, (omega arith, (omega arith, (omega arith, tt))))))))

clean_texts : (l : Line) → AllClean (texts_of l)
clean_texts (vreg_line_lem n s c w g i h) = (clean_decimal n, (clean_decimal s.0, (clean_decimal c.0, (clean_bits w, (clean_group g, (clean_decimal i, (clean_hint h, tt)))))))
clean_texts (seg_line_lem v a b f o) = (clean_decimal v.0, (clean_decimal a.0, (clean_decimal b.0, (clean_decimal (flags_number f), (clean_origin o, tt)))))
clean_texts (use_line_lem u) = clean_numbers (use_numbers u)
clean_texts (group_line_lem n ms) = (clean_decimal n, clean_members ms)
clean_texts (end_line_lem r g) = (clean_decimal r, (clean_decimal g, tt))

-- ---- reading a line

pub number : List ℕ → ℕ
number f = value_from 10 0 (map digit_of f)

bits : List ℕ → ℕ
bits f = value_from 16 0 (map digit_of f)

-- `-` is none
dashed : {A : Type 0} → (ℕ → A) → List ℕ → Option A
dashed of f = cond (eqb (get_or f 0 0) 45) none (some (of (number f)))

abbrev field_at : List (List ℕ) → ℕ → List ℕ
field_at fs i = get_or fs i []

vreg_of : List (List ℕ) → Line
vreg_of fs =
    vreg_line_lem (number (field_at fs 0)) (vset (number (field_at fs 1))) (cls (number (field_at fs 2))) (bits (field_at fs 3)) (dashed vrgroup (field_at fs 4)) (number (field_at fs 5)) (eqb (number (field_at fs 6)) 1)

seg_of : List (List ℕ) → Line
seg_of fs =
    seg_line_lem (val (number (field_at fs 0))) (point (number (field_at fs 1))) (point (number (field_at fs 2))) (flags_of (number (field_at fs 3))) (cond (eqb (get_or (field_at fs 4) 0 0) 99) Conflict Own)

use_line_of : List (List ℕ) → Line
use_line_of fs = use_line_lem (use_of (map number fs))

group_of : List (List ℕ) → Line
group_of fs = group_line_lem (number (field_at fs 0)) (map (dashed vreg) (drop 1 fs))

end_of : List (List ℕ) → Line
end_of fs = end_line_lem (number (field_at fs 0)) (number (field_at fs 1))

-- by the first letter of its word
line_of : Fields → Line
line_of r =
    cond (eqb (get_or r.first 0 0) 118) (vreg_of r.rest)
    (cond (eqb (get_or r.first 0 0) 115) (seg_of r.rest)
    (cond (eqb (get_or r.first 0 0) 117) (use_line_of r.rest)
    (cond (eqb (get_or r.first 0 0) 103) (group_of r.rest) (end_of r.rest))))

-- ---- what was printed is read

pub number_back : (n : ℕ) → number (decimal n) ≡ n
unfolding number
number_back n = spells n

numbers_back : (ns : List ℕ) → map number (map decimal ns) ≡ ns
numbers_back [] = refl
numbers_back (n ∷ ns) = ap (λ (k : ℕ). k ∷ map number (map decimal ns)) (number_back n) ∙ ap (λ (l : List ℕ). n ∷ l) (numbers_back ns)

-- a number does not begin with `-`
no_dash : (n : ℕ) → eqb (get_or (decimal n) 0 0) 45 ≡ false
unfolding decimal
no_dash n = go (places 10 n n) (fewest_decimal n).0
  where
    go : (k : ℕ) → 1 ≤ k → eqb (get_or (digits 10 k n) 0 0) 45 ≡ false
    go zero h = absurd (omega arith)
    go (suc k) h =
        ap (λ (l : List ℕ). eqb (get_or l 0 0) 45) (digits_cons 10 (omega arith) (omega arith) k n)
        ∙ ne_eqb (glyph (n / 10 ^ k % 10)) 45 (λ e. let g : 48 ≤ glyph (n / 10 ^ k % 10) = glyph_most (n / 10 ^ k % 10) in omega (arith, e, g))

dashed_some : {A : Type 0} (of : ℕ → A) (n : ℕ) → dashed of (decimal n) ≡ some (of n)
unfolding dashed
dashed_some of n =
    ap (λ (t : Bool). cond t none (some (of (number (decimal n))))) (no_dash n) ∙ ap (λ (k : ℕ). some (of k)) (number_back n)

group_back : (g : Option VirtRegGroup) → dashed vrgroup (group_field g) ≡ g
unfolding dashed
group_back none = refl
group_back (some g) = dashed_some vrgroup g.0

members_back : (ms : List (Option VirtReg)) → map (dashed vreg) (map member_field ms) ≡ ms
unfolding dashed
members_back [] = refl
members_back (none ∷ ms) = ap (λ (l : List (Option VirtReg)). none ∷ l) (members_back ms)
members_back (some r ∷ ms) =
    ap (λ (x : Option VirtReg). x ∷ map (dashed vreg) (map member_field ms)) (dashed_some vreg r.0) ∙ ap (λ (l : List (Option VirtReg)). some r ∷ l) (members_back ms)

hint_back : (h : Bool) → eqb (number (hint_field h)) 1 ≡ h
hint_back true = ap (λ (k : ℕ). eqb k 1) (number_back 1)
hint_back false = ap (λ (k : ℕ). eqb k 1) (number_back 0)

origin_back : (o : Origin) → cond (eqb (get_or (origin_field o) 0 0) 99) Conflict Own ≡ o
origin_back Own = refl
origin_back Conflict = refl

-- a weight is a word
abbrev pub Word : Line → Type 0
Word (vreg_line_lem n s c w g i h) = w < 4294967296
Word (seg_line_lem v a b f o) = Unit {0}
Word (use_line_lem u) = Unit {0}
Word (group_line_lem n ms) = Unit {0}
Word (end_line_lem r g) = Unit {0}

abbrev pub Words : List Line → Type 0
Words [] = Unit {0}
Words (l ∷ ls) = Word l × Words ls

line_back : (l : Line) → Word l → line_of (record { first = word_of l; rest = texts_of l }) ≡ l
unfolding line_of vreg_of seg_of use_line_of group_of end_of bits
line_back (vreg_line_lem n s c w g i h) b =
    rw (number_back n, number_back s.0, number_back c.0, spells_bits w b, group_back g, number_back i, hint_back h)
line_back (seg_line_lem v a b f o) t = rw (number_back v.0, number_back a.0, number_back b.0, number_back (flags_number f), flags_back f, origin_back o)
line_back (use_line_lem u) t = ap (λ (ns : List ℕ). use_line_lem (use_of ns)) (numbers_back (use_numbers u)) ∙ ap use_line_lem (use_back u)
line_back (group_line_lem n ms) t = rw (number_back n, members_back ms)
line_back (end_line_lem r g) t = rw (number_back r, number_back g)

-- ---- a whole sheet

abbrev bodies : Option (List (List ℕ)) → List (List ℕ)
bodies none = []
bodies (some ls) = ls

-- the lines of a register sheet's bytes
pub unprint : List ℕ → List Line
unprint bs = map (λ b. line_of (fields_of b)) (bodies (lines_of bs))

abbrev body_of : Line → List ℕ
body_of l = word_of l ++ body (texts_of l)

sheet_lines : (ls : List Line) → lines_of (lines_bytes ls) ≡ some (map body_of ls)
unfolding lines_bytes lines_of
sheet_lines [] = refl
sheet_lines (l ∷ ls) =
    let e : line_bytes l ≡ body_of l ++ (10 ∷ []) = line_is l ∙ ap (λ (t : List ℕ). word_of l ++ t) (tabbed_body (texts_of l)) ∙ sym (append_assoc (word_of l) (body (texts_of l)) (10 ∷ [])) in
    ap (λ (t : List ℕ). lines_of (t ++ lines_bytes ls)) e
    ∙ ap (λ (t : List ℕ). lines_of t) (append_assoc (body_of l) (10 ∷ []) (lines_bytes ls))
    ∙ lines_back (body_of l) (lines_bytes ls) (feed_line (word_of l) (texts_of l) (clean_word l) (clean_texts l))
    ∙ ap (λ (m : Option (List (List ℕ))). m >>= λ bs. some (body_of l ∷ bs)) (sheet_lines ls)

read_all : (ls : List Line) → Words ls → map (λ b. line_of (fields_of b)) (map body_of ls) ≡ ls
read_all [] w = refl
read_all (l ∷ ls) w =
    let e : line_of (fields_of (body_of l)) ≡ l = ap line_of (fields_back (word_of l) (texts_of l) (clean_word l) (clean_texts l)) ∙ line_back l w.0 in
    ap (λ (x : Line). x ∷ map (λ b. line_of (fields_of b)) (map body_of ls)) e ∙ ap (λ (xs : List Line). l ∷ xs) (read_all ls w.1)

-- THE LAW: what is printed is read back
pub unprint_print : (ls : List Line) → Words ls → unprint (lines_bytes ls) ≡ ls
unfolding unprint
unprint_print ls w = ap (λ (m : Option (List (List ℕ))). map (λ b. line_of (fields_of b)) (bodies m)) (sheet_lines ls) ∙ read_all ls w

-- different lines have different bytes
pub one_sheet : (ls ms : List Line) → Words ls → Words ms → lines_bytes ls ≡ lines_bytes ms → ls ≡ ms
one_sheet ls ms a b e = sym (unprint_print ls a) ∙ ap unprint e ∙ unprint_print ms b
