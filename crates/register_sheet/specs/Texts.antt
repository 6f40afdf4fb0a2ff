-- What the functions write one behind the other is the line. Assumes nothing.
use Rattle.std.specs.Prelude.{◌≡◌, refl, List, [], ◌∷◌, ◌++◌, map, Bool, true, false, cond, ℕ, zero, suc, ◌+◌, ◌*◌, ◌/◌, ◌%◌, ◌≤◌, ◌<◌, length, get_or, take, eqb}
use Rattle.std.proofs.Common.{sym, ap, ◌∙◌, append_assoc, append-nil, arith}
use Rattle.std.specs.Int.{from_bool}
use borrow.Author.Tests.{eqb-true}
use Rattle.definition.specs.Lines.{use_numbers, flags_number}
use Rattle.definition.specs.Text.{bytes, decimal, eight_digits, tabbed}
use Rattle.definition.specs.JobSheet.{use_of, flags_of}
use Rattle.definition.specs.RegisterSheet.{group_field, member_field, hint_field, origin_field, line_bytes}
use Rattle.lines.specs.Wrote.{texts_of, fields_text, index_text, index_fields}
use Rattle.register_sheet.specs.Typed.{group_of, member_of, origin_of, flag_number, use_length, use_numbers_line, vreg_head, vreg_tail, origin_end, vreg_line, seg_line, use_line, group_line, end_line, refused_line}

-- fields before fields
texts_tabbed : (text : ℕ → List ℕ) (vs : List ℕ) (fs : List (List ℕ)) → texts_of text vs ++ tabbed fs ≡ tabbed (map text vs ++ fs)
unfolding texts_of
texts_tabbed text [] fs = refl
texts_tabbed text (v ∷ vs) fs =
    ap (λ (l : List ℕ). 9 ∷ l) (append_assoc (text v) (texts_of text vs) (tabbed fs) ∙ ap (λ (l : List ℕ). text v ++ l) (texts_tabbed text vs fs))

fields_tabbed : (vs : List ℕ) (fs : List (List ℕ)) → fields_text vs ++ tabbed fs ≡ tabbed (map decimal vs ++ fs)
unfolding fields_text
fields_tabbed vs fs = texts_tabbed decimal vs fs

group_index : (g : ℕ) → index_text g ≡ group_field (group_of g)
unfolding index_text
group_index zero = refl
group_index (suc n) = refl

member_index : (m : ℕ) → index_text m ≡ member_field (member_of m)
unfolding index_text
member_index zero = refl
member_index (suc n) = refl

hint_number : (h : ℕ) → decimal (flag_number h) ≡ hint_field (eqb h 1)
unfolding flag_number
hint_number h = go (eqb h 1)
  where
    go : (t : Bool) → decimal (cond t 1 0) ≡ hint_field t
    go true = refl
    go false = refl

-- a flag as a number
pub flag_is : (h x : ℕ) → x ≡ from_bool (eqb h 1) → x ≡ flag_number h
unfolding flag_number
flag_is h x e = e ∙ go (eqb h 1)
  where
    go : (t : Bool) → from_bool t ≡ cond t 1 0
    go true = refl
    go false = refl

pub vreg_text_lem : (n s c w g i h : ℕ) → vreg_head n s c w ++ vreg_tail g i h ≡ vreg_line n s c w g i h
unfolding vreg_head vreg_tail vreg_line line_bytes
vreg_text_lem n s c w g i h =
    append_assoc (bytes "vreg") (fields_text (n ∷ s ∷ c ∷ []) ++ (9 ∷ eight_digits w)) ((9 ∷ index_text g) ++ rest)
    ∙ ap (λ (l : List ℕ). bytes "vreg" ++ l)
    (append_assoc (fields_text (n ∷ s ∷ c ∷ [])) (9 ∷ eight_digits w) ((9 ∷ index_text g) ++ rest)
    ∙ ap (λ (l : List ℕ). fields_text (n ∷ s ∷ c ∷ []) ++ ((9 ∷ eight_digits w) ++ ((9 ∷ index_text g) ++ l))) (fields_tabbed (i ∷ flag_number h ∷ []) [])
    ∙ fields_tabbed (n ∷ s ∷ c ∷ []) (eight_digits w ∷ index_text g ∷ decimal i ∷ decimal (flag_number h) ∷ [])
    ∙ ap (λ (t : List ℕ). tabbed (decimal n ∷ decimal s ∷ decimal c ∷ eight_digits w ∷ t ∷ decimal i ∷ decimal (flag_number h) ∷ [])) (group_index g)
    ∙ ap (λ (t : List ℕ). tabbed (decimal n ∷ decimal s ∷ decimal c ∷ eight_digits w ∷ group_field (group_of g) ∷ decimal i ∷ t ∷ [])) (hint_number h))
  where
    rest : List ℕ
    rest = fields_text (i ∷ flag_number h ∷ []) ++ (10 ∷ [])

-- a flag is a bit
bit : (x : ℕ) → cond (eqb (x % 2) 1) 1 0 ≡ x % 2
bit x = go (eqb (x % 2) 1) refl
  where
    go : (t : Bool) → eqb (x % 2) 1 ≡ t → cond t 1 0 ≡ x % 2
    go true e = sym (eqb-true (x % 2) 1 e)
    go false e = omega (arith, borrow.Author.Tests.eqb-false (x % 2) 1 e)

times : (t : Bool) (k : ℕ) → cond t k 0 ≡ k * cond t 1 0
times true k = omega arith
times false k = omega arith

sum : (f a b c d r₀ r₁ r₂ r₃ r : ℕ) → f ≡ 2 * a + r₀ → a ≡ 2 * b + r₁ → b ≡ 2 * c + r₂ → c ≡ 2 * d + r₃ → f ≡ 16 * d + r → r₀ + 2 * r₁ + 4 * r₂ + 8 * r₃ ≡ r
sum f a b c d r₀ r₁ r₂ r₃ r h₀ h₁ h₂ h₃ h = omega arith

flags_number_lem : (f : ℕ) → flags_number (flags_of f) ≡ f % 16
unfolding flags_of
flags_number_lem f =
    let a : cond (eqb (f % 2) 1) 1 0 ≡ f % 2 = bit f in
    let b : cond (eqb (f / 2 % 2) 1) 2 0 ≡ 2 * (f / 2 % 2) = times (eqb (f / 2 % 2) 1) 2 ∙ ap (λ (k : ℕ). 2 * k) (bit (f / 2)) in
    let c : cond (eqb (f / 4 % 2) 1) 4 0 ≡ 4 * (f / 4 % 2) = times (eqb (f / 4 % 2) 1) 4 ∙ ap (λ (k : ℕ). 4 * k) (bit (f / 4)) in
    let d : cond (eqb (f / 8 % 2) 1) 8 0 ≡ 8 * (f / 8 % 2) = times (eqb (f / 8 % 2) 1) 8 ∙ ap (λ (k : ℕ). 8 * k) (bit (f / 8)) in
    rw (a, b, c, d)
    (sum f (f / 2) (f / 4) (f / 8) (f / 16) (f % 2) (f / 2 % 2) (f / 4 % 2) (f / 8 % 2) (f % 16) (omega arith) (omega arith) (omega arith) (omega arith) (omega arith))

pub seg_text_lem : (v a b f o : ℕ) → bytes "seg" ++ (fields_text (v ∷ a ∷ b ∷ f % 16 ∷ []) ++ origin_end o) ≡ seg_line v a b f o
unfolding origin_end seg_line line_bytes
seg_text_lem v a b f o =
    ap (λ (l : List ℕ). bytes "seg" ++ l)
    (fields_tabbed (v ∷ a ∷ b ∷ f % 16 ∷ []) (origin_field (origin_of o) ∷ [])
    ∙ ap (λ (k : ℕ). tabbed (decimal v ∷ decimal a ∷ decimal b ∷ decimal k ∷ origin_field (origin_of o) ∷ [])) (sym (flags_number_lem f)))

-- the numbers of a use
use_numbers_lem : (row : List ℕ) → length row ≡ 6 → get_or row 0 0 < 10 → take (use_length (get_or row 0 0)) row ≡ use_numbers (use_of row)
unfolding use_of use_length
use_numbers_lem [] l h = absurd (omega (arith, l))
use_numbers_lem (k ∷ []) l h = absurd (omega (arith, l))
use_numbers_lem (k ∷ p ∷ []) l h = absurd (omega (arith, l))
use_numbers_lem (k ∷ p ∷ a ∷ []) l h = absurd (omega (arith, l))
use_numbers_lem (k ∷ p ∷ a ∷ b ∷ []) l h = absurd (omega (arith, l))
use_numbers_lem (k ∷ p ∷ a ∷ b ∷ c ∷ []) l h = absurd (omega (arith, l))
use_numbers_lem (k ∷ p ∷ a ∷ b ∷ c ∷ d ∷ e ∷ row) l h = absurd (omega (arith, l))
use_numbers_lem (zero ∷ p ∷ a ∷ b ∷ c ∷ d ∷ []) l h = refl
use_numbers_lem (suc zero ∷ p ∷ a ∷ b ∷ c ∷ d ∷ []) l h = refl
use_numbers_lem (suc (suc zero) ∷ p ∷ a ∷ b ∷ c ∷ d ∷ []) l h = refl
use_numbers_lem (suc (suc (suc zero)) ∷ p ∷ a ∷ b ∷ c ∷ d ∷ []) l h = refl
use_numbers_lem (suc (suc (suc (suc zero))) ∷ p ∷ a ∷ b ∷ c ∷ d ∷ []) l h = refl
use_numbers_lem (suc (suc (suc (suc (suc zero)))) ∷ p ∷ a ∷ b ∷ c ∷ d ∷ []) l h = refl
use_numbers_lem (suc (suc (suc (suc (suc (suc zero))))) ∷ p ∷ a ∷ b ∷ c ∷ d ∷ []) l h = refl
use_numbers_lem (suc (suc (suc (suc (suc (suc (suc zero)))))) ∷ p ∷ a ∷ b ∷ c ∷ d ∷ []) l h = refl
use_numbers_lem (suc (suc (suc (suc (suc (suc (suc (suc zero))))))) ∷ p ∷ a ∷ b ∷ c ∷ d ∷ []) l h = refl
use_numbers_lem (suc (suc (suc (suc (suc (suc (suc (suc (suc zero)))))))) ∷ p ∷ a ∷ b ∷ c ∷ d ∷ []) l h = refl
use_numbers_lem (suc (suc (suc (suc (suc (suc (suc (suc (suc (suc k))))))))) ∷ p ∷ a ∷ b ∷ c ∷ d ∷ []) l h = absurd (omega (arith, h))

pub use_text_lem : (row : List ℕ) → length row ≡ 6 → get_or row 0 0 < 10 → use_numbers_line (take (use_length (get_or row 0 0)) row) ≡ use_line row
unfolding use_numbers_line use_line line_bytes
use_text_lem row l h =
    ap (λ (t : List ℕ). bytes "use" ++ t)
    (fields_tabbed (take (use_length (get_or row 0 0)) row) []
    ∙ ap tabbed (append-nil (map decimal (take (use_length (get_or row 0 0)) row)))
    ∙ ap (λ (ns : List ℕ). tabbed (map decimal ns)) (use_numbers_lem row l h))

indices : (ms : List ℕ) → map index_text ms ≡ map member_field (map member_of ms)
indices [] = refl
indices (m ∷ ms) = ap (λ (t : List ℕ). t ∷ map index_text ms) (member_index m) ∙ ap (λ (l : List (List ℕ)). member_field (member_of m) ∷ l) (indices ms)

pub group_text_lem : (n : ℕ) (ms : List ℕ) → bytes "group" ++ ((9 ∷ decimal n) ++ (index_fields ms ++ (10 ∷ []))) ≡ group_line n ms
unfolding group_line line_bytes index_fields
group_text_lem n ms =
    ap (λ (t : List ℕ). bytes "group" ++ ((9 ∷ decimal n) ++ t))
    (texts_tabbed index_text ms [] ∙ ap tabbed (append-nil (map index_text ms)) ∙ ap tabbed (indices ms))

pub end_text : (r g : ℕ) → bytes "end" ++ (fields_text (r ∷ g ∷ []) ++ (10 ∷ [])) ≡ end_line r g
unfolding end_line line_bytes
end_text r g = ap (λ (t : List ℕ). bytes "end" ++ t) (fields_tabbed (r ∷ g ∷ []) [])

pub refused_text : (n : ℕ) → bytes "refused" ++ ((9 ∷ decimal n) ++ (10 ∷ [])) ≡ refused_line n
unfolding refused_line
refused_text n = refl

pub origin_text : (o : ℕ) (t : Bool) → eqb o 1 ≡ t → 9 ∷ (origin_field (cond t Rattle.definition.specs.declared.Origin.TheVariants.Conflict Rattle.definition.specs.declared.Origin.TheVariants.Own) ++ (10 ∷ [])) ≡ origin_end o
unfolding origin_end
origin_text o t e = rw (sym e)

pub use_most : (k : ℕ) → k < 10 → use_length k ≤ 6
unfolding use_length
use_most zero h = omega arith
use_most (suc zero) h = omega arith
use_most (suc (suc zero)) h = omega arith
use_most (suc (suc (suc zero))) h = omega arith
use_most (suc (suc (suc (suc zero)))) h = omega arith
use_most (suc (suc (suc (suc (suc zero))))) h = omega arith
use_most (suc (suc (suc (suc (suc (suc zero)))))) h = omega arith
use_most (suc (suc (suc (suc (suc (suc (suc zero))))))) h = omega arith
use_most (suc (suc (suc (suc (suc (suc (suc (suc zero)))))))) h = omega arith
use_most (suc (suc (suc (suc (suc (suc (suc (suc (suc zero))))))))) h = omega arith
use_most (suc (suc (suc (suc (suc (suc (suc (suc (suc (suc k)))))))))) h = absurd (omega (arith, h))
