-- The word that a record begins with, read byte by byte as the number that its bytes spell in base 256, is the definition's word. Assumes nothing.
use mathlib.Core.Path.{◌≡◌, refl, sym, ap, ◌∙◌}
use Rattle.std.specs.Prelude.{List, [], ◌∷◌, Bool, true, false, cond, ◌&&◌, ℕ, zero, suc, ◌+◌, ◌*◌, ◌^◌, ◌≤◌, ◌<◌, length, get_or, ltb, eqb}
use Rattle.std.proofs.lemmas.Bool.{false≢true}
use Rattle.std.proofs.Math.Option.{Option, none, some}
use Rattle.std.proofs.Common.{arith, add-one, ltb-true, ltb-false, lt-ltb, le-ltb, eqb-true, eq-eqb}
use native.Mathlib.Nat.{pow-suc, pow-zero, pow-le-pow_right, mul_assoc, mul_comm}
use Rattle.definition.specs.Text.{given, same, value_from, all_below, ◌>>=◌}
use Rattle.definition.specs.JobSheet.{Word as Named, opt, bank, class, reg, block, value, vgroup, operand, hint, seg, use', end, spelling, word_number, all_words, word_among}
use Rattle.definition.proofs.Same.{same_eq, same_refl}
use Rattle.sheet_rules.specs.Bytes.{num, word_byte, take_byte, closed_of}
use Rattle.sheet_rules.specs.declared.digits.Form.TheVariants.{Word}
use Rattle.sheet_rules.specs.Rules.{key_of}
use Rattle.sheet_laws.specs.Fields.{take_all, closing}

abbrev pub no_zero : List ℕ → Bool
no_zero [] = true
no_zero (b ∷ bs) = ltb 0 b && no_zero bs

-- the number that a word of one to seven bytes spells, none of them zero
unfoldable pub spelled : List ℕ → Option ℕ
unfolding value_from
spelled bs = given (ltb 0 (length bs) && ltb (length bs) 8 && no_zero bs) (value_from 256 0 bs)

abbrev pub Bytes : List ℕ → Type 0
Bytes [] = Unit {0}
Bytes (b ∷ bs) = (b < 256) × Bytes bs

-- n bytes were read so far
word_rest : ℕ → ℕ → List ℕ → Option ℕ
word_rest v n bs = given (ltb 0 (n + length bs) && ltb (n + length bs) 8 && no_zero bs) (value_from 256 v bs)

word_rest_lem : (v n : ℕ) → n ≤ 7 → v < 256 ^ n → (bs : List ℕ) → Bytes bs → closing Word (take_all Word (num v n) bs) ≡ word_rest v n bs
unfolding take_all take_byte word_byte closed_of word_rest value_from
word_rest_lem v n h z [] y =
    let e : n + 0 ≡ n = omega arith in
    let t : ltb n 8 ≡ true = lt-ltb n 8 (omega arith) in
    rw (e, t) (last (ltb 0 n))
  where
    last : (t : Bool) → cond t (some v) none ≡ given (t && true && true) v
    last true = refl
    last false = refl
word_rest_lem v n h z (b ∷ bs) y = go (ltb b 1) refl (ltb 6 n) refl (λ g z'. word_rest_lem (v * 256 + b) (n + 1) g z' bs y.1)
  where
    off₂ : (a c d : Bool) (w : ℕ) → c ≡ false → given (a && c && d) w ≡ none
    off₂ true c d w e = rw e
    off₂ false c d w e = refl

    off₃ : (a c : Bool) (w : ℕ) → given (a && c && false) w ≡ none
    off₃ true true w = refl
    off₃ true false w = refl
    off₃ false c w = refl

    long : ltb b 1 ≡ false → ltb 6 n ≡ true → (t : Bool) → ltb 281474976710655 v ≡ t → closing Word (take_all Word (num v n) (b ∷ bs)) ≡ none
    long e f true k = simp (e, k)
    long e f false k = simp (e, k, f)

    go : (t : Bool) → ltb b 1 ≡ t → (u : Bool) → ltb 6 n ≡ u
        → (n + 1 ≤ 7 → v * 256 + b < 256 ^ (n + 1) → closing Word (take_all Word (num (v * 256 + b) (n + 1)) bs) ≡ word_rest (v * 256 + b) (n + 1) bs)
        → closing Word (take_all Word (num v n) (b ∷ bs)) ≡ word_rest v n (b ∷ bs)
    go true e u f ih =
        let g : b < 1 = ltb-true b 1 e in
        let t₆ : ltb 0 b ≡ false = le-ltb 0 b (omega arith) in
        simp (e, t₆) (sym (off₃ (ltb 0 (n + suc (length bs))) (ltb (n + suc (length bs)) 8) (value_from 256 (v * 256 + b) bs)))
    go false e true f ih =
        let w : 6 < n = ltb-true 6 n f in
        let t₅ : ltb (n + suc (length bs)) 8 ≡ false = le-ltb (n + suc (length bs)) 8 (omega arith) in
        long e f (ltb 281474976710655 v) refl ∙ sym (off₂ (ltb 0 (n + suc (length bs))) (ltb (n + suc (length bs)) 8) (no_zero (b ∷ bs)) (value_from 256 (v * 256 + b) bs) t₅)
    go false e false f ih =
        let g : b < 256 = y.0 in
        let w : n ≤ 6 = ltb-false 6 n f in
        let p : 256 ^ n ≤ 256 ^ 6 = pow-le-pow_right {n = 256} (omega arith) w in
        let t₂ : ltb 281474976710655 v ≡ false = le-ltb 281474976710655 v (omega arith) in
        let q : 256 ^ (n + 1) ≡ 256 ^ n * 256 = rw add-one (pow-suc 256 n) in
        let e₁ : n + suc (length bs) ≡ n + 1 + length bs = omega arith in
        let r : 1 ≤ b = ltb-false b 1 e in
        let t₆ : ltb 0 b ≡ true = lt-ltb 0 b r in
        simp (t₆, e, t₂, f, e₁) (ih (omega arith) (omega arith))

pub word_field : (bs : List ℕ) → Bytes bs → closing Word (take_all Word (num 0 0) bs) ≡ spelled bs
unfolding spelled word_rest
word_field bs y = let e : 0 + length bs ≡ length bs = omega arith in word_rest_lem 0 0 (omega arith) (omega arith) bs y ∙ rw e

same_long : (xs ys : List ℕ) (v w : ℕ) → Bytes xs → Bytes ys → length xs ≡ length ys → value_from 256 v xs ≡ value_from 256 w ys → (v ≡ w) × (xs ≡ ys)
unfolding value_from
same_long [] [] v w a b l e = (e, refl)
same_long [] (y ∷ ys) v w a b l e = absurd (let l' : 0 ≡ suc (length ys) = l in omega arith)
same_long (x ∷ xs) [] v w a b l e = absurd (let l' : suc (length xs) ≡ 0 = l in omega arith)
same_long (x ∷ xs) (y ∷ ys) v w a b l e =
    let l' : suc (length xs) ≡ suc (length ys) = l in
    let i : (v * 256 + x ≡ w * 256 + y) × (xs ≡ ys) = same_long xs ys (v * 256 + x) (w * 256 + y) a.1 b.1 (omega arith) e in
    let p : x < 256 = a.0 in
    let q : y < 256 = b.0 in
    let s : v * 256 + x ≡ w * 256 + y = i.0 in
    let u : v ≡ w = omega arith in
    let t : x ≡ y = omega arith in
    (u, ap (λ (d : ℕ). d ∷ xs) t ∙ ap (λ (l : List ℕ). y ∷ l) i.1)

under : (xs : List ℕ) (v : ℕ) → Bytes xs → value_from 256 v xs < (v + 1) * 256 ^ length xs
unfolding value_from
under [] v a = let e : 256 ^ 0 ≡ 1 = pow-zero 256 in rw e (omega arith)
under (x ∷ xs) v a =
    let p : x < 256 = a.0 in
    let i : value_from 256 (v * 256 + x) xs < (v * 256 + x + 1) * 256 ^ length xs = under xs (v * 256 + x) a.1 in
    let h : v * 256 + x + 1 ≤ (v + 1) * 256 = omega arith in
    let g : (v * 256 + x + 1) * 256 ^ length xs ≤ (v + 1) * 256 * 256 ^ length xs = native.Mathlib.Nat.mul-le-mul_right (256 ^ length xs) h in
    let e : (v + 1) * 256 ^ suc (length xs) ≡ (v + 1) * 256 * 256 ^ length xs = ap (λ (k : ℕ). (v + 1) * k) (pow-suc 256 (length xs) ∙ mul_comm (256 ^ length xs) 256) ∙ sym (mul_assoc (v + 1) 256 (256 ^ length xs)) in
    omega arith

above : (xs : List ℕ) (v : ℕ) → v * 256 ^ length xs ≤ value_from 256 v xs
unfolding value_from
above [] v = let e : 256 ^ 0 ≡ 1 = pow-zero 256 in rw e (omega arith)
above (x ∷ xs) v =
    let i : (v * 256 + x) * 256 ^ length xs ≤ value_from 256 (v * 256 + x) xs = above xs (v * 256 + x) in
    let h : v * 256 ≤ v * 256 + x = omega arith in
    let g : v * 256 * 256 ^ length xs ≤ (v * 256 + x) * 256 ^ length xs = native.Mathlib.Nat.mul-le-mul_right (256 ^ length xs) h in
    let e : v * 256 ^ suc (length xs) ≡ v * 256 * 256 ^ length xs = ap (λ (k : ℕ). v * k) (pow-suc 256 (length xs) ∙ mul_comm (256 ^ length xs) 256) ∙ sym (mul_assoc v 256 (256 ^ length xs)) in
    omega arith

abbrev pub Starts : List ℕ → Type 0
Starts [] = ⊥
Starts (x ∷ xs) = 0 < x

shorter : (xs ys : List ℕ) → Bytes xs → Starts ys → length xs < length ys → value_from 256 0 xs ≡ value_from 256 0 ys → ⊥
unfolding value_from
shorter xs [] a s l e = s
shorter xs (y ∷ ys) a s l e =
    let l' : length xs ≤ length ys = omega arith in
    let p : 256 ^ length xs ≤ 256 ^ length ys = pow-le-pow_right {n = 256} (omega arith) l' in
    let u : value_from 256 0 xs < (0 + 1) * 256 ^ length xs = under xs 0 a in
    let v : (0 * 256 + y) * 256 ^ length ys ≤ value_from 256 (0 * 256 + y) ys = above ys (0 * 256 + y) in
    let s' : 0 < y = s in
    let w₀ : 1 ≤ 0 * 256 + y = omega arith in
    let w : 1 * 256 ^ length ys ≤ (0 * 256 + y) * 256 ^ length ys = native.Mathlib.Nat.mul-le-mul_right (256 ^ length ys) w₀ in
    let e' : value_from 256 0 xs ≡ value_from 256 (0 * 256 + y) ys = e in
    omega arith

pub one_word : (xs ys : List ℕ) → Bytes xs → Bytes ys → Starts xs → Starts ys → value_from 256 0 xs ≡ value_from 256 0 ys → xs ≡ ys
one_word xs ys a b s t e = go (ltb (length xs) (length ys)) refl (ltb (length ys) (length xs)) refl
  where
    go : (u : Bool) → ltb (length xs) (length ys) ≡ u → (v : Bool) → ltb (length ys) (length xs) ≡ v → xs ≡ ys
    go true f v g = absurd (shorter xs ys a t (ltb-true (length xs) (length ys) f) e)
    go false f true g = absurd (shorter ys xs b s (ltb-true (length ys) (length xs) g) (sym e))
    go false f false g =
        let p : length ys ≤ length xs = ltb-false (length xs) (length ys) f in
        let q : length xs ≤ length ys = ltb-false (length ys) (length xs) g in
        (same_long xs ys 0 0 a b (omega arith) e).1

-- ---- the twelve words

below_bytes : (f : List ℕ) → all_below 256 f ≡ true → Bytes f
below_bytes [] e = tt
below_bytes (b ∷ bs) e = go (ltb b 256) refl e (below_bytes bs)
  where
    go : (t : Bool) → ltb b 256 ≡ t → t && all_below 256 bs ≡ true → (all_below 256 bs ≡ true → Bytes bs) → (b < 256) × Bytes bs
    go true q h ih = (ltb-true b 256 q, ih h)
    go false q h ih = absurd (false≢true h)

starts : (f : List ℕ) → ltb 0 (get_or f 0 0) ≡ true → Starts f
starts [] e = absurd (false≢true e)
starts (b ∷ bs) e = ltb-true 0 b e

-- each word is one that the machine takes
pub record Plain (f : List ℕ) : Type 0 where
  pub small : all_below 256 f ≡ true
  pub first : ltb 0 (get_or f 0 0) ≡ true
  pub taken : spelled f ≡ some (value_from 256 0 f)

plain : (w : Named) → Plain (spelling w)
unfolding spelled value_from
plain opt = record { small = refl; first = refl; taken = refl }
plain bank = record { small = refl; first = refl; taken = refl }
plain class = record { small = refl; first = refl; taken = refl }
plain reg = record { small = refl; first = refl; taken = refl }
plain block = record { small = refl; first = refl; taken = refl }
plain value = record { small = refl; first = refl; taken = refl }
plain vgroup = record { small = refl; first = refl; taken = refl }
plain operand = record { small = refl; first = refl; taken = refl }
plain hint = record { small = refl; first = refl; taken = refl }
plain seg = record { small = refl; first = refl; taken = refl }
plain use' = record { small = refl; first = refl; taken = refl }
plain end = record { small = refl; first = refl; taken = refl }

same_value : (f g : List ℕ) → Bytes f → Bytes g → Starts f → Starts g → same f g ≡ eqb (value_from 256 0 f) (value_from 256 0 g)
same_value f g a b s t = go (same f g) refl (eqb (value_from 256 0 f) (value_from 256 0 g)) refl
  where
    go : (u : Bool) → same f g ≡ u → (v : Bool) → eqb (value_from 256 0 f) (value_from 256 0 g) ≡ v → u ≡ v
    go true e true q = refl
    go false e false q = refl
    go true e false q = absurd (false≢true (sym q ∙ eq-eqb (value_from 256 0 f) (value_from 256 0 g) (ap (λ (l : List ℕ). value_from 256 0 l) (same_eq f g e))))
    go false e true q =
        let i : f ≡ g = one_word f g a b s t (eqb-true (value_from 256 0 f) (value_from 256 0 g) q) in
        absurd (false≢true (sym e ∙ ap (λ (l : List ℕ). same f l) (sym i) ∙ same_refl f))

-- the word of a number that it spells
find_key : List Named → ℕ → Option Named
find_key [] v = none
find_key (w ∷ ws) v = elim (eqb v (value_from 256 0 (spelling w))) [ true ↦ some w | false ↦ find_key ws v ]

abbrev word_in : List Named → ℕ → Option Named
word_in [] k = none
word_in (w ∷ ws) zero = some w
word_in (w ∷ ws) (suc k) = word_in ws k

-- the word of a record's number
abbrev pub word_of : ℕ → Option Named
word_of k = word_in all_words k

pub word_number_lem : (w : Named) → word_of (word_number w) ≡ some w
word_number_lem opt = refl
word_number_lem bank = refl
word_number_lem class = refl
word_number_lem reg = refl
word_number_lem block = refl
word_number_lem value = refl
word_number_lem vgroup = refl
word_number_lem operand = refl
word_number_lem hint = refl
word_number_lem seg = refl
word_number_lem use' = refl
word_number_lem end = refl

key_found : (v : ℕ) → find_key all_words v ≡ word_of (key_of v)
unfolding find_key key_of value_from
key_found v =
    go (eqb v 7303284) (eqb v 1650552427) (eqb v 427020088179) (eqb v 7497063) (eqb v 422726034283) (eqb v 508440638821) (eqb v 130186673616240) (eqb v 31367303427878500)
    (eqb v 1751740020) (eqb v 7562599) (eqb v 7697253) (eqb v 6647396)
  where
    go : (a b c d e f g h i j k l : Bool)
        → elim a [
          | true ↦ some opt
          | false ↦ elim b [
            | true ↦ some bank
            | false ↦ elim c [
              | true ↦ some class
              | false ↦ elim d [
                | true ↦ some reg
                | false ↦
                    elim e [
                      | true ↦ some block
                      | false ↦ elim f [
                        | true ↦ some value
                        | false ↦ elim g [
                          | true ↦ some vgroup
                          | false ↦ elim h [
                            | true ↦ some operand
                            | false ↦
                                elim i [ true ↦ some hint | false ↦ elim j [ true ↦ some seg | false ↦ elim k [ true ↦ some use' | false ↦ elim l [ true ↦ some end | false ↦ none ] ] ] ]
                          ]
                        ]
                      ]
                    ]
              ]
            ]
          ]
        ]
        ≡ word_of (cond a 0 (cond b 1 (cond c 2 (cond d 3 (cond e 4 (cond f 5 (cond g 6 (cond h 7 (cond i 8 (cond j 9 (cond k 10 (cond l 11 12))))))))))))
    go true b c d e f g h i j k l = refl
    go false true c d e f g h i j k l = refl
    go false false true d e f g h i j k l = refl
    go false false false true e f g h i j k l = refl
    go false false false false true f g h i j k l = refl
    go false false false false false true g h i j k l = refl
    go false false false false false false true h i j k l = refl
    go false false false false false false false true i j k l = refl
    go false false false false false false false false true j k l = refl
    go false false false false false false false false false true k l = refl
    go false false false false false false false false false false true l = refl
    go false false false false false false false false false false false true = refl
    go false false false false false false false false false false false false = refl

pub none_some : {A : Type 0} {a : A} → none ≡ some a → ⊥
none_some {A} r = mathlib.Core.Path.subst is_none r tt
  where
    is_none : Option A → Type 0
    is_none none = Unit {0}
    is_none (some x) = ⊥

-- a field that the machine takes for no word is none of them
not_taken : (f : List ℕ) → spelled f ≡ none → (w : Named) → same f (spelling w) ≡ false
not_taken f e w = go (same f (spelling w)) refl
  where
    go : (t : Bool) → same f (spelling w) ≡ t → t ≡ false
    go false q = refl
    go true q = absurd (none_some (sym e ∙ ap spelled (same_eq f (spelling w) q) ∙ (plain w).taken))

no_word : (f : List ℕ) → spelled f ≡ none → (ws : List Named) → word_among ws f ≡ none
unfolding word_among
no_word f e [] = refl
no_word f e (w ∷ ws) = ap (λ (t : Bool). elim t [ true ↦ some w | false ↦ word_among ws f ]) (not_taken f e w) ∙ no_word f e ws

a_word : (f : List ℕ) → Bytes f → Starts f → (ws : List Named) → word_among ws f ≡ find_key ws (value_from 256 0 f)
unfolding word_among find_key
a_word f b s [] = refl
a_word f b s (w ∷ ws) =
    ap (λ (t : Bool). elim t [ true ↦ some w | false ↦ word_among ws f ])
    (same_value f (spelling w) b (below_bytes (spelling w) (plain w).small) s (starts (spelling w) (plain w).first))
    ∙ ap (λ (r : Option Named). elim (eqb (value_from 256 0 f) (value_from 256 0 (spelling w))) [ true ↦ some w | false ↦ r ]) (a_word f b s ws)

not_zero : (f : List ℕ) → ltb 0 (length f) && ltb (length f) 8 && no_zero f ≡ true → Starts f
not_zero [] e = absurd (false≢true e)
not_zero (b ∷ bs) e = go (ltb 0 b) refl e
  where
    off : (a : Bool) → a && false ≡ true → ⊥
    off true h = false≢true h
    off false h = false≢true h

    go : (t : Bool) → ltb 0 b ≡ t → ltb 0 (suc (length bs)) && ltb (suc (length bs)) 8 && (t && no_zero bs) ≡ true → 0 < b
    go true q h = ltb-true 0 b q
    go false q h = absurd (off (ltb 0 (suc (length bs)) && ltb (suc (length bs)) 8) h)

-- THE LAW: the word of a record, by the machine and by the definition
pub record_word : (f : List ℕ) → Bytes f → (spelled f >>= λ v. word_of (key_of v)) ≡ word_among all_words f
unfolding spelled
record_word f b = go (ltb 0 (length f) && ltb (length f) 8 && no_zero f) refl
  where
    go : (t : Bool) → ltb 0 (length f) && ltb (length f) 8 && no_zero f ≡ t → (given t (value_from 256 0 f) >>= λ v. word_of (key_of v)) ≡ word_among all_words f
    go true e = sym (a_word f b (not_zero f e) all_words ∙ key_found (value_from 256 0 f))
    go false e = sym (no_word f (ap (λ (t : Bool). given t (value_from 256 0 f)) e) all_words)
