-- The rules of the records, as tables of numbers. Assumes nothing.
use Rattle.std.specs.Prelude.{List, [], ◌∷◌, Bool, true, false, not, cond, ℕ, ◌+◌, ◌*◌, get_or, ltb, eqb}
use Rattle.sheet_rules.specs.declared.digits.Form.{Form}
use Rattle.sheet_rules.specs.declared.digits.Form.TheVariants.{Nothing, Number, Mask, Word}

-- A field's form by its number: 0 none, 1 number, 2 mask, 3 word, 4 up to 1, 5 up to 3, 6 up to 9, 7 up to 15.
unfoldable pub form_of : ℕ → Form
form_of c =
    cond (eqb c 1) (Number 4294967295)
    (cond (eqb c 2) Mask
    (cond (eqb c 3) Word
    (cond (eqb c 4) (Number 1)
    (cond (eqb c 5) (Number 3)
    (cond (eqb c 6) (Number 9)
    (cond (eqb c 7) (Number 15) Nothing))))))

-- A line for each record: opt bank class reg block value vgroup operand hint seg use end; then one for each kind of use.
unfoldable pub forms : List ℕ
forms =
    3 ∷ 1 ∷ 2 ∷ 2 ∷ 2 ∷ 0 ∷ 0 ∷ 0 ∷ 0 ∷ 0 ∷ 0 ∷
    3 ∷ 1 ∷ 0 ∷ 0 ∷ 0 ∷ 0 ∷ 0 ∷ 0 ∷ 0 ∷ 0 ∷ 0 ∷
    3 ∷ 2 ∷ 2 ∷ 1 ∷ 4 ∷ 0 ∷ 0 ∷ 0 ∷ 0 ∷ 0 ∷ 0 ∷
    3 ∷ 4 ∷ 0 ∷ 0 ∷ 0 ∷ 0 ∷ 0 ∷ 0 ∷ 0 ∷ 0 ∷ 0 ∷
    3 ∷ 1 ∷ 2 ∷ 0 ∷ 0 ∷ 0 ∷ 0 ∷ 0 ∷ 0 ∷ 0 ∷ 0 ∷
    3 ∷ 1 ∷ 1 ∷ 5 ∷ 0 ∷ 0 ∷ 0 ∷ 0 ∷ 0 ∷ 0 ∷ 0 ∷
    3 ∷ 1 ∷ 1 ∷ 1 ∷ 1 ∷ 1 ∷ 1 ∷ 1 ∷ 1 ∷ 1 ∷ 1 ∷
    3 ∷ 1 ∷ 1 ∷ 1 ∷ 1 ∷ 0 ∷ 0 ∷ 0 ∷ 0 ∷ 0 ∷ 0 ∷
    3 ∷ 1 ∷ 1 ∷ 4 ∷ 0 ∷ 0 ∷ 0 ∷ 0 ∷ 0 ∷ 0 ∷ 0 ∷
    3 ∷ 1 ∷ 1 ∷ 1 ∷ 7 ∷ 0 ∷ 0 ∷ 0 ∷ 0 ∷ 0 ∷ 0 ∷
    3 ∷ 6 ∷ 1 ∷ 0 ∷ 0 ∷ 0 ∷ 0 ∷ 0 ∷ 0 ∷ 0 ∷ 0 ∷
    3 ∷ 0 ∷ 0 ∷ 0 ∷ 0 ∷ 0 ∷ 0 ∷ 0 ∷ 0 ∷ 0 ∷ 0 ∷
    3 ∷ 6 ∷ 1 ∷ 1 ∷ 0 ∷ 0 ∷ 0 ∷ 0 ∷ 0 ∷ 0 ∷ 0 ∷
    3 ∷ 6 ∷ 1 ∷ 1 ∷ 0 ∷ 0 ∷ 0 ∷ 0 ∷ 0 ∷ 0 ∷ 0 ∷
    3 ∷ 6 ∷ 1 ∷ 1 ∷ 1 ∷ 1 ∷ 1 ∷ 0 ∷ 0 ∷ 0 ∷ 0 ∷
    3 ∷ 6 ∷ 1 ∷ 0 ∷ 0 ∷ 0 ∷ 0 ∷ 0 ∷ 0 ∷ 0 ∷ 0 ∷
    3 ∷ 6 ∷ 1 ∷ 1 ∷ 1 ∷ 0 ∷ 0 ∷ 0 ∷ 0 ∷ 0 ∷ 0 ∷
    3 ∷ 6 ∷ 1 ∷ 1 ∷ 1 ∷ 0 ∷ 0 ∷ 0 ∷ 0 ∷ 0 ∷ 0 ∷
    3 ∷ 6 ∷ 1 ∷ 1 ∷ 1 ∷ 1 ∷ 0 ∷ 0 ∷ 0 ∷ 0 ∷ 0 ∷
    3 ∷ 6 ∷ 1 ∷ 1 ∷ 1 ∷ 1 ∷ 0 ∷ 0 ∷ 0 ∷ 0 ∷ 0 ∷
    3 ∷ 6 ∷ 1 ∷ 1 ∷ 0 ∷ 0 ∷ 0 ∷ 0 ∷ 0 ∷ 0 ∷ 0 ∷
    3 ∷ 6 ∷ 1 ∷ 0 ∷ 0 ∷ 0 ∷ 0 ∷ 0 ∷ 0 ∷ 0 ∷ 0 ∷ []

unfoldable pub form_row : ℕ → ℕ → ℕ → ℕ
form_row key kind n =
    cond (eqb key 10) (cond (ltb n 3) 10 (cond (ltb kind 10) (12 + kind) 11)) (cond (ltb key 12) key 11)

unfoldable pub code_at : ℕ → ℕ → ℕ → ℕ
code_at key kind n = cond (ltb 10 n) 0 (get_or forms (form_row key kind n * 11 + n) 0)

-- the form of field n, the word being field 0
unfoldable pub form_at : ℕ → ℕ → ℕ → Form
form_at key kind n = form_of (code_at key kind n)

-- whether a record wants a field n; a vgroup wants none
unfoldable pub more_after : ℕ → ℕ → ℕ → Bool
more_after key kind n = cond (eqb key 6) false (cond (eqb (code_at key kind n) 0) false true)

-- the record that a word names, its bytes read in base 256; 12 for none
unfoldable pub key_of : ℕ → ℕ
key_of w =
    cond (eqb w 7303284) 0
    (cond (eqb w 1650552427) 1
    (cond (eqb w 427020088179) 2
    (cond (eqb w 7497063) 3
    (cond (eqb w 422726034283) 4
    (cond (eqb w 508440638821) 5
    (cond (eqb w 130186673616240) 6
    (cond (eqb w 31367303427878500) 7
    (cond (eqb w 1751740020) 8
    (cond (eqb w 7562599) 9
    (cond (eqb w 7697253) 10
    (cond (eqb w 6647396) 11 12)))))))))))

-- what may follow: a line for each record before, the last for none
unfoldable pub order : List ℕ
order =
    0 ∷ 1 ∷ 0 ∷ 0 ∷ 0 ∷ 0 ∷ 0 ∷ 0 ∷ 0 ∷ 0 ∷ 0 ∷ 0 ∷
    0 ∷ 1 ∷ 1 ∷ 0 ∷ 0 ∷ 0 ∷ 0 ∷ 0 ∷ 0 ∷ 0 ∷ 0 ∷ 0 ∷
    0 ∷ 0 ∷ 1 ∷ 1 ∷ 1 ∷ 0 ∷ 0 ∷ 0 ∷ 0 ∷ 0 ∷ 0 ∷ 0 ∷
    0 ∷ 0 ∷ 0 ∷ 1 ∷ 1 ∷ 0 ∷ 0 ∷ 0 ∷ 0 ∷ 0 ∷ 0 ∷ 0 ∷
    0 ∷ 0 ∷ 0 ∷ 0 ∷ 1 ∷ 1 ∷ 1 ∷ 1 ∷ 1 ∷ 1 ∷ 0 ∷ 1 ∷
    0 ∷ 0 ∷ 0 ∷ 0 ∷ 0 ∷ 1 ∷ 1 ∷ 1 ∷ 1 ∷ 1 ∷ 0 ∷ 1 ∷
    0 ∷ 0 ∷ 0 ∷ 0 ∷ 0 ∷ 0 ∷ 1 ∷ 1 ∷ 1 ∷ 1 ∷ 0 ∷ 1 ∷
    0 ∷ 0 ∷ 0 ∷ 0 ∷ 0 ∷ 0 ∷ 0 ∷ 1 ∷ 1 ∷ 1 ∷ 0 ∷ 1 ∷
    0 ∷ 0 ∷ 0 ∷ 0 ∷ 0 ∷ 0 ∷ 0 ∷ 0 ∷ 1 ∷ 1 ∷ 0 ∷ 1 ∷
    0 ∷ 0 ∷ 0 ∷ 0 ∷ 0 ∷ 0 ∷ 0 ∷ 0 ∷ 0 ∷ 1 ∷ 1 ∷ 1 ∷
    0 ∷ 0 ∷ 0 ∷ 0 ∷ 0 ∷ 0 ∷ 0 ∷ 0 ∷ 0 ∷ 1 ∷ 1 ∷ 1 ∷
    0 ∷ 0 ∷ 0 ∷ 0 ∷ 0 ∷ 0 ∷ 0 ∷ 0 ∷ 0 ∷ 0 ∷ 0 ∷ 0 ∷
    1 ∷ 0 ∷ 0 ∷ 0 ∷ 0 ∷ 0 ∷ 0 ∷ 0 ∷ 0 ∷ 0 ∷ 0 ∷ 0 ∷ []

unfoldable pub follows_of : ℕ → ℕ → Bool
follows_of prev key =
    cond (ltb 12 prev) false (cond (ltb 11 key) false (not (eqb (get_or order (prev * 12 + key) 0) 0)))

unfoldable pub low_of : ℕ → ℕ
low_of v = cond (ltb 4294967295 v) 0 v

-- a record's first field is kept: a use's is its kind
unfoldable pub kind_after : ℕ → ℕ → ℕ → ℕ
kind_after n kind value = cond (eqb n 1) (low_of value) kind
