-- The text of a sheet: bytes, lines, fields, numbers read and numbers written. A byte is a number below 256. Assumes nothing.
use Rattle.std.specs.Prelude.{ℕ, zero, suc, ◌+◌, ◌-◌, ◌*◌, ◌/◌, ◌%◌, Bool, true, false, ◌&&◌, cond, List, [], ◌∷◌, ◌++◌, map, leb, ltb, eqb, length}
use Prim.Native.Char.{code}
use Prim.Native.String.{String, [] as none', ◌∷◌ as ◌then◌}
use Rattle.std.proofs.Math.Option.{Option, none, some}

-- the bytes of a text of ASCII characters
abbrev pub bytes : String → List ℕ
bytes none' = []
bytes (c then s) = code c ∷ bytes s

-- the same numbers, place by place
abbrev pub same : List ℕ → List ℕ → Bool
same [] [] = true
same [] (c ∷ cs) = false
same (b ∷ bs) [] = false
same (b ∷ bs) (c ∷ cs) = eqb b c && same bs cs

abbrev pub tab : ℕ
tab = 9

abbrev pub line_feed : ℕ
line_feed = 10

infixl 20 ◌>>=◌
abbrev pub ◌>>=◌ : {A B : Type 0} → Option A → (A → Option B) → Option B
none >>= f = none
some a >>= f = f a

module _ {A : Type 0} where
  abbrev pub given : Bool → A → Option A
  given true a = some a
  given false a = none

-- ---- "One record a line, fields parted by tabs, lines ended by a line feed."

abbrev pub end_line : Option (List (List ℕ)) → Option (List (List ℕ))
end_line none = none
end_line (some ls) = some ([] ∷ ls)

abbrev pub onto_line : ℕ → Option (List (List ℕ)) → Option (List (List ℕ))
onto_line b none = none
onto_line b (some []) = none
onto_line b (some (l ∷ ls)) = some ((b ∷ l) ∷ ls)

-- the lines without their line feeds; none where bytes stand behind the last line feed
unfoldable pub lines_of : List ℕ → Option (List (List ℕ))
lines_of [] = some []
lines_of (b ∷ bs) = let r = lines_of bs in cond (eqb b line_feed) (end_line r) (onto_line b r)

-- a line has a first field, and those behind its tabs
pub record Fields : Type 0 where
  pub first : List ℕ
  pub rest : List (List ℕ)

abbrev pub end_field : Fields → Fields
end_field r = record { first = []; rest = r.first ∷ r.rest }

abbrev pub onto_field : ℕ → Fields → Fields
onto_field b r = record { first = b ∷ r.first; rest = r.rest }

unfoldable pub fields_of : List ℕ → Fields
fields_of [] = record { first = []; rest = [] }
fields_of (b ∷ bs) = let r = fields_of bs in cond (eqb b tab) (end_field r) (onto_field b r)

-- ---- "Numbers are decimal without leading zeros; masks and f32 bits are eight lower-case hexadecimal digits."

-- the digit that a byte is: `0` to `9`, `a` to `f`; 16 for none
unfoldable pub digit_of : ℕ → ℕ
digit_of b = cond (ltb b 48) 16 (cond (ltb b 58) (b - 48) (cond (ltb b 97) 16 (cond (ltb b 103) (b - 87) 16)))

-- the number that digits spell in a base, the most significant first, behind v
unfoldable pub value_from : ℕ → ℕ → List ℕ → ℕ
value_from base v [] = v
value_from base v (d ∷ ds) = value_from base (v * base + d) ds

-- digits of the base, all of them
abbrev pub all_below : ℕ → List ℕ → Bool
all_below base [] = true
all_below base (d ∷ ds) = ltb d base && all_below base ds

-- one digit, or more that do not begin with a zero
abbrev pub no_leading_zero : List ℕ → Bool
no_leading_zero [] = false
no_leading_zero (d ∷ []) = true
no_leading_zero (d ∷ e ∷ ds) = ltb 0 d

abbrev pub is_number : ℕ → List ℕ → Bool
is_number most ds = all_below 10 ds && no_leading_zero ds && leb (value_from 10 0 ds) most

-- a number up to `most`
unfoldable pub read_number : ℕ → List ℕ → Option ℕ
unfolding digit_of value_from
read_number most f = let ds : List ℕ = map digit_of f in given (is_number most ds) (value_from 10 0 ds)

abbrev pub is_bits : List ℕ → Bool
is_bits ds = eqb (length ds) 8 && all_below 16 ds

unfoldable pub read_bits : List ℕ → Option ℕ
unfolding digit_of value_from
read_bits f = let ds : List ℕ = map digit_of f in given (is_bits ds) (value_from 16 0 ds)

-- ---- the same, written

-- the byte of a digit below 16
abbrev pub glyph : ℕ → ℕ
glyph d = cond (ltb d 10) (48 + d) (87 + d)

-- the last k digits of n in a base, the most significant first
abbrev pub digits : ℕ → ℕ → ℕ → List ℕ
digits base zero n = []
digits base (suc k) n = digits base k (n / base) ++ (glyph (n % base) ∷ [])

-- how many digits n takes in a base; the second number bounds the search
unfoldable pub places : ℕ → ℕ → ℕ → ℕ
places base zero n = 1
places base (suc f) n = elim (ltb n base) [ true ↦ 1 | false ↦ suc (places base f (n / base)) ]

unfoldable pub decimal : ℕ → List ℕ
unfolding places
decimal n = digits 10 (places 10 n n) n

unfoldable pub eight_digits : ℕ → List ℕ
eight_digits n = digits 16 8 n

-- each field behind a tab, and the line feed
abbrev pub tabbed : List (List ℕ) → List ℕ
tabbed [] = line_feed ∷ []
tabbed (f ∷ fs) = tab ∷ (f ++ tabbed fs)

abbrev pub line : String → List (List ℕ) → List ℕ
line word fs = bytes word ++ tabbed fs
