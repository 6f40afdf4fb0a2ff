-- A field read byte by byte: what each byte makes of what was read so far. Assumes nothing.
use Rattle.std.specs.Prelude.{Bool, false, cond, ℕ, ◌+◌, ◌*◌, ltb, eqb, Option, None, Some}
use Rattle.definition.specs.Text.{digit_of}
use Rattle.sheet_rules.specs.declared.digits.Form.{Form}
use Rattle.sheet_rules.specs.declared.digits.Form.TheVariants.{Nothing, Number, Mask, Word}
use Rattle.sheet_rules.specs.declared.digits.Num.{Num}

abbrev pub num : ℕ → ℕ → Num
num v n = record { value = v; len = n }

-- what a byte makes of a field; none where it may not stand there
abbrev pub Took : Type 0
Took = Option Num

-- value < len: a leading zero is not followed by a digit (a number's len is 0 or 1)
unfoldable pub number_byte : ℕ → Num → ℕ → Took
number_byte most x b =
    cond (ltb 9 (digit_of b)) None
    (cond (ltb 4294967295 x.value) None
    (cond (ltb x.value x.len) None
    (cond (ltb most (x.value * 10 + digit_of b)) None (Some (num (x.value * 10 + digit_of b) 1)))))

unfoldable pub mask_byte : Num → ℕ → Took
mask_byte x b =
    cond (ltb 15 (digit_of b)) None
    (cond (ltb 4294967295 x.value) None
    (cond (ltb 7 x.len) None (Some (num (x.value * 16 + digit_of b) (x.len + 1)))))

-- no zero byte: else two words would spell one number
unfoldable pub word_byte : Num → ℕ → Took
word_byte x b =
    cond (ltb b 1) None
    (cond (ltb 281474976710655 x.value) None
    (cond (ltb 6 x.len) None (Some (num (x.value * 256 + b) (x.len + 1)))))

unfoldable pub take_byte : Form → Num → ℕ → Took
take_byte Nothing x b = None
take_byte (Number most) x b = number_byte most x b
take_byte Mask x b = mask_byte x b
take_byte Word x b = word_byte x b

unfoldable pub closed_of : Form → Num → Bool
closed_of Nothing x = false
closed_of (Number most) x = ltb 0 x.len
closed_of Mask x = eqb x.len 8
closed_of Word x = ltb 0 x.len
