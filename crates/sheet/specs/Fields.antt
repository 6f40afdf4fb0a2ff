-- The reader as a machine, within a line: what each byte does to the state and to the table of words. Assumes nothing.
use Rattle.std.specs.Prelude.{List, Bool, true, not, cond, ℕ, ◌+◌, get_or, set, ltb, eqb, Option, None, Some}
use Rattle.sheet_rules.specs.Bytes.{num, take_byte, closed_of}
use Rattle.sheet_rules.specs.declared.digits.Num.{Num}
use Rattle.sheet_rules.specs.Rules.{form_at, key_of, follows_of, more_after, kind_after, low_of}
use Rattle.sheet_rules.specs.Places.{limit_of, count_at, row_at, place_of, tail_at, tail_of, up_of}
use Rattle.sheet.specs.declared.fields.St.{St}

-- the state, or that the sheet is none
abbrev pub Next : Type 0
Next = Option St

-- the state, or malformed; and the words
pub record Fed : Type 0 where
  pub next : Next
  pub out : List ℕ

abbrev pub fed : Next → List ℕ → Fed
fed n o = record { next = n; out = o }

unfoldable pub begin_of : ℕ → Bool → St
begin_of prev over = record { prev = prev; key = 12; kind = 0; n = 0; row = 0; over = over; value = 0; len = 0 }

abbrev pub with_num : St → Num → St
with_num s x = record { prev = s.prev; key = s.key; kind = s.kind; n = s.n; row = s.row; over = s.over; value = x.value; len = x.len }

abbrev pub on_took : St → Option Num → Next
on_took s (Some x) = Some (with_num s x)
on_took s None = None

unfoldable pub byte_of : St → ℕ → Next
byte_of s b = on_took s (take_byte (form_at s.key s.kind s.n) (num s.value s.len) b)

-- the word of a record, behind the record before
unfoldable pub start_of : St → List ℕ → Next
start_of s out =
    cond (not (follows_of s.prev (key_of s.value))) None
    (Some (record { prev = s.prev; key = key_of s.value; kind = 0; n = 1; row = row_at (key_of s.value) (get_or out (count_at (key_of s.value)) 0); over = s.over; value = 0; len = 0 }))

unfoldable pub next_of : St → St
next_of s = record { prev = s.prev; key = s.key; kind = kind_after s.n s.kind s.value; n = up_of s.n; row = s.row; over = s.over; value = 0; len = 0 }

-- a field ends
unfoldable pub end_field : St → List ℕ → Fed
end_field s out =
    cond (closed_of (form_at s.key s.kind s.n) (num s.value s.len))
    (cond (eqb s.n 0) (fed (start_of s out) out) (fed (Some (next_of s)) (set out (place_of s.key s.row s.n) (low_of s.value))))
    (fed None out)

-- a record ends: its last word, and its count, unless its table is full
unfoldable pub close_record : St → List ℕ → Fed
close_record t out =
    cond (more_after t.key t.kind t.n) (fed None out)
    (cond (ltb (get_or out (count_at t.key) 0) (limit_of t.key))
    (fed (Some (begin_of t.key t.over)) (set (set out (tail_at t.key t.row) (tail_of t.key t.n (get_or out 9 0))) (count_at t.key) (get_or out (count_at t.key) 0 + 1)))
    (fed (Some (begin_of t.key true)) (set out (tail_at t.key t.row) (tail_of t.key t.n (get_or out 9 0)))))
