-- The reader of either form as a machine: what each byte does to the form, to the reader of the first form and to the
-- written fields that are kept. Assumes nothing.
use Rattle.std.specs.Prelude.{List, [], ◌∷◌, Bool, true, false, cond, ℕ, ◌+◌, ◌-◌, length, get_or, set, replicate, ltb, eqb, Option, None, Some, Err}
use Rattle.definition.specs.SheetForms.{form_line}
use Rattle.sheet_rules.specs.Bytes.{num, take_byte, closed_of}
use Rattle.sheet_rules.specs.declared.digits.Form.TheVariants.{Number}
use Rattle.sheet_rules.specs.declared.digits.Num.{Num}
use Rattle.sheet_rules.specs.Rules.{low_of}
use Rattle.sheet.specs.Fields.{Next, Fed, fed}
use Rattle.sheet.specs.declared.first.SheetError.TheVariants.{Malformed}
use Rattle.sheet.specs.Machine.{Answer, push_of, open_of, answer_of}
use Rattle.sheet.specs.Fronts.{Front, front_at, Opening, First, Word, Plain, Before, Written}
use Rattle.sheet.specs.declared.either.Kept.{Kept}
use Rattle.sheet.specs.declared.either.Stood.{Stood as Standing}
use Rattle.sheet.specs.declared.either.Reading.{Reading}

-- ---- the form, and the reader of the first form

pub record Stands : Type 0 where
  pub front : Front
  pub fed : Fed

abbrev pub stands : Front → Fed → Stands
stands f g = record { front = f; fed = g }

-- the same without the words
pub record Stood : Type 0 where
  pub front : Front
  pub next : Next

abbrev pub standing : Front → Next → Stood
standing f r = record { front = f; next = r }

-- the reader's
abbrev pub stood_at : Standing → Stood
stood_at s = standing (front_at s.front) s.next

abbrev pub stood : Stood → List ℕ → Stands
stood s out = stands s.front (fed s.next out)

-- the sheet is none
abbrev pub lost : Front → Fed → Stands
lost f g = stands f (fed None g.out)

-- behind k bytes of the form line: the reader is fed each, and begins anew behind the last one
unfoldable pub opening_of : ℕ → Fed → ℕ → Stands
opening_of k g b =
    cond (eqb (get_or form_line k 256) b)
    (cond (ltb k 6) (stands (Opening (k + 1)) (push_of g b)) (stands Word (open_of (length g.out))))
    (stands First (push_of g b))

-- the records with a written field, and how many fields stand before it
abbrev pub after_word : ℕ → Front
after_word key = cond (eqb key 4) (Before 4 2) (cond (eqb key 9) (Before 9 4) Plain)

unfoldable pub front_after : Next → Front
front_after (Some t) = after_word t.key
front_after None = Plain

-- in the word of a line: a tab ends it
unfoldable pub in_word : Fed → ℕ → Stands
unfolding front_after
in_word g b = stands (cond (eqb b 9) (front_after (push_of g b).next) Word) (push_of g b)

unfoldable pub in_plain : Fed → ℕ → Stands
in_plain g b = stands (cond (eqb b 10) Word Plain) (push_of g b)

-- in a field before the written one: a tab ends it, and the last of these tabs is held back
unfoldable pub before_of : ℕ → ℕ → Fed → ℕ → Stands
before_of key left g b =
    cond (eqb b 10) (lost (Before key left) g)
    (cond (eqb b 9)
    (cond (ltb left 2) (stands (Written key (num 0 0)) g) (stands (Before key (left - 1)) (push_of g b)))
    (stands (Before key left) (push_of g b)))

abbrev pub on_digit : ℕ → Num → Next → Option Num → Stood
on_digit key x r (Some y) = standing (Written key y) r
on_digit key x r None = standing (Written key x) None

-- in the written field: another byte than a line feed is held back
unfoldable pub written_of : ℕ → Num → Next → ℕ → Stood
written_of key x r b = cond (eqb b 9) (standing (Written key x) None) (on_digit key x r (take_byte (Number 4294967295) x b))

-- the written field ends with its line
unfoldable pub close_of : Num → Fed → Stands
close_of x g = cond (closed_of (Number 4294967295) x) (stands Word (push_of g 10)) (lost Word g)

-- ---- the written fields

pub record Keeping : Type 0 where
  pub kept : Kept
  pub words : List ℕ

abbrev pub keeping : Kept → List ℕ → Keeping
keeping k w = record { kept = k; words = w }

abbrev pub counts : ℕ → ℕ → Kept
counts a b = record { firsts = a; sets = b }

-- a first instruction, where 512 have room; a set, behind them, where 1,024 have
unfoldable pub keep_of : ℕ → ℕ → Keeping → Keeping
keep_of key v t =
    cond (eqb key 4)
    (cond (ltb t.kept.firsts 512)
    (keeping (counts (t.kept.firsts + 1) t.kept.sets) (set t.words t.kept.firsts (low_of v))) t)
    (cond (ltb t.kept.sets 1024)
    (keeping (counts t.kept.firsts (t.kept.sets + 1)) (set t.words (512 + t.kept.sets) (low_of v))) t)

-- ---- the machine

pub record Formed : Type 0 where
  pub at : Stands
  pub keeping : Keeping

abbrev pub onward : Stands → Keeping → Formed
onward s t = record { at = s; keeping = t }

abbrev pub formed : Reading → List ℕ → List ℕ → Formed
formed r out w = onward (stands (front_at r.front) (fed r.next out)) (keeping r.kept w)

abbrev pub by_front : Front → Fed → Keeping → ℕ → Formed
by_front (Opening k) g t b = onward (opening_of k g b) t
by_front First g t b = onward (stands First (push_of g b)) t
by_front Word g t b = onward (in_word g b) t
by_front Plain g t b = onward (in_plain g b) t
by_front (Before key left) g t b = onward (before_of key left g b) t
by_front (Written key x) g t b = cond (eqb b 10) (onward (close_of x g) (keep_of key x.value t))
    (onward (stood (written_of key x g.next b) g.out) t)

unfoldable pub push_form : Formed → ℕ → Formed
push_form f b = by_front f.at.front f.at.fed f.keeping b

-- all bytes of a part of the sheet
unfoldable pub run_form : Formed → List ℕ → Formed
run_form f [] = f
run_form f (b ∷ bs) = run_form (push_form f b) bs

-- the start, from tables of n and m words
unfoldable pub open_form : ℕ → ℕ → Formed
open_form n m = onward (stands (Opening 0) (open_of n)) (keeping (counts 0 0) (replicate m 0))

-- whether the sheet is of the first form for sure
abbrev pub first_of : Front → Bool
first_of (Opening k) = false
first_of First = true
first_of Word = false
first_of Plain = false
first_of (Before key left) = false
first_of (Written key x) = false

-- whether the sheet is of the second form
unfoldable pub second_of : Front → Bool
second_of (Opening k) = false
second_of First = false
second_of Word = true
second_of Plain = true
second_of (Before key left) = true
second_of (Written key x) = true

-- the end of the sheet: within a line there is none
unfoldable pub finish_of : Front → Next → Answer
finish_of (Opening k) r = answer_of r
finish_of First r = answer_of r
finish_of Word r = answer_of r
finish_of Plain r = Err Malformed
finish_of (Before key left) r = Err Malformed
finish_of (Written key x) r = Err Malformed
