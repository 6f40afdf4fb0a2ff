-- The order on the lines of a job is lawful. Assumes nothing.
use Rattle.std.specs.Prelude.{◌≡◌, refl, ℕ, ◌<◌, List, [], ◌∷◌, get_or}
use Rattle.std.proofs.Common.{sym, ap, ◌∙◌, arith}
use Rattle.definition.specs.declared.Order.{Order}
use Rattle.definition.specs.declared.Order.TheVariants.{Before}
use Rattle.definition.specs.JobSheet.{Word, opt, bank, class, reg, block, value, vgroup, operand, hint, use', seg, end}
use Rattle.definition.specs.JobSheet.{word_number, Record}
use Rattle.definition.specs.Conversion.{rec}
use Rattle.definition.specs.JobOrder.{decided, by_places, by_number, kind_place, by_line, by_lines}
use Rattle.text_laws.specs.Lawful.{Lawful, less, number_lawful, keys_lawful, places_lawful}

-- the kinds in their order
kinds : List Word
kinds = opt ∷ bank ∷ class ∷ reg ∷ block ∷ value ∷ vgroup ∷ operand ∷ hint ∷ use' ∷ seg ∷ end ∷ []

kind_back : (w : Word) → get_or kinds (kind_place w) opt ≡ w
unfolding kinds
kind_back opt = refl
kind_back w = refl

-- a kind's place determines the kind
pub kind_same : (w v : Word) → kind_place w ≡ kind_place v → w ≡ v
kind_same w v e = sym (kind_back w) ∙ ap (λ (n : ℕ). get_or kinds n opt) e ∙ kind_back v

record_same : (r s : Record) → r.word ≡ s.word → r.fields ≡ s.fields → r ≡ s
record_same r s e f = λ i. rec (e i) (f i)

fields_lawful : Lawful (by_places by_number)
fields_lawful = places_lawful by_number number_lawful

pub line_lawful : Lawful by_line
line_lawful =
    keys_lawful by_number (by_places by_number) number_lawful fields_lawful (λ (r : Record). kind_place r.word)
    (λ (r : Record). r.fields) (λ r s e f. record_same r s (kind_same r.word s.word e) f)

pub lines_lawful : Lawful by_lines
unfolding by_lines
lines_lawful = places_lawful by_line line_lawful

-- ---- the order of kinds

kind_less : (w v : Word) → word_number w < word_number v → (w ≡ seg → v ≡ use' → ⊥) → kind_place w < kind_place v
kind_less seg use' h n = absurd (n refl refl)
kind_less seg v h n = omega arith
kind_less w use' h n = omega arith
kind_less w v h n = omega arith

-- one whose kind has the lower place goes first
pub lower_kind : (r s : Record) → kind_place r.word < kind_place s.word → by_line r s ≡ Before
lower_kind r s h =
    ap (λ (o : Order). decided o (by_places by_number r.fields s.fields))
    (less (kind_place r.word) (kind_place s.word) h)

-- a kind named before goes first, but for seg and use
pub earlier_kind : (r s : Record) → word_number r.word < word_number s.word → (r.word ≡ seg → s.word ≡ use' → ⊥)
    → by_line r s ≡ Before
earlier_kind r s h n = lower_kind r s (kind_less r.word s.word h n)

-- of one kind, the fields decide
pub one_kind : (r s : Record) → r.word ≡ s.word → by_line r s ≡ by_places by_number r.fields s.fields
one_kind r s e =
    ap (λ (w : Word). decided (by_number (kind_place w) (kind_place s.word)) (by_places by_number r.fields s.fields)) e
    ∙ ap (λ (o : Order). decided o (by_places by_number r.fields s.fields)) (number_lawful.self (kind_place s.word))
