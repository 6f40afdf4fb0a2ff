-- The page: what the order on whole jobs promises, each as one theorem over the definition, for every list of bytes. A
-- sheet passes where its verdict is none: tests 1 to 7 and 10 leave it. Assumes nothing.
use Rattle.std.specs.Prelude.{◌≡◌, refl, ◌⊎◌, ℕ, ◌<◌, Bool, true, false, not, cond, List, [], ◌∷◌, ◌++◌, drop, get_or}
use Rattle.std.specs.Prelude.{eqb}
use Rattle.std.proofs.Common.{sym, ap, ◌∙◌, inl, inr, arith}
use Rattle.std.proofs.lemmas.List.{append_cancel_right}
use Rattle.std.proofs.Math.Option.{Option, none, some, some-injective}
use Rattle.definition.specs.declared.Order.{Order}
use Rattle.definition.specs.declared.Order.TheVariants.{Before, Same, After}
use Rattle.definition.specs.declared.SheetRefusal.{SheetRefusal}
use Rattle.definition.specs.Text.{line, decimal}
use Rattle.definition.specs.JobSheet.{seg, use', word_number, Record}
use Rattle.definition.specs.SheetForms.{is_second, records_in, verdict_of, verdict, given', refused'}
use Rattle.definition.specs.SheetForms.{SheetOut, sheet_number_of, refusal_text, given_unless}
use Rattle.definition.specs.Conversion.{sheet_text, moved_records, moved_sheet, move_to, moved_text, to_form2}
use Rattle.definition.specs.JobOrder.{order_word, by_places, by_number, kind_place, answered, ordered_text}
use Rattle.definition.specs.JobOrder.{turned, decided, by_line, by_lines, second_lines, shelved, order_of}
use Rattle.definition.proofs.Conversions.{moved_other}
use Rattle.lines.specs.Unprint.{number, number_back}
use Rattle.sheet_laws.specs.Words.{none_some}
use Rattle.sheet_laws.specs.Read.{bare_in}
use Rattle.text_laws.specs.Texts.{Sheet, sheet_whole}
use Rattle.text_laws.specs.Back.{sheet_back}
use Rattle.text_laws.specs.Grown.{Other, other}
use Rattle.text_laws.specs.ConversionPromises.{InRange, Moved, promise_same_job}
use Rattle.text_laws.specs.ConversionPromises.{promise_refused as moved_refused, promise_numbers as moved_numbers}
use Rattle.text_laws.specs.Lawful.{not_after_twice, less, number_lawful, places_differ, places_missing}
use Rattle.text_laws.specs.Lines.{line_lawful, lines_lawful, lower_kind, earlier_kind, one_kind}
use Rattle.text_laws.specs.Shelved.{shelved_lines, compared_both, order_refused_first, order_refused_second}
use Rattle.text_laws.specs.Shelved.{shelf, order_bare}

-- ---- a sheet that passes, in the second form

-- its bytes in the second form: its own, or what `to_form2` makes of it
abbrev pub in_second_form : List ℕ → List ℕ
in_second_form bs = cond (is_second bs) bs (to_form2 bs)

-- its lines and its bytes in that form, and the lines that these bytes have
record Second (bs : List ℕ) : Type 0 where
  lines : List Record
  is : shelved bs ≡ given' lines
  text : in_second_form bs ≡ sheet_text true lines
  back : records_in (sheet_text true lines) ≡ some lines

second : (bs : List ℕ) → verdict bs ≡ none → Second bs
unfolding verdict to_form2
second bs v = go (is_second bs) refl (records_in bs) refl
  where
    form : (t : Bool) (u : List ℕ) → is_second bs ≡ t → cond t bs (to_form2 bs) ≡ u → in_second_form bs ≡ u
    form t u s e = ap (λ (x : Bool). cond x bs (to_form2 bs)) s ∙ e

    lines : (t : Bool) (m : Option (List Record)) → is_second bs ≡ t → records_in bs ≡ m
        → shelved bs ≡ given' (second_lines t m)
    lines t m s f =
        shelved_lines bs v
        ∙ ap (λ (x : Bool). given' (second_lines x (records_in bs))) s
        ∙ ap (λ (o : Option (List Record)). given' (second_lines t o)) f

    tests : (t : Bool) (m : Option (List Record)) → is_second bs ≡ t → records_in bs ≡ m → verdict_of t m ≡ none
    tests t m s f =
        sym (ap (λ (x : Bool). verdict_of x (records_in bs)) s ∙ ap (verdict_of t) f) ∙ v

    go : (t : Bool) → is_second bs ≡ t → (m : Option (List Record)) → records_in bs ≡ m → Second bs
    go t s none f = absurd (none_some (sym (tests t none s f)))
    go true s (some rs) f =
        let w : Sheet true bs rs = sheet_whole true bs rs s f in
        record {
          lines = rs;
          is = lines true (some rs) s f;
          text = form true (sheet_text true rs) s (sym w.text);
          back = sheet_back true rs w.reads w.order;
        }
    go false s (some rs) f =
        let w : Sheet false bs rs = sheet_whole false bs rs s f in
        let o : Other true rs = other true rs w.reads w.order (tests false (some rs) s f) in
        let ks : List Record = moved_records true rs in
        let e : move_to true bs ≡ given' (sheet_text true ks) =
        moved_other true bs s
        ∙ ap (λ (q : Option SheetRefusal). given_unless q (moved_sheet true (records_in bs))) v
        ∙ ap (λ (m : Option (List Record)). given' (moved_sheet true m)) f in
        record {
          lines = ks;
          is = lines false (some rs) s f;
          text = form false (sheet_text true ks) s (ap moved_text e);
          back = sheet_back true ks o.reads o.order;
        }

-- two of them are compared by their lines
compared_lines : (a b : List ℕ) (s : Second a) (t : Second b) → order_of a b ≡ given' (by_lines s.lines t.lines)
compared_lines a b s t = compared_both a b (given' s.lines) (given' t.lines) s.is t.is

lines_given : (a b : List ℕ) (s : Second a) (t : Second b) (o : Order) → order_of a b ≡ given' o
    → by_lines s.lines t.lines ≡ o
lines_given a b s t o e = let h = sym (compared_lines a b s t) ∙ e in cc

-- ---- the answer by the verdicts

-- "Two jobs that pass the entry tests are compared": two sheets that pass get an order, before, same or after, and no
-- others do.
-- Rules out: a refusal of two jobs that pass, since their banks differ; a refused sheet put behind each that passes.
pub promise_total : (a b : List ℕ)
    → (verdict a ≡ none → verdict b ≡ none → (o : Order) × (order_of a b ≡ given' o))
    × ((o : Order) → order_of a b ≡ given' o → (verdict a ≡ none) × (verdict b ≡ none))
promise_total a b = (
  λ v w. let s = second a v in let t = second b w in (by_lines s.lines t.lines, compared_lines a b s t),
  λ o e. go o e (verdict a) refl (verdict b) refl,
)
  where
    go : (o : Order) → order_of a b ≡ given' o → (p : Option SheetRefusal) → verdict a ≡ p → (q : Option SheetRefusal)
        → verdict b ≡ q → (verdict a ≡ none) × (verdict b ≡ none)
    go o e none v none w = (v, w)
    go o e (some r) v q w = let h = sym (order_refused_first a b r v) ∙ e in absurd (cc)
    go o e none v (some r) w = let h = sym (order_refused_second a b r v w) ∙ e in absurd (cc)

-- "Where a job doesn't pass, its number is given, the first job's if neither does."
-- Rules out: the lower number of the two where neither passes; 1 for a second job that 7 refuses.
pub promise_refused : (a b : List ℕ) (r : SheetRefusal)
    → (order_of a b ≡ refused' r → (verdict a ≡ some r) ⊎ ((verdict a ≡ none) × (verdict b ≡ some r)))
    × ((verdict a ≡ some r) ⊎ ((verdict a ≡ none) × (verdict b ≡ some r)) → order_of a b ≡ refused' r)
promise_refused a b r = (λ e. go e (verdict a) refl (verdict b) refl, back)
  where
    same : (q : SheetRefusal) → order_of a b ≡ refused' q → order_of a b ≡ refused' r → q ≡ r
    same q e f = let h = sym e ∙ f in cc

    go : order_of a b ≡ refused' r → (p : Option SheetRefusal) → verdict a ≡ p → (q : Option SheetRefusal)
        → verdict b ≡ q → (verdict a ≡ some r) ⊎ ((verdict a ≡ none) × (verdict b ≡ some r))
    go e (some k) v q w = inl (v ∙ ap some (same k (order_refused_first a b k v) e))
    go e none v (some k) w = inr (v, w ∙ ap some (same k (order_refused_second a b k v w) e))
    go e none v none w =
        absurd (let h = sym (compared_lines a b (second a v) (second b w)) ∙ e in cc)

    back : (verdict a ≡ some r) ⊎ ((verdict a ≡ none) × (verdict b ≡ some r)) → order_of a b ≡ refused' r
    back (inl v) = order_refused_first a b r v
    back (inr (v, w)) = order_refused_second a b r v w

verdict_range : (bs : List ℕ) (r : SheetRefusal) → verdict bs ≡ some r → InRange false r
verdict_range bs r v = go (is_second bs) refl
  where
    go : (t : Bool) → is_second bs ≡ t → InRange false r
    go true s = moved_numbers false bs r ((moved_refused false bs (ap not s) r).1 v)
    go false s = inl (moved_numbers true bs r ((moved_refused true bs s r).1 v))

-- "its number is given": one of 1 to 7, or 10. So 8 and 9 play no part.
-- Rules out: 8 for a job whose build stops; 9 for one whose registers overfill the tables of `vregs`.
pub promise_numbers : (a b : List ℕ) (r : SheetRefusal) → order_of a b ≡ refused' r → InRange false r
promise_numbers a b r e = go ((promise_refused a b r).0 e)
  where
    go : (verdict a ≡ some r) ⊎ ((verdict a ≡ none) × (verdict b ≡ some r)) → InRange false r
    go (inl v) = verdict_range a r v
    go (inr (v, w)) = verdict_range b r w

-- ---- an order

-- "turning the pair turns the answer"
-- Rules out: before for two jobs that differ, whichever comes first; after where the turned pair is the same.
pub promise_turned : (a b : List ℕ) (o : Order) → order_of a b ≡ given' o → order_of b a ≡ given' (turned o)
promise_turned a b o e =
    let v = (promise_total a b).1 o e in
    let s = second a v.0 in
    let t = second b v.1 in
    compared_lines b a t s
    ∙ ap given' (lines_lawful.turns s.lines t.lines ∙ ap turned (lines_given a b s t o e))

-- "The order is total and transitive": before or same, twice, is before or same, and same only if both were.
-- Rules out: after for the first and the third of three jobs, each before the next; same for the first and the third,
-- where the first is before the second and the second before the third or the same as it.
pub promise_transitive : (a b c : List ℕ) (o p : Order) → order_of a b ≡ given' o → order_of b c ≡ given' p
    → (o ≡ After → ⊥) → (p ≡ After → ⊥) → order_of a c ≡ given' (decided o p)
promise_transitive a b c o p e f n m =
    let s = second a ((promise_total a b).1 o e).0 in
    let t = second b ((promise_total a b).1 o e).1 in
    let u = second c ((promise_total b c).1 p f).1 in
    compared_lines a c s u
    ∙ ap given' (not_after_twice by_lines lines_lawful s.lines t.lines u.lines o p (lines_given a b s t o e)
    (lines_given b c t u p f) n m)

-- ---- the second form

-- "Same means the same bytes in that form."
-- Rules out: same for two jobs that differ in the order of two hints; after for two sheets of the second form that are
-- the same bytes.
pub promise_same : (a b : List ℕ) → verdict a ≡ none → verdict b ≡ none
    → (order_of a b ≡ given' Same → in_second_form a ≡ in_second_form b)
    × (in_second_form a ≡ in_second_form b → order_of a b ≡ given' Same)
promise_same a b v w = (
  λ e. s.text ∙ ap (sheet_text true) (lines_lawful.equal s.lines t.lines (lines_given a b s t Same e)) ∙ sym t.text,
  λ e.
      let f : s.lines ≡ t.lines =
      some-injective s.lines t.lines (sym s.back ∙ ap records_in (sym s.text ∙ e ∙ t.text) ∙ t.back) in
      compared_lines a b s t
      ∙ ap given' (ap (λ (l : List Record). by_lines l t.lines) f ∙ lines_lawful.self t.lines),
)
  where
    s : Second a
    s = second a v

    t : Second b
    t = second b w

-- "compared in the second form": a sheet of the first form and what `to_form2` makes of it are the same job, both ways
-- round.
-- Rules out: a sheet of the first form put before every sheet of the second; before one way round, and same the other.
pub promise_forms : (bs : List ℕ) → is_second bs ≡ false → verdict bs ≡ none
    → (order_of bs (to_form2 bs) ≡ given' Same) × (order_of (to_form2 bs) bs ≡ given' Same)
unfolding to_form2
promise_forms bs s v =
    let m : Moved true bs = promise_same_job true bs s v in
    let e : to_form2 bs ≡ m.text = ap moved_text m.is in
    let f : is_second (to_form2 bs) ≡ true = ap is_second e ∙ m.form in
    let w : verdict (to_form2 bs) ≡ none = ap verdict e ∙ m.passes in
    let g : in_second_form bs ≡ in_second_form (to_form2 bs) =
    ap (λ (t : Bool). cond t bs (to_form2 bs)) s
    ∙ sym (ap (λ (t : Bool). cond t (to_form2 bs) (to_form2 (to_form2 bs))) f) in
    let h = (promise_same bs (to_form2 bs) v w).1 g in
    (h, promise_turned bs (to_form2 bs) Same h)

-- "line by line from the top"; "At the first lines that differ": where the lines of two jobs in the second form are the
-- same so far, and then two differ, these two decide, whatever stands behind them.
-- Rules out: the count of lines compared before the lines; the last lines that differ taken for the first.
pub promise_lines : (a b : List ℕ) (ks rs ss : List Record) (r s : Record) → shelved a ≡ given' (ks ++ (r ∷ rs))
    → shelved b ≡ given' (ks ++ (s ∷ ss)) → (r ≡ s → ⊥) → order_of a b ≡ given' (by_line r s)
unfolding by_lines
promise_lines a b ks rs ss r s e f n =
    compared_both a b (given' (ks ++ (r ∷ rs))) (given' (ks ++ (s ∷ ss))) e f
    ∙ ap given' (places_differ by_line line_lawful ks rs ss r s n)

-- "record kinds go in the order in which 01 names them, use lines before seg lines and `end` last": a record of a kind
-- that is named earlier goes first, but for seg and use lines, and a use line goes before a seg line.
-- Rules out: the alphabet's order of kinds; seg lines before use lines, as they stand in a sheet.
pub promise_kinds : (r s : Record)
    → (word_number r.word < word_number s.word → (r.word ≡ seg → s.word ≡ use' → ⊥) → by_line r s ≡ Before)
    × (r.word ≡ use' → s.word ≡ seg → by_line r s ≡ Before)
promise_kinds r s = (earlier_kind r s, λ e f. lower_kind r s (below (ap kind_place e) (ap kind_place f)))
  where
    below : kind_place r.word ≡ 9 → kind_place s.word ≡ 10 → kind_place r.word < kind_place s.word
    below e f = omega arith

-- "within a kind it goes field by field, numbers by size, floats and masks by bits, a missing field before any field":
-- at the first fields that differ the lower number goes first, and of two that are the same so far the one that ends.
-- Rules out: numbers compared by their digits, 10 before 9; a negative float before a positive one.
pub promise_fields : (r s : Record) → r.word ≡ s.word → (ns : List ℕ)
    → ((x y : ℕ) (xs ys : List ℕ) → r.fields ≡ ns ++ (x ∷ xs) → s.fields ≡ ns ++ (y ∷ ys) → x < y
    → by_line r s ≡ Before)
    × ((y : ℕ) (ys : List ℕ) → r.fields ≡ ns → s.fields ≡ ns ++ (y ∷ ys) → by_line r s ≡ Before)
promise_fields r s e ns = (
  λ x y xs ys f g h.
      by (ns ++ (x ∷ xs)) (ns ++ (y ∷ ys)) f g
      ∙ places_differ by_number number_lawful ns xs ys x y (λ q. omega (arith, q, h))
      ∙ less x y h,
  λ y ys f g. by ns (ns ++ (y ∷ ys)) f g ∙ places_missing by_number number_lawful ns ys y,
)
  where
    by : (ks ls : List ℕ) → r.fields ≡ ks → s.fields ≡ ls → by_line r s ≡ by_places by_number ks ls
    by ks ls f g =
        one_kind r s e
        ∙ ap (λ (l : List ℕ). by_places by_number l s.fields) f
        ∙ ap (by_places by_number ks) g

-- "compared in the second form", yet the written fields never decide: two sheets that pass, of either form, have
-- records without these fields, and are compared as these are.
-- Rules out: the first instructions of all blocks compared before any frequency; a segment's set compared before its
-- value.
pub promise_written : (a b : List ℕ) → verdict a ≡ none → verdict b ≡ none
    → (ks : List Record) × (ls : List Record) × (bare_in a ≡ some ks) × (bare_in b ≡ some ls)
    × (order_of a b ≡ given' (by_lines ks ls))
promise_written a b v w =
    let s = shelf a v in
    let t = shelf b w in
    (s.lines, t.lines, s.bare, t.bare, order_bare a b s.lines t.lines v w s.bare t.bare)

-- ---- what is written

-- "The answer is before, same or after.", a word and its line feed; or the line of a refusal, with its number.
-- Rules out: a word with no line feed, or with something behind it; a refusal behind the word of an answer.
pub promise_text : (a b : List ℕ)
    → ((o : Order) × (order_of a b ≡ given' o) × (ordered_text a b ≡ line (order_word o) []))
    ⊎ ((r : SheetRefusal) × (order_of a b ≡ refused' r) × (ordered_text a b ≡ refusal_text r))
unfolding ordered_text
promise_text a b = go (order_of a b) refl
  where
    go : (x : SheetOut Order) → order_of a b ≡ x
        → ((o : Order) × (order_of a b ≡ given' o) × (answered (order_of a b) ≡ line (order_word o) []))
        ⊎ ((r : SheetRefusal) × (order_of a b ≡ refused' r) × (answered (order_of a b) ≡ refusal_text r))
    go (given' o) e = inl (o, e, ap answered e)
    go (refused' r) e = inr (r, e, ap answered e)

-- two answers that tell the same; of a refusal its number is told
abbrev pub Told : SheetOut Order → SheetOut Order → Type 0
Told (given' o) (given' p) = o ≡ p
Told (refused' r) (refused' q) = sheet_number_of r ≡ sheet_number_of q
Told x y = ⊥

-- the answer by the first letter of its word
abbrev order_by : ℕ → Order
order_by c = cond (eqb c 98) Before (cond (eqb c 115) Same After)

word_back : (o : Order) → order_by (get_or (line (order_word o) []) 0 0) ≡ o
word_back Before = refl
word_back Same = refl
word_back After = refl

no_r : (o : Order) (r : SheetRefusal) → line (order_word o) [] ≡ refusal_text r → ⊥
no_r o r e = go o (ap (λ (l : List ℕ). get_or l 0 0) e)
  where
    go : (p : Order) → get_or (line (order_word p) []) 0 0 ≡ 114 → ⊥
    go Before f = omega (arith, f)
    go Same f = omega (arith, f)
    go After f = omega (arith, f)

told : (x y : SheetOut Order) → answered x ≡ answered y → Told x y
told (given' o) (given' p) e = sym (word_back o) ∙ ap (λ (l : List ℕ). order_by (get_or l 0 0)) e ∙ word_back p
told (given' o) (refused' r) e = no_r o r e
told (refused' r) (given' o) e = no_r o r (sym e)
told (refused' r) (refused' q) e =
    let n : ℕ = sheet_number_of r in
    let m : ℕ = sheet_number_of q in
    sym (number_back n)
    ∙ ap number (append_cancel_right (decimal n) (decimal m) (10 ∷ []) (ap (λ (l : List ℕ). drop 8 l) e))
    ∙ number_back m

-- What is written tells the answer: two pairs that get the same bytes have the same answer.
-- Rules out: one word for before and after; a refusal's line that gives the job and not its number.
pub promise_told : (a b c d : List ℕ) → ordered_text a b ≡ ordered_text c d → Told (order_of a b) (order_of c d)
unfolding ordered_text
promise_told a b c d e = told (order_of a b) (order_of c d) e
