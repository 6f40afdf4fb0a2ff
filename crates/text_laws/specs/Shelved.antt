-- What a sheet that passes has, and the answer to two sheets by their verdicts and bare records. Assumes nothing.
use Rattle.std.specs.Prelude.{◌≡◌, refl, ℕ, Bool, true, false, List, [], ◌∷◌}
use Rattle.std.proofs.Common.{sym, ap, ◌∙◌}
use Rattle.std.proofs.Math.Option.{Option, none, some, some-injective}
use Rattle.definition.specs.declared.SheetRefusal.{SheetRefusal}
use Rattle.definition.specs.JobSheet.{opt, Record, ordered, job_of_records}
use Rattle.definition.specs.SheetForms.{is_second, records_in, verdict_of, verdict, SheetOut, given', refused'}
use Rattle.definition.specs.SheetForms.{given_unless}
use Rattle.definition.specs.Conversion.{grown, shrunk, moved_records}
use Rattle.definition.specs.JobOrder.{by_lines, second_lines, shelved, compared, order_of}
use Rattle.sheet_laws.specs.Words.{none_some}
use Rattle.sheet_laws.specs.Read.{bare_of, bare_in}
use Rattle.text_laws.specs.Texts.{Reads, Sheet, sheet_whole}
use Rattle.text_laws.specs.Grown.{Other, other}
use Rattle.text_laws.specs.Implied.{never_decide}

-- ---- what a sheet that passes has

-- its bare records, and its lines in the second form
pub record Shelf (bs : List ℕ) : Type 0 where
  pub lines : List Record
  pub bare : bare_in bs ≡ some lines
  pub is : shelved bs ≡ given' (grown 0 (job_of_records lines) lines)
  pub reads : Reads false lines
  pub order : ordered (opt ∷ []) lines ≡ true

-- its lines in the second form by its form and its records
pub shelved_lines : (bs : List ℕ) → verdict bs ≡ none
    → shelved bs ≡ given' (second_lines (is_second bs) (records_in bs))
unfolding shelved
shelved_lines bs v =
    ap (λ (o : Option SheetRefusal). given_unless o (second_lines (is_second bs) (records_in bs))) v

-- what it has by these two
record Kept (second : Bool) (m : Option (List Record)) : Type 0 where
  lines : List Record
  bare : bare_of second m ≡ some lines
  is : second_lines second m ≡ grown 0 (job_of_records lines) lines
  reads : Reads false lines
  order : ordered (opt ∷ []) lines ≡ true

kept : (second : Bool) (rs : List Record) (bs : List ℕ) → Sheet second bs rs → verdict_of second (some rs) ≡ none
    → Kept second (some rs)
unfolding moved_records
kept true rs bs w v =
    let o : Other false rs = other false rs w.reads w.order v in
    record { lines = shrunk rs; bare = refl; is = sym o.back; reads = o.reads; order = o.order }
kept false rs bs w v = record { lines = rs; bare = refl; is = refl; reads = w.reads; order = w.order }

pub shelf : (bs : List ℕ) → verdict bs ≡ none → Shelf bs
unfolding verdict bare_in
shelf bs v = go (records_in bs) refl
  where
    second : Bool
    second = is_second bs

    go : (m : Option (List Record)) → records_in bs ≡ m → Shelf bs
    go none f = absurd (none_some (sym v ∙ ap (verdict_of second) f))
    go (some rs) f =
        let u : verdict_of second (some rs) ≡ none = sym (ap (verdict_of second) f) ∙ v in
        let k : Kept second (some rs) = kept second rs bs (sheet_whole second bs rs refl f) u in
        record {
          lines = k.lines;
          bare = ap (bare_of second) f ∙ k.bare;
          is =
              shelved_lines bs v
              ∙ ap (λ (m : Option (List Record)). given' (second_lines second m)) f
              ∙ ap given' k.is;
          reads = k.reads;
          order = k.order;
        }

-- ---- the answer to two sheets

shelved_refused : (bs : List ℕ) (r : SheetRefusal) → verdict bs ≡ some r → shelved bs ≡ refused' r
unfolding shelved
shelved_refused bs r v =
    ap (λ (o : Option SheetRefusal). given_unless o (second_lines (is_second bs) (records_in bs))) v

-- by what the two have
pub compared_both : (a b : List ℕ) (x y : SheetOut (List Record)) → shelved a ≡ x → shelved b ≡ y
    → order_of a b ≡ compared x y
unfolding order_of
compared_both a b x y e f =
    ap (λ (o : SheetOut (List Record)). compared o (shelved b)) e ∙ ap (λ (o : SheetOut (List Record)). compared x o) f

pub order_refused_first : (a b : List ℕ) (r : SheetRefusal) → verdict a ≡ some r → order_of a b ≡ refused' r
order_refused_first a b r v = compared_both a b (refused' r) (shelved b) (shelved_refused a r v) refl

pub order_refused_second : (a b : List ℕ) (r : SheetRefusal) → verdict a ≡ none → verdict b ≡ some r
    → order_of a b ≡ refused' r
order_refused_second a b r v w =
    let s : Shelf a = shelf a v in
    compared_both a b (given' (grown 0 (job_of_records s.lines) s.lines)) (refused' r) s.is (shelved_refused b r w)

order_of_shelves : (a b : List ℕ) (s : Shelf a) (t : Shelf b) → order_of a b ≡ given' (by_lines s.lines t.lines)
order_of_shelves a b s t =
    compared_both a b (given' (grown 0 (job_of_records s.lines) s.lines))
    (given' (grown 0 (job_of_records t.lines) t.lines)) s.is t.is
    ∙ ap given' (never_decide s.lines t.lines s.reads t.reads s.order t.order)

-- THE LAW: two sheets that pass are compared by their records without the written fields
pub order_bare : (a b : List ℕ) (ks ls : List Record) → verdict a ≡ none → verdict b ≡ none → bare_in a ≡ some ks
    → bare_in b ≡ some ls → order_of a b ≡ given' (by_lines ks ls)
order_bare a b ks ls v w e f =
    let s : Shelf a = shelf a v in
    let t : Shelf b = shelf b w in
    let p : s.lines ≡ ks = some-injective s.lines ks (sym s.bare ∙ e) in
    let q : t.lines ≡ ls = some-injective t.lines ls (sym t.bare ∙ f) in
    order_of_shelves a b s t
    ∙ ap (λ (l : List Record). given' (by_lines l t.lines)) p
    ∙ ap (λ (l : List Record). given' (by_lines ks l)) q
