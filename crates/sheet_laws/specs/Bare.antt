-- A record of the second form: the record of the first form that it has, and its written field. Assumes nothing.
use Rattle.std.specs.Prelude.{◌≡◌, refl, List, [], ◌∷◌, ◌++◌, Bool, true, false, ℕ, suc, length, take}
use Rattle.std.proofs.Common.{sym, ap, ◌∙◌}
use Rattle.std.proofs.Math.Option.{Option, none, some}
use Rattle.std.proofs.Math.Seq.{take-append_seam}
use Rattle.definition.specs.Text.{◌>>=◌, read_number}
use Rattle.definition.specs.JobSheet.{Word, opt, bank, class, reg, block, value, vgroup, operand, hint, seg, use', end}
use Rattle.definition.specs.JobSheet.{Form, number, read_field, read_fields, Record, at, next, among}
use Rattle.definition.specs.JobSheet.{ordered}
use Rattle.definition.specs.Conversion.{rec, bare_fields, shrunk}
use Rattle.sheet.specs.Front.{Keeping, keep_of}
use Rattle.sheet_laws.specs.Sheets.{On}
use Rattle.sheet_laws.specs.Lines.{Parted, last_of}

-- ---- the fields that stand before the written one

abbrev pub bare : Record → Record
bare r = rec r.word (bare_fields r.word r.fields)

-- ---- what is kept of a record

abbrev pub keep_by : Word → List ℕ → Keeping → Keeping
keep_by opt ns t = t
keep_by bank ns t = t
keep_by class ns t = t
keep_by reg ns t = t
keep_by block ns t = keep_of 4 (at ns 2) t
keep_by value ns t = t
keep_by vgroup ns t = t
keep_by operand ns t = t
keep_by hint ns t = t
keep_by seg ns t = keep_of 9 (at ns 4) t
keep_by use' ns t = t
keep_by end ns t = t

unfoldable pub keep_all : Keeping → List Record → Keeping
keep_all t [] = t
keep_all t (r ∷ rs) = keep_all (keep_by r.word r.fields t) rs

-- ---- a written field is one more number behind the fields

module _ {A B : Type 0} where
  abbrev nothing : A → Option B
  nothing a = none

  bind_none : (m : Option A) → (m >>= nothing) ≡ none
  bind_none none = refl
  bind_none (some a) = refl

pub fields_cut : (ms : List Form) (fs : List (List ℕ))
    → read_fields (ms ++ (number ∷ [])) fs
    ≡ (last_of (length ms) fs >>= λ p. read_fields ms p.0 >>= λ ns. read_number 4294967295 p.1 >>= λ v. some
    (ns ++ (v ∷ [])))
unfolding read_fields last_of
fields_cut [] [] = refl
fields_cut [] (c ∷ []) = refl
fields_cut [] (c ∷ d ∷ ds) = bind_none (read_number 4294967295 c)
fields_cut (m ∷ ms) [] = refl
fields_cut (m ∷ ms) (f ∷ fs) =
    ap (λ (o : Option (List ℕ)). read_field m f >>= λ n. o >>= λ ns. some (n ∷ ns)) (fields_cut ms fs)
    ∙ go (last_of (length ms) fs)
  where
    onto : List ℕ → Parted → Option Parted
    onto g p = some (g ∷ p.0, p.1)

    tail : (n : ℕ) (q : Option (List ℕ)) (w : Option ℕ)
        → ((q >>= λ ns. w >>= λ v. some (ns ++ (v ∷ []))) >>= λ ns. some (n ∷ ns))
        ≡ ((q >>= λ ns. some (n ∷ ns)) >>= λ ns. w >>= λ v. some (ns ++ (v ∷ [])))
    tail n none w = refl
    tail n (some ns) none = refl
    tail n (some ns) (some v) = refl

    by : (p : Parted) (k : Option ℕ)
        → (k >>= λ n. (read_fields ms p.0 >>= λ ns. read_number 4294967295 p.1 >>= λ v. some (ns ++ (v ∷ []))) >>=
        λ ns. some (n ∷ ns))
        ≡ ((k >>= λ n. read_fields ms p.0 >>= λ ns. some (n ∷ ns)) >>= λ ns. read_number 4294967295 p.1 >>=
        λ v. some (ns ++ (v ∷ [])))
    by p none = refl
    by p (some n) = tail n (read_fields ms p.0) (read_number 4294967295 p.1)

    go : (o : Option Parted)
        → (read_field m f >>= λ n.
        (o >>= λ p. read_fields ms p.0 >>= λ ns. read_number 4294967295 p.1 >>= λ v. some (ns ++ (v ∷ []))) >>=
        λ ns. some (n ∷ ns))
        ≡ ((o >>= λ p. onto f p) >>= λ p. read_fields (m ∷ ms) p.0 >>= λ ns. read_number 4294967295 p.1 >>=
        λ v. some (ns ++ (v ∷ [])))
    go none = bind_none (read_field m f)
    go (some p) = by p (read_field m f)

-- as many numbers as forms
pub fields_long : (ms : List Form) (fs : List (List ℕ)) → On (λ (ns : List ℕ). length ns ≡ length ms) (read_fields ms fs)
unfolding read_fields
fields_long [] [] = refl
fields_long [] (f ∷ fs) = tt
fields_long (m ∷ ms) [] = tt
fields_long (m ∷ ms) (f ∷ fs) = go (read_field m f) (read_fields ms fs) (fields_long ms fs)
  where
    go : (k : Option ℕ) (q : Option (List ℕ)) → On (λ (ns : List ℕ). length ns ≡ length ms) q
        → On (λ (ns : List ℕ). length ns ≡ suc (length ms)) (k >>= λ n. q >>= λ ns. some (n ∷ ns))
    go none q h = tt
    go (some n) none h = tt
    go (some n) (some ns) h = ap suc h

-- the last of them, and those before it
pub take_before : (ns : List ℕ) (v k : ℕ) → length ns ≡ k → take k (ns ++ (v ∷ [])) ≡ ns
take_before ns v k e = ap (λ (j : ℕ). take j (ns ++ (v ∷ []))) (sym e) ∙ take-append_seam ns (v ∷ [])

pub at_last : (ns : List ℕ) (v k : ℕ) → length ns ≡ k → at (ns ++ (v ∷ [])) k ≡ v
at_last ns v k e = ap (λ (j : ℕ). at (ns ++ (v ∷ [])) j) (sym e) ∙ go ns
  where
    go : (xs : List ℕ) → at (xs ++ (v ∷ [])) (length xs) ≡ v
    go [] = refl
    go (x ∷ xs) = go xs

-- ---- the bare records

pub shrunk_ordered : (rs : List Record) (ws : List Word) → ordered ws (shrunk rs) ≡ ordered ws rs
unfolding ordered shrunk
shrunk_ordered [] ws = refl
shrunk_ordered (r ∷ rs) [] = refl
shrunk_ordered (r ∷ rs) (w ∷ ws) = go (among r.word (w ∷ ws)) (shrunk_ordered rs (next r.word))
  where
    go : (t : Bool) → ordered (next r.word) (shrunk rs) ≡ ordered (next r.word) rs
        → ◌≡◌ {A = Bool} (elim t [ true ↦ ordered (next r.word) (shrunk rs) | false ↦ false ])
        (elim t [ true ↦ ordered (next r.word) rs | false ↦ false ])
    go true h = h
    go false h = refl
