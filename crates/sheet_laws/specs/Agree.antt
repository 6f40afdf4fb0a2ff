-- The machine, on the bytes of a sheet, gives what the definition gives. Assumes nothing.
use Rattle.std.specs.Prelude.{◌≡◌, refl, List, [], ◌∷◌, Bool, not, true, false, cond, ℕ, suc, ◌<◌, get_or, replicate, eqb, Some, None, Ok, Err}
use Rattle.std.proofs.Common.{ap, ◌∙◌}
use Rattle.std.proofs.Math.Option.{Option, none, some}
use Rattle.definition.specs.Text.{◌>>=◌, given, lines_of, end_line as line_ended, onto_line}
use Rattle.definition.specs.JobSheet.{opt, Record, records_of, ordered, sheet_of}
use Rattle.sheet_rules.specs.Rules.{follows_of}
use Rattle.sheet.specs.Fields.{Next, Fed, fed, begin_of}
use Rattle.sheet.specs.Machine.{Answer, run_of, open_of, ended_of, answer_of}
use Rattle.sheet.specs.declared.first.SheetError.TheVariants.{Malformed, TooMany}
use Rattle.sheet_laws.specs.Words.{Bytes}
use Rattle.sheet_laws.specs.Split.{Seen, gone, at, view_n, view, run_s, view_run, Mid, Cut, cut, mid}
use Rattle.sheet_laws.specs.Table.{Filled, filled, keyed, put, fill, blank}
use Rattle.sheet_laws.specs.Records.{AllBytes, go_s, sheet_s, lines_records}
use Rattle.sheet_laws.specs.Order.{ordered_n, same_order, likes_start}

-- what an answer says, with the table that it leaves: no sheet, or records that fill the table
abbrev pub outcome : Answer → List ℕ → Option Filled
outcome (Ok tt) o = some (filled false o)
outcome (Err Malformed) o = none
outcome (Err TooMany) o = some (filled true o)

-- what the machine gives
abbrev pub ends : Fed → Option Filled
ends f = outcome (answer_of f.next) f.out

abbrev pub ans_s : Seen → Option Filled
ans_s gone = none
ans_s (at s o) = outcome (ended_of s) o

pub finish_view : (f : Fed) → ends f ≡ ans_s (view f)
unfolding answer_of
finish_view f = go f.next
  where
    go : (m : Next) → outcome (answer_of m) f.out ≡ ans_s (view_n m f.out)
    go (Some s) = refl
    go None = refl

pub mid_answer : (x : Seen) → Mid x → ans_s x ≡ none
unfolding ended_of
mid_answer gone h = refl
mid_answer (at s o) h = go (eqb s.prev 11) (eqb s.n 0) (eqb s.len 0) h
  where
    go : (t u v : Bool) → cond u v false ≡ false → outcome (cond t (cond u (cond v (cond s.over (Err TooMany) (Ok tt)) (Err Malformed)) (Err Malformed)) (Err Malformed)) o ≡ none
    go false u v h = refl
    go true false v h = refl
    go true true v h = rw h

-- the records' order and the end
pub ordered_answer : (rs : List Record) (prev : ℕ) (f : Filled) → ans_s (go_s prev f rs) ≡ given (ordered_n prev rs) (fill f rs)
unfolding ordered_n fill ended_of begin_of
ordered_answer [] prev f = go (eqb prev 11) f.over refl
  where
    go : (t u : Bool) → f.over ≡ u → outcome (cond t (cond f.over (Err TooMany) (Ok tt)) (Err Malformed)) f.out ≡ given t f
    go true true e = rw e
    go true false e = rw e
    go false u e = refl
ordered_answer (r ∷ rs) prev f = go (not (follows_of prev (keyed r))) (ordered_answer rs (keyed r) (put f r))
  where
    go : (t : Bool) → ans_s (go_s (keyed r) (put f r) rs) ≡ given (ordered_n (keyed r) rs) (fill (put f r) rs)
        → ans_s (cond t gone (go_s (keyed r) (put f r) rs)) ≡ given (cond t false (ordered_n (keyed r) rs)) (fill (put f r) rs)
    go true h = refl
    go false h = h

abbrev pub LinesBytes : Option (List (List ℕ)) → Type 0
LinesBytes none = Unit {0}
LinesBytes (some ls) = AllBytes ls

pub lines_bytes : (bs : List ℕ) → Bytes bs → LinesBytes (lines_of bs)
unfolding lines_of
lines_bytes [] h = tt
lines_bytes (b ∷ bs) h = go (eqb b 10) (lines_of bs) (lines_bytes bs h.1)
  where
    go : (t : Bool) (r : Option (List (List ℕ))) → LinesBytes r → LinesBytes (cond t (line_ended r) (onto_line b r))
    go true none k = tt
    go true (some ls) k = (tt, k)
    go false none k = tt
    go false (some []) k = tt
    go false (some (l ∷ ls)) k = ((h.0, k.0), k.1)

-- THE LAW: the machine ends malformed where the bytes are no sheet, and else with the table that the sheet's records fill
pub agree : (bs : List ℕ) → Bytes bs → (n : ℕ) → ends (run_of (open_of n) bs) ≡ (sheet_of bs >>= λ rs. some (fill (blank n) rs))
unfolding open_of sheet_of
agree bs b n =
    finish_view (run_of start bs)
    ∙ ap ans_s (view_run start bs)
    ∙ go (lines_of bs) (cut mid bs (at (begin_of 12 false) (replicate n 0))) (lines_bytes bs b)
  where
    start : Fed
    start = fed (Some (begin_of 12 false)) (replicate n 0)

    last : (t : Bool) (rs : List Record) → given t (fill (blank n) rs) ≡ (given t rs >>= λ rs. some (fill (blank n) rs))
    last true rs = refl
    last false rs = refl

    records : (m : Option (List Record)) → ans_s (sheet_s 12 (blank n) m) ≡ ((m >>= λ rs. given (ordered (opt ∷ []) rs) rs) >>= λ rs. some (fill (blank n) rs))
    records none = refl
    records (some rs) =
        ordered_answer rs 12 (blank n)
        ∙ ap (λ (t : Bool). given t (fill (blank n) rs)) (same_order rs (opt ∷ []) 12 likes_start)
        ∙ last (ordered (opt ∷ []) rs) rs

    go : (m : Option (List (List ℕ))) → Cut m (at (begin_of 12 false) (replicate n 0)) bs → LinesBytes m
        → ans_s (run_s (at (begin_of 12 false) (replicate n 0)) bs) ≡ ((m >>= λ ls. records_of ls >>= λ rs. given (ordered (opt ∷ []) rs) rs) >>= λ rs. some (fill (blank n) rs))
    go none h k = mid_answer (run_s (at (begin_of 12 false) (replicate n 0)) bs) h
    go (some ls) h k = ap ans_s (h ∙ lines_records ls k 12 (blank n)) ∙ records (records_of ls)

pub all_bytes : (bs : List ℕ) → ((i : ℕ) → get_or bs i 0 < 256) → Bytes bs
all_bytes [] h = tt
all_bytes (b ∷ bs) h = (h 0, all_bytes bs (λ i. h (suc i)))
