-- The machine, on the bytes of a sheet of either form, gives what the definition gives. Assumes nothing.
use Rattle.std.specs.Prelude.{◌≡◌, refl, List, [], ◌∷◌, Bool, true, false, cond, ◌&&◌, ℕ, zero, suc, ◌+◌, ◌≤◌, length, get_or, take, drop, set, replicate, ltb, eqb, Some, None}
use Rattle.std.proofs.Common.{sym, ap, subst, ◌∙◌, arith, length-set, drop-drop, eqb-true, eq-eqb, ne_eqb, lt-ltb, le-ltb}
use Rattle.std.proofs.lemmas.Bool.{false≢true, eqb-false}
use Rattle.std.proofs.Math.Option.{Option, none, some}
use Rattle.std.proofs.lemmas.List.{length-replicate}
use Rattle.definition.specs.Text.{same, ◌>>=◌, given, lines_of}
use Rattle.definition.specs.JobSheet.{opt, Record, ordered}
use Rattle.definition.specs.SheetForms.{form_line, is_second, behind_form, second_records, second_sheet}
use Rattle.definition.specs.Conversion.{shrunk}
use Rattle.sheet_rules.specs.Bytes.{num, closed_of}
use Rattle.sheet_rules.specs.Rules.{form_at, low_of, more_after}
use Rattle.sheet_rules.specs.Places.{limit_of, count_at, place_of, tail_at, tail_of}
use Rattle.sheet.specs.declared.fields.St.{St}
use Rattle.sheet.specs.Fields.{Next, Fed, fed, begin_of, start_of, next_of, byte_of, end_field, close_record}
use Rattle.sheet.specs.Machine.{on_field, end_line, step_of, on_next, push_of, run_of, open_of, answer_of}
use Rattle.sheet.specs.Fronts.{Front, Opening, First, Word, Plain, Before, Written}
use Rattle.sheet.specs.Front.{stands, opening_of, Keeping, keeping, counts, Formed, onward}
use Rattle.sheet.specs.Front.{push_form, run_form, open_form, second_of, finish_of}
use Rattle.sheet_laws.specs.Words.{Bytes}
use Rattle.sheet_laws.specs.Split.{view_n}
use Rattle.sheet_laws.specs.Table.{fill, blank}
use Rattle.sheet_laws.specs.Records.{placed, go_s}
use Rattle.sheet_laws.specs.Order.{same_order, likes_start}
use Rattle.sheet_laws.specs.Agree.{outcome, ordered_answer, LinesBytes, lines_bytes}
use Rattle.sheet_laws.specs.Views.{word, with_p, view_p, run_v, Ended, with_kept, ans_v}
use Rattle.sheet_laws.specs.Views.{ans_word, CutV, cut_lines, view_runs, second_stays}
use Rattle.sheet_laws.specs.Bare.{keep_all, shrunk_ordered}
use Rattle.sheet_laws.specs.Second.{sheet_q, lines_second}

-- ---- the second form

-- what the records of a sheet leave: the rows of the bare ones, and the written fields
abbrev pub ended_by : ℕ → Keeping → List Record → Ended
ended_by n t rs = record { filled = fill (blank n) (shrunk rs); keeping = keep_all t rs }

second_view : (bs : List ℕ) → Bytes bs → (n : ℕ) (t : Keeping)
    → ans_v (run_v (with_p word t (placed 12 (blank n))) bs) ≡ (second_sheet bs >>= λ rs. some (ended_by n t rs))
unfolding second_sheet sheet_q
second_view bs b n t = go (lines_of bs) (cut_lines bs (with_p word t (placed 12 (blank n)))) (lines_bytes bs b)
  where
    last : (u : Bool) (rs : List Record)
        → with_kept (keep_all t rs) (given u (fill (blank n) (shrunk rs))) ≡ (given u rs >>= λ ks. some (ended_by n t ks))
    last true rs = refl
    last false rs = refl

    records : (m : Option (List Record))
        → ans_v (sheet_q 12 (blank n) t m)
        ≡ ((m >>= λ rs. given (ordered (opt ∷ []) rs) rs) >>= λ rs. some (ended_by n t rs))
    records none = refl
    records (some rs) =
        ans_word (keep_all t rs) (go_s 12 (blank n) (shrunk rs))
        ∙ ap (with_kept (keep_all t rs)) (ordered_answer (shrunk rs) 12 (blank n))
        ∙ ap (λ (u : Bool). with_kept (keep_all t rs) (given u (fill (blank n) (shrunk rs))))
        (same_order (shrunk rs) (opt ∷ []) 12 likes_start ∙ shrunk_ordered rs (opt ∷ []))
        ∙ last (ordered (opt ∷ []) rs) rs

    go : (m : Option (List (List ℕ))) → CutV m (with_p word t (placed 12 (blank n))) bs → LinesBytes m
        → ans_v (run_v (with_p word t (placed 12 (blank n))) bs)
        ≡ ((m >>= λ ls. second_records ls >>= λ rs. given (ordered (opt ∷ []) rs) rs) >>= λ rs. some
        (ended_by n t rs))
    go none h k = h
    go (some ls) h k = ap ans_v (h ∙ lines_second ls k 12 (blank n) t) ∙ records (second_records ls)

-- what the end of a sheet makes of the machine's state
abbrev pub ends_f : Formed → Option Ended
ends_f f = with_kept f.keeping (outcome (finish_of f.at.front f.at.fed.next) f.at.fed.out)

ends_view : (m : Front) (g : Fed) (t : Keeping) → second_of m ≡ true
    → with_kept t (outcome (finish_of m g.next) g.out) ≡ ans_v (view_p m g t)
unfolding second_of finish_of answer_of
ends_view (Opening k) g t e = absurd (false≢true e)
ends_view First g t e = absurd (false≢true e)
ends_view Word g t e = go g.next
  where
    go : (r : Next) → with_kept t (outcome (answer_of r) g.out) ≡ ans_v (with_p word t (view_n r g.out))
    go (Some s) = refl
    go None = refl
ends_view Plain g t e = go g.next
  where
    go : (r : Next) → none ≡ ans_v (view_p Plain (fed r g.out) t)
    go (Some s) = refl
    go None = refl
ends_view (Before key left) g t e = go g.next
  where
    go : (r : Next) → none ≡ ans_v (view_p (Before key left) (fed r g.out) t)
    go (Some s) = refl
    go None = refl
ends_view (Written key x) g t e = go g.next
  where
    go : (r : Next) → none ≡ ans_v (view_p (Written key x) (fed r g.out) t)
    go (Some s) = refl
    go None = refl

-- the state behind the form line
abbrev pub second_start : ℕ → Keeping → Formed
second_start n t = onward (stands Word (open_of n)) t

second_ends : (bs : List ℕ) → Bytes bs → (n : ℕ) (t : Keeping)
    → ends_f (run_form (second_start n t) bs) ≡ (second_sheet bs >>= λ rs. some (ended_by n t rs))
unfolding second_of open_of
second_ends bs b n t =
    let f : Formed = run_form (second_start n t) bs in
    ends_view f.at.front f.at.fed f.keeping (second_stays (second_start n t) bs refl)
    ∙ ap ans_v (view_runs (second_start n t) bs refl) ∙ second_view bs b n t

-- ---- the table keeps its length

long_field : (s : St) (o : List ℕ) → length (end_field s o).out ≡ length o
unfolding end_field
long_field s o = go (closed_of (form_at s.key s.kind s.n) (num s.value s.len)) (eqb s.n 0)
  where
    go : (u v : Bool) → length
        (cond u (cond v (fed (start_of s o) o)
        (fed (Some (next_of s)) (set o (place_of s.key s.row s.n) (low_of s.value)))) (fed None o)).out
        ≡ length o
    go true true = refl
    go true false = length-set o (place_of s.key s.row s.n) (low_of s.value)
    go false v = refl

long_record : (t : St) (o : List ℕ) → length (close_record t o).out ≡ length o
unfolding close_record
long_record t o = go (more_after t.key t.kind t.n)
    (ltb (get_or o (count_at t.key) 0) (limit_of t.key))
  where
    o₁ : List ℕ
    o₁ = set o (tail_at t.key t.row) (tail_of t.key t.n (get_or o 9 0))

    l₁ : length o₁ ≡ length o
    l₁ = length-set o (tail_at t.key t.row) (tail_of t.key t.n (get_or o 9 0))

    go : (u v : Bool) → length
        (cond u (fed None o) (cond v
        (fed (Some (begin_of t.key t.over)) (set o₁ (count_at t.key) (get_or o (count_at t.key) 0 + 1)))
        (fed (Some (begin_of t.key true)) o₁))).out ≡ length o
    go true v = refl
    go false true = length-set o₁ (count_at t.key) (get_or o (count_at t.key) 0 + 1) ∙ l₁
    go false false = l₁

long_line : (s : St) (o : List ℕ) → length (end_line s o).out ≡ length o
unfolding end_line
long_line s o = go (end_field s o).next (end_field s o).out ∙ long_field s o
  where
    go : (r : Next) (p : List ℕ) → length (on_field r p).out ≡ length p
    go (Some t) p = long_record t p
    go None p = refl

long_push : (g : Fed) (b : ℕ) → length (push_of g b).out ≡ length g.out
unfolding push_of step_of
long_push g b = go g.next
  where
    by : (s : St) (u v : Bool)
        → length (cond u (end_line s g.out) (cond v (end_field s g.out) (fed (byte_of s b) g.out))).out
        ≡ length g.out
    by s true v = long_line s g.out
    by s false true = long_field s g.out
    by s false false = refl

    go : (r : Next) → length (on_next r b g.out).out ≡ length g.out
    go (Some s) = by s (eqb b 10) (eqb b 9)
    go None = refl

-- ---- the form line

run_first : (g : Fed) (t : Keeping) (bs : List ℕ)
    → run_form (onward (stands First g) t) bs ≡ onward (stands First (run_of g bs)) t
unfolding run_form run_of push_form
run_first g t [] = refl
run_first g t (b ∷ bs) = run_first (push_of g b) t bs

-- the sheet is of the first form: the reader was fed all of it
pub record OfFirst (g : Fed) (t : Keeping) (bs : List ℕ) (f : Formed) : Type 0 where
  pub fed : f.at.fed ≡ run_of g bs
  pub front : second_of f.at.front ≡ false
  pub finish : (r : Next) → finish_of f.at.front r ≡ answer_of r
  pub keeping : f.keeping ≡ t

-- behind some bytes of the form line, with fs to come
pub record Opened (fs : List ℕ) (n : ℕ) (g : Fed) (t : Keeping) (bs : List ℕ) (f : Formed) : Type 0 where
  pub second : same (take (length fs) bs) fs ≡ true → f ≡ run_form (second_start n t) (drop (length fs) bs)
  pub first : same (take (length fs) bs) fs ≡ false → OfFirst g t bs f

at_drop : (xs : List ℕ) (k d : ℕ) → get_or xs k d ≡ get_or (drop k xs) 0 d
at_drop [] zero d = refl
at_drop [] (suc k) d = refl
at_drop (x ∷ xs) zero d = refl
at_drop (x ∷ xs) (suc k) d = at_drop xs k d

turned : (a b : ℕ) (u : Bool) → eqb b a ≡ u → eqb a b ≡ u
turned a b true e = eq-eqb a b (sym (eqb-true b a e))
turned a b false e = ne_eqb a b (λ q. eqb-false b a e (sym q))

not_second : (g : Fed) (t : Keeping) (k : ℕ) → OfFirst g t [] (onward (stands (Opening k) g) t)
unfolding second_of finish_of run_of
not_second g t k = record { fed = refl; front = refl; finish = λ r. refl; keeping = refl }

of_first : (g h : Fed) (t : Keeping) (b : ℕ) (bs : List ℕ) → h ≡ push_of g b
    → OfFirst g t (b ∷ bs) (run_form (onward (stands First h) t) bs)
unfolding second_of finish_of run_of
of_first g h t b bs e = subst (λ (f : Formed). OfFirst g t (b ∷ bs) f) (sym (run_first h t bs))
    (record { fed = ap (λ (x : Fed). run_of x bs) e; front = refl; finish = λ r. refl; keeping = refl })

first_later : (g : Fed) (t : Keeping) (b : ℕ) (bs : List ℕ) (f : Formed) → OfFirst (push_of g b) t bs f
    → OfFirst g t (b ∷ bs) f
unfolding run_of
first_later g t b bs f o = record { fed = o.fed; front = o.front; finish = o.finish; keeping = o.keeping }

opened : (fs : List ℕ) (k : ℕ) → drop k form_line ≡ fs → k + length fs ≡ 7 → 1 ≤ length fs → (n : ℕ) (g : Fed)
    → length g.out ≡ n → (t : Keeping) (bs : List ℕ)
    → Opened fs n g t bs (run_form (onward (stands (Opening k) g) t) bs)
unfolding run_form push_form opening_of
opened [] k d e h n g l t bs = absurd (omega arith)
opened (c ∷ fs) k d e h n g l t [] = record { second = λ q. absurd (false≢true q); first = λ q. not_second g t k }
opened (c ∷ fs) k d e h n g l t (b ∷ bs) = go (eqb b c) refl fs d e (opened fs (k + 1))
  where
    stepped : (u v : Bool) → eqb (get_or form_line k 256) b ≡ u → ltb k 6 ≡ v
        → push_form (onward (stands (Opening k) g) t) b
        ≡ onward (cond u (cond v (stands (Opening (k + 1)) (push_of g b)) (stands Word (open_of (length g.out))))
        (stands First (push_of g b))) t
    stepped u v p q = rw (p, q)

    here : (xs : List ℕ) → drop k form_line ≡ c ∷ xs → get_or form_line k 256 ≡ c
    here xs w = at_drop form_line k 256 ∙ ap (λ (ys : List ℕ). get_or ys 0 256) w

    go : (u : Bool) → eqb b c ≡ u → (xs : List ℕ) → drop k form_line ≡ c ∷ xs → k + length (c ∷ xs) ≡ 7
        → (drop (k + 1) form_line ≡ xs → k + 1 + length xs ≡ 7 → 1 ≤ length xs → (m : ℕ) (x : Fed) → length x.out ≡ m
        → (y : Keeping) (zs : List ℕ) → Opened xs m x y zs (run_form (onward (stands (Opening (k + 1)) x) y) zs))
        → Opened (c ∷ xs) n g t (b ∷ bs) (run_form (push_form (onward (stands (Opening k) g) t) b) bs)
    go false p xs w q ih =
        let i : eqb (get_or form_line k 256) b ≡ false = ap (λ (x : ℕ). eqb x b) (here xs w) ∙ turned c b false p in
        subst (λ (f : Formed). Opened (c ∷ xs) n g t (b ∷ bs) (run_form f bs)) (sym (stepped false (ltb k 6) i refl))
        (record {
          second = λ r. absurd (false≢true (sym (ap (λ (u : Bool). u && same (take (length xs) bs) xs) p) ∙ r));
          first = λ r. of_first g (push_of g b) t b bs refl;
        })
    go true p [] w q ih =
        let i : eqb (get_or form_line k 256) b ≡ true = ap (λ (x : ℕ). eqb x b) (here [] w) ∙ turned c b true p in
        let j : ltb k 6 ≡ false = le-ltb k 6 (omega arith) in
        subst (λ (f : Formed). Opened (c ∷ []) n g t (b ∷ bs) (run_form f bs)) (sym (stepped true false i j
        ∙ ap (λ (m : ℕ). onward (stands Word (open_of m)) t) l))
        (record {
          second = λ r. refl;
          first = λ r. absurd (false≢true (sym r ∙ ap (λ (u : Bool). u && true) p));
        })
    go true p (x ∷ xs) w q ih =
        let i : eqb (get_or form_line k 256) b ≡ true = ap (λ (y : ℕ). eqb y b) (here (x ∷ xs) w) ∙ turned c b true p in
        let j : ltb k 6 ≡ true = lt-ltb k 6 (omega arith) in
        let z : Opened (x ∷ xs) n (push_of g b) t bs (run_form (onward (stands (Opening (k + 1)) (push_of g b)) t) bs) = ih
        (sym (drop-drop 1 k form_line) ∙ ap (drop 1) w) (omega arith) (omega arith) n (push_of g b) (long_push g b
        ∙ l) t bs in
        let a : same (b ∷ take (length (x ∷ xs)) bs) (c ∷ x ∷ xs)
        ≡ same (take (length (x ∷ xs)) bs) (x ∷ xs) = ap
        (λ (u : Bool). u && same (take (length (x ∷ xs)) bs) (x ∷ xs)) p in
        subst (λ (f : Formed). Opened (c ∷ x ∷ xs) n g t (b ∷ bs) (run_form f bs)) (sym (stepped true true i j))
        (record {
          second = λ r. z.second (sym a ∙ r);
          first = λ r. first_later g t b bs (run_form (onward (stands (Opening (k + 1)) (push_of g b)) t) bs)
              (z.first (sym a ∙ r));
        })

-- ---- THE LAW

abbrev pub none_kept : ℕ → Keeping
none_kept m = keeping (counts 0 0) (replicate m 0)

start_opened : (n m : ℕ) (bs : List ℕ) → Opened form_line n (open_of n) (none_kept m) bs (run_form (open_form n m) bs)
unfolding open_form open_of
start_opened n m bs = opened form_line 0 refl refl (omega arith) n (open_of n) (length-replicate n 0) (none_kept m) bs

-- a sheet without the form line goes to the reader of the first form, byte for byte
pub forms_first : (n m : ℕ) (bs : List ℕ) → is_second bs ≡ false
    → OfFirst (open_of n) (none_kept m) bs (run_form (open_form n m) bs)
unfolding is_second
forms_first n m bs e = (start_opened n m bs).first e

behind_bytes : (k : ℕ) (bs : List ℕ) → Bytes bs → Bytes (drop k bs)
behind_bytes zero bs b = b
behind_bytes (suc k) [] b = tt
behind_bytes (suc k) (x ∷ bs) b = behind_bytes k bs b.1

-- a sheet with it ends malformed where it is none, and else with the table of its bare records and its written fields
pub forms_second : (n m : ℕ) (bs : List ℕ) → Bytes bs → is_second bs ≡ true
    → (second_of (run_form (open_form n m) bs).at.front ≡ true) × (ends_f (run_form (open_form n m) bs)
    ≡ (second_sheet (behind_form bs) >>= λ rs. some (ended_by n (none_kept m) rs)))
unfolding is_second second_of
forms_second n m bs b e =
    let i : run_form (open_form n m) bs
    ≡ run_form (second_start n (none_kept m)) (behind_form bs) = (start_opened n m bs).second e in (
      ap (λ (f : Formed). second_of f.at.front) i ∙ second_stays (second_start n (none_kept m)) (behind_form bs) refl,
      ap ends_f i ∙ second_ends (behind_form bs) (behind_bytes (length form_line) bs b) n (none_kept m),
    )
