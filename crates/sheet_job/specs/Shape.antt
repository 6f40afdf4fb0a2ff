-- The table of a sheet has the shape that the entry tests ask for, by its fixed layout. Assumes nothing.
use Rattle.std.specs.Prelude.{◌≡◌, Bool, true, false, ◌&&◌, ℕ, ◌+◌, ◌≤◌, replicate, Ok}
use Rattle.std.proofs.Math.Path.{refl, sym, ap}
use Rattle.std.proofs.Common.{◌∙◌, subst, arith, zero-add}
use mathlib.Core.List.{List, [], ◌∷◌}
use Rattle.std.proofs.Math.Option.{Option, none, some}
use Rattle.std.proofs.Math.ListN.{length, get_or}
use Rattle.std.proofs.lemmas.List.{length-replicate}
use Rattle.std.proofs.Math.Dec.{ltb, eqb}
use Rattle.words.specs.RowsAt.{rows_at}
use Rattle.words.specs.Words.{word_count, words_of}
use Rattle.definition.specs.Entry.{conj, every}
use Rattle.definition.specs.Text.{◌>>=◌}
use Rattle.definition.specs.JobSheet.{Word as Named, opt, bank, class, reg, block, value, hint, seg, use', word_number, Record, only, ordered, sheet_of}
use Rattle.job.specs.Layout.{Fits}
use Rattle.job_shape.specs.Shape.{word_in, all_below, choices_ok, use_counts, rises, counts_ok, Shaped}
use Rattle.sheet_rules.specs.Places.{bases, base_of, widths, width_of, limits, limit_of, stored_fields, stored_of, count_at, table_words}
use Rattle.sheet.specs.Machine.{Answer, run_of, open_of, answer_of}
use Rattle.sheet_laws.specs.Words.{Bytes, none_some}
use Rattle.sheet_laws.specs.Table.{Filled, filled, fill, blank}
use Rattle.sheet_laws.specs.Agree.{outcome, agree}
use Rattle.sheet_laws.specs.Put.{cnt}
use Rattle.sheet_laws.specs.Stands.{Stands, stands}
use Rattle.sheet_laws.specs.Counts.{good_zeros, zero_count, fill_count}
use Rattle.sheet_laws.specs.Sheets.{On, Sound, sheet_sound}
use Rattle.sheet_laws.specs.Choices.{ChosenRecords, sheet_chosen}
use Rattle.sheet_job.specs.Fixed.{table_at, fixed_layout}
use Rattle.sheet_job.specs.Present.{a_bank, a_class, a_block, fill_most}
use Rattle.sheet_job.specs.Columns.{column, bound_of, before, counts_list, rises_before, first_before}

-- the tables lie within the table of words
fits : (T : List ℕ) → ((k : ℕ) → 1 ≤ k → k ≤ 10 → cnt T k ≤ limit_of k) → Fits table_words (fixed_layout T)
unfolding fixed_layout table_at limit_of limits count_at
fits T h = record {
  opts = omega arith;
  banks = omega (arith, h 1 (omega arith) (omega arith));
  classes = omega (arith, h 2 (omega arith) (omega arith));
  regs = omega (arith, h 3 (omega arith) (omega arith));
  blocks = omega (arith, h 4 (omega arith) (omega arith));
  values = omega (arith, h 5 (omega arith) (omega arith));
  vgroups = omega (arith, h 6 (omega arith) (omega arith));
  operands = omega (arith, h 7 (omega arith) (omega arith));
  hints = omega (arith, h 8 (omega arith) (omega arith));
  segments = omega (arith, h 9 (omega arith) (omega arith));
  uses = omega (arith, h 10 (omega arith) (omega arith));
}

module _ (T : List ℕ) (rs : List Record) (s : Stands T (λ k. 0) rs) (n : (w : Named) → 1 ≤ word_number w → word_number w ≤ 10 → cnt T (word_number w) ≡ length (only w rs)) where
  six : (a b c d e f : Bool) → a ≡ true → b ≡ true → c ≡ true → d ≡ true → e ≡ true → f ≡ true → conj (a ∷ b ∷ c ∷ d ∷ e ∷ f ∷ []) ≡ true
  unfolding conj
  six a b c d e f p q r t u v = rw (p, q, r, t, u, v)

  choices : ChosenRecords rs → choices_ok T (fixed_layout T) ≡ true
  unfolding choices_ok all_below fixed_layout table_at count_at bases base_of widths width_of stored_fields stored_of
  choices h =
      six _ _ _ _ _ _
      (ap (λ (k : ℕ). every (λ x. ltb x 2) (rows_at (word_in 3) T 22 4 k)) (n class (omega arith) (omega arith))
      ∙ column T class 3 2 (omega arith) (omega arith) refl (omega arith) rs s (bound_of class 3 2 (λ ns c. omega (arith, c)) rs h))
      (ap (λ (k : ℕ). every (λ x. ltb x 2) (rows_at (word_in 0) T 150 1 k)) (n reg (omega arith) (omega arith))
      ∙ column T reg 0 2 (omega arith) (omega arith) refl (omega arith) rs s (bound_of reg 0 2 (λ ns c. omega (arith, c)) rs h))
      (ap (λ (k : ℕ). every (λ x. ltb x 4) (rows_at (word_in 2) T 1430 3 k)) (n value (omega arith) (omega arith))
      ∙ column T value 2 4 (omega arith) (omega arith) refl (omega arith) rs s (bound_of value 2 4 (λ ns c. omega (arith, c)) rs h))
      (ap (λ (k : ℕ). every (λ x. ltb x 2) (rows_at (word_in 2) T 10902 3 k)) (n hint (omega arith) (omega arith))
      ∙ column T hint 2 2 (omega arith) (omega arith) refl (omega arith) rs s (bound_of hint 2 2 (λ ns c. omega (arith, c)) rs h))
      (ap (λ (k : ℕ). every (λ x. ltb x 16) (rows_at (word_in 3) T 13974 5 k)) (n seg (omega arith) (omega arith))
      ∙ column T seg 3 16 (omega arith) (omega arith) refl (omega arith) rs s (bound_of seg 3 16 (λ ns c. omega (arith, c)) rs h))
      (ap (λ (k : ℕ). every (λ x. ltb x 10) (rows_at (word_in 0) T 19094 6 k)) (n use' (omega arith) (omega arith))
      ∙ column T use' 0 10 (omega arith) (omega arith) refl (omega arith) rs s (bound_of use' 0 10 (λ ns c. omega (arith, c)) rs h))

  counts : ordered (opt ∷ []) rs ≡ true → counts_ok T (fixed_layout T) ≡ true
  unfolding counts_ok use_counts fixed_layout table_at count_at
  counts o =
      let l : rows_at (word_in 4) T 13974 5 (get_or T 8 0) ≡ before 0 rs = ap (λ (k : ℕ). rows_at (word_in 4) T 13974 5 k) (n seg (omega arith) (omega arith)) ∙ counts_list T rs (λ k. 0) s in
      let u : get_or T 9 0 ≡ 0 + length (only use' rs) = n use' (omega arith) (omega arith) ∙ sym (zero-add (length (only use' rs))) in
      ap (λ (xs : List ℕ). eqb (get_or xs 0 (get_or T 9 0)) 0 && rises 0 xs (get_or T 9 0)) l
      ∙ ap (λ (k : ℕ). eqb (get_or (before 0 rs) 0 k) 0 && rises 0 (before 0 rs) k) u
      ∙ ap (λ (k : ℕ). eqb k 0 && rises 0 (before 0 rs) (0 + length (only use' rs))) (first_before rs (opt ∷ []) refl o 0)
      ∙ rises_before rs 0 0 (omega arith)

-- the table that a sheet's records fill
table_shaped : (n : ℕ) → n ≡ table_words → (rs : List Record) → Sound rs → ChosenRecords rs → (fill (blank n) rs).over ≡ false
    → (b : List ℕ) → word_count b ≡ table_words → words_of b ≡ (fill (blank n) rs).out → Shaped b (fixed_layout (words_of b))
unfolding fixed_layout table_at count_at
table_shaped n e rs k c v b w t = record {
  fits = subst (λ (N : ℕ). Fits N (fixed_layout (words_of b))) (sym w) (subst (λ (W : List ℕ). Fits table_words (fixed_layout W)) (sym t) (fits T (fill_most rs (blank n) l v (λ i p q. let z : cnt (replicate n 0) i ≡ 0 = zero_count n e i in omega arith))));
  banks = subst (λ (W : List ℕ). 1 ≤ get_or W 0 0) (sym t) (subst (λ (x : ℕ). 1 ≤ x) (sym (m bank (omega arith) (omega arith))) (a_bank rs k.order));
  classes = subst (λ (W : List ℕ). 1 ≤ get_or W 1 0) (sym t) (subst (λ (x : ℕ). 1 ≤ x) (sym (m class (omega arith) (omega arith))) (a_class rs k.order));
  blocks = subst (λ (W : List ℕ). 1 ≤ get_or W 3 0) (sym t) (subst (λ (x : ℕ). 1 ≤ x) (sym (m block (omega arith) (omega arith))) (a_block rs k.order));
  choices = ap (λ (W : List ℕ). choices_ok W (fixed_layout W)) t ∙ choices T rs st m c;
  counts = ap (λ (W : List ℕ). counts_ok W (fixed_layout W)) t ∙ counts T rs st m k.order;
}
  where
    T : List ℕ
    T = (fill (blank n) rs).out

    l : length {A = ℕ} (replicate n 0) ≡ table_words
    l = length-replicate n 0 ∙ e

    st : Stands T (λ i. 0) rs
    st = stands rs (blank n) (λ i. 0) (good_zeros n e) v k.small (λ i p q. sym (zero_count n e i))

    m : (x : Named) → 1 ≤ word_number x → word_number x ≤ 10 → cnt T (word_number x) ≡ length (only x rs)
    m x p q = fill_count rs (blank n) l v x p q ∙ (let z : cnt (replicate n 0) (word_number x) ≡ 0 = zero_count n e (word_number x) in omega arith)

abbrev the : Option Filled → Filled
the none = blank 0
the (some f) = f

pub read_shaped : (n : ℕ) → n ≡ table_words → (a : Answer) (o : List ℕ) (m : Option (List Record)) → On Sound m → On ChosenRecords m → outcome a o ≡ (m >>= λ rs. some (fill (blank n) rs)) → a ≡ Ok tt
    → (b : List ℕ) → word_count b ≡ table_words → words_of b ≡ o → Shaped b (fixed_layout (words_of b))
read_shaped n e a o none s c q i b w t = absurd (none_some (sym (ap (λ (x : Answer). outcome x o) (sym i) ∙ q)))
read_shaped n e a o (some rs) s c q i b w t =
    let f : filled false o ≡ fill (blank n) rs = ap the (ap (λ (x : Answer). outcome x o) (sym i) ∙ q) in
    table_shaped n e rs s c (sym (ap (λ (g : Filled). g.over) f)) b w (t ∙ ap (λ (g : Filled). g.out) f)

-- THE LAW: the table of a sheet that was read is one that the entry tests take
pub sheet_shaped : (n : ℕ) → n ≡ table_words → (bs : List ℕ) → Bytes bs → answer_of (run_of (open_of n) bs).next ≡ Ok tt
    → (b : List ℕ) → word_count b ≡ table_words → words_of b ≡ (run_of (open_of n) bs).out → Shaped b (fixed_layout (words_of b))
sheet_shaped n e bs y i b w t =
    read_shaped n e (answer_of (run_of (open_of n) bs).next) (run_of (open_of n) bs).out (sheet_of bs) (sheet_sound bs) (sheet_chosen bs) (agree bs y n) i b w t
