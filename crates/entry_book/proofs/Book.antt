-- Test 3 on the words of a job. Assumes nothing.
use Prim.Native.Nat.{ℕ, ◌+◌, ◌*◌, ◌≤◌, ◌<◌}
use native.Mathlib.Omega.{arith}
use native.Mathlib.Nat.{add-zero}
use mathlib.Core.Path.{◌≡◌, sym, ap, ◌∙◌}
use mathlib.Core.Bool.{Bool, true}
use mathlib.Core.List.{List, ◌∷◌}
use lib.Dec.{ltb}
use lib.ListN.{length, get_or}
use lib.Ieee.{binary32, of_bits}
use borrow.Author.Tests.{leb-true}
use Rattle.weights.proofs.Bits.{small_test}
use Rattle.words.specs.RowsAt.{rows_at, length_rows_at}
use Rattle.words.specs.Words.{words_of}
use Rattle.words.specs.Laws.{words_small}
use Rattle.definition.specs.declared.RegClass.{RegClass}
use Rattle.definition.specs.declared.ValueData.{ValueData}
use Rattle.definition.specs.declared.ClassData.{ClassData}
use Rattle.definition.specs.Entry.{conj, every, small, class_ok, class_tests, book_ok}
use Rattle.definition.proofs.Entries.{conj_all}
use Rattle.reginfo.specs.Rows.{bank_row, class_row, classes_at}
use Rattle.values.specs.ValueRows.{value_row, values_at}
use Rattle.job.specs.declared.Layout.{Layout}
use Rattle.job.specs.Layout.{options_row}
use Rattle.job.specs.Job.{job_by, raw_job}
use Rattle.job_shape.specs.Shape.{word_in, all_below}
use Rattle.job_shape.proofs.Every.{every_row, every_same}
use Rattle.job_shape.proofs.Columns.{below_row}
use Rattle.entry_book.specs.Book.{scale_tests, Booked}

-- ---- the whole test

module _ (W : List ℕ) (lay : Layout) where
  abbrev pub classes : List ClassData
  classes = classes_at W lay.classes.at lay.classes.n

  classes_length : length classes ≡ lay.classes.n
  unfolding classes_at
  classes_length = length_rows_at class_row W lay.classes.at 4 lay.classes.n

  banks_length : length (rows_at bank_row W lay.banks.at 1 lay.banks.n) ≡ lay.banks.n
  banks_length = length_rows_at bank_row W lay.banks.at 1 lay.banks.n

  -- top classes and values' banks, by their words
  tops : (n : ℕ) → every (λ (t : RegClass). ltb t.0 n) (rows_at bank_row W lay.banks.at 1 lay.banks.n) ≡ all_below W lay.banks 1 0 n
  unfolding all_below bank_row
  tops n =
      every_same (λ (t : RegClass). ltb t.0 n) (λ (x : ℕ). ltb x n) bank_row (word_in 0) W (λ i. ap (λ (k : ℕ). ltb (get_or W k 0) n) (sym (add-zero i))) lay.banks.at 1 lay.banks.n

  owners : (n : ℕ) → every (λ (v : ValueData). ltb v.bank.0 n) (values_at W lay.values.at lay.values.n) ≡ all_below W lay.values 3 0 n
  unfolding all_below values_at value_row
  owners n =
      every_same (λ (v : ValueData). ltb v.bank.0 n) (λ (x : ℕ). ltb x n) value_row (word_in 0) W (λ i. ap (λ (k : ℕ). ltb (get_or W k 0) n) (sym (add-zero i))) lay.values.at 3 lay.values.n

  -- the tests by the words
  abbrev pub book_by : List Bool
  book_by = all_below W lay.banks 1 0 lay.classes.n ∷ all_below W lay.values 3 0 lay.banks.n ∷ every (class_ok classes) classes ∷ scale_tests W lay.opts

  pub book_tests : conj book_by ≡ book_ok (raw_job W lay)
  unfolding book_ok raw_job job_by options_row
  book_tests =
      let a = sym (tops lay.classes.n) ∙ ap (λ (n : ℕ). every (λ (t : RegClass). ltb t.0 n) (rows_at bank_row W lay.banks.at 1 lay.banks.n)) (sym classes_length) in
      let b = sym (owners lay.banks.n) ∙ ap (λ (n : ℕ). every (λ (v : ValueData). ltb v.bank.0 n) (values_at W lay.values.at lay.values.n)) (sym banks_length) in
      λ x. conj (a x ∷ b x ∷ every (class_ok classes) classes ∷ scale_tests W lay.opts)

  -- ---- what test 3 gives

  module _ (words : (i : ℕ) → get_or W i 0 < 4294967296) where
    small_word : (i : ℕ) → small (of_bits binary32 (get_or W i 0)) ≡ true → get_or W i 0 ≤ 0x4980_0000
    small_word i e = leb-true _ _ (small_test (get_or W i 0) (words i) ∙ e)

    small_cost : (cs : List ClassData) (i : ℕ) → class_ok cs (class_row W i) ≡ true → get_or W (i + 1) 0 ≤ 0x4980_0000
    unfolding class_ok class_row
    small_cost cs i e = small_word (i + 1) (conj_all (class_tests cs (class_row W i)) e).1.0

    small_costs : every (class_ok classes) classes ≡ true → (i : ℕ) → i < lay.classes.n → get_or W (lay.classes.at + i * 4 + 1) 0 ≤ 0x4980_0000
    unfolding classes_at
    small_costs e i h = small_cost classes (lay.classes.at + i * 4) (every_row (class_ok classes) class_row W lay.classes.at 4 lay.classes.n e i h)

    pub book_bits : book_ok (raw_job W lay) ≡ true → Booked W lay
    book_bits e =
        let a = conj_all book_by (book_tests ∙ e) in
        record {
          tops = λ i h. let e : lay.banks.at + i * 1 + 0 ≡ lay.banks.at + i = omega arith in rw e at (below_row W lay.banks 1 0 lay.classes.n a.0 i h);
          owners = λ i h. let e : lay.values.at + i * 3 + 0 ≡ lay.values.at + i * 3 = omega arith in rw e at (below_row W lay.values 3 0 lay.banks.n a.1.0 i h);
          costs = small_costs a.1.1.0;
          cheaper_than_move = small_word (lay.opts + 1) a.1.1.1.0;
          cheaper_than_load = small_word (lay.opts + 2) a.1.1.1.1.0;
          indirect = small_word (lay.opts + 3) a.1.1.1.1.1.0;
        }

-- the same of a slice's bytes
pub book_bytes : (s : List ℕ) (lay : Layout) → ((i : ℕ) → get_or s i 0 < 256) → book_ok (raw_job (words_of s) lay) ≡ true → Booked (words_of s) lay
book_bytes s lay f e = book_bits (words_of s) lay (words_small s f) e
