-- The job of the reader's table is the definition's job of the sheet's records. Assumes nothing.
use Rattle.std.specs.Prelude.{◌≡◌, false, ℕ, ◌+◌, ◌*◌, ◌≤◌, ◌<◌, length, get_or, replicate}
use Rattle.std.proofs.Common.{sym, ◌∙◌, arith}
use Rattle.std.proofs.Math.Path.{ap, subst}
use mathlib.Core.List.{List, [], ◌∷◌, map}
use Rattle.std.proofs.lemmas.List.{length-replicate, get_or-replicate}
use Rattle.words.specs.RowsAt.{rows_at}
use Rattle.definition.specs.declared.Value.{Value}
use Rattle.definition.specs.Types.{Job}
use Rattle.definition.specs.JobSheet.{Word as Named, opt, bank, class, reg, block, value, vgroup, operand, hint, seg, use', word_number, Record, only, float, options_of, bank_of, class_data_of, memory_of, block_data_of, value_data_of, vgroup_of, operand_of, hint_of, job_of_records}
use Rattle.definition.specs.Conversion.{rec}
use Rattle.reginfo.specs.Rows.{bank_row, memory_row, class_row, classes_at}
use Rattle.function.specs.Blocks.{block_row}
use Rattle.values.specs.ValueRows.{value_row, values_at, vgroup_row, vgroups_at}
use Rattle.values.specs.OperandRows.{operand_row, operands_at}
use Rattle.hints.specs.Hints.{hint_at}
use Rattle.job.specs.Layout.{options_row}
use Rattle.job.specs.Job.{job_by, raw_job}
use Rattle.sheet_rules.specs.Places.{bases, base_of, widths, width_of, limits, limit_of, stored_fields, stored_of, count_at, table_words}
use Rattle.sheet_laws.specs.Table.{Filled, put, fill, blank}
use Rattle.sheet_laws.specs.Values.{Small}
use Rattle.sheet_laws.specs.Put.{cnt, put_long, put_field}
use Rattle.sheet_laws.specs.Stands.{Stands, NoOpt, room, kept_opt, stands}
use Rattle.sheet_laws.specs.Counts.{good_zeros, zero_count, fill_count}
use Rattle.sheet_laws.specs.Sheets.{Opened, opened, Sound}
use Rattle.sheet_job.specs.Fixed.{table_at, fixed_layout}
use Rattle.sheet_job.specs.Decode.{Pairs, pairs_map, listed, bank_read, class_read, memory_read, block_read, value_read, operand_read, hint_read}
use Rattle.sheet_job.specs.Groups.{AlikeGroup, vgroup_read}
use Rattle.sheet_job.specs.Segments.{segments_read}

-- two jobs that differ at most in value groups of more than eight members, which stand at the same places
pub record Alike (j k : Job) : Type 0 where
  pub options : j.options ≡ k.options
  pub banks : j.banks ≡ k.banks
  pub classes : j.classes ≡ k.classes
  pub memory : j.memory ≡ k.memory
  pub blocks : j.blocks ≡ k.blocks
  pub values : j.values ≡ k.values
  pub vgroups : Pairs AlikeGroup j.vgroups k.vgroups
  pub operands : j.operands ≡ k.operands
  pub hints : j.hints ≡ k.hints
  pub segments : j.segments ≡ k.segments

-- the counts of a table are those of the records
abbrev Counted : List ℕ → List Record → Type 0
Counted T rs = (w : Named) → 1 ≤ word_number w → word_number w ≤ 10 → cnt T (word_number w) ≡ length (only w rs)

options_read : (T ns : List ℕ) → ((j : ℕ) → j < 4 → get_or T (10 + j) 0 ≡ get_or ns j 0) → options_row T 10 ≡ options_of ns
unfolding options_row options_of float
options_read T ns h = rw (h 0 (omega arith), h 1 (omega arith), h 2 (omega arith), h 3 (omega arith))

module _ (T : List ℕ) (rs : List Record) (s : Stands T (λ k. 0) rs) (n : Counted T rs) (o : options_row T 10 ≡ options_of (get_or (only opt rs) 0 [])) where
  pub job_read : Alike (raw_job T (fixed_layout T)) (job_of_records rs)
  unfolding raw_job job_by job_of_records fixed_layout table_at classes_at values_at vgroups_at operands_at count_at bases base_of widths width_of
  job_read = record {
    options = o;
    banks =
        ap (λ (k : ℕ). rows_at bank_row T 14 1 k) (n bank (omega arith) (omega arith))
        ∙ pairs_map bank_of _ _ (listed T bank bank_row (λ a ns. a ≡ bank_of ns) (omega arith) (omega arith) (λ i ns u r. bank_read T i ns u r) rs (λ k. 0) s);
    classes =
        ap (λ (k : ℕ). rows_at class_row T 22 4 k) (n class (omega arith) (omega arith))
        ∙ pairs_map class_data_of _ _ (listed T class class_row (λ a ns. a ≡ class_data_of ns) (omega arith) (omega arith) (λ i ns u r. class_read T i ns u r) rs (λ k. 0) s);
    memory =
        ap (λ (k : ℕ). rows_at memory_row T 150 1 k) (n reg (omega arith) (omega arith))
        ∙ pairs_map memory_of _ _ (listed T reg memory_row (λ a ns. a ≡ memory_of ns) (omega arith) (omega arith) (λ i ns u r. memory_read T i ns u r) rs (λ k. 0) s);
    blocks =
        ap (λ (k : ℕ). rows_at block_row T 406 2 k) (n block (omega arith) (omega arith))
        ∙ pairs_map block_data_of _ _ (listed T block block_row (λ a ns. a ≡ block_data_of ns) (omega arith) (omega arith) (λ i ns u r. block_read T i ns u r) rs (λ k. 0) s);
    values =
        ap (λ (k : ℕ). rows_at value_row T 1430 3 k) (n value (omega arith) (omega arith))
        ∙ pairs_map value_data_of _ _ (listed T value value_row (λ a ns. a ≡ value_data_of ns) (omega arith) (omega arith) (λ i ns u r. value_read T i ns u r) rs (λ k. 0) s);
    vgroups =
        subst (λ (k : ℕ). Pairs AlikeGroup (rows_at vgroup_row T 4502 9 k) (map vgroup_of (only vgroup rs))) (sym (n vgroup (omega arith) (omega arith)))
        (groups (rows_at vgroup_row T 4502 9 (length (only vgroup rs))) (only vgroup rs)
        (listed T vgroup vgroup_row (λ a ns. AlikeGroup a (vgroup_of ns)) (omega arith) (omega arith) (λ i ns u r. vgroup_read T i ns u r) rs (λ k. 0) s));
    operands =
        ap (λ (k : ℕ). rows_at operand_row T 6806 4 k) (n operand (omega arith) (omega arith))
        ∙ pairs_map operand_of _ _ (listed T operand operand_row (λ a ns. a ≡ operand_of ns) (omega arith) (omega arith) (λ i ns u r. operand_read T i ns u r) rs (λ k. 0) s);
    hints =
        ap (λ (k : ℕ). rows_at hint_at T 10902 3 k) (n hint (omega arith) (omega arith))
        ∙ pairs_map hint_of _ _ (listed T hint hint_at (λ a ns. a ≡ hint_of ns) (omega arith) (omega arith) (λ i ns u r. hint_read T i ns u r) rs (λ k. 0) s);
    segments = segments_read T rs s (n seg (omega arith) (omega arith)) (n use' (omega arith) (omega arith));
  }
    where
      groups : (xs : List (List Value)) (nss : List (List ℕ)) → Pairs (λ a ns. AlikeGroup a (vgroup_of ns)) xs nss → Pairs AlikeGroup xs (map vgroup_of nss)
      groups [] [] p = tt
      groups [] (b ∷ bs) p = absurd p
      groups (a ∷ xs) [] p = absurd p
      groups (a ∷ xs) (b ∷ bs) p = (p.0, groups xs bs p.1)

-- ---- the options

pub opt_stands : (n : ℕ) → n ≡ table_words → (ns : List ℕ) (rest : List Record) → (fill (blank n) (rec opt ns ∷ rest)).over ≡ false → NoOpt rest → Small ns
    → (j : ℕ) → j < 4 → get_or (fill (blank n) (rec opt ns ∷ rest)).out (10 + j) 0 ≡ get_or ns j 0
unfolding fill bases base_of widths width_of limits limit_of stored_fields stored_of
opt_stands n e ns rest v p s j h =
    let r : Record = rec opt ns in
    let f : Filled = blank n in
    let l : length f.out ≡ table_words = length-replicate n 0 ∙ e in
    let q : cnt f.out 0 < limit_of 0 = room rest f r l v in
    let z : cnt f.out 0 ≡ 0 = zero_count n e 0 in
    let a₁ : 10 + j ≡ 10 + 0 * 4 + j = omega arith in
    let a₂ : 10 + 0 * 4 + j ≡ 10 + cnt f.out 0 * 4 + (0 + j) = omega arith in
    ap (λ (a : ℕ). get_or (fill (put f r) rest).out a 0) a₁
    ∙ kept_opt rest (put f r) (put_long f r l q) v p j (omega arith) h
    ∙ ap (λ (a : ℕ). get_or (put f r).out a 0) a₂
    ∙ put_field f r l q j h s
    ∙ ap (λ (d : ℕ). get_or ns j d) (get_or-replicate n (10 + cnt f.out 0 * 4 + (0 + j)) 0 0 (omega arith))

opt_options : (n : ℕ) → n ≡ table_words → (w : Named) → w ≡ opt → (ns : List ℕ) (rest : List Record) → (fill (blank n) (rec w ns ∷ rest)).over ≡ false → NoOpt rest → Small ns
    → options_row (fill (blank n) (rec w ns ∷ rest)).out 10 ≡ options_of (get_or (only opt (rec w ns ∷ rest)) 0 [])
unfolding only
opt_options n e w i ns rest =
    subst
    (λ (x : Named). (fill (blank n) (rec x ns ∷ rest)).over ≡ false → NoOpt rest → Small ns → options_row (fill (blank n) (rec x ns ∷ rest)).out 10 ≡ options_of (get_or (only opt (rec x ns ∷ rest)) 0 []))
    (sym i)
    (λ v p s. options_read (fill (blank n) (rec opt ns ∷ rest)).out ns (λ j h. opt_stands n e ns rest v p s j h))

-- THE LAW: the table that a sheet's records fill stands for their job, where no kind was over its limit
pub table_job : (n : ℕ) → n ≡ table_words → (rs : List Record) → Sound rs → (fill (blank n) rs).over ≡ false → Alike (raw_job (fill (blank n) rs).out (fixed_layout (fill (blank n) rs).out)) (job_of_records rs)
table_job n e rs k v =
    job_read T rs
    (stands rs (blank n) (λ i. 0) (good_zeros n e) v k.small (λ i a b. sym (zero_count n e i)))
    (λ w a b. fill_count rs (blank n) l v w a b ∙ (let z : cnt (replicate n 0) (word_number w) ≡ 0 = zero_count n e (word_number w) in omega arith))
    (first rs k.small v (opened rs k.order))
  where
    T : List ℕ
    T = (fill (blank n) rs).out

    l : length {A = ℕ} (replicate n 0) ≡ table_words
    l = length-replicate n 0 ∙ e

    first : (xs : List Record) → Rattle.sheet_laws.specs.Stands.SmallRecords xs → (fill (blank n) xs).over ≡ false → Opened xs → options_row (fill (blank n) xs).out 10 ≡ options_of (get_or (only opt xs) 0 [])
    first [] a b c = absurd c
    first (r ∷ rest) a b c = opt_options n e r.word c.0 r.fields rest b c.1 a.0
