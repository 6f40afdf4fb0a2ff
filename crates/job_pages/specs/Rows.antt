-- The words of a row are the fields of its record. Assumes nothing.
use Rattle.std.specs.Prelude.{◌≡◌, List, ℕ, zero, suc, ◌+◌, ◌-◌, ◌*◌, ◌≤◌, ◌<◌, take, drop}
use Rattle.std.proofs.Math.Path.{refl, sym, ap}
use Rattle.std.proofs.Common.{◌∙◌, arith, length-drop, length-take-le, get_or-take, get_or-drop, ext_get_or}
use Rattle.std.proofs.Math.ListN.{length, get_or}
use Rattle.definition.specs.JobSheet.{Word, vgroup, use', end, word_number, kind_fields}
use Rattle.sheet_rules.specs.Places.{base_of, width_of, limit_of, stored_fields, stored_of, row_at, table_words}
use Rattle.sheet_laws.specs.Regions.{first_of, sizes, row_is, row_end}
use Rattle.sheet_laws.specs.Stands.{Row}
use Rattle.sheet_job.specs.Groups.{ups_few}
use Rattle.register_sheet.specs.Typed.{use_length}
use Rattle.job_pages.specs.Cursors.{field_count, first_field}
use Rattle.job_pages.specs.Left.{Fair}

-- the n words from word a on, by what each is
part_is : (T ns : List ℕ) (a n : ℕ) → length ns ≡ n → a + n ≤ length T
    → ((j : ℕ) → j < n → get_or T (a + j) 0 ≡ get_or ns j 0) → take n (drop a T) ≡ ns
part_is T ns a n l h f =
    let d : length (drop a T) ≡ length T - a = length-drop a T in
    let k : length (take n (drop a T)) ≡ n = length-take-le n (drop a T) (omega (arith, d, h)) in
    ext_get_or 0 (take n (drop a T)) ns (k ∙ sym l)
    (λ i g.
    let p : i < n = omega (arith, k, g) in
    get_or-take n (drop a T) i 0 p ∙ get_or-drop a T i 0 ∙ f i p)

-- where row i of a kind begins, and where its fields do
abbrev row_start : Word → ℕ → ℕ
row_start w i = row_at (word_number w) i

-- the fields of the row, n of them, and where they stand
pub record Fields (T : List ℕ) (w : Word) (i : ℕ) (ns : List ℕ) : Type 0 where
  pub within : first_field (word_number w) (row_start w i) + field_count T (word_number w) (row_start w i) ≤ table_words
  pub few : field_count T (word_number w) (row_start w i) ≤ 8
  pub are : take (field_count T (word_number w) (row_start w i)) (drop (first_field (word_number w) (row_start w i)) T)
      ≡ ns

-- as many numbers as a use of the kind has
use_numbers_lem : (k : ℕ) → k ≤ 9 → use_length k ≡ 2 + kind_fields k
unfolding use_length
use_numbers_lem (suc (suc (suc (suc (suc (suc (suc (suc (suc (suc k)))))))))) h = absurd (omega (arith, h))
use_numbers_lem k h = refl

use_few : (k : ℕ) → k ≤ 9 → use_length k ≤ 6
unfolding use_length
use_few (suc (suc (suc (suc (suc (suc (suc (suc (suc (suc k)))))))))) h = absurd (omega (arith, h))
use_few k h = omega arith

module _ (T : List ℕ) (long : length T ≡ table_words) (i : ℕ) (ns : List ℕ) (u : ℕ) where
  -- n of the fields, from word a on
  module _ (k : ℕ) (hk : k ≤ 10) (r : Row T k i ns u) (a n : ℕ) (ea : a ≡ row_at k i + first_of k) (l : length ns ≡ n)
      (m : n ≤ stored_of k) where
    at_start : row_at k i ≡ base_of k + i * width_of k
    at_start = row_is k i r.within

    in_table : a + n ≤ table_words
    in_table =
        let s = sizes k (omega arith) in
        let e : i * width_of k + width_of k ≤ limit_of k * width_of k = go (width_of k) (limit_of k) r.within in
        omega (arith, ea, at_start, s.fits, s.end, e, m)
      where
        go : (w m' : ℕ) → i < m' → i * w + w ≤ m' * w
        go zero m' h = omega (arith, native.Mathlib.Nat.mul-zero i, native.Mathlib.Nat.mul-zero m')
        go (suc w) m' h =
            let q : i * suc w + w < m' * suc w = row_end (suc w) i m' w h (omega arith) in
            omega (arith, q)

    fields_are : take n (drop a T) ≡ ns
    fields_are =
        part_is T ns a n l (omega (arith, in_table, long))
        (λ j h.
        let e : a + j ≡ base_of k + i * width_of k + (first_of k + j) = omega (arith, ea, at_start) in
        ap (λ (x : ℕ). get_or T x 0) e ∙ r.fields j (omega (arith, h, m)))

  pub first_word : (k : ℕ) → k ≤ 10 → (r : Row T k i ns u) → first_of k ≡ 0 → 0 < stored_of k
      → get_or T (row_at k i) 0 ≡ get_or ns 0 0
  first_word k hk r z m =
      let e : row_at k i ≡ base_of k + i * width_of k + (first_of k + 0) = omega (arith, row_is k i r.within, z) in
      ap (λ (x : ℕ). get_or T x 0) e ∙ r.fields 0 m

  -- a kind whose records all have the same number of fields
  plain_fields : (w : Word) → word_number w ≤ 10 → Row T (word_number w) i ns u
      → first_field (word_number w) (row_start w i) ≡ row_at (word_number w) i + first_of (word_number w)
      → field_count T (word_number w) (row_start w i) ≡ stored_of (word_number w)
      → length ns ≡ stored_of (word_number w) → Fields T w i ns
  plain_fields w h r ea en l =
      let m : length ns ≤ stored_of (word_number w) = omega (arith, l) in
      let c : length ns ≡ field_count T (word_number w) (row_start w i) = l ∙ sym en in
      let f : field_count T (word_number w) (row_start w i) ≤ stored_of (word_number w) = omega (arith, en) in
      record {
        within = in_table (word_number w) h r _ _ ea c f;
        few = omega (arith, f, (sizes (word_number w) (omega arith)).few);
        are = fields_are (word_number w) h r _ _ ea c f;
      }

  -- THE LAW: the words that are written of a row are its record's fields
  pub row_fields : (w : Word) → word_number w ≤ 10 → Row T (word_number w) i ns u → Fair w ns → Fields T w i ns
  unfolding field_count first_field stored_of stored_fields
  row_fields end h r f = absurd (omega (arith, h))
  row_fields vgroup h r f =
      let e : row_at 6 i ≡ base_of 6 + i * width_of 6 + 0 = omega (arith, row_is 6 i r.within) in
      let g : length ns ≤ 8 = f.grouped in
      let c : length ns ≡ get_or T (row_at 6 i) 0 =
      omega (arith, ap (λ (x : ℕ). get_or T x 0) e ∙ r.members refl, ups_few ns 1 (omega (arith, g))) in
      let m : get_or T (row_at 6 i) 0 ≤ 8 = omega (arith, c, g) in
      record {
        within = in_table 6 (omega arith) r (row_at 6 i + 1) (get_or T (row_at 6 i) 0) refl c m;
        few = m;
        are = fields_are 6 (omega arith) r (row_at 6 i + 1) (get_or T (row_at 6 i) 0) refl c m;
      }
  row_fields use' h r f =
      let e : get_or T (row_at 10 i) 0 ≡ get_or ns 0 0 = first_word 10 (omega arith) r refl (omega arith) in
      let k : get_or ns 0 0 ≤ 9 = f.chosen in
      let l : length ns ≡ 2 + kind_fields (get_or ns 0 0) = f.long in
      let c : length ns ≡ use_length (get_or T (row_at 10 i) 0) =
      l ∙ sym (ap use_length e ∙ use_numbers_lem (get_or ns 0 0) k) in
      let m : use_length (get_or T (row_at 10 i) 0) ≤ 6 = use_few (get_or T (row_at 10 i) 0) (omega (arith, e, k)) in
      record {
        within = in_table 10 (omega arith) r (row_at 10 i) (use_length (get_or T (row_at 10 i) 0)) (omega arith) c m;
        few = omega (arith, m);
        are = fields_are 10 (omega arith) r (row_at 10 i) (use_length (get_or T (row_at 10 i) 0)) (omega arith) c m;
      }
  row_fields w h r f = plain_fields w h r (omega arith) refl f.long
