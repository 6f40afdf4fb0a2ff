-- What preparing the work slice leaves in it. Assumes nothing.
use Prim.Native.Nat.{ℕ, ◌+◌, ◌*◌, ◌≤◌, ◌<◌}
use native.Mathlib.Omega.{arith}
use mathlib.Core.Path.{◌≡◌, sym, ap, subst, ◌∙◌}
use mathlib.Core.Bool.{true}
use mathlib.Core.List.{List}
use lib.ListN.{length, get_or, replicate, length-replicate, get_or-replicate}
use lib.Ieee.{binary32, of_bits}
use Rattle.words.specs.Parts.{splice, length_splice, get_or_splice_before, get_or_splice_in}
use Rattle.words.specs.RowsAt.{length_rows_at}
use Rattle.words.specs.Words.{words_of}
use Rattle.words.specs.Laws.{words_small}
use Rattle.definition.specs.declared.BlockData.{BlockData}
use Rattle.definition.specs.Entry.{every, block_ok, function_ok, function_tests, entry_tests, entry}
use Rattle.definition.proofs.Entries.{conj_all, lowest_none}
use Rattle.function.specs.Blocks.{block_row, blocks_at, start_words, Starts}
use Rattle.function.proofs.Made.{length_start_words, starts_made}
use Rattle.values.proofs.Rows.{long}
use Rattle.values.proofs.Store.{chained_kept}
use Rattle.values.specs.OperandRows.{operands_at}
use Rattle.job.specs.declared.Layout.{Layout}
use Rattle.job.specs.Job.{raw_job}
use Rattle.entry_function.proofs.Tables.{raw_blocks}
use Rattle.job.specs.declared.work.WorkLayout.{WorkLayout}
use Rattle.job.specs.Regions.{max_work, Regions, chains_in}
use Rattle.job.proofs.Parts.{heads_are}
use Rattle.entry.specs.Accepted.{Accepted, Prepared, prepared}

-- the blocks of an accepted job pass
pub blocks_pass : (W : List ℕ) (lay : Layout) → function_ok (raw_job W lay) ≡ true → every block_ok (blocks_at W lay.blocks.at lay.blocks.n) ≡ true
unfolding function_ok
blocks_pass W lay e = subst (λ (bs : List BlockData). every block_ok bs ≡ true) (raw_blocks W lay) (conj_all (function_tests (raw_job W lay)) e).0

-- a table of starts stays where its words stay
starts_kept : (K X : List ℕ) (at : ℕ) (bs : List BlockData) → ((j : ℕ) → j < length bs * 2 + 2 → get_or X (at + j) 0 ≡ get_or K (at + j) 0) → Starts K at bs → Starts X at bs
starts_kept K X at bs f h =
    record {
      first = λ j l. f (j * 2) (omega arith) ∙ h.first j l;
      bits = λ j l. ap (λ (x : ℕ). of_bits binary32 x) (odd j l) ∙ h.bits j l;
      finite = λ j l. omega (arith, odd j l, h.finite j l);
      filled = h.filled;
    }
  where
    odd : (j : ℕ) → j < length bs → get_or X (at + j * 2 + 1) 0 ≡ get_or K (at + j * 2 + 1) 0
    odd j l = let a : at + (j * 2 + 1) ≡ at + j * 2 + 1 = omega arith in rw a at (f (j * 2 + 1) (omega arith))

module _ (W K : List ℕ) (lay : Layout) (wl : WorkLayout) (n : ℕ) (r : Regions max_work lay n wl) (room : max_work ≤ length K) where
  abbrev zeros : ℕ → List ℕ
  zeros k = replicate k 0

  abbrev table : List ℕ
  table = start_words W lay.blocks.at lay.blocks.n

  abbrev A : List ℕ
  A = splice K wl.mapping (zeros lay.operands.n)

  abbrev B : List ℕ
  B = splice A wl.starts table

  abbrev C : List ℕ
  C = splice B wl.marks (zeros lay.uses.n)

  -- each part has room
  order : (wl.mapping + lay.operands.n ≤ length K) × (wl.starts + lay.blocks.n * 2 + 2 ≤ length K) × (wl.marks + lay.uses.n ≤ length K)
  order =
      (omega (arith, r.mapping, r.starts, r.marks, r.turned), omega (arith, r.starts, r.marks, r.turned), omega (arith, r.marks, r.turned))

  fits_a : wl.mapping + length (zeros lay.operands.n) ≤ length K
  fits_a = omega (arith, order.0, length-replicate {A = ℕ} lay.operands.n 0)

  long_a : length A ≡ length K
  long_a = length_splice K wl.mapping (zeros lay.operands.n) fits_a

  fits_b : wl.starts + length table ≤ length A
  fits_b = omega (arith, order.1, long_a, length_start_words W lay.blocks.at lay.blocks.n)

  long_b : length B ≡ length A
  long_b = length_splice A wl.starts table fits_b

  fits_c : wl.marks + length (zeros lay.uses.n) ≤ length B
  fits_c = omega (arith, order.2, long_a, long_b, length-replicate {A = ℕ} lay.uses.n 0)

  after_c : (j : ℕ) → j < wl.marks → get_or C j 0 ≡ get_or B j 0
  after_c j h = get_or_splice_before B wl.marks (zeros lay.uses.n) fits_c j 0 h

  after_b : (j : ℕ) → j < wl.starts → get_or C j 0 ≡ get_or A j 0
  after_b j h = after_c j (omega (arith, r.starts)) ∙ get_or_splice_before A wl.starts table fits_b j 0 h

  -- the words before the mapping stay
  pub before_stay : (j : ℕ) → j < wl.mapping → get_or C j 0 ≡ get_or K j 0
  before_stay j h = after_b j (omega (arith, r.mapping)) ∙ get_or_splice_before K wl.mapping (zeros lay.operands.n) fits_a j 0 h

  pub mapping_clear : (k : ℕ) → k < lay.operands.n → get_or C (wl.mapping + k) 0 ≡ 0
  mapping_clear k h =
      after_b (wl.mapping + k) (omega (arith, r.mapping))
      ∙ get_or_splice_in K wl.mapping (zeros lay.operands.n) fits_a k 0 (omega (arith, length-replicate {A = ℕ} lay.operands.n 0))
      ∙ get_or-replicate lay.operands.n k 0 0 h

  pub marks_clear : (k : ℕ) → k < lay.uses.n → get_or C (wl.marks + k) 0 ≡ 0
  marks_clear k h =
      get_or_splice_in B wl.marks (zeros lay.uses.n) fits_c k 0 (omega (arith, length-replicate {A = ℕ} lay.uses.n 0)) ∙ get_or-replicate lay.uses.n k 0 0 h

  pub table_made : ((i : ℕ) → get_or W i 0 < 4294967296) → every block_ok (blocks_at W lay.blocks.at lay.blocks.n) ≡ true → Starts C wl.starts (blocks_at W lay.blocks.at lay.blocks.n)
  table_made small ok =
      starts_kept B C wl.starts (blocks_at W lay.blocks.at lay.blocks.n)
      (λ j h. after_c (wl.starts + j) (omega (arith, r.starts, length_rows_at block_row W lay.blocks.at 2 lay.blocks.n)))
      (starts_made A W wl.starts lay.blocks.at lay.blocks.n (omega (arith, order.1, long_a)) small ok)

module _ {s K : List ℕ} {lay : Layout} {wl : WorkLayout} {n : ℕ} (a : Accepted s K lay wl n) (room : max_work ≤ length K) where
  abbrev X : List ℕ
  X = prepared (words_of s) K lay wl

  still_accepted : Accepted s X lay wl n
  still_accepted =
      record {
        shaped = a.shaped;
        limited = a.limited;
        booked = a.booked;
        accepted = a.accepted;
        same = a.same;
        insts = a.insts;
        regions = a.regions;
        index =
            chained_kept K X (chains_in lay wl) (operands_at (words_of s) lay.operands.at lay.operands.n)
            (λ i h. before_stay (words_of s) K lay wl n a.regions room (wl.heads + i) (omega (arith, a.regions.heads, a.regions.nexts, heads_are a.regions, h)))
            (λ k h. before_stay (words_of s) K lay wl n a.regions room (wl.nexts + k) (omega (arith, a.regions.nexts, long (words_of s) lay.operands.at lay.operands.n, h)))
            a.index;
        under = a.under;
        single = a.single;
        rising = a.rising;
        sorted = a.sorted;
      }

  now_prepared : ((i : ℕ) → get_or s i 0 < 256) → Prepared (words_of s) X lay wl
  unfolding entry
  now_prepared bytes =
      let t = lowest_none (entry_tests (raw_job (words_of s) lay)) a.accepted in
      record {
        mapping = mapping_clear (words_of s) K lay wl n a.regions room;
        starts = table_made (words_of s) K lay wl n a.regions room (words_small s bytes) (blocks_pass (words_of s) lay t.1.1.0);
        marks = marks_clear (words_of s) K lay wl n a.regions room;
      }

  -- the work words after the three writes
  pub prepared_is : {P Q R : List ℕ} → P ≡ splice K wl.mapping (replicate lay.operands.n 0) → Q ≡ splice P wl.starts (start_words (words_of s) lay.blocks.at lay.blocks.n) → R ≡ splice Q wl.marks (replicate lay.uses.n 0)
      → ((i : ℕ) → get_or s i 0 < 256) → (R ≡ X) × (Accepted s R lay wl n × Prepared (words_of s) R lay wl)
  prepared_is {P} {Q} {R} e f g bytes =
      let q : Q ≡ splice (splice K wl.mapping (replicate lay.operands.n 0)) wl.starts (start_words (words_of s) lay.blocks.at lay.blocks.n) =
      f ∙ ap (λ (ws : List ℕ). splice ws wl.starts (start_words (words_of s) lay.blocks.at lay.blocks.n)) e in
      let x : R ≡ X = g ∙ ap (λ (ws : List ℕ). splice ws wl.marks (replicate lay.uses.n 0)) q in
      (x, subst (λ (ws : List ℕ). Accepted s ws lay wl n × Prepared (words_of s) ws lay wl) (sym x) (still_accepted, now_prepared bytes))
