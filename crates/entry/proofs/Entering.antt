-- What a job that passes all tests leaves. Assumes nothing.
use Prim.Native.Nat.{ℕ, ◌/◌, ◌≤◌, ◌<◌}
use native.Mathlib.Omega.{arith}
use mathlib.Core.Path.{◌≡◌, refl, sym, ap, subst, ◌∙◌}
use mathlib.Core.Bool.{Bool, true, false, not, ◌&&◌}
use mathlib.Core.List.{List}
use mathlib.Core.Option.{none, some}
use lib.Dec.{leb, ltb}
use Rattle.std.specs.Prelude.{Result, Ok, Err, IfOk, IsErrAnd}
use lib.ListN.{length, get_or}
use borrow.Author.Tests.{not-false}
use Rattle.words.specs.RowsAt.{rows_at}
use Rattle.words.specs.Words.{words_of}
use Rattle.definition.specs.declared.Operand.{Operand}
use Rattle.definition.specs.declared.Refusal.{Refusal}
use Rattle.definition.specs.declared.Hint.{Hint}
use Rattle.definition.specs.Types.{Job}
use Rattle.definition.specs.Entry.{every, insts_of, insts, apart, same_place, chained, not_after, limits_ok, function_ok, hints_ok, entry_tests, entry}
use Rattle.definition.proofs.Entries.{and_both, lowest_none}
use Rattle.entry_function.proofs.Tables.{raw_insts}
use Rattle.function.specs.Blocks.{blocks_at}
use Rattle.hints.specs.Hints.{hint_at}
use Rattle.values.specs.declared.operands.Chains.{Chains}
use Rattle.values.specs.OperandRows.{operands_at}
use Rattle.values.specs.Chains.{Under, Chained, operands_of}
use Rattle.values.proofs.Only.{under_of}
use Rattle.job.specs.declared.Layout.{Layout}
use Rattle.job.specs.Layout.{Fits}
use Rattle.job.specs.Job.{raw_job}
use Rattle.job_shape.specs.Shape.{Shaped}
use Rattle.job_shape.proofs.Tests.{passed}
use Rattle.entry_book.specs.Limits.{Limited}
use Rattle.entry_book.proofs.Limits.{limited}
use Rattle.entry_book.proofs.Book.{book_bytes}
use Rattle.entry_function.specs.Counts.{Indexes}
use Rattle.entry_function.proofs.Tables.{raw_operands, raw_hints, limits_within}
use Rattle.entry_function.proofs.Passed.{passed_apart, passed_operands}
use Rattle.entry_uses.specs.KindTests.{Ready}
use Rattle.entry_uses.proofs.Typed.{raw_is_job}
use Rattle.job.specs.declared.work.WorkLayout.{WorkLayout}
use Rattle.job.specs.Regions.{max_work, Regions, chains_in}
use Rattle.job.proofs.Parts.{heads_are}
use Rattle.entry.specs.Number.{refusal_in}
use Rattle.entry.specs.Accepted.{Accepted}
use Rattle.entry.proofs.Counts.{rising}

-- what holds, holds where an answer is a job's
pub if_ok : {A E : Type 0} {P : Type 0} (r : Result A E) → P → IfOk r (λ a. P)
if_ok (Ok a) p = p
if_ok (Err e) p = tt

-- a refusal that is passed on
pub err_kept : {A : Type 0} (r : Result A Refusal) (e : Refusal) → IsErrAnd r (λ x. x ≡ e) → refusal_in r ≡ some e
err_kept (Ok a) e h = absurd h
err_kept (Err x) e h = ap some h

-- test 2 is passed
pub few : {s : List ℕ} {lay : Layout} {t : Bool} → Shaped s lay → not t ≡ false → t ≡ limits_ok (raw_job (words_of s) lay) → Limited (words_of s) lay
few {s} {lay} b h e = limited (words_of s) lay b.counts (passed h e)

-- test 4 is passed, and its call left the work slice as long as it was
pub ready : {N a b : ℕ} {W K : List ℕ} {lay : Layout} {c : Chains} {t : Bool} → Fits N lay → limits_ok (raw_job W lay) ≡ true → Indexes (a / 4) W lay c → b ≡ a → not t ≡ false → t ≡ function_ok (raw_job W lay)
    → (t ≡ true → Chained K c (operands_of W c)) → Ready N (b / 4) W K lay c
ready {N} {a} {b} {W} {K} {lay} {c} {t} f l i d h e k =
    record {
      fits = f;
      within = limits_within W lay l;
      index = subst (λ (n : ℕ). Indexes (n / 4) W lay c) (sym d) i;
      chained = k (not-false t h);
      passed = passed h e;
    }

-- the index that the work slice has room for
pub indexes : {W : List ℕ} {lay : Layout} {wl : WorkLayout} {c : Chains} {w n : ℕ} → max_work ≤ w → n ≡ insts_of (blocks_at W lay.blocks.at lay.blocks.n) → Regions max_work lay n wl → c ≡ chains_in lay wl
    → Indexes w W lay c
indexes {W} {lay} {wl} {c} {w} {n} h e r q =
    subst (λ (x : Chains). Indexes w W lay x) (sym q)
    (record {
      at = refl;
      count = refl;
      insts = heads_are r ∙ e ∙ sym (raw_insts W lay);
      apart = omega (arith, r.heads);
      work = omega (arith, r.nexts, r.mapping, r.starts, r.marks, r.turned);
    })

-- the index as the work slice's parts give it
indexed : (W K : List ℕ) (lay : Layout) (wl : WorkLayout) (c : Chains) → c ≡ chains_in lay wl → Chained K c (operands_of W c) → Chained K (chains_in lay wl) (operands_at W lay.operands.at lay.operands.n)
indexed W K lay wl c q h = subst (λ (x : Chains). Chained K x (operands_of W x)) q h

module _ (s : List ℕ) (lay : Layout) (b : Shaped s lay) (none_failed : entry (raw_job (words_of s) lay) ≡ none) where
  abbrev W : List ℕ
  W = words_of s

  abbrev job : Job
  job = raw_job (words_of s) lay

  abbrev os : List Operand
  os = operands_at W lay.operands.at lay.operands.n

  hints_sorted : hints_ok job ≡ true → chained not_after (rows_at hint_at W lay.hints.at 3 lay.hints.n) ≡ true
  unfolding hints_ok
  hints_sorted e = subst (λ (hs : List Hint). chained not_after hs ≡ true) (raw_hints W lay) (and_both (every (λ (h : Hint). ltb h.value.0 (length job.values) && leb h.inst.0 (insts job)) job.hints) _ e).1

  operands_single : function_ok job ≡ true → apart same_place os ≡ true
  operands_single e = subst (λ (xs : List Operand). apart same_place xs ≡ true) (raw_operands W lay) (passed_apart job e)

  operands_under : (n : ℕ) → n ≡ insts_of (blocks_at W lay.blocks.at lay.blocks.n) → function_ok job ≡ true → Under n os
  operands_under n d e =
      subst (λ (k : ℕ). Under k os) (raw_insts W lay ∙ sym d) (subst (λ (xs : List Operand). Under (insts job) xs) (raw_operands W lay) (under_of job (passed_operands job e)))

  pub accepted : (K : List ℕ) (wl : WorkLayout) (n : ℕ) → ((i : ℕ) → get_or s i 0 < 256) → n ≡ insts_of (blocks_at W lay.blocks.at lay.blocks.n) → Regions max_work lay n wl
      → (c : Chains) → c ≡ chains_in lay wl → Chained K c (operands_of W c) → Accepted s K lay wl n
  unfolding entry
  accepted K wl n bytes d r c q h =
      let a = lowest_none (entry_tests job) none_failed in
      record {
        shaped = b;
        limited = limited W lay b.counts a.0;
        booked = book_bytes s lay bytes a.1.0;
        accepted = none_failed;
        same = raw_is_job W lay a.1.1.0 a.1.1.1.1.1.0;
        insts = d;
        regions = r;
        index = indexed W K lay wl c q h;
        under = operands_under n d a.1.1.0;
        single = operands_single a.1.1.0;
        rising = rising W lay b.counts;
        sorted = hints_sorted a.1.1.1.0;
      }
