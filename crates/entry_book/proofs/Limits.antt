-- Test 2 on the counts of a layout. Assumes nothing.
use Prim.Native.Nat.{ℕ, ◌≤◌}
use mathlib.Core.Path.{◌≡◌, refl, sym, ap, ◌∙◌}
use mathlib.Core.Bool.{Bool, true, false, ◌&&◌}
use mathlib.Core.List.{List, [], ◌∷◌, ◌++◌}
use lib.Dec.{leb}
use lib.ListN.{get_or}
use borrow.Author.Tests.{leb-true}
use Rattle.definition.specs.Types.{Job}
use Rattle.definition.specs.Limits.{max_insts, max_blocks, max_values, max_vgroups, max_operands, max_hints, max_segments, max_uses, max_classes, max_banks, max_regs, max_adjust}
use Rattle.definition.specs.Entry.{conj, insts_of, insts, limits_ok}
use Rattle.definition.proofs.Entries.{and_both, conj_all}
use Rattle.function.specs.Blocks.{blocks_at}
use Rattle.job.specs.declared.Layout.{Layout}
use Rattle.job.specs.Layout.{options_row}
use Rattle.job.specs.Job.{job_by, raw_job}
use Rattle.job_shape.specs.Shape.{counts_ok}
use Rattle.job_shape.proofs.Laws.{Counted, raw_counted}
use Rattle.entry_book.specs.Limits.{function_counts, other_counts, Limited}
use Rattle.job_shape.proofs.Tests.{and_true, and_false, conj_append}

-- ---- the tests by their numbers: i instructions, k the adjust

abbrev tests_by : ℕ → ℕ → Layout → List Bool
tests_by i k lay = leb i max_insts ∷ (function_counts lay ++ (other_counts lay ++ (leb k max_adjust ∷ [])))

limits_by : (job : Job) (lay : Layout) (i k : ℕ) → Counted job lay → insts job ≡ i → job.options.adjust ≡ k → limits_ok job ≡ conj (tests_by i k lay)
unfolding limits_ok insts
limits_by job lay i k q a b = λ x.
    conj
    (leb (a x) max_insts
    ∷ leb (q.blocks x) max_blocks
    ∷ leb (q.values x) max_values
    ∷ leb (q.vgroups x) max_vgroups
    ∷ leb (q.operands x) max_operands
    ∷ leb (q.hints x) max_hints
    ∷ leb (q.segments x) max_segments
    ∷ leb (q.uses x) max_uses
    ∷ leb (q.classes x) max_classes
    ∷ leb (q.banks x) max_banks
    ∷ leb (q.memory x) max_regs
    ∷ leb (b x) max_adjust
    ∷ [])

raw_insts : (W : List ℕ) (lay : Layout) → insts (raw_job W lay) ≡ insts_of (blocks_at W lay.blocks.at lay.blocks.n)
unfolding insts raw_job job_by
raw_insts W lay = refl

raw_adjust : (W : List ℕ) (lay : Layout) → (raw_job W lay).options.adjust ≡ get_or W lay.opts 0
unfolding raw_job job_by options_row
raw_adjust W lay = refl

module _ (W : List ℕ) (lay : Layout) (h : counts_ok W lay ≡ true) where
  abbrev insts_in : ℕ
  insts_in = insts_of (blocks_at W lay.blocks.at lay.blocks.n)

  -- the tests but that of the instructions
  abbrev others : Bool
  others = conj (function_counts lay) && (conj (other_counts lay) && leb (get_or W lay.opts 0) max_adjust)

  raw_limits : limits_ok (raw_job W lay) ≡ conj (tests_by insts_in (get_or W lay.opts 0) lay)
  raw_limits = limits_by (raw_job W lay) lay insts_in (get_or W lay.opts 0) (raw_counted W lay h) (raw_insts W lay) (raw_adjust W lay)

  split : conj (tests_by insts_in (get_or W lay.opts 0) lay) ≡ leb insts_in max_insts && others
  unfolding conj
  split =
      ap (λ (b : Bool). leb insts_in max_insts && b)
      (conj_append (function_counts lay) (other_counts lay ++ (leb (get_or W lay.opts 0) max_adjust ∷ []))
      ∙ ap (λ (b : Bool). conj (function_counts lay) && b)
      (conj_append (other_counts lay) (leb (get_or W lay.opts 0) max_adjust ∷ [])
      ∙ ap (λ (b : Bool). conj (other_counts lay) && b) (and_true (leb (get_or W lay.opts 0) max_adjust))))

  -- the tests in the code's order
  pub limits_are : ((conj (function_counts lay) && conj (other_counts lay)) && leb (get_or W lay.opts 0) max_adjust) && leb insts_in max_insts ≡ limits_ok (raw_job W lay)
  limits_are = sym (raw_limits ∙ split ∙ turned (leb insts_in max_insts) (conj (function_counts lay)) (conj (other_counts lay)) (leb (get_or W lay.opts 0) max_adjust))
    where
      turned : (i a b k : Bool) → i && (a && (b && k)) ≡ ((a && b) && k) && i
      turned true true true k = sym (and_true k)
      turned true true false k = refl
      turned true false b k = refl
      turned false true true k = sym (and_false k)
      turned false true false k = refl
      turned false false b k = refl

  -- what test 2 gives
  pub limited : limits_ok (raw_job W lay) ≡ true → Limited W lay
  limited e =
      let a = conj_all (tests_by insts_in (get_or W lay.opts 0) lay) (sym raw_limits ∙ e) in
      record {
        insts = leb-true _ _ a.0;
        blocks = leb-true _ _ a.1.0;
        values = leb-true _ _ a.1.1.0;
        vgroups = leb-true _ _ a.1.1.1.0;
        operands = leb-true _ _ a.1.1.1.1.0;
        hints = leb-true _ _ a.1.1.1.1.1.0;
        segments = leb-true _ _ a.1.1.1.1.1.1.0;
        uses = leb-true _ _ a.1.1.1.1.1.1.1.0;
        classes = leb-true _ _ a.1.1.1.1.1.1.1.1.0;
        banks = leb-true _ _ a.1.1.1.1.1.1.1.1.1.0;
        regs = leb-true _ _ a.1.1.1.1.1.1.1.1.1.1.0;
        adjust = leb-true _ _ a.1.1.1.1.1.1.1.1.1.1.1.0;
      }

pub few_blocks : (lay : Layout) (b : Bool) → conj (function_counts lay) && b ≡ true → lay.blocks.n ≤ 512
few_blocks lay b e = leb-true _ _ (conj_all (function_counts lay) (and_both _ b e).0).0
