-- The loop of `sum_uses`. Assumes nothing.
use mathlib.Core.Path.{◌≡◌, refl, sym, ap, ◌∙◌, subst}
use mathlib.Core.List.{List, ◌∷◌}
use Prim.Native.Nat.{ℕ, ◌+◌, ◌-◌, ◌*◌, ◌≤◌, ◌<◌}
use native.Mathlib.Omega.{arith}
use lib.ListN.{length, get_or}
use lib.Ieee.{Float, binary32, of_bits}
use Rattle.words.specs.RowsAt.{rows_at, rows_at_start, rows_at_more, rows_at_done, length_rows_at}
use Rattle.definition.specs.declared.BlockData.{BlockData}
use Rattle.definition.specs.declared.Options.{Options}
use Rattle.definition.specs.declared.Remat.{Remat}
use Rattle.definition.specs.declared.Use.{Use}
use Rattle.definition.specs.Types.{Job}
use Rattle.definition.specs.Uses.{cost_of}
use Rattle.definition.specs.Entry.{insts_of}
use Rattle.definition.specs.SplitPlacement.{freq_at}
use Rattle.definition.specs.Weights.{scaled, add_cost, sum_uses}
use Rattle.weights.specs.Costs.{SmallScales}
use Rattle.function.specs.Blocks.{Starts, block_row, blocks_at, block_of}
use Rattle.function.specs.BlockLaws.{block_holds, starts_frequency}
use Rattle.job.specs.declared.Layout.{Layout}
use Rattle.job.specs.Layout.{options_row}
use Rattle.job.specs.Job.{job_by, job_of}
use Rattle.uses.specs.Rows.{use_row, uses_at}
use Rattle.vreg_weight.specs.Book.{SmallBook}
use Rattle.vreg_weight.proofs.Reading.{bits_small}
use Rattle.virt_regs.specs.Each.{Each}
use Rattle.vreg_weight.specs.Weighed.{Inside}

-- ---- a job's tables

pub blocks_long : (W : List ℕ) (lay : Layout) → length (job_of W lay).blocks ≡ lay.blocks.n
unfolding job_of job_by
blocks_long W lay = length_rows_at block_row W lay.blocks.at 2 lay.blocks.n

pub blocks_are : (W : List ℕ) (lay : Layout) → blocks_at W lay.blocks.at lay.blocks.n ≡ (job_of W lay).blocks
unfolding job_of job_by
blocks_are W lay = refl

pub options_are : (W : List ℕ) (lay : Layout) → options_row W lay.opts ≡ (job_of W lay).options
unfolding job_of job_by
options_are W lay = refl

pub scales_small : (W : List ℕ) (lay : Layout) (o : Options) → SmallBook W lay → o ≡ (job_of W lay).options → SmallScales o
unfolding job_of job_by options_row
scales_small W lay o s e =
    subst SmallScales (sym e) (record { move_small = bits_small _ s.move; load_small = bits_small _ s.load; indirect_small = bits_small _ s.indirect })

pub adjust_small : (W : List ℕ) (lay : Layout) (o : Options) → SmallBook W lay → o ≡ options_row W lay.opts → o.adjust ≤ 65535
unfolding options_row
adjust_small W lay o s e = let k : o.adjust ≡ get_or W lay.opts 0 = ap (λ (y : Options). y.adjust) e in omega (arith, s.adjust)

pub block_finite : (W K : List ℕ) (lay : Layout) (at b : ℕ) → Starts K at (job_of W lay).blocks → b < lay.blocks.n → get_or K (at + b * 2 + 1) 0 < 0x7f80_0000
block_finite W K lay at b s h = s.finite b (omega (arith, blocks_long W lay))

-- ---- the uses behind the first i

pub record Summing (J : Job) (r : Remat) (O : List ℕ) (at n blocks : ℕ) (sum total : Float) (b i : ℕ) : Type 0 where
  pub there : b < blocks
  pub within : i ≤ n
  pub inside : Inside J (uses_at O at n) → Inside J (uses_at O (at + i * 6) (n - i))
  pub is : Inside J (uses_at O at n) → sum_uses J r sum (uses_at O at n) ≡ sum_uses J r total (uses_at O (at + i * 6) (n - i))

pub summing_start : (J : Job) (r : Remat) (O : List ℕ) (at n blocks : ℕ) (sum : Float) → 0 < blocks → Summing J r O at n blocks sum sum 0 0
unfolding uses_at
summing_start J r O at n blocks sum l =
    record {
      there = l;
      within = omega arith;
      inside = λ p. subst (λ (us : List Use). Inside J us) (sym (rows_at_start use_row O at 6 n)) p;
      is = λ p. ap (λ (us : List Use). sum_uses J r sum us) (sym (rows_at_start use_row O at 6 n));
    }

-- the frequency of the block found
found_frequency : (K : List ℕ) (at n b i : ℕ) (bs : List BlockData) → Starts K at bs → length bs ≡ n → i < insts_of bs
    → ((cs : List BlockData) → Starts K at cs → length cs ≡ n → i < insts_of cs → b ≡ block_of cs i) → freq_at bs i ≡ of_bits binary32 (get_or K (at + b * 2 + 1) 0)
found_frequency K at n b i bs s e h f =
    starts_frequency s (block_holds bs i h) ∙ ap (λ (k : ℕ). of_bits binary32 (get_or K (at + k * 2 + 1) 0)) (sym (f bs s e h))

more : (O : List ℕ) (at n i : ℕ) (u : Use) → i < n → u ≡ use_row O (at + i * 6) → uses_at O (at + i * 6) (n - i) ≡ u ∷ uses_at O (at + (i + 1) * 6) (n - (i + 1))
unfolding uses_at
more O at n i u h e = rows_at_more use_row O at 6 n i h ∙ ap (λ (v : Use). v ∷ rows_at use_row O (at + (i + 1) * 6) 6 (n - (i + 1))) (sym e)

module _ {J : Job} {r : Remat} {O : List ℕ} {at n blocks : ℕ} {sum total : Float} {b i : ℕ} (s : Summing J r O at n blocks sum total b i) where
  pub summing_next : (K : List ℕ) (starts : ℕ) {u : Use} {b' : ℕ} {x w total' : Float} {o : Options} → i < n → Starts K starts J.blocks → length J.blocks ≡ blocks → o ≡ J.options
      → u ≡ use_row O (at + i * 6)
      → (b' < blocks) × ((cs : List BlockData) → Starts K starts cs → length cs ≡ blocks → u.pos.0 < insts_of cs → b' ≡ block_of cs u.pos.0)
      → x ≡ cost_of J u.kind → w ≡ of_bits binary32 (get_or K (starts + b' * 2 + 1) 0) → total' ≡ add_cost total (scaled o r x) w
      → Summing J r O at n blocks sum total' b' (i + 1)
  unfolding Inside Each sum_uses
  summing_next K starts {u} {b'} {x} {w} {total'} {o} h t l eo eu near ex ew added =
      let go : Inside J (uses_at O at n) → (u.pos.0 < insts_of J.blocks) × Inside J (uses_at O (at + (i + 1) * 6) (n - (i + 1))) =
      λ p. subst (λ (us : List Use). Inside J us) (more O at n i u h eu) (s.inside p) in
      record {
        there = near.0;
        within = omega arith;
        inside = λ p. (go p).1;
        is = λ p.
            let f : w ≡ freq_at J.blocks u.pos.0 = ew ∙ sym (found_frequency K starts blocks b' u.pos.0 J.blocks t l (go p).0 near.1) in
            let a : total' ≡ add_cost total (scaled J.options r (cost_of J u.kind)) (freq_at J.blocks u.pos.0) =
            added
            ∙ ap (λ (y : Options). add_cost total (scaled y r x) w) eo
            ∙ ap (λ (y : Float). add_cost total (scaled J.options r y) w) ex
            ∙ ap (λ (y : Float). add_cost total (scaled J.options r (cost_of J u.kind)) y) f in
            s.is p
            ∙ ap (λ (us : List Use). sum_uses J r total us) (more O at n i u h eu)
            ∙ ap (λ (y : Float). sum_uses J r y (uses_at O (at + (i + 1) * 6) (n - (i + 1)))) (sym a);
      }

  pub summing_end : n ≤ i → Inside J (uses_at O at n) → total ≡ sum_uses J r sum (uses_at O at n)
  unfolding uses_at sum_uses
  summing_end h p = sym (s.is p ∙ ap (λ (us : List Use). sum_uses J r total us) (rows_at_done use_row O at 6 n i h))
