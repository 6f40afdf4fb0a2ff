-- Laws that the code is proved by. Assumes nothing.
use mathlib.Core.Path.{◌≡◌, sym, ap, ◌∙◌, subst}
use mathlib.Core.Bool.{Bool, false}
use mathlib.Core.List.{List}
use Prim.Native.Nat.{ℕ, suc, ◌+◌, ◌*◌, ◌≤◌, ◌<◌}
use native.Mathlib.Nat.{mul-one}
use native.Mathlib.Omega.{arith}
use lib.Dec.{T}
use lib.ListN.{length, get_or}
use lib.Ieee.{Float, binary32, of_bits}
use borrow.Author.Tests.{le-leb}
use Rattle.words.specs.RowsAt.{rows_at, get_or_rows_at, length_rows_at}
use Rattle.definition.specs.declared.PhysReg.{PhysReg}
use Rattle.definition.specs.declared.RegClass.{RegClass}
use Rattle.definition.specs.declared.Value.{Value}
use Rattle.definition.specs.declared.ClassData.{ClassData}
use Rattle.definition.specs.declared.ValueData.{ValueData}
use Rattle.definition.specs.declared.BlockData.{BlockData}
use Rattle.definition.specs.declared.Remat.TheVariants.{Never}
use Rattle.definition.specs.RegInfo.{no_class, no_value, class_at, value_at}
use Rattle.definition.specs.Entry.{insts_of, plain, small}
use Rattle.std.proofs.Math.ListN.{get_or-eq_default}
use Rattle.weights.proofs.Bits.{small_test, bits_plain}
use Rattle.reginfo.specs.Rows.{class_row, memory_row, classes_at}
use Rattle.values.specs.ValueRows.{value_row, values_at}
use Rattle.function.specs.Blocks.{Starts, block_of, start_of}
use Rattle.function.specs.BlockLaws.{block_found}
use Rattle.job.specs.declared.Layout.{Layout}
use Rattle.job.specs.Job.{job_by, job_of}
use Rattle.vreg_weight.specs.Book.{SmallBook}

-- small bits, a small number
pub bits_small : (b : ℕ) → b ≤ 0x4980_0000 → T (small (of_bits binary32 b))
bits_small b h = subst T (small_test b (omega arith)) (subst T (sym (le-leb b 0x4980_0000 h)) tt)

module _ (W : List ℕ) (lay : Layout) where
  -- ---- classes
  pub class_known : (c : RegClass) (k : ℕ) (d : ClassData) → k ≡ c.0 → k < lay.classes.n → SmallBook W lay → d ≡ class_row W (lay.classes.at + k * 4)
      → (d ≡ class_at (job_of W lay) c) × T (small d.cost)
  unfolding class_at job_of job_by classes_at class_row
  class_known c k d e l s h = (
    h ∙ sym (get_or_rows_at class_row W lay.classes.at 4 lay.classes.n k no_class l) ∙ ap (λ (j : ℕ). get_or (rows_at class_row W lay.classes.at 4 lay.classes.n) j no_class) e,
    subst (λ (x : ClassData). T (small x.cost)) (sym h) (bits_small _ (s.costs k l)),
  )

  pub class_past : (c : RegClass) (k : ℕ) → k ≡ c.0 → lay.classes.n ≤ k → no_class ≡ class_at (job_of W lay) c
  unfolding class_at job_of job_by classes_at
  class_past c k e l =
      sym (get_or-eq_default (rows_at class_row W lay.classes.at 4 lay.classes.n) no_class {n = c.0} (omega (arith, length_rows_at class_row W lay.classes.at 4 lay.classes.n)))

  -- ---- registers
  pub memory_known : (r : PhysReg) (k : ℕ) (b : Bool) → k ≡ r.0 → k < lay.regs.n → b ≡ memory_row W (lay.regs.at + k) → b ≡ get_or (job_of W lay).memory r.0 false
  unfolding job_of job_by
  memory_known r k b e l h =
      h
      ∙ ap (λ (j : ℕ). memory_row W (lay.regs.at + j)) (sym (mul-one k))
      ∙ sym (get_or_rows_at memory_row W lay.regs.at 1 lay.regs.n k false l)
      ∙ ap (λ (j : ℕ). get_or (rows_at memory_row W lay.regs.at 1 lay.regs.n) j false) e

  pub memory_past : (r : PhysReg) (k : ℕ) → k ≡ r.0 → lay.regs.n ≤ k → false ≡ get_or (job_of W lay).memory r.0 false
  unfolding job_of job_by
  memory_past r k e l =
      sym (get_or-eq_default (rows_at memory_row W lay.regs.at 1 lay.regs.n) false {n = r.0} (omega (arith, length_rows_at memory_row W lay.regs.at 1 lay.regs.n)))

  -- ---- values
  pub remat_known : (v : Value) (k : ℕ) (d : ValueData) → k ≡ v.0 → k < lay.values.n → d ≡ value_row W (lay.values.at + k * 3) → d.remat ≡ (value_at (job_of W lay) v).remat
  unfolding value_at job_of job_by values_at
  remat_known v k d e l h =
      ap (λ (x : ValueData). x.remat)
      (h ∙ sym (get_or_rows_at value_row W lay.values.at 3 lay.values.n k no_value l) ∙ ap (λ (j : ℕ). get_or (rows_at value_row W lay.values.at 3 lay.values.n) j no_value) e)

  pub remat_past : (v : Value) (k : ℕ) → k ≡ v.0 → lay.values.n ≤ k → Never ≡ (value_at (job_of W lay) v).remat
  unfolding value_at job_of job_by values_at
  remat_past v k e l =
      ap (λ (x : ValueData). x.remat)
      (sym (get_or-eq_default (rows_at value_row W lay.values.at 3 lay.values.n) no_value {n = v.0} (omega (arith, length_rows_at value_row W lay.values.at 3 lay.values.n))))

-- the block at hand holds the instruction
pub near_here : (W : List ℕ) (at n b a e i : ℕ) → a ≡ get_or W (at + b * 2) 0 → e ≡ get_or W (at + (b + 1) * 2) 0 → b < n → a ≤ i → i < e
    → (b < n) × ((bs : List BlockData) → Starts W at bs → length bs ≡ n → i < insts_of bs → b ≡ block_of bs i)
near_here W at n b a e i ha he h l u = (
  h,
  λ bs s en k.
      let p : start_of bs b ≤ i = omega (arith, s.first b (omega arith)) in
      let q : get_or W (at + (b + 1) * 2) 0 ≡ start_of bs (suc b) = ap (λ (j : ℕ). get_or W (at + j * 2) 0) (native.Mathlib.Numerals.add-one b) ∙ s.first (suc b) (omega arith) in
      block_found bs b i (omega arith) p (omega arith),
)

pub frequency_is : (b w : ℕ) (x : Float) → x ≡ of_bits binary32 b → b ≡ w → w < 0x7f80_0000 → (x ≡ of_bits binary32 w) × T (plain x)
frequency_is b w x e f h =
    let q : x ≡ of_bits binary32 w = e ∙ ap (λ (n : ℕ). of_bits binary32 n) f in
    (q, subst (λ (y : Float). T (plain y)) (sym q) (bits_plain w h))
