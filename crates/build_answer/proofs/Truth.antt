-- Change request 13: how true a weight is. Assumes nothing.
use mathlib.Core.Path.{◌≡◌, refl, sym, ap, subst}
use mathlib.Core.Bool.{Bool, true, false, not, cond, ◌&&◌}
use mathlib.Core.List.{List}
use Prim.Native.Nat.{ℕ, zero, suc, ◌+◌, ◌*◌, ◌^◌, ◌≤◌, ◌<◌}
use native.Mathlib.Nat.{le_trans, mul-one, mul-pos, mul-le-mul_right}
use native.Mathlib.Omega.{arith}
use lib.Dec.{T, leb, eqb, ltb→lt}
use lib.IntN.{pos}
use lib.Ieee.{Float, nan, inf, fin, binary32, up, div, of_int}
use lib.Ieee.Fits.{up_pos, div-fits}
use lib.Ieee.Positive.{num, den, den_pos, positive}
use Rattle.definition.specs.declared.RegClass.{RegClass}
use Rattle.definition.specs.Types.{Segment, Job}
use Rattle.definition.specs.RegInfo.{zero_f, class_at}
use Rattle.definition.specs.LiveRange.{live_insts}
use Rattle.definition.specs.Entry.{plain}
use Rattle.definition.specs.Weights.{sum_segs, min_f, max_f, normalized, weight_of}
use Rattle.weights.proofs.Nonneg.{plain_nonneg, div_nonneg, count_positive}
use Rattle.weights.specs.Costs.{PlainJob}
use Rattle.build_answer.specs.Truth.{Fine, FineQuotient, fine_quotient, FineWeight, exact_sum, nonzeros}
use Rattle.build_answer.specs.Truth.{unskipped_in, distance}
use Rattle.build_answer.specs.Truth.{Near, NearExact, F32Job}
use Rattle.build_answer.proofs.Close.{Close, close_trans, close_mul, close_bound}
use Rattle.build_answer.proofs.Ops.{div_close, count_value}
use Rattle.build_answer.proofs.Largest.{at_most_max}
use Rattle.build_answer.proofs.Sums.{SumNear, sum_near, skips_more, fine_plain, close_as, close_sum, cube, cubed}

positive_num : (x : Float) → T (positive x) → 0 < num x
positive_num nan p = absurd p
positive_num (inf s) p = absurd p
positive_num (fin true m e) p = absurd p
positive_num (fin false m e) p = mul-pos (ltb→lt 0 m p) (up_pos e)

-- the quotient of a sum that is near S, by a count
quotient_near : (t : Float) (n S d : ℕ) → SumNear t n S → 0 < d → d ≤ 16777216 → n ≤ 4096 → FineQuotient t d
    → Near n (min_f (div binary32 t (of_int binary32 (pos d))) max_f) S d
unfolding min_f div fine_quotient
quotient_near t n S d s h l few g =
    let c = of_int binary32 (pos d) in
    let q = div binary32 t c in
    let y = count_positive d h l in
    let m = 2 + n in
    let exact : Close (m + 0) (num t * den c) (den t * num c) (S * 1) (cube * d) =
    close_mul m 0 (num t) (den t) S cube (den c) (num c) 1 d s.near (count_value d l) in
    let all : Close (1 + (m + 0)) (num q) (den q) (S * 1) (cube * d) =
    close_trans 1 (m + 0) (num q) (den q) (num t * den c) (den t * num c) (S * 1) (cube * d)
    (mul-pos (den_pos t) (positive_num c y)) (div_close t c s.finite y g) exact in
    let final : Close (n + 3) (num q) (den q) S (cube * d) =
    close_as (1 + (m + 0)) (n + 3) (num q) (den q) S (cube * d) (omega arith)
    (close_sum (1 + (m + 0)) (num q) (den q) (S * 1) S (cube * d) (mul-one S) all) in
    let bound = close_bound (n + 3) (num q) (den q) S (cube * d) (omega arith) final in
    let finite = fine_plain q (num t) (div_nonneg binary32 t c (plain_nonneg t s.finite) y) g in
    let same : min_f q max_f ≡ q = ap (λ (b : Bool). cond b max_f q) (at_most_max q (div-fits binary32 t c) finite) in
    subst (λ (w : Float). Near n w S d) (sym same)
    (subst (λ (z : ℕ). distance (num q * (z * d)) (S * den q) * 2 ^ 23 ≤ (n + 3) * (S * den q)) cubed bound)

-- where the weight is not infinite it is the quotient
finite_is : (b : Bool) (x : Float) → (cond b (inf false) x ≡ inf false → ⊥) → cond b (inf false) x ≡ x
finite_is true x p = absurd (p refl)
finite_is false x p = refl

-- a quotient that is fine is not over zero
zero_count : (t : Float) → T (plain t) → FineQuotient t 0 → ⊥
unfolding fine_quotient
zero_count nan p f = p
zero_count (inf s) p f = p
zero_count (fin true m e) p f = p
zero_count (fin false m e) p f = go (eqb m 0) f
  where
    go : (b : Bool) → Fine (cond b nan (inf false)) (m * up e) → ⊥
    go true h = h
    go false h = h

pub fine_count : (t : Float) (d : ℕ) → T (plain t) → FineQuotient t d → 0 < d
fine_count t zero p f = absurd (zero_count t p f)
fine_count t (suc d) p f = omega arith

module _ (job : Job) (p : PlainJob job) (f : F32Job job) (c : RegClass) (ss : List Segment)
    (l : live_insts ss + job.options.adjust ≤ 16777216) (g : FineWeight job ss (weight_of job c ss)) where
  -- HOW TRUE A WEIGHT IS: |W - E| * 2 ^ 23 ≤ (n + 3) * E, W the weight, E the exact fraction, n the uses that count.
  -- `PlainJob` is what the entry rules say of costs, scales and frequencies: finite, and none is negative.
  -- Rules out, as readings: E summed in f32, in the weight's own roundings; the conditions asked of the exact values
  -- in place of the rounded ones.
  pub weight_true : NearExact job ss (weight_of job c ss)
  unfolding weight_of normalized
  weight_true =
      let n = nonzeros job ss in
      let S = exact_sum job ss in
      let d = live_insts ss + job.options.adjust in
      let s = sum_near job p f ss g.sums in
      let h = fine_count (sum_segs job zero_f ss) d s.finite g.quotient in
      subst (λ (x : Float). Near n x S d)
      (sym (finite_is (leb (live_insts ss) 1 && not (class_at job c).spillslots) _ g.not_infinite))
      (quotient_near (sum_segs job zero_f ss) n S d s h l g.few g.quotient)

  -- the same with n as the uses that the rule does not skip: weaker, since they are at least as many
  pub weight_true_unskipped : Near (unskipped_in job ss) (weight_of job c ss) (exact_sum job ss)
      (live_insts ss + job.options.adjust)
  weight_true_unskipped =
      let more : nonzeros job ss + 3 ≤ unskipped_in job ss + 3 = omega (arith, skips_more job p f zero_f ss g.sums) in
      le_trans weight_true (mul-le-mul_right (exact_sum job ss * den (weight_of job c ss)) more)
