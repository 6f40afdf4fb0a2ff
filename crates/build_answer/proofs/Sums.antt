-- The sum of costs beside the exact sum: two roundings for the products, one more for each use that counts.
-- Assumes nothing.
use mathlib.Core.Path.{◌≡◌, refl, sym, subst}
use mathlib.Core.List.{List, [], ◌∷◌}
use mathlib.Core.Bool.{Bool, true, false, cond, ◌||◌, false≢true}
use Prim.Native.Nat.{ℕ, zero, suc, ◌+◌, ◌*◌, ◌^◌, ◌≤◌, ◌<◌}
use native.Mathlib.Nat.{zero-mul, add-zero, zero-add, mul_assoc, add-mul, mul-pos, add_assoc}
use native.Mathlib.Omega.{arith}
use lib.Dec.{T, eqb, lit≤}
use borrow.Author.Tests.{eqb-true}
use lib.ListN.{get_or}
use lib.Pow.{pow_pos}
use lib.Ieee.{Float, nan, inf, fin, binary32, up, down, add, mul, fits}
use lib.Ieee.Fits.{and_l, and_r, down_pos, up_pos, cond-fits, add-fits}
use lib.Ieee.Positive.{num, den, den_pos}
use Rattle.definition.specs.declared.UseKind.{UseKind}
use Rattle.definition.specs.declared.UseKind.TheVariants.{FixedDef, FixedUse, TiedUse, ConstraintConflict}
use Rattle.definition.specs.declared.UseKind.TheVariants.{ClassUse, ClassDef, GroupClassUse, GroupClassDef}
use Rattle.definition.specs.declared.UseKind.TheVariants.{BlockparamIn, BlockparamOut}
use Rattle.definition.specs.declared.Remat.{Remat}
use Rattle.definition.specs.declared.Remat.TheVariants.{Never, CheaperThanMove, CheaperThanLoad, Indirect}
use Rattle.definition.specs.declared.Use.{Use}
use Rattle.definition.specs.Types.{Segment, Job}
use Rattle.definition.specs.RegInfo.{zero_f, value_at}
use Rattle.definition.specs.Uses.{one_f, cost_of}
use Rattle.definition.specs.Entry.{plain, small}
use Rattle.definition.specs.Weights.{scaled, is_zero_f, add_cost, sum_uses, sum_segs}
use Rattle.weights.specs.Nonneg.{nonneg}
use Rattle.weights.proofs.Nonneg.{plain_nonneg, add_nonneg, mul_nonneg}
use Rattle.weights.proofs.Bits.{small_plain}
use Rattle.weights.specs.Costs.{PlainJob}
use Rattle.weights.proofs.Costs.{scaled_plain}
use Rattle.weights.proofs.Sums.{cost_small}
use Rattle.build_answer.specs.Truth.{Fine, FineUses, FineSegs}
use Rattle.build_answer.specs.Truth.{fine_mul, fine_add, fine_scale, fine_term, fine_use, fine_uses, fine_segs}
use Rattle.build_answer.specs.Truth.{scaled_cost, freq_of, units, exact_scale, exact_use, exact_uses, exact_sum, F32Job}
use Rattle.build_answer.specs.Truth.{nonzero, nonzero_uses, nonzeros, unskipped, unskipped_uses, unskipped_in}
use Rattle.build_answer.proofs.Close.{Close, close_trans, close_same, close_zero, close_more, close_mul}
use Rattle.build_answer.proofs.Close.{close_add, zero_only, only_zero}
use Rattle.build_answer.proofs.Round.{After}
use Rattle.build_answer.proofs.Exact.{add_exact}
use Rattle.build_answer.proofs.Ops.{mul_close, add_close, units_close}

-- ---- small things

-- what is not negative and came out fine is finite
pub fine_plain : (x : Float) (a : ℕ) → T (nonneg x) → Fine x a → T (plain x)
fine_plain nan a p f = absurd p
fine_plain (inf s) a p f = absurd f
fine_plain (fin s m e) a p f = p

-- a cost that is skipped is zero exactly
skipped_zero : (x : Float) (A D : ℕ) → T (plain x) → is_zero_f x ≡ true → After 1 x A D → A ≡ 0
skipped_zero nan A D p z a = absurd p
skipped_zero (inf s) A D p z a = absurd p
skipped_zero (fin s zero e) A D p z a = zero_only 1 (down e) A D (down_pos e) (rw (zero-mul (up e)) at a)
skipped_zero (fin s (suc m) e) A D p z a = absurd (false≢true z)

-- and what is zero exactly is skipped
zero_skipped : (x : Float) → T (plain x) → num x ≡ 0 → is_zero_f x ≡ true
zero_skipped nan p z = absurd p
zero_skipped (inf s) p z = absurd p
zero_skipped (fin s zero e) p z = refl
zero_skipped (fin s (suc m) e) p z = absurd (let h : 0 < suc m * up e = mul-pos (omega arith) (up_pos e) in omega arith)

pub close_as : (m k N C A D : ℕ) → m ≡ k → Close m N C A D → Close k N C A D
close_as m k N C A D e p = subst (λ (i : ℕ). Close i N C A D) e p

pub close_sum : (m N C A B D : ℕ) → A ≡ B → Close m N C A D → Close m N C B D
close_sum m N C A B D e p = subst (λ (z : ℕ). Close m N C z D) e p

-- ---- what the conditions say, part by part

module _ (job : Job) (r : Remat) (t : Float) (u : Use) where
  abbrev term_ok : Bool
  term_ok = is_zero_f (scaled_cost job r u) || fine_term t (scaled_cost job r u) (freq_of job u)

  scale_fine : T (fine_use job r t u) → T (fine_scale job.options r (cost_of job u.kind))
  scale_fine g = and_l (fine_scale job.options r (cost_of job u.kind)) term_ok g

  term_fine : T (fine_use job r t u) → T term_ok
  term_fine g = and_r (fine_scale job.options r (cost_of job u.kind)) term_ok g

  abbrev others_ok : List Use → Bool
  others_ok us = fine_uses job r (add_cost t (scaled_cost job r u) (freq_of job u)) us

  first_use : (us : List Use) → FineUses job r t (u ∷ us) → T (fine_use job r t u)
  unfolding fine_uses
  first_use us g = and_l (fine_use job r t u) (others_ok us) g

  other_uses : (us : List Use) → FineUses job r t (u ∷ us) → T (others_ok us)
  unfolding fine_uses
  other_uses us g = and_r (fine_use job r t u) (others_ok us) g

module _ (job : Job) (t : Float) (s : Segment) (ss : List Segment) where
  abbrev kind : Remat
  kind = (value_at job s.value).remat

  first_seg : FineSegs job t (s ∷ ss) → FineUses job kind t s.uses
  unfolding fine_segs
  first_seg g = and_l (fine_uses job kind t s.uses) (fine_segs job (sum_uses job kind t s.uses) ss) g

  other_segs : FineSegs job t (s ∷ ss) → FineSegs job (sum_uses job kind t s.uses) ss
  unfolding fine_segs
  other_segs g = and_r (fine_uses job kind t s.uses) (fine_segs job (sum_uses job kind t s.uses) ss) g

-- ---- costs are f32

cost_fits : (job : Job) → F32Job job → (k : UseKind) → T (fits binary32 (cost_of job k))
unfolding cost_of fits
cost_fits job f (FixedDef r) = cond-fits binary32 (get_or job.memory r.0 false) zero_f one_f tt tt
cost_fits job f (FixedUse r) = cond-fits binary32 (get_or job.memory r.0 false) zero_f one_f tt tt
cost_fits job f (TiedUse u d c i) = tt
cost_fits job f ConstraintConflict = tt
cost_fits job f (ClassUse s c) = f.costs c
cost_fits job f (ClassDef s c) = f.costs c
cost_fits job f (GroupClassUse s c i) = f.costs c
cost_fits job f (GroupClassDef s c i) = f.costs c
cost_fits job f (BlockparamIn p) = tt
cost_fits job f BlockparamOut = tt

-- ---- the units of a product of two floats and of three

abbrev square : ℕ
square = 2 ^ 149 * 2 ^ 149

unfoldable pub cube : ℕ
cube = square * 2 ^ 149

pub cubed : cube ≡ 2 ^ 447
unfolding cube
cubed = refl

cube_pos : 0 < cube
unfolding cube
cube_pos = mul-pos (mul-pos (pow_pos 149) (pow_pos 149)) (pow_pos 149)

-- ---- a use: its scaled cost after at most one rounding, its product after at most two

product_near : (m k : ℕ) (x y : Float) (A D B E : ℕ) → T (plain x) → T (plain y) → After m x A D → After k y B E
    → T (fine_mul x y) → After (1 + (m + k)) (mul binary32 x y) (A * B) (D * E)
product_near m k x y A D B E p q a b f =
    close_trans 1 (m + k) _ _ _ _ _ _ (mul-pos (den_pos x) (den_pos y)) (mul_close x y p q f)
    (close_mul m k _ _ _ _ _ _ _ _ a b)

unscaled_near : (c : Float) (C U : ℕ) → 0 < U → After 0 c C U → After 1 c (C * U) (U * U)
unscaled_near c C U h a =
    close_more 0 1 _ _ _ _ (mul-pos h h)
    (close_trans 0 0 _ _ _ _ _ _ h a (close_same C U (C * U) (U * U) (sym (mul_assoc C U U))))

module _ (job : Job) (p : PlainJob job) (f : F32Job job) (k : UseKind) where
  scaled_near : (s : Float) → T (small s) → T (fits binary32 s) → T (fine_mul (cost_of job k) s)
      → After 1 (mul binary32 (cost_of job k) s) (units (cost_of job k) * units s) square
  scaled_near s h g m =
      let x = cost_of job k in
      let a = small_plain x (cost_small job p k) in
      let b = small_plain s h in
      product_near 0 0 x s _ _ _ _ a b (units_close x a (cost_fits job f k)) (units_close s b g) m

  cost_near : (r : Remat) → T (fine_scale job.options r (cost_of job k))
      → After 1 (scaled job.options r (cost_of job k)) (units (cost_of job k) * exact_scale job.options r) square
  unfolding scaled exact_scale
  cost_near Never m =
      let x = cost_of job k in
      unscaled_near x _ _ (pow_pos 149) (units_close x (small_plain x (cost_small job p k)) (cost_fits job f k))
  cost_near CheaperThanMove m = scaled_near _ p.scales.move_small f.move_fits m
  cost_near CheaperThanLoad m = scaled_near _ p.scales.load_small f.load_fits m
  cost_near Indirect m = scaled_near _ p.scales.indirect_small f.indirect_fits m

-- ---- the sum: one rounding more with each use that counts

-- t is finite and near S after j uses that count
pub record SumNear (t : Float) (j S : ℕ) : Type 0 where
  pub finite : T (plain t)
  pub is_f32 : T (fits binary32 t)
  pub near : Close (2 + j) (num t) (den t) S cube

near_as : {t : Float} {j k S R : ℕ} → j ≡ k → S ≡ R → SumNear t j S → SumNear t k R
near_as {t} {j} {k} {S} {R} a b s = subst (λ (z : ℕ). SumNear t k z) b (subst (λ (z : ℕ). SumNear t z S) a s)

-- y, a product, is added to t: a rounding where it is not zero
module _ (t y : Float) (j S B : ℕ) (s : SumNear t j S) (p : T (plain y)) (a : After 2 y B cube)
    (f : T (fine_add t y)) where
  sum_step : (b : Bool) → eqb B 0 ≡ b → After (2 + (j + cond b 0 1)) (add binary32 t y) (S + B) cube
  sum_step true e =
      let z : B ≡ 0 = eqb-true B 0 e in
      let n = only_zero 2 (num y) (den y) cube cube_pos (rw z at a) in
      let same = add_exact t y s.finite p s.is_f32 n in
      let all = close_trans 0 (2 + j) _ _ _ _ _ _ (den_pos t) same s.near in
      rw (z, add-zero S, add-zero j) (rw zero-add at all)
  sum_step false e =
      let both = close_add (2 + j) _ _ _ _ _ _ _ _ s.near (close_more 2 j _ _ _ _ cube_pos a) in
      let over = close_same (S * cube + B * cube) (cube * cube) (S + B) cube (rw (← add-mul, mul_assoc)) in
      let exact = close_trans (2 + j) 0 _ _ _ _ _ _ (mul-pos cube_pos cube_pos) both over in
      close_as (1 + (2 + j + 0)) _ _ _ _ _ (omega arith)
      (close_trans 1 (2 + j + 0) _ _ _ _ _ _ (mul-pos (den_pos t) (den_pos y)) (add_close t y s.finite p f) exact)

  sum_added : SumNear (add binary32 t y) (j + cond (eqb B 0) 0 1) (S + B)
  sum_added =
      let n = add_nonneg binary32 t y (plain_nonneg t s.finite) (plain_nonneg y p) in
      let r-plain = fine_plain (add binary32 t y) (num t + num y) n f in
      record { finite = r-plain; is_f32 = add-fits binary32 t y; near = sum_step (eqb B 0) refl }

-- one use more: x its scaled cost, w its frequency, A and W their units
module _ (t x w : Float) (j S A W : ℕ) (s : SumNear t j S) (p : T (plain x)) (q : T (plain w))
    (a : After 1 x A square) (c : After 0 w W (2 ^ 149)) where
  use_step : (b : Bool) → is_zero_f x ≡ b → T (b || fine_term t x w)
      → SumNear (cond b t (add binary32 t (mul binary32 x w))) (j + cond (eqb (A * W) 0) 0 1) (S + A * W)
  unfolding cube
  use_step true e f =
      let z : A * W ≡ 0 = rw (skipped_zero x A _ p e a, zero-mul W) in
      rw (z, add-zero j, add-zero S) s
  use_step false e f =
      let y = mul binary32 x w in
      let g = and_l (fine_mul x w) (fine_add t y) f in
      let y-plain = fine_plain y (num x * num w) (mul_nonneg binary32 x w p q) g in
      sum_added t y j S (A * W) s y-plain (product_near 1 0 x w _ _ _ _ p q a c g) (and_r (fine_mul x w) (fine_add t y) f)

start_near : SumNear zero_f 0 0
unfolding fits
start_near = record { finite = tt; is_f32 = tt; near = close_zero 2 1 cube }

module _ (job : Job) (p : PlainJob job) (f : F32Job job) where
  scaled_cost_plain : (r : Remat) (u : Use) → T (plain (scaled_cost job r u))
  scaled_cost_plain r u = scaled_plain job.options r (cost_of job u.kind) p.scales (cost_small job p u.kind)

  use_near : (r : Remat) (t : Float) (u : Use) (j S : ℕ) → SumNear t j S → T (fine_use job r t u)
      → SumNear (add_cost t (scaled_cost job r u) (freq_of job u)) (j + nonzero job r u) (S + exact_use job r u)
  unfolding add_cost exact_use
  use_near r t u j S s g =
      let x = scaled_cost job r u in
      let w = p.frequencies u.pos.0 in
      let c = cost_near job p f u.kind r (scale_fine job r t u g) in
      use_step t x (freq_of job u) j S _ _ s (scaled_cost_plain r u) w c
      (units_close (freq_of job u) w (f.frequencies u.pos.0)) (is_zero_f x) refl (term_fine job r t u g)

  uses_near : (r : Remat) (t : Float) (us : List Use) (j S : ℕ) → SumNear t j S → FineUses job r t us
      → SumNear (sum_uses job r t us) (j + nonzero_uses job r us) (S + exact_uses job r us)
  unfolding sum_uses nonzero_uses exact_uses
  uses_near r t [] j S s g = near_as (sym (add-zero j)) (sym (add-zero S)) s
  uses_near r t (u ∷ us) j S s g =
      near_as (add_assoc j _ _) (add_assoc S _ _)
      (uses_near r (add_cost t (scaled_cost job r u) (freq_of job u)) us _ _ (use_near r t u j S s (first_use job r t u us g)) (other_uses job r t u us g))

  segs_near : (t : Float) (ss : List Segment) (j S : ℕ) → SumNear t j S → FineSegs job t ss
      → SumNear (sum_segs job t ss) (j + nonzeros job ss) (S + exact_sum job ss)
  unfolding sum_segs nonzeros exact_sum
  segs_near t [] j S s g = near_as (sym (add-zero j)) (sym (add-zero S)) s
  segs_near t (q ∷ ss) j S s g =
      near_as (add_assoc j _ _) (add_assoc S _ _)
      (segs_near (sum_uses job (value_at job q.value).remat t q.uses) ss _ _ (uses_near _ t q.uses j S s (first_seg job t q ss g)) (other_segs job t q ss g))

  pub sum_near : (ss : List Segment) → FineSegs job zero_f ss
      → SumNear (sum_segs job zero_f ss) (nonzeros job ss) (exact_sum job ss)
  sum_near ss g = near_as (zero-add _) (zero-add _) (segs_near zero_f ss 0 0 start_near g)

  -- under the conditions the rule skips exactly the uses whose exact scaled cost is zero
  pub skips_exactly : (r : Remat) (u : Use) → T (fine_scale job.options r (cost_of job u.kind))
      → (is_zero_f (scaled_cost job r u) ≡ true → units (cost_of job u.kind) * exact_scale job.options r ≡ 0)
      × (units (cost_of job u.kind) * exact_scale job.options r ≡ 0 → is_zero_f (scaled_cost job r u) ≡ true)
  skips_exactly r u g =
      let x = scaled_cost job r u in
      let h = scaled_cost_plain r u in
      let a = cost_near job p f u.kind r g in (
        λ e. skipped_zero x _ _ h e a,
        λ z. zero_skipped x h (only_zero 1 (num x) (den x) square (mul-pos (pow_pos 149) (pow_pos 149)) (rw z at a)),
      )

  -- ---- the uses that are not skipped are at least as many: so the bound holds with their number too

  use_more : (r : Remat) (u : Use) → T (fine_scale job.options r (cost_of job u.kind))
      → nonzero job r u ≤ unskipped job r u
  unfolding exact_use
  use_more r u g = go (is_zero_f x) refl
    where
      x : Float
      x = scaled_cost job r u

      at_most_one : (b : Bool) → cond b 0 1 ≤ 1
      at_most_one true = lit≤ tt
      at_most_one false = lit≤ tt

      go : (b : Bool) → is_zero_f x ≡ b → nonzero job r u ≤ cond b 0 1
      go false e = at_most_one (eqb (exact_use job r u) 0)
      go true e =
          rw (skipped_zero x _ _ (scaled_cost_plain r u) e (cost_near job p f u.kind r g), zero-mul) (lit≤ tt)

  uses_more : (r : Remat) (t : Float) (us : List Use) → FineUses job r t us
      → nonzero_uses job r us ≤ unskipped_uses job r us
  unfolding nonzero_uses unskipped_uses
  uses_more r t [] g = omega arith
  uses_more r t (u ∷ us) g =
      let a = use_more r u (scale_fine job r t u (first_use job r t u us g)) in
      omega (arith, a, uses_more r (add_cost t (scaled_cost job r u) (freq_of job u)) us (other_uses job r t u us g))

  pub skips_more : (t : Float) (ss : List Segment) → FineSegs job t ss → nonzeros job ss ≤ unskipped_in job ss
  unfolding nonzeros unskipped_in
  skips_more t [] g = omega arith
  skips_more t (s ∷ ss) g =
      omega (arith, uses_more _ t s.uses (first_seg job t s ss g), skips_more (sum_uses job (value_at job s.value).remat t s.uses) ss (other_segs job t s ss g))
