-- The functions' ways, and that costs stay finite and sums and weights stay not negative. Assumes nothing.
use mathlib.Core.Path.{◌≡◌, refl, sym, ap, ◌∙◌, subst}
use Prim.Native.Nat.{ℕ, zero, suc, ◌+◌, ◌*◌, ◌≤◌, ◌<◌}
use native.Mathlib.Nat.{zero-mul, mul-pos, zero-lt-suc, lt_irrefl}
use mathlib.Core.Bool.{Bool, true, false, not, ◌&&◌, cond}
use lib.IntN.{ℤ, pos}
use lib.Dec.{T, leb, eqb, not_T, eqb→eq}
use lib.Ieee.{Float, nan, inf, fin, binary32, up, down, add, mul, div, eq, of_int, of_bits, fits}
use lib.Ieee.Bits.{is_false}
use lib.Ieee.Fits.{up_pos, cond-fits, inf-fits, div-fits}
use Rattle.definition.specs.declared.UseKind.{UseKind}
use Rattle.definition.specs.declared.UseKind.TheVariants.{FixedDef, FixedUse, TiedUse, ConstraintConflict, ClassUse, ClassDef, GroupClassUse, GroupClassDef, BlockparamIn, BlockparamOut}
use Rattle.definition.specs.declared.Options.{Options}
use Rattle.definition.specs.declared.Remat.{Remat}
use Rattle.definition.specs.declared.Remat.TheVariants.{Never, CheaperThanMove, CheaperThanLoad, Indirect}
use Rattle.definition.specs.RegInfo.{zero_f}
use Rattle.definition.specs.Uses.{one_f, half_f}
use Rattle.definition.specs.Entry.{plain, small}
use Rattle.definition.specs.Weights.{scaled, is_zero_f, add_cost, min_f, max_f, normalized}
use Rattle.weights.specs.Nonneg.{nonneg, Weight}
use Rattle.weights.proofs.Nonneg.{plain_nonneg, cond_nonneg, add_nonneg, mul_nonneg, div_nonneg, count_positive, min_plain, min_weight}
use Rattle.weights.proofs.Bits.{small_plain, product_plain, inf_bits}
use Rattle.weights.specs.Costs.{fixed_cost, base_cost, weight_from, SmallScales}

-- ---- the cost of a use
pub zero_small : T (small zero_f)
unfolding small
zero_small = tt

pub one_small : T (small one_f)
unfolding small
one_small = tt

pub half_small : T (small half_f)
unfolding small
half_small = tt

pub fixed_small : (m : Bool) → T (small (fixed_cost m))
fixed_small true = zero_small
fixed_small false = one_small

pub base_small : (k : UseKind) (x : Float) (m : Bool) → T (small x) → T (small (base_cost k x m))
unfolding base_cost
base_small (FixedDef r) x m h = fixed_small m
base_small (FixedUse r) x m h = fixed_small m
base_small (TiedUse u d c i) x m h = half_small
base_small ConstraintConflict x m h = half_small
base_small (ClassUse s c) x m h = h
base_small (ClassDef s c) x m h = h
base_small (GroupClassUse s c i) x m h = h
base_small (GroupClassDef s c i) x m h = h
base_small (BlockparamIn p) x m h = zero_small
base_small BlockparamOut x m h = zero_small

-- ---- the cost by its scale
pub scaled_plain : (o : Options) (r : Remat) (x : Float) → SmallScales o → T (small x) → T (plain (scaled o r x))
unfolding scaled
scaled_plain o Never x s h = small_plain x h
scaled_plain o CheaperThanMove x s h = product_plain x o.cheaper_than_move h s.move_small
scaled_plain o CheaperThanLoad x s h = product_plain x o.cheaper_than_load h s.load_small
scaled_plain o Indirect x s h = product_plain x o.indirect h s.indirect_small

-- ---- one use more
abbrev zero32 : Float
zero32 = of_bits binary32 0

some_more : (m : ℕ) (e : ℤ) → eqb (suc m * up e * 1) (0 * down e) && true ≡ false
some_more m e = is_false (eqb (suc m * up e * 1) (0 * down e) && true) (not_T (eqb (suc m * up e * 1) (0 * down e) && true) (λ t. lt_irrefl 0 (subst (λ (z : ℕ). 0 < z) (eqb→eq _ _ (first (eqb (suc m * up e * 1) (0 * down e)) t) ∙ zero-mul (down e)) (mul-pos (mul-pos (zero-lt-suc m) (up_pos e)) (zero-lt-suc 0)))))
  where
    first : (b : Bool) → T (b && true) → T b
    first true t = tt
    first false t = t

zero_test : (c : Float) → T (plain c) → eq c zero32 ≡ is_zero_f c
unfolding eq of_bits
zero_test nan p = absurd p
zero_test (inf s) p = absurd p
zero_test (fin true m e) p = absurd p
zero_test (fin false zero e) p = rw (zero-mul (up e), zero-mul (down e)) refl
zero_test (fin false (suc m) e) p = some_more m e

pub add_cost_nonneg : (t c w : Float) → T (nonneg t) → T (plain c) → T (plain w) → T (nonneg (add_cost t c w))
unfolding add_cost
add_cost_nonneg t c w p q r = cond_nonneg (is_zero_f c) t (add binary32 t (mul binary32 c w)) p (add_nonneg binary32 t (mul binary32 c w) p (mul_nonneg binary32 c w q r))

add_test : (t c w : Float) (b : Bool) → is_zero_f c ≡ b → cond b t (add binary32 t (mul binary32 c w)) ≡ add_cost t c w
unfolding add_cost
add_test t c w b e = ap (λ (z : Bool). cond z t (add binary32 t (mul binary32 c w))) (sym e)

pub add_skipped : (t c w : Float) → T (plain c) → eq c zero32 ≡ true → t ≡ add_cost t c w
add_skipped t c w q e = add_test t c w true (sym (zero_test c q) ∙ e)

pub add_added : (t c w : Float) → T (plain c) → eq c zero32 ≡ false → add binary32 t (mul binary32 c w) ≡ add_cost t c w
add_added t c w q e = add_test t c w false (sym (zero_test c q) ∙ e)

-- ---- the weight
pub normalized_plain : (t : Float) (n k : ℕ) → T (nonneg t) → 0 < n + k → n + k ≤ 16777216 → T (plain (normalized t n k))
unfolding normalized
normalized_plain t n k p h l = min_plain (div binary32 t (of_int binary32 (pos (n + k)))) (div_nonneg binary32 t _ p (count_positive (n + k) h l))

pub is_normalized : (t : Float) (n k : ℕ) (m r : Float) → T (nonneg t) → 0 < n + k → n + k ≤ 16777216 → m ≡ max_f
    → r ≡ min_f (div binary32 t (of_int binary32 (pos (n + k)))) m → (r ≡ normalized t n k) × T (plain r)
unfolding normalized
is_normalized t n k m r p h l f e =
    let q : r ≡ normalized t n k = e ∙ ap (λ (x : Float). min_f (div binary32 t (of_int binary32 (pos (n + k)))) x) f in
    (q, subst (λ (x : Float). T (plain x)) (sym q) (normalized_plain t n k p h l))

pub max_bits : of_bits binary32 0x7f7f_ffff ≡ max_f
unfolding of_bits
max_bits = refl

pub and_no : (a b : Bool) → b ≡ false → a && b ≡ false
and_no true b e = e
and_no false b e = refl

pub is_infinite : (t : Float) (n k : ℕ) (s : Bool) {r : Float} → leb n 1 && not s ≡ true
    → (r ≡ of_bits binary32 0x7f80_0000) × T (nonneg r) → (r ≡ weight_from t n k s) × T (nonneg r)
unfolding weight_from
is_infinite t n k s e q = (q.0 ∙ inf_bits ∙ ap (λ (b : Bool). cond b (inf false) (normalized t n k)) (sym e), q.1)

pub is_finite : (t : Float) (n k : ℕ) (s : Bool) {r : Float} → leb n 1 && not s ≡ false
    → r ≡ normalized t n k → T (plain r) → (r ≡ weight_from t n k s) × T (nonneg r)
unfolding weight_from
is_finite t n k s {r} e q p = (q ∙ ap (λ (b : Bool). cond b (inf false) (normalized t n k)) (sym e), plain_nonneg r p)

max_weight : Weight max_f
unfolding fits
max_weight = (tt, tt)

pub weight_from_weight : (t : Float) (n k : ℕ) (s : Bool) → T (nonneg t) → 0 < n + k → n + k ≤ 16777216 → Weight (weight_from t n k s)
unfolding weight_from normalized
weight_from_weight t n k s p h l =
    let d = div binary32 t (of_int binary32 (pos (n + k))) in
    let w = min_weight d max_f (div_nonneg binary32 t _ p (count_positive (n + k) h l), div-fits binary32 t _) max_weight in
    (cond_nonneg (leb n 1 && not s) (inf false) (min_f d max_f) tt w.0, cond-fits binary32 (leb n 1 && not s) (inf false) (min_f d max_f) (inf-fits binary32 false) w.1)
