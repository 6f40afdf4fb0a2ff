-- "`common_subclass` is the lowest-numbered class in both subclass sets, or none": what the trailing zeros of the intersected masks give. Assumes nothing.
use mathlib.Core.Path.{◌≡◌, refl, subst}
use mathlib.Core.Option.{Option, none, some}
use Prim.Native.Nat.{ℕ, zero, suc, ◌/◌, ◌%◌, ◌^◌, ◌<◌}
use native.Mathlib.Omega.{arith}
use lib.Bits.{bit_and, and_step, and_lt}
use lib.Count.{count_trailing_zeros, under}
use Rattle.definition.specs.declared.RegClass.{RegClass}
use Rattle.definition.specs.RegInfo.{lowest}
use Rattle.definition.specs.Promised.{bit_at}
use Rattle.definition.proofs.Classes.{bit_lowest}

-- class k is in both masks
abbrev pub InBoth : ℕ → ℕ → ℕ → Type 0
InBoth a b k = (bit_at k a ≡ 1) × (bit_at k b ≡ 1)

-- none is in both; or the class is, and none below it
abbrev pub LowestBoth : ℕ → ℕ → Option RegClass → Type 0
LowestBoth a b none = (k : ℕ) → InBoth a b k → ⊥
LowestBoth a b (some c) = InBoth a b c.0 × ((k : ℕ) → k < c.0 → InBoth a b k → ⊥)

and_bits : (k a b : ℕ) → bit_at k (bit_and a b) ≡ 1 → InBoth a b k
and_bits zero a b e = omega (arith, and_step a b)
and_bits (suc k) a b e =
    let q : bit_and a b / 2 ≡ bit_and (a / 2) (b / 2) = omega (arith, and_step a b) in
    and_bits k (a / 2) (b / 2) (rw (← q) e)

bits_and : (k a b : ℕ) → InBoth a b k → bit_at k (bit_and a b) ≡ 1
bits_and zero a b e = omega (arith, and_step a b, e.0, e.1)
bits_and (suc k) a b e =
    let q : bit_and a b / 2 ≡ bit_and (a / 2) (b / 2) = omega (arith, and_step a b) in
    rw q (bits_and k (a / 2) (b / 2) e)

no_bit : (k : ℕ) → bit_at k 0 ≡ 0
no_bit zero = refl
no_bit (suc k) = no_bit k

below_zeros : (d m k : ℕ) → k < count_trailing_zeros d m → bit_at k m ≡ 0
unfolding count_trailing_zeros
below_zeros zero m k h = absurd (omega arith)
below_zeros (suc d) m k h = go (m % 2) refl k h (λ j l. below_zeros d (m / 2) j l)
  where
    go : (r : ℕ) → m % 2 ≡ r → (k : ℕ) → k < under r (count_trailing_zeros d (m / 2)) → ((j : ℕ) → j < count_trailing_zeros d (m / 2) → bit_at j (m / 2) ≡ 0) → bit_at k m ≡ 0
    go zero e zero l ih = e
    go zero e (suc k) l ih = ih k (omega arith)
    go (suc r) e k l ih = absurd (omega arith)

pub lowest_both : (a b : ℕ) → a < 2 ^ 32 → b < 2 ^ 32 → LowestBoth a b (lowest (bit_and a b))
unfolding lowest
lowest_both a b ha hb = go (bit_and a b) refl
  where
    go : (m : ℕ) → bit_and a b ≡ m → LowestBoth a b (lowest m)
    go zero e = λ k i. let z : bit_at k (bit_and a b) ≡ 0 = rw e (no_bit k) in absurd (omega (arith, z, bits_and k a b i))
    go (suc m) e =
        let s : suc m < 2 ^ 32 = subst (λ (n : ℕ). n < 2 ^ 32) e (and_lt 32 a b ha hb) in
        let at : bit_at (count_trailing_zeros 32 (suc m)) (bit_and a b) ≡ 1 = rw e (bit_lowest 32 (suc m) (omega arith) s) in (
          and_bits (count_trailing_zeros 32 (suc m)) a b at,
          λ k l i. let z : bit_at k (bit_and a b) ≡ 0 = rw e (below_zeros 32 (suc m) k l) in absurd (omega (arith, z, bits_and k a b i)),
        )
