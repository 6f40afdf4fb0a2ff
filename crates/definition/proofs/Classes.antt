-- Classes as bits of masks: what a common subclass is, and what admitting one class use leaves held where subclassing is transitive. Assumes nothing.
use mathlib.Core.Path.{◌≡◌, refl, ap, sym, subst}
use mathlib.Core.Logic.{◌⊎◌, inl, inr}
use Prim.Native.Nat.{ℕ, zero, suc, ◌/◌, ◌%◌, ◌^◌, ◌<◌}
use native.Mathlib.Nat.{pow-suc}
use native.Mathlib.Omega.{arith}
use mathlib.Core.Option.{none, some, some-injective}
use lib.Bits.{bit_and, and_step, and_lt}
use lib.Count.{count_trailing_zeros, under}
use Rattle.definition.specs.Types.{RegClass, UseKind, Use, Job, Held, cls}
use Rattle.definition.specs.RegInfo.{class_at, common_subclass, lowest}
use Rattle.definition.specs.Uses.{class_of}
use Rattle.definition.specs.Admit.{admit_class}
use Rattle.definition.specs.Promised.{In, Transitive, bit_at}
use Rattle.definition.proofs.Places.{bind_some}

-- ---- bit k of m

pub bit_and_lem : (k a b : ℕ) → bit_at k (bit_and a b) ≡ 1 → (bit_at k a ≡ 1) × (bit_at k b ≡ 1)
bit_and_lem zero a b e = omega (arith, and_step a b)
bit_and_lem (suc k) a b e =
    let q : bit_and a b / 2 ≡ bit_and (a / 2) (b / 2) = omega (arith, and_step a b) in
    bit_and_lem k (a / 2) (b / 2) (rw (← q) e)

-- the zeros below the lowest set bit count up to it
pub bit_lowest : (d m : ℕ) → 0 < m → m < 2 ^ d → bit_at (count_trailing_zeros d m) m ≡ 1
unfolding count_trailing_zeros
bit_lowest zero m h k = absurd (omega arith)
bit_lowest (suc d) m h k = go (m % 2) refl (λ p q. bit_lowest d (m / 2) p q)
  where
    go : (r : ℕ) → m % 2 ≡ r → (0 < m / 2 → m / 2 < 2 ^ d → bit_at (count_trailing_zeros d (m / 2)) (m / 2) ≡ 1) → bit_at (under r (count_trailing_zeros d (m / 2))) m ≡ 1
    go zero e ih = ih (omega arith) (omega (arith, pow-suc 2 d))
    go (suc r) e ih = omega arith

-- ---- the laws of `lowest`, for code that tests for zero

pub lowest_none : (m : ℕ) → m ≡ 0 → lowest m ≡ none
unfolding lowest
lowest_none zero e = refl
lowest_none (suc m) e = absurd (omega arith)

pub lowest_some : (m : ℕ) → (m ≡ 0 → ⊥) → lowest m ≡ some (cls (count_trailing_zeros 32 m))
unfolding lowest
lowest_some zero h = absurd (h refl)
lowest_some (suc m) h = refl

-- ---- classes

-- masks of 32 bits
abbrev pub Masks : Job → Type 0
Masks job = (c : RegClass) → (class_at job c).mask < 2 ^ 32

lowest_bit : (m : ℕ) (k : RegClass) → m < 2 ^ 32 → lowest m ≡ some k → bit_at k.0 m ≡ 1
unfolding lowest
lowest_bit zero k h e = let z : ◌≡◌ {A = ℕ} 0 1 = cc in absurd (omega arith)
lowest_bit (suc m) k h e = subst (λ (i : RegClass). bit_at i.0 (suc m) ≡ 1) (some-injective _ _ e) (bit_lowest 32 (suc m) (omega arith) h)

pub common_in : (job : Job) (a b k : RegClass) → Masks job → common_subclass job a b ≡ some k → In job k a × In job k b
unfolding common_subclass
common_in job a b k ms e =
    let x = (class_at job a).mask in
    let y = (class_at job b).mask in
    bit_and_lem k.0 x y (lowest_bit (bit_and x y) k (and_lt 32 x y (ms a) (ms b)) e)

-- ---- uses

-- the class k is admitted by what u asks for
abbrev pub Serves : Job → RegClass → Use → Type 0
Serves job k u = (c : RegClass) → class_of u.kind ≡ some c → In job k c

abbrev pub Below : Job → RegClass → RegClass → Type 0
Below job j k = (j ≡ k) ⊎ In job j k

module _ (job : Job) (ms : Masks job) (tr : Transitive job) where
  pub below_in : (j k c : RegClass) → Below job j k → In job k c → In job j c
  below_in j k c (inl e) h = rw e h
  below_in j k c (inr i) h = tr c k j h i

  pub below_trans : (i j k : RegClass) → Below job i j → Below job j k → Below job i k
  below_trans i j k a (inl e) = rw e at a
  below_trans i j k (inl e) (inr h) = inr (rw e h)
  below_trans i j k (inr g) (inr h) = inr (tr k j i h g)

  pub serves_below : (j k : RegClass) (u : Use) → Below job j k → Serves job k u → Serves job j u
  serves_below j k u b s c e = below_in j k c b (s c e)

  pub class_admits : (h : Held) (c : RegClass) (g : Held) → admit_class job h c ≡ some g → In job g.class h.class × In job g.class c
  unfolding admit_class
  class_admits h c g e =
      let r = bind_some (common_subclass job h.class c) _ g e in
      let i = common_in job h.class c r.0 ms r.1 in
      let q : r.0 ≡ g.class = ap (λ (x : Held). x.class) (some-injective _ _ r.2) in
      (rw q at i.0, rw q at i.1)

  abbrev pub Step : Held → Held → UseKind → Type 0
  Step h g k = Below job g.class h.class × ((c : RegClass) → class_of k ≡ some c → In job g.class c)

  pub same_step : (h g : Held) (k : UseKind) → some h ≡ some g → class_of k ≡ none → Step h g k
  same_step h g k e f =
      let q : g.class ≡ h.class = ap (λ (x : Held). x.class) (sym (some-injective h g e)) in
      (inl q, λ c d. let z : ◌≡◌ {A = ℕ} 0 1 = cc in absurd (omega arith))

  pub class_step : (h : Held) (c : RegClass) (g : Held) (k : UseKind) → class_of k ≡ some c → admit_class job h c ≡ some g → Step h g k
  class_step h c g k f e =
      let i = class_admits h c g e in
      (inr i.0, λ d a. let q : c ≡ d = cc in rw q at i.1)
