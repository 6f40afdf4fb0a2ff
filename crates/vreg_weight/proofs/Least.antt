-- `lesser_at`, `lesser_other` and the loop of `least_weight`. Assumes nothing.
use mathlib.Core.Path.{◌≡◌, refl, sym, ap, ◌∙◌}
use mathlib.Core.Option.{Option, none, some}
use mathlib.Core.List.{List, [], ◌∷◌}
use Prim.Native.Nat.{ℕ, zero, suc, ◌+◌, ◌-◌, ◌*◌, ◌≤◌, ◌<◌}
use native.Mathlib.Numerals.{add-one}
use native.Mathlib.Omega.{arith}
use lib.ListN.{get_or, drop, drop_of_length-le}
use lib.Ieee.{Float, binary32, to_bits, of_bits}
use borrow.Author.Tests.{eq-eqb, ne_eqb}
use Rattle.definition.specs.declared.VirtReg.{VirtReg}
use Rattle.definition.specs.declared.VirtRegGroup.{VirtRegGroup}
use Rattle.definition.specs.Types.{State}
use Rattle.definition.specs.Weights.{min_f}
use Rattle.definition.specs.Admit.{register_at, members_at}
use Rattle.definition.specs.Place.{least_weight}
use Rattle.weights.proofs.Bits.{bits_back}
use Rattle.virt_regs.specs.declared.OutLayout.{OutLayout}
use Rattle.virt_regs.specs.Encoding.{group_base, place_word, Weighs}
use Rattle.vreg_weight.specs.Members.{Members}
use Rattle.vreg_weight.specs.Weighed.{BitsOf, lesser_at}

-- ---- a place's word

-- what `lesser_at` says of the word m
abbrev pub Lesser : OutLayout → List ℕ → ℕ → ℕ → ℕ → Type 0
Lesser ol O m w r = (m ≡ 0 → r ≡ w)
    × ((v : VirtReg) (x : Float) → m ≡ v.0 + 1 → v.0 < ol.regs → get_or O (v.0 * 8 + 2) 0 ≡ to_bits binary32 x → Weighs x → of_bits binary32 r ≡ min_f (of_bits binary32 w) x)

pub lesser_empty : (ol : OutLayout) (O : List ℕ) (m w : ℕ) → m ≡ 0 → Lesser ol O m w w
lesser_empty ol O m w z = (λ e. refl, λ v x e l b q. absurd (omega arith))

pub lesser_past : (ol : OutLayout) (O : List ℕ) (m w : ℕ) → ol.regs < m → Lesser ol O m w w
lesser_past ol O m w l = (λ e. refl, λ v x e k b q. absurd (omega arith))

pub lesser_over : (ol : OutLayout) (O : List ℕ) (m w b : ℕ) → b ≡ get_or O ((m - 1) * 8 + 2) 0 → 0x7f80_0000 < b → Lesser ol O m w w
unfolding Weighs
lesser_over ol O m w b e l = (
  λ z. refl,
  λ v x em k f q.
      let n : m - 1 ≡ v.0 = omega arith in
      let g : b ≡ to_bits binary32 x = e ∙ ap (λ (i : ℕ). get_or O (i * 8 + 2) 0) n ∙ f in
      absurd (omega (arith, q.1)),
)

pub lesser_found : (ol : OutLayout) (O : List ℕ) (m w b r : ℕ) → (m ≡ 0 → ⊥) → b ≡ get_or O ((m - 1) * 8 + 2) 0
    → (of_bits binary32 r ≡ min_f (of_bits binary32 w) (of_bits binary32 b)) → Lesser ol O m w r
unfolding Weighs
lesser_found ol O m w b r z e f = (
  λ e. absurd (z e),
  λ v x em k g q.
      let n : m - 1 ≡ v.0 = omega arith in
      let d : of_bits binary32 b ≡ x = ap (of_bits binary32) (e ∙ ap (λ (i : ℕ). get_or O (i * 8 + 2) 0) n ∙ g) ∙ q.0 in
      f ∙ ap (λ (y : Float). min_f (of_bits binary32 w) y) d,
)

-- ---- place j of a group

abbrev pub LesserOther : OutLayout → List ℕ → VirtRegGroup → ℕ → ℕ → ℕ → ℕ → Type 0
LesserOther ol O g i j w r = (st : State) → Members ol O st g → of_bits binary32 r ≡ lesser_at st i j (get_or (members_at st g) j none) (of_bits binary32 w)

at_self : (st : State) (i j : ℕ) (o : Option VirtReg) (x : Float) → i ≡ j → x ≡ lesser_at st i j o x
unfolding lesser_at
at_self st i j none x e = refl
at_self st i j (some r) x e = rw (eq-eqb i j e)

pub other_self : (ol : OutLayout) (O : List ℕ) (g : VirtRegGroup) (i j w : ℕ) → i ≡ j → LesserOther ol O g i j w w
other_self ol O g i j w e st p = at_self st i j (get_or (members_at st g) j none) (of_bits binary32 w) e

pub other_member : (ol : OutLayout) (O : List ℕ) (g : VirtRegGroup) (i j w m r : ℕ) → (i ≡ j → ⊥) → j < 8 → m ≡ get_or O (group_base ol + (g.0 * 9 + (j + 1))) 0 → Lesser ol O m w r → LesserOther ol O g i j w r
unfolding lesser_at
other_member ol O g i j w m r ne k em les st p =
    go st p (get_or (members_at st g) j none) refl
  where
    go : (st : State) → Members ol O st g → (o : Option VirtReg) → get_or (members_at st g) j none ≡ o → of_bits binary32 r ≡ lesser_at st i j o (of_bits binary32 w)
    go st p none e = ap (of_bits binary32) (les.0 (em ∙ p.places j k ∙ ap place_word e))
    go st p (some v) e =
        rw (ne_eqb i j ne) (les.1 v (register_at st v).weight (em ∙ p.places j k ∙ ap place_word e) (p.there j v e) (p.weights j v e) (p.weighs j v e))

-- ---- all places

-- one place of the definition
least_step : (st : State) (i j k : ℕ) (ms : List (Option VirtReg)) (x : Float)
    → least_weight st i j (drop k ms) x ≡ least_weight st i (suc j) (drop (suc k) ms) (lesser_at st i j (get_or ms k none) x)
unfolding least_weight lesser_at
least_step st i j zero [] x = refl
least_step st i j (suc k) [] x = refl
least_step st i j zero (none ∷ ms) x = refl
least_step st i j zero (some r ∷ ms) x = refl
least_step st i j (suc k) (m ∷ ms) x = least_step st i j k ms x

abbrev pub Leasting : OutLayout → List ℕ → VirtRegGroup → ℕ → ℕ → ℕ → ℕ → Type 0
Leasting ol O g i w least j = (j ≤ 8)
    × ((st : State) → Members ol O st g → least_weight st i 0 (members_at st g) (of_bits binary32 w) ≡ least_weight st i j (drop j (members_at st g)) (of_bits binary32 least))

pub least_next : (ol : OutLayout) (O : List ℕ) (g : VirtRegGroup) (i w least j r : ℕ) → j < 8 → Leasting ol O g i w least j → LesserOther ol O g i j least r → Leasting ol O g i w r (j + 1)
least_next ol O g i w least j r h s t = (
  omega arith,
  λ st p.
      s.1 st p
      ∙ least_step st i j j (members_at st g) (of_bits binary32 least)
      ∙ ap (λ (x : Float). least_weight st i (suc j) (drop (suc j) (members_at st g)) x) (sym (t st p))
      ∙ ap (λ (k : ℕ). least_weight st i k (drop k (members_at st g)) (of_bits binary32 r)) (sym (add-one j)),
)

pub least_end : (ol : OutLayout) (O : List ℕ) (g : VirtRegGroup) (i w least j : ℕ) → least ≤ 0x7f80_0000 → 8 ≤ j → Leasting ol O g i w least j
    → (st : State) → Members ol O st g → BitsOf least (least_weight st i 0 (members_at st g) (of_bits binary32 w))
unfolding least_weight
least_end ol O g i w least j h k s st p =
    let d : drop j (members_at st g) ≡ [] = drop_of_length-le (members_at st g) {i = j} (omega (arith, p.size)) in
    let e : least_weight st i 0 (members_at st g) (of_bits binary32 w) ≡ of_bits binary32 least =
    s.1 st p ∙ ap (λ (ms : List (Option VirtReg)). least_weight st i j ms (of_bits binary32 least)) d in
    (sym (bits_back least h) ∙ ap (to_bits binary32) (sym e), sym e)
