-- The word for a place of any group. Assumes nothing.
use mathlib.Core.Path.{◌≡◌, refl, sym, ap, ◌∙◌}
use mathlib.Core.Bool.{Bool, true, false}
use mathlib.Core.Option.{Option, none, some}
use mathlib.Core.List.{List, []}
use Prim.Native.Nat.{ℕ, ◌+◌, ◌-◌, ◌*◌, ◌≤◌, ◌<◌}
use native.Mathlib.Omega.{arith}
use lib.Dec.{ltb}
use lib.ListN.{length, get_or, get_or-eq_default}
use borrow.Author.Tests.{ltb-true, ltb-false}
use Rattle.definition.specs.declared.VirtReg.{VirtReg}
use Rattle.definition.specs.declared.VirtRegGroup.{VirtRegGroup}
use Rattle.definition.specs.Limits.{max_group}
use Rattle.definition.specs.Types.{State, vreg, vrgroup}
use Rattle.definition.specs.Admit.{members_at}
use Rattle.virt_regs.specs.declared.OutLayout.{OutLayout}
use Rattle.words.specs.Tables.{table_zero}
use Rattle.virt_regs.specs.Held.{fit_groups}
use Rattle.virt_regs.specs.Encoding.{group_row, tables, contents, group_base, group_word, place_word, Holds}
use Rattle.virt_regs.specs.Counting.{length_groups}
use Rattle.virt_regs.specs.Reads.{member_held, size_le, member_lt}
use Rattle.std.specs.Prelude.{Some, None, IfSome, IsSomeAnd, MatchOption}
use Rattle.std.specs.Option.{option_map}
use Rattle.constraints.specs.Places.{number_word, option_of}
use Rattle.std.specs.Prelude as code

-- ---- what a word stands for

-- what `map` with f makes of n
pub mapped_is : {A : Type 0} {P : ℕ → A → Type 0} (f : ℕ → A) (n : code.Option ℕ) (r : code.Option A) → MatchOption n (r ≡ None) (λ x. IsSomeAnd r (P x)) → ((x : ℕ) (y : A) → P x y → y ≡ f x) → r ≡ option_map f n
mapped_is f None r e g = e
mapped_is f (Some x) None e g = absurd e
mapped_is f (Some x) (Some y) e g = ap Some (g x y e)

-- the number n in a word w, where there is one
pub reg_read : (w : ℕ) (n : code.Option ℕ) (r : code.Option VirtReg) (o : Option VirtReg) → w ≡ number_word n → r ≡ option_map vreg n → w ≡ place_word o → option_of r ≡ o
reg_read w n r o ew er eo = ap option_of er ∙ go n o (sym ew ∙ eo)
  where
    go : (n : code.Option ℕ) (o : Option VirtReg) → number_word n ≡ place_word o → option_of (option_map vreg n) ≡ o
    go None none e = refl
    go (Some n) none e = absurd (omega arith)
    go None (some v) e = absurd (omega arith)
    go (Some n) (some v) e = let q : n ≡ v.0 = omega arith in ap (λ (x : ℕ). some (vreg x)) q

-- the word of a group that is read, and no two have one word
pub group_read : (w : ℕ) (n : code.Option ℕ) (r : code.Option VirtRegGroup) → w ≡ number_word n → r ≡ option_map vrgroup n → w ≡ group_word (option_of r)
group_read w n r ew er = ew ∙ go n ∙ sym (ap (λ (x : code.Option VirtRegGroup). group_word (option_of x)) er)
  where
    go : (n : code.Option ℕ) → number_word n ≡ group_word (option_of (option_map vrgroup n))
    go None = refl
    go (Some n) = refl

pub group_same : (a b : Option VirtRegGroup) → group_word a ≡ group_word b → a ≡ b
group_same none none e = refl
group_same (some g) none e = absurd (omega arith)
group_same none (some g) e = absurd (omega arith)
group_same (some g) (some f) e = let q : g.0 ≡ f.0 = omega arith in ap (λ (x : ℕ). some (vrgroup x)) q

module _ (ol : OutLayout) (O : List ℕ) (st : State) (h : Holds ol O st) (g : VirtRegGroup) where
  -- a group past the last has no members
  no_members : length st.groups ≤ g.0 → members_at st g ≡ []
  unfolding members_at
  no_members l = get_or-eq_default st.groups [] l

  pub width : length (members_at st g) ≤ max_group
  width = go (ltb g.0 (length st.groups)) refl
    where
      go : (b : Bool) → ltb g.0 (length st.groups) ≡ b → length (members_at st g) ≤ max_group
      go true e = size_le ol O st h g (ltb-true _ _ e)
      go false e = rw (no_members (ltb-false _ _ e)) (omega arith)

  pub member_in : (i : ℕ) (v : VirtReg) → get_or (members_at st g) i none ≡ some v → v.0 < length st.registers
  member_in i v e = go (ltb g.0 (length st.groups)) refl
    where
      go : (b : Bool) → ltb g.0 (length st.groups) ≡ b → v.0 < length st.registers
      go true q = member_lt ol O st h g i v (ltb-true _ _ q) e
      go false q =
          let n : ◌≡◌ {A = Option VirtReg} none (some v) = sym (ap (λ (ms : List (Option VirtReg)). get_or ms i none) (no_members (ltb-false _ _ q))) ∙ e in
          let z : ◌≡◌ {A = ℕ} 0 1 = cc in
          absurd (omega arith)

  -- the words behind the last group are zeros
  zero_word : (j : ℕ) → length st.groups * group_row ≤ j → j < ol.groups * group_row → get_or O (group_base ol + j) 0 ≡ 0
  zero_word j l k =
      table_zero (tables ol) (contents st) O h.tabled 3 (omega arith) (group_base ol + j) j refl (omega (arith, length_groups st.groups)) k

  pub place_word_lem : (i w : ℕ) → i < max_group → g.0 < ol.groups → w ≡ get_or O (group_base ol + (g.0 * group_row + (i + 1))) 0 → w ≡ place_word (get_or (members_at st g) i none)
  place_word_lem i w l k e = e ∙ go (ltb g.0 (length st.groups)) refl
    where
      go : (b : Bool) → ltb g.0 (length st.groups) ≡ b → get_or O (group_base ol + (g.0 * group_row + (i + 1))) 0 ≡ place_word (get_or (members_at st g) i none)
      go true q = member_held ol O st h g i (ltb-true _ _ q) l
      go false q =
          let p : length st.groups ≤ g.0 = ltb-false _ _ q in
          zero_word (g.0 * group_row + (i + 1)) (omega arith) (omega arith)
          ∙ sym (ap (λ (ms : List (Option VirtReg)). place_word (get_or ms i none)) (no_members p))

  pub no_place : (i : ℕ) → max_group ≤ i → none ≡ get_or (members_at st g) i none
  no_place i l =
      let p : length (members_at st g) ≤ i = omega (arith, width) in
      sym (get_or-eq_default (members_at st g) none p)

  pub no_group : (i : ℕ) → ol.groups ≤ g.0 → none ≡ get_or (members_at st g) i none
  no_group i l =
      let p : length st.groups ≤ g.0 = omega (arith, fit_groups h) in
      sym (ap (λ (ms : List (Option VirtReg)). get_or ms i none) (no_members p))

  -- a member is one of the registers
  pub member_known : (i : ℕ) (o : code.Option VirtReg) → option_of o ≡ get_or (members_at st g) i none → IfSome o (λ v. v.0 < length st.registers)
  member_known i None e = tt
  member_known i (Some v) e = member_in i v (sym e)
