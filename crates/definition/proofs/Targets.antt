-- A register to merge into is held only with the mapped group that it was read from. Assumes nothing.
use mathlib.Core.Path.{◌≡◌, refl, sym, ap, ◌∙◌, subst}
use Prim.Native.Nat.{ℕ}
use native.Mathlib.Omega.{arith}
use mathlib.Core.Bool.{true}
use mathlib.Core.Option.{Option, none, some, some-injective}
use mathlib.Core.List.{List}
use Rattle.definition.specs.Types.{Held, HeldGroup, Inst, Job, RegClass, State, Use, ValueSet, VirtReg, VirtRegGroup}
use Rattle.definition.specs.RegInfo.{common_subclass}
use Rattle.definition.specs.Admit.{admit_class, admit_group, fresh, group_fits, guard, in_group, mapped_at}
use Rattle.definition.specs.Admit.{mapping_fits, scan, sets_at, through}
use Rattle.definition.proofs.Places.{bind_some, scan_held}
use Rattle.definition.proofs.Tables.{fits_parts, guarded}

-- where no group is held, or an unmapped one, there is no register to merge into
abbrev pub Unmerged : Option HeldGroup → Option VirtReg → Type 0
Unmerged none t = t ≡ none
Unmerged (some hg) t = hg.mapped ≡ none → t ≡ none

abbrev pub HeldUnmerged : Held → Type 0
HeldUnmerged h = Unmerged h.group h.target

-- a group use of an unmapped operand was admitted: what was held before had no mapping either
unmapped_before : (t : Option VirtReg) (o : Option HeldGroup) (i : ℕ) (sets : List ValueSet) → Unmerged o t → group_fits o i none sets ≡ true → t ≡ none
unmapped_before t none i sets a e = a
unmapped_before t (some hg) i sets a e = go hg.mapped refl (fits_parts hg i none sets e).1
  where
    go : (m : Option VirtRegGroup) → hg.mapped ≡ m → mapping_fits m none ≡ true → t ≡ none
    go none q f = a q
    go (some g) q f = let z : ◌≡◌ {A = ℕ} 0 1 = cc in absurd (omega arith)

module _ (job : Job) (st : State) where
  admit_class_lem : (h : Held) (c : RegClass) (g : Held) → HeldUnmerged h → admit_class job h c ≡ some g → HeldUnmerged g
  unfolding admit_class
  admit_class_lem h c g k e =
      let r = bind_some (common_subclass job h.class c) _ g e in
      subst HeldUnmerged (some-injective _ g r.2) k

  -- by the group that the operand is mapped to
  group_target : (h : Held) (k : RegClass) (i : ℕ) (m : Option VirtRegGroup) (sets : List ValueSet) (n : RegClass × Option VirtReg) → HeldUnmerged h
      → group_fits h.group i m sets ≡ true → in_group job st h k i m ≡ some n → m ≡ none → n.1 ≡ none
  unfolding in_group
  group_target h k i none sets n a f e q =
      sym (ap (λ (x : RegClass × Option VirtReg). x.1) (some-injective _ _ e)) ∙ unmapped_before h.target h.group i sets a f
  group_target h k i (some g) sets n a f e q = let z : ◌≡◌ {A = ℕ} 0 1 = cc in absurd (omega arith)

  admit_group_lem : (h : Held) (p : Inst) (s : ℕ) (c : RegClass) (i : ℕ) (g : Held) → HeldUnmerged h → admit_group job st h p s c i ≡ some g → HeldUnmerged g
  unfolding admit_group
  admit_group_lem h p s c i g k e =
      let r = bind_some (common_subclass job h.class c) _ g e in
      let t = bind_some (guard (group_fits h.group i (mapped_at st.mapping p s) (sets_at job p s))) _ g r.2 in
      let m = mapped_at st.mapping p s in
      let n = bind_some (in_group job st h r.0 i m) _ g t.2 in
      subst HeldUnmerged (some-injective _ g n.2)
      (group_target h r.0 i m (sets_at job p s) n.0 k (guarded _ t.0 t.1) n.1)

  -- after a scan from the top class
  pub scan_unmapped : (top : RegClass) (us : List Use) (g : Held) → scan job st us (fresh top) ≡ through g → HeldUnmerged g
  unfolding fresh
  scan_unmapped top us g e = scan_held job st HeldUnmerged admit_class_lem admit_group_lem us (fresh top) g refl e
