-- What a scan holds fits the state: a place of the class, a group and a register of the state; every group operand that was scanned has
-- as many places as the class held. Subclassing need not be transitive. Assumes nothing.
use Rattle.std.specs.Prelude.{◌≡◌, ℕ, ◌≤◌, ◌<◌, get_or, Some}
use Rattle.std.specs.Prelude as code
use Rattle.std.proofs.Math.Path.{refl, sym, ap, subst}
use Rattle.std.proofs.Common.{◌∙◌}
use native.Mathlib.Omega.{arith}
use Rattle.std.proofs.Math.Option.{Option, none, some, some-injective}
use mathlib.Core.List.{List, [], ◌∷◌}
use Rattle.std.proofs.Math.ListN.{length}
use Rattle.definition.specs.declared.Inst.{Inst}
use Rattle.definition.specs.declared.RegClass.{RegClass}
use Rattle.definition.specs.declared.Use.{Use}
use Rattle.definition.specs.declared.UseKind.{UseKind}
use Rattle.definition.specs.declared.VirtReg.{VirtReg}
use Rattle.definition.specs.declared.VirtRegGroup.{VirtRegGroup}
use Rattle.definition.specs.Types.{Job, State, HeldGroup}
use Rattle.definition.specs.Types as types
use Rattle.definition.specs.RegInfo.{class_at, common_subclass}
use Rattle.definition.specs.Admit.{scan, through, fresh, members_at, mapped_at, sets_at, register_at, guard, group_fits, narrowed, at_place, in_group, admit_group, admit_class, admit_kind, admit}
use Rattle.definition.specs.Promised.{In}
use Rattle.definition.specs.Uses.{slot_of}
use Rattle.definition.proofs.Places.{All, Ok, Groups, bind_some, scan_target}
use Rattle.definition.proofs.Scans.{scan_step}
use Rattle.definition.proofs.Classes.{Masks, common_in}
use Rattle.definition.proofs.Tables.{kind_cases}
use Rattle.definition.proofs.Admission.{asked, size_of, GroupUse, KindFits, UseFits, Sizes}
use Rattle.constraints.specs.Places.{option_of}
use Rattle.constraints.specs.declared.Held.{Held}
use Rattle.constraints.specs.declared.HeldGroup as held
use Rattle.constraints.specs.Held.{group_held, group_of, held_of}
use Rattle.placing.specs.Held.{InGroup, HeldFits}
use Rattle.steps.specs.Fits.{GroupsFit, StateFits}

module _ (J : Job) (st : State) where
  -- the group that is held: one of the state's, with as many places as class c; i is one of them
  abbrev pub MapFit : RegClass → ℕ → Option VirtRegGroup → Type 0
  MapFit c i none = Unit {0}
  MapFit c i (some g) = (g.0 < length st.groups) × (i < length (members_at st g)) × (length (members_at st g) ≡ size_of J c)

  -- what is held of a group: a place of class c, and a group with as many places
  abbrev pub GroupFit : RegClass → Option HeldGroup → Type 0
  GroupFit c none = Unit {0}
  GroupFit c (some hg) = (hg.index < size_of J c) × (2 ≤ size_of J c) × MapFit c hg.index hg.mapped

-- the operand of a group use of kind k at p has as many places as the class c
abbrev pub OperandFit : Job → RegClass → Inst → UseKind → Type 0
OperandFit J c p k = (s : ℕ) → slot_of k ≡ some s → (2 ≤ size_of J c) × (size_of J (asked J p s) ≡ size_of J c)

module _ (J : Job) (ms : Masks J) (sz : Sizes J) (st : State) (ok : GroupsFit J st) where
  abbrev Fit : types.Held → Type 0
  Fit h = GroupFit J st h.class h.group

  same_map : (c d : RegClass) (i : ℕ) (m : Option VirtRegGroup) → size_of J d ≡ size_of J c → MapFit J st c i m → MapFit J st d i m
  same_map c d i none e f = tt
  same_map c d i (some g) e f = (f.0, f.1, f.2 ∙ sym e)

  narrow : (c d : RegClass) (g : Option HeldGroup) → In J d c → GroupFit J st c g → GroupFit J st d g
  narrow c d none i f = tt
  narrow c d (some hg) i f = let s : size_of J d ≡ size_of J c = sz c d i f.1 in (omega arith, omega arith, same_map c d hg.index hg.mapped s f.2)

  narrowed_size : (mem : List (Option VirtReg)) (k n : RegClass) → 2 ≤ size_of J k → narrowed J st mem k ≡ some n → size_of J n ≡ size_of J k
  unfolding narrowed
  narrowed_size [] k n l e = ap (λ (x : RegClass). size_of J x) (sym (some-injective _ _ e))
  narrowed_size (none ∷ mem) k n l e = narrowed_size mem k n l e
  narrowed_size (some v ∷ mem) k n l e =
      let r = bind_some (common_subclass J k (register_at st v).class) _ n e in
      let i = common_in J k (register_at st v).class r.0 ms r.1 in
      let s : size_of J r.0 ≡ size_of J k = sz k r.0 i.0 l in
      narrowed_size mem r.0 n (omega arith) r.2 ∙ s

  place_size : (h : types.Held) (k : RegClass) (mem : List (Option VirtReg)) (o : Option VirtReg) (n : RegClass × Option VirtReg) → 2 ≤ size_of J k
      → ((v : VirtReg) → o ≡ some v → size_of J (register_at st v).class ≡ size_of J k) → at_place J st h k mem o ≡ some n → size_of J n.0 ≡ size_of J k
  unfolding at_place
  place_size h k mem none n l f e =
      let r = bind_some (narrowed J st mem k) _ n e in
      ap (λ (x : RegClass × Option VirtReg). size_of J x.0) (sym (some-injective _ _ r.2)) ∙ narrowed_size mem k r.0 l r.1
  place_size h k mem (some v) n l f e =
      let r = bind_some (common_subclass J h.class (register_at st v).class) _ n e in
      let i = common_in J h.class (register_at st v).class r.0 ms r.1 in
      let s : size_of J (register_at st v).class ≡ size_of J k = f v refl in
      ap (λ (x : RegClass × Option VirtReg). size_of J x.0) (sym (some-injective _ _ r.2)) ∙ sz (register_at st v).class r.0 i.1 (omega arith) ∙ s

  in_size : (h : types.Held) (p : Inst) (s : ℕ) (c k : RegClass) (i : ℕ) (m : Option VirtRegGroup) (n : RegClass × Option VirtReg) → GroupUse J p s c i → size_of J k ≡ size_of J c → mapped_at st.mapping p s ≡ m
      → in_group J st h k i m ≡ some n → (size_of J n.0 ≡ size_of J c) × MapFit J st n.0 i m
  unfolding in_group
  in_size h p s c k i none n u ek q e = (ap (λ (x : RegClass × Option VirtReg). size_of J x.0) (sym (some-injective _ _ e)) ∙ ek, tt)
  in_size h p s c k i (some g) n u ek q e =
      let a = ok.mapped p s g q in
      let ec : size_of J (asked J p s) ≡ size_of J c = ap (λ (x : RegClass). size_of J x) u.0 in
      let lm : length (members_at st g) ≡ size_of J c = a.1 ∙ ec in
      let sn : size_of J n.0 ≡ size_of J k =
      place_size h k (members_at st g) (get_or (members_at st g) i none) n (omega (arith, u.1)) (λ v f. ok.members g i v a.0 f ∙ lm ∙ sym ek) e in
      (sn ∙ ek, (a.0, omega (arith, u.2), lm ∙ sym (sn ∙ ek)))

  -- the class keeps its size, where that is two or more
  abbrev SameSize : RegClass → RegClass → Type 0
  SameSize c d = 2 ≤ size_of J c → size_of J d ≡ size_of J c

  abbrev Next : types.Held → Inst → UseKind → types.Held → Type 0
  Next h p k g = Fit g × SameSize h.class g.class × OperandFit J g.class p k

  no_slot : (c : RegClass) (p : Inst) (k : UseKind) → slot_of k ≡ none → OperandFit J c p k
  no_slot c p k e s f = let z : ◌≡◌ {A = ℕ} 0 1 = cc in absurd (omega arith)

  plain_next : (h : types.Held) (p : Inst) (k : UseKind) (g : types.Held) → slot_of k ≡ none → Fit h → some h ≡ some g → Next h p k g
  plain_next h p k g n o e = subst (Next h p k) (some-injective h g e) (o, (λ l. refl), no_slot h.class p k n)

  group_next : (h : types.Held) (p : Inst) (k : UseKind) (s : ℕ) (c : RegClass) (i : ℕ) (g : types.Held) → slot_of k ≡ some s → GroupUse J p s c i → admit_group J st h p s c i ≡ some g → Next h p k g
  unfolding admit_group
  group_next h p k s c i g es u e =
      let m = mapped_at st.mapping p s in
      let sets = sets_at J p s in
      let r = bind_some (common_subclass J h.class c) _ g e in
      let j = common_in J h.class c r.0 ms r.1 in
      let t = bind_some (guard (group_fits h.group i m sets)) _ g r.2 in
      let n = bind_some (in_group J st h r.0 i m) _ g t.2 in
      let ek : size_of J r.0 ≡ size_of J c = sz c r.0 j.1 u.1 in
      let w = in_size h p s c r.0 i m n.0 u ek refl n.1 in
      let ea : size_of J (asked J p s) ≡ size_of J c = ap (λ (x : RegClass). size_of J x) u.0 in
      let same : SameSize h.class n.0.0 = λ l. w.0 ∙ sym ek ∙ sz h.class r.0 j.0 l in
      let at : OperandFit J n.0.0 p k = λ x q. (omega (arith, w.0, u.1), subst (λ (y : ℕ). size_of J (asked J p y) ≡ size_of J n.0.0) (some-injective s x (sym es ∙ q)) (ea ∙ sym w.0)) in
      subst (Next h p k) (some-injective _ _ n.2) ((omega (arith, w.0, u.2), omega (arith, w.0, u.1), w.1), same, at)

  class_next : (h : types.Held) (p : Inst) (k : UseKind) (c : RegClass) (g : types.Held) → slot_of k ≡ none → Fit h → admit_class J h c ≡ some g → Next h p k g
  unfolding admit_class
  class_next h p k c g n o e =
      let r = bind_some (common_subclass J h.class c) _ g e in
      let j = common_in J h.class c r.0 ms r.1 in
      subst (Next h p k) (some-injective _ _ r.2) (narrow h.class r.0 h.group j.0 o, sz h.class r.0 j.0, no_slot r.0 p k n)

  kind_next : (h : types.Held) (p : Inst) (k : UseKind) (g : types.Held) → Fit h → KindFits J p k → admit_kind J st h p k ≡ some g → Next h p k g
  kind_next h p k g o u e =
      kind_cases J st h g p (GroupUse J p) (λ k. Next h p k g) (λ k n m f. plain_next h p k g m o f) (λ k c n m f. class_next h p k c g m o f)
      (λ k s c i n m a f. group_next h p k s c i g m a f) k u e

  abbrev Scanned : types.Held → List Use → types.Held → Type 0
  Scanned h us g = Fit g × SameSize h.class g.class × All (λ u. OperandFit J g.class u.pos u.kind) us

  pub scan_fit : (us : List Use) (h g : types.Held) → Fit h → All (UseFits J) us → scan J st us h ≡ through g → Scanned h us g
  unfolding scan admit
  scan_fit [] h g o n e = let q : h ≡ g = cc in subst (Scanned h []) q (o, (λ l. refl), tt)
  scan_fit (u ∷ us) h g o n e =
      let r = scan_step J st u us h g e in
      let k = r.0 in
      let a = kind_next h u.pos u.kind k o n.0 r.1 in
      let b = scan_fit us k g a.0 n.1 r.2 in
      let same : SameSize h.class g.class = λ l. let x : size_of J k.class ≡ size_of J h.class = a.1 l in b.1 (omega arith) ∙ x in
      let at : OperandFit J g.class u.pos u.kind =
      λ s q. let y : 2 ≤ size_of J k.class = (a.2 s q).0 in let x : size_of J g.class ≡ size_of J k.class = b.1 y in (omega arith, (a.2 s q).1 ∙ sym x) in
      (b.0, same, (at, b.2))

  -- ---- as the code holds it

  module _ (us : List Use) (top : RegClass) (h : Held) (kf : All (UseFits J) us) (e : scan J st us (fresh top) ≡ through (held_of h)) where
    held_group : GroupFit J st h.class (group_of h.group)
    unfolding held_of fresh
    held_group = (scan_fit us (fresh top) (held_of h) tt kf e).0

    module _ (g : held.HeldGroup) (eg : h.group ≡ Some g) where
      group_fit : GroupFit J st h.class (some (group_held g))
      group_fit = subst (λ (o : code.Option held.HeldGroup). GroupFit J st h.class (group_of o)) eg held_group

      pub index_fits : g.index < (class_at J h.class).size
      index_fits = group_fit.0

      pub group_fits_lem : (m : VirtRegGroup) → g.mapped ≡ Some m → InGroup m g.index st
      group_fits_lem m q = let z = subst (λ (o : code.Option VirtRegGroup). MapFit J st h.class g.index (option_of o)) q group_fit.2 in (z.0, z.1)

    pub target_fits : Groups st → (v : VirtReg) → h.target ≡ Some v → v.0 < length st.registers
    unfolding held_of fresh
    target_fits gs v q = subst (λ (o : code.Option VirtReg). Ok (length st.registers) (option_of o)) q (scan_target J st gs us (fresh top) (held_of h) tt e)

-- what a scan holds, from the top class, fits the state
pub held_fits : (J : Job) → Masks J → Sizes J → ((c : RegClass) → (class_at J c).size ≤ 8) → (st : State) → StateFits J st → (us : List Use) (top : RegClass) (h : Held) → All (UseFits J) us
    → scan J st us (fresh top) ≡ through (held_of h) → HeldFits J st h
held_fits J ms sz w st f us top h kf e = record {
  index = λ g q. (index_fits J ms sz st f.fit us top h kf e g q, w h.class);
  group = λ g m q r. group_fits_lem J ms sz st f.fit us top h kf e g q m r;
  target = λ g v q t. target_fits J ms sz st f.fit us top h kf e f.groups v t;
}
