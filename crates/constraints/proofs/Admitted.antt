-- Each way through admission. Assumes nothing.
use mathlib.Core.Path.{◌≡◌, refl, sym, ap, ap₂, subst, ◌∙◌}
use mathlib.Core.Bool.{Bool, true, false}
use mathlib.Core.Option.{Option, none, some, bind}
use mathlib.Core.List.{List}
use Prim.Native.Nat.{ℕ}
use borrow.Author.Tests.{eq-eqb, ne_eqb}
use Rattle.definition.specs.declared.Inst.{Inst}
use Rattle.definition.specs.declared.RegClass.{RegClass}
use Rattle.definition.specs.declared.ValueSet.{ValueSet}
use Rattle.definition.specs.declared.VirtRegGroup.{VirtRegGroup}
use Rattle.definition.specs.declared.UseKind.{UseKind}
use Rattle.definition.specs.declared.UseKind.TheVariants.{FixedDef, FixedUse, TiedUse, ConstraintConflict, ClassUse, ClassDef, GroupClassUse, GroupClassDef, BlockparamIn, BlockparamOut}
use Rattle.definition.specs.declared.Use.{Use}
use Rattle.definition.specs.Types.{Job, State}
use Rattle.definition.specs.Types as types
use Rattle.definition.specs.RegInfo.{common_subclass}
use Rattle.definition.specs.Admit.{mapped_at, sets_at, same_sets, mapping_fits, group_fits, guard, in_group, admit_class, admit_group, admit_kind, admit}
use Rattle.std.specs.Prelude.{Some, None}
use Rattle.std.specs.Prelude as code
use Rattle.reginfo.specs.Rows.{found_of}
use Rattle.constraints.specs.declared.members.Joined.{Joined}
use Rattle.constraints.specs.Places.{option_of, joined_of}
use Rattle.constraints.proofs.Narrowing.{found_some, found_none, bind_some, bind_none}
use Rattle.constraints.specs.declared.GroupUse.{GroupUse}
use Rattle.constraints.specs.declared.Ask.{Ask}
use Rattle.constraints.specs.declared.Ask.TheVariants.{Any, Group}
use Rattle.constraints.specs.declared.OperandGroup.{OperandGroup}
use Rattle.constraints.specs.Asks.{ask_of}
use Rattle.constraints.specs.declared.Held.{Held}
use Rattle.constraints.specs.declared.HeldGroup.{HeldGroup}
use Rattle.constraints.specs.Held.{group_of, held_of, admission_of, holding, into_group}
use Rattle.constraints.specs.Ready.{HasOperand, BackedAsk, Backed}

-- ---- what an answer stands for

pub answer_yes : (a : code.Option Held) (o : Option types.Held) (h : Held) → admission_of a ≡ o → a ≡ Some h → o ≡ some (held_of h)
unfolding admission_of
answer_yes a o h e q = sym e ∙ rw q

pub answer_no : (a : code.Option Held) (o : Option types.Held) → admission_of a ≡ o → a ≡ None → o ≡ none
unfolding admission_of
answer_no a o e q = sym e ∙ rw q

pub held_class : (h : Held) → (held_of h).class ≡ h.class
unfolding held_of
held_class h = refl

pub held_target : (h : Held) → (held_of h).target ≡ option_of h.target
unfolding held_of
held_target h = refl

pub held_group : (h : Held) → (held_of h).group ≡ group_of h.group
unfolding held_of
held_group h = refl

-- ---- a class use

module _ (job : Job) (h : Held) (c : RegClass) (f : code.Option RegClass) (e : f ≡ found_of (common_subclass job h.class c)) where
  pub class_yes : (k : RegClass) → f ≡ Some k
      → admission_of (Some (record { class = k; group = h.group; target = h.target })) ≡ admit_class job (held_of h) c
  unfolding admission_of held_of admit_class
  class_yes k q = sym (bind_some _ (found_some f (common_subclass job h.class c) k e q))

  pub class_no : f ≡ None → admission_of None ≡ admit_class job (held_of h) c
  unfolding admission_of held_of admit_class
  class_no q = sym (bind_none _ (found_none f (common_subclass job h.class c) e q))

-- ---- what a group use must fit

module _ (before : code.Option HeldGroup) (i : ℕ) (m : Option VirtRegGroup) (sets : List ValueSet) where
  pub fits_first : before ≡ None → true ≡ group_fits (group_of before) i m sets
  unfolding group_fits
  fits_first e = rw e

  module _ (h : HeldGroup) (e : before ≡ Some h) where
    pub fits_index : (h.index ≡ i → ⊥) → false ≡ group_fits (group_of before) i m sets
    unfolding group_fits
    fits_index ne = rw (e, ne_eqb h.index i ne)

    pub fits_mapping : (b : Bool) → h.index ≡ i → b ≡ mapping_fits (option_of h.mapped) m → b ≡ false → false ≡ group_fits (group_of before) i m sets
    unfolding group_fits
    fits_mapping b ei em eb = let q : mapping_fits (option_of h.mapped) m ≡ false = sym em ∙ eb in rw (e, eq-eqb h.index i ei, q)

    pub fits_sets : (b r : Bool) → h.index ≡ i → b ≡ mapping_fits (option_of h.mapped) m → b ≡ true → r ≡ same_sets h.sets sets → r ≡ group_fits (group_of before) i m sets
    unfolding group_fits
    fits_sets b r ei em eb er = let q : mapping_fits (option_of h.mapped) m ≡ true = sym em ∙ eb in rw (e, eq-eqb h.index i ei, q) er

-- ---- what a group use leads to

module _ (job : Job) (st : State) (h : Held) (k : RegClass) (i : ℕ) (g : OperandGroup) (b : Bool) (fit : b ≡ group_fits (group_of h.group) i (option_of g.mapped) g.sets) where
  into : (n : code.Option Joined) → b ≡ true → joined_of n ≡ in_group job st (held_of h) k i (option_of g.mapped)
      → into_group job st (held_of h) k i (option_of g.mapped) g.sets ≡ bind (joined_of n) (λ x. some (holding i (option_of g.mapped) g.sets x))
  unfolding into_group guard bind held_of
  into n e en = let q : group_fits (group_of h.group) i (option_of g.mapped) g.sets ≡ true = sym fit ∙ e in rw (q, ← en)

  pub into_yes : (n : code.Option Joined) (j : Joined) → b ≡ true → joined_of n ≡ in_group job st (held_of h) k i (option_of g.mapped) → n ≡ Some j
      → admission_of (Some (record { class = j.class; group = Some (record { index = i; mapped = g.mapped; sets = g.sets }); target = j.target })) ≡ into_group job st (held_of h) k i (option_of g.mapped) g.sets
  unfolding admission_of held_of joined_of bind
  into_yes n j e en q = sym (into n e en ∙ rw q)

  pub into_none : (n : code.Option Joined) → b ≡ true → joined_of n ≡ in_group job st (held_of h) k i (option_of g.mapped) → n ≡ None
      → admission_of None ≡ into_group job st (held_of h) k i (option_of g.mapped) g.sets
  unfolding admission_of joined_of bind
  into_none n e en q = sym (into n e en ∙ rw q)

  pub into_no : b ≡ false → admission_of None ≡ into_group job st (held_of h) k i (option_of g.mapped) g.sets
  unfolding admission_of into_group guard bind held_of
  into_no e = let q : group_fits (group_of h.group) i (option_of g.mapped) g.sets ≡ false = sym fit ∙ e in rw q

module _ (job : Job) (st : State) (h : Held) (p : Inst) (s : ℕ) (c : RegClass) (i : ℕ) (f : code.Option RegClass) (e : f ≡ found_of (common_subclass job h.class c)) where
  pub group_no : f ≡ None → admission_of None ≡ admit_group job st (held_of h) p s c i
  unfolding admission_of held_of admit_group
  group_no q = sym (bind_none _ (found_none f (common_subclass job h.class c) e q))

  pub group_yes : (k : RegClass) (g : OperandGroup) (r : code.Option Held) → f ≡ Some k → option_of g.mapped ≡ mapped_at st.mapping p s → g.sets ≡ sets_at job p s
      → admission_of r ≡ into_group job st (held_of h) k i (option_of g.mapped) g.sets → admission_of r ≡ admit_group job st (held_of h) p s c i
  unfolding admit_group into_group held_of
  group_yes k g r q em es er =
      er
      ∙ ap₂ (λ (m : Option VirtRegGroup) (x : List ValueSet). into_group job st (held_of h) k i m x) em es
      ∙ sym (bind_some _ (found_some f (common_subclass job h.class c) k e q))

-- ---- by what the use asks

-- the admission by what is asked
unfoldable admit_ask : Job → State → types.Held → Inst → Ask → Option types.Held
unfolding admit_class admit_group
admit_ask job st h p Any = some h
admit_ask job st h p (Ask.Class c) = admit_class job h c
admit_ask job st h p (Group g) = admit_group job st h p g.slot g.class g.index

asked : (job : Job) (st : State) (h : types.Held) (p : Inst) (k : UseKind) → admit_ask job st h p (ask_of k) ≡ admit_kind job st h p k
unfolding admit_ask admit_kind
asked job st h p (FixedDef r) = refl
asked job st h p (FixedUse r) = refl
asked job st h p (TiedUse a b c i) = refl
asked job st h p ConstraintConflict = refl
asked job st h p (ClassUse s c) = refl
asked job st h p (ClassDef s c) = refl
asked job st h p (GroupClassUse s c i) = refl
asked job st h p (GroupClassDef s c i) = refl
asked job st h p (BlockparamIn q) = refl
asked job st h p BlockparamOut = refl

module _ (job : Job) (st : State) (h : Held) (u : Use) (a : Ask) (e : a ≡ ask_of u.kind) where
  by_ask : (b : Ask) → a ≡ b → admit_ask job st (held_of h) u.pos b ≡ admit job st (held_of h) u
  unfolding admit
  by_ask b q = ap (λ (x : Ask). admit_ask job st (held_of h) u.pos x) (sym q ∙ e) ∙ asked job st (held_of h) u.pos u.kind

  pub by_any : a ≡ Any → admission_of (Some h) ≡ admit job st (held_of h) u
  unfolding admission_of admit_ask
  by_any q = by_ask Any q

  pub by_class : (o : Option types.Held) (c : RegClass) → a ≡ Ask.Class c → o ≡ admit_class job (held_of h) c → o ≡ admit job st (held_of h) u
  unfolding admit_ask
  by_class o c q r = r ∙ by_ask (Ask.Class c) q

  pub by_group : (o : Option types.Held) (g : GroupUse) → a ≡ Group g → Backed job u
      → (HasOperand job u.pos g.slot → o ≡ admit_group job st (held_of h) u.pos g.slot g.class g.index) → o ≡ admit job st (held_of h) u
  unfolding admit_ask Backed BackedAsk
  by_group o g q b r = r (subst (λ (x : Ask). BackedAsk job u.pos x) (sym e ∙ q) b) ∙ by_ask (Group g) q
