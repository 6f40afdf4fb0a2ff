-- A use admitted by what it asks, and what it leads to. Assumes nothing.
use mathlib.Core.Path.{◌≡◌, refl, sym, ap, subst, ◌∙◌}
use mathlib.Core.Bool.{true}
use mathlib.Core.Option.{some}
use mathlib.Core.List.{List}
use Prim.Native.Nat.{ℕ}
use native.Mathlib.Omega.{arith}
use lib.Bits.{bit_and}
use lib.Dec.{eqb}
use borrow.Author.Tests.{eqb-true}
use Rattle.std.specs.Prelude.{Some, None}
use Rattle.std.specs.Prelude as code
use Rattle.definition.specs.declared.RegClass.{RegClass}
use Rattle.definition.specs.declared.ClassData.{ClassData}
use Rattle.definition.specs.declared.Inst.{Inst}
use Rattle.definition.specs.declared.Use.{Use}
use Rattle.definition.specs.declared.UseKind.{UseKind}
use Rattle.definition.specs.declared.UseKind.TheVariants.{FixedDef, FixedUse, TiedUse, ConstraintConflict, ClassUse, ClassDef, GroupClassUse, GroupClassDef, BlockparamIn, BlockparamOut}
use Rattle.definition.specs.Types.{Job, State, cls}
use Rattle.definition.specs.Types as types
use Rattle.definition.specs.RegInfo.{class_at, lowest, common_subclass}
use Rattle.definition.specs.Admit.{admit, admit_kind, admit_class}
use Rattle.reginfo.specs.Rows.{found_of, mask_in}
use Rattle.constraints.proofs.Narrowing.{found_some, found_none, bind_some, bind_none}
use Rattle.constraints.specs.Asks.{ask_of}
use Rattle.scans.specs.declared.walk.Masked.{Masked}
use Rattle.scans.specs.declared.walk.Asked.{Asked}
use Rattle.scans.specs.declared.walk.Asked.TheVariants.{Any, Class}
use Rattle.scans.specs.declared.walk.Met.TheVariants as met
use Rattle.scans.specs.Walks.{asked_of, IsMasked, Narrows, with_class, Meets}

-- ---- the common subclass, on masks

module _ (cs : List ClassData) (held : Masked) (e : IsMasked cs held) (own : RegClass) (w : ℕ) (ew : w ≡ mask_in cs own)
    (f : code.Option RegClass) (ef : f ≡ found_of (lowest (bit_and held.mask w))) where
  common_is : (job : Job) → job.classes ≡ cs → lowest (bit_and held.mask w) ≡ common_subclass job held.class own
  unfolding common_subclass class_at mask_in
  common_is job ej = rw (e, ew, ej)

  pub narrows_none : f ≡ None → Narrows cs held.class own None
  unfolding Narrows
  narrows_none q = λ job ej. sym (common_is job ej) ∙ found_none f _ ef q

  pub narrows_some : (m : Masked) → f ≡ Some m.class → IsMasked cs m → Narrows cs held.class own (Some m)
  unfolding Narrows
  narrows_some m q em = (em, λ job ej. sym (common_is job ej) ∙ found_some f _ m.class ef q)

  -- the class stays
  pub narrows_same : (k : RegClass) → f ≡ Some k → eqb k.0 held.class.0 ≡ true → Narrows cs held.class own (Some held)
  narrows_same k q t =
      let n : k.0 ≡ held.class.0 = eqb-true k.0 held.class.0 t in
      let z : k ≡ held.class = ap cls n in
      narrows_some held (q ∙ ap Some z) e

-- ---- admission by what is asked

module _ (job : Job) (st : State) (h : types.Held) where
  kind_any : (p : Inst) (k : UseKind) → asked_of (ask_of k) ≡ Any → admit_kind job st h p k ≡ some h
  unfolding admit_kind
  kind_any p (FixedDef r) e = refl
  kind_any p (FixedUse r) e = refl
  kind_any p (TiedUse a b c i) e = refl
  kind_any p ConstraintConflict e = refl
  kind_any p (ClassUse s c) e = let z : ◌≡◌ {A = ℕ} 0 1 = cc in absurd (omega arith)
  kind_any p (ClassDef s c) e = let z : ◌≡◌ {A = ℕ} 0 1 = cc in absurd (omega arith)
  kind_any p (GroupClassUse s c i) e = let z : ◌≡◌ {A = ℕ} 0 1 = cc in absurd (omega arith)
  kind_any p (GroupClassDef s c i) e = let z : ◌≡◌ {A = ℕ} 0 1 = cc in absurd (omega arith)
  kind_any p (BlockparamIn q) e = refl
  kind_any p BlockparamOut e = refl

  kind_class : (p : Inst) (k : UseKind) (c : RegClass) → asked_of (ask_of k) ≡ Class c → admit_kind job st h p k ≡ admit_class job h c
  unfolding admit_kind
  kind_class p (FixedDef r) c e = let z : ◌≡◌ {A = ℕ} 0 1 = cc in absurd (omega arith)
  kind_class p (FixedUse r) c e = let z : ◌≡◌ {A = ℕ} 0 1 = cc in absurd (omega arith)
  kind_class p (TiedUse a b d i) c e = let z : ◌≡◌ {A = ℕ} 0 1 = cc in absurd (omega arith)
  kind_class p ConstraintConflict c e = let z : ◌≡◌ {A = ℕ} 0 1 = cc in absurd (omega arith)
  kind_class p (ClassUse s d) c e = let q : d ≡ c = cc in ap (λ (x : RegClass). admit_class job h x) q
  kind_class p (ClassDef s d) c e = let q : d ≡ c = cc in ap (λ (x : RegClass). admit_class job h x) q
  kind_class p (GroupClassUse s d i) c e = let z : ◌≡◌ {A = ℕ} 0 1 = cc in absurd (omega arith)
  kind_class p (GroupClassDef s d i) c e = let z : ◌≡◌ {A = ℕ} 0 1 = cc in absurd (omega arith)
  kind_class p (BlockparamIn q) c e = let z : ◌≡◌ {A = ℕ} 0 1 = cc in absurd (omega arith)
  kind_class p BlockparamOut c e = let z : ◌≡◌ {A = ℕ} 0 1 = cc in absurd (omega arith)

  pub admit_any : (u : Use) → asked_of (ask_of u.kind) ≡ Any → admit job st h u ≡ some h
  unfolding admit
  admit_any u e = kind_any u.pos u.kind e

  admit_own : (u : Use) (c : RegClass) → asked_of (ask_of u.kind) ≡ Class c → admit job st h u ≡ admit_class job h c
  unfolding admit
  admit_own u c e = kind_class u.pos u.kind c e

-- ---- what a use leads to

module _ (cs : List ClassData) (u : Use) (c : RegClass) (a : Asked) (ea : a ≡ asked_of (ask_of u.kind)) where
  pub meets_any : (m : Masked) → m.class ≡ c → IsMasked cs m → a ≡ Any → Meets cs u c (met.Passed m)
  unfolding Meets
  meets_any m em im e = (
    im,
    λ job st h ej. admit_any job st (with_class h c) u (sym ea ∙ e) ∙ ap (λ (k : RegClass). some (with_class h k)) (sym em),
  )

  pub meets_group : Meets cs u c met.Group
  unfolding Meets
  meets_group = tt

  module _ (own : RegClass) (e : a ≡ Class own) (f : code.Option Masked) (n : Narrows cs c own f) where
    pub meets_class : (m : Masked) → f ≡ Some m → Meets cs u c (met.Passed m)
    unfolding Meets Narrows admit_class
    meets_class m q =
        let g : Narrows cs c own (Some m) = subst (λ (x : code.Option Masked). Narrows cs c own x) q n in (
          g.0,
          λ job st h ej. admit_own job st (with_class h c) u own (sym ea ∙ e) ∙ bind_some _ (g.1 job ej),
        )

    pub meets_refused : f ≡ None → Meets cs u c met.Refused
    unfolding Meets Narrows admit_class
    meets_refused q =
        let g : Narrows cs c own None = subst (λ (x : code.Option Masked). Narrows cs c own x) q n in
        λ job st h ej. admit_own job st (with_class h c) u own (sym ea ∙ e) ∙ bind_none _ (g job ej)
