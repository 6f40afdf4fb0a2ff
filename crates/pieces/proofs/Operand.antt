-- One operand mapped. Assumes nothing.
use mathlib.Core.Path.{◌≡◌, refl, sym, ap, ap₂, ◌∙◌, subst}
use mathlib.Core.Bool.{Bool, true, false, cond, ◌&&◌}
use mathlib.Core.Option.{Option, none, some}
use mathlib.Core.List.{List, [], ◌∷◌, ◌++◌}
use Prim.Native.Nat.{ℕ, ◌+◌, ◌<◌}
use native.Mathlib.Omega.{arith}
use lib.Dec.{eqb}
use lib.ListN.{length, get_or, set, length-set}
use lib.Seq.{get_or-set_same, get_or-set_other}
use borrow.Author.Tests.{eqb-true, eqb-false, eq-eqb}
use Rattle.definition.specs.declared.Inst.{Inst}
use Rattle.definition.specs.declared.Use.{Use}
use Rattle.definition.specs.declared.UseKind.{UseKind}
use Rattle.definition.specs.declared.UseKind.TheVariants.{FixedDef, FixedUse, TiedUse, ConstraintConflict, ClassUse, ClassDef, GroupClassUse, GroupClassDef, BlockparamIn, BlockparamOut}
use Rattle.definition.specs.declared.Operand.{Operand}
use Rattle.definition.specs.declared.VirtRegGroup.{VirtRegGroup}
use Rattle.definition.specs.Types.{Job, Mapped, inst, vrgroup}
use Rattle.definition.specs.Uses.{slot_of}
use Rattle.definition.specs.Admit.{mapped_at}
use Rattle.definition.specs.Place.{if_unmapped, map_one}
use Rattle.definition.specs.Entry.{apart, same_place}
use Rattle.definition.proofs.Entries.{and_both as both}
use Rattle.std.specs.Prelude.{Some, None}
use Rattle.std.specs.Prelude as code
use Rattle.values.specs.OperandRows.{op_at, is_at, last_place}
use Rattle.values.proofs.Rows.{long}
use Rattle.values.proofs.Only.{found_at, found_only}
use Rattle.job.specs.declared.Layout.{Layout}
use Rattle.virt_regs.specs.Encoding.{group_word}
use Rattle.job.specs.declared.work.WorkLayout.{WorkLayout}
use Rattle.constraints.specs.Ready.{operands_in, Mapping, HasOperand, BackedAsk, Backed}
use Rattle.constraints.specs.Asks.{ask_of}
use Rattle.pieces.specs.Maps.{slot_given, Outside, MapsTo, PutAt, Maps, map_use}
use Rattle.pieces.proofs.Kept.{outside_none}

-- ---- the mapping with one more

abbrev more : Inst → ℕ → VirtRegGroup → Mapped
more i s g = record { inst = i; slot = s; group = g }

mapped_here : (ms : List Mapped) (i : Inst) (s : ℕ) (g : VirtRegGroup) → mapped_at ms i s ≡ none → mapped_at (ms ++ (more i s g ∷ [])) i s ≡ some g
unfolding mapped_at
mapped_here [] i s g e = rw (eq-eqb i.0 i.0 refl, eq-eqb s s refl)
mapped_here (m ∷ ms) i s g e = go (eqb m.inst.0 i.0 && eqb m.slot s) e (mapped_here ms i s g)
  where
    go : (b : Bool) → cond b (some m.group) (mapped_at ms i s) ≡ none → (mapped_at ms i s ≡ none → mapped_at (ms ++ (more i s g ∷ [])) i s ≡ some g)
        → cond b (some m.group) (mapped_at (ms ++ (more i s g ∷ [])) i s) ≡ some g
    go true q ih = absurd (let z : ◌≡◌ {A = ℕ} 0 1 = cc in omega arith)
    go false q ih = ih q

mapped_other : (ms : List Mapped) (i j : Inst) (s t : ℕ) (g : VirtRegGroup) → eqb i.0 j.0 && eqb s t ≡ false → mapped_at (ms ++ (more i s g ∷ [])) j t ≡ mapped_at ms j t
unfolding mapped_at
mapped_other [] i j s t g e = rw e
mapped_other (m ∷ ms) i j s t g e = ap (λ (r : Option VirtRegGroup). cond (eqb m.inst.0 j.0 && eqb m.slot t) (some m.group) r) (mapped_other ms i j s t g e)

word_none : (o : Option VirtRegGroup) → group_word o ≡ 0 → o ≡ none
word_none none e = refl
word_none (some g) e = absurd (omega arith)

word_some : (o : Option VirtRegGroup) (ms : List Mapped) → (group_word o ≡ 0 → ⊥) → if_unmapped o ms ≡ none
word_some none ms e = absurd (e refl)
word_some (some f) ms e = refl

-- ---- operand k

module _ (W K : List ℕ) (lay : Layout) (wl : WorkLayout) (p : Inst) (s : ℕ) (k g : ℕ) (a : apart same_place (operands_in W lay) ≡ true)
    (e : last_place (operands_in W lay) lay.operands.n p.0 s ≡ Some k) where
  known : (k < lay.operands.n) × ((op_at (operands_in W lay) k).inst ≡ p) × ((op_at (operands_in W lay) k).slot ≡ s)
  known =
      let f = found_at (operands_in W lay) lay.operands.n p.0 s k e in
      let b = both _ _ f.1 in
      (f.0, ap inst (eqb-true _ _ b.0), eqb-true _ _ b.1)

  -- what the mapping says of it
  word_at : (ms : List Mapped) → Mapping K wl.mapping (operands_in W lay) ms → get_or K (wl.mapping + k) 0 ≡ group_word (mapped_at ms p s)
  word_at ms m =
      m.is k (omega (arith, known.0, long W lay.operands.at lay.operands.n))
      ∙ ap₂ (λ (x : Inst) (y : ℕ). group_word (mapped_at ms x y)) known.1 known.2

  -- no other operand is at its place
  other_place : (j : ℕ) → j < length (operands_in W lay) → (j ≡ k → ⊥) → eqb p.0 (op_at (operands_in W lay) j).inst.0 && eqb s (op_at (operands_in W lay) j).slot ≡ false
  other_place j h n = go (eqb p.0 (op_at (operands_in W lay) j).inst.0 && eqb s (op_at (operands_in W lay) j).slot) refl
    where
      os : List Operand
      os = operands_in W lay

      go : (b : Bool) → eqb p.0 (op_at os j).inst.0 && eqb s (op_at os j).slot ≡ b → b ≡ false
      go false q = refl
      go true q =
          let b = both _ _ q in
          let at : is_at p.0 s (op_at os j) ≡ true =
          ap₂ (λ (x y : Bool). x && y) (eq-eqb (op_at os j).inst.0 p.0 (sym (eqb-true _ _ b.0))) (eq-eqb (op_at os j).slot s (sym (eqb-true _ _ b.1))) in
          let f : Some k ≡ Some j = sym e ∙ ap (λ (m : ℕ). last_place os m p.0 s) (sym (long W lay.operands.at lay.operands.n)) ∙ found_only os p.0 s j a h at in
          absurd (n (cc))

  mapping_more : (ms : List Mapped) → wl.mapping + k < length K → Mapping K wl.mapping (operands_in W lay) ms → mapped_at ms p s ≡ none
      → Mapping (set K (wl.mapping + k) (g + 1)) wl.mapping (operands_in W lay) (ms ++ (more p s (vrgroup g) ∷ []))
  mapping_more ms l m z = record { is = λ j h. go j h (eqb j k) refl }
    where
      go : (j : ℕ) → j < length (operands_in W lay) → (b : Bool) → eqb j k ≡ b
          → get_or (set K (wl.mapping + k) (g + 1)) (wl.mapping + j) 0 ≡ group_word (mapped_at (ms ++ (more p s (vrgroup g) ∷ [])) (op_at (operands_in W lay) j).inst (op_at (operands_in W lay) j).slot)
      go j h true q =
          let jk : j ≡ k = eqb-true j k q in
          rw jk
          (get_or-set_same K (wl.mapping + k) (g + 1) 0 l
          ∙ sym (ap₂ (λ (x : Inst) (y : ℕ). group_word (mapped_at (ms ++ (more p s (vrgroup g) ∷ [])) x y)) known.1 known.2 ∙ ap group_word (mapped_here ms p s (vrgroup g) z)))
      go j h false q =
          let n : j ≡ k → ⊥ = eqb-false j k q in
          get_or-set_other K (wl.mapping + k) (wl.mapping + j) (g + 1) 0 (λ u. n (omega arith))
          ∙ m.is j h
          ∙ sym (ap group_word (mapped_other ms p (op_at (operands_in W lay) j).inst s (op_at (operands_in W lay) j).slot (vrgroup g) (other_place j h n)))

  outside_set : Outside lay wl K (set K (wl.mapping + k) (g + 1))
  outside_set =
      record {
        long = length-set K (wl.mapping + k) (g + 1);
        before = λ j h. get_or-set_other K (wl.mapping + k) j (g + 1) 0 (λ u. omega arith);
        behind = λ j h. get_or-set_other K (wl.mapping + k) j (g + 1) 0 (λ u. omega (arith, known.0));
      }

  pub maps_found : (r : Bool) (K' : List ℕ) → wl.mapping + k < length K → PutAt K (wl.mapping + k) g r K' → Maps W K lay wl (map_one p (some s) (vrgroup g)) r K'
  unfolding MapsTo
  maps_found false K' l t =
      let q = t.taken refl in
      rw q.1
      (record {
        outside = outside_none lay wl K;
        answers = λ ms m. rw (word_some (mapped_at ms p s) (ms ++ (record { inst = p; slot = s; group = vrgroup g } ∷ [])) (λ z. q.0 (word_at ms m ∙ z))) refl;
      })
  maps_found true K' l t =
      let q = t.free refl in
      rw q.1
      (record {
        outside = outside_set;
        answers = λ ms m. let z : mapped_at ms p s ≡ none = word_none (mapped_at ms p s) (sym (word_at ms m) ∙ q.0) in rw z (refl, mapping_more ms l m z);
      })

-- ---- a use

given_none : (o : Option ℕ) → slot_given o ≡ None → o ≡ none
given_none none e = refl
given_none (some s) e = let z : ◌≡◌ {A = ℕ} 0 1 = cc in absurd (omega arith)

given_some : (o : Option ℕ) (s : ℕ) → slot_given o ≡ Some s → o ≡ some s
given_some none s e = let z : ◌≡◌ {A = ℕ} 0 1 = cc in absurd (omega arith)
given_some (some t) s e = let q : t ≡ s = cc in ap some q

-- not a group use
pub maps_other : (W K : List ℕ) (lay : Layout) (wl : WorkLayout) (g : VirtRegGroup) (u : Use) (x : code.Option ℕ) → x ≡ slot_given (slot_of u.kind) → x ≡ None → Maps W K lay wl (map_use g u) true K
unfolding map_use MapsTo
maps_other W K lay wl g u x e n =
    let z : slot_of u.kind ≡ none = given_none (slot_of u.kind) (sym e ∙ n) in
    record { outside = outside_none lay wl K; answers = λ ms m. rw z (refl, m) }

-- a group use
pub slot_is : (u : Use) (x : code.Option ℕ) (s : ℕ) → x ≡ slot_given (slot_of u.kind) → x ≡ Some s → slot_of u.kind ≡ some s
slot_is u x s e n = given_some (slot_of u.kind) s (sym e ∙ n)

pub maps_group : (W K : List ℕ) (lay : Layout) (wl : WorkLayout) (g : VirtRegGroup) (u : Use) (s : ℕ) (r : Bool) (K' : List ℕ) → slot_of u.kind ≡ some s
    → Maps W K lay wl (map_one u.pos (some s) g) r K' → Maps W K lay wl (map_use g u) r K'
unfolding map_use
maps_group W K lay wl g u s r K' e m = record { outside = m.outside; answers = λ ms h. rw e (m.answers ms h) }

pub backed_group : (job : Job) (u : Use) (s : ℕ) → slot_of u.kind ≡ some s → Backed job u → HasOperand job u.pos s
unfolding Backed BackedAsk
backed_group job u s = go u.kind
  where
    none_not : none ≡ some s → ⊥
    none_not e = let z : ◌≡◌ {A = ℕ} 0 1 = cc in omega arith

    at : (t : ℕ) → some t ≡ some s → HasOperand job u.pos t → HasOperand job u.pos s
    at t e h = let q : t ≡ s = cc in subst (λ (x : ℕ). HasOperand job u.pos x) q h

    go : (k : UseKind) → slot_of k ≡ some s → BackedAsk job u.pos (ask_of k) → HasOperand job u.pos s
    go (FixedDef r) e b = absurd (none_not e)
    go (FixedUse r) e b = absurd (none_not e)
    go (TiedUse q d c i) e b = absurd (none_not e)
    go ConstraintConflict e b = absurd (none_not e)
    go (ClassUse t c) e b = absurd (none_not e)
    go (ClassDef t c) e b = absurd (none_not e)
    go (GroupClassUse t c i) e b = at t e b
    go (GroupClassDef t c i) e b = at t e b
    go (BlockparamIn q) e b = absurd (none_not e)
    go BlockparamOut e b = absurd (none_not e)
