-- An accepted job: what the entry rules give of its classes and of the operands of its group uses, and what holds of its result, in one record. Assumes nothing.
use mathlib.Core.Path.{◌≡◌, refl, ap, sym, ◌∙◌, subst}
use Prim.Native.Nat.{ℕ, zero, suc, ◌/◌, ◌%◌, ◌^◌, ◌≤◌, ◌<◌}
use native.Mathlib.Nat.{pow-suc, le_trans}
use native.Mathlib.Omega.{arith}
use mathlib.Core.Bool.{Bool, true, false, cond, not, ◌&&◌, ◌||◌}
use mathlib.Core.Option.{Option, none, some}
use mathlib.Core.List.{List, [], ◌∷◌}
use lib.ListN.{length, get_or}
use lib.Pow.{pow_mono, pow_pos}
use lib.Dec.{ltb, eqb}
use borrow.Author.Tests.{ltb-true, leb-true, eqb-true, eqb-false, eq-eqb}
use Rattle.definition.specs.Types.{Inst, Value, RegClass, VirtReg, Use, ClassData, Operand, Segment, Job, Room, Refusal, done, inst, val, cls}
use Rattle.definition.specs.RegInfo.{class_at, no_class}
use Rattle.definition.specs.Place.{total}
use Rattle.definition.specs.Build.{Result, build, one}
use Rattle.definition.specs.Entry.{answer, answer_to, apart, book_ok, book_tests, class_ok, class_tests, conj, entry, entry_tests, function_ok, function_tests, group_use_ok, group_use_tests, limit_tests, limits_ok, vgroup_values, operand_ok, operand_tests, same_place, sized, some_is, uses_ok, vgroup_ok, vgroup_tests}
use Rattle.definition.specs.Promised.{Transitive, bit_at, holds}
use Rattle.definition.proofs.Places.{All, all_map, all_get_d, counted}
use Rattle.definition.proofs.Tables.{nth, operand_at, uses_are}
use Rattle.definition.proofs.Classes.{Masks}
use Rattle.definition.proofs.Entries.{and_both, conj_all, every_all, lowest_none}
use Rattle.definition.proofs.Points.{of_own, points_same, Steady, own_uses, own_uses_same}
use Rattle.definition.proofs.ReadBack.{Test, of_piece, uses_same}
use Rattle.definition.proofs.Admission.{size_of, GroupUse, UseFits, Sizes, ServedIn, SegFits, admission}

all_at : {A : Type 0} (P : A → Type 0) (xs : List A) (n : ℕ) (d : A) → All P xs → n < length xs → P (get_or xs n d)
all_at P [] n d h l = absurd (omega arith)
all_at P (x ∷ xs) zero d h l = h.0
all_at P (x ∷ xs) (suc n) d h l = all_at P xs n d h.1 (omega arith)

-- ---- the register book

bit_zero : (k : ℕ) → bit_at k 0 ≡ 1 → ⊥
bit_zero zero e = omega arith
bit_zero (suc k) e = bit_zero k e

-- the classes of a mask have the size that the test asks for
pub sized_at : (cs : List ClassData) (m n k : ℕ) → m < 2 ^ length cs → sized m n cs ≡ true → bit_at k m ≡ 1
    → (get_or cs k no_class).size ≡ n
unfolding sized
sized_at [] m n k l e b = let z : m ≡ 0 = omega arith in absurd (bit_zero k (subst (λ (x : ℕ). bit_at k x ≡ 1) z b))
sized_at (c ∷ cs) m n k l e b =
    let a = and_both (eqb (m % 2) 0 || eqb c.size n) (sized (m / 2) n cs) e in
    go k b a.0 (λ j d. sized_at cs (m / 2) n j (omega (arith, pow-suc 2 (length cs))) a.1 d)
  where
    low : (t : Bool) → eqb (m % 2) 0 ≡ t → m % 2 ≡ 1 → (t || eqb c.size n) ≡ true → c.size ≡ n
    low true x y d = let q : m % 2 ≡ 0 = eqb-true _ _ x in absurd (omega arith)
    low false x y d = eqb-true _ _ d

    go : (j : ℕ) → bit_at j m ≡ 1 → (eqb (m % 2) 0 || eqb c.size n) ≡ true → ((i : ℕ) → bit_at i (m / 2) ≡ 1 → (get_or cs i no_class).size ≡ n) → (get_or (c ∷ cs) j no_class).size ≡ n
    go zero d f ih = low (eqb (m % 2) 0) refl d f
    go (suc j) d f ih = ih j d

module _ (job : Job) where
  abbrev ClassFits : ClassData → Type 0
  ClassFits c = (c.mask < 2 ^ length job.classes) × (2 ≤ c.size → sized c.mask c.size job.classes ≡ true)

  class_fits : (c : ClassData) → class_ok job.classes c ≡ true → ClassFits c
  unfolding class_ok
  class_fits c e =
      let cs = job.classes in
      let a = conj_all (class_tests cs c) e in
      (ltb-true _ _ a.0, λ l. go (ltb c.size 2) refl l a.1.1.1.1.0)
    where
      go : (b : Bool) → ltb c.size 2 ≡ b → 2 ≤ c.size → (b || sized c.mask c.size job.classes) ≡ true → sized c.mask c.size job.classes ≡ true
      go true x l d = let q : c.size < 2 = ltb-true _ _ x in absurd (omega arith)
      go false x l d = d

  module _ (lim : limits_ok job ≡ true) (book : book_ok job ≡ true) where
    few : length job.classes ≤ 32
    unfolding limits_ok
    few = leb-true _ _ (conj_all (limit_tests job) lim).1.1.1.1.1.1.1.1.0

    fits_all : All ClassFits job.classes
    unfolding book_ok
    fits_all = all_map _ ClassFits class_fits job.classes (every_all (class_ok job.classes) job.classes (conj_all (book_tests job) book).1.1.0)

    fits_at : (c : RegClass) → ClassFits (class_at job c)
    unfolding class_at
    fits_at c = all_get_d ClassFits job.classes c.0 no_class fits_all (pow_pos (length job.classes), λ l. absurd (omega arith))

    masks : Masks job
    masks c = le_trans (fits_at c).0 (pow_mono few)

    sizes : Sizes job
    unfolding class_at
    sizes c k i l = let f = fits_at c in sized_at job.classes (class_at job c).mask (class_at job c).size k.0 f.0 (f.1 l) i

  -- ---- operands

  abbrev pub There : Value → Inst → ℕ → RegClass → ℕ → Operand → Type 0
  There v p s c i o =
      (o.inst ≡ p) × (o.slot ≡ s) × (o.class ≡ c) × (i < length (vgroup_values job o.vgroup)) × (get_or (vgroup_values job o.vgroup) i (val 0) ≡ v)

  there : (v : Value) (p : Inst) (s : ℕ) (c : RegClass) (i : ℕ) (o : Operand) → conj (group_use_tests job v p s c i o) ≡ true → There v p s c i o
  there v p s c i o e =
      let a = conj_all (group_use_tests job v p s c i o) e in
      (ap inst (eqb-true _ _ a.0), eqb-true _ _ a.1.0, ap cls (eqb-true _ _ a.1.1.0), ltb-true _ _ a.1.1.1.0, ap val (eqb-true _ _ a.1.1.1.1.0))

  -- a second one at the same place would be found
  again : (v : Value) (p : Inst) (s : ℕ) (c : RegClass) (i : ℕ) (o : Operand) (os : List Operand) → o.inst ≡ p → o.slot ≡ s
      → some_is (λ o. conj (group_use_tests job v p s c i o)) os ≡ true → some_is (same_place o) os ≡ true
  unfolding some_is
  again v p s c i o [] x y e = e
  again v p s c i o (r ∷ os) x y e = go (conj (group_use_tests job v p s c i r)) refl e (λ d. again v p s c i o os x y d)
    where
      go : (b : Bool) → conj (group_use_tests job v p s c i r) ≡ b → (b || some_is (λ o. conj (group_use_tests job v p s c i o)) os) ≡ true
          → (some_is (λ o. conj (group_use_tests job v p s c i o)) os ≡ true → some_is (same_place o) os ≡ true) → (same_place o r || some_is (same_place o) os) ≡ true
      go true a d ih = let t = there v p s c i r a in rw (eq-eqb o.inst.0 r.inst.0 (ap (λ (j : Inst). j.0) (x ∙ sym t.0)), eq-eqb o.slot r.slot (y ∙ sym t.1))
      go false a d ih = or_right (same_place o r) (ih d)
        where
          or_right : (b : Bool) → some_is (same_place o) os ≡ true → (b || some_is (same_place o) os) ≡ true
          or_right true f = refl
          or_right false f = f

  -- no two are at one place: the operand that is found first is the one that passed the tests; what holds of all holds of it
  operand_is : (P : Operand → Type 0) (v : Value) (p : Inst) (s : ℕ) (c : RegClass) (i : ℕ) (os : List Operand) → All P os → apart same_place os ≡ true
      → some_is (λ o. conj (group_use_tests job v p s c i o)) os ≡ true → P (operand_at os p s) × There v p s c i (operand_at os p s)
  unfolding some_is apart
  operand_is P v p s c i [] h ap' e = let z : ◌≡◌ {A = ℕ} 0 1 = cc in absurd (omega arith)
  operand_is P v p s c i (o ∷ os) h ap' e =
      let a = and_both (not (some_is (same_place o) os)) (apart same_place os) ap' in
      go (conj (group_use_tests job v p s c i o)) (eqb o.inst.0 p.0) (eqb o.slot s) refl refl refl e a.0 (λ d. operand_is P v p s c i os h.1 a.1 d)
    where
      go : (b x y : Bool) → conj (group_use_tests job v p s c i o) ≡ b → eqb o.inst.0 p.0 ≡ x → eqb o.slot s ≡ y
          → (b || some_is (λ o. conj (group_use_tests job v p s c i o)) os) ≡ true → not (some_is (same_place o) os) ≡ true
          → (some_is (λ o. conj (group_use_tests job v p s c i o)) os ≡ true → P (operand_at os p s) × There v p s c i (operand_at os p s))
          → P (cond (x && y) o (operand_at os p s)) × There v p s c i (cond (x && y) o (operand_at os p s))
      go true true true a x y d n ih = (h.0, there v p s c i o a)
      go true false y' a x y d n ih = absurd (eqb-false _ _ x (ap (λ (j : Inst). j.0) (there v p s c i o a).0))
      go true true false a x y d n ih = absurd (eqb-false _ _ y (there v p s c i o a).1)
      go false true true a x y d n ih =
          let q : some_is (same_place o) os ≡ true = again v p s c i o os (ap inst (eqb-true _ _ x)) (eqb-true _ _ y) d in
          let r : not true ≡ true = subst (λ (t : Bool). not t ≡ true) q n in
          let z : ◌≡◌ {A = ℕ} 0 1 = cc in absurd (omega arith)
      go false true false a x y d n ih = ih d
      go false false y' a x y d n ih = ih d

  module _ (fn : function_ok job ≡ true) where
    abbrev OpFits : Operand → Type 0
    OpFits o = (2 ≤ length (vgroup_values job o.vgroup)) × ((class_at job o.class).size ≡ length (vgroup_values job o.vgroup))

    op_fits : (o : Operand) → operand_ok job o ≡ true → OpFits o
    unfolding operand_ok function_ok vgroup_values vgroup_ok
    op_fits o e =
        let a = conj_all (operand_tests job o) e in
        let f = conj_all (function_tests job) fn in
        let g = every_all (vgroup_ok job) job.vgroups f.1.1.0 in
        let l : o.vgroup.0 < length job.vgroups = ltb-true _ _ a.1.1.0 in
        let v : vgroup_ok job (vgroup_values job o.vgroup) ≡ true = all_at (λ x. vgroup_ok job x ≡ true) job.vgroups o.vgroup.0 [] g l in
        (leb-true _ _ (conj_all (vgroup_tests job (vgroup_values job o.vgroup)) v).0, eqb-true _ _ a.1.1.1.1.0)

    -- the operand of a group use
    pub group_operand : (v : Value) (p : Inst) (s : ℕ) (c : RegClass) (i : ℕ) → group_use_ok job v p s c i ≡ true
        → OpFits (operand_at job.operands p s) × There v p s c i (operand_at job.operands p s)
    unfolding group_use_ok function_ok
    group_operand v p s c i e =
        let f = conj_all (function_tests job) fn in
        operand_is OpFits v p s c i job.operands (all_map _ OpFits op_fits job.operands (every_all (operand_ok job) job.operands f.1.1.1.0)) f.1.1.1.1.0 e

    group_use_fits : (v : Value) (p : Inst) (s : ℕ) (c : RegClass) (i : ℕ) → group_use_ok job v p s c i ≡ true → GroupUse job p s c i
    group_use_fits v p s c i e =
        let o = operand_at job.operands p s in
        let t = group_operand v p s c i e in
        let size : size_of job c ≡ length (vgroup_values job o.vgroup) = subst (λ (x : RegClass). (class_at job x).size ≡ length (vgroup_values job o.vgroup)) t.1.2 t.0.1 in
        (t.1.2, omega (arith, t.0.0), omega (arith, t.1.3))

    uses_fit : (s : Segment) → uses_ok job s ≡ true → All (UseFits job) s.uses
    uses_fit s e = uses_are job (GroupUse job) s (group_use_fits s.value) e

-- ---- the promises for an accepted job

pub record Kept (job : Job) (res : Result) : Type 0 where
  -- each point of each value stands in the own pieces exactly as often as in the job
  pub points : (v : Value) (x : ℕ) → counted (of_own (λ s. one (holds v x s))) res.registers ≡ total (λ s. one (holds v x s)) job.segments
  -- each use of each value that is no class use stands in own pieces exactly as often as in the job; so do class uses and marks, counted together
  pub own_uses_lem : (v : Value) (P : Use → Bool) → Steady P → counted (of_own (own_uses v P)) res.registers ≡ total (own_uses v P) job.segments
  -- each class use of each value stands in own and added pieces exactly as often as in the job
  pub uses : (v : Value) (P : Use → Bool) → Test P → counted (of_piece v P) res.registers ≡ total (own_uses v P) job.segments
  -- where subclassing is transitive, each register's class is admitted by every class use in its pieces
  pub classes : Transitive job → (r : VirtReg) → r.0 < length res.registers → ServedIn job (nth res.registers r).class (nth res.registers r).pieces

pub accepted : (o : Option Refusal) (job : Job) (room : Room) (res : Result) → entry job ≡ o → answer_to o job room ≡ done res → (entry job ≡ none) × (build job room ≡ done res)
unfolding answer_to
accepted none job room res e f = (e, f)
accepted (some r) job room res e f = let z : ◌≡◌ {A = ℕ} 0 1 = cc in absurd (omega arith)

pub kept : (job : Job) (room : Room) (res : Result) → answer job room ≡ done res → Kept job res
unfolding answer entry
kept job room res e =
    let a = accepted (entry job) job room res refl e in
    let t = lowest_none (entry_tests job) a.0 in
    let ms = masks job t.0 t.1.0 in
    let sz = sizes job t.0 t.1.0 in
    let fit : All (SegFits job) job.segments = all_map _ (SegFits job) (uses_fit job t.1.1.0) job.segments (every_all (uses_ok job) job.segments t.1.1.1.1.1.0) in
    record {
      points = λ v x. points_same job room res v x a.1;
      own_uses_lem = λ v P st. own_uses_same v P st job room res a.1;
      uses = λ v P test. uses_same v P test job room res a.1;
      classes = λ tr. admission job ms tr sz room res fit a.1;
    }
