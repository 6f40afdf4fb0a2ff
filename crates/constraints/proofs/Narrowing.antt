-- A class narrowed place by place. Assumes nothing.
use mathlib.Core.Path.{◌≡◌, refl, sym, ap, subst, ◌∙◌}
use mathlib.Core.Bool.{Bool, true, false}
use mathlib.Core.Option.{Option, none, some, bind}
use mathlib.Core.List.{List, ◌∷◌}
use Prim.Native.Nat.{ℕ, suc, ◌+◌, ◌*◌, ◌≤◌, ◌<◌}
use native.Mathlib.Numerals.{add-one}
use native.Mathlib.Omega.{arith}
use lib.Dec.{ltb}
use lib.ListN.{length, get_or, drop, get_or-eq_default, drop_of_length-le}
use lib.Seq.{drop-cons}
use borrow.Author.Tests.{ltb-true, ltb-false}
use Rattle.definition.specs.declared.RegClass.{RegClass}
use Rattle.definition.specs.declared.VirtReg.{VirtReg}
use Rattle.definition.specs.declared.VirtRegGroup.{VirtRegGroup}
use Rattle.definition.specs.Limits.{max_group}
use Rattle.definition.specs.Types.{Job, State, cls}
use Rattle.definition.specs.RegInfo.{common_subclass}
use Rattle.definition.specs.Admit.{register_at, members_at, narrowed}
use Rattle.std.specs.Prelude.{Some, None, IfSome}
use Rattle.std.specs.Prelude as code
use Rattle.reginfo.specs.Rows.{found_of, classes_at}
use Rattle.job.specs.declared.Layout.{Layout}
use Rattle.job.specs.Job.{job_by, job_of}
use Rattle.virt_regs.specs.declared.OutLayout.{OutLayout}
use Rattle.virt_regs.specs.Encoding.{Holds}
use Rattle.virt_regs.specs.Reads.{class_held}
use Rattle.constraints.specs.Places.{option_of, narrowed_at}
use Rattle.constraints.proofs.Places.{width, member_known}

-- the classes of a job are its table's
pub job_classes : (W : List ℕ) (lay : Layout) → (job_of W lay).classes ≡ classes_at W lay.classes.at lay.classes.n
unfolding job_of job_by
job_classes W lay = refl

-- ---- what an answer says of the class that it stands for

pub found_some : (f : code.Option RegClass) (o : Option RegClass) (k : RegClass) → f ≡ found_of o → f ≡ Some k → o ≡ some k
found_some f none k e q = let z : ◌≡◌ {A = ℕ} 0 1 = cc in absurd (omega arith)
found_some f (some c) k e q = let r : c ≡ k = cc in ap some r

pub found_none : (f : code.Option RegClass) (o : Option RegClass) → f ≡ found_of o → f ≡ None → o ≡ none
found_none f none e q = refl
found_none f (some c) e q = let z : ◌≡◌ {A = ℕ} 0 1 = cc in absurd (omega arith)

-- ---- going on with what is there

pub bind_some : {A B : Type 0} {o : Option A} {a : A} (f : A → Option B) → o ≡ some a → bind o f ≡ f a
unfolding bind
bind_some f e = ap (λ o. bind o f) e

pub bind_none : {A B : Type 0} {o : Option A} (f : A → Option B) → o ≡ none → bind o f ≡ none
unfolding bind
bind_none f e = ap (λ o. bind o f) e

-- ---- one place

pub shared_is : (ol : OutLayout) (O : List ℕ) (st : State) → Holds ol O st → (job : Job) (v : VirtReg) (k c : RegClass) (r : code.Option RegClass) → v.0 < length st.registers
    → c ≡ cls (get_or O (v.0 * 8 + 1) 0) → r ≡ found_of (common_subclass job k c) → r ≡ found_of (common_subclass job k (register_at st v).class)
shared_is ol O st h job v k c r l e q =
    q ∙ ap (λ (x : RegClass). found_of (common_subclass job k x)) (e ∙ ap cls (class_held ol O st h v l))

pub narrow_none : (job : Job) (st : State) (m : code.Option VirtReg) (k : RegClass) → m ≡ None → Some k ≡ found_of (narrowed_at job st (option_of m) k)
unfolding narrowed_at
narrow_none job st m k e = sym (ap (λ (o : code.Option VirtReg). found_of (narrowed_at job st (option_of o) k)) e)

pub narrow_some : (job : Job) (st : State) (m : code.Option VirtReg) (v : VirtReg) (k : RegClass) (r : code.Option RegClass) → m ≡ Some v → IfSome m (λ x. x.0 < length st.registers)
    → (v.0 < length st.registers → r ≡ found_of (common_subclass job k (register_at st v).class)) → r ≡ found_of (narrowed_at job st (option_of m) k)
unfolding narrowed_at
narrow_some job st m v k r e l f =
    f (subst (λ (o : code.Option VirtReg). IfSome o (λ x. x.0 < length st.registers)) e l)
    ∙ sym (ap (λ (o : code.Option VirtReg). found_of (narrowed_at job st (option_of o) k)) e)

-- ---- all places

-- the first place that is left, and the rest
pub narrow_step : (job : Job) (st : State) (ms : List (Option VirtReg)) (i : ℕ) (k : RegClass)
    → narrowed job st (drop i ms) k ≡ bind (narrowed_at job st (get_or ms i none) k) (λ n. narrowed job st (drop (i + 1) ms) n)
unfolding narrowed narrowed_at bind
narrow_step job st ms i k = go (ltb i (length ms)) refl
  where
    first : (o : Option VirtReg) (l : List (Option VirtReg)) → narrowed job st (o ∷ l) k ≡ bind (narrowed_at job st o k) (λ n. narrowed job st l n)
    first none l = refl
    first (some v) l = refl

    go : (b : Bool) → ltb i (length ms) ≡ b → narrowed job st (drop i ms) k ≡ bind (narrowed_at job st (get_or ms i none) k) (λ n. narrowed job st (drop (i + 1) ms) n)
    go true e =
        ap (λ (l : List (Option VirtReg)). narrowed job st l k) (drop-cons ms i none (ltb-true _ _ e))
        ∙ first (get_or ms i none) (drop (suc i) ms)
        ∙ ap (λ (j : ℕ). bind (narrowed_at job st (get_or ms i none) k) (λ n. narrowed job st (drop j ms) n)) (sym (add-one i))
    go false e =
        let p : length ms ≤ i = ltb-false _ _ e in
        let q : length ms ≤ i + 1 = omega arith in
        rw (drop_of_length-le ms p, get_or-eq_default ms none p, drop_of_length-le ms q)

-- the classes passed and the class now: what is left gives the whole answer
pub record Narrowing (ol : OutLayout) (O : List ℕ) (job : Job) (g : VirtRegGroup) (k : RegClass) (i : ℕ) (n : RegClass) : Type 0 where
  pub is : (st : State) → Holds ol O st → narrowed job st (members_at st g) k ≡ narrowed job st (drop i (members_at st g)) n

module _ {ol : OutLayout} {O : List ℕ} {job : Job} {g : VirtRegGroup} {k : RegClass} {i : ℕ} {n : RegClass} (f : Narrowing ol O job g k i n) (m : code.Option VirtReg) (r : code.Option RegClass)
    (member : (st : State) → Holds ol O st → option_of m ≡ get_or (members_at st g) i none)
    (at : (st : State) → Holds ol O st → IfSome m (λ v. v.0 < length st.registers) → r ≡ found_of (narrowed_at job st (option_of m) n)) where
  here : (st : State) → Holds ol O st → r ≡ found_of (narrowed_at job st (get_or (members_at st g) i none) n)
  here st h =
      at st h (member_known ol O st h g i m (member st h))
      ∙ ap (λ (o : Option VirtReg). found_of (narrowed_at job st o n)) (member st h)

  pub narrow_next : (c : RegClass) → r ≡ Some c → Narrowing ol O job g k (i + 1) c
  narrow_next c e =
      record {
        is =
            λ st h.
            f.is st h
            ∙ narrow_step job st (members_at st g) i n
            ∙ bind_some (λ x. narrowed job st (drop (i + 1) (members_at st g)) x) (found_some r _ c (here st h) e);
      }

  pub narrow_stop : r ≡ None → (st : State) → Holds ol O st → None ≡ found_of (narrowed job st (members_at st g) k)
  narrow_stop e st h =
      sym (ap found_of (f.is st h
      ∙ narrow_step job st (members_at st g) i n
      ∙ bind_none (λ x. narrowed job st (drop (i + 1) (members_at st g)) x) (found_none r _ (here st h) e)))

pub narrow_end : {ol : OutLayout} {O : List ℕ} {job : Job} {g : VirtRegGroup} {k : RegClass} {i : ℕ} {n : RegClass} → Narrowing ol O job g k i n → max_group ≤ i
    → (st : State) → Holds ol O st → Some n ≡ found_of (narrowed job st (members_at st g) k)
unfolding narrowed
narrow_end {ol} {O} {job} {g} {k} {i} {n} f l st h =
    let p : length (members_at st g) ≤ i = omega (arith, width ol O st h g) in
    sym (ap found_of (f.is st h ∙ ap (λ (ms : List (Option VirtReg)). narrowed job st ms n) (drop_of_length-le (members_at st g) p)))
