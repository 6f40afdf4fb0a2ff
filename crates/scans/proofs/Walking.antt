-- Uses passed one after the other: one law for both directions. Assumes nothing.
use mathlib.Core.Path.{◌≡◌, sym, ap, subst, ◌∙◌}
use mathlib.Core.Bool.{true, false}
use mathlib.Core.Option.{none}
use mathlib.Core.List.{List, [], ◌∷◌, ◌++◌, reverse}
use Prim.Native.Nat.{ℕ, ◌+◌, ◌-◌, ◌≤◌, ◌<◌}
use native.Mathlib.Omega.{arith}
use Rattle.words.specs.Tab.{tab}
use Rattle.values.proofs.Twice.{never}
use Rattle.definition.specs.declared.RegClass.{RegClass}
use Rattle.definition.specs.declared.ClassData.{ClassData}
use Rattle.definition.specs.declared.Use.{Use}
use Rattle.definition.specs.Types.{Job, State}
use Rattle.definition.specs.Types as types
use Rattle.definition.specs.Admit.{admit, scan, through}
use Rattle.definition.proofs.Scans.{scan_snoc}
use Rattle.scans.specs.declared.walk.Masked.{Masked}
use Rattle.scans.specs.declared.walk.Met.{Met}
use Rattle.scans.specs.declared.walk.Met.TheVariants as met
use Rattle.scans.specs.Walks.{IsMasked, with_class, Meets, WalkedBack}
use Rattle.scans.proofs.Lists.{tab_none, tab_next, back_none, back_next}

-- From class `first` on the uses are admitted, and `held` is held in its place: in every job with these classes and in
-- every state.
pub record Passing (cs : List ClassData) (first : RegClass) (held : Masked) (us : List Use) : Type 0 where
  pub masked : IsMasked cs held
  pub passed : (job : Job) (st : State) (h : types.Held) → job.classes ≡ cs → h.class ≡ first
      → scan job st us h ≡ through (with_class h held.class)

passing_start : (cs : List ClassData) (held : Masked) (us : List Use) → IsMasked cs held → us ≡ [] → Passing cs held.class held us
unfolding scan
passing_start cs held us e z =
    record { masked = e; passed = λ job st h ej eh. rw z (ap (λ (c : RegClass). through (with_class h c)) eh) }

-- a use more, that is passed
passing_next : {cs : List ClassData} {first : RegClass} {held : Masked} {us vs : List Use} (u : Use) → Passing cs first held us
    → vs ≡ us ++ (u ∷ []) → (r : Met) (next : Masked) → Meets cs u held.class r → r ≡ met.Passed next → Passing cs first next vs
unfolding Meets
passing_next {cs} {first} {held} {us} {vs} u p ev r next m e =
    let g : Meets cs u held.class (met.Passed next) = subst (λ (x : Met). Meets cs u held.class x) e m in
    record {
      masked = g.0;
      passed = λ job st h ej eh.
          rw ev
          (scan_snoc job st us u h (with_class h held.class) (with_class h next.class) (p.passed job st h ej eh) (g.1 job st h ej));
    }

-- one that is not admitted
pub meets_none : (cs : List ClassData) (u : Use) (c : RegClass) (r : Met) → Meets cs u c r → r ≡ met.Refused
    → (job : Job) (st : State) (h : types.Held) → job.classes ≡ cs → admit job st (with_class h c) u ≡ none
unfolding Meets
meets_none cs u c r m e = subst (λ (x : Met). Meets cs u c x) e m

-- ---- forwards: of the uses a to b - 1, read by f, those below n are passed

pub record Ahead (cs : List ClassData) (f : ℕ → Use) (first : RegClass) (a b : ℕ) (held : Masked) (n : ℕ) : Type 0 where
  pub from_a : a ≤ n
  pub to_b : n ≤ b
  pub passing : Passing cs first held (tab f a (n - a))

pub ahead_start : (cs : List ClassData) (f : ℕ → Use) (a b : ℕ) (held : Masked) → a ≤ b → IsMasked cs held → Ahead cs f held.class a b held a
ahead_start cs f a b held l e =
    record { from_a = omega arith; to_b = l; passing = passing_start cs held (tab f a (a - a)) e (tab_none f a) }

pub ahead_next : {cs : List ClassData} {f : ℕ → Use} {first : RegClass} {a b : ℕ} {held : Masked} {n : ℕ} → Ahead cs f first a b held n
    → n < b → (r : Met) (next : Masked) → Meets cs (f n) held.class r → r ≡ met.Passed next → Ahead cs f first a b next (n + 1)
ahead_next {cs} {f} {first} {a} {b} {held} {n} i l r next m e = record {
  from_a = omega (arith, i.from_a);
  to_b = omega arith;
  passing = passing_next (f n) i.passing (tab_next f a n i.from_a) r next m e;
}

-- at the end n is b
pub ahead_end : {cs : List ClassData} {f : ℕ → Use} {first : RegClass} {a b : ℕ} {held : Masked} {n : ℕ} → Ahead cs f first a b held n
    → b ≤ n → Ahead cs f first a b held b
ahead_end {cs} {f} {first} {a} {b} {held} {n} i l =
    let e : n ≡ b = omega (arith, i.to_b) in
    subst (λ (x : ℕ). Ahead cs f first a b held x) e i

-- ---- backwards: of the uses b - 1 down to a, those from n on are passed

pub record Astern (cs : List ClassData) (f : ℕ → Use) (first : RegClass) (a b : ℕ) (held : Masked) (n : ℕ) : Type 0 where
  pub from_a : a ≤ n
  pub to_b : n ≤ b
  pub passing : Passing cs first held (reverse (tab f n (b - n)))

pub astern_start : (cs : List ClassData) (f : ℕ → Use) (a b : ℕ) (held : Masked) → a ≤ b → IsMasked cs held → Astern cs f held.class a b held b
astern_start cs f a b held l e =
    record { from_a = l; to_b = omega arith; passing = passing_start cs held (reverse (tab f b (b - b))) e (back_none f b) }

module _ {cs : List ClassData} {f : ℕ → Use} {first : RegClass} {a b : ℕ} {held : Masked} {n : ℕ} (i : Astern cs f first a b held n) where
  -- n is the number behind use n - 1
  here : a < n → Astern cs f first a b held (n - 1 + 1)
  here l = let e : n ≡ n - 1 + 1 = omega arith in subst (λ (x : ℕ). Astern cs f first a b held x) e i

  pub astern_next : a < n → (r : Met) (next : Masked) → Meets cs (f (n - 1)) held.class r → r ≡ met.Passed next
      → Astern cs f first a b next (n - 1)
  astern_next l r next m e = record {
    from_a = omega arith;
    to_b = omega (arith, i.to_b);
    passing = passing_next (f (n - 1)) (here l).passing (back_next f (n - 1) b (omega (arith, l, i.to_b))) r next m e;
  }

  pub astern_refused : a < n → (r : Met) → Meets cs (f (n - 1)) held.class r → r ≡ met.Refused
      → WalkedBack cs f first a b (record { at = n - 1 + 1; class = held.class; refused = true })
  astern_refused l r m e = record {
    from_a = (here l).from_a;
    to_b = (here l).to_b;
    within = λ _. omega arith;
    passed = (here l).passing.passed;
    stopped = λ _ job st h ej.
        let z : n - 1 + 1 - 1 ≡ n - 1 = omega arith in
        ap (λ (k : ℕ). admit job st (with_class h held.class) (f k)) z
        ∙ meets_none cs (f (n - 1)) held.class r m e job st h ej;
  }

  pub astern_group : a < n → WalkedBack cs f first a b (record { at = n - 1 + 1; class = held.class; refused = false })
  astern_group l = record {
    from_a = (here l).from_a;
    to_b = (here l).to_b;
    within = λ q. never (sym q);
    passed = (here l).passing.passed;
    stopped = λ q. never (sym q);
  }

  pub astern_end : n ≤ a → WalkedBack cs f first a b (record { at = a; class = held.class; refused = false })
  astern_end l =
      let e : n ≡ a = omega (arith, i.from_a) in
      let j : Astern cs f first a b held a = subst (λ (x : ℕ). Astern cs f first a b held x) e i in
      record {
        from_a = j.from_a;
        to_b = j.to_b;
        within = λ q. never (sym q);
        passed = j.passing.passed;
        stopped = λ q. never (sym q);
      }
