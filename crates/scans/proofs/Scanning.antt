-- A scan in two parts: what was passed is held, and what is left gives the answer. Assumes nothing.
use mathlib.Core.Path.{◌≡◌, refl, sym, ap, ◌∙◌}
use mathlib.Core.Bool.{true}
use mathlib.Core.Option.{Option, none}
use mathlib.Core.List.{List, [], ◌∷◌, ◌++◌, reverse, reverse-append}
use Prim.Native.Nat.{ℕ, suc, ◌+◌, ◌-◌, ◌≤◌, ◌<◌}
use native.Mathlib.Omega.{arith}
use lib.ListN.{length}
use Rattle.std.specs.Prelude.{Some, None, IfSome}
use Rattle.std.specs.Prelude as code
use Rattle.words.specs.Tab.{tab, down, tab_more, length_tab, take_tab}
use Rattle.definition.specs.declared.RegClass.{RegClass}
use Rattle.definition.specs.declared.ClassData.{ClassData}
use Rattle.definition.specs.declared.Use.{Use}
use Rattle.definition.specs.Types.{Job, State}
use Rattle.definition.specs.Types as types
use Rattle.definition.specs.Admit.{admit, Scan, through, fails_at, later, on_admit, scan, held_by}
use Rattle.definition.proofs.Scans.{scan_step, scan_snoc, held_through, held_before}
use Rattle.constraints.specs.declared.Held.{Held}
use Rattle.constraints.specs.Held.{held_of, admission_of}
use Rattle.constraints.proofs.Admitted.{answer_yes, answer_no, held_class}
use Rattle.scans.specs.declared.walk.Walk.{Walk}
use Rattle.scans.specs.Walks.{with_class, Walked, WalkedBack}
use Rattle.scans.proofs.Lists.{tab_none, tab_next, tab_parts, back_none, back_next, back_parts, down_back, length_back}
use Rattle.scans.specs.declared.ScanAnswer.{ScanAnswer}
use Rattle.scans.specs.Answers.{ended, scan_of, back_of, shifted, Ends}

-- ---- a list in two parts

shift_none : (s : Scan) → s ≡ shifted 0 s
unfolding shifted
shift_none (through h) = refl
shift_none (fails_at n) = let e : n ≡ 0 + n = omega arith in ap fails_at e

shift_later : (k : ℕ) (s : Scan) → later (shifted k s) ≡ shifted (suc k) s
unfolding shifted
shift_later k (through h) = refl
shift_later k (fails_at n) = let e : suc (k + n) ≡ suc k + n = omega arith in ap fails_at e

module _ (job : Job) (st : State) where
  -- what the first part holds the second goes on from
  pub scan_parts : (us vs : List Use) (h g : types.Held) → scan job st us h ≡ through g
      → scan job st (us ++ vs) h ≡ shifted (length us) (scan job st vs g)
  unfolding scan
  scan_parts [] vs h g e = let q : h ≡ g = cc in ap (λ (x : types.Held). scan job st vs x) q ∙ shift_none (scan job st vs g)
  scan_parts (u ∷ us) vs h g e =
      let r = scan_step job st u us h g e in
      ap (λ (o : Option types.Held). on_admit o (λ x. scan job st (us ++ vs) x)) r.1
      ∙ ap later (scan_parts us vs r.0 g r.2)
      ∙ shift_later (length us) (scan job st vs g)

  pub held_parts : (us vs : List Use) (h g : types.Held) → scan job st us h ≡ through g
      → held_by job st (us ++ vs) h ≡ held_by job st vs g
  unfolding scan held_by
  held_parts [] vs h g e = let q : h ≡ g = cc in ap (λ (x : types.Held). held_by job st vs x) q
  held_parts (u ∷ us) vs h g e = let r = scan_step job st u us h g e in rw (r.1, held_by) (held_parts us vs r.0 g r.2)

  pub parts_through : (us vs : List Use) (h g k : types.Held) → scan job st us h ≡ through g → scan job st vs g ≡ through k
      → scan job st (us ++ vs) h ≡ through k
  unfolding shifted
  parts_through us vs h g k e f = scan_parts us vs h g e ∙ ap (λ (s : Scan). shifted (length us) s) f

  -- the use that comes next is not admitted
  parts_fail : (us : List Use) (u : Use) (vs : List Use) (h g : types.Held) → scan job st us h ≡ through g → admit job st g u ≡ none
      → scan job st (us ++ (u ∷ vs)) h ≡ fails_at (length us)
  unfolding scan shifted
  parts_fail us u vs h g e f =
      scan_parts us (u ∷ vs) h g e
      ∙ ap (λ (o : Option types.Held). shifted (length us) (on_admit o (λ x. scan job st vs x))) f
      ∙ (let z : length us + 0 ≡ length us = omega arith in ap fails_at z)

  parts_held : (us : List Use) (u : Use) (vs : List Use) (h g : types.Held) → scan job st us h ≡ through g → admit job st g u ≡ none
      → held_by job st (us ++ (u ∷ vs)) h ≡ g
  unfolding held_by
  parts_held us u vs h g e f = held_parts us (u ∷ vs) h g e ∙ rw (f, held_by) refl

-- ---- what is held, with another class

abbrev pub classed : Held → RegClass → Held
classed h c = record { class = c; group = h.group; target = h.target }

classed_is : (h : Held) (c : RegClass) → held_of (classed h c) ≡ with_class (held_of h) c
unfolding held_of
classed_is h c = refl

-- ---- forwards: of the uses a to b - 1, read by f, those below n are passed

pub record Forward (S : State → Type 0) (job : Job) (f : ℕ → Use) (a b : ℕ) (h₀ : Held) (n : ℕ) (h : Held) : Type 0 where
  pub from_a : a ≤ n
  pub to_b : n ≤ b
  pub held : (st : State) → S st → scan job st (tab f a (n - a)) (held_of h₀) ≡ through (held_of h)

pub forward_start : (S : State → Type 0) (job : Job) (f : ℕ → Use) (a b : ℕ) (h : Held) → a ≤ b → Forward S job f a b h a h
unfolding scan
forward_start S job f a b h l =
    record { from_a = omega arith; to_b = l; held = λ st s. ap (λ (us : List Use). scan job st us (held_of h)) (tab_none f a) }

module _ {S : State → Type 0} {job : Job} {f : ℕ → Use} {a b : ℕ} {h₀ : Held} {n : ℕ} {h : Held} (w : Forward S job f a b h₀ n h) where
  -- by a walk
  pub forward_walk : (cs : List ClassData) (r : Walk) → job.classes ≡ cs → Walked cs f h.class n b r
      → Forward S job f a b h₀ r.at (classed h r.class)
  forward_walk cs r ej v = record {
    from_a = omega (arith, w.from_a, v.from_a);
    to_b = v.to_b;
    held = λ st s.
        ap (λ (us : List Use). scan job st us (held_of h₀)) (tab_parts f a n r.at w.from_a v.from_a)
        ∙ parts_through job st (tab f a (n - a)) (tab f n (r.at - n)) (held_of h₀) (held_of h) (with_class (held_of h) r.class) (w.held st s) (v.passed job st (held_of h) ej (held_class h))
        ∙ ap through (sym (classed_is h r.class));
  }

  -- by one use
  pub forward_next : (r : code.Option Held) (g : Held) → n < b → ((st : State) → S st → admission_of r ≡ admit job st (held_of h) (f n)) → r ≡ Some g
      → Forward S job f a b h₀ (n + 1) g
  forward_next r g l e q = record {
    from_a = omega (arith, w.from_a);
    to_b = omega arith;
    held = λ st s.
        ap (λ (us : List Use). scan job st us (held_of h₀)) (tab_next f a n w.from_a)
        ∙ scan_snoc job st (tab f a (n - a)) (f n) (held_of h₀) (held_of h) (held_of g) (w.held st s) (answer_yes r _ g (e st s) q);
  }

  -- the use that comes next is not admitted
  pub forward_fail : n < b → ((st : State) → S st → admit job st (held_of h) (f n) ≡ none) → (st : State) → S st
      → Ends job st (tab f a (b - a)) (held_of h₀) (scan_of a (record { failed = Some n; held = h })) h
  unfolding scan_of
  forward_fail l e st s =
      let us = tab f a (n - a) in
      let vs = tab f (n + 1) (b - (n + 1)) in
      let all : tab f a (b - a) ≡ us ++ (f n ∷ vs) = tab_parts f a n b w.from_a w.to_b ∙ ap (λ (l : List Use). us ++ l) (tab_more f n b l) in (
        sym (ap (λ (l : List Use). scan job st l (held_of h₀)) all ∙ parts_fail job st us (f n) vs (held_of h₀) (held_of h) (w.held st s) (e st s) ∙ ap fails_at (length_tab f a (n - a))),
        sym (ap (λ (l : List Use). held_by job st l (held_of h₀)) all ∙ parts_held job st us (f n) vs (held_of h₀) (held_of h) (w.held st s) (e st s)),
      )

  pub forward_stop : (r : code.Option Held) → n < b → ((st : State) → S st → admission_of r ≡ admit job st (held_of h) (f n)) → r ≡ None
      → (st : State) → S st
      → Ends job st (tab f a (b - a)) (held_of h₀) (scan_of a (record { failed = Some n; held = h })) h
  forward_stop r l e q = forward_fail l (λ st s. answer_no r _ (e st s) q)

  pub forward_end : b ≤ n → (st : State) → S st
      → Ends job st (tab f a (b - a)) (held_of h₀) (scan_of a (record { failed = None; held = h })) h
  unfolding scan_of
  forward_end l st s =
      let e : n ≡ b = omega (arith, w.to_b) in
      let all : scan job st (tab f a (b - a)) (held_of h₀) ≡ through (held_of h) =
      ap (λ (m : ℕ). scan job st (tab f a (m - a)) (held_of h₀)) (sym e) ∙ w.held st s in
      (sym all, sym (held_through job st (tab f a (b - a)) (held_of h₀) (held_of h) all))

-- a walk that stopped at a class use that is not admitted
pub forward_refused : {S : State → Type 0} {job : Job} {f : ℕ → Use} {a b : ℕ} {h₀ : Held} {n : ℕ} {h : Held} → Forward S job f a b h₀ n h
    → (cs : List ClassData) (r : Walk) → job.classes ≡ cs → Walked cs f h.class n b r → r.refused ≡ true → (st : State) → S st
    → Ends job st (tab f a (b - a)) (held_of h₀) (scan_of a (record { failed = Some r.at; held = classed h r.class })) (classed h r.class)
forward_refused {S} {job} {f} {a} {b} {h₀} {n} {h} w cs r ej v q =
    forward_fail (forward_walk w cs r ej v) (v.within q)
    (λ st s. ap (λ (x : types.Held). admit job st x (f r.at)) (classed_is h r.class) ∙ v.stopped q job st (held_of h) ej)

-- ---- backwards: of the uses e down to a, those from n on are passed

pub record Backward (S : State → Type 0) (job : Job) (f : ℕ → Use) (a e : ℕ) (h₀ : Held) (n : ℕ) (h : Held) : Type 0 where
  pub from_a : a ≤ n
  pub to_e : n ≤ e + 1
  pub held : (st : State) → S st → scan job st (reverse (tab f n (e + 1 - n))) (held_of h₀) ≡ through (held_of h)

pub backward_start : (S : State → Type 0) (job : Job) (f : ℕ → Use) (a e : ℕ) (h : Held) → a ≤ e → Backward S job f a e h (e + 1) h
unfolding scan
backward_start S job f a e h l = record {
  from_a = omega arith;
  to_e = omega arith;
  held = λ st s. ap (λ (us : List Use). scan job st us (held_of h)) (back_none f (e + 1));
}

module _ {S : State → Type 0} {job : Job} {f : ℕ → Use} {a e : ℕ} {h₀ : Held} {n : ℕ} {h : Held} (w : Backward S job f a e h₀ n h) where
  pub backward_walk : (cs : List ClassData) (r : Walk) → job.classes ≡ cs → WalkedBack cs f h.class a n r
      → Backward S job f a e h₀ r.at (classed h r.class)
  backward_walk cs r ej v = record {
    from_a = v.from_a;
    to_e = omega (arith, w.to_e, v.to_b);
    held = λ st s.
        ap (λ (us : List Use). scan job st us (held_of h₀)) (back_parts f r.at n (e + 1) v.to_b w.to_e)
        ∙ parts_through job st (reverse (tab f n (e + 1 - n))) (reverse (tab f r.at (n - r.at))) (held_of h₀) (held_of h) (with_class (held_of h) r.class) (w.held st s) (v.passed job st (held_of h) ej (held_class h))
        ∙ ap through (sym (classed_is h r.class));
  }

  -- the use before the last that is passed
  module _ (m : ℕ) (em : m + 1 ≡ n) (l : a ≤ m) where
    pub backward_next : (r : code.Option Held) (g : Held) → ((st : State) → S st → admission_of r ≡ admit job st (held_of h) (f m)) → r ≡ Some g
        → Backward S job f a e h₀ m g
    backward_next r g ea q = record {
      from_a = l;
      to_e = omega (arith, w.to_e);
      held = λ st s.
          ap (λ (us : List Use). scan job st us (held_of h₀))
          (back_next f m (e + 1) (omega (arith, w.to_e)) ∙ ap (λ (k : ℕ). reverse (tab f k (e + 1 - k)) ++ (f m ∷ [])) em)
          ∙ scan_snoc job st (reverse (tab f n (e + 1 - n))) (f m) (held_of h₀) (held_of h) (held_of g) (w.held st s) (answer_yes r _ g (ea st s) q);
    }

    pub backward_fail : ((st : State) → S st → admit job st (held_of h) (f m) ≡ none) → (st : State) → S st
        → Ends job st (down (λ j. f (a + j)) (e + 1 - a)) (held_of h₀) (back_of e (record { failed = Some m; held = h })) h
    unfolding back_of
    backward_fail ea st s =
        let z : e + 1 - n ≡ e - m = omega (arith, w.to_e) in
        let us = reverse (tab f n (e + 1 - n)) in
        let vs = reverse (tab f a (m - a)) in
        let last : reverse (tab f a (n - a)) ≡ f m ∷ vs =
        ap (λ (k : ℕ). reverse (tab f a (k - a))) (sym em)
        ∙ ap reverse (tab_next f a m l)
        ∙ reverse-append (tab f a (m - a)) (f m ∷ []) in
        let all : down (λ j. f (a + j)) (e + 1 - a) ≡ us ++ (f m ∷ vs) =
        down_back f a (e + 1 - a)
        ∙ back_parts f a n (e + 1) w.from_a w.to_e
        ∙ ap (λ (l : List Use). us ++ l) last in (
          sym
              (ap (λ (l : List Use). scan job st l (held_of h₀)) all
              ∙ parts_fail job st us (f m) vs (held_of h₀) (held_of h) (w.held st s) (ea st s)
              ∙ ap fails_at (length_back f n (e + 1 - n) ∙ z)),
          sym
              (ap (λ (l : List Use). held_by job st l (held_of h₀)) all
              ∙ parts_held job st us (f m) vs (held_of h₀) (held_of h) (w.held st s) (ea st s)),
        )

    pub backward_stop : (r : code.Option Held) → ((st : State) → S st → admission_of r ≡ admit job st (held_of h) (f m)) → r ≡ None
        → (st : State) → S st
        → Ends job st (down (λ j. f (a + j)) (e + 1 - a)) (held_of h₀) (back_of e (record { failed = Some m; held = h })) h
    backward_stop r ea q = backward_fail (λ st s. answer_no r _ (ea st s) q)

  pub backward_end : n ≤ a → (st : State) → S st
      → Ends job st (down (λ j. f (a + j)) (e + 1 - a)) (held_of h₀) (back_of e (record { failed = None; held = h })) h
  unfolding back_of
  backward_end l st s =
      let z : n ≡ a = omega (arith, w.from_a) in
      let all : scan job st (down (λ j. f (a + j)) (e + 1 - a)) (held_of h₀) ≡ through (held_of h) =
      ap (λ (us : List Use). scan job st us (held_of h₀))
      (down_back f a (e + 1 - a) ∙ ap (λ (m : ℕ). reverse (tab f m (e + 1 - m))) (sym z))
      ∙ w.held st s in
      (sym all, sym (held_through job st (down (λ j. f (a + j)) (e + 1 - a)) (held_of h₀) (held_of h) all))

pub backward_refused : {S : State → Type 0} {job : Job} {f : ℕ → Use} {a e : ℕ} {h₀ : Held} {n : ℕ} {h : Held} → Backward S job f a e h₀ n h
    → (cs : List ClassData) (r : Walk) → job.classes ≡ cs → WalkedBack cs f h.class a n r → r.refused ≡ true → (st : State) → S st
    → Ends job st (down (λ j. f (a + j)) (e + 1 - a)) (held_of h₀) (back_of e (record { failed = Some (r.at - 1); held = classed h r.class })) (classed h r.class)
backward_refused {S} {job} {f} {a} {e} {h₀} {n} {h} w cs r ej v q =
    backward_fail (backward_walk w cs r ej v) (r.at - 1) (omega (arith, v.within q)) (omega (arith, v.within q))
    (λ st s. ap (λ (x : types.Held). admit job st x (f (r.at - 1))) (classed_is h r.class) ∙ v.stopped q job st (held_of h) ej)

-- ---- a scan that goes on behind uses that are passed

module _ (job : Job) (st : State) (f : ℕ → Use) (a b : ℕ) (h₀ : types.Held) (r : ScanAnswer) where
  -- from number `at` on, with what is held there: the answer over all
  pub resume : (at : ℕ) (h : Held) → a ≤ at → at ≤ b → scan job st (tab f a (at - a)) h₀ ≡ through (held_of h)
      → IfSome r.failed (λ n. (at ≤ n) × (n < b)) → Ends job st (tab f at (b - at)) (held_of h) (scan_of at r) r.held
      → Ends job st (tab f a (b - a)) h₀ (scan_of a r) r.held
  unfolding scan_of shifted
  resume at h la lb p w e = (
    moved r.failed w
        ∙ ap (λ (s : Scan). shifted (at - a) s) e.0
        ∙ sym (ap (λ (us : List Use). scan job st us h₀) (tab_parts f a at b la lb)
        ∙ scan_parts job st (tab f a (at - a)) (tab f at (b - at)) h₀ (held_of h) p
        ∙ ap (λ (k : ℕ). shifted k (scan job st (tab f at (b - at)) (held_of h))) (length_tab f a (at - a))),
    e.1
        ∙ sym (ap (λ (us : List Use). held_by job st us h₀) (tab_parts f a at b la lb)
        ∙ held_parts job st (tab f a (at - a)) (tab f at (b - at)) h₀ (held_of h) p),
  )
    where
      moved : (o : code.Option ℕ) → IfSome o (λ n. (at ≤ n) × (n < b))
          → ended o (held_of r.held) (λ n. n - a) ≡ shifted (at - a) (ended o (held_of r.held) (λ n. n - at))
      moved None z = refl
      moved (Some n) z = let q : n - a ≡ at - a + (n - at) = omega (arith, z.0) in ap fails_at q

  -- what it held where it ended is held behind all that it passed
  module _ (e : Ends job st (tab f a (b - a)) h₀ (scan_of a r) r.held) where
    pub ended_through : r.failed ≡ None → scan job st (tab f a (b - a)) h₀ ≡ through (held_of r.held)
    unfolding scan_of
    ended_through q = sym e.0 ∙ rw q refl

    pub ended_before : (n : ℕ) → r.failed ≡ Some n → a ≤ n → n ≤ b → scan job st (tab f a (n - a)) h₀ ≡ through (held_of r.held)
    unfolding scan_of
    ended_before n q la lb =
        let no : scan job st (tab f a (b - a)) h₀ ≡ fails_at (n - a) = sym e.0 ∙ rw q refl in
        ap (λ (us : List Use). scan job st us h₀) (sym (take_tab f a n b la lb))
        ∙ held_before job st (tab f a (b - a)) h₀ (n - a) no
        ∙ ap through (sym e.1)
