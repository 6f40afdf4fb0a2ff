-- The answer and the work space, one law for each way out. Assumes nothing.
use Prim.Native.Nat.{ℕ, ◌/◌, ◌%◌, ◌<◌}
use native.Mathlib.Omega.{arith}
use mathlib.Core.Path.{◌≡◌, refl, sym, ap, ◌∙◌}
use Rattle.std.specs.Prelude.{Result, Ok, Err, Some, None}
use mathlib.Core.Bool.{Bool, true, false, cond, ◌&&◌}
use mathlib.Core.Option.{Option, none, some}
use mathlib.Core.List.{List}
use lib.Dec.{leb, ltb, eqb}
use lib.ListN.{length}
use borrow.Author.Tests.{eqb-true, ltb-true, lt-ltb, le-ltb, eq-eqb, ne_eqb}
use Rattle.definition.specs.declared.Side.{Side}
use Rattle.definition.specs.declared.Refusal.{Refusal}
use Rattle.definition.specs.declared.Refusal.TheVariants.{NotARecord, OverALimit, BadBook, BadFunction, BadHint, BadSegment, BadUse, Stopped, Full}
use Rattle.definition.specs.Types.{done, refused, inst, number_of}
use Rattle.definition.specs.Entry.{cut_to, find_cut, side_of}
use Rattle.words.specs.Parts.{splice}
use Rattle.words.specs.Words.{words_of}
use Rattle.function.specs.Bools.{and_l, and_r, both, not_l, not_r}
use Rattle.function.specs.Blocks.{start_words}
use Rattle.find_cut.specs.declared.Cut.{Cut}
use Rattle.find_cut.specs.Answer.{blocks_in, side_named, readable, cut_out, cut_of, cut_answer, work_left, unless, cut_refusal, admission}

-- ---- readable or not

-- a side or none, by the test of its number
pub unsided : (t : Bool) (x : Side) → None ≡ cond t (Some x) None → t ≡ false
unsided true x e = cc
unsided false x e = refl

pub sided : (t : Bool) (x d : Side) → Some d ≡ cond t (Some x) None → (t ≡ true) × (d ≡ x)
sided true x d e = (refl, cc)
sided false x d e = cc

module _ (s : List ℕ) (side : ℕ) where
  pub no_side : leb side 1 ≡ false → readable s side ≡ false
  no_side h = not_l (leb side 1) (eqb (length s % 8) 0 && ltb 0 (length s)) h

  pub no_rows : (length s % 8 ≡ 0 → ⊥) → readable s side ≡ false
  no_rows h = not_r (leb side 1) (eqb (length s % 8) 0 && ltb 0 (length s)) (not_l (eqb (length s % 8) 0) (ltb 0 (length s)) (ne_eqb (length s % 8) 0 h))

  pub no_block : length s ≡ 0 → readable s side ≡ false
  no_block h = not_r (leb side 1) (eqb (length s % 8) 0 && ltb 0 (length s)) (not_r (eqb (length s % 8) 0) (ltb 0 (length s)) (le-ltb 0 (length s) (omega arith)))

  pub reads : leb side 1 ≡ true → length s % 8 ≡ 0 → (length s ≡ 0 → ⊥) → readable s side ≡ true
  reads h k l = both (leb side 1) (eqb (length s % 8) 0 && ltb 0 (length s)) h (both (eqb (length s % 8) 0) (ltb 0 (length s)) (eq-eqb (length s % 8) 0 k) (lt-ltb 0 (length s) (omega (arith, l))))

  -- what reads has a block
  pub rows_there : readable s side ≡ true → 0 < length s / 8
  rows_there e =
      let whole = eqb (length s % 8) 0 in
      let some = ltb 0 (length s) in
      let r = and_r (leb side 1) (whole && some) e in
      omega (arith, eqb-true (length s % 8) 0 (and_l whole some r), ltb-true 0 (length s) (and_r whole some r))

-- ---- the answer

abbrev pub answered : ℕ → ℕ → Cut
answered k i = record { number = k; inst = i }

pub numbered : (r : Refusal) → 0 ≡ number_of r → ⊥
numbered NotARecord e = omega arith
numbered OverALimit e = omega arith
numbered BadBook e = omega arith
numbered BadFunction e = omega arith
numbered BadHint e = omega arith
numbered BadSegment e = omega arith
numbered BadUse e = omega arith
numbered (Stopped x) e = omega arith
numbered Full e = omega arith

-- a refusal comes through
pub unless_err : {A B : Type 0} (o : Option Refusal) (x : A) (y : B) (r : Refusal) → unless o x ≡ Err r → Err r ≡ unless o y
unless_err none x y r e = cc
unless_err (some q) x y r e = cc

pub unless_some : {A : Type 0} (o : Option Refusal) (x : A) (r : Refusal) → unless o x ≡ Err r → o ≡ some r
unless_some none x r e = cc
unless_some (some q) x r e = cc

pub unless_ok : {A : Type 0} (o : Option Refusal) {x z : A} → unless o x ≡ Ok z → (o ≡ none) × (z ≡ x)
unless_ok none e = (refl, cc)
unless_ok (some q) e = cc

-- a call admitted
pub record Admitted (s : List ℕ) (a b side : ℕ) (d : Side) : Type 0 where
  pub read : readable s side ≡ true
  pub none_found : cut_refusal s a b ≡ none
  pub named : d ≡ side_named side

module _ (s : List ℕ) (a b side : ℕ) where
  pub unread : readable s side ≡ false → Err NotARecord ≡ admission s a b side
  unfolding admission
  unread e = rw e

  pub reading : readable s side ≡ true → admission s a b side ≡ unless (cut_refusal s a b) (side_named side)
  unfolding admission
  reading e = rw e

  pub stopped : readable s side ≡ true → (r : Refusal) → Err r ≡ unless (cut_refusal s a b) (tt {0}) → Err r ≡ admission s a b side
  stopped e r h = unless_err (cut_refusal s a b) (tt {0}) (side_named side) r (sym h) ∙ sym (reading e)

  pub passed : readable s side ≡ true → (d : Side) → d ≡ side_named side → Ok (tt {0}) ≡ unless (cut_refusal s a b) (tt {0}) → Ok d ≡ admission s a b side
  passed e d n h =
      ap Ok n ∙ sym (reading e ∙ ap (λ (o : Option Refusal). unless o (side_named side)) (unless_ok (cut_refusal s a b) (sym h)).0)

  pub closed : readable s side ≡ false → cut_out s a b side ≡ refused NotARecord
  unfolding cut_out
  closed e = rw e

  pub opened : readable s side ≡ true → cut_out s a b side ≡ cut_to (cut_refusal s a b) (blocks_in s) (inst a) (inst b) (side_named side)
  unfolding cut_out find_cut cut_refusal
  opened e = rw e

  -- what is not admitted is refused
  pub refused_out : (r : Refusal) → admission s a b side ≡ Err r → cut_out s a b side ≡ refused r
  unfolding cut_to
  refused_out r e = go (readable s side) refl
    where
      by_tests : (o : Option Refusal) → cut_refusal s a b ≡ o → unless o (side_named side) ≡ Err r → cut_to o (blocks_in s) (inst a) (inst b) (side_named side) ≡ refused r
      by_tests none f g = cc
      by_tests (some q) f g = cc

      go : (t : Bool) → readable s side ≡ t → cut_out s a b side ≡ refused r
      go true f = opened f ∙ by_tests (cut_refusal s a b) refl (sym (reading f) ∙ e)
      go false f = let g : ◌≡◌ {A = Result Side Refusal} (Err NotARecord) (Err r) = unread f ∙ e in closed f ∙ cc

  pub was_admitted : (d : Side) → admission s a b side ≡ Ok d → Admitted s a b side d
  was_admitted d e = go (readable s side) refl
    where
      go : (t : Bool) → readable s side ≡ t → Admitted s a b side d
      go true f =
          let w = unless_ok (cut_refusal s a b) (sym (reading f) ∙ e) in
          record { read = f; none_found = w.0; named = w.1 }
      go false f = let g : ◌≡◌ {A = Result Side Refusal} (Err NotARecord) (Ok d) = unread f ∙ e in cc

  pub accepted : (d : Side) (c : ℕ) → Admitted s a b side d → c ≡ side_of d (blocks_in s) a b → cut_out s a b side ≡ done (inst c)
  unfolding cut_to
  accepted d c p h =
      opened p.read ∙ ap (λ (o : Option Refusal). cut_to o (blocks_in s) (inst a) (inst b) (side_named side)) p.none_found
      ∙ ap (λ (x : ℕ). done (inst x)) (sym (h ∙ ap (λ (x : Side). side_of x (blocks_in s) a b) p.named))

  module _ (w : List ℕ) where
    -- the answer and the work space together
    abbrev Leaves : Cut → List ℕ → Type 0
    Leaves r v = (r ≡ cut_answer s a b side) × (v ≡ work_left s a b side w)

    pub failed : (k : ℕ) (r : Refusal) → admission s a b side ≡ Err r → k ≡ number_of r → Leaves (answered k 0) w
    unfolding work_left cut_answer cut_of
    failed k r e h =
        let o = refused_out r e in
        let n : k ≡ 0 → ⊥ = λ z. numbered r (sym z ∙ h) in (
          ap (λ (x : ℕ). answered x 0) h ∙ sym (ap cut_of o),
          rw (o, ← h, ne_eqb k 0 n),
        )

    pub cut_found : (d : Side) (c : ℕ) (v : List ℕ) → admission s a b side ≡ Ok d → c ≡ side_of d (blocks_in s) a b
        → v ≡ splice w 0 (start_words (words_of s) 0 (length s / 8)) → Leaves (answered 0 c) v
    unfolding work_left cut_answer cut_of
    cut_found d c v e h g =
        let o = accepted d c (was_admitted d e) h in (
          sym (ap cut_of o),
          g ∙ rw o,
        )
