-- The tests of a call, one law for each way out, and what holds where nothing is refused. Assumes nothing.
use Prim.Native.Nat.{ℕ, ◌/◌, ◌≤◌, ◌<◌}
use native.Mathlib.Omega.{arith}
use mathlib.Core.Path.{◌≡◌, refl, sym, ap, ◌∙◌}
use mathlib.Core.Bool.{Bool, true, false, ◌&&◌}
use mathlib.Core.Option.{Option, none, some}
use Rattle.std.specs.Prelude.{Result, Ok, Err}
use mathlib.Core.List.{List, [], ◌∷◌}
use lib.Dec.{leb, ltb}
use lib.ListN.{length}
use borrow.Author.Tests.{le-leb, lt-leb, leb-true}
use Rattle.definition.specs.declared.Side.{Side}
use Rattle.definition.specs.declared.CutMove.{CutMove}
use Rattle.definition.specs.declared.Refusal.{Refusal}
use Rattle.definition.specs.declared.Refusal.TheVariants.{NotARecord, OverALimit, BadFunction, Full}
use Rattle.definition.specs.Types.{Out, done, refused, inst}
use Rattle.definition.specs.Entry.{insts_of, every, block_ok, lowest_of}
use Rattle.definition.specs.CutMoves.{cut_moves, moves_tests, moves_to, find_moves}
use Rattle.find_cut.specs.Answer.{blocks_in, side_named, readable, unless, cut_refusal, admission}
use Rattle.find_cut.proofs.Answers.{numbered, unless_ok, unless_some, was_admitted}
use Rattle.find_cut.proofs.Answers.{unread as cut_unread, reading as cut_reading}
use Rattle.find_cut.proofs.Tests.{Passed, count, was_passed}
use Rattle.cut_moves.specs.Answer.{moves_at, end_of, moves_admission}

-- ---- the tests by their outcomes: `Full` comes where the others find nothing

abbrev two : Bool → Bool → Option Refusal
two x y = lowest_of ((x, OverALimit) ∷ (y, BadFunction) ∷ [])

abbrev three : Bool → Bool → Bool → Option Refusal
three x y z = lowest_of ((x, OverALimit) ∷ (y, BadFunction) ∷ (z, Full) ∷ [])

-- a refusal that the first two give stays
stays : (x y z : Bool) (r : Refusal) → two x y ≡ some r → three x y z ≡ some r
unfolding lowest_of
stays false y z r e = e
stays true false z r e = e
stays true true z r e = cc

full : (x y z : Bool) → two x y ≡ none → z ≡ false → three x y z ≡ some Full
unfolding lowest_of
full false y z e f = cc
full true false z e f = cc
full true true z e f = rw f

free : (x y z : Bool) → two x y ≡ none → z ≡ true → three x y z ≡ none
unfolding lowest_of
free false y z e f = cc
free true false z e f = cc
free true true z e f = rw f

was_free : (x y z : Bool) → three x y z ≡ none → (two x y ≡ none) × (z ≡ true)
unfolding lowest_of
was_free false y z e = cc
was_free true false z e = cc
was_free true true true e = (refl, refl)
was_free true true false e = cc

-- ---- the answer by what the tests find

module _ (s : List ℕ) (a b side places : ℕ) where
  abbrev found : Option Refusal
  found = lowest_of (moves_tests (blocks_in s) (inst a) (inst b) places)

  few : Bool
  few = leb (length (blocks_in s)) places

  x : Bool
  x = leb (length (blocks_in s)) 512 && leb (insts_of (blocks_in s)) 4096

  y : Bool
  y = every block_ok (blocks_in s) && (ltb a b && ltb b (insts_of (blocks_in s)))

  closed : readable s side ≡ false → moves_at s a b side places ≡ refused NotARecord
  unfolding moves_at
  closed e = rw e

  opened : readable s side ≡ true
      → moves_at s a b side places ≡ moves_to found (blocks_in s) (inst a) (inst b) (side_named side)
  unfolding moves_at find_moves
  opened e = rw e

  unread : readable s side ≡ false → moves_admission s a b side places ≡ Err NotARecord
  unfolding moves_admission
  unread e = rw e

  reading : readable s side ≡ true → moves_admission s a b side places ≡ unless found (side_named side)
  unfolding moves_admission
  reading e = rw e

  -- ---- the code's ways

  -- what the cut finder refuses
  pub failed : (r : Refusal) → admission s a b side ≡ Err r → Err r ≡ moves_admission s a b side places
  unfolding cut_refusal few x y
  failed r e = go (readable s side) refl
    where
      go : (t : Bool) → readable s side ≡ t → Err r ≡ moves_admission s a b side places
      go true f =
          let o = unless_some (cut_refusal s a b) (side_named side) r (sym (cut_reading s a b side f) ∙ e) in
          sym (reading f ∙ ap (λ (p : Option Refusal). unless p (side_named side)) (stays x y few r o))
      go false f = let g : ◌≡◌ {A = Result Side Refusal} (Err NotARecord) (Err r) = cut_unread s a b side f ∙ e in sym g ∙ sym (unread f)

  module _ (d : Side) (e : admission s a b side ≡ Ok d) where
    pub short : places < length s / 8 → Err Full ≡ moves_admission s a b side places
    unfolding cut_refusal few x y
    short g =
        let p = was_admitted s a b side d e in
        let o = full x y few p.none_found (lt-leb (length (blocks_in s)) places (omega (arith, count s a b))) in
        sym (reading p.read ∙ ap (λ (q : Option Refusal). unless q (side_named side)) o)

    pub fine : length s / 8 ≤ places → Ok d ≡ moves_admission s a b side places
    unfolding cut_refusal few x y
    fine g =
        let p = was_admitted s a b side d e in
        let o = free x y few p.none_found (le-leb (length (blocks_in s)) places (omega (arith, count s a b))) in
        ap Ok p.named ∙ sym (reading p.read ∙ ap (λ (q : Option Refusal). unless q (side_named side)) o)

  -- ---- what is refused, and what holds where there is no refusal

  pub refused_out : (r : Refusal) → moves_admission s a b side places ≡ Err r → moves_at s a b side places ≡ refused r
  unfolding moves_to
  refused_out r e = go (readable s side) refl
    where
      by_tests : (o : Option Refusal) → found ≡ o → unless o (side_named side) ≡ Err r
          → moves_to o (blocks_in s) (inst a) (inst b) (side_named side) ≡ refused r
      by_tests none f g = cc
      by_tests (some q) f g = cc

      go : (t : Bool) → readable s side ≡ t → moves_at s a b side places ≡ refused r
      go true f = opened f ∙ by_tests found refl (sym (reading f) ∙ e)
      go false f = let g : ◌≡◌ {A = Result Side Refusal} (Err NotARecord) (Err r) = sym (unread f) ∙ e in closed f ∙ cc

  -- nothing is refused
  pub record Free (d : Side) : Type 0 where
    pub read : readable s side ≡ true
    pub passed : Passed s a b
    pub fits : length s / 8 ≤ places
    pub named : d ≡ side_named side
    pub accepted : moves_at s a b side places ≡ done (cut_moves (blocks_in s) (inst a) (inst b) (side_named side))

  by_none : (d : Side) → readable s side ≡ true → found ≡ none → d ≡ side_named side → Free d
  unfolding cut_refusal few x y moves_to
  by_none d r o n =
      let w = was_free x y few o in
      record {
        read = r;
        passed = was_passed s a b w.0;
        fits = omega (arith, leb-true (length (blocks_in s)) places w.1, count s a b);
        named = n;
        accepted =
            opened r
            ∙ ap (λ (p : Option Refusal). moves_to p (blocks_in s) (inst a) (inst b) (side_named side)) o;
      }

  pub was_admitted_moves : (d : Side) → moves_admission s a b side places ≡ Ok d → Free d
  was_admitted_moves d e = go (readable s side) refl
    where
      go : (t : Bool) → readable s side ≡ t → Free d
      go true f = let w = unless_ok found (sym (reading f) ∙ e) in by_none d f w.0 w.1
      go false f = let g : ◌≡◌ {A = Result Side Refusal} (Err NotARecord) (Ok d) = sym (unread f) ∙ e in cc

  -- by the answer's number
  pub was_zero : (end_of (moves_at s a b side places)).number ≡ 0 → Free (side_named side)
  unfolding end_of moves_to
  was_zero e = go (readable s side) refl
    where
      by_tests : (o : Option Refusal) → (end_of (moves_to o (blocks_in s) (inst a) (inst b) (side_named side))).number ≡ 0 → o ≡ none
      by_tests none g = refl
      by_tests (some q) g = absurd (numbered q (sym g))

      go : (t : Bool) → readable s side ≡ t → Free (side_named side)
      go true f = by_none (side_named side) f (by_tests found (sym (ap (λ (o : Out (List CutMove)). (end_of o).number) (opened f)) ∙ e)) refl
      go false f = absurd (let z : ◌≡◌ {A = ℕ} 1 0 = sym (ap (λ (o : Out (List CutMove)). (end_of o).number) (closed f)) ∙ e in omega arith)
