-- A sheet that was moved comes home, by the promises of the conversions. Assumes nothing.
use mathlib.Core.Path.{◌≡◌, refl, sym, ap, subst, ◌∙◌}
use mathlib.Core.Bool.{Bool, true, false, not, ◌&&◌, ◌||◌}
use mathlib.Core.List.{List, ◌∷◌, []}
use Prim.Native.Nat.{ℕ}
use lib.ListN.{take}
use Rattle.std.specs.Prelude.{Option as Maybe, Some, None, is_some}
use Rattle.std.specs.Bool.{then_some}
use Rattle.std.specs.Result.{result_err}
use Rattle.std.proofs.Math.Option.{Option, none, some}
use Rattle.definition.specs.declared.Refusal.TheVariants.{NotARecord}
use Rattle.definition.specs.declared.SheetRefusal.{SheetRefusal}
use Rattle.definition.specs.declared.SheetRefusal.TheVariants.{By}
use Rattle.definition.specs.Text.{bytes, same, decimal, places, line}
use Rattle.definition.specs.SheetForms.{is_second, verdict, SheetOut, refused', refusal_text}
use Rattle.definition.specs.Conversion.{already, move_to, moved_text, converted}
use Rattle.definition.proofs.Same.{same_refl}
use Rattle.text_laws.specs.ConversionPromises.{promise_already, promise_refused, promise_same_job}
use Rattle.convert.specs.Settled.{moved_verdict}
use Rattle.convert.specs.declared.memory.Moved.{Moved}
use Rattle.convert.specs.Moved.{Whole, Answered, gets_back}

-- the line of refusal 1
first_line : refusal_text (By NotARecord) ≡ line "refused" (bytes "1" ∷ [])
unfolding decimal places
first_line = refl

-- a sheet has its own form and not the other
has_own : (t : Bool) → already t t ≡ true
has_own true = refl
has_own false = refl

has_not : (t : Bool) → already (not t) t ≡ false
has_not true = refl
has_not false = refl

not_other : (t : Bool) → not (not t) ≡ t
not_other true = refl
not_other false = refl

-- the program of the own form
own : (second : Bool) (sheet : List ℕ) → second ≡ is_second sheet
    → same (line "refused" (bytes "1" ∷ [])) (converted second sheet) ≡ true
own second sheet e =
    let a : already second (is_second sheet) ≡ true = ap (already second) (sym e) ∙ has_own second in
    ap (same (line "refused" (bytes "1" ∷ []))) (ap moved_text (promise_already second sheet a) ∙ first_line)
    ∙ same_refl (line "refused" (bytes "1" ∷ []))

-- the same program for what the sheet was moved to
module _ (second : Bool) (sheet : List ℕ) (e : second ≡ is_second sheet) (m : Moved) (B : List ℕ)
    (w : Whole (not second) sheet m B) where
  has_other : already (not second) (is_second sheet) ≡ false
  has_other = ap (already (not second)) (sym e) ∙ has_not second

  passed_back : verdict sheet ≡ none → same sheet (converted second (take m.n B)) ≡ true
  passed_back v =
      let q = promise_same_job (not second) sheet has_other v in
      ap (λ (l : List ℕ). same sheet (converted second l)) (w.is ∙ ap moved_text q.is)
      ∙ ap (λ (t : Bool). same sheet (moved_text (move_to t q.text))) (sym (not_other second))
      ∙ ap (λ (o : SheetOut (List ℕ)). same sheet (moved_text o)) q.back
      ∙ same_refl sheet

  -- where it is no refusal, the sheet passes
  back : (o : Maybe SheetRefusal) → m.refused ≡ o → is_some o || same sheet (converted second (take m.n B)) ≡ true
  back (Some r) i = refl
  back None i = go (verdict sheet) refl
    where
      go : (v : Option SheetRefusal) → verdict sheet ≡ v → same sheet (converted second (take m.n B)) ≡ true
      go none v = passed_back v
      go (some r) v =
          let f : move_to (not second) sheet ≡ refused' r = (promise_refused (not second) sheet has_other r).1 v in
          let g : None ≡ Some r =
          sym i ∙ w.refused ∙ ap (λ (k : SheetOut (List ℕ)). result_err (moved_verdict k)) f in
          cc

  home : gets_back second m sheet (take m.n B) ≡ true
  home =
      ap (λ (t : Bool). t && (is_some m.refused || same sheet (converted second (take m.n B)))) (own second sheet e)
      ∙ back m.refused refl

  pub came_home : (b : Bool) → b ≡ gets_back second m sheet (take m.n B) → (r : Maybe Moved) → r ≡ then_some b m
      → Answered (not (is_second sheet)) sheet r B
  came_home b d r i =
      subst (λ (k : Maybe Moved). Answered (not (is_second sheet)) sheet k B)
      (sym (i ∙ ap (λ (t : Bool). then_some t m) (d ∙ home)))
      (subst (λ (t : Bool). Whole (not t) sheet m B) e w)
