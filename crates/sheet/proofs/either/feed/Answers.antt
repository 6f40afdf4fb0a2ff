use mathlib.Core.Path.{◌≡◌, refl, sym, ap, ◌∙◌}
use mathlib.Core.List.{List, [], ◌∷◌}
use mathlib.Core.Bool.{Bool, true}
use Prim.Native.Nat.{ℕ, ◌+◌, ◌-◌, ◌<◌}
use native.Mathlib.Numerals.{add-one}
use native.Mathlib.Omega.{arith}
use lib.ListN.{length, get_or, take, drop, length-drop}
use lib.Seq.{take_all, drop-cons}
use Rattle.sheet.specs.Fields.{Next, Fed, fed}
use Rattle.sheet.specs.Machine.{push_of, run_of}
use Rattle.sheet.specs.Fronts.{Front, front_at, Opening, First, Word, Plain, Before, Written}
use Rattle.sheet.specs.declared.either.Reading.{Reading}
use Rattle.sheet.specs.Front.{stands, Keeping, keeping, Formed, onward, formed, push_form, run_form, first_of}
use Rattle.sheet.proofs.either.feed.Goals as goal

first_is : (f : Front) → first_of f ≡ true → f ≡ First
first_is (Opening k) e = cc
first_is First e = refl
first_is Word e = cc
first_is Plain e = cc
first_is (Before key left) e = cc
first_is (Written key x) e = cc

-- the first form's reader takes the rest
run_first : (g : Fed) (t : Keeping) (bs : List ℕ)
    → run_form (onward (stands First g) t) bs ≡ onward (stands First (run_of g bs)) t
unfolding run_form run_of push_form
run_first g t [] = refl
run_first g t (b ∷ bs) = run_first (push_of g b) t bs

-- what `&bs[i..]` reads
take_rest : (bs : List ℕ) (i : ℕ) → take (length bs - i) (drop i bs) ≡ drop i bs
take_rest bs i = take_all (length bs - i) (drop i bs) (simp length-drop (omega arith))

run_rest : (at : Reading) (q : Bool) (r : Next) (o o₂ w bs : List ℕ) (i : ℕ)
    → q ≡ first_of (front_at at.front) → q ≡ true
    → fed r o₂ ≡ run_of (fed at.next o) (take (length bs - i) (drop i bs))
    → onward (stands (front_at at.front) (fed r o₂)) (keeping at.kept w) ≡ run_form (formed at o w) (drop i bs)
run_rest at q r o o₂ w bs i e t h =
    let f : front_at at.front ≡ First = first_is (front_at at.front) (sym e ∙ t) in
    let k = keeping at.kept w in
    ap (λ (x : Front). onward (stands x (fed r o₂)) k) f
    ∙ ap (λ (g : Fed). onward (stands First g) k) (h ∙ ap (run_of (fed at.next o)) (take_rest bs i))
    ∙ sym (run_first (fed at.next o) k (drop i bs))
    ∙ ap (λ (x : Front). run_form (onward (stands x (fed at.next o)) k) (drop i bs)) (sym f)

-- one turn of the loop
run_more : (f g : Formed) (bs : List ℕ) (i : ℕ) → i < length bs → g ≡ push_form f (get_or bs i 0)
    → run_form f (drop i bs) ≡ run_form g (drop (i + 1) bs)
unfolding run_form
run_more f g bs i h e = rw (add-one, e, drop-cons bs i 0)

pub returns-then-is_first : goal.returns-then-is_first
returns-then-is_first c = run_rest c.loop-i.at _ _ _ _ _ c.args.part.now c.loop-i.i
    c.is_first.ensures c.if-is_first.true c.feed-next.ensures
    ∙ sym c.loop-i.invariant

pub loop-i-preserved : goal.loop-i-preserved
loop-i-preserved c = c.loop-i.invariant ∙ run_more _ _ _ _ c.loop-i-test.true c.push-at.ensures
