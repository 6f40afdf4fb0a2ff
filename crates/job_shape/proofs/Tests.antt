-- What a call's answer says of a test, two tests, and lists of tests. Assumes nothing.
use mathlib.Core.Path.{◌≡◌, refl, sym, ◌∙◌}
use mathlib.Core.Bool.{Bool, true, false, not, ◌&&◌}
use mathlib.Core.List.{List, [], ◌∷◌, ◌++◌}
use borrow.Author.Tests.{not-true, not-false}
use Rattle.definition.specs.Entry.{conj}

-- ---- a test b that a callee answered by r

pub passed : {r b : Bool} → not r ≡ false → r ≡ b → b ≡ true
passed {r} h e = sym e ∙ not-false r h

pub failed : {r b : Bool} → not r ≡ true → r ≡ b → b ≡ false
failed {r} h e = sym e ∙ not-true r h

-- ---- two tests

pub and_true : (b : Bool) → b && true ≡ b
and_true true = refl
and_true false = refl

pub and_false : (b : Bool) → b && false ≡ false
and_false true = refl
and_false false = refl

-- ---- lists of tests

pub conj_append : (xs ys : List Bool) → conj (xs ++ ys) ≡ conj xs && conj ys
unfolding conj
conj_append [] ys = refl
conj_append (true ∷ xs) ys = conj_append xs ys
conj_append (false ∷ xs) ys = refl
