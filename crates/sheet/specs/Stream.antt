-- A sheet may be fed in parts: what the parts give, one behind the other, is what the whole gives. Assumes nothing.
use Rattle.std.specs.Prelude.{◌≡◌, refl, List, [], ◌∷◌, ◌++◌, ℕ, zero, suc, ◌<◌, get_or}
use Rattle.std.proofs.Common.{sym, ap, ◌∙◌, arith}
use Rattle.sheet.specs.Front.{Formed, push_form, run_form}

pub run_append : (f : Formed) (xs ys : List ℕ) → run_form f (xs ++ ys) ≡ run_form (run_form f xs) ys
unfolding run_form
run_append f [] ys = refl
run_append f (x ∷ xs) ys = run_append (push_form f x) xs ys

unfoldable pub joined : List (List ℕ) → List ℕ
joined [] = []
joined (p ∷ ps) = p ++ joined ps

-- what a loop over parts leaves
unfoldable pub formed_parts : Formed → List (List ℕ) → Formed
formed_parts f [] = f
formed_parts f (p ∷ ps) = formed_parts (run_form f p) ps

pub parts : (f : Formed) (ps : List (List ℕ)) → formed_parts f ps ≡ run_form f (joined ps)
unfolding run_form joined formed_parts
parts f [] = refl
parts f (p ∷ ps) = rw (run_append f p (joined ps)) (parts (run_form f p) ps)

-- the state and the words are those of the machine on some bytes
pub record Streamed (f g : Formed) : Type 0 where
  pub bytes : List ℕ
  pub small : (i : ℕ) → get_or bytes i 0 < 256
  pub is : g ≡ run_form f bytes

unfoldable pub none_yet : (f : Formed) → Streamed f f
unfolding run_form
none_yet f = record { bytes = []; small = λ i. omega arith; is = refl }

pub small_both : (xs ys : List ℕ) → ((i : ℕ) → get_or xs i 0 < 256) → ((i : ℕ) → get_or ys i 0 < 256) → (i : ℕ)
    → get_or (xs ++ ys) i 0 < 256
small_both [] ys h g i = g i
small_both (x ∷ xs) ys h g zero = h 0
small_both (x ∷ xs) ys h g (suc i) = small_both xs ys (λ j. h (suc j)) g i

unfoldable pub one_more_lem : {f g : Formed} (h : Formed) (part : List ℕ) → Streamed f g → ((i : ℕ) → get_or part i 0 < 256)
    → h ≡ run_form g part → Streamed f h
one_more_lem {f} {g} h part s b e = record {
  bytes = s.bytes ++ part;
  small = small_both s.bytes part s.small b;
  is = e ∙ ap (λ k. run_form k part) s.is ∙ sym (run_append f s.bytes part);
}
