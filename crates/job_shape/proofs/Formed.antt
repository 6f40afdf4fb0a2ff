-- What the tests of a slice make of its answer. Assumes nothing.
use Prim.Native.Nat.{ℕ, ◌*◌, ◌≤◌, ◌<◌}
use native.Mathlib.Omega.{arith}
use mathlib.Core.Path.{◌≡◌, sym, ap, subst, ◌∙◌}
use mathlib.Core.Bool.{Bool, true, false}
use Rattle.std.specs.Prelude.{Option, None}
use Rattle.std.specs.Bool.{then_some}
use mathlib.Core.List.{List}
use lib.ListN.{length}
use borrow.Author.Tests.{le-leb, lt-leb, eq-eqb, ne_eqb}
use Rattle.words.specs.Words.{word_count, words_of}
use Rattle.definition.specs.Entry.{conj}
use Rattle.job.specs.declared.Layout.{Layout}
use Rattle.job.specs.Layout.{Fits}
use Rattle.job_shape.specs.Shape.{layout_of, end_of, tables_ok, shape_ok, Shaped, Formed}
use Rattle.job_shape.proofs.Laws.{layout_fits, shaped}
use Rattle.job_shape.proofs.Tests.{and_true}

pub too_short : (s : List ℕ) → length s < 56 → Formed s None
unfolding shape_ok conj
too_short s h =
    let a : word_count s < 14 = omega arith in
    record { is = sym (simp (lt-leb 14 (word_count s) a)); found = tt; shaped = tt }

module _ (s : List ℕ) (lay : Layout) (h : 56 ≤ length s) (e : lay ≡ layout_of (words_of s)) where
  header : 14 ≤ word_count s
  header = omega arith

  pub other_length : (length s ≡ end_of lay * 4 → ⊥) → Formed s None
  unfolding shape_ok conj
  other_length d =
      let f : length s ≡ 4 * end_of (layout_of (words_of s)) → ⊥ = λ q. d (q ∙ ap (λ (l : Layout). 4 * end_of l) (sym e) ∙ omega arith) in
      record {
        is = sym (simp (le-leb 14 (word_count s) header, ne_eqb _ _ f));
        found = tt;
        shaped = tt;
      }

  pub exact_fits : length s ≡ end_of lay * 4 → Fits (word_count s) lay
  exact_fits d =
      let f : end_of (layout_of (words_of s)) * 4 ≤ length s = subst (λ (l : Layout). end_of l * 4 ≤ length s) e (omega arith) in
      subst (λ (l : Layout). Fits (word_count s) l) (sym e) (layout_fits s f)

  exact_is : (t : Bool) → length s ≡ end_of lay * 4 → t ≡ tables_ok (words_of s) lay → t ≡ shape_ok s
  unfolding shape_ok conj
  exact_is t d q =
      let f : length s ≡ 4 * end_of (layout_of (words_of s)) = d ∙ ap (λ (l : Layout). end_of l * 4) e ∙ omega arith in
      let g : t ≡ tables_ok (words_of s) (layout_of (words_of s)) = q ∙ ap (λ (l : Layout). tables_ok (words_of s) l) e in
      simp (le-leb 14 (word_count s) header, eq-eqb _ _ f) (g ∙ sym (and_true _))

  pub exact : (t : Bool) → length s ≡ end_of lay * 4 → t ≡ tables_ok (words_of s) lay → (r : Option Layout) → r ≡ then_some t lay → Formed s r
  exact t d q r z = rw z (go t (exact_is t d q))
    where
      go : (t : Bool) → t ≡ shape_ok s → Formed s (then_some t lay)
      go true i = record { is = i; found = e; shaped = subst (λ (l : Layout). Shaped s l) (sym e) (shaped s (sym i)) }
      go false i = record { is = i; found = tt; shaped = tt }
