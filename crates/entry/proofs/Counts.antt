-- The use counts of a job that passed test 1. Assumes nothing.
use Prim.Native.Nat.{ℕ, zero, suc, ◌+◌, ◌*◌, ◌≤◌, ◌<◌}
use native.Mathlib.Omega.{arith}
use native.Mathlib.Nat.{eq-or-lt_of_le}
use mathlib.Core.Path.{◌≡◌, refl, sym, ap, subst, ◌∙◌}
use mathlib.Core.Logic.{◌⊎◌, inl, inr}
use mathlib.Core.Bool.{true}
use mathlib.Core.List.{List}
use lib.Dec.{leb, eqb}
use lib.ListN.{get_or}
use borrow.Author.Tests.{lt-ltb, le-ltb, leb-true, eqb-true}
use Rattle.words.specs.Tab.{tab}
use Rattle.words.specs.RowsAt.{rows_at}
use Rattle.definition.proofs.Entries.{and_both}
use Rattle.job.specs.declared.Layout.{Layout}
use Rattle.job.specs.Layout.{seg_row, seg_at, next_use}
use Rattle.job_shape.specs.Shape.{rises, use_counts, counts_ok}
use Rattle.job_shape.proofs.Rising.{begins_at}
use Rattle.entry_uses.specs.ListTests.{Rising}

module _ (W : List ℕ) (lay : Layout) where
  abbrev pub first_at : ℕ → ℕ
  first_at i = get_or W (lay.segments.at + i * 5 + 4) 0

  pub first_is : (i : ℕ) → (seg_at W lay i).first ≡ first_at i
  unfolding seg_at seg_row
  first_is i = refl

  pub next_last : (i : ℕ) → lay.segments.n ≤ i + 1 → next_use W lay i ≡ lay.uses.n
  unfolding next_use
  next_last i h = rw (le-ltb (i + 1) lay.segments.n h)

  pub next_more : (i : ℕ) → i + 1 < lay.segments.n → next_use W lay i ≡ first_at (i + 1)
  unfolding next_use
  next_more i h = rw (lt-ltb (i + 1) lay.segments.n h)

  abbrev Steps : ℕ → Type 0
  Steps j = (first_at j ≤ next_use W lay j) × (next_use W lay j ≤ lay.uses.n)

  steps : (k i : ℕ) → i + suc k ≡ lay.segments.n → rises (first_at i) (tab first_at (i + 1) k) lay.uses.n ≡ true → (j : ℕ) → i ≤ j → j < lay.segments.n → Steps j
  unfolding rises
  steps zero i h e j a b =
      let l : first_at i ≤ lay.uses.n = leb-true _ _ e in
      let d : i ≡ j = omega arith in
      subst Steps d (omega (arith, l, next_last i (omega arith)), omega (arith, next_last i (omega arith)))
  steps (suc k) i h e j a b =
      let g = and_both (leb (first_at i) (first_at (i + 1))) (rises (first_at (i + 1)) (tab first_at (i + 1 + 1) k) lay.uses.n) e in
      let l : first_at i ≤ first_at (i + 1) = leb-true _ _ g.0 in
      let r = steps k (i + 1) (omega arith) g.1 in
      go l r (eq-or-lt_of_le a)
    where
      go : first_at i ≤ first_at (i + 1) → ((m : ℕ) → i + 1 ≤ m → m < lay.segments.n → Steps m) → (i ≡ j) ⊎ (i < j) → Steps j
      go l r (inl d) =
          let q = r (i + 1) (omega arith) (omega arith) in
          subst Steps d (omega (arith, next_more i (omega arith)), omega (arith, q.0, q.1, next_more i (omega arith)))
      go l r (inr d) = r j (omega arith) b

  all_steps : (n : ℕ) → n ≡ lay.segments.n → rises 0 (tab first_at 0 n) lay.uses.n ≡ true → (j : ℕ) → j < lay.segments.n → Steps j
  unfolding rises
  all_steps zero h e j b = absurd (omega arith)
  all_steps (suc k) h e j b =
      steps k 0 (omega arith) (and_both (leb 0 (first_at 0)) (rises (first_at 0) (tab first_at 1 k) lay.uses.n) e).1 j (omega arith) b

  -- what test 1 says of them
  pub rising : counts_ok W lay ≡ true → Rising W lay
  unfolding counts_ok use_counts rows_at
  rising e =
      let b = and_both (eqb (get_or (use_counts W lay) 0 lay.uses.n) 0) (rises 0 (use_counts W lay) lay.uses.n) e in
      let z : lay.segments.at + 0 * 5 + 4 ≡ lay.segments.at + 4 = omega arith in
      let s = all_steps lay.segments.n refl b.1 in
      record {
        first = λ h. first_is 0 ∙ sym (begins_at W lay (first_at 0) (λ d. omega arith) (ap (λ (k : ℕ). get_or W k 0) z)) ∙ eqb-true _ _ b.0;
        rise = λ i h. omega (arith, first_is i, (s i h).0);
        within = λ i h. (s i h).1;
      }
