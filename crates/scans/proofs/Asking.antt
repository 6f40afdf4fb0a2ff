-- What a use asks, by the words of its row and its mark. Assumes nothing.
use mathlib.Core.Path.{◌≡◌, refl, sym, ap, ◌∙◌}
use mathlib.Core.Bool.{Bool, true, false, cond}
use mathlib.Core.List.{List}
use Prim.Native.Nat.{ℕ, zero, suc, ◌+◌, ◌*◌, ◌≤◌, ◌<◌}
use native.Mathlib.Omega.{arith}
use lib.Dec.{eqb}
use lib.ListN.{get_or}
use borrow.Author.Tests.{eq-eqb, ne_eqb, eqb-false}
use Rattle.definition.specs.declared.UseKind.TheVariants.{ConstraintConflict, BlockparamIn, BlockparamOut}
use Rattle.definition.specs.Types.{cls}
use Rattle.definition.specs.Build.{turned_use}
use Rattle.uses.specs.Rows.{pick_k, use_row, kind_of}
use Rattle.job.specs.declared.Layout.{Layout}
use Rattle.set_part.specs.Part.{marked_use}
use Rattle.constraints.specs.Asks.{ask_of}
use Rattle.scans.specs.declared.walk.Asked.{Asked}
use Rattle.scans.specs.declared.walk.Asked.TheVariants.{Any, Class, Group}
use Rattle.scans.specs.Walks.{asked_of}

-- ---- a kind by its number

kind_low : (k a b c d : ℕ) → k < 4 → asked_of (ask_of (kind_of k a b c d)) ≡ Any
unfolding kind_of
kind_low zero a b c d l = refl
kind_low (suc zero) a b c d l = refl
kind_low (suc (suc zero)) a b c d l = refl
kind_low (suc (suc (suc zero))) a b c d l = refl
kind_low (suc (suc (suc (suc k)))) a b c d l = absurd (omega arith)

kind_high : (k a b c d : ℕ) → 7 < k → asked_of (ask_of (kind_of k a b c d)) ≡ Any
unfolding kind_of
kind_high k a b c d l =
    rw (ne_eqb k 0 (omega arith), ne_eqb k 1 (omega arith), ne_eqb k 2 (omega arith), ne_eqb k 4 (omega arith), ne_eqb k 5 (omega arith), ne_eqb k 6 (omega arith), ne_eqb k 7 (omega arith))
    (go (eqb k 8) (eqb k 9))
  where
    go : (x y : Bool) → asked_of (ask_of (pick_k x (BlockparamIn a) (pick_k y BlockparamOut ConstraintConflict))) ≡ Any
    go true y = refl
    go false true = refl
    go false false = refl

kind_class : (k a b c d : ℕ) → 4 ≤ k → k < 6 → asked_of (ask_of (kind_of k a b c d)) ≡ Class (cls b)
unfolding kind_of
kind_class k a b c d l m = go (eqb k 4) refl
  where
    go : (x : Bool) → eqb k 4 ≡ x → asked_of (ask_of (kind_of k a b c d)) ≡ Class (cls b)
    go true e = rw (ne_eqb k 0 (omega arith), ne_eqb k 1 (omega arith), ne_eqb k 2 (omega arith), e)
    go false e =
        let five : eqb k 5 ≡ true = eq-eqb k 5 (omega (arith, eqb-false k 4 e)) in
        rw (ne_eqb k 0 (omega arith), ne_eqb k 1 (omega arith), ne_eqb k 2 (omega arith), e, five)

kind_group : (k a b c d : ℕ) → 6 ≤ k → k ≤ 7 → asked_of (ask_of (kind_of k a b c d)) ≡ Group
unfolding kind_of
kind_group k a b c d l m = go (eqb k 6) refl
  where
    go : (x : Bool) → eqb k 6 ≡ x → asked_of (ask_of (kind_of k a b c d)) ≡ Group
    go true e = rw (ne_eqb k 0 (omega arith), ne_eqb k 1 (omega arith), ne_eqb k 2 (omega arith), ne_eqb k 4 (omega arith), ne_eqb k 5 (omega arith), e)
    go false e =
        let seven : eqb k 7 ≡ true = eq-eqb k 7 (omega (arith, eqb-false k 6 e)) in
        rw (ne_eqb k 0 (omega arith), ne_eqb k 1 (omega arith), ne_eqb k 2 (omega arith), ne_eqb k 4 (omega arith), ne_eqb k 5 (omega arith), e, seven)

-- ---- a row under its mark

module _ (K : List ℕ) (marks : ℕ) (W : List ℕ) (lay : Layout) (n : ℕ) where
  -- what its row asks, where it is not marked
  row_asks : (q : Asked) → asked_of (ask_of (use_row W (lay.uses.at + n * 6)).kind) ≡ q → get_or K (marks + n) 0 ≡ 0
      → q ≡ asked_of (ask_of (marked_use K marks W lay n).kind)
  unfolding marked_use
  row_asks q e z = let t : eqb (get_or K (marks + n) 0) 0 ≡ true = eq-eqb _ 0 z in rw t (sym e)

  -- a kind that asks nothing asks nothing under a mark either
  none_asks : asked_of (ask_of (use_row W (lay.uses.at + n * 6)).kind) ≡ Any
      → Any ≡ asked_of (ask_of (marked_use K marks W lay n).kind)
  unfolding marked_use
  none_asks e = go (eqb (get_or K (marks + n) 0) 0)
    where
      go : (t : Bool) → Any ≡ asked_of (ask_of (cond t (use_row W (lay.uses.at + n * 6)) (turned_use (use_row W (lay.uses.at + n * 6)))).kind)
      go true = sym e
      go false = refl

  module _ (k : ℕ) (ek : k ≡ get_or W (lay.uses.at + n * 6) 0) where
    pub asks_low : k < 4 → Any ≡ asked_of (ask_of (marked_use K marks W lay n).kind)
    unfolding use_row
    asks_low l = none_asks (kind_low (get_or W (lay.uses.at + n * 6) 0) _ _ _ _ (omega arith))

    pub asks_high : 7 < k → Any ≡ asked_of (ask_of (marked_use K marks W lay n).kind)
    unfolding use_row
    asks_high l = none_asks (kind_high (get_or W (lay.uses.at + n * 6) 0) _ _ _ _ (omega arith))

    module _ (w : ℕ) (ew : w ≡ get_or K (marks + n) 0) where
      pub asks_turned : (w ≡ 0 → ⊥) → Any ≡ asked_of (ask_of (marked_use K marks W lay n).kind)
      unfolding marked_use
      asks_turned ne =
          let t : eqb (get_or K (marks + n) 0) 0 ≡ false = ne_eqb _ 0 (λ (z : get_or K (marks + n) 0 ≡ 0). ne (ew ∙ z)) in
          rw t refl

      pub asks_class : (c : ℕ) → w ≡ 0 → 4 ≤ k → k < 6 → c ≡ get_or W (lay.uses.at + n * 6 + 3) 0
          → Class (cls c) ≡ asked_of (ask_of (marked_use K marks W lay n).kind)
      unfolding use_row
      asks_class c z l m ec =
          row_asks (Class (cls c))
          (kind_class (get_or W (lay.uses.at + n * 6) 0) _ _ _ _ (omega arith) (omega arith) ∙ ap (λ (x : ℕ). Class (cls x)) (sym ec))
          (sym ew ∙ z)

      pub asks_group : w ≡ 0 → 6 ≤ k → k ≤ 7 → Group ≡ asked_of (ask_of (marked_use K marks W lay n).kind)
      unfolding use_row
      asks_group z l m =
          row_asks Group (kind_group (get_or W (lay.uses.at + n * 6) 0) _ _ _ _ (omega arith) (omega arith)) (sym ew ∙ z)
