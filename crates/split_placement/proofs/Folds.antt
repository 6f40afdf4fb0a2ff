-- The definition's folds over a list that does not fall: of its numbers the one that the side wants. Assumes nothing.
use Prim.Native.Nat.{ℕ, ◌≤◌}
use native.Mathlib.Omega.{arith}
use mathlib.Core.Path.{◌≡◌, refl, sym, ◌∙◌, subst}
use mathlib.Core.Logic.{◌⊎◌, inl, inr}
use mathlib.Core.Bool.{Bool, true, false}
use mathlib.Core.List.{List, [], ◌∷◌, ◌++◌}
use lib.Ieee.{Float, lt}
use Rattle.definition.specs.declared.Side.{Side}
use Rattle.definition.specs.declared.Side.TheVariants.{Early, Late}
use Rattle.definition.specs.Entry.{plain}
use Rattle.definition.specs.SplitPlacement.{earliest, latest, late_from}
use Rattle.function.specs.Bools.{clash}
use Rattle.split_placement.proofs.Order.{lower_not_higher, not_below_itself, up_to, below_up_to, up_to_below}
use Rattle.split_placement.proofs.Wins.{Costs, Wins, choice, Tests, Picked, wins_itself, wins_through, picked}

abbrev pub In : ℕ → List ℕ → Type 0
In x [] = ⊥
In x (y ∷ ys) = (x ≡ y) ⊎ In x ys

-- no number is above a later one
abbrev pub Rising : List ℕ → Type 0
Rising [] = Unit {0}
Rising (c ∷ cs) = ((x : ℕ) → In x cs → c ≤ x) × Rising cs

-- ---- prices as costs

abbrev pub NoDearer : (ℕ → Float) → ℕ → ℕ → Type 0
NoDearer price x y = lt (price y) (price x) ≡ false

abbrev pub Cheaper : (ℕ → Float) → ℕ → ℕ → Type 0
Cheaper price x y = lt (price x) (price y) ≡ true

-- x is no dearer than y, and cheaper where y is ahead
abbrev pub Wanted : (ℕ → Float) → Side → ℕ → ℕ → Type 0
Wanted price side x y = Wins (NoDearer price) (Cheaper price) side x y

-- no price is both
pub not_both : (price : ℕ → Float) (x y : ℕ) → Cheaper price x y → NoDearer price y x → ⊥
not_both price x y h k = clash (sym h ∙ k)

-- of the numbers of a list r is the one wanted
pub record Best (price : ℕ → Float) (side : Side) (xs : List ℕ) (r : ℕ) : Type 0 where
  pub inside : In r xs
  pub wins : (p : ℕ) → In p xs → Wanted price side r p

module _ (price : ℕ → Float) (ok : (p : ℕ) → plain (price p) ≡ true) where
  pub prices : Costs (NoDearer price) (Cheaper price)
  prices =
      record {
        itself = λ x. not_below_itself (price x) (ok x);
        weaker = λ x y. lower_not_higher (price x) (price y) (ok x) (ok y);
        through = λ x y z. up_to (price x) (price y) (price z) (ok x) (ok y) (ok z);
        less_then = λ x y z. below_up_to (price x) (price y) (price z) (ok x) (ok y) (ok z);
        then_less = λ x y z. up_to_below (price x) (price y) (price z) (ok x) (ok y) (ok z);
      }

  -- the fold of each side, and its test
  abbrev fold : Side → ℕ → List ℕ → ℕ
  fold Early c ds = earliest price c ds
  fold Late c ds = latest price c ds

  abbrev test : Side → ℕ → ℕ → Bool
  test Early c d = lt (price d) (price c)
  test Late c d = lt (price c) (price d)

  fold_none : (side : Side) (c : ℕ) → fold side c [] ≡ c
  unfolding earliest latest
  fold_none Early c = refl
  fold_none Late c = refl

  fold_more : (side : Side) (c d : ℕ) (ds : List ℕ)
      → fold side c (d ∷ ds) ≡ fold side (choice side (test side c d) c d) ds
  unfolding earliest latest
  fold_more Early c d ds = refl
  fold_more Late c d ds = refl

  tested : (side : Side) (c d : ℕ) → Tests (NoDearer price) (Cheaper price) side (test side c d) c d
  tested Early c d = (λ e. e, λ e. e)
  tested Late c d = (λ e. e, λ e. e)

  module _ (side : Side) where
    fold_best : (ds : List ℕ) (c : ℕ) → Rising (c ∷ ds) → Best price side (c ∷ ds) (fold side c ds)
    fold_best [] c s =
        subst (Best price side (c ∷ [])) (sym (fold_none side c)) (record { inside = inl refl; wins = over })
      where
        over : (p : ℕ) → In p (c ∷ []) → Wanted price side c p
        over p (inl e) = subst (Wanted price side c) (sym e) (wins_itself prices side c)
        over p (inr m) = absurd m
    fold_best (d ∷ ds) c s =
        subst (Best price side (c ∷ d ∷ ds)) (sym (fold_more side c d ds))
        (step _ _ (picked prices side (test side c d) c d (s.0 d (inl refl)) (tested side c d)) (λ q. fold_best ds _ q))
      where
        step : (x r : ℕ) → Picked (NoDearer price) (Cheaper price) side c d x
            → (Rising (x ∷ ds) → Best price side (x ∷ ds) r) → Best price side (c ∷ d ∷ ds) r
        step x r k f = record { inside = within k.one b.inside; wins = over }
          where
            rises : (x ≡ c) ⊎ (x ≡ d) → (y : ℕ) → In y ds → x ≤ y
            rises (inl e) y m = omega (arith, s.0 y (inr m))
            rises (inr e) y m = omega (arith, s.1.0 y m)

            b : Best price side (x ∷ ds) r
            b = f (rises k.one, s.1.1)

            within : (x ≡ c) ⊎ (x ≡ d) → In r (x ∷ ds) → In r (c ∷ d ∷ ds)
            within o (inr m) = inr (inr m)
            within (inl e) (inl g) = inl (g ∙ e)
            within (inr e) (inl g) = inr (inl (g ∙ e))

            first : Wanted price side r x
            first = b.wins x (inl refl)

            over : (p : ℕ) → In p (c ∷ d ∷ ds) → Wanted price side r p
            over p (inl e) = subst (Wanted price side r) (sym e) (wins_through prices side r x c first k.over_first)
            over p (inr (inl e)) =
                subst (Wanted price side r) (sym e) (wins_through prices side r x d first k.over_second)
            over p (inr (inr m)) = b.wins p (inr m)

  pub early_best : (c : ℕ) (ds : List ℕ) → Rising (c ∷ ds) → Best price Early (c ∷ ds) (earliest price c ds)
  early_best c ds s = fold_best Early ds c s

  pub late_best : (cs : List ℕ) (b : ℕ) → Rising (cs ++ (b ∷ []))
      → Best price Late (cs ++ (b ∷ [])) (late_from price cs b)
  unfolding late_from
  late_best [] b s = subst (Best price Late (b ∷ [])) (fold_none Late b) (fold_best Late [] b s)
  late_best (c ∷ cs) b s = fold_best Late (cs ++ (b ∷ [])) c s
