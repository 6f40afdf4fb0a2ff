-- Which of two places a side wants: the one that costs less, of equal ones the one ahead. For both sides and for any costs:
-- of two one wins, and one alone wins over all. Assumes nothing.
use Prim.Native.Nat.{ℕ, ◌≤◌, ◌<◌}
use native.Mathlib.Omega.{arith}
use mathlib.Core.Path.{◌≡◌, refl}
use mathlib.Core.Logic.{◌⊎◌, inl, inr}
use mathlib.Core.Bool.{Bool, true, false, cond}
use Rattle.std.proofs.lemmas.Bool.{cases_lt}
use Rattle.definition.specs.declared.Side.{Side}
use Rattle.definition.specs.declared.Side.TheVariants.{Early, Late}

-- x is ahead of y: early in front of it, late behind it
abbrev pub Before : Side → ℕ → ℕ → Type 0
Before Early x y = x < y
Before Late x y = y < x

-- none is ahead of itself
pub not_itself : (side : Side) (x : ℕ) → Before side x x → ⊥
not_itself Early x h = omega arith
not_itself Late x h = omega arith

-- where x is ahead of z, any y is behind x or ahead of z
between : (side : Side) (x y z : ℕ) → Before side x z → Before side x y ⊎ Before side y z
between Early x y z h = elim (cases_lt x y) [ inl l ↦ inl l | inr l ↦ inr (omega arith) ]
between Late x y z h = elim (cases_lt y x) [ inl l ↦ inl l | inr l ↦ inr (omega arith) ]

-- where none is ahead of the other they are one
same_place : (side : Side) (x y : ℕ) → (Before side x y → ⊥) → (Before side y x → ⊥) → x ≡ y
same_place Early x y f g = omega arith
same_place Late x y f g = omega arith

-- ---- costs

-- Le x y: x costs no more than y; Lt x y: x costs less
pub record Costs (Le Lt : ℕ → ℕ → Type 0) : Type 0 where
  pub itself : (x : ℕ) → Le x x
  pub weaker : (x y : ℕ) → Lt x y → Le x y
  pub through : (x y z : ℕ) → Le x y → Le y z → Le x z
  pub less_then : (x y z : ℕ) → Lt x y → Le y z → Lt x z
  pub then_less : (x y z : ℕ) → Le x y → Lt y z → Lt x z

-- x costs no more than y, and less where y is ahead
pub record Wins (Le Lt : ℕ → ℕ → Type 0) (side : Side) (x y : ℕ) : Type 0 where
  pub least : Le x y
  pub ahead : Before side y x → Lt x y

-- the choice of the code and of the definition between c and d behind it, by one test
abbrev pub choice : Side → Bool → ℕ → ℕ → ℕ
choice Early t c d = cond t d c
choice Late t c d = cond t c d

-- what the test says: early that d costs less, late that c does
abbrev pub Tests : (ℕ → ℕ → Type 0) → (ℕ → ℕ → Type 0) → Side → Bool → ℕ → ℕ → Type 0
Tests Le Lt Early t c d = (t ≡ true → Lt d c) × (t ≡ false → Le c d)
Tests Le Lt Late t c d = (t ≡ true → Lt c d) × (t ≡ false → Le d c)

-- x is one of two and wins over both
pub record Picked (Le Lt : ℕ → ℕ → Type 0) (side : Side) (c d x : ℕ) : Type 0 where
  pub one : (x ≡ c) ⊎ (x ≡ d)
  pub over_first : Wins Le Lt side x c
  pub over_second : Wins Le Lt side x d

module _ {Le Lt : ℕ → ℕ → Type 0} (k : Costs Le Lt) where
  pub wins_itself : (side : Side) (x : ℕ) → Wins Le Lt side x x
  wins_itself side x = record { least = k.itself x; ahead = λ h. absurd (not_itself side x h) }

  -- who wins over one that wins over z wins over z
  pub wins_through : (side : Side) (x y z : ℕ) → Wins Le Lt side x y → Wins Le Lt side y z → Wins Le Lt side x z
  wins_through side x y z f g =
      record { least = k.through x y z f.least g.least; ahead = λ h. go (between side z y x h) }
    where
      go : Before side z y ⊎ Before side y x → Lt x z
      go (inl h) = k.then_less x y z f.least (g.ahead h)
      go (inr h) = k.less_then x y z (f.ahead h) g.least

  wins_less : (side : Side) (x y : ℕ) → Lt x y → Wins Le Lt side x y
  wins_less side x y h = record { least = k.weaker x y h; ahead = λ _. h }

  -- of two the one chosen by the test wins over both
  pub picked : (side : Side) (t : Bool) (c d : ℕ) → c ≤ d → Tests Le Lt side t c d
      → Picked Le Lt side c d (choice side t c d)
  picked Early true c d h f =
      record { one = inr refl; over_first = wins_less Early d c (f.0 refl); over_second = wins_itself Early d }
  picked Early false c d h f =
      record {
        one = inl refl;
        over_first = wins_itself Early c;
        over_second = record { least = f.1 refl; ahead = λ l. absurd (omega arith) };
      }
  picked Late true c d h f =
      record { one = inl refl; over_first = wins_itself Late c; over_second = wins_less Late c d (f.0 refl) }
  picked Late false c d h f =
      record {
        one = inr refl;
        over_first = record { least = f.1 refl; ahead = λ l. absurd (omega arith) };
        over_second = wins_itself Late d;
      }

-- of all places one alone wins
pub one_wins : {Le Lt : ℕ → ℕ → Type 0} → ((x y : ℕ) → Lt x y → Le y x → ⊥) → (side : Side) (P : ℕ → Type 0) (c d : ℕ)
    → P c → P d → ((p : ℕ) → P p → Wins Le Lt side c p) → ((p : ℕ) → P p → Wins Le Lt side d p) → c ≡ d
one_wins apart side P c d pc pd f g =
    same_place side c d (λ h. apart d c ((g c pc).ahead h) (f d pd).least)
    (λ h. apart c d ((f d pd).ahead h) (g c pc).least)
