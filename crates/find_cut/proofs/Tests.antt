-- The tests of numbers 2 and 4, one law for each way out. Assumes nothing.
use Prim.Native.Nat.{ℕ, ◌/◌, ◌≤◌, ◌<◌}
use native.Mathlib.Omega.{arith}
use mathlib.Core.Path.{◌≡◌, refl, sym, ap}
use mathlib.Core.Option.{Option, none, some}
use Rattle.std.specs.Prelude.{Ok, Err}
use Rattle.definition.specs.declared.Refusal.{Refusal}
use mathlib.Core.Bool.{Bool, true, false, ◌&&◌}
use mathlib.Core.List.{List, [], ◌∷◌}
use lib.Dec.{leb, ltb}
use lib.ListN.{length}
use borrow.Author.Tests.{le-leb, lt-leb, lt-ltb, le-ltb, leb-true, ltb-true}
use Rattle.definition.specs.declared.Refusal.TheVariants.{OverALimit, BadFunction}
use Rattle.definition.specs.Entry.{insts_of, every, block_ok, lowest_of}
use Rattle.words.specs.RowsAt.{length_rows_at}
use Rattle.words.specs.Words.{words_of}
use Rattle.function.specs.Bools.{clash, and_l, and_r, both, not_l, not_r}
use Rattle.function.specs.Blocks.{block_row}
use Rattle.find_cut.specs.Answer.{blocks_in, unless, cut_refusal}

-- ---- a step's answer, by what the tests find

pub refuses : {A : Type 0} (x : A) {o : Option Refusal} {r : Refusal} → o ≡ some r → Err r ≡ unless o x
refuses x e = sym (ap (λ (p : Option Refusal). unless p x) e)

pub passes : {A : Type 0} (x : A) {o : Option Refusal} → o ≡ none → Ok x ≡ unless o x
passes x e = sym (ap (λ (p : Option Refusal). unless p x) e)

-- ---- both tests by their outcomes

found : Bool → Bool → Option Refusal
found x y = lowest_of ((x, OverALimit) ∷ (y, BadFunction) ∷ [])

over : (x y : Bool) → x ≡ false → found x y ≡ some OverALimit
unfolding found lowest_of
over false y e = refl
over true y e = clash e

wrong : (x y : Bool) → x ≡ true → y ≡ false → found x y ≡ some BadFunction
unfolding found lowest_of
wrong false y e f = clash (sym e)
wrong true false e f = refl
wrong true true e f = clash f

fine : (x y : Bool) → x ≡ true → y ≡ true → found x y ≡ none
unfolding found lowest_of
fine false y e f = clash (sym e)
fine true false e f = clash (sym f)
fine true true e f = refl

was_fine : (x y : Bool) → found x y ≡ none → (x ≡ true) × (y ≡ true)
unfolding found lowest_of
was_fine false y e = cc
was_fine true false e = cc
was_fine true true e = (refl, refl)

-- ---- the code's ways

module _ (s : List ℕ) (a b : ℕ) where
  few : Bool
  few = leb (length (blocks_in s)) 512

  short : Bool
  short = leb (insts_of (blocks_in s)) 4096

  ordered : Bool
  ordered = ltb a b

  inside : Bool
  inside = ltb b (insts_of (blocks_in s))

  filled : Bool
  filled = every block_ok (blocks_in s)

  pub count : length (blocks_in s) ≡ length s / 8
  count = length_rows_at block_row (words_of s) 0 2 (length s / 8)

  pub many : 512 < length s / 8 → cut_refusal s a b ≡ some OverALimit
  unfolding cut_refusal few short ordered inside filled found
  many h = over (few && short) (filled && (ordered && inside)) (not_l few short (lt-leb (length (blocks_in s)) 512 (omega (arith, count))))

  pub long : (t : ℕ) → t ≡ insts_of (blocks_in s) → 4096 < t → cut_refusal s a b ≡ some OverALimit
  unfolding cut_refusal few short ordered inside filled found
  long t e h = over (few && short) (filled && (ordered && inside)) (not_r few short (lt-leb (insts_of (blocks_in s)) 4096 (omega arith)))

  module _ (t : ℕ) (f : length s / 8 ≤ 512) (e : t ≡ insts_of (blocks_in s)) (g : t ≤ 4096) where
    in_limits : few && short ≡ true
    unfolding few short
    in_limits = both few short (le-leb (length (blocks_in s)) 512 (omega (arith, count))) (le-leb (insts_of (blocks_in s)) 4096 (omega arith))

    pub bad : false ≡ every block_ok (blocks_in s) → cut_refusal s a b ≡ some BadFunction
    unfolding cut_refusal few short ordered inside filled found
    bad h = wrong (few && short) (filled && (ordered && inside)) in_limits (not_l filled (ordered && inside) (sym h))

    pub unordered : b ≤ a → cut_refusal s a b ≡ some BadFunction
    unfolding cut_refusal few short ordered inside filled found
    unordered h = wrong (few && short) (filled && (ordered && inside)) in_limits (not_r filled (ordered && inside) (not_l ordered inside (le-ltb a b h)))

    pub past : t ≤ b → cut_refusal s a b ≡ some BadFunction
    unfolding cut_refusal few short ordered inside filled found
    past h = wrong (few && short) (filled && (ordered && inside)) in_limits (not_r filled (ordered && inside) (not_r ordered inside (le-ltb b (insts_of (blocks_in s)) (omega arith))))

    pub passing : true ≡ every block_ok (blocks_in s) → a < b → b < t → cut_refusal s a b ≡ none
    unfolding cut_refusal few short ordered inside filled found
    passing h k l =
        fine (few && short) (filled && (ordered && inside)) in_limits (both filled (ordered && inside) (sym h) (both ordered inside (lt-ltb a b k) (lt-ltb b (insts_of (blocks_in s)) (omega arith))))

  -- what holds where no test fails
  pub record Passed : Type 0 where
    pub blocks_few : length s / 8 ≤ 512
    pub insts_few : insts_of (blocks_in s) ≤ 4096
    pub blocks_ok : every block_ok (blocks_in s) ≡ true
    pub order : a < b
    pub within : b < insts_of (blocks_in s)

  pub was_passed : cut_refusal s a b ≡ none → Passed
  unfolding cut_refusal few short ordered inside filled found
  was_passed e =
      let w = was_fine (few && short) (filled && (ordered && inside)) e in
      let ends = and_r filled (ordered && inside) w.1 in
      let n : length (blocks_in s) ≤ 512 = leb-true (length (blocks_in s)) 512 (and_l few short w.0) in
      record {
        blocks_few = omega (arith, count);
        insts_few = leb-true (insts_of (blocks_in s)) 4096 (and_r few short w.0);
        blocks_ok = and_l filled (ordered && inside) w.1;
        order = ltb-true a b (and_l ordered inside ends);
        within = ltb-true b (insts_of (blocks_in s)) (and_r ordered inside ends);
      }
