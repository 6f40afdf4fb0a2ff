-- One block's frequency changed: 01 accepts the blocks still, and the open ones and their places are the same.
-- `fair_changed`, `pattern_changed`, `first_kept`, `last_kept`, `place_kept`. Assumes nothing.
use Prim.Native.Nat.{ℕ, zero, suc, ◌+◌, ◌-◌, ◌<◌}
use native.Mathlib.Omega.{arith}
use mathlib.Core.Path.{◌≡◌, refl, sym, ap, ◌∙◌, subst}
use mathlib.Core.Bool.{Bool, true, false, cond}
use mathlib.Core.List.{List, [], ◌∷◌}
use lib.Dec.{ltb, eqb}
use lib.ListN.{length}
use lib.Ieee.{binary32, of_bits}
use lib.Ieee.Bits.{is_true}
use borrow.Author.Tests.{eqb-true, eqb-false}
use Rattle.definition.specs.declared.Inst.{Inst}
use Rattle.definition.specs.declared.BlockData.{BlockData}
use Rattle.definition.specs.declared.Side.{Side}
use Rattle.definition.specs.declared.Side.TheVariants.{Early, Late}
use Rattle.definition.specs.Entry.{insts_of, every, block_ok, plain}
use Rattle.definition.specs.CutMoves.{with_frequency, infinity, pattern_of, first_open, last_open}
use Rattle.weights.proofs.Bits.{bits_plain, bits_back}
use Rattle.function.specs.Bools.{and_l, and_r, both}
use Rattle.function.specs.Blocks.{start_of, block_of, block_at}
use Rattle.function.specs.BlockLaws.{start_last, block_filled, block_passes}
use Rattle.split_placement.specs.Margins.{changed, at_own, at_other}
use Rattle.split_placement.specs.Promised.{Fair}
use Rattle.split_placement.proofs.Chosen.{place_of}

-- ---- what stays

length_kept : (bs : List BlockData) (j x : ℕ) → length (with_frequency bs j x) ≡ length bs
unfolding with_frequency
length_kept [] j x = refl
length_kept (b ∷ bs) zero x = refl
length_kept (b ∷ bs) (suc j) x = ap suc (length_kept bs j x)

start_kept : (bs : List BlockData) (j x i : ℕ) → start_of (with_frequency bs j x) i ≡ start_of bs i
unfolding with_frequency start_of
start_kept bs j x zero = refl
start_kept [] j x (suc i) = refl
start_kept (b ∷ bs) zero x (suc i) = refl
start_kept (b ∷ bs) (suc j) x (suc i) = ap (λ (n : ℕ). b.insts + n) (start_kept bs j x i)

block_kept : (bs : List BlockData) (j x i : ℕ) → block_of (with_frequency bs j x) i ≡ block_of bs i
unfolding with_frequency block_of
block_kept [] j x i = refl
block_kept (b ∷ bs) zero x i = refl
block_kept (b ∷ bs) (suc j) x i =
    ap (λ (n : ℕ). elim (ltb i b.insts) [ true ↦ 0 | false ↦ suc n ]) (block_kept bs j x (i - b.insts))

pub insts_kept : (bs : List BlockData) (j x : ℕ) → insts_of (with_frequency bs j x) ≡ insts_of bs
insts_kept bs j x =
    sym (start_last (with_frequency bs j x)) ∙ ap (start_of (with_frequency bs j x)) (length_kept bs j x)
    ∙ start_kept bs j x (length bs) ∙ start_last bs

other_kept : (bs : List BlockData) (j x i : ℕ) → (i ≡ j → ⊥) → pattern_of (with_frequency bs j x) i ≡ pattern_of bs i
unfolding with_frequency pattern_of
other_kept [] j x i n = refl
other_kept (b ∷ bs) zero x zero n = absurd (n refl)
other_kept (b ∷ bs) zero x (suc i) n = refl
other_kept (b ∷ bs) (suc j) x zero n = refl
other_kept (b ∷ bs) (suc j) x (suc i) n = other_kept bs j x i (λ e. n (ap suc e))

-- the open blocks and their places
module _ (bs : List BlockData) (j x : ℕ) where
  pub first_kept : (side : Side) (after : ℕ) → first_open side (with_frequency bs j x) after ≡ first_open side bs after
  unfolding first_open
  first_kept Early after = block_kept bs j x (suc after)
  first_kept Late after = block_kept bs j x after

  pub last_kept : (side : Side) (before : ℕ) → last_open side (with_frequency bs j x) before ≡ last_open side bs before
  unfolding last_open
  last_kept Early before = block_kept bs j x before
  last_kept Late before = block_kept bs j x (before - 1)

  pub place_kept : (side : Side) (after before c : ℕ)
      → place_of side (with_frequency bs j x) after before c ≡ place_of side bs after before c
  place_kept Early after before c = rw (block_kept bs j x (suc after), start_kept bs j x c)
  place_kept Late after before c = rw (block_kept bs j x (before - 1), start_kept bs j x (suc c))

-- ---- what is new

module _ (x : ℕ) (h : x < infinity) where
  own_new : (bs : List BlockData) (j : ℕ) → j < length bs → pattern_of (with_frequency bs j x) j ≡ x
  unfolding with_frequency pattern_of
  own_new [] j l = absurd (omega arith)
  own_new (b ∷ bs) zero l = bits_back x (omega arith)
  own_new (b ∷ bs) (suc j) l = own_new bs j (omega arith)

  pub pattern_changed : (bs : List BlockData) (j i : ℕ) → i < length bs
      → pattern_of (with_frequency bs j x) i ≡ changed (pattern_of bs) j x i
  pattern_changed bs j i l = go (eqb i j) refl
    where
      go : (t : Bool) → eqb i j ≡ t → pattern_of (with_frequency bs j x) i ≡ changed (pattern_of bs) j x i
      go true e =
          let k : i ≡ j = eqb-true i j e in
          subst (λ (m : ℕ). pattern_of (with_frequency bs j x) m ≡ changed (pattern_of bs) j x m) (sym k)
          (own_new bs j (omega arith) ∙ sym (at_own (pattern_of bs) j x))
      go false e =
          let n : i ≡ j → ⊥ = eqb-false i j e in
          other_kept bs j x i n ∙ sym (at_other (pattern_of bs) j x i n)

  -- ---- 01 accepts them still

  all_ok : (bs : List BlockData) (j : ℕ) → every block_ok bs ≡ true → every block_ok (with_frequency bs j x) ≡ true
  unfolding with_frequency every
  all_ok [] j e = refl
  all_ok (b ∷ bs) zero e =
      let d : BlockData = record { insts = b.insts; frequency = of_bits binary32 x } in
      let l = block_filled b (and_l (block_ok b) (every block_ok bs) e) in
      let q = is_true (plain (of_bits binary32 x)) (bits_plain x h) in
      both (block_ok d) (every block_ok bs) (block_passes d l q) (and_r (block_ok b) (every block_ok bs) e)
  all_ok (b ∷ bs) (suc j) e =
      both (block_ok b) _ (and_l (block_ok b) (every block_ok bs) e) (all_ok bs j (and_r (block_ok b) (every block_ok bs) e))

  abbrev F32s : List BlockData → Type 0
  F32s bs = (i : ℕ) → i < length bs → of_bits binary32 (pattern_of bs i) ≡ (block_at bs i).frequency

  f32s_new : (bs : List BlockData) (j : ℕ) → F32s bs → F32s (with_frequency bs j x)
  unfolding with_frequency pattern_of block_at
  f32s_new [] j f i l = f i l
  f32s_new (b ∷ bs) zero f zero l = ap (of_bits binary32) (bits_back x (omega arith))
  f32s_new (b ∷ bs) zero f (suc i) l = f (suc i) l
  f32s_new (b ∷ bs) (suc j) f zero l = f 0 (omega arith)
  f32s_new (b ∷ bs) (suc j) f (suc i) l = f32s_new bs j (λ k m. f (suc k) (omega arith)) i (omega arith)

  finite_new : (bs : List BlockData) (j i : ℕ) → pattern_of bs i < infinity → i < length bs
      → pattern_of (with_frequency bs j x) i < infinity
  finite_new bs j i f l = omega (arith, pattern_changed bs j i l, go (eqb i j))
    where
      go : (t : Bool) → cond t x (pattern_of bs i) < infinity
      go true = h
      go false = f

  pub fair_changed : (bs : List BlockData) (after before : Inst) (j : ℕ) → Fair bs after before
      → Fair (with_frequency bs j x) after before
  fair_changed bs after before j p =
      record {
        blocks_ok = all_ok bs j p.blocks_ok;
        f32s = f32s_new bs j p.f32s;
        finite = λ i l.
            let k : i < length bs = omega (arith, length_kept bs j x) in
            finite_new bs j i (p.finite i k) k;
        order = p.order;
        within = omega (arith, insts_kept bs j x, p.within);
      }
