-- Laws of block starts. Assumes nothing.
use Rattle.std.specs.Prelude.{ℕ, zero, suc, ◌+◌, ◌-◌, ◌*◌, ◌≤◌, ◌<◌, ◌≡◌, refl, Bool, true, false, List, [], ◌∷◌, leb, ltb, length, get_or}
use Rattle.std.proofs.Common.{arith, sym, ap, ◌∙◌, lt-ltb, le-ltb, le-leb, ltb-true, ltb-false, leb-true}
use Rattle.std.specs.Float.{binary32}
use Rattle.std.specs.Float.Ieee.{of_bits}
use Rattle.definition.specs.declared.BlockData.{BlockData}
use Rattle.definition.specs.Place.{total}
use Rattle.definition.specs.Entry.{insts_of, block_ok, every, plain}
use Rattle.definition.specs.SplitPlacement.{freq_at}
use Rattle.function.specs.Bools.{and_l, and_r, both}
use Rattle.function.specs.Blocks.{start_of, block_of, block_at, Starts}

-- the next block begins behind this one's instructions
pub start_next : (bs : List BlockData) (j : ℕ) → j < length bs → start_of bs (suc j) ≡ start_of bs j + (block_at bs j).insts
unfolding start_of block_at
start_next [] j h = absurd (omega arith)
start_next (b ∷ bs) zero h = omega arith
start_next (b ∷ bs) (suc j) h = let r = start_next bs j (omega arith) in omega arith

pub start_last : (bs : List BlockData) → start_of bs (length bs) ≡ insts_of bs
unfolding start_of insts_of total
start_last [] = refl
start_last (b ∷ bs) = ap (λ (n : ℕ). b.insts + n) (start_last bs)

-- starts do not fall
pub start_mono : (bs : List BlockData) (j k : ℕ) → j ≤ k → k ≤ length bs → start_of bs j ≤ start_of bs k
unfolding start_of
start_mono bs zero k h l = omega arith
start_mono [] (suc j) k h l = absurd (omega arith)
start_mono (b ∷ bs) (suc j) zero h l = absurd (omega arith)
start_mono (b ∷ bs) (suc j) (suc k) h l = let r = start_mono bs j k (omega arith) (omega arith) in omega arith

-- ---- blocks that pass their test

pub block_filled : (b : BlockData) → block_ok b ≡ true → 1 ≤ b.insts
unfolding block_ok
block_filled b e = leb-true 1 b.insts (and_l (leb 1 b.insts) (plain b.frequency) e)

pub block_plain : (b : BlockData) → block_ok b ≡ true → plain b.frequency ≡ true
unfolding block_ok
block_plain b e = and_r (leb 1 b.insts) (plain b.frequency) e

pub block_passes : (b : BlockData) → 1 ≤ b.insts → plain b.frequency ≡ true → block_ok b ≡ true
unfolding block_ok
block_passes b h e = both (leb 1 b.insts) (plain b.frequency) (le-leb 1 b.insts h) e

-- all pass exactly if each does
pub each_passes : (bs : List BlockData) (j : ℕ) → every block_ok bs ≡ true → j < length bs → block_ok (block_at bs j) ≡ true
unfolding every block_at
each_passes [] j e h = absurd (omega arith)
each_passes (b ∷ bs) zero e h = and_l (block_ok b) (every block_ok bs) e
each_passes (b ∷ bs) (suc j) e h = each_passes bs j (and_r (block_ok b) (every block_ok bs) e) (omega arith)

pub all_pass : (bs : List BlockData) → ((j : ℕ) → j < length bs → block_ok (block_at bs j) ≡ true) → every block_ok bs ≡ true
unfolding every block_at
all_pass [] f = refl
all_pass (b ∷ bs) f = both (block_ok b) (every block_ok bs) (f 0 (omega arith)) (all_pass bs (λ j h. f (suc j) (omega arith)))

-- ---- the block of an instruction

pub block_found : (bs : List BlockData) (k i : ℕ) → k < length bs → start_of bs k ≤ i → i < start_of bs (suc k) → k ≡ block_of bs i
unfolding start_of block_of
block_found [] k i h l u = absurd (omega arith)
block_found (b ∷ bs) zero i h l u = let e : i < b.insts = omega arith in rw (lt-ltb _ _ e, block_of)
block_found (b ∷ bs) (suc k) i h l u =
    let e : b.insts ≤ i = omega arith in
    rw (le-ltb _ _ e, block_of) (ap suc (block_found bs k (i - b.insts) (omega arith) (omega arith) (omega arith)))

pub block_frequency : (bs : List BlockData) (k i : ℕ) → k < length bs → start_of bs k ≤ i → i < start_of bs (suc k) → freq_at bs i ≡ (block_at bs k).frequency
unfolding start_of freq_at block_at
block_frequency [] k i h l u = absurd (omega arith)
block_frequency (b ∷ bs) zero i h l u = let e : i < b.insts = omega arith in rw (lt-ltb _ _ e, freq_at)
block_frequency (b ∷ bs) (suc k) i h l u =
    let e : b.insts ≤ i = omega arith in
    rw (le-ltb _ _ e, freq_at) (block_frequency bs k (i - b.insts) (omega arith) (omega arith) (omega arith))

-- the block of an instruction is there and holds it
pub record Holding (bs : List BlockData) (i k : ℕ) : Type 0 where
  pub there : k < length bs
  pub low : start_of bs k ≤ i
  pub high : i < start_of bs (suc k)

pub block_holds : (bs : List BlockData) (i : ℕ) → i < insts_of bs → Holding bs i (block_of bs i)
unfolding start_of block_of insts_of total
block_holds [] i h = absurd (omega arith)
block_holds (b ∷ bs) i h = go (ltb i b.insts) refl (λ l. block_holds bs (i - b.insts) l)
  where
    go : (t : Bool) → ltb i b.insts ≡ t → (i - b.insts < insts_of bs → Holding bs (i - b.insts) (block_of bs (i - b.insts)))
        → Holding (b ∷ bs) i (elim t [ true ↦ 0 | false ↦ suc (block_of bs (i - b.insts)) ])
    go true e f = let l : i < b.insts = ltb-true _ _ e in record { there = omega arith; low = omega arith; high = omega arith }
    go false e f =
        let l : b.insts ≤ i = ltb-false _ _ e in
        let g : i < b.insts + insts_of bs = h in
        let r = f (omega arith) in
        record { there = omega (arith, r.there); low = omega (arith, r.low); high = omega (arith, r.high) }

-- ---- a frequency, by the block and by the table of starts

pub holding_frequency : {bs : List BlockData} {i k : ℕ} → Holding bs i k → freq_at bs i ≡ (block_at bs k).frequency
holding_frequency {bs} {i} {k} h = block_frequency bs k i h.there h.low h.high

pub starts_frequency : {W : List ℕ} {at : ℕ} {bs : List BlockData} {i k : ℕ} → Starts W at bs → Holding bs i k → freq_at bs i ≡ of_bits binary32 (get_or W (at + k * 2 + 1) 0)
starts_frequency {k = k} s h = holding_frequency h ∙ sym (s.bits k h.there)

-- the table is that of bs as long as its own words stay
pub starts_kept : {W X : List ℕ} {at : ℕ} {bs : List BlockData} → Starts W at bs → ((i : ℕ) → i < length bs * 2 + 2 → get_or X (at + i) 0 ≡ get_or W (at + i) 0) → Starts X at bs
starts_kept {W} {X} {at} {bs} s e =
    record {
      first = λ j h. e (j * 2) (omega arith) ∙ s.first j h;
      bits = λ j h. ap (of_bits binary32) (same j h) ∙ s.bits j h;
      finite = λ j h. omega (arith, same j h, s.finite j h);
      filled = s.filled;
    }
  where
    same : (j : ℕ) → j < length bs → get_or X (at + j * 2 + 1) 0 ≡ get_or W (at + j * 2 + 1) 0
    same j h =
        let a : at + j * 2 + 1 ≡ at + (j * 2 + 1) = omega arith in
        rw a (e (j * 2 + 1) (omega arith))
