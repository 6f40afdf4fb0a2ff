-- The place of the open block that the side wants is the definition's cut: `chosen_place`, for any frequencies' bits.
-- So what the code answers is: `early_next`, `early_start`, `late_before`, `late_end`; and the block that judges a place:
-- `judges_early`, `judges_late`. Assumes nothing.
use Prim.Native.Nat.{ℕ, suc, ◌+◌, ◌-◌, ◌*◌, ◌≤◌, ◌<◌}
use native.Mathlib.Omega.{arith}
use native.Mathlib.Nat.{eq-or-lt_of_le}
use native.Mathlib.Numerals.{add-one}
use mathlib.Core.Path.{◌≡◌, refl, sym, ap, ◌∙◌, subst}
use mathlib.Core.Logic.{◌⊎◌, inl, inr}
use mathlib.Core.Bool.{Bool, true, false, cond}
use mathlib.Core.List.{List}
use lib.Dec.{ltb, eqb}
use lib.ListN.{length, get_or}
use lib.Ieee.{Float, lt, binary32, of_bits}
use lib.Ieee.Bits.{is_true}
use Rattle.std.proofs.lemmas.Bool.{cases_lt}
use borrow.Author.Tests.{lt-ltb, le-ltb, eq-eqb, ne_eqb}
use Rattle.definition.specs.declared.BlockData.{BlockData}
use Rattle.definition.specs.Entry.{plain, every, block_ok, insts_of}
use Rattle.definition.specs.declared.Side.{Side}
use Rattle.definition.specs.declared.Side.TheVariants.{Early, Late}
use Rattle.definition.specs.SplitPlacement.{side_of}
use Rattle.definition.specs.CutMoves.{first_open, last_open}
use Rattle.weights.proofs.Bits.{lt_bits, bits_plain}
use Rattle.function.specs.Blocks.{start_of, block_of, block_at}
use Rattle.function.specs.BlockLaws.{start_next, start_mono, block_filled, block_passes, each_passes, all_pass}
use Rattle.function.specs.BlockLaws.{Holding, block_holds, holding_frequency}
use Rattle.function.specs.declared.starts.table.BlockStarts.{BlockStarts}
use Rattle.function.specs.Table.{words_in, Encodes}
use Rattle.split_placement.specs.Places.{OpenPlace, judged, next, start, last, end, bits_in, least}
use Rattle.split_placement.proofs.Wins.{Before, one_wins}
use Rattle.split_placement.proofs.Folds.{Wanted, not_both}
use Rattle.split_placement.proofs.Walks.{LeastOf, least_of}
use Rattle.split_placement.proofs.Rules.{early_rule, late_rule}

-- an open block's place: early, `after`+1 in the first, in any other its start; late, `before` in the last, in any
-- other its end
abbrev pub place_of : Side → List BlockData → ℕ → ℕ → ℕ → ℕ
place_of Early bs after before c = cond (eqb c (block_of bs (suc after))) (suc after) (start_of bs c)
place_of Late bs after before c = cond (eqb c (block_of bs (before - 1))) before (start_of bs (suc c))

-- by cases: early of the first block and of another, late of the last block and of another
first_place : (bs : List BlockData) (a b c : ℕ) → c ≡ block_of bs (suc a) → place_of Early bs a b c ≡ suc a
first_place bs a b c e = rw (eq-eqb _ _ e)

later_place : (bs : List BlockData) (a b c : ℕ) → (c ≡ block_of bs (suc a) → ⊥)
    → place_of Early bs a b c ≡ start_of bs c
later_place bs a b c n = rw (ne_eqb _ _ n)

last_place : (bs : List BlockData) (a b c : ℕ) → c ≡ block_of bs (b - 1) → place_of Late bs a b c ≡ b
last_place bs a b c e = rw (eq-eqb _ _ e)

earlier_place : (bs : List BlockData) (a b c : ℕ) → (c ≡ block_of bs (b - 1) → ⊥)
    → place_of Late bs a b c ≡ start_of bs (suc c)
earlier_place bs a b c n = rw (ne_eqb _ _ n)

-- ---- blocks that 01 accepts, f giving the bits of their frequencies, and ends within them

pub record Priced (f : ℕ → ℕ) (bs : List BlockData) : Type 0 where
  pub ok : every block_ok bs ≡ true
  pub is : (j : ℕ) → j < length bs → of_bits binary32 (f j) ≡ (block_at bs j).frequency
  pub finite : (j : ℕ) → j < length bs → f j < 2139095040

module _ {f : ℕ → ℕ} {bs : List BlockData} (p : Priced f bs) where
  start_below : (k : ℕ) → k < length bs → start_of bs k < start_of bs (suc k)
  start_below k h = omega (arith, start_next bs k h, block_filled (block_at bs k) (each_passes bs k p.ok h))

  starts_rise : (j k : ℕ) → j < k → k ≤ length bs → start_of bs j < start_of bs k
  starts_rise j k h l = omega (arith, start_below j (omega arith), start_mono bs (suc j) k h l)

  -- starts are in the order of their blocks
  start_order : (j k : ℕ) → j ≤ length bs → start_of bs j < start_of bs k → j < k
  start_order j k h l = go (cases_lt j k)
    where
      go : (j < k) ⊎ (k ≤ j) → j < k
      go (inl g) = g
      go (inr g) = absurd (omega (arith, l, start_mono bs k j g h))

  -- and so are blocks with what they hold
  held_order : {i k j m : ℕ} → Holding bs i j → Holding bs k m → i ≤ k → j ≤ m
  held_order {i} {k} {j} {m} f g h =
      let l = start_order j (suc m) (omega (arith, f.there)) (omega (arith, f.low, g.high)) in omega arith

  -- prices compare as bits
  compared : (x y : Float) (j k : ℕ) (t : Bool) → j < length bs → k < length bs → x ≡ of_bits binary32 (f j)
      → y ≡ of_bits binary32 (f k) → ltb (f j) (f k) ≡ t → lt x y ≡ t
  compared x y j k t hj hk ex ey e = rw (ex, ey) (lt_bits (f j) (f k) (p.finite j hj) (p.finite k hk) ∙ e)

  module _ (a b : ℕ) (h : a < b) (l : b < insts_of bs) where
    -- the blocks that hold the first and the last instruction that a side judges by
    early_lo : Holding bs (suc a) (block_of bs (suc a))
    early_lo = block_holds bs (suc a) (omega arith)

    early_hi : Holding bs b (block_of bs b)
    early_hi = block_holds bs b l

    late_lo : Holding bs a (block_of bs a)
    late_lo = block_holds bs a (omega arith)

    late_hi : Holding bs (b - 1) (block_of bs (b - 1))
    late_hi = block_holds bs (b - 1) (omega arith)

    -- some block is open, and all open ones are there
    pub open_order : (side : Side) → first_open side bs a ≤ last_open side bs b
    unfolding first_open last_open
    open_order Early = held_order early_lo early_hi (omega arith)
    open_order Late = held_order late_lo late_hi (omega arith)

    pub open_there : (side : Side) → last_open side bs b < length bs
    unfolding last_open
    open_there Early = early_hi.there
    open_there Late = late_hi.there

    -- an open block's place is open, and is judged by its frequency
    record OpenBlock (side : Side) (k : ℕ) : Type 0 where
      open_place : OpenPlace side bs a b (place_of side bs a b k)
      price : judged side bs (place_of side bs a b k) ≡ of_bits binary32 (f k)

    -- the frequency of the block that holds i
    held : (k i : ℕ) → Holding bs i k → judged Early bs i ≡ of_bits binary32 (f k)
    held k i g = holding_frequency g ∙ sym (p.is k g.there)

    open_block : (side : Side) (k : ℕ) → first_open side bs a ≤ k → k ≤ last_open side bs b → OpenBlock side k
    unfolding first_open last_open
    open_block Early k u v = go (eq-or-lt_of_le u)
      where
        there : k < length bs
        there = omega (arith, early_hi.there)

        go : (block_of bs (suc a) ≡ k) ⊎ (block_of bs (suc a) < k) → OpenBlock Early k
        go (inl e) =
            let q = first_place bs a b k (sym e) in
            record {
              open_place = rw q (next refl);
              price = ap (judged Early bs) q ∙ held k (suc a) (subst (Holding bs (suc a)) e early_lo);
            }
        go (inr g) =
            let q = later_place bs a b k (omega arith) in
            let low = start_mono bs (suc (block_of bs (suc a))) k g (omega (arith, there)) in
            let high = start_mono bs k (block_of bs b) v (omega (arith, early_hi.there)) in
            record {
              open_place =
                  rw q
                  (start (record { block = k; there = there; is = refl }) (omega (arith, early_lo.high, low))
                  (omega (arith, early_hi.low, high)));
              price =
                  ap (judged Early bs) q
                  ∙ held k (start_of bs k) (record { there = there; low = omega arith; high = start_below k there });
            }
    open_block Late k u v = go (eq-or-lt_of_le v)
      where
        there : k < length bs
        there = omega (arith, late_hi.there)

        go : (k ≡ block_of bs (b - 1)) ⊎ (k < block_of bs (b - 1)) → OpenBlock Late k
        go (inl e) =
            let q = last_place bs a b k e in
            record {
              open_place = rw q (last refl);
              price = ap (judged Late bs) q ∙ held k (b - 1) (subst (Holding bs (b - 1)) (sym e) late_hi);
            }
        go (inr g) =
            let q = earlier_place bs a b k (omega arith) in
            let low = start_mono bs (suc (block_of bs a)) (suc k) (omega arith) (omega (arith, there)) in
            let high = start_mono bs (suc k) (block_of bs (b - 1)) g (omega (arith, late_hi.there)) in
            let below = start_below k there in
            record {
              open_place =
                  rw q
                  (end (record { block = k; there = there; is = refl }) (omega (arith, late_lo.high, low))
                  (omega (arith, late_hi.low, high)));
              price =
                  ap (judged Late bs) q
                  ∙ held k (start_of bs (suc k) - 1)
                  (record { there = there; low = omega (arith, below); high = omega (arith, below) });
            }

    -- each open place is that of an open block
    record OfBlock (side : Side) (q : ℕ) : Type 0 where
      block : ℕ
      low : first_open side bs a ≤ block
      high : block ≤ last_open side bs b
      is : q ≡ place_of side bs a b block

    of_block : (side : Side) (q : ℕ) → OpenPlace side bs a b q → OfBlock side q
    unfolding first_open last_open
    of_block Early q (next e) =
        record {
          block = block_of bs (suc a);
          low = omega arith;
          high = open_order Early;
          is = e ∙ sym (first_place bs a b _ refl);
        }
    of_block Early q (start s u v) =
        let j = s.block in
        let own : Holding bs q j =
        record { there = s.there; low = omega (arith, s.is); high = omega (arith, s.is, start_below j s.there) } in
        let behind : block_of bs (suc a) < j =
        start_order (block_of bs (suc a)) j (omega (arith, early_lo.there)) (omega (arith, early_lo.low, s.is)) in
        record {
          block = j;
          low = omega arith;
          high = held_order own early_hi v;
          is = s.is ∙ sym (later_place bs a b j (omega arith));
        }
    of_block Late q (last e) =
        record {
          block = block_of bs (b - 1);
          low = open_order Late;
          high = omega arith;
          is = e ∙ sym (last_place bs a b _ refl);
        }
    of_block Late q (end s u v) =
        record {
          block = s.block;
          low = held_order late_lo own (omega arith);
          high = high;
          is = go (eq-or-lt_of_le high);
        }
      where
        below : start_of bs s.block < start_of bs (suc s.block)
        below = start_below s.block s.there

        own : Holding bs (q - 1) s.block
        own = record { there = s.there; low = omega (arith, s.is, below); high = omega (arith, s.is, below) }

        high : s.block ≤ block_of bs (b - 1)
        high = held_order own late_hi (omega arith)

        go : (s.block ≡ block_of bs (b - 1)) ⊎ (s.block < block_of bs (b - 1)) → q ≡ place_of Late bs a b s.block
        go (inl e) =
            let k = ap (λ (j : ℕ). start_of bs (suc j)) e in
            omega (arith, s.is, k, late_hi.high, v, last_place bs a b s.block e)
        go (inr g) = s.is ∙ sym (earlier_place bs a b s.block (omega arith))

    -- places rise with their blocks
    pub places_rise : (side : Side) (c d : ℕ) → first_open side bs a ≤ c → c < d → d ≤ last_open side bs b
        → place_of side bs a b c < place_of side bs a b d
    unfolding first_open last_open
    places_rise Early c d u g v = rw (later_place bs a b d (omega arith)) (go (eq-or-lt_of_le u))
      where
        go : (block_of bs (suc a) ≡ c) ⊎ (block_of bs (suc a) < c) → place_of Early bs a b c < start_of bs d
        go (inl e) =
            rw (first_place bs a b c (sym e))
            (let l = start_mono bs (suc (block_of bs (suc a))) d (omega arith) (omega (arith, early_hi.there)) in
            omega (arith, early_lo.high, l))
        go (inr k) = rw (later_place bs a b c (omega arith)) (starts_rise c d g (omega (arith, early_hi.there)))
    places_rise Late c d u g v = rw (earlier_place bs a b c (omega arith)) (go (eq-or-lt_of_le v))
      where
        go : (d ≡ block_of bs (b - 1)) ⊎ (d < block_of bs (b - 1)) → start_of bs (suc c) < place_of Late bs a b d
        go (inl e) =
            rw (last_place bs a b d e)
            (let l = start_mono bs (suc c) (block_of bs (b - 1)) (omega arith) (omega (arith, late_hi.there)) in
            omega (arith, late_hi.low, l))
        go (inr k) =
            rw (earlier_place bs a b d (omega arith))
            (starts_rise (suc c) (suc d) (omega arith) (omega (arith, late_hi.there)))

    -- so blocks are in the order of their places
    place_order : (side : Side) (c d : ℕ) → first_open side bs a ≤ d → c ≤ last_open side bs b
        → place_of side bs a b c < place_of side bs a b d → c < d
    place_order side c d u v g = go (cases_lt c d)
      where
        same : (d ≡ c) ⊎ (d < c) → c < d
        same (inl e) = absurd (omega (arith, g, ap (place_of side bs a b) e))
        same (inr k) = absurd (omega (arith, g, places_rise side d c u k v))

        go : (c < d) ⊎ (d ≤ c) → c < d
        go (inl k) = k
        go (inr k) = same (eq-or-lt_of_le k)

    -- what the definition's cut is, by both rules
    record CutPlace (side : Side) : Type 0 where
      cut_open : OpenPlace side bs a b (side_of side bs a b)
      cut_wanted : (q : ℕ) → OpenPlace side bs a b q → Wanted (judged side bs) side (side_of side bs a b) q

    cut_place : (side : Side) → CutPlace side
    cut_place Early =
        let r = early_rule bs a b p.ok in
        record { cut_open = r.place; cut_wanted = λ q o. record { least = r.least q o; ahead = r.earliest q o } }
    cut_place Late =
        let r = late_rule bs a b p.ok in
        record { cut_open = r.place; cut_wanted = λ q o. record { least = r.least q o; ahead = r.latest q o } }

    module _ (side : Side) (best : ℕ) (w : LeastOf side f (first_open side bs a) (last_open side bs b) best) where
      -- its place is wanted over that of any open block
      wanted_over : (k : ℕ) → first_open side bs a ≤ k → k ≤ last_open side bs b
          → Wanted (judged side bs) side (place_of side bs a b best) (place_of side bs a b k)
      wanted_over k u v =
          record {
            least = compared _ _ k best false there best_there x.price y.price (le-ltb (f k) (f best) (w.wins k u v).least);
            ahead = λ g.
                compared _ _ best k true best_there there y.price x.price
                (lt-ltb (f best) (f k) ((w.wins k u v).ahead (order side g u v w.low w.high)));
          }
        where
          there : k < length bs
          there = omega (arith, open_there side)

          best_there : best < length bs
          best_there = omega (arith, w.high, open_there side)

          x : OpenBlock side k
          x = open_block side k u v

          y : OpenBlock side best
          y = open_block side best w.low w.high

          order : (d : Side) → Before d (place_of d bs a b k) (place_of d bs a b best) → first_open d bs a ≤ k
              → k ≤ last_open d bs b → first_open d bs a ≤ best → best ≤ last_open d bs b → Before d k best
          order Early g u v low high = place_order Early k best low v g
          order Late g u v low high = place_order Late best k u high g

      -- the place of the open block that is wanted is the cut
      pub chosen_place : place_of side bs a b best ≡ side_of side bs a b
      chosen_place =
          one_wins (not_both (judged side bs)) side (OpenPlace side bs a b) _ _
          (open_block side best w.low w.high).open_place (cut_place side).cut_open
          (λ q o.
          let k = of_block side q o in
          subst (Wanted (judged side bs) side (place_of side bs a b best)) (sym k.is) (wanted_over k.block k.low k.high))
          (cut_place side).cut_wanted

-- ---- as the code has it: the blocks found, the walk's answer, and the place answered, for all blocks of the table

abbrev pub Finds : BlockStarts → ℕ → ℕ → Type 0
Finds t i k = (bs : List BlockData) → Encodes t bs → i < insts_of bs → k ≡ block_of bs i

-- block k judges place i
abbrev pub Judges : BlockStarts → Side → ℕ → ℕ → Type 0
Judges t side i k = (bs : List BlockData) → Encodes t bs → i < insts_of bs → k ≡ last_open side bs i

module _ (t : BlockStarts) (i k : ℕ) (side : Side) where
  pub judges_early : side ≡ Early → Finds t i k → Judges t side i k
  unfolding last_open
  judges_early e f bs s h = f bs s h ∙ ap (λ (x : Side). last_open x bs i) (sym e)

  pub judges_late : side ≡ Late → Finds t (i - 1) k → Judges t side i k
  unfolding last_open
  judges_late e f bs s h = f bs s (omega arith) ∙ ap (λ (x : Side). last_open x bs i) (sym e)

-- the first open block judges the first open place
pub first_judges : (side : Side) (bs : List BlockData) (after : ℕ)
    → last_open side bs (after + 1) ≡ first_open side bs after
unfolding first_open last_open
first_judges Early bs after = ap (block_of bs) (add-one after)
first_judges Late bs after = ap (block_of bs) (omega arith)

row_passes : (b : BlockData) (w : ℕ) → 1 ≤ b.insts → of_bits binary32 w ≡ b.frequency → w < 2139095040
    → block_ok b ≡ true
row_passes b w h e l = block_passes b h (ap plain (sym e) ∙ is_true (plain (of_bits binary32 w)) (bits_plain w l))

-- the blocks of a table, with the bits in it
priced : (t : BlockStarts) (bs : List BlockData) → Encodes t bs → Priced (bits_in t) bs
priced t bs s =
    let r = s.starts in
    record {
      ok = all_pass bs (λ j h. row_passes (block_at bs j) (bits_in t j) (r.filled j h) (r.bits j h) (r.finite j h));
      is = r.bits;
      finite = r.finite;
    }

module _ (t : BlockStarts) (a b lo hi best : ℕ) (side : Side) (h : a < b) (f : Judges t side (a + 1) lo)
    (g : Judges t side b hi) (e : best ≡ least side (bits_in t) lo lo (hi - lo)) where
  -- c is the place, for all such blocks
  abbrev Is : ℕ → Type 0
  Is c = (bs : List BlockData) → Encodes t bs → b < insts_of bs → c ≡ side_of side bs a b

  module _ (bs : List BlockData) (s : Encodes t bs) (l : b < insts_of bs) where
    first_is : lo ≡ first_open side bs a
    first_is = f bs s (omega arith) ∙ first_judges side bs a

    last_is : hi ≡ last_open side bs b
    last_is = g bs s l

    walked : LeastOf side (bits_in t) lo hi best
    walked =
        let u = open_order (priced t bs s) a b h l side in
        subst (LeastOf side (bits_in t) lo hi) (sym e)
        (least_of side (bits_in t) lo hi (omega (arith, u, first_is, last_is)))

    best_there : best < length bs
    best_there = omega (arith, walked.high, last_is, open_there (priced t bs s) a b h l side)

    by_place : (x : Side) (c : ℕ) → side ≡ x → c ≡ place_of x bs a b best → c ≡ side_of side bs a b
    by_place x c d q =
        q ∙ ap (λ (y : Side). place_of y bs a b best) (sym d)
        ∙ chosen_place (priced t bs s) a b h l side best
        (subst (λ (j : ℕ). LeastOf side (bits_in t) (first_open side bs a) j best) last_is
        (subst (λ (j : ℕ). LeastOf side (bits_in t) j hi best) first_is walked))

    early_first : side ≡ Early → lo ≡ block_of bs (suc a)
    unfolding first_open
    early_first d = first_is ∙ ap (λ (x : Side). first_open x bs a) d

    late_last : side ≡ Late → hi ≡ block_of bs (b - 1)
    unfolding last_open
    late_last d = last_is ∙ ap (λ (x : Side). last_open x bs b) d

  pub early_next : side ≡ Early → best ≡ lo → Is (a + 1)
  early_next d q bs s l =
      by_place bs s l Early (a + 1) d (add-one a ∙ sym (first_place bs a b best (q ∙ early_first bs s l d)))

  pub early_start : (c : ℕ) → side ≡ Early → (best ≡ lo → ⊥) → c ≡ get_or (words_in t) (t.at + best * 2) 0 → Is c
  early_start c d q r bs s l =
      by_place bs s l Early c d
      (r ∙ s.starts.first best (omega (arith, best_there bs s l))
      ∙ sym (later_place bs a b best (λ k. q (k ∙ sym (early_first bs s l d)))))

  pub late_before : side ≡ Late → best ≡ hi → Is b
  late_before d q bs s l = by_place bs s l Late b d (sym (last_place bs a b best (q ∙ late_last bs s l d)))

  pub late_end : (c : ℕ) → side ≡ Late → (best ≡ hi → ⊥) → c ≡ get_or (words_in t) (t.at + (best + 1) * 2) 0 → Is c
  late_end c d q r bs s l =
      by_place bs s l Late c d
      (r ∙ s.starts.first (best + 1) (omega (arith, best_there bs s l)) ∙ ap (start_of bs) (add-one best)
      ∙ sym (earlier_place bs a b best (λ k. q (k ∙ sym (late_last bs s l d)))))
