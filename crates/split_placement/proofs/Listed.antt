-- Which rows the definition's list has, and in which order: `Row`, `listed_row`, `row_listed`, `listed_order`.
-- Assumes nothing.
use Prim.Native.Nat.{ℕ, zero, suc, ◌+◌, ◌-◌, ◌≤◌, ◌<◌}
use native.Mathlib.Omega.{arith}
use mathlib.Core.Path.{◌≡◌, refl, sym, ap, ◌∙◌, subst}
use mathlib.Core.Logic.{◌⊎◌, inl, inr}
use mathlib.Core.Bool.{Bool, true, false, cond}
use mathlib.Core.Option.{Option, none, some}
use mathlib.Core.List.Memᴰ.{head as here, tail as further, cases_cons as head-or-rest, not-nil as none_in}
use mathlib.Core.List.{List, ◌∷◌, Memᴰ as In}
use lib.Dec.{ltb, eqb}
use borrow.Author.Tests.{eqb-true, eqb-false, ltb-true, ltb-false, eq-eqb, ne_eqb, lt-ltb, le-ltb}
use Rattle.definition.specs.declared.Side.{Side}
use Rattle.definition.specs.declared.CutMove.{CutMove}
use Rattle.definition.specs.declared.Way.TheVariants.{Up, Down}
use Rattle.definition.specs.CutMoves.{infinity, tie, move_of, moves_from, steps_of, moves_among, edge_of}
use Rattle.split_placement.proofs.Sorted.{Pairs, Before, in_sorted, sorted_in, sorted_before}

abbrev pub block_of_move : CutMove → ℕ
block_of_move m = m.block.0

abbrev Rising : CutMove → CutMove → Type 0
Rising x y = block_of_move x < block_of_move y

-- a move, if there is one, before others
abbrev pub step : Option CutMove → List CutMove → List CutMove
step o ms = elim o [ none ↦ ms | some m ↦ m ∷ ms ]

no_row : (m : CutMove) → none ≡ some m → ⊥
no_row m q = let z : ◌≡◌ {A = ℕ} 0 1 = cc in omega arith

module _ (side : Side) (f : ℕ → ℕ) (c e : ℕ) where
  abbrev pub up_row : CutMove
  up_row = record { block = record { 0 = c }; way = Up; steps = e - f c }

  abbrev pub down_row : ℕ → CutMove
  down_row i = record { block = record { 0 = i }; way = Down; steps = f i + tie side i c - f c }

  -- m is block i's row
  pub data Row (i : ℕ) (m : CutMove) : Type 0 where
    up : i ≡ c → e < infinity → up_row ≡ m → Row i m
    down : (i ≡ c → ⊥) → tie side i c ≤ f c → down_row i ≡ m → Row i m

  pub row_block : (i : ℕ) (m : CutMove) → Row i m → block_of_move m ≡ i
  row_block i m (up q h r) = sym (ap block_of_move r) ∙ sym q
  row_block i m (down n h r) = sym (ap block_of_move r)

  pub move_row_lem : (i : ℕ) (m : CutMove) → move_of side f c e i ≡ some m → Row i m
  move_row_lem i m = go (eqb i c) (ltb e infinity) (ltb (f c) (tie side i c)) refl refl refl
    where
      go : (r s t : Bool) → eqb i c ≡ r → ltb e infinity ≡ s → ltb (f c) (tie side i c) ≡ t
          → cond r (cond s (some up_row) none) (cond t none (some (down_row i))) ≡ some m → Row i m
      go true true t x y z q = up (eqb-true i c x) (ltb-true _ _ y) (cc)
      go true false t x y z q = absurd (no_row m q)
      go false s true x y z q = absurd (no_row m q)
      go false s false x y z q = down (eqb-false i c x) (ltb-false _ _ z) (cc)

  row_move : (i : ℕ) (m : CutMove) → Row i m → move_of side f c e i ≡ some m
  row_move i m (up q h r) = rw (eq-eqb i c q, lt-ltb e infinity h) (ap some r)
  row_move i m (down n h r) = rw (ne_eqb i c n, le-ltb (f c) (tie side i c) h) (ap some r)

  -- ---- the rows of the k blocks from i on

  -- m is the row of a block from i up to below n
  pub record Among (i n : ℕ) (m : CutMove) : Type 0 where
    pub block : ℕ
    pub low : i ≤ block
    pub high : block < n
    pub row : Row block m

  later : (i n : ℕ) (m : CutMove) → Among (suc i) n m → Among i n m
  later i n m r = record { block = r.block; low = omega (arith, r.low); high = r.high; row = r.row }

  from_row : (i k : ℕ) (m : CutMove) → In m (moves_from side f c e i k) → Among i (i + k) m
  unfolding moves_from
  from_row i zero m q = absurd (none_in q)
  from_row i (suc k) m q = go (move_of side f c e i) refl q (λ t. from_row (suc i) k m t)
    where
      shift : Among (suc i) (suc i + k) m → Among i (i + suc k) m
      shift r =
          let g : suc i + k ≡ i + suc k = omega arith in
          later i (i + suc k) m (subst (λ (n : ℕ). Among (suc i) n m) g r)

      first : (x : CutMove) → move_of side f c e i ≡ some x → (m ≡ x) ⊎ In m (moves_from side f c e (suc i) k)
          → (In m (moves_from side f c e (suc i) k) → Among (suc i) (suc i + k) m) → Among i (i + suc k) m
      first x o (inl g) h =
          record { block = i; low = omega arith; high = omega arith; row = move_row_lem i m (o ∙ ap some (sym g)) }
      first x o (inr t) h = shift (h t)

      go : (o : Option CutMove) → move_of side f c e i ≡ o → In m (step o (moves_from side f c e (suc i) k))
          → (In m (moves_from side f c e (suc i) k) → Among (suc i) (suc i + k) m) → Among i (i + suc k) m
      go none g t h = shift (h t)
      go (some x) g t h = first x g (head-or-rest t) h

  row_from : (i k j : ℕ) (m : CutMove) → i ≤ j → j < i + k → Row j m → In m (moves_from side f c e i k)
  unfolding moves_from
  row_from i zero j m l h r = absurd (omega arith)
  row_from i (suc k) j m l h r =
      go (move_of side f c e i) refl (eqb j i) refl (λ u. row_from (suc i) k j m u (omega arith) r)
    where
      go : (o : Option CutMove) → move_of side f c e i ≡ o → (t : Bool) → eqb j i ≡ t
          → (suc i ≤ j → In m (moves_from side f c e (suc i) k)) → In m (step o (moves_from side f c e (suc i) k))
      go none g true x u = absurd (no_row m (sym g ∙ ap (move_of side f c e) (sym (eqb-true j i x)) ∙ row_move j m r))
      go none g false x u = u (omega (arith, eqb-false j i x))
      go (some y) g true x u =
          let q : some m ≡ some y = sym (row_move j m r) ∙ ap (move_of side f c e) (eqb-true j i x) ∙ g in
          let w : m ≡ y = cc in
          here w
      go (some y) g false x u = further (u (omega (arith, eqb-false j i x)))

  from_rises : (i k : ℕ) → Pairs Rising (moves_from side f c e i k)
  unfolding moves_from
  from_rises i zero = tt
  from_rises i (suc k) = go (move_of side f c e i) refl (from_rises (suc i) k)
    where
      go : (o : Option CutMove) → move_of side f c e i ≡ o → Pairs Rising (moves_from side f c e (suc i) k)
          → Pairs Rising (step o (moves_from side f c e (suc i) k))
      go none g p = p
      go (some x) g p =
          (λ y t. above y (from_row (suc i) k y t), p)
        where
          above : (y : CutMove) → Among (suc i) (suc i + k) y → Rising x y
          above y r = omega (arith, row_block i x (move_row_lem i x g), row_block r.block y r.row, r.low)

-- ---- the list, sorted

module _ (side : Side) (f : ℕ → ℕ) (a b c : ℕ) (h : a ≤ b) where
  abbrev list_edge : ℕ
  list_edge = edge_of side f c infinity a (suc b - a)

  pub listed_row : (m : CutMove) → In m (moves_among side f a b c) → Among side f c list_edge a (suc b) m
  unfolding moves_among
  listed_row m q =
      let g : a + (suc b - a) ≡ suc b = omega arith in
      subst (λ (n : ℕ). Among side f c list_edge a n m) g
      (from_row side f c list_edge a (suc b - a) m (in_sorted steps_of _ m q))

  pub row_listed : (j : ℕ) (m : CutMove) → a ≤ j → j ≤ b → Row side f c list_edge j m → In m (moves_among side f a b c)
  unfolding moves_among
  row_listed j m l u r = sorted_in steps_of _ m (row_from side f c list_edge a (suc b - a) j m l (omega arith) r)

  pub listed_order : Pairs (Before steps_of block_of_move) (moves_among side f a b c)
  unfolding moves_among
  listed_order =
      sorted_before steps_of block_of_move (moves_from side f c list_edge a (suc b - a))
      (from_rises side f c list_edge a (suc b - a))
