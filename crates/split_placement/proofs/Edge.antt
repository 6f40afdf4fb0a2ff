-- The edge of the one chosen: the least that another one has, with the step that it lacks. `edge_of_lem`, `edge_above`.
-- Assumes nothing.
use Prim.Native.Nat.{ℕ, zero, suc, ◌+◌, ◌-◌, ◌≤◌, ◌<◌}
use native.Mathlib.Omega.{arith}
use mathlib.Core.Path.{◌≡◌, refl, sym, subst}
use mathlib.Core.Logic.{◌⊎◌, inl, inr}
use mathlib.Core.Bool.{Bool, true, false, not, ◌&&◌, cond}
use lib.Dec.{ltb, eqb}
use borrow.Author.Tests.{eqb-true, eqb-false, ltb-true, ltb-false}
use Rattle.definition.specs.declared.Side.{Side}
use Rattle.definition.specs.CutMoves.{infinity, tie, edge_of}
use Rattle.split_placement.specs.Margins.{Chosen}

-- another one than c, from a up to below n, that has e
pub record Rival (side : Side) (f : ℕ → ℕ) (a n c e : ℕ) : Type 0 where
  pub rival : ℕ
  pub low : a ≤ rival
  pub high : rival < n
  pub other : rival ≡ c → ⊥
  pub has : e ≡ f rival + tie side rival c

-- e is the least of `top` and of what the others from a up to below n have
pub record EdgeOf (side : Side) (f : ℕ → ℕ) (top a n c e : ℕ) : Type 0 where
  pub most : e ≤ top
  pub least : (i : ℕ) → a ≤ i → i < n → (i ≡ c → ⊥) → e ≤ f i + tie side i c
  pub is : (e ≡ top) ⊎ Rival side f a n c e

module _ (side : Side) (f : ℕ → ℕ) (a c top : ℕ) where
  rival_more : (e i : ℕ) → Rival side f a i c e → Rival side f a (suc i) c e
  rival_more e i r =
      record { rival = r.rival; low = r.low; high = omega (arith, r.high); other = r.other; has = r.has }

  abbrev had : ℕ → ℕ
  had i = f i + tie side i c

  -- one number more
  edge_more : (e i : ℕ) → a ≤ i → EdgeOf side f top a i c e
      → EdgeOf side f top a (suc i) c (cond (not (eqb i c) && ltb (had i) e) (had i) e)
  edge_more e i l p = go (eqb i c) (ltb (had i) e) refl refl
    where
      upto : (x : ℕ) → x ≤ e → x ≤ had i → (k : ℕ) → a ≤ k → k < suc i → (k ≡ c → ⊥) → x ≤ had k
      upto x u v k g h n = at (eqb k i) refl
        where
          at : (t : Bool) → eqb k i ≡ t → x ≤ had k
          at true q = subst (λ (z : ℕ). x ≤ had z) (sym (eqb-true k i q)) v
          at false q = let m : k ≡ i → ⊥ = eqb-false k i q in omega (arith, p.least k g (omega arith) n)

      still : (e ≡ top) ⊎ Rival side f a i c e → (e ≡ top) ⊎ Rival side f a (suc i) c e
      still (inl x) = inl x
      still (inr r) = inr (rival_more e i r)

      go : (s t : Bool) → eqb i c ≡ s → ltb (had i) e ≡ t → EdgeOf side f top a (suc i) c (cond (not s && t) (had i) e)
      go true t d h =
          record {
            most = p.most;
            least = λ k g u n. p.least k g (omega (arith, u, n, eqb-true i c d)) n;
            is = still p.is;
          }
      go false true d h =
          let m : had i < e = ltb-true _ _ h in
          record {
            most = omega (arith, p.most);
            least = upto (had i) (omega arith) (omega arith);
            is = inr (record { rival = i; low = l; high = omega arith; other = eqb-false i c d; has = refl });
          }
      go false false d h = record { most = p.most; least = upto e (omega arith) (ltb-false _ _ h); is = still p.is }

  edge_from : (e i k : ℕ) → a ≤ i → EdgeOf side f top a i c e → EdgeOf side f top a (i + k) c (edge_of side f c e i k)
  unfolding edge_of
  edge_from e i zero l p = let q : i + 0 ≡ i = omega arith in subst (λ (n : ℕ). EdgeOf side f top a n c e) (sym q) p
  edge_from e i (suc k) l p =
      let d = cond (not (eqb i c) && ltb (had i) e) (had i) e in
      let q : i + suc k ≡ suc i + k = omega arith in
      subst (λ (n : ℕ). EdgeOf side f top a n c (edge_of side f c d (suc i) k)) (sym q)
      (edge_from d (suc i) k (omega arith) (edge_more e i l p))

  pub edge_of_lem : (b : ℕ) → a ≤ b → EdgeOf side f top a (suc b) c (edge_of side f c top a (suc b - a))
  edge_of_lem b h =
      let q : a + (suc b - a) ≡ suc b = omega arith in
      subst (λ (n : ℕ). EdgeOf side f top a n c (edge_of side f c top a (suc b - a))) q
      (edge_from top a (suc b - a) (omega arith)
      (record { most = omega arith; least = λ k g u n. absurd (omega arith); is = inl refl }))

-- the edge lies above what the one chosen has
pub edge_above : (side : Side) (f : ℕ → ℕ) (a b c : ℕ) → Chosen side f a b c → f c < infinity
    → f c < edge_of side f c infinity a (suc b - a)
edge_above side f a b c p h = go _ (edge_of_lem side f a c infinity b (omega (arith, p.low, p.high))).is
  where
    go : (e : ℕ) → (e ≡ infinity) ⊎ Rival side f a (suc b) c e → f c < e
    go e (inl x) = omega arith
    go e (inr r) = omega (arith, r.has, p.first r.rival r.low (omega (arith, r.high)) r.other)
