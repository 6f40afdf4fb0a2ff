-- The laws of an order over lists once, free of jobs. Assumes nothing.
use Rattle.std.specs.Prelude.{◌≡◌, refl, ℕ, ◌≤◌, ◌<◌, Bool, true, false, cond, ltb, eqb, List, [], ◌∷◌, ◌++◌}
use Rattle.std.proofs.Common.{sym, ap, subst, ◌∙◌, arith}
use borrow.Author.Tests.{ltb-true, ltb-false, eqb-true, eqb-false, eq-eqb}
use Rattle.definition.specs.declared.Order.{Order}
use Rattle.definition.specs.declared.Order.TheVariants.{Before, Same, After}
use Rattle.definition.specs.JobOrder.{turned, decided, by_places, by_number}

-- what makes of a comparison a total order
pub record Lawful {A : Type 0} (ord : A → A → Order) : Type 0 where
  pub turns : (a b : A) → ord b a ≡ turned (ord a b)
  pub self : (a : A) → ord a a ≡ Same
  pub equal : (a b : A) → ord a b ≡ Same → a ≡ b
  pub through : (a b c : A) → ord a b ≡ Before → ord b c ≡ Before → ord a c ≡ Before

-- ---- what comes first decides

turned_both : (o p : Order) → decided (turned o) (turned p) ≡ turned (decided o p)
turned_both Before p = refl
turned_both Same p = refl
turned_both After p = refl

both_same : (o p : Order) → decided o p ≡ Same → (o ≡ Same) × (p ≡ Same)
both_same Same p e = (refl, e)
both_same o p e = cc

-- what comes next counts only where that before it is the same
pub decided_same : (o p x y : Order) → p ≡ o → (o ≡ Same → x ≡ y) → decided p x ≡ decided o y
decided_same Same p x y e f = ap (λ (q : Order). decided q x) e ∙ f refl
decided_same o p x y e f = ap (λ (q : Order). decided q x) e

-- ---- before or same, twice

module _ {A : Type 0} (ord : A → A → Order) (L : Lawful ord) where
  -- before or same twice is before or same, and same only if both were
  pub not_after_twice : (a b c : A) (o p : Order) → ord a b ≡ o → ord b c ≡ p → (o ≡ After → ⊥) → (p ≡ After → ⊥)
      → ord a c ≡ decided o p
  not_after_twice a b c Before Before e f n m = L.through a b c e f
  not_after_twice a b c Before Same e f n m = subst (λ (d : A). ord a d ≡ Before) (L.equal b c f) e
  not_after_twice a b c Same p e f n m = subst (λ (d : A). ord d c ≡ p) (sym (L.equal a b e)) f
  not_after_twice a b c After p e f n m = absurd (n refl)
  not_after_twice a b c o After e f n m = absurd (m refl)

  -- the first of two keys, where what the second says goes on
  onward : (a b c : A) (x y z : Order) → (x ≡ Before → y ≡ Before → z ≡ Before) → decided (ord a b) x ≡ Before
      → decided (ord b c) y ≡ Before → decided (ord a c) z ≡ Before
  onward a b c x y z next e f = go (ord a b) (ord b c) refl refl e f
    where
      go : (o p : Order) → ord a b ≡ o → ord b c ≡ p → decided o x ≡ Before → decided p y ≡ Before
          → decided (ord a c) z ≡ Before
      go o p u v g h =
          ap (λ (q : Order). decided q z) (not_after_twice a b c o p u v (not o x g) (not p y h)) ∙ by o p g h
        where
          not : (q w : Order) → decided q w ≡ Before → q ≡ After → ⊥
          not After w g k = cc
          not q w g k = cc

          by : (o p : Order) → decided o x ≡ Before → decided p y ≡ Before → decided (decided o p) z ≡ Before
          by Before p g h = refl
          by Same Before g h = refl
          by Same Same g h = next g h
          by Same After g h = h
          by After p g h = g

-- ---- numbers

pub less : (a b : ℕ) → a < b → by_number a b ≡ Before
less a b h = go (ltb a b) refl
  where
    go : (u : Bool) → ltb a b ≡ u → cond u Before (cond (eqb a b) Same After) ≡ Before
    go true e = refl
    go false e = absurd (let k : b ≤ a = ltb-false a b e in omega arith)

level : (a : ℕ) → by_number a a ≡ Same
level a = go (ltb a a) refl
  where
    go : (u : Bool) → ltb a a ≡ u → cond u Before (cond (eqb a a) Same After) ≡ Same
    go true e = absurd (let k : a < a = ltb-true a a e in omega arith)
    go false e = ap (λ (u : Bool). cond u Same After) (eq-eqb a a refl)

pub more : (a b : ℕ) → b < a → by_number a b ≡ After
more a b h = go (ltb a b) refl (eqb a b) refl
  where
    go : (u : Bool) → ltb a b ≡ u → (v : Bool) → eqb a b ≡ v → cond u Before (cond v Same After) ≡ After
    go true e v f = absurd (let k : a < b = ltb-true a b e in omega arith)
    go false e true f = absurd (let k : a ≡ b = eqb-true a b f in omega arith)
    go false e false f = refl

-- which it is
data Which (a b : ℕ) : Type 0 where
  lower : a < b → Which a b
  equal : a ≡ b → Which a b
  higher : b < a → Which a b

which : (a b : ℕ) → Which a b
which a b = go (ltb a b) refl (eqb a b) refl
  where
    go : (u : Bool) → ltb a b ≡ u → (v : Bool) → eqb a b ≡ v → Which a b
    go true e v f = lower (ltb-true a b e)
    go false e true f = equal (eqb-true a b f)
    go false e false f =
        higher (let k : b ≤ a = ltb-false a b e in let n : a ≡ b → ⊥ = eqb-false a b f in omega (arith, n))

number_turns : (a b : ℕ) → by_number b a ≡ turned (by_number a b)
number_turns a b = go (which a b)
  where
    go : Which a b → by_number b a ≡ turned (by_number a b)
    go (lower h) = more b a h ∙ ap turned (sym (less a b h))
    go (equal e) = subst (λ (c : ℕ). by_number c a ≡ turned (by_number a c)) e (level a ∙ ap turned (sym (level a)))
    go (higher h) = less b a h ∙ ap turned (sym (more a b h))

number_equal : (a b : ℕ) → by_number a b ≡ Same → a ≡ b
number_equal a b e = go (which a b)
  where
    go : Which a b → a ≡ b
    go (lower h) = absurd (let s = sym (less a b h) ∙ e in cc)
    go (equal f) = f
    go (higher h) = absurd (let s = sym (more a b h) ∙ e in cc)

number_less : (a b : ℕ) → by_number a b ≡ Before → a < b
number_less a b e = go (which a b)
  where
    go : Which a b → a < b
    go (lower h) = h
    go (equal f) = absurd (let s = sym (subst (λ (c : ℕ). by_number a c ≡ Same) f (level a)) ∙ e in cc)
    go (higher h) = absurd (let s = sym (more a b h) ∙ e in cc)

pub number_lawful : Lawful by_number
number_lawful = record {
  turns = number_turns;
  self = level;
  equal = number_equal;
  through = λ a b c e f.
      less a c (let h : a < b = number_less a b e in let k : b < c = number_less b c f in omega arith);
}

-- ---- first by one key, then by another, where both determine what has them

module _ {A B C : Type 0} (f : B → B → Order) (g : C → C → Order) (L : Lawful f) (M : Lawful g) (p : A → B) (q : A → C)
    (whole : (a b : A) → p a ≡ p b → q a ≡ q b → a ≡ b) where
  abbrev by_keys : A → A → Order
  by_keys a b = decided (f (p a) (p b)) (g (q a) (q b))

  keys_equal : (a b : A) → by_keys a b ≡ Same → a ≡ b
  keys_equal a b e =
      let s = both_same (f (p a) (p b)) (g (q a) (q b)) e in
      whole a b (L.equal (p a) (p b) s.0) (M.equal (q a) (q b) s.1)

  pub keys_lawful : Lawful by_keys
  keys_lawful = record {
    turns = λ a b.
        ap (λ (o : Order). decided o (g (q b) (q a))) (L.turns (p a) (p b))
        ∙ ap (decided (turned (f (p a) (p b)))) (M.turns (q a) (q b))
        ∙ turned_both (f (p a) (p b)) (g (q a) (q b));
    self = λ a. ap (λ (o : Order). decided o (g (q a) (q a))) (L.self (p a)) ∙ M.self (q a);
    equal = keys_equal;
    through = λ a b c.
        onward f L (p a) (p b) (p c) (g (q a) (q b)) (g (q b) (q c)) (g (q a) (q c)) (M.through (q a) (q b) (q c));
  }

-- ---- place by place

module _ {A : Type 0} (ord : A → A → Order) (L : Lawful ord) where
  places_turn : (xs ys : List A) → by_places ord ys xs ≡ turned (by_places ord xs ys)
  unfolding by_places
  places_turn [] [] = refl
  places_turn [] (y ∷ ys) = refl
  places_turn (x ∷ xs) [] = refl
  places_turn (x ∷ xs) (y ∷ ys) =
      ap (λ (o : Order). decided o (by_places ord ys xs)) (L.turns x y)
      ∙ ap (decided (turned (ord x y))) (places_turn xs ys)
      ∙ turned_both (ord x y) (by_places ord xs ys)

  places_self : (xs : List A) → by_places ord xs xs ≡ Same
  unfolding by_places
  places_self [] = refl
  places_self (x ∷ xs) = ap (λ (o : Order). decided o (by_places ord xs xs)) (L.self x) ∙ places_self xs

  places_equal : (xs ys : List A) → by_places ord xs ys ≡ Same → xs ≡ ys
  unfolding by_places
  places_equal [] [] e = refl
  places_equal [] (y ∷ ys) e = absurd (cc)
  places_equal (x ∷ xs) [] e = absurd (cc)
  places_equal (x ∷ xs) (y ∷ ys) e =
      let s = both_same (ord x y) (by_places ord xs ys) e in
      ap (λ (a : A). a ∷ xs) (L.equal x y s.0) ∙ ap (λ (l : List A). y ∷ l) (places_equal xs ys s.1)

  places_through : (xs ys zs : List A) → by_places ord xs ys ≡ Before → by_places ord ys zs ≡ Before
      → by_places ord xs zs ≡ Before
  unfolding by_places
  places_through [] [] zs e f = absurd (cc)
  places_through [] (y ∷ ys) [] e f = absurd (cc)
  places_through [] (y ∷ ys) (z ∷ zs) e f = refl
  places_through (x ∷ xs) [] zs e f = absurd (cc)
  places_through (x ∷ xs) (y ∷ ys) [] e f = absurd (cc)
  places_through (x ∷ xs) (y ∷ ys) (z ∷ zs) e f =
      onward ord L x y z (by_places ord xs ys) (by_places ord ys zs) (by_places ord xs zs) (places_through xs ys zs) e f

  pub places_lawful : Lawful (by_places ord)
  places_lawful = record {
    turns = places_turn;
    self = places_self;
    equal = places_equal;
    through = places_through;
  }

  -- the first two that differ decide
  pub places_differ : (zs xs ys : List A) (x y : A) → (x ≡ y → ⊥)
      → by_places ord (zs ++ (x ∷ xs)) (zs ++ (y ∷ ys)) ≡ ord x y
  unfolding by_places
  places_differ [] xs ys x y n = go (ord x y) refl
    where
      go : (o : Order) → ord x y ≡ o → decided o (by_places ord xs ys) ≡ o
      go Before e = refl
      go Same e = absurd (n (L.equal x y e))
      go After e = refl
  places_differ (z ∷ zs) xs ys x y n =
      ap (λ (o : Order). decided o (by_places ord (zs ++ (x ∷ xs)) (zs ++ (y ∷ ys)))) (L.self z)
      ∙ places_differ zs xs ys x y n

  -- of two that are the same so far, the one that ends goes first
  pub places_missing : (zs ys : List A) (y : A) → by_places ord zs (zs ++ (y ∷ ys)) ≡ Before
  unfolding by_places
  places_missing [] ys y = refl
  places_missing (z ∷ zs) ys y =
      ap (λ (o : Order). decided o (by_places ord zs (zs ++ (y ∷ ys)))) (L.self z) ∙ places_missing zs ys y
