-- Equal uses and equal segments: by the numbers of their lines, and by all counts. Assumes nothing.
use mathlib.Core.Path.{◌≡◌, refl, ap, sym, ◌∙◌, subst}
use Prim.Native.Nat.{ℕ, ◌+◌, ◌≤◌, ◌<◌}
use native.Mathlib.Omega.{arith}
use mathlib.Core.Bool.{Bool, true, false, cond}
use mathlib.Core.List.{List, [], ◌∷◌}
use lib.ListN.{get_or}
use lib.Dec.{leb, eqb}
use borrow.Author.Tests.{leb-true, leb-false, eqb-true, eq-eqb, le-leb, lt-leb}
use Rattle.definition.specs.Types.{BlockparamIn, BlockparamOut, ClassDef, ClassUse, ConstraintConflict, FixedDef, FixedUse, GroupClassDef, GroupClassUse, Inst, PhysReg, Segment, TiedUse, Use, UseKind, cls, inst, point, val}
use Rattle.definition.specs.Uses.{is_class_use}
use Rattle.definition.specs.Place.{total}
use Rattle.definition.specs.Build.{one, turned_use}
use Rattle.definition.specs.Lines.{numbers_of, use_numbers}
use Rattle.definition.specs.Promised.{Follows, by_first, is_mark, put_in, same_use}
use Rattle.definition.specs.Text.{same}
use Rattle.definition.proofs.Entries.{and_both}
use Rattle.definition.proofs.Points.{Steady}
use Rattle.definition.proofs.ReadBack.{Test}

-- ---- a use is known by the numbers of its line

abbrev phys : ℕ → PhysReg
phys n = record { 0 = n }

kind_from : ℕ → ℕ → ℕ → ℕ → ℕ → UseKind
kind_from t a b c d =
    cond (eqb t 0) (FixedDef (phys a)) (cond (eqb t 1) (FixedUse (phys a)) (cond (eqb t 2) (TiedUse a b (cls c) d) (cond (eqb t 3) ConstraintConflict
    (cond (eqb t 4) (ClassUse a (cls b)) (cond (eqb t 5) (ClassDef a (cls b)) (cond (eqb t 6) (GroupClassUse a (cls b) c) (cond (eqb t 7) (GroupClassDef a (cls b) c)
    (cond (eqb t 8) (BlockparamIn a) BlockparamOut))))))))

use_from : List ℕ → Use
use_from ns = record { pos = inst (get_or ns 1 0); kind = kind_from (get_or ns 0 0) (get_or ns 2 0) (get_or ns 3 0) (get_or ns 4 0) (get_or ns 5 0) }

from_numbers : (k : UseKind) (p : Inst) → use_from (numbers_of k p.0) ≡ record { pos = p; kind = k }
unfolding use_from kind_from
from_numbers (FixedDef r) p = refl
from_numbers (FixedUse r) p = refl
from_numbers (TiedUse u d c i) p = refl
from_numbers ConstraintConflict p = refl
from_numbers (ClassUse s c) p = refl
from_numbers (ClassDef s c) p = refl
from_numbers (GroupClassUse s c i) p = refl
from_numbers (GroupClassDef s c i) p = refl
from_numbers (BlockparamIn q) p = refl
from_numbers BlockparamOut p = refl

pub same_eq : (xs ys : List ℕ) → same xs ys ≡ true → xs ≡ ys
same_eq [] [] e = refl
same_eq [] (y ∷ ys) e = let z : ◌≡◌ {A = ℕ} 0 1 = cc in absurd (omega arith)
same_eq (x ∷ xs) [] e = let z : ◌≡◌ {A = ℕ} 0 1 = cc in absurd (omega arith)
same_eq (x ∷ xs) (y ∷ ys) e = let a = and_both (eqb x y) (same xs ys) e in let q : x ≡ y = eqb-true _ _ a.0 in let r : xs ≡ ys = same_eq xs ys a.1 in rw (q, r)

pub same_refl : (xs : List ℕ) → same xs xs ≡ true
same_refl [] = refl
same_refl (x ∷ xs) = rw (eq-eqb x x refl) (same_refl xs)

-- the test is passed by the use itself and by no other
pub same_use_lem : (w u : Use) → same_use w u ≡ true → w ≡ u
unfolding same_use
same_use_lem w u e = sym (from_numbers w.kind w.pos) ∙ ap use_from (same_eq _ _ e) ∙ from_numbers u.kind u.pos

pub use_same : (w : Use) → same_use w w ≡ true
unfolding same_use
use_same w = same_refl (use_numbers w)

-- ---- the test as the counts of `ReadBack` and `Points` want it

pub class_test : (k : UseKind) (i : Inst) → is_class_use k ≡ true → Test (same_use (record { pos = i; kind = k }))
unfolding same_use
class_test (FixedDef r) i e = let z : ◌≡◌ {A = ℕ} 0 1 = cc in absurd (omega arith)
class_test (FixedUse r) i e = let z : ◌≡◌ {A = ℕ} 0 1 = cc in absurd (omega arith)
class_test (TiedUse u d c x) i e = let z : ◌≡◌ {A = ℕ} 0 1 = cc in absurd (omega arith)
class_test ConstraintConflict i e = let z : ◌≡◌ {A = ℕ} 0 1 = cc in absurd (omega arith)
class_test (ClassUse s c) i e = record { mark = λ u. refl; param = λ p q. refl }
class_test (ClassDef s c) i e = record { mark = λ u. refl; param = λ p q. refl }
class_test (GroupClassUse s c x) i e = record { mark = λ u. refl; param = λ p q. refl }
class_test (GroupClassDef s c x) i e = record { mark = λ u. refl; param = λ p q. refl }
class_test (BlockparamIn p) i e = let z : ◌≡◌ {A = ℕ} 0 1 = cc in absurd (omega arith)
class_test BlockparamOut i e = let z : ◌≡◌ {A = ℕ} 0 1 = cc in absurd (omega arith)

-- the tags of class uses are 4 to 7
tag_of : UseKind → ℕ
tag_of k = get_or (numbers_of k 0) 0 0

tag_class : (k : UseKind) → is_class_use k ≡ true → (4 ≤ tag_of k) × (tag_of k ≤ 7)
unfolding tag_of
tag_class (FixedDef r) e = let z : ◌≡◌ {A = ℕ} 0 1 = cc in absurd (omega arith)
tag_class (FixedUse r) e = let z : ◌≡◌ {A = ℕ} 0 1 = cc in absurd (omega arith)
tag_class (TiedUse u d c x) e = let z : ◌≡◌ {A = ℕ} 0 1 = cc in absurd (omega arith)
tag_class ConstraintConflict e = let z : ◌≡◌ {A = ℕ} 0 1 = cc in absurd (omega arith)
tag_class (ClassUse s c) e = (omega arith, omega arith)
tag_class (ClassDef s c) e = (omega arith, omega arith)
tag_class (GroupClassUse s c x) e = (omega arith, omega arith)
tag_class (GroupClassDef s c x) e = (omega arith, omega arith)
tag_class (BlockparamIn p) e = let z : ◌≡◌ {A = ℕ} 0 1 = cc in absurd (omega arith)
tag_class BlockparamOut e = let z : ◌≡◌ {A = ℕ} 0 1 = cc in absurd (omega arith)

-- uses of one tag only pass
other_tag : (w u : Use) → (tag_of w.kind ≡ tag_of u.kind → ⊥) → same_use w u ≡ false
unfolding tag_of
other_tag w u n = go (same_use w u) refl
  where
    go : (b : Bool) → same_use w u ≡ b → same_use w u ≡ false
    go true e = absurd (n (ap (λ (x : Use). get_or (numbers_of x.kind 0) 0 0) (same_use_lem w u e)))
    go false e = e

pub other_test : (w : Use) → is_class_use w.kind ≡ false → is_mark w.kind ≡ false → Steady (same_use w)
unfolding tag_of
other_test w e f = record { turned = λ u c. other_tag w (turned_use u) (λ q. no_mark w.kind f q) ∙ sym (other_tag w u (λ q. no_tag w.kind e u c q)) }
  where
    no_tag : (k : UseKind) → is_class_use k ≡ false → (u : Use) → is_class_use u.kind ≡ true → tag_of k ≡ tag_of u.kind → ⊥
    no_tag (FixedDef r) a u c q = let t = tag_class u.kind c in omega arith
    no_tag (FixedUse r) a u c q = let t = tag_class u.kind c in omega arith
    no_tag (TiedUse x d y i) a u c q = let t = tag_class u.kind c in omega arith
    no_tag ConstraintConflict a u c q = let t = tag_class u.kind c in omega arith
    no_tag (ClassUse s x) a u c q = let z : ◌≡◌ {A = ℕ} 0 1 = cc in omega arith
    no_tag (ClassDef s x) a u c q = let z : ◌≡◌ {A = ℕ} 0 1 = cc in omega arith
    no_tag (GroupClassUse s x i) a u c q = let z : ◌≡◌ {A = ℕ} 0 1 = cc in omega arith
    no_tag (GroupClassDef s x i) a u c q = let z : ◌≡◌ {A = ℕ} 0 1 = cc in omega arith
    no_tag (BlockparamIn p) a u c q = let t = tag_class u.kind c in omega arith
    no_tag BlockparamOut a u c q = let t = tag_class u.kind c in omega arith

    no_mark : (k : UseKind) → is_mark k ≡ false → tag_of k ≡ 3 → ⊥
    no_mark (FixedDef r) a q = omega arith
    no_mark (FixedUse r) a q = omega arith
    no_mark (TiedUse x d y i) a q = omega arith
    no_mark ConstraintConflict a q = let z : ◌≡◌ {A = ℕ} 0 1 = cc in omega arith
    no_mark (ClassUse s x) a q = omega arith
    no_mark (ClassDef s x) a q = omega arith
    no_mark (GroupClassUse s x i) a q = omega arith
    no_mark (GroupClassDef s x i) a q = omega arith
    no_mark (BlockparamIn p) a q = omega arith
    no_mark BlockparamOut a q = omega arith

pub mark_is : (k : UseKind) → is_mark k ≡ true → k ≡ ConstraintConflict
mark_is (FixedDef r) e = let z : ◌≡◌ {A = ℕ} 0 1 = cc in absurd (omega arith)
mark_is (FixedUse r) e = let z : ◌≡◌ {A = ℕ} 0 1 = cc in absurd (omega arith)
mark_is (TiedUse u d c x) e = let z : ◌≡◌ {A = ℕ} 0 1 = cc in absurd (omega arith)
mark_is ConstraintConflict e = refl
mark_is (ClassUse s c) e = let z : ◌≡◌ {A = ℕ} 0 1 = cc in absurd (omega arith)
mark_is (ClassDef s c) e = let z : ◌≡◌ {A = ℕ} 0 1 = cc in absurd (omega arith)
mark_is (GroupClassUse s c x) e = let z : ◌≡◌ {A = ℕ} 0 1 = cc in absurd (omega arith)
mark_is (GroupClassDef s c x) e = let z : ◌≡◌ {A = ℕ} 0 1 = cc in absurd (omega arith)
mark_is (BlockparamIn p) e = let z : ◌≡◌ {A = ℕ} 0 1 = cc in absurd (omega arith)
mark_is BlockparamOut e = let z : ◌≡◌ {A = ℕ} 0 1 = cc in absurd (omega arith)

-- ---- what no count tells apart is equal

abbrev Alike : {A : Type 0} → A → A → Type 0
Alike {A} x y = (f : A → ℕ) → f x ≡ f y

-- of a list: the head, or d; the tail
head_or : {A : Type 0} → (A → ℕ) → ℕ → List A → ℕ
head_or f d [] = d
head_or f d (x ∷ xs) = f x

of_tail : {A : Type 0} → (List A → ℕ) → List A → ℕ
of_tail f [] = 0
of_tail f (x ∷ xs) = f xs

lists_alike : {A : Type 0} → ((x y : A) → Alike x y → x ≡ y) → (xs ys : List A) → Alike xs ys → xs ≡ ys
unfolding head_or of_tail
lists_alike one' [] [] e = refl
lists_alike one' [] (y ∷ ys) e = let z : ◌≡◌ {A = ℕ} 1 0 = e (head_or (λ _. 0) 1) in absurd (omega arith)
lists_alike one' (x ∷ xs) [] e = let z : ◌≡◌ {A = ℕ} 0 1 = e (head_or (λ _. 0) 1) in absurd (omega arith)
lists_alike one' (x ∷ xs) (y ∷ ys) e = rw (one' x y (λ f. e (head_or f 0)), lists_alike one' xs ys (λ f. e (of_tail f)))

uses_alike : (x y : Use) → Alike x y → x ≡ y
uses_alike x y e =
    sym (from_numbers x.kind x.pos)
    ∙ ap use_from (lists_alike (λ a b h. h (λ n. n)) (use_numbers x) (use_numbers y) (λ f. e (λ u. f (use_numbers u))))
    ∙ from_numbers y.kind y.pos

bools_alike : (a b : Bool) → one a ≡ one b → a ≡ b
bools_alike true true e = refl
bools_alike true false e = absurd (omega arith)
bools_alike false true e = absurd (omega arith)
bools_alike false false e = refl

segments_alike : (x y : Segment) → Alike x y → x ≡ y
segments_alike x y e =
    let a : x.value.0 ≡ y.value.0 = e (λ s. s.value.0) in
    let b : x.«from».0 ≡ y.«from».0 = e (λ s. s.«from».0) in
    let c : x.to.0 ≡ y.to.0 = e (λ s. s.to.0) in
    let l : x.flags.livein ≡ y.flags.livein = bools_alike _ _ (e (λ s. one s.flags.livein)) in
    let m : x.flags.liveout ≡ y.flags.liveout = bools_alike _ _ (e (λ s. one s.flags.liveout)) in
    let n : x.flags.fixedhint ≡ y.flags.fixedhint = bools_alike _ _ (e (λ s. one s.flags.fixedhint)) in
    let o : x.flags.fixeddef ≡ y.flags.fixeddef = bools_alike _ _ (e (λ s. one s.flags.fixeddef)) in
    let d : x.uses ≡ y.uses = lists_alike uses_alike x.uses y.uses (λ f. e (λ s. f s.uses)) in
    made x.value.0 y.value.0 x.«from».0 y.«from».0 x.to.0 y.to.0 x.flags.livein y.flags.livein x.flags.liveout y.flags.liveout
    x.flags.fixedhint y.flags.fixedhint x.flags.fixeddef y.flags.fixeddef x.uses y.uses a b c l m n o d
  where
    made : (v v' f f' t t' : ℕ) (l l' m m' n n' o o' : Bool) (us us' : List Use) → v ≡ v' → f ≡ f' → t ≡ t' → l ≡ l' → m ≡ m' → n ≡ n' → o ≡ o' → us ≡ us'
        → ◌≡◌ {A = Segment} (record { value = val v; «from» = point f; to = point t; flags = record { livein = l; liveout = m; fixedhint = n; fixeddef = o }; uses = us })
        (record { value = val v'; «from» = point f'; to = point t'; flags = record { livein = l'; liveout = m'; fixedhint = n'; fixeddef = o' }; uses = us' })
    made v v' f f' t t' l l' m m' n n' o o' us us' a b c d e g h k = rw (a, b, c, d, e, g, h, k)

-- ---- in order of their first points

put_total : (ν : Segment → ℕ) (s : Segment) (ts : List Segment) → total ν (put_in s ts) ≡ ν s + total ν ts
unfolding put_in total
put_total ν s [] = refl
put_total ν s (t ∷ ts) = go (leb s.«from».0 t.«from».0) refl (put_total ν s ts)
  where
    go : (b : Bool) → leb s.«from».0 t.«from».0 ≡ b → total ν (put_in s ts) ≡ ν s + total ν ts → total ν (put_in s (t ∷ ts)) ≡ ν s + (ν t + total ν ts)
    go true e ih = rw (e, put_in)
    go false e ih = rw (e, put_in) (omega arith)

pub first_total : (ν : Segment → ℕ) (ss : List Segment) → total ν (by_first ss) ≡ total ν ss
unfolding by_first total
first_total ν [] = refl
first_total ν (s ∷ ss) = omega (arith, put_total ν s (by_first ss), first_total ν ss)

abbrev Sorted : ℕ → List Segment → Type 0
Sorted q [] = Unit {0}
Sorted q (s ∷ ss) = (q ≤ s.«from».0) × Sorted s.«from».0 ss

put_sorted : (q : ℕ) (s : Segment) (ts : List Segment) → q ≤ s.«from».0 → Sorted q ts → Sorted q (put_in s ts)
unfolding put_in
put_sorted q s [] l h = (l, tt)
put_sorted q s (t ∷ ts) l h = go (leb s.«from».0 t.«from».0) refl (λ k. put_sorted t.«from».0 s ts k h.1)
  where
    go : (b : Bool) → leb s.«from».0 t.«from».0 ≡ b → (t.«from».0 ≤ s.«from».0 → Sorted t.«from».0 (put_in s ts)) → Sorted q (put_in s (t ∷ ts))
    go true e ih = rw (e, put_in) (l, (leb-true _ _ e, h.1))
    go false e ih = let k : t.«from».0 < s.«from».0 = leb-false _ _ e in rw (e, put_in) (h.0, ih (omega arith))

first_sorted : (ss : List Segment) → Sorted 0 (by_first ss)
unfolding by_first
first_sorted [] = tt
first_sorted (s ∷ ss) = put_sorted 0 s (by_first ss) (omega arith) (first_sorted ss)

-- those that start by k, where all start later
sorted_none : (k q : ℕ) (ss : List Segment) → k < q → Sorted q ss → total (λ s. one (leb s.«from».0 k)) ss ≡ 0
unfolding total
sorted_none k q [] l h = refl
sorted_none k q (s ∷ ss) l h = rw (lt-leb s.«from».0 k (omega (arith, h.0))) (omega (arith, sorted_none k s.«from».0 ss (omega (arith, h.0)) h.1))

follows_sorted : (q : ℕ) (ss : List Segment) → Follows q ss → Sorted q ss
follows_sorted q [] h = tt
follows_sorted q (s ∷ ss) h = (h.0, lower s.to.0 s.«from».0 ss (omega (arith, h.1)) (follows_sorted s.to.0 ss h.2))
  where
    lower : (a b : ℕ) (ts : List Segment) → b ≤ a → Sorted a ts → Sorted b ts
    lower a b [] l k = tt
    lower a b (t ∷ ts) l k = (omega (arith, k.0), k.1)

follows_none : (k q : ℕ) (ss : List Segment) → k < q → Follows q ss → total (λ s. one (leb s.«from».0 k)) ss ≡ 0
follows_none k q ss l h = sorted_none k q ss l (follows_sorted q ss h)

zero_total : (P : Segment → Bool) (ν : Segment → ℕ) (ss : List Segment) → total (λ s. one (P s)) ss ≡ 0 → total (λ s. cond (P s) (ν s) 0) ss ≡ 0
unfolding total
zero_total P ν [] e = refl
zero_total P ν (s ∷ ss) e = go (P s) e (zero_total P ν ss)
  where
    go : (b : Bool) → one b + total (λ s. one (P s)) ss ≡ 0 → (total (λ s. one (P s)) ss ≡ 0 → total (λ s. cond (P s) (ν s) 0) ss ≡ 0) → cond b (ν s) 0 + total (λ s. cond (P s) (ν s) 0) ss ≡ 0
    go true e ih = absurd (omega arith)
    go false e ih = omega (arith, ih (omega arith))

-- a sorted list that counts as one whose segments follow each other is that list
sorted_is : (xs ys : List Segment) (p q : ℕ) → Sorted p xs → Follows q ys → ((ν : Segment → ℕ) → total ν xs ≡ total ν ys) → xs ≡ ys
unfolding total
sorted_is [] [] p q h k e = refl
sorted_is [] (y ∷ ys) p q h k e = let z : 0 ≡ 1 + total (λ _. 1) ys = e (λ _. 1) in absurd (omega arith)
sorted_is (x ∷ xs) [] p q h k e = let z : 1 + total (λ _. 1) xs ≡ 0 = e (λ _. 1) in absurd (omega arith)
sorted_is (x ∷ xs) (y ∷ ys) p q h k e = go (leb x.«from».0 y.«from».0) refl (λ f. sorted_is xs ys x.«from».0 y.to.0 h.1 k.2 f)
  where
    behind : total (λ s. one (leb s.«from».0 y.«from».0)) ys ≡ 0
    behind = follows_none y.«from».0 y.to.0 ys k.1 k.2

    first : leb y.«from».0 y.«from».0 ≡ true
    first = le-leb y.«from».0 y.«from».0 (omega arith)

    once : one (leb x.«from».0 y.«from».0) + total (λ s. one (leb s.«from».0 y.«from».0)) xs ≡ 1
    once = e (λ s. one (leb s.«from».0 y.«from».0)) ∙ rw first (omega (arith, behind))

    go : (b : Bool) → leb x.«from».0 y.«from».0 ≡ b → (((ν : Segment → ℕ) → total ν xs ≡ total ν ys) → xs ≡ ys) → x ∷ xs ≡ y ∷ ys
    go false a ih =
        let l : y.«from».0 < x.«from».0 = leb-false _ _ a in
        let n : total (λ s. one (leb s.«from».0 y.«from».0)) xs ≡ 0 = sorted_none y.«from».0 x.«from».0 xs l h.1 in
        let o : 0 + total (λ s. one (leb s.«from».0 y.«from».0)) xs ≡ 1 = subst (λ (b : Bool). one b + total (λ s. one (leb s.«from».0 y.«from».0)) xs ≡ 1) a once in
        absurd (omega arith)
    go true a ih =
        let o : 1 + total (λ s. one (leb s.«from».0 y.«from».0)) xs ≡ 1 = subst (λ (b : Bool). one b + total (λ s. one (leb s.«from».0 y.«from».0)) xs ≡ 1) a once in
        let n : total (λ s. one (leb s.«from».0 y.«from».0)) xs ≡ 0 = omega arith in
        let heads : (ν : Segment → ℕ) → ν x ≡ ν y =
        λ ν. head ν (e (λ s. cond (leb s.«from».0 y.«from».0) (ν s) 0)) (zero_total (λ s. leb s.«from».0 y.«from».0) ν xs n) (zero_total (λ s. leb s.«from».0 y.«from».0) ν ys behind) in
        rw (segments_alike x y heads, ih (λ ν. omega (arith, e ν, heads ν)))
      where
        head : (ν : Segment → ℕ) → cond (leb x.«from».0 y.«from».0) (ν x) 0 + total (λ s. cond (leb s.«from».0 y.«from».0) (ν s) 0) xs
            ≡ cond (leb y.«from».0 y.«from».0) (ν y) 0 + total (λ s. cond (leb s.«from».0 y.«from».0) (ν s) 0) ys
            → total (λ s. cond (leb s.«from».0 y.«from».0) (ν s) 0) xs ≡ 0 → total (λ s. cond (leb s.«from».0 y.«from».0) (ν s) 0) ys ≡ 0 → ν x ≡ ν y
        head ν c d f =
            let g : ν x + total (λ s. cond (leb s.«from».0 y.«from».0) (ν s) 0) xs ≡ ν y + total (λ s. cond (leb s.«from».0 y.«from».0) (ν s) 0) ys = rw (a, first) at c in
            omega arith

-- so is a list put in order
pub first_is : (xs ys : List Segment) → Follows 0 ys → ((ν : Segment → ℕ) → total ν xs ≡ total ν ys) → by_first xs ≡ ys
first_is xs ys k e = sorted_is (by_first xs) ys 0 0 (first_sorted xs) k (λ ν. first_total ν xs ∙ e ν)
