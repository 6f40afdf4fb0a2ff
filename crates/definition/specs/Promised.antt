-- The words of the promises on accepted jobs: a value's points and uses, a set's ranges and own pieces, their order,
-- classes, weights. Assumes nothing.
use Rattle.std.specs.Prelude.{◌≡◌, ◌⊎◌, ℕ, zero, suc, ◌+◌, ◌/◌, ◌%◌, ◌≤◌, ◌<◌, Bool, true, false, cond, ◌&&◌, List, [], ◌∷◌, ◌++◌, leb, ltb, eqb}
use Rattle.std.proofs.Math.Option.{none}
use Rattle.definition.specs.Types.{Inst, Value, ValueSet, RegClass, UseKind, FixedDef, FixedUse, TiedUse, ConstraintConflict, ClassUse, ClassDef, GroupClassUse, GroupClassDef, BlockparamIn, BlockparamOut, Use, Segment, Job, Own, Conflict, Piece, Register}
use Rattle.definition.specs.RegInfo.{class_at, set_of}
use Rattle.definition.specs.Uses.{is_class_use}
use Rattle.definition.specs.LiveRange.{live_insts}
use Rattle.definition.specs.Weights.{weight_of}
use Rattle.definition.specs.Place.{segs_of, total}
use Rattle.definition.specs.Lines.{use_numbers}
use Rattle.definition.specs.Text.{same}
use Rattle.definition.specs.Build.{one, turned_use}

-- ---- "A value's points are those of its seg records, `to` excluded"

-- how many of the segments are of value v and hold the point x
abbrev pub holds : Value → ℕ → Segment → Bool
holds v x s = eqb s.value.0 v.0 && leb s.«from».0 x && ltb x s.to.0

unfoldable pub live_at : Value → ℕ → List Segment → ℕ
unfolding total
live_at v x ss = total (λ s. one (holds v x s)) ss

-- how many hold it, whatever their value
abbrev pub covers : ℕ → Segment → Bool
covers x s = leb s.«from».0 x && ltb x s.to.0

unfoldable pub covered : ℕ → List Segment → ℕ
unfolding total
covered x ss = total (λ s. one (covers x s)) ss

-- ---- "its uses, the use lines under them, the same if kind and all fields are"

unfoldable pub same_use : Use → Use → Bool
same_use w u = same (use_numbers w) (use_numbers u)

-- how many of the uses under the segments of value v are the use w
unfoldable pub had : Value → Use → List Segment → ℕ
unfolding total same_use
had v w ss = total (λ s. cond (eqb s.value.0 v.0) (total (λ u. one (same_use w u)) s.uses) 0) ss

-- how many of the uses under the segments of value v are class uses at instruction p; how many are marks there (kind 3)
abbrev pub is_mark : UseKind → Bool
is_mark (FixedDef r) = false
is_mark (FixedUse r) = false
is_mark (TiedUse u d c i) = false
is_mark ConstraintConflict = true
is_mark (ClassUse s c) = false
is_mark (ClassDef s c) = false
is_mark (GroupClassUse s c i) = false
is_mark (GroupClassDef s c i) = false
is_mark (BlockparamIn p) = false
is_mark BlockparamOut = false

unfoldable pub class_uses_at : Value → Inst → List Segment → ℕ
unfolding total
class_uses_at v p ss = total (λ s. cond (eqb s.value.0 v.0) (total (λ u. one (is_class_use u.kind && eqb u.pos.0 p.0)) s.uses) 0) ss

unfoldable pub marks_at : Value → Inst → List Segment → ℕ
unfolding total
marks_at v p ss = total (λ s. cond (eqb s.value.0 v.0) (total (λ u. one (is_mark u.kind && eqb u.pos.0 p.0)) s.uses) 0) ss

-- ---- "A set is the values of one leader."

unfoldable pub of_set : Job → ValueSet → List Segment → List Segment
of_set job s [] = []
of_set job s (x ∷ xs) = let r = of_set job s xs in cond (eqb (set_of job x.value).0 s.0) (x ∷ r) r

-- its input ranges, in input order
unfoldable pub input_of : Job → ValueSet → List Segment
unfolding of_set
input_of job s = of_set job s job.segments

-- its pieces not made for a conflict: those of the registers of set s, in the order of the result
unfoldable pub own_pieces : List Piece → List Segment
own_pieces [] = []
own_pieces (p ∷ ps) = let r = own_pieces ps in elim p.origin [ Own ↦ p.seg ∷ r | Conflict ↦ r ]

unfoldable pub own_of : ValueSet → List Register → List Segment
unfolding own_pieces
own_of s [] = []
own_of s (r ∷ rs) = let q = own_of s rs in cond (eqb r.set.0 s.0) (own_pieces r.pieces ++ q) q

-- the pieces of all registers: those not made for a conflict, and those made for one
unfoldable pub own_in : List Register → List Segment
unfolding own_pieces
own_in [] = []
own_in (r ∷ rs) = own_pieces r.pieces ++ own_in rs

unfoldable pub added_pieces : List Piece → List Segment
added_pieces [] = []
added_pieces (p ∷ ps) = let r = added_pieces ps in elim p.origin [ Own ↦ r | Conflict ↦ p.seg ∷ r ]

unfoldable pub added_in : List Register → List Segment
unfolding added_pieces
added_in [] = []
added_in (r ∷ rs) = added_pieces r.pieces ++ added_in rs

-- in order of their first points
unfoldable pub put_in : Segment → List Segment → List Segment
put_in s [] = s ∷ []
put_in s (t ∷ ts) = elim (leb s.«from».0 t.«from».0) [ true ↦ s ∷ t ∷ ts | false ↦ t ∷ put_in s ts ]

unfoldable pub by_first : List Segment → List Segment
unfolding put_in
by_first [] = []
by_first (s ∷ ss) = put_in s (by_first ss)

-- from q on, none empty, each from the end of the one before on: so their first points differ, and no point is in two
abbrev pub Follows : ℕ → List Segment → Type 0
Follows q [] = Unit {0}
Follows q (s ∷ ss) = (q ≤ s.«from».0) × (s.«from».0 < s.to.0) × Follows s.to.0 ss

-- ---- uses in order, each with the value that it is a use of

abbrev pub under : Value → List Use → List (Value × Use)
under v [] = []
under v (u ∷ us) = (v, u) ∷ under v us

unfoldable pub valued : List Segment → List (Value × Use)
valued [] = []
valued (s ∷ ss) = under s.value s.uses ++ valued ss

-- b stands for a: a use of the same value, and the same use; or a is a class use, and b its mark (kind 3), at the same instruction
abbrev pub StandsFor : Value × Use → Value × Use → Type 0
StandsFor a b = (b.0 ≡ a.0) × ((b.1 ≡ a.1) ⊎ ((is_class_use a.1.kind ≡ true) × (b.1 ≡ turned_use a.1)))

-- place by place, with none left over
abbrev pub Listed : List (Value × Use) → List (Value × Use) → Type 0
Listed [] [] = Unit {0}
Listed [] (y ∷ ys) = ⊥
Listed (x ∷ xs) [] = ⊥
Listed (x ∷ xs) (y ∷ ys) = StandsFor x y × Listed xs ys

-- how many places have the use w of value v in the first list and a mark in the second
abbrev pub marked_for : Value → Use → List (Value × Use) → List (Value × Use) → ℕ
marked_for v w [] ys = 0
marked_for v w (x ∷ xs) [] = 0
marked_for v w (x ∷ xs) (y ∷ ys) = one (eqb x.0.0 v.0 && same_use w x.1 && is_mark y.1.kind) + marked_for v w xs ys

-- ---- classes

-- bit k of m
abbrev pub bit_at : ℕ → ℕ → ℕ
bit_at zero m = m % 2
bit_at (suc k) m = bit_at k (m / 2)

-- "A class *admits* the members of its mask" (a term that document 01 coins): c admits k
abbrev pub In : Job → RegClass → RegClass → Type 0
In job k c = bit_at k.0 (class_at job c).mask ≡ 1

-- "subclassing is *transitive* if every class's mask contains its members' masks" (a term that document 01 coins)
abbrev pub Transitive : Job → Type 0
Transitive job = (c k j : RegClass) → In job k c → In job j k → In job j c

-- ---- weights

-- a register without group has the weight of its class and its own pieces, and these touch no more instructions than a
-- job may have
abbrev pub OwnWeight : Job → Register → Type 0
OwnWeight job r =
    let ss = segs_of r.pieces in
    r.group ≡ none → (r.weight ≡ weight_of job r.class ss) × (live_insts ss ≤ 4096)
