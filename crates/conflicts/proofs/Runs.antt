-- Runs of rows of one instruction, and whether they are of one value. Assumes nothing.
use mathlib.Core.Path.{◌≡◌, refl, sym, ap, ap₂, subst, ◌∙◌}
use mathlib.Core.Bool.{Bool, false, ◌&&◌}
use mathlib.Core.List.{List, ◌∷◌}
use Prim.Native.Nat.{ℕ, zero, suc, ◌+◌, ◌-◌, ◌*◌, ◌≤◌, ◌<◌}
use native.Mathlib.Omega.{arith}
use lib.Dec.{eqb}
use lib.ListN.{get_or}
use borrow.Author.Tests.{eqb-false}
use Rattle.std.proofs.iter.Yields.{nat_range_steps}
use Rattle.std.proofs.lemmas.Iterator.{YieldsList-from_range}
use Rattle.std.proofs.lemmas.Iterator.Search.{all_from_yields_List}
use Rattle.std.specs.Fn.{Called}
use Rattle.std.specs.Iterator.{ChecksAll}
use Rattle.std.specs.List.{list_all, range_with_len}
use Rattle.std.specs.declared.ops.Range.{Range}
use denote.Param.Members.{Mut}
use Rattle.words.specs.Tab.{tab}
use Rattle.definition.specs.declared.Value.{Value}
use Rattle.definition.specs.declared.Use.{Use}
use Rattle.definition.specs.Types.{Turned, val}
use Rattle.definition.specs.Build.{all_of, runs, same_inst}
use Rattle.job.specs.declared.Layout.{Layout}
use Rattle.pieces.specs.Conflict.{row_use, turned_row_at, turned_rows_of}
use Rattle.set_runs.specs.Runs.{Running, running_stop, running_end}
use Rattle.conflicts.proofs.RoundKept.{row_use_lem}

-- ---- the loop that finds the end: rows a to e - 1 are of instruction p

abbrev inst_of : Turned → ℕ
inst_of t = t.use'.pos.0

-- the instruction of row m
abbrev pub inst_at : List ℕ → ℕ → List ℕ → Layout → ℕ → ℕ
inst_at K turned W lay m = (row_use K turned W lay m).pos.0

inst_is : (K : List ℕ) (turned : ℕ) (W : List ℕ) (lay : Layout) (m : ℕ) → inst_of (turned_row_at K turned W lay m) ≡ inst_at K turned W lay m
inst_is K turned W lay m = ap (λ (x : Use). x.pos.0) (row_use_lem K turned W lay m)

module _ (K : List ℕ) (turned : ℕ) (W : List ℕ) (lay : Layout) (a n : ℕ) where
  module _ (p e : ℕ) (v : Running (inst_at K turned W lay) a n p e) where
    pub run_stop : (u : Use) → u ≡ row_use K turned W lay e → eqb u.pos.0 p ≡ false
        → (a < e) × (e ≤ n) × (runs same_inst (turned_rows_of K turned W lay a n) ≡ turned_rows_of K turned W lay a e ∷ runs same_inst (turned_rows_of K turned W lay e n))
    unfolding turned_rows_of
    run_stop u eu q = running_stop (inst_at K turned W lay) a n p e v inst_of (turned_row_at K turned W lay) (inst_is K turned W lay) u.pos.0 (ap (λ (x : Use). x.pos.0) eu) (eqb-false _ _ q)

    pub run_done : n ≤ e → e ≤ n → (a < n) × (n ≤ n) × (runs same_inst (turned_rows_of K turned W lay a n) ≡ turned_rows_of K turned W lay a n ∷ runs same_inst (turned_rows_of K turned W lay n n))
    unfolding turned_rows_of
    run_done l h =
        let q : e ≡ n = omega arith in
        subst (λ (m : ℕ). (a < m) × (m ≤ n) × (runs same_inst (tab (turned_row_at K turned W lay) a (n - a)) ≡ tab (turned_row_at K turned W lay) a (m - a) ∷ runs same_inst (tab (turned_row_at K turned W lay) m (n - m)))) q
        (running_end (inst_at K turned W lay) a n p e v inst_of (turned_row_at K turned W lay) (inst_is K turned W lay) l)

-- ---- one value

row_value : (K : List ℕ) (turned : ℕ) (W : List ℕ) (lay : Layout) (k : ℕ) → (turned_row_at K turned W lay k).value ≡ val (get_or K (turned + k * 4) 0)
unfolding turned_row_at
row_value K turned W lay k = refl

all_of_range : (K : List ℕ) (turned v : ℕ) (W : List ℕ) (lay : Layout) (i k : ℕ)
    → list_all (λ j. eqb (get_or K (turned + j * 4) 0) v) (range_with_len i k) ≡ all_of (val v) (tab (turned_row_at K turned W lay) i k)
all_of_range K turned v W lay i zero = refl
all_of_range K turned v W lay i (suc k) =
    ap₂ (λ (x : Value) (b : Bool). eqb x.0 v && b) (sym (row_value K turned W lay i)) (all_of_range K turned v W lay (i + 1) k)

-- the closure h says of number x whether row x has value v
pub one_value_is : {F : Type 0} {g : Mut F (ℕ × Unit {0}) Bool} (K : List ℕ) (turned v a b : ℕ) {u : Range ℕ} {h : F} {r : Bool} → v ≡ get_or K (turned + a * 4) 0
    → ChecksAll nat_range_steps g (record { start = a + 1; end = b }) h r u
    → ((x : ℕ) (t : Bool) (q : F) → Called g h (x, tt) t q → (q ≡ h) × (t ≡ eqb (get_or K (turned + x * 4) 0) v))
    → (W : List ℕ) (lay : Layout) → r ≡ all_of (turned_row_at K turned W lay a).value (turned_rows_of K turned W lay (a + 1) b)
unfolding turned_rows_of
one_value_is K turned v a b {u} {h} {r} e ran is W lay =
    all_from_yields_List (λ x. eqb (get_or K (turned + x * 4) 0) v) u h r ran (YieldsList-from_range (a + 1) b (b - (a + 1)) refl refl) is
    ∙ all_of_range K turned v W lay (a + 1) (b - (a + 1))
    ∙ ap (λ (x : Value). all_of x (tab (turned_row_at K turned W lay) (a + 1) (b - (a + 1)))) (ap val e ∙ sym (row_value K turned W lay a))
