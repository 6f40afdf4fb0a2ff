-- The sums and weights of a job by `spill_weight`'s definitions, a step of a loop over them, and that none is negative or a NaN. Assumes nothing.
use mathlib.Core.Path.{◌≡◌, refl, sym, ap, ◌∙◌, subst}
use Prim.Native.Nat.{ℕ, zero, suc, ◌+◌, ◌-◌, ◌≤◌, ◌<◌}
use native.Mathlib.Numerals.{add-one}
use mathlib.Core.Bool.{Bool, true, false, not, cond}
use mathlib.Core.Option.{Option, none, some}
use mathlib.Core.List.{List, [], ◌∷◌, ◌++◌}
use lib.Dec.{T, leb, ltb, eqb}
use lib.ListN.{length, drop, get_or, drop_of_length-le}
use lib.Seq.{drop-cons}
use lib.Ieee.{Float, binary32}
use lib.Ieee.Fits.{and_l, and_r, cond-fits}
use Rattle.definition.specs.declared.RegClass.{RegClass}
use Rattle.definition.specs.declared.VirtReg.{VirtReg}
use Rattle.definition.specs.declared.UseKind.{UseKind}
use Rattle.definition.specs.declared.UseKind.TheVariants.{FixedDef, FixedUse, TiedUse, ConstraintConflict, ClassUse, ClassDef, GroupClassUse, GroupClassDef, BlockparamIn, BlockparamOut}
use Rattle.definition.specs.declared.Use.{Use}
use Rattle.definition.specs.declared.BlockData.{BlockData}
use Rattle.definition.specs.declared.ClassData.{ClassData}
use Rattle.definition.specs.declared.Remat.{Remat}
use Rattle.definition.specs.declared.Refusal.{Refusal}
use Rattle.definition.specs.declared.Refusal.TheVariants.{OverALimit}
use Rattle.definition.specs.Types.{Segment, Job, State}
use Rattle.definition.specs.RegInfo.{zero_f, no_class, class_at, value_at}
use Rattle.definition.specs.Uses.{cost_of}
use Rattle.definition.specs.LiveRange.{live_insts}
use Rattle.definition.specs.SplitPlacement.{freq_at}
use Rattle.definition.specs.Weights.{scaled, add_cost, sum_uses, sum_segs, min_f, weight_of}
use Rattle.definition.specs.Admit.{register_at}
use Rattle.definition.specs.Place.{is_none, least_weight}
use Rattle.definition.specs.Entry.{plain, small, conj, every, class_ok, class_tests, book_ok, book_tests, block_ok, function_ok, function_tests, lowest_of, entry, entry_tests}
use Rattle.weights.specs.Nonneg.{nonneg, Weight}
use Rattle.weights.proofs.Nonneg.{cond_nonneg, min_weight}
use Rattle.weights.specs.Costs.{base_cost, class_cost, in_memory, weight_from, PlainJob}
use Rattle.weights.proofs.Costs.{zero_small, base_small, scaled_plain, add_cost_nonneg, weight_from_weight}

-- ---- a job's costs and weights are those of this crate
pub cost_base : (job : Job) (k : UseKind) → cost_of job k ≡ base_cost k (class_cost job k) (in_memory job k)
unfolding cost_of base_cost class_cost in_memory
cost_base job (FixedDef r) = refl
cost_base job (FixedUse r) = refl
cost_base job (TiedUse u d c i) = refl
cost_base job ConstraintConflict = refl
cost_base job (ClassUse s c) = refl
cost_base job (ClassDef s c) = refl
cost_base job (GroupClassUse s c i) = refl
cost_base job (GroupClassDef s c i) = refl
cost_base job (BlockparamIn p) = refl
cost_base job BlockparamOut = refl

pub weight_from_lem : (job : Job) (c : RegClass) (ss : List Segment)
    → weight_of job c ss ≡ weight_from (sum_segs job zero_f ss) (live_insts ss) job.options.adjust (class_at job c).spillslots
unfolding weight_of weight_from
weight_from_lem job c ss = refl

-- ---- the floats of a job that passes the entry tests
conj_at : (bs : List Bool) → T (conj bs) → (i : ℕ) → T (get_or bs i true)
unfolding conj
conj_at [] t i = tt
conj_at (b ∷ bs) t zero = and_l b (conj bs) t
conj_at (b ∷ bs) t (suc i) = conj_at bs (and_r b (conj bs) t) i

class_small : (cs : List ClassData) (c : ClassData) → T (class_ok cs c) → T (small c.cost)
unfolding class_ok
class_small cs c t = conj_at (class_tests cs c) t 1

classes_small : (cs xs : List ClassData) → T (every (class_ok cs) xs) → (i : ℕ) → T (small (get_or xs i no_class).cost)
unfolding every
classes_small cs [] t i = zero_small
classes_small cs (x ∷ xs) t zero = class_small cs x (and_l (class_ok cs x) (every (class_ok cs) xs) t)
classes_small cs (x ∷ xs) t (suc i) = classes_small cs xs (and_r (class_ok cs x) (every (class_ok cs) xs) t) i

block_plain : (b : BlockData) → T (block_ok b) → T (plain b.frequency)
unfolding block_ok
block_plain b t = and_r (leb 1 b.insts) (plain b.frequency) t

blocks_plain : (bs : List BlockData) → T (every block_ok bs) → (i : ℕ) → T (plain (freq_at bs i))
unfolding every freq_at
blocks_plain [] t i = tt
blocks_plain (b ∷ bs) t i = go (ltb i b.insts) refl (blocks_plain bs (and_r (block_ok b) (every block_ok bs) t) (i - b.insts))
  where
    go : (s : Bool) → ltb i b.insts ≡ s → T (plain (freq_at bs (i - b.insts))) → T (plain (freq_at (b ∷ bs) i))
    go true e ih = rw (e, freq_at) (block_plain b (and_l (block_ok b) (every block_ok bs) t))
    go false e ih = rw (e, freq_at) ih

pub entered_plain : (job : Job) → T (book_ok job) → T (function_ok job) → PlainJob job
unfolding book_ok function_ok class_at
entered_plain job b f = record {
  scales = record {
    move_small = conj_at (book_tests job) b 3;
    load_small = conj_at (book_tests job) b 4;
    indirect_small = conj_at (book_tests job) b 5;
  };
  costs = λ c. classes_small job.classes job.classes (conj_at (book_tests job) b 2) c.0;
  frequencies = blocks_plain job.blocks (conj_at (function_tests job) f 0);
}

-- the tests of a list that gives no refusal pass
lowest_at : (ts : List (Bool × Refusal)) → lowest_of ts ≡ none → (i : ℕ) → T (get_or ts i (true, OverALimit)).0
unfolding lowest_of
lowest_at [] e i = tt
lowest_at (t ∷ ts) e i = go t.0 refl i (lowest_at ts)
  where
    some_none : {r : Refusal} → some r ≡ none → ⊥
    some_none p = subst (λ (o : Option Refusal). T (not (is_none o))) p tt

    go : (b : Bool) → t.0 ≡ b → (i : ℕ) → (lowest_of ts ≡ none → (i : ℕ) → T (get_or ts i (true, OverALimit)).0) → T (get_or (t ∷ ts) i (true, OverALimit)).0
    go true q zero f = subst T (sym q) tt
    go true q (suc i) f = f (ap (λ (b : Bool). cond b (lowest_of ts) (some t.1)) (sym q) ∙ e) i
    go false q i f = absurd (some_none (ap (λ (b : Bool). cond b (lowest_of ts) (some t.1)) (sym q) ∙ e))

pub accepted_plain : (job : Job) → entry job ≡ none → PlainJob job
unfolding entry
accepted_plain job e = entered_plain job (lowest_at (entry_tests job) e 1) (lowest_at (entry_tests job) e 2)

-- ---- a use's cost
pub class_cost_small : (job : Job) → PlainJob job → (k : UseKind) → T (small (class_cost job k))
unfolding class_cost
class_cost_small job p (FixedDef r) = zero_small
class_cost_small job p (FixedUse r) = zero_small
class_cost_small job p (TiedUse u d c i) = zero_small
class_cost_small job p ConstraintConflict = zero_small
class_cost_small job p (ClassUse s c) = p.costs c
class_cost_small job p (ClassDef s c) = p.costs c
class_cost_small job p (GroupClassUse s c i) = p.costs c
class_cost_small job p (GroupClassDef s c i) = p.costs c
class_cost_small job p (BlockparamIn q) = zero_small
class_cost_small job p BlockparamOut = zero_small

pub cost_small : (job : Job) → PlainJob job → (k : UseKind) → T (small (cost_of job k))
cost_small job p k =
    subst (λ (x : Float). T (small x)) (sym (cost_base job k)) (base_small k (class_cost job k) (in_memory job k) (class_cost_small job p k))

-- the sum with one use more
abbrev pub add_use : Job → Remat → Float → Use → Float
add_use job r t u = add_cost t (scaled job.options r (cost_of job u.kind)) (freq_at job.blocks u.pos.0)

-- by what the tables say of the use
pub use_added : (job : Job) (r : Remat) (t : Float) (u : Use) {x w : Float} {m : Bool} → x ≡ class_cost job u.kind → m ≡ in_memory job u.kind → w ≡ freq_at job.blocks u.pos.0
    → add_cost t (scaled job.options r (base_cost u.kind x m)) w ≡ add_use job r t u
use_added job r t u {x} {w} {m} p q f =
    let c : base_cost u.kind x m ≡ cost_of job u.kind =
    ap (λ (y : Float). base_cost u.kind y m) p ∙ ap (λ (b : Bool). base_cost u.kind (class_cost job u.kind) b) q ∙ sym (cost_base job u.kind) in
    ap (λ (y : Float). add_cost t (scaled job.options r y) w) c ∙ ap (λ (y : Float). add_cost t (scaled job.options r (cost_of job u.kind)) y) f

pub use_nonneg : (job : Job) → PlainJob job → (r : Remat) (t : Float) (u : Use) → T (nonneg t) → T (nonneg (add_use job r t u))
use_nonneg job p r t u h =
    add_cost_nonneg t (scaled job.options r (cost_of job u.kind)) (freq_at job.blocks u.pos.0) h
    (scaled_plain job.options r (cost_of job u.kind) p.scales (cost_small job p u.kind)) (p.frequencies u.pos.0)

-- ---- the sums, over any list
pub uses_nonneg : (job : Job) → PlainJob job → (r : Remat) (t : Float) (us : List Use) → T (nonneg t) → T (nonneg (sum_uses job r t us))
unfolding sum_uses
uses_nonneg job p r t [] h = h
uses_nonneg job p r t (u ∷ us) h = uses_nonneg job p r (add_use job r t u) us (use_nonneg job p r t u h)

pub segs_nonneg : (job : Job) → PlainJob job → (t : Float) (ss : List Segment) → T (nonneg t) → T (nonneg (sum_segs job t ss))
unfolding sum_segs
segs_nonneg job p t [] h = h
segs_nonneg job p t (s ∷ ss) h =
    segs_nonneg job p (sum_uses job (value_at job s.value).remat t s.uses) ss (uses_nonneg job p (value_at job s.value).remat t s.uses h)

-- a turn of a loop over the uses: the use at place i, d where there is none
pub uses_step : (job : Job) (r : Remat) (t : Float) (us : List Use) (i : ℕ) (d : Use) → i < length us
    → sum_uses job r t (drop i us) ≡ sum_uses job r (add_use job r t (get_or us i d)) (drop (i + 1) us)
unfolding sum_uses
uses_step job r t us i d h = rw (add-one, drop-cons us i d)

pub uses_end_lem : (job : Job) (r : Remat) (t : Float) (us : List Use) (i : ℕ) → length us ≤ i → sum_uses job r t (drop i us) ≡ t
unfolding sum_uses
uses_end_lem job r t us i h = rw (drop_of_length-le us h)

pub uses_append : (job : Job) (r : Remat) (t : Float) (us vs : List Use) → sum_uses job r t (us ++ vs) ≡ sum_uses job r (sum_uses job r t us) vs
unfolding sum_uses
uses_append job r t [] vs = refl
uses_append job r t (u ∷ us) vs = uses_append job r (add_use job r t u) us vs

-- and over the segments
pub segs_step : (job : Job) (t : Float) (ss : List Segment) (i : ℕ) (d : Segment) → i < length ss
    → sum_segs job t (drop i ss) ≡ sum_segs job (sum_uses job (value_at job (get_or ss i d).value).remat t (get_or ss i d).uses) (drop (i + 1) ss)
unfolding sum_segs
segs_step job t ss i d h = rw (add-one, drop-cons ss i d)

pub segs_end_lem : (job : Job) (t : Float) (ss : List Segment) (i : ℕ) → length ss ≤ i → sum_segs job t (drop i ss) ≡ t
unfolding sum_segs
segs_end_lem job t ss i h = rw (drop_of_length-le ss h)

pub segs_append : (job : Job) (t : Float) (ss us : List Segment) → sum_segs job t (ss ++ us) ≡ sum_segs job (sum_segs job t ss) us
unfolding sum_segs
segs_append job t [] us = refl
segs_append job t (s ∷ ss) us = segs_append job (sum_uses job (value_at job s.value).remat t s.uses) ss us

-- ---- the weight, and the least of a group's
pub weight_weight : (job : Job) → PlainJob job → (c : RegClass) (ss : List Segment) → 0 < live_insts ss + job.options.adjust
    → live_insts ss + job.options.adjust ≤ 16777216 → Weight (weight_of job c ss)
weight_weight job p c ss h l =
    subst Weight (sym (weight_from_lem job c ss))
    (weight_from_weight (sum_segs job zero_f ss) (live_insts ss) job.options.adjust (class_at job c).spillslots (segs_nonneg job p zero_f ss tt) h l)

pub least_weight_lem : (st : State) → ((r : VirtReg) → Weight (register_at st r).weight) → (i j : ℕ) (ms : List (Option VirtReg)) (w : Float) → Weight w → Weight (least_weight st i j ms w)
unfolding least_weight
least_weight_lem st p i j [] w h = h
least_weight_lem st p i j (none ∷ ms) w h = least_weight_lem st p i (suc j) ms w h
least_weight_lem st p i j (some r ∷ ms) w h =
    let v = (register_at st r).weight in
    let m = min_weight w v h (p r) in
    least_weight_lem st p i (suc j) ms (cond (eqb i j) w (min_f w v)) (cond_nonneg (eqb i j) w (min_f w v) h.0 m.0, cond-fits binary32 (eqb i j) w (min_f w v) h.1 m.1)
