-- The members of a value group, and their value sets filled into eight places. Assumes nothing.
use mathlib.Core.Path.{◌≡◌, refl, sym, ap, ◌∙◌}
use mathlib.Core.List.{List, [], ◌∷◌, ◌++◌, map, map-append}
use Prim.Native.Nat.{ℕ, suc, ◌+◌, ◌-◌, ◌*◌, ◌≤◌, ◌<◌}
use native.Mathlib.Numerals.{add-one}
use native.Mathlib.Omega.{arith}
use lib.ListN.{length, get_or, take, replicate, set, length-map, length-take}
use lib.Seq.{take-suc, set_at, append_snoc, take-length}
use Rattle.words.specs.RowsAt.{get_or_rows_at, length_rows_at}
use Rattle.definition.specs.declared.Value.{Value}
use Rattle.definition.specs.declared.ValueSet.{ValueSet}
use Rattle.definition.specs.declared.ValueData.{ValueData}
use Rattle.definition.specs.Types.{Job, val}
use Rattle.definition.specs.RegInfo.{value_at, set_of}
use Rattle.definition.specs.Admit.{sets_of, reserved}
use Rattle.values.specs.ValueRows.{member_row, vgroup_row, vgroups_at, set_in}

pub groups_long : (W : List ℕ) (at n : ℕ) → length (vgroups_at W at n) ≡ n
unfolding vgroups_at
groups_long W at n = length_rows_at vgroup_row W at 9 n

-- value group g from its row
pub group_row_at : (W : List ℕ) (at n g : ℕ) → g < n → vgroup_row W (at + g * 9) ≡ get_or (vgroups_at W at n) g []
unfolding vgroups_at
group_row_at W at n g h = sym (get_or_rows_at vgroup_row W at 9 n g [] h)

-- the first word of a row is the number of members
pub group_long : (W : List ℕ) (i : ℕ) → length (vgroup_row W i) ≡ get_or W i 0
unfolding vgroup_row
group_long W i = length_rows_at member_row W (i + 1) 1 (get_or W i 0)

pub member_known : (W : List ℕ) (i k w : ℕ) → k < length (vgroup_row W i) → w ≡ get_or W (i + 1 + k) 0 → val w ≡ get_or (vgroup_row W i) k (val 0)
unfolding vgroup_row
member_known W i k w h e =
    let l : k < get_or W i 0 = omega (arith, length_rows_at member_row W (i + 1) 1 (get_or W i 0)) in
    let m : i + 1 + k ≡ i + 1 + k * 1 = omega arith in
    ap val (e ∙ ap (λ (j : ℕ). get_or W j 0) m) ∙ sym (get_or_rows_at member_row W (i + 1) 1 (get_or W i 0) k (val 0) l)

-- the first k members are placed, and the rest is reserved
pub record Filling (vs : List ValueData) (ms : List Value) (k : ℕ) (out : List ValueSet) : Type 0 where
  pub within : k ≤ length ms
  pub is : out ≡ map (λ v. set_in vs v) (take k ms) ++ replicate (8 - k) reserved

put : (p : List ValueSet) (y a : ValueSet) (ys : List ValueSet) (i : ℕ) → length p ≡ i → set (p ++ y ∷ ys) i a ≡ (p ++ (a ∷ [])) ++ ys
put p y a ys i e = set_at p y ys a i e ∙ sym (append_snoc p a ys)

one_more_lem : (k : ℕ) → k < 8 → replicate (8 - k) reserved ≡ reserved ∷ replicate (8 - (k + 1)) reserved
one_more_lem k h = let e : 8 - k ≡ suc (8 - (k + 1)) = omega arith in rw e

pub fill_start : (vs : List ValueData) (ms : List Value) → Filling vs ms 0 (replicate 8 reserved)
fill_start vs ms = record { within = omega arith; is = refl }

pub fill_next : {vs : List ValueData} {ms : List Value} {k : ℕ} {out : List ValueSet} {v : Value} {x : ValueSet} → Filling vs ms k out → k < length ms → length ms ≤ 8
    → v ≡ get_or ms k (val 0) → x ≡ set_in vs v → Filling vs ms (k + 1) (set out k x)
fill_next {vs} {ms} {k} {out} {v} {x} f h l ev ex =
    let placed : ℕ → List ValueSet = λ n. map (λ v. set_in vs v) (take n ms) in
    let n : length (placed k) ≡ k = simp (length-map, length-take) (omega arith) in
    let e : x ≡ set_in vs (get_or ms k (val 0)) = ex ∙ ap (λ w. set_in vs w) ev in
    let more : placed (k + 1) ≡ placed k ++ (x ∷ []) = rw (add-one, take-suc ms k (val 0) h, map-append, e) in
    let lt : k < 8 = omega arith in
    record {
      within = omega arith;
      is =
          ap (λ o. set o k x) f.is
          ∙ ap (λ r. set (placed k ++ r) k x) (one_more_lem k lt)
          ∙ put (placed k) reserved x (replicate (8 - (k + 1)) reserved) k n
          ∙ sym (ap (λ r. r ++ replicate (8 - (k + 1)) reserved) more);
    }

pub fill_done : {vs : List ValueData} {ms : List Value} {k : ℕ} {out : List ValueSet} → Filling vs ms k out → length ms ≤ k
    → (job : Job) → job.values ≡ vs → out ≡ sets_of job ms
unfolding sets_of set_of value_at set_in
fill_done {vs} {ms} {k} f h job e =
    let n : k ≡ length ms = omega arith in
    f.is ∙ ap (λ (j : ℕ). map (λ v. set_in vs v) (take j ms) ++ replicate (8 - j) reserved) n
    ∙ ap (λ (l : List Value). map (λ v. set_in vs v) l ++ replicate (8 - length ms) reserved) (take-length ms)
    ∙ ap (λ (l : List ValueData). map (λ v. set_in l v) ms ++ replicate (8 - length ms) reserved) (sym e)
