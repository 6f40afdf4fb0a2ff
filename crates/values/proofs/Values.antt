-- The set of a value in a table of values. Assumes nothing.
use mathlib.Core.Path.{◌≡◌, sym, ap, ◌∙◌}
use mathlib.Core.List.{List}
use Prim.Native.Nat.{ℕ, ◌+◌, ◌*◌, ◌≤◌, ◌<◌}
use native.Mathlib.Omega.{arith}
use lib.ListN.{length, get_or, get_or-eq_default}
use Rattle.words.specs.RowsAt.{get_or_rows_at, length_rows_at}
use Rattle.definition.specs.declared.Value.{Value}
use Rattle.definition.specs.declared.ValueSet.{ValueSet}
use Rattle.definition.specs.declared.ValueData.{ValueData}
use Rattle.definition.specs.Types.{Job, vset}
use Rattle.definition.specs.RegInfo.{no_value, value_at, set_of}
use Rattle.values.specs.ValueRows.{value_row, values_at, set_in}

pub values_long : (W : List ℕ) (at n : ℕ) → length (values_at W at n) ≡ n
unfolding values_at
values_long W at n = length_rows_at value_row W at 3 n

-- value k from its row
pub value_row_at : (W : List ℕ) (at n k : ℕ) → k < n → value_row W (at + k * 3) ≡ get_or (values_at W at n) k no_value
unfolding values_at
value_row_at W at n k h = sym (get_or_rows_at value_row W at 3 n k no_value h)

-- the set of a value of the table, and of one past it
pub set_known : (W : List ℕ) (at n k w : ℕ) (v : Value) → k ≡ v.0 → k < n → w ≡ get_or W (at + k * 3 + 1) 0 → vset w ≡ set_in (values_at W at n) v
unfolding set_in value_row
set_known W at n k w v e l h =
    ap vset h ∙ ap (λ (d : ValueData). vset d.leader.0) (value_row_at W at n k l) ∙ ap (λ (j : ℕ). vset (get_or (values_at W at n) j no_value).leader.0) e

pub set_past : (W : List ℕ) (at n k : ℕ) (v : Value) → k ≡ v.0 → n ≤ k → vset 0 ≡ set_in (values_at W at n) v
unfolding set_in
set_past W at n k v e l =
    let p : length (values_at W at n) ≤ v.0 = omega (arith, values_long W at n) in
    ap (λ (d : ValueData). vset d.leader.0) (sym (get_or-eq_default (values_at W at n) no_value p))

-- the set in the table of a job's values is the definition's
pub set_of_lem : (W : List ℕ) (at n : ℕ) (x : ValueSet) (v : Value) → x ≡ set_in (values_at W at n) v → (job : Job) → job.values ≡ values_at W at n → x ≡ set_of job v
unfolding set_of value_at set_in
set_of_lem W at n x v h job e = h ∙ ap (λ (vs : List ValueData). vset (get_or vs v.0 no_value).leader.0) (sym e)
