-- The value groups of the table: those of up to eight members are the definition's; longer ones have more than eight members in both. Assumes nothing.
use Rattle.std.specs.Prelude.{◌≡◌, refl, List, [], ◌∷◌, map, Bool, true, false, cond, ℕ, suc, ◌+◌, ◌-◌, ◌≤◌, ◌<◌, length, get_or, ltb}
use Rattle.std.proofs.Common.{ap, ◌∙◌, arith, ltb-true, ltb-false, lt-ltb}
use Rattle.words.specs.RowsAt.{rows_at, rows_at_cons, length_rows_at}
use Rattle.definition.specs.declared.Value.{Value}
use Rattle.definition.specs.Types.{val}
use Rattle.definition.specs.JobSheet.{vgroup_of}
use Rattle.values.specs.ValueRows.{member_row, vgroup_row}
use Rattle.sheet_rules.specs.Places.{stored_of, stored_fields, up_of}
use Rattle.sheet_laws.specs.Table.{ups}
use Rattle.sheet_laws.specs.Stands.{Row}
use Rattle.sheet_job.specs.Decode.{start}

-- equal, or both of more than eight members
abbrev pub AlikeIf : Bool → List Value → List Value → Type 0
AlikeIf true xs ys = (8 < length xs) × (8 < length ys)
AlikeIf false xs ys = xs ≡ ys

abbrev pub AlikeGroup : List Value → List Value → Type 0
AlikeGroup xs ys = AlikeIf (ltb 8 (length ys)) xs ys

pub ups_few : (ns : List ℕ) (n : ℕ) → n + length ns ≤ 10 → ups n ns ≡ n + length ns
unfolding ups up_of
ups_few [] n h = omega arith
ups_few (v ∷ vs) n h =
    let u : up_of n ≡ n + 1 = rw (lt-ltb n 10 (omega arith)) in
    let i : ups (up_of n) vs ≡ up_of n + length vs = ups_few vs (up_of n) (omega arith) in
    omega arith

ups_many : (ns : List ℕ) (n : ℕ) → n ≤ 10 → 10 ≤ n + length ns → ups n ns ≡ 10
unfolding ups up_of
ups_many [] n h g = omega arith
ups_many (v ∷ vs) n h g = go (ltb n 10) refl (λ k a b. ups_many vs k a b)
  where
    go : (t : Bool) → ltb n 10 ≡ t → ((k : ℕ) → k ≤ 10 → 10 ≤ k + length vs → ups k vs ≡ 10) → ups (cond t (n + 1) 10) vs ≡ 10
    go true e ih = let l : n < 10 = ltb-true n 10 e in ih (n + 1) (omega arith) (omega (arith, g))
    go false e ih = ih 10 (omega arith) (omega arith)

members : (T : List ℕ) (ns : List ℕ) (b : ℕ) → ((j : ℕ) → j < length ns → get_or T (b + j) 0 ≡ get_or ns j 0) → rows_at member_row T b 1 (length ns) ≡ map val ns
unfolding rows_at
members T [] b h = refl
members T (n ∷ ns) b h =
    let z : b ≡ b + 0 = omega arith in
    let f : get_or T b 0 ≡ n = ap (λ (a : ℕ). get_or T a 0) z ∙ h 0 (omega arith) in
    rows_at_cons member_row T b 1 (length ns)
    ∙ ap (λ (x : ℕ). val x ∷ rows_at member_row T (b + 1) 1 (length ns)) f
    ∙ ap (λ (l : List Value). val n ∷ l) (members T ns (b + 1) (λ j l. let e : b + 1 + j ≡ b + suc j = omega arith in ap (λ (a : ℕ). get_or T a 0) e ∙ h (suc j) (omega (arith, l))))

length_members : (ns : List ℕ) → length (map val ns) ≡ length ns
length_members [] = refl
length_members (n ∷ ns) = ap suc (length_members ns)

pub vgroup_read : (T : List ℕ) (i : ℕ) (ns : List ℕ) (u : ℕ) → Row T 6 i ns u → AlikeGroup (vgroup_row T (start 6 i)) (vgroup_of ns)
unfolding vgroup_row vgroup_of stored_of stored_fields
vgroup_read T i ns u r = go (ltb 8 (length (map val ns))) refl
  where
    a : start 6 i ≡ start 6 i + 0
    a = omega arith

    count : get_or T (start 6 i) 0 ≡ ups 1 ns - 1
    count = ap (λ (x : ℕ). get_or T x 0) a ∙ r.members refl

    go : (t : Bool) → ltb 8 (length (map val ns)) ≡ t → AlikeIf t (rows_at member_row T (start 6 i + 1) 1 (get_or T (start 6 i) 0)) (map val ns)
    go true e =
        let l : 8 < length (map val ns) = ltb-true 8 (length (map val ns)) e in
        let m : length (map val ns) ≡ length ns = length_members ns in
        let q : ups 1 ns ≡ 10 = ups_many ns 1 (omega arith) (omega arith) in
        let n : length (rows_at member_row T (start 6 i + 1) 1 (get_or T (start 6 i) 0)) ≡ get_or T (start 6 i) 0 = length_rows_at member_row T (start 6 i + 1) 1 (get_or T (start 6 i) 0) in
        (omega (arith, n, q, count), l)
    go false e =
        let l : length (map val ns) ≤ 8 = ltb-false 8 (length (map val ns)) e in
        let m : length (map val ns) ≡ length ns = length_members ns in
        let q : ups 1 ns ≡ 1 + length ns = ups_few ns 1 (omega arith) in
        let n : get_or T (start 6 i) 0 ≡ length ns = omega (arith, q, count) in
        ap (λ (k : ℕ). rows_at member_row T (start 6 i + 1) 1 k) n
        ∙ members T ns (start 6 i + 1) (λ j h. let f : start 6 i + 1 + j ≡ start 6 i + (1 + j) = omega arith in ap (λ (x : ℕ). get_or T x 0) f ∙ r.fields j (omega (arith, h)))
