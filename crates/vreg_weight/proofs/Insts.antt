-- `count_insts`: the count of `live_insts` as long as it is at most 4096. Assumes nothing.
use Rattle.std.specs.Prelude.{◌≡◌, List, ℕ, ◌+◌, ◌-◌, ◌*◌, ◌≤◌, ◌<◌, max}
use Rattle.std.proofs.Common.{arith}
use Rattle.words.specs.RowsAt.{rows_at}
use Rattle.definition.specs.declared.Inst.{Inst}
use Rattle.live_range.specs.declared.insts.LiveRangeSegment.{LiveRangeSegment}
use Rattle.live_range.specs.Ranges.{range_at, new_insts, range_insts}
use Rattle.live_range.proofs.Counting.{Counting, count_room, count_done}

abbrev pub Counts : List ℕ → ℕ → ℕ → ℕ → Type 0
Counts W at n r = (1 ≤ r) × (r ≤ 4096)
    × (1 ≤ range_insts (rows_at range_at W at 7 n) → range_insts (rows_at range_at W at 7 n) ≤ 4096 → r ≡ range_insts (rows_at range_at W at 7 n))

-- more than there can be
pub count_over : {W : List ℕ} {at n i sum k : ℕ} {counted : Inst} {s : LiveRangeSegment} → Counting W at n i sum counted → i < n → s ≡ range_at W (at + i * 7) → k ≡ new_insts counted.0 s
    → sum ≤ 4096 → 4096 - sum < k → Counts W at n 4096
count_over l h e f m o = (omega arith, omega arith, λ lo hi. absurd (omega (arith, count_room l h e f)))

pub count_all : {W : List ℕ} {at n i sum : ℕ} {counted : Inst} (r : ℕ) → Counting W at n i sum counted → n ≤ i → sum ≤ 4096 → r ≡ max sum 1 → Counts W at n r
count_all r l h m e = (omega arith, omega arith, λ lo hi. omega (arith, count_done l h))
