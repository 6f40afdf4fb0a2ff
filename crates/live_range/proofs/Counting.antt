-- The loop of `live_insts`. Assumes nothing.
use mathlib.Core.Path.{◌≡◌, sym, ap, ◌∙◌}
use mathlib.Core.List.{List, map}
use Prim.Native.Nat.{ℕ, ◌+◌, ◌-◌, ◌*◌, ◌≤◌, ◌<◌}
use native.Mathlib.Omega.{arith}
use Rattle.words.specs.RowsAt.{rows_at, rows_at_start, rows_at_more, rows_at_done}
use Rattle.definition.specs.declared.Inst.{Inst}
use Rattle.definition.specs.Types.{inst}
use Rattle.definition.specs.LiveRange.{next_inst, touched}
use Rattle.live_range.specs.declared.insts.LiveRangeSegment.{LiveRangeSegment}
use Rattle.live_range.specs.Ranges.{bare, range_at, new_insts, range_insts}

-- what the rows from row i on touch, the instructions below n left out
abbrev rest : List ℕ → ℕ → ℕ → ℕ → ℕ → ℕ
rest W at n i counted = touched counted (map bare (rows_at range_at W (at + i * 7) 7 (n - i)))

pub record Counting (W : List ℕ) (at n i sum : ℕ) (counted : Inst) : Type 0 where
  pub within : i ≤ n
  pub is : range_insts (rows_at range_at W at 7 n) ≡ sum + rest W at n i counted.0

pub count_start : (W : List ℕ) (at n : ℕ) → Counting W at n 0 0 (inst 0)
unfolding range_insts
count_start W at n =
    record {
      within = omega arith;
      is =
          let e = ap (λ (l : List LiveRangeSegment). touched 0 (map bare l)) (rows_at_start range_at W at 7 n) in
          omega arith;
    }

module _ {W : List ℕ} {at n i sum : ℕ} {counted : Inst} (l : Counting W at n i sum counted) where
  -- a row: what it adds, and what is left
  count_step : {s : LiveRangeSegment} → i < n → s ≡ range_at W (at + i * 7)
      → rest W at n i counted.0 ≡ new_insts counted.0 s + rest W at n (i + 1) (next_inst s.to)
  unfolding touched
  count_step {s} h e =
      ap (λ r. touched counted.0 (map bare r)) (rows_at_more range_at W at 7 n i h)
      ∙ ap (λ (r : LiveRangeSegment). new_insts counted.0 r + rest W at n (i + 1) (next_inst r.to)) (sym e)

  pub count_room : {s : LiveRangeSegment} {k : ℕ} → i < n → s ≡ range_at W (at + i * 7) → k ≡ new_insts counted.0 s
      → sum + k ≤ range_insts (rows_at range_at W at 7 n)
  count_room h e f = omega (arith, l.is, count_step h e)

  pub count_next : {s : LiveRangeSegment} {k : ℕ} {next : Inst} → i < n → s ≡ range_at W (at + i * 7) → k ≡ new_insts counted.0 s → next ≡ inst (next_inst s.to)
      → Counting W at n (i + 1) (sum + k) next
  count_next h e f g =
      record {
        within = omega arith;
        is =
            let t = ap (λ (j : Inst). rest W at n (i + 1) j.0) g in
            omega (arith, l.is, count_step h e);
      }

  pub count_done : n ≤ i → sum ≡ range_insts (rows_at range_at W at 7 n)
  unfolding touched
  count_done h =
      let e = ap (λ r. touched counted.0 (map bare r)) (rows_at_done range_at W at 7 n i h) in
      omega (arith, l.is)
