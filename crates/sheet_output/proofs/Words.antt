-- A row's words as the definitions of the rows have them. Assumes nothing.
use mathlib.Core.Path.{◌≡◌, ap, ◌∙◌}
use mathlib.Core.List.{List}
use Prim.Native.Nat.{ℕ, ◌+◌}
use native.Mathlib.Nat.{add-zero}
use native.Mathlib.Omega.{arith}
use Rattle.words.specs.Tab.{tab_ext}
use lib.ListN.{get_or}
use Rattle.definition.specs.Types.{vset, cls}
use Rattle.virt_regs.specs.declared.RegisterRow.{RegisterRow}
use Rattle.sheet_output.specs.Rows.{row_in, register_in, use_in, members_in}

pub use_is : (O : List ℕ) (i : ℕ) → row_in O i 6 ≡ use_in O i
unfolding row_in use_in
use_is O i = rw (add-zero i)

pub members_is : (O : List ℕ) (i : ℕ) → row_in O (i + 1) 8 ≡ members_in O i
unfolding row_in members_in
members_is O i =
    tab_ext (λ k. get_or O (i + 1 + k) 0) (λ k. get_or O (i + k) 0) 0 1 8
    (λ n h. ap (λ (j : ℕ). get_or O j 0) (let e : i + 1 + (0 + n) ≡ i + (1 + n) = omega arith in e))

-- a register of eight words
abbrev register_by : List ℕ → RegisterRow
register_by r = record {
  set = vset (get_or r 0 0);
  class = cls (get_or r 1 0);
  weight = get_or r 2 0;
  group = get_or r 3 0;
  index = get_or r 4 0;
  hint = get_or r 5 0;
  first = get_or r 6 0;
  count = get_or r 7 0;
}

pub register_is : (O r : List ℕ) (i : ℕ) → r ≡ row_in O i 8 → register_by r ≡ register_in O i
unfolding row_in register_in
register_is O r i e = ap register_by e ∙ rw (add-zero i)
