-- The tables that `out_layout` cuts. Assumes nothing.
use mathlib.Core.Path.{◌≡◌, ◌∙◌}
use Prim.Native.Nat.{ℕ, ◌-◌, ◌*◌, ◌/◌, ◌≤◌}
use native.Mathlib.Omega.{arith}
use Rattle.virt_regs.specs.declared.OutLayout.{OutLayout}
use Rattle.build_answer.specs.Answered.{named_in, rows_in, out_layout_of, Cut}

-- what `rows_in` promises
abbrev pub Named : ℕ → ℕ → ℕ → Type 0
Named room a r = (r ≡ named_in room a) × (r ≤ room) × (r ≤ 4294967294)

tables : ℕ → ℕ → ℕ → ℕ → OutLayout
tables r s u g = record { regs = r; segs = s; uses = u; groups = g }

cut_is : (n a b c d r s u g : ℕ) → r ≡ rows_in n 8 a → s ≡ rows_in (n - r * 8) 7 b → u ≡ rows_in (n - r * 8 - s * 7) 6 c → g ≡ rows_in (n - r * 8 - s * 7 - u * 6) 9 d
    → tables r s u g ≡ out_layout_of n a b c d
unfolding out_layout_of tables
cut_is n a b c d r s u g er es eu eg =
    let fs : s ≡ rows_in (n - rows_in n 8 a * 8) 7 b = es ∙ (λ i. rows_in (n - er i * 8) 7 b) in
    let fu : u ≡ rows_in (n - rows_in n 8 a * 8 - rows_in (n - rows_in n 8 a * 8) 7 b * 7) 6 c = eu ∙ (λ i. rows_in (n - er i * 8 - fs i * 7) 6 c) in
    let fg = eg ∙ (λ i. rows_in (n - er i * 8 - fs i * 7 - fu i * 6) 9 d) in
    λ i. record { regs = er i; segs = fs i; uses = fu i; groups = fg i }

pub cut : (n a b c d r s u g : ℕ) → Named (n / 8) a r → Named ((n - r * 8) / 7) b s → Named ((n - r * 8 - s * 7) / 6) c u → Named ((n - r * 8 - s * 7 - u * 6) / 9) d g
    → Cut n a b c d (record { regs = r; segs = s; uses = u; groups = g })
unfolding tables
cut n a b c d r s u g hr hs hu hg =
    record {
      is = cut_is n a b c d r s u g hr.0 hs.0 hu.0 hg.0;
      fits = omega (arith, hr.1, hs.1, hu.1, hg.1);
      few_registers = omega (arith, hr.2);
      few_segments = omega (arith, hs.2);
      few_uses = omega (arith, hu.2);
      few_groups = omega (arith, hg.2);
    }
