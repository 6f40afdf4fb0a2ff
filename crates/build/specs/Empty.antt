-- The state that a build begins with: what it is, and that cleared tables and a prepared work slice stand for it. Assumes nothing.
use Rattle.std.specs.Prelude.{ℕ, zero, suc, ◌≤◌, ◌<◌, ◌≡◌, refl, List, [], length, get_or, replicate}
use Rattle.std.proofs.Common.{arith}
use Rattle.words.specs.AnyRows.{rows_of}
use Rattle.definition.specs.Types.{Job}
use Rattle.definition.specs.Admit.{mapped_at}
use Rattle.definition.specs.Place.{uses_of, empty}
use Rattle.job.specs.declared.Layout.{Layout}
use Rattle.values.proofs.Rows.{long}
use Rattle.virt_regs.specs.declared.OutLayout.{OutLayout}
use Rattle.virt_regs.specs.Each.{Each}
use Rattle.words.specs.Tables.{cleared_to}
use Rattle.virt_regs.specs.Encoding.{tables, contents, tables_end, all_pieces, counts_of, Holds}
use Rattle.job.specs.declared.work.WorkLayout.{WorkLayout}
use Rattle.entry.specs.Accepted.{Prepared}
use Rattle.constraints.specs.Ready.{operands_in, Mapping}
use Rattle.steps.specs.Fits.{StandsAs}
use Rattle.steps.specs.Placing.{empty_fits}

-- no operand is mapped
pub empty_mapping : {W K : List ℕ} {lay : Layout} {wl : WorkLayout} → Prepared W K lay wl → Mapping K wl.mapping (operands_in W lay) []
unfolding mapped_at
empty_mapping {W} {K} {lay} {wl} p = record { is = λ k h. p.mapping k (omega (arith, long W lay.operands.at lay.operands.n, h)) }

-- words that are all 0, up to word e
abbrev pub Clear : ℕ → List ℕ → Type 0
Clear e O = (i : ℕ) → i < e → get_or O i 0 ≡ 0

-- a slice of zeros is, to any word
pub clear_zeros : (n e : ℕ) → Clear e (replicate n 0)
clear_zeros zero e i h = refl
clear_zeros (suc n) e zero h = refl
clear_zeros (suc n) e (suc i) h = clear_zeros n e i (omega arith)

-- cleared tables hold it
pub empty_holds : (ol : OutLayout) (O : List ℕ) → tables_end ol ≤ length O → Clear (tables_end ol) O → Holds ol O empty
unfolding all_pieces uses_of rows_of Each
empty_holds ol O h z = record { tabled = cleared_to (tables ol) (contents empty) O (omega arith) (refl, (refl, (refl, (refl, tt)))) h z; typed = tt; weights = tt; members = tt }

-- the tables and the work slice stand for it
pub empty_stands : {W K : List ℕ} {lay : Layout} {wl : WorkLayout} (J : Job) (ol : OutLayout) (O : List ℕ) → tables_end ol ≤ length O → Clear (tables_end ol) O → Prepared W K lay wl
    → StandsAs J ol O W K lay wl (counts_of empty) empty
empty_stands J ol O h z p = record { stands = record { tables = empty_holds ol O h z; mapped = empty_mapping p }; counts = refl; fits = empty_fits J }
