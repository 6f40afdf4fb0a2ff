-- What is kept of a use that is turned, read off a working part. Assumes nothing.
use Rattle.std.specs.Prelude as code
use Rattle.std.specs.Prelude.{ℕ, zero, suc, ◌+◌, ◌-◌, ◌*◌, true, false, cond, List, eqb, ltb, None, Some}
use Rattle.std.proofs.Math.Option.{Option, none, some}
use Rattle.definition.specs.declared.Inst.{Inst}
use Rattle.definition.specs.declared.Use.{Use}
use Rattle.definition.specs.Types.{Turned}
use Rattle.definition.specs.Uses.{param_of}
use Rattle.job.specs.declared.Layout.{Layout}
use Rattle.job.specs.Layout.{seg_row}
use Rattle.set_part.specs.declared.SetPart.{SetPart}
use Rattle.set_part.specs.declared.PartSeg.{PartSeg}
use Rattle.set_part.specs.Part.{part_row, marked_use}
use Rattle.set_part.specs.declared.mark.TurnedRow.{TurnedRow}

-- a parameter as the code has it, and the one that the code's stands for
abbrev pub coded : Option ℕ → code.Option ℕ
coded none = None
coded (some q) = Some q

abbrev pub param_by : code.Option ℕ → Option ℕ
param_by None = none
param_by (Some q) = some q

-- the block parameter where a list begins with u, if u is a BlockparamIn at p
unfoldable pub param_here : Inst → Use → Option ℕ
param_here p u = cond (eqb u.pos.0 p.0) (param_of u.kind) none

-- the first of m segments from i on behind whose uses number c does not stand, else the one behind them; the segment table is at word `at`
unfoldable pub holder_from : List ℕ → ℕ → ℕ → ℕ → ℕ → ℕ
unfolding seg_row
holder_from W at c i zero = i
holder_from W at c i (suc m) = elim (ltb c (seg_row W (at + (i + 1) * 5)).first) [ true ↦ i | false ↦ holder_from W at c (i + 1) m ]

-- the segment of a part that use number c belongs to
unfoldable pub holder : List ℕ → Layout → SetPart → ℕ → ℕ
unfolding holder_from
holder W lay sp c = holder_from W lay.segments.at c sp.seg (sp.last - sp.seg)

-- of use number c in the segment r
unfoldable pub turned_in : List ℕ → ℕ → List ℕ → Layout → PartSeg → ℕ → TurnedRow
unfolding marked_use param_here
turned_in K marks W lay r c = record {
  value = r.value;
  number = c;
  param = coded (param_here (marked_use K marks W lay c).pos (marked_use K marks W lay r.first));
}

-- of the use at place n of a part
unfoldable pub turned_row : List ℕ → ℕ → List ℕ → Layout → SetPart → ℕ → TurnedRow
unfolding turned_in part_row holder
turned_row K marks W lay sp n = turned_in K marks W lay (part_row W lay sp (holder W lay sp (sp.first + n))) (sp.first + n)

-- the turned use that a row stands for
unfoldable pub row_turned : List ℕ → ℕ → List ℕ → Layout → TurnedRow → Turned
unfolding marked_use
row_turned K marks W lay t = record { value = t.value; use' = marked_use K marks W lay t.number; param = param_by t.param }
