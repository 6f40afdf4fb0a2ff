use native.Mathlib.Omega.{arith}
use mathlib.Core.Path.{sym, ◌∙◌}
use Rattle.constraints.proofs.Operand.{job_blocks}
use Rattle.scans.proofs.Uses.{pos_within}
use Rattle.scans.proofs.Steps.{part_start, part_end, part_cut}
use Rattle.scans.proofs.part_at.Goals as goal

pub returns-then-is_def : goal.returns-then-is_def
returns-then-is_def c a b h ls ms le me = part_start _ _ _ a b _ _ ls ms le me _ _ c.marked_use-x.ensures c.marked_use-y.ensures _ _
    (sym c.eq.ensures ∙ c.if-eq.true) c.is_def.ensures c.if-is_def.true
    (c.turn_at.ensures a b h ls ms)

pub returns-then-eq : goal.returns-then-eq
returns-then-eq c a b h ls ms le me = part_end _ _ _ a b _ _ ls ms le me _ _ c.marked_use-x.ensures c.marked_use-y.ensures _ _
    (sym c.eq.ensures ∙ c.if-eq.true) c.is_def.ensures c.if-is_def.false
    (c.turn_at-then-eq.ensures a b h le me)

pub cut_at-requires : goal.cut_at-requires
cut_at-requires c = let r = c.requires.0 in
    let px = pos_within _ _ _ c.args.fr.now.job.lay _ _ _ c.marked_use-x.ensures (r.within c.requires.3 _ c.requires.1) in
    let py = pos_within _ _ _ c.args.fr.now.job.lay _ _ _ c.marked_use-y.ensures (r.within c.requires.3 _ c.requires.2) in
    (r, omega (arith, r.few_insts, px, py), omega (arith, px, py))

pub returns : goal.returns
returns c a b h ls ms le me = part_cut _ _ _ a b _ _ ls ms le me _ _ c.marked_use-x.ensures c.marked_use-y.ensures _ _
    (sym c.eq.ensures ∙ c.if-eq.false) (job_blocks _ _) c.cut_at.ensures h
