use Rattle.set_part.proofs.CutsRead.{row_fits, row_past, row_behind, cut_across_read, cut_between_read}
use native.Mathlib.Omega.{arith}
use Rattle.set_part.proofs.cuts.cut_part.Goals as goal

pub overflow_mul-q : goal.overflow_mul-q
overflow_mul-q c = omega (arith, c.well_formed.1.1.0, c.requires.2)

pub cut_across-requires : goal.cut_across-requires
cut_across-requires c = let pre = c.requires in
    let k = c.first_past-k.ensures in
    let row = c.part_seg-row.ensures in
    let w = row_fits _ _ _ _ _ pre.0 k.1 k.2 row in
    (w.0, w.1, row_past _ _ _ _ _ _ pre.0 pre.2 k.0 row)

pub returns-then-row-q : goal.returns-then-row-q
returns-then-row-q c = let a = c.args in
    cut_across_read _ _ a.job.now.lay a.p a.sp _ _ _ c.first_past-k.ensures.0 c.part_seg-row.ensures c.if-row-q.true c.cut_across.ensures

pub overflow_sub-k : goal.overflow_sub-k
overflow_sub-k c = omega (arith, row_behind _ _ _ _ _ _ c.part_seg-row.ensures c.first_past-k.ensures.1 c.requires.1 c.if-row-q.false)

pub cut_between-requires : goal.cut_between-requires
cut_between-requires c = omega (arith, row_behind _ _ _ _ _ _ c.part_seg-row.ensures c.first_past-k.ensures.1 c.requires.1 c.if-row-q.false)

pub returns : goal.returns
returns c = let a = c.args in
    cut_between_read _ _ a.job.now.lay a.p a.sp _ _ _ c.first_past-k.ensures.0 c.part_seg-row.ensures _ c.part_seg-old.ensures c.if-row-q.false c.cut_between.ensures
