use mathlib.Core.Path.{refl, ◌∙◌}
use native.Mathlib.Omega.{arith}
use Rattle.vreg_weight.proofs.Sums.{options_are}
use Rattle.pieces.proofs.PartRows.{row_bounds}
use Rattle.emit.proofs.Pieces.{told_none}
use Rattle.emit.proofs.Parts.{told_start, told_next, told_room, told_all, fair_within}
use Rattle.emit.proofs.emit_part.Goals as goal

pub invariant_of-by : goal.invariant_of-by
invariant_of-by c = record { weighable = c.requires.fits.0; of_job = c.options_at-options.ensures ∙ options_are _ _ }

pub loop-i-init : goal.loop-i-init
loop-i-init c = (told_start _ _ _ _ _ _ _ _ _ _ (told_none _ _ _ _ _ _ _ c.no_pieces-t.ensures c.requires.near), refl)

pub overflow_sub-k : goal.overflow_sub-k
overflow_sub-k c = let t = row_bounds _ _ _ _ _ c.requires.fits.1 (omega arith) (omega arith) c.part_seg-s.ensures in
    omega (arith, t.0)

pub overflow_add-k : goal.overflow_add-k
overflow_add-k c = let t = row_bounds _ _ _ _ _ c.requires.fits.1 (omega arith) (omega arith) c.part_seg-s.ensures in
    omega (arith, t.0, t.1, t.2, c.requires.room.2)

pub emit_piece-t-requires : goal.emit_piece-t-requires
emit_piece-t-requires c = let q = c.requires in
    let l = c.loop-i.invariant in
    let t = row_bounds _ _ _ _ _ q.fits.1 (omega arith) (omega arith) c.part_seg-s.ensures in
    record {
      room = (omega (arith, l.1, q.fits.3), omega (arith, q.room.0), omega (arith, t.0, t.1, t.2, q.room.1), omega (arith, t.0, t.1, t.2, q.room.2));
      uses = record {
        order = t.1;
        within = omega (arith, t.2, q.fits.1.fits);
        marks = q.fits.2;
        inside = fair_within _ _ _ _ _ _ q.fits.1 q.fair _ _ t.0 t.2;
      };
      before = (l.0.near, told_room _ _ _ _ _ _ q.fits.1 q.fair _ _ _ _ _ _ _ _ (omega arith) (omega arith) l.0 c.part_seg-s.ensures);
    }

pub loop-i-preserved : goal.loop-i-preserved
loop-i-preserved c = let l = c.loop-i.invariant in
    let m = c.emit_piece-t in
    (told_next _ _ _ _ _ c.requires.fits.1 (omega arith) (omega arith) _ _ _ _ _ _ _ _ _ _ _ l.0 c.part_seg-s.ensures refl m.ensures, omega (arith, m.auto.out, l.1))

pub returns : goal.returns
returns c = told_all _ _ _ _ _ _ _ _ _ _ _ _ _ c.loop-i.invariant.0 (omega arith) (omega arith)
