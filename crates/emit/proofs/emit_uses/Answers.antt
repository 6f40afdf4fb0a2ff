use mathlib.Core.Path.{refl}
use native.Mathlib.Omega.{arith}
use Rattle.words.specs.Laws.{length_words}
use Rattle.emit.proofs.Uses.{uses_start, uses_next, uses_all}
use Rattle.emit.proofs.emit_uses.Goals as goal

pub loop-i-init : goal.loop-i-init
loop-i-init c = (uses_start _ _ _ _ _ _ _ _ c.requires.near, refl, refl, omega arith)

pub marked_words-x-requires : goal.marked_words-x-requires
marked_words-x-requires c = let l = c.loop-i.invariant in
    let q = c.requires.uses in
    (omega (arith, l.2, c.args.by.now.fr.now.job.fits.uses, q.within), omega (arith, q.within, q.marks))

pub emit_use-s-requires : goal.emit_use-s-requires
emit_use-s-requires c = let l = c.loop-i.invariant in (omega (arith, l.1, l.3, c.requires.room.0, c.requires.room.1), l.0.near)

pub loop-i-preserved : goal.loop-i-preserved
loop-i-preserved c = let l = c.loop-i.invariant in
    let m = c.emit_use-s in
    let e = m.ensures in
    let x = c.marked_words-x.ensures _ _ _ l.2 refl in (
      uses_next _ _ _ _ _ _ _ _ _ _ _ _ _ _ _ l.0 (omega arith)
          (omega (arith, length_words c.loop-i.out, l.1, c.requires.room.0)) (omega (arith, c.requires.room.1))
          l.3 x e.0 e.1 (e.2 _ x (c.requires.uses.inside _ (omega arith) c.loop-i-test.true)),
      omega (arith, m.auto.out, l.1),
      omega (arith, l.2),
      omega (arith, l.3),
    )

pub returns : goal.returns
returns c = uses_all _ _ _ _ _ _ _ _ _ _ _ _ c.loop-i.invariant.0 (omega (arith, c.requires.uses.order)) c.loop-i-test.false
