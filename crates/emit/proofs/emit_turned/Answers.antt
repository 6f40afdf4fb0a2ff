use mathlib.Core.Path.{refl}
use native.Mathlib.Omega.{arith}
use Rattle.words.specs.Laws.{length_words}
use Rattle.emit.proofs.Uses.{uses_start, uses_next, uses_all}
use Rattle.emit.proofs.Conflict.{turned_read}
use Rattle.emit.proofs.emit_turned.Goals as goal

pub loop-i-init : goal.loop-i-init
loop-i-init c = (uses_start _ _ _ _ _ _ _ _ c.requires.near, refl)

pub word_at-n-requires : goal.word_at-n-requires
word_at-n-requires c = omega (arith, c.requires.uses.0.within)

pub words_at-x-requires : goal.words_at-x-requires
words_at-x-requires c = let k = c.requires.uses.0.known _ (omega arith) c.loop-i-test.true in
    omega (arith, k, c.word_at-n.ensures, c.args.by.now.fr.now.job.fits.uses)

pub emit_use-s-requires : goal.emit_use-s-requires
emit_use-s-requires c = let l = c.loop-i.invariant in (omega (arith, l.1, c.use_base.ensures, c.requires.room.0, c.requires.room.1), l.0.near)

pub loop-i-preserved : goal.loop-i-preserved
loop-i-preserved c = let l = c.loop-i.invariant in
    let m = c.emit_use-s in
    let e = m.ensures in
    let x = turned_read _ _ _ _ _ _ _ c.word_at-n.ensures c.words_at-x.ensures in (
      uses_next _ _ _ _ _ _ _ _ _ _ _ _ _ _ _ l.0 (omega arith)
          (omega (arith, length_words c.loop-i.out, l.1, c.requires.room.0)) (omega (arith, c.requires.room.1))
          (omega (arith, c.use_base.ensures)) x e.0 e.1 (e.2 _ x (c.requires.uses.1 _ (omega arith) c.loop-i-test.true)),
      omega (arith, m.auto.out, l.1),
    )

pub returns : goal.returns
returns c = uses_all _ _ _ _ _ _ _ _ _ _ _ _ c.loop-i.invariant.0 (omega (arith, c.requires.uses.0.order)) c.loop-i-test.false
