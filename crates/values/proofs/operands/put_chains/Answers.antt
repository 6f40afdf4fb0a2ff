use native.Mathlib.Omega.{arith}
use Rattle.values.proofs.Rows.{inst_word}
use Rattle.values.proofs.Turns.{link_start, link_next, link_done, row_under}
use Rattle.values.proofs.operands.put_chains.Goals as goal

pub loop-k-init : goal.loop-k-init
loop-k-init c = link_start _ _ _ _ (omega arith) c.clear_words.ensures

pub link-requires : goal.link-requires
link-requires c = (omega arith, row_under c.args.t.now c.args.c c.loop-k.k _ c.requires.1 (omega arith) c.word_at-i.ensures, c.requires.0.apart, omega arith, c.requires.0.small)

pub loop-k-preserved : goal.loop-k-preserved
loop-k-preserved c = let w = c.word_at-i.ensures in
    let m = c.link in
    link_next c.loop-k.invariant (omega arith) c.requires.0.apart (omega arith) (inst_word _ _ _ _ _ (omega arith) w) (row_under c.args.t.now c.args.c c.loop-k.k _ c.requires.1 (omega arith) w) m.ensures m.auto.work

pub returns : goal.returns
returns c = let b = link_done c.args.work.now c.loop-k.invariant (omega arith) c.requires.0.apart (omega arith) c.clear_words.ensures in
    record { work_after = b.is; chained = b.holds }
