use native.Mathlib.Omega.{arith}
use Rattle.words.specs.Laws.{length_words, words_small}
use Rattle.function.proofs.Made.{table_made}
use Rattle.find_cut.proofs.cut_by.Goals as goal

pub returns : goal.returns
returns c = let a = c.args in
    let q = c.requires in
    let e = c.put_starts.ensures in
    let small = words_small a.blocks.now (λ i. omega (arith, c.type_inv.blocks i)) in
    (c.cut.ensures _ (table_made _ _ _ _ e (omega (arith, length_words a.work.now)) small q.6) q.4, e)
