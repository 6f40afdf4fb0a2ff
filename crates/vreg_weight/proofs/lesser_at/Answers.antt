use Rattle.words.specs.Words.{words_of}
use Rattle.vreg_weight.proofs.Least.{lesser_empty, lesser_past, lesser_over, lesser_found}
use Rattle.vreg_weight.proofs.lesser_at.Goals as goal

pub returns-then-m-eq0 : goal.returns-then-m-eq0
returns-then-m-eq0 c = let a = c.args in lesser_empty a.ol (words_of a.out.now) _ _ c.if-m-eq0.true

pub returns-then-ol-m : goal.returns-then-ol-m
returns-then-ol-m c = let a = c.args in lesser_past a.ol (words_of a.out.now) _ _ c.if-ol-m.true

pub returns-then-bits-gt2139095040 : goal.returns-then-bits-gt2139095040
returns-then-bits-gt2139095040 c = let a = c.args in lesser_over a.ol (words_of a.out.now) _ _ _ c.weight_of-bits.ensures c.if-bits-gt2139095040.true

pub returns : goal.returns
returns c = let a = c.args in lesser_found a.ol (words_of a.out.now) _ _ _ _ c.if-m-eq0.false c.weight_of-bits.ensures c.lesser_bits-value.ensures.1
