use Rattle.std.proofs.Common.{rules, tests, arith}
use Rattle.words.specs.Words.{words_of}
use Rattle.vregs_write.proofs.Scans.{meets_all}
use Rattle.vregs_write.proofs.find.meets.Goals as goal

pub returns : goal.returns
returns c = let a = c.args in
    meets_all a.ol (words_of a.out.now) a.first a.count a.k a.a a.b (omega arith) c.any.ensures.ran (λ x t q k. search (rules, tests))
