use Rattle.std.proofs.Common.{◌≡◌, length, replicate, ap, ◌∙◌, rules}
use Rattle.words.specs.Words.{words_of}
use Rattle.words.specs.Laws.{words_replicate}
use Rattle.words.proofs.span.clear.Goals as goal

pub returns-clause-zero_words : goal.returns-clause-zero_words
returns-clause-zero_words c = let z : c.fill.new.self ≡ replicate (length c.args.s.now) 0 = search rules in
    ap words_of z ∙ words_replicate (length c.args.s.now)
