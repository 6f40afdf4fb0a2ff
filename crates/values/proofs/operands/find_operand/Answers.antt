use Rattle.values.proofs.Search.{head_word, head_less, from_last}
use Rattle.values.proofs.operands.find_operand.Goals as goal

pub find_from-requires : goal.find_from-requires
find_from-requires c = head_less _ _ _ c.args.index.now.chained _ _ c.requires c.word_at-head.ensures

pub returns : goal.returns
returns c = from_last _ c.args.index.now.chains _ _ _ _ _ (head_word _ _ _ c.args.index.now.chained _ _ c.requires c.word_at-head.ensures) c.find_from.ensures
