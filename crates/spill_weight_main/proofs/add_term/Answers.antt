use Rattle.spill_weight_main.proofs.Terms.{read_plain, added}
use Rattle.spill_weight_main.proofs.add_term.Goals as goal

pub invariant_of-cost : goal.invariant_of-cost
invariant_of-cost c = record { plain = read_plain _ _ c.requires.0 c.float_of.ensures.0 }

pub invariant_of-freq : goal.invariant_of-freq
invariant_of-freq c = record { plain = read_plain _ _ c.requires.1 c.float_of-2.ensures.0 }

pub returns : goal.returns
returns c = let a = c.args in
    added a.sum.value a.cost a.freq c.float_of.ensures.0 c.float_of-2.ensures.0 c.add_cost.ensures
