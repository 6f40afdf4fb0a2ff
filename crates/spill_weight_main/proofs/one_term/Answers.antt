use mathlib.Core.Path.{ap, ◌∙◌}
use lib.Ieee.{Float}
use Rattle.definition.specs.RegInfo.{zero_f}
use Rattle.spill_weight_main.specs.Terms.{add_term}
use Rattle.spill_weight_main.proofs.Terms.{weighed}
use Rattle.spill_weight_main.proofs.one_term.Goals as goal

-- `spill_weight_main::one_term` meets its contract. Assumes nothing.

pub returns : goal.returns
returns c = let a = c.args in
    weighed (add_term zero_f a.cost a.freq) a.insts 0 a.spillslots
    (c.add_term-sum.ensures ∙ ap (λ (x : Float). add_term x a.cost a.freq) c.zero.ensures) c.weight.ensures.0 c.bits_of.ensures.0
