use mathlib.Core.Path.{◌∙◌}
use Rattle.std.specs.Prelude.{not}
use Rattle.placing.proofs.Ways.{to_alone, to_group}
use Rattle.placing.proofs.plan.way.Goals as goal

pub way_in_group-requires : goal.way_in_group-requires
way_in_group-requires c = (c.requires.long, λ v e. c.requires.target _ v c.in-Some.is e)

pub returns-in-None : goal.returns-in-None
returns-in-None c = λ st ps h t m. to_alone _ st ps c.args.held.now c.in-None.is

pub returns-in-Some-mapped : goal.returns-in-Some-mapped
returns-in-Some-mapped c = λ st ps h t m. c.way_in_group.ensures (not c.args.free) st ps h (λ v e. t _ v c.in-Some.is e) m ∙ to_group _ st ps c.args.held.now _ c.in-Some.is _ c.in-Some-mapped.is

pub returns-in-None-mapped : goal.returns-in-None-mapped
returns-in-None-mapped c = λ st ps h t m. c.new_group.ensures st ps _ ∙ to_group _ st ps c.args.held.now _ c.in-Some.is _ c.in-None-mapped.is
