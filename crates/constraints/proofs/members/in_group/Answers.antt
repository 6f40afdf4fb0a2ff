use Rattle.constraints.proofs.Joining.{group_free, group_mapped}
use Rattle.constraints.proofs.members.in_group.Goals as goal

pub returns-in-None : goal.returns-in-None
returns-in-None c st h hs ec et = group_free _ _ h _ _ _ _ c.in-None.is et

pub returns-in-Some : goal.returns-in-Some
returns-in-Some c st h hs ec et = group_mapped _ _ h _ _ _ _ _ c.in-Some.is (c.at_place.ensures st h hs ec et)
