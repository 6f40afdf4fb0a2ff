use Rattle.constraints.proofs.Narrowing.{narrow_none, narrow_some}
use Rattle.constraints.proofs.members.narrow.Goals as goal

pub returns-in-None : goal.returns-in-None
returns-in-None c st h l = narrow_none _ _ _ _ c.in-None.is

pub returns-in-Some : goal.returns-in-Some
returns-in-Some c st h l = narrow_some _ _ _ _ _ _ c.in-Some.is l (c.shared_class.ensures st h)
