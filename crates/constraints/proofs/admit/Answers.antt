use Rattle.constraints.proofs.Admitted.{by_any, by_class, by_group}
use Rattle.constraints.proofs.admit.Goals as goal

pub returns-in-Any : goal.returns-in-Any
returns-in-Any c st hs b = by_any _ st _ _ _ c.ask_of.ensures c.in-Any.is

pub returns-in-Class : goal.returns-in-Class
returns-in-Class c st hs b = by_class _ st _ _ _ c.ask_of.ensures _ _ c.in-Class.is c.admit_class.ensures

pub returns-in-Group : goal.returns-in-Group
returns-in-Group c st hs b = by_group _ st _ _ _ c.ask_of.ensures _ _ c.in-Group.is b (c.admit_group.ensures st hs)
