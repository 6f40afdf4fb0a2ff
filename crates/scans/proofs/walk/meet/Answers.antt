use mathlib.Core.Path.{refl}
use Rattle.scans.proofs.Admitting.{meets_any, meets_group, meets_class, meets_refused}
use Rattle.scans.proofs.walk.meet.Goals as goal

pub returns-in-Any : goal.returns-in-Any
returns-in-Any c = meets_any _ _ _ _ c.asked_at.ensures _ refl c.requires.2 c.in-Any.is

pub returns-in-Group : goal.returns-in-Group
returns-in-Group c = meets_group _ _ _ _ c.asked_at.ensures

pub returns-in-Some : goal.returns-in-Some
returns-in-Some c = meets_class _ _ _ _ c.asked_at.ensures _ c.in-Class.is _ c.narrowed.ensures _ c.in-Some.is

pub returns-in-None : goal.returns-in-None
returns-in-None c = meets_refused _ _ _ _ c.asked_at.ensures _ c.in-Class.is _ c.narrowed.ensures c.in-None.is
