use Rattle.convert.proofs.Home.{came_home}
use Rattle.convert.proofs.memory.comes_home.Goals as goal

pub returns : goal.returns
returns c = came_home _ _ c.form_of-second.ensures _ _ c.in_ok-m.ensures _ c.gets_back.ensures _ c.then_some.ensures
