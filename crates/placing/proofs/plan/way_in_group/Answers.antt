use Rattle.placing.proofs.Ways.{to_join, to_overlap, to_merge}
use Rattle.placing.proofs.plan.way_in_group.Goals as goal

pub returns-in-None : goal.returns-in-None
returns-in-None c = λ twice st ps h l m. to_join twice _ _ st ps _ c.in-None.is

pub returns-in-None-find_place : goal.returns-in-None-find_place
returns-in-None-find_place c = λ twice st ps h l m. to_overlap twice _ _ st ps _ _ c.in-Some.is _ m _ (c.find_place.ensures st h (l _ c.in-Some.is)) c.in-None-find_place.is

pub returns-in-Some-find_place : goal.returns-in-Some-find_place
returns-in-Some-find_place c = λ twice st ps h l m. to_merge twice _ _ st ps _ _ c.in-Some.is _ m _ (c.find_place.ensures st h (l _ c.in-Some.is)) _ c.in-Some-find_place.is
