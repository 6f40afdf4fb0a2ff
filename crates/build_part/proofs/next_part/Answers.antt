use mathlib.Core.Path.{refl, ap, ◌∙◌}
use Rattle.build_part.proofs.Cuts.{front_asked}
use Rattle.build_part.specs.Turning.{settled_of}
use Rattle.build_part.specs.Steps.{NextIs, NextOr}
use Rattle.build_part.proofs.next_part.Goals as goal

pub cut_front-f-requires : goal.cut_front-f-requires
cut_front-f-requires c = let s = c.requires.2 in
    front_asked c.requires.0.1 s.0 _ _ (c.requires.3 s.0 s.1 ∙ ap (settled_of _) c.in-Cut.is) _ _ c.requires.1

pub returns-in-Whole : goal.returns-in-Whole
unfolding NextOr NextIs
returns-in-Whole c = (refl, λ st h. c.requires.3 st h ∙ ap (settled_of _) c.in-Whole.is)

pub returns-in-Cut : goal.returns-in-Cut
unfolding NextOr NextIs
returns-in-Cut c = let f = c.cut_front-f.ensures in record {
  at = c.in-Cut.p;
  moves = λ st h. c.requires.3 st h ∙ ap (settled_of _) c.in-Cut.is;
  left = f.parts.0;
  right = f.parts.1;
  holds = λ st h. f.top_held st h (c.requires.4 st h);
}

pub returns-in-Halt : goal.returns-in-Halt
unfolding NextOr
returns-in-Halt c = λ st h. c.requires.3 st h ∙ ap (settled_of _) c.in-Halt.is
