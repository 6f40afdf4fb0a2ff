use native.Mathlib.Omega.{arith}
use mathlib.Core.Path.{refl}
use Rattle.build.proofs.All.{setting_start, setting_end}
use Rattle.build.proofs.sets.build_sets.Goals as goal

pub returns-then-lay-eq0 : goal.returns-then-lay-eq0
returns-then-lay-eq0 c = setting_end _ _ _ _ _ _ _ _ _ _ _ (setting_start _ _ _ _ _ _ _ _ _ c.requires) (omega arith) _ refl

pub invariant_of-lent : goal.invariant_of-lent
invariant_of-lent c = record { fits = (c.requires.onward (omega arith)).ready.fits }

pub each_set-requires : goal.each_set-requires
each_set-requires c = let f = c.frame_of.ensures in rw (f.job, f.out, f.work) c.requires

pub returns : goal.returns
returns c = let f = c.frame_of.ensures in rw (f.job, f.out, f.work) at c.each_set.ensures
