use Rattle.vreg_weight.proofs.Least.{other_self, other_member}
use Rattle.vreg_weight.proofs.lesser_other.Goals as goal

pub returns-then-i-j : goal.returns-then-i-j
returns-then-i-j c = other_self _ _ _ _ _ _ c.if-i-j.true

pub returns : goal.returns
returns c = other_member _ _ _ _ _ _ _ _ c.if-i-j.false c.requires.2 c.member_at.ensures c.lesser_at.ensures
