use Rattle.values.proofs.Members.{member_known}
use Rattle.values.proofs.member_at.Goals as goal

pub returns : goal.returns
returns c = member_known _ _ _ _ c.requires.2 c.word_at.ensures
