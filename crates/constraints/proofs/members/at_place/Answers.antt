use Rattle.constraints.proofs.Joining.{place_empty, place_taken}
use Rattle.constraints.proofs.members.at_place.Goals as goal

pub returns-in_err-class : goal.returns-in_err-class
returns-in_err-class c st h hs ec et = rw c.from_residual.ensures (place_empty _ _ h _ _ _ _ (c.member_at.ensures st hs) _ _ _ c.in_default.is et (c.narrowed_by.ensures st hs) c.in_err-class.was)

pub returns-in_default : goal.returns-in_default
returns-in_default c st h hs ec et = place_empty _ _ h _ _ _ _ (c.member_at.ensures st hs) _ _ _ c.in_default.is et (c.narrowed_by.ensures st hs) c.in_ok-class.was

pub returns-in_err-class-2 : goal.returns-in_err-class-2
returns-in_err-class-2 c st h hs ec et = rw c.from_residual-in_err-class-2.ensures (place_taken _ _ h _ _ _ _ (c.member_at.ensures st hs) _ _ hs _ _ _ _ c.in-Some.is ec (c.shared_class.ensures st hs) c.in_err-class-2.was)

pub returns : goal.returns
returns c st h hs ec et = place_taken _ _ h _ _ _ _ (c.member_at.ensures st hs) _ _ hs _ _ _ _ c.in-Some.is ec (c.shared_class.ensures st hs) c.in_ok-class-2.was
