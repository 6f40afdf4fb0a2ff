use Rattle.constraints.proofs.Places.{place_word_lem, no_place, no_group, mapped_is, reg_read}
use mathlib.Core.Path.{ap}
use native.Mathlib.Omega.{arith}
use Rattle.definition.specs.Types.{vreg}
use Rattle.constraints.proofs.members.member_at.Goals as goal

pub returns-then-ol-k : goal.returns-then-ol-k
returns-then-ol-k c st h = no_group _ _ st h _ _ (omega arith)

pub returns-then-i-ge-MAX_GROUP : goal.returns-then-i-ge-MAX_GROUP
returns-then-i-ge-MAX_GROUP c st h = no_place _ _ st h _ _ (omega arith)

pub returns : goal.returns
returns c st h = reg_read _ _ _ _ c.number_in.ensures (mapped_is _ _ _ c.map.ensures.cases (λ x y l. ap vreg l)) (place_word_lem _ _ st h _ _ _ (omega arith) (omega arith) c.member_at-w.ensures)
