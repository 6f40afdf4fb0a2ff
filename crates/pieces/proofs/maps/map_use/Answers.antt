use Rattle.pieces.proofs.Operand.{maps_other, maps_group, slot_is, backed_group}
use Rattle.pieces.proofs.maps.map_use.Goals as goal

pub returns-in-None : goal.returns-in-None
returns-in-None c = maps_other _ _ _ _ _ _ _ c.group_slot.ensures c.in-None.is

pub map_operand-requires : goal.map_operand-requires
map_operand-requires c = (c.requires.0, backed_group _ c.args.u _ (slot_is c.args.u _ _ c.group_slot.ensures c.in-Some.is) c.requires.1)

pub returns-in-Some : goal.returns-in-Some
returns-in-Some c = maps_group _ _ _ _ _ c.args.u _ _ _ (slot_is c.args.u _ _ c.group_slot.ensures c.in-Some.is) c.map_operand.ensures
