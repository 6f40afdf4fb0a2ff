-- That the mapping stands apart from the operands' index, of the frame. Maps has it of layouts. Assumes nothing.
use Rattle.std.specs.Prelude.{}
use Rattle.frame.specs.declared.lent.Frame.{Frame}
use Rattle.pieces.specs.Maps as maps

-- the mapping stands apart from the operands' index
abbrev pub MapApart : Frame → Type 0
MapApart fr = maps.MapApart fr.job.lay fr.wl
