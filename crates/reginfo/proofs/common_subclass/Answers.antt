use mathlib.Core.Path.{◌∙◌}
use Rattle.reginfo.proofs.Common.{common_of}
use Rattle.reginfo.proofs.common_subclass.Goals as goal

-- src/lib.rt:74:1
pub returns : goal.returns
returns c job e = c.lowest_common.ensures ∙ common_of _ _ _ _ _ _ _ c.mask_of.ensures c.mask_of-2.ensures job e
