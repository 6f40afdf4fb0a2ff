-- The list of a part that is well formed. Assumes nothing.
use mathlib.Core.Path.{◌≡◌}
use mathlib.Core.List.{List}
use Prim.Native.Nat.{ℕ, ◌+◌, ◌*◌}
use Rattle.job.specs.declared.Layout.{Layout}
use Rattle.set_part.specs.declared.SetPart.{SetPart}
use Rattle.set_part.specs.Part.{PartOk}
use Rattle.set_part.proofs.Bounds.{first_le_end}
use Rattle.virt_regs.specs.declared.OutLayout.{OutLayout}
use Rattle.words.specs.Part.{part}
use Rattle.vreg_uses.specs.Shown.{part_list, Listed, shown_words}
use Rattle.vreg_uses.specs.Laws.{part_shown, part_listed}

module _ (W : List ℕ) (lay : Layout) (sp : SetPart) (ok : PartOk W lay sp) where
  pub ok_listed : (ol : OutLayout) → Listed lay ol (part_list sp)
  ok_listed ol = part_listed lay ol sp (first_le_end W lay sp ok) ok.fits

  -- the rows of uses `first` to `end` - 1 of the job
  pub ok_shown : (O : List ℕ) (ol : OutLayout) → shown_words W lay O ol (part_list sp) ≡ part (lay.uses.at + sp.first * 6) (lay.uses.at + sp.end * 6) W
  ok_shown O ol = part_shown W lay O ol sp (first_le_end W lay sp ok)
