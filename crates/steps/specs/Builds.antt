-- What the builder needs of an accepted job and of the result tables, beside the parts of the work slice. Assumes nothing.
use Rattle.std.specs.Prelude.{ℕ, ◌+◌, ◌*◌, ◌^◌, ◌≤◌, ◌<◌, List}
use Rattle.definition.specs.declared.RegClass.{RegClass}
use Rattle.definition.specs.RegInfo.{class_at}
use Rattle.definition.proofs.Admission.{Sizes, UseFits}
use Rattle.definition.proofs.Classes.{Masks}
use Rattle.uses.specs.Rows.{use_row}
use Rattle.job.specs.declared.Layout.{Layout}
use Rattle.job.specs.Job.{job_of}
use Rattle.virt_regs.specs.declared.OutLayout.{OutLayout}
use Rattle.virt_regs.specs.Encoding.{tables_end}
use Rattle.vreg_weight.specs.Book.{SmallBook}

-- The job of the words W passes the entry rules; the result tables lie in o words, and their rows are counted by words.
pub record Builds (o : ℕ) (W : List ℕ) (lay : Layout) (ol : OutLayout) : Type 0 where
  pub book : SmallBook W lay
  pub masks : Masks (job_of W lay)
  pub sizes : Sizes (job_of W lay)
  pub widths : (c : RegClass) → (class_at (job_of W lay) c).size ≤ 8
  pub kinds : (n : ℕ) → n < lay.uses.n → UseFits (job_of W lay) (use_row W (lay.uses.at + n * 6))
  pub long : tables_end ol ≤ o
  pub regs : ol.regs < 2 ^ 32
  pub segs : ol.segs < 2 ^ 32
  pub uses : ol.uses < 2 ^ 32
  pub groups : ol.groups + 1 < 2 ^ 32
