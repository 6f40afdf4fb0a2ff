-- Where the parts of the work slice lie. Assumes nothing.
use Rattle.std.specs.Prelude.{ℕ, ◌+◌, ◌-◌, ◌*◌, ◌≤◌, ◌≡◌}
use Rattle.values.specs.declared.operands.Chains.{Chains}
use Rattle.job.specs.declared.Layout.{Layout}
use Rattle.job.specs.declared.work.WorkLayout.{WorkLayout}

-- the words of a work slice that has room for every job within the limits: 4,096 + 1,024 + 1,024 + 1,026 + 4,096 + 16,384
abbrev pub max_work : ℕ
max_work = 27650

-- of n instructions
unfoldable pub work_layout_of : Layout → ℕ → WorkLayout
work_layout_of lay n = record {
  heads = 0;
  nexts = n;
  mapping = n + lay.operands.n;
  starts = n + lay.operands.n + lay.operands.n;
  marks = n + lay.operands.n + lay.operands.n + lay.blocks.n * 2 + 2;
  turned = n + lay.operands.n + lay.operands.n + lay.blocks.n * 2 + 2 + lay.uses.n;
}

-- the parts follow each other, each with room for what is in it, and end within w words
pub record Regions (w : ℕ) (lay : Layout) (n : ℕ) (wl : WorkLayout) : Type 0 where
  pub heads : wl.heads + n ≡ wl.nexts
  pub nexts : wl.nexts + lay.operands.n ≡ wl.mapping
  pub mapping : wl.mapping + lay.operands.n ≡ wl.starts
  pub starts : wl.starts + lay.blocks.n * 2 + 2 ≡ wl.marks
  pub marks : wl.marks + lay.uses.n ≡ wl.turned
  pub turned : wl.turned + lay.uses.n * 4 ≤ w

-- the index of the operands: a head for each word before the nexts
abbrev pub chains_in : Layout → WorkLayout → Chains
chains_in lay wl = record { at = lay.operands.at; count = lay.operands.n; heads = wl.heads; nexts = wl.nexts; insts = wl.nexts - wl.heads }
