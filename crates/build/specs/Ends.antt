-- What a build answers by how its sets ended, and the tables that it starts with. Assumes nothing.
use Rattle.std.specs.Prelude.{◌≡◌, List, ℕ, ◌+◌, ◌*◌, ◌<◌, length, replicate}
use Rattle.virt_regs.specs.declared.OutLayout.{OutLayout}
use Rattle.virt_regs.specs.declared.Counts.{Counts}
use Rattle.virt_regs.specs.Encoding.{tables_end}
use Rattle.placing.specs.declared.end.NotPlaced.{NotPlaced}
use Rattle.placing.specs.declared.end.NotPlaced.TheVariants.{Stopped, Full}
use Rattle.build_answer.specs.declared.BuildEnd.{BuildEnd}

-- the number of the refusal
abbrev pub end_number : NotPlaced → ℕ
end_number (Stopped s) = 8
end_number Full = 9

-- number 0 and how many registers and groups
abbrev pub built_end : Counts → BuildEnd
built_end c = record { number = 0; registers = c.regs; groups = c.groups }

-- the number alone
abbrev pub refused_end : ℕ → BuildEnd
refused_end number = record { number = number; registers = 0; groups = 0 }

-- the bytes s are just the tables, all zero, and a word counts the rows of each
pub record Cleared (ol : OutLayout) (s : List ℕ) : Type 0 where
  pub long : length s ≡ tables_end ol * 4
  pub zeros : s ≡ replicate (length s) 0
  pub regs : ol.regs < 4294967296
  pub segs : ol.segs < 4294967296
  pub uses : ol.uses < 4294967296
  pub groups : ol.groups + 1 < 4294967296
