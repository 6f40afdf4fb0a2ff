-- The operands that a lent index is over. Chains has them of words. Assumes nothing.
use Rattle.std.specs.Prelude.{List}
use Rattle.words.specs.Words.{words_of}
use Rattle.definition.specs.declared.Operand.{Operand}
use Rattle.values.specs.declared.operands.index.Index.{Index}
use Rattle.values.specs.Chains.{operands_of}

-- the operands that it is over
abbrev pub operands_in : Index → List Operand
operands_in x = operands_of (words_of x.job.now) x.chains
