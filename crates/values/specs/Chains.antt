-- The index of the operands by instruction, in words of a work slice: for each instruction its last operand, for each operand the one before it at its instruction.
-- A word is 0, or an operand's number plus 1. Assumes nothing.
use Rattle.std.specs.Prelude.{ℕ, zero, suc, ◌+◌, ◌*◌, ◌≤◌, ◌<◌, ◌≡◌, Bool, true, false, List, eqb, length, get_or, set}
use Rattle.words.specs.Parts.{splice}
use Rattle.words.specs.Tab.{tab}
use Rattle.definition.specs.declared.Operand.{Operand}
use Rattle.values.specs.declared.operands.Chains.{Chains}
use Rattle.values.specs.OperandRows.{operands_at, op_at}

abbrev pub pick_n : Bool → ℕ → ℕ → ℕ
pick_n true x y = x
pick_n false x y = y

-- of the first n operands, the last one at instruction i: its number plus 1, or 0 where there is none
unfoldable pub last_before : List Operand → ℕ → ℕ → ℕ
last_before os zero i = 0
last_before os (suc k) i = pick_n (eqb (op_at os k).inst.0 i) (suc k) (last_before os k i)

-- the words for the first n operands
unfoldable pub heads_of : List Operand → ℕ → ℕ → List ℕ
heads_of os n insts = tab (λ i. last_before os n i) 0 insts

unfoldable pub nexts_of : List Operand → ℕ → List ℕ
nexts_of os n = tab (λ k. last_before os k (op_at os k).inst.0) 0 n

-- the work words W with these put in
unfoldable pub chains_of : List ℕ → Chains → List Operand → ℕ → List ℕ
chains_of W c os n = splice (splice W c.heads (heads_of os n c.insts)) c.nexts (nexts_of os n)

-- the operands that the index is over, in the words T of a job
abbrev pub operands_of : List ℕ → Chains → List Operand
operands_of T c = operands_at T c.at c.count

-- one operand more: it is the last of its instruction, and before it is the one that was
abbrev pub linked : List ℕ → Chains → ℕ → ℕ → List ℕ
linked W c k i = set (set W (c.nexts + k) (get_or W (c.heads + i) 0)) (c.heads + i) (k + 1)

-- the tables lie in the slices, t words of a job and w work words, and the two parts of the index apart
pub record Fits (t w : ℕ) (c : Chains) : Type 0 where
  pub rows : c.at + c.count * 4 ≤ t
  pub apart : c.heads + c.insts ≤ c.nexts
  pub work : c.nexts + c.count ≤ w
  pub small : c.count < 4294967295

-- every operand's instruction is below the bound
pub record Under (insts : ℕ) (os : List Operand) : Type 0 where
  pub under : (k : ℕ) → k < length os → (op_at os k).inst.0 < insts

-- the work words W hold the index of the operands os
pub record Chained (W : List ℕ) (c : Chains) (os : List Operand) : Type 0 where
  pub head : (i : ℕ) → i < c.insts → get_or W (c.heads + i) 0 ≡ last_before os (length os) i
  pub next : (k : ℕ) → k < length os → get_or W (c.nexts + k) 0 ≡ last_before os k (op_at os k).inst.0
