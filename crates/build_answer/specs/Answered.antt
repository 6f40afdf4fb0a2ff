-- What a build leaves in the lent result tables, byte for byte, and answers. Assumes nothing.
use Rattle.std.specs.Prelude.{◌≡◌, min, List, ℕ, ◌+◌, ◌-◌, ◌*◌, ◌/◌, ◌≤◌, ◌<◌, length, replicate}
use Rattle.words.specs.Parts.{pad}
use Rattle.words.specs.Words.{words_of, bytes_of}
use Rattle.definition.specs.Types.{State, Out, done, refused, number_of}
use Rattle.definition.specs.Place.{empty, set_registers, set_groups}
use Rattle.definition.specs.Build.{Result}
use Rattle.virt_regs.specs.declared.OutLayout.{OutLayout}
use Rattle.virt_regs.specs.Encoding.{tables_end, Holds, tables, contents}
use Rattle.virt_regs.specs.View.{registers_in, groups_in}
use Rattle.build_answer.specs.declared.BuildEnd.{BuildEnd}
use mathlib.Core.List.{[], ◌∷◌}
use lib.ListN.{get_or}
use Rattle.words.specs.Tables.{Table, whole}

-- ---- the tables in a lent slice of n words, cut by the numbers of rows that the caller names: where the slice is too short, the tables have fewer rows

-- of the rows named, those for which there is room; and no more than a word counts
abbrev pub named_in : ℕ → ℕ → ℕ
named_in room a = min (min a 4294967294) room

-- of rows of k words, those that fit into n words
abbrev pub rows_in : ℕ → ℕ → ℕ → ℕ
rows_in n k a = named_in (n / k) a

-- of n words, each table in turn as many rows as are named and fit into what is left
abbrev pub cut_all : ℕ → List Table → List ℕ
cut_all n [] = []
cut_all n (t ∷ ts) = let r = rows_in n t.stride t.rows in r ∷ cut_all (n - r * t.stride) ts

abbrev pub layout_by : List ℕ → OutLayout
layout_by rs = record { regs = get_or rs 0 0; segs = get_or rs 1 0; uses = get_or rs 2 0; groups = get_or rs 3 0 }

unfoldable pub out_layout_of : ℕ → ℕ → ℕ → ℕ → ℕ → OutLayout
out_layout_of n a b c d = layout_by (cut_all n (tables (record { regs = a; segs = b; uses = c; groups = d })))

-- r are those tables: they lie in the slice, and a word counts the rows of each
pub record Cut (n a b c d : ℕ) (r : OutLayout) : Type 0 where
  pub is : r ≡ out_layout_of n a b c d
  pub fits : tables_end r ≤ n
  pub few_registers : r.regs < 4294967296
  pub few_segments : r.segs < 4294967296
  pub few_uses : r.uses < 4294967296
  pub few_groups : r.groups + 1 < 4294967296

-- ---- the content of the tables at exit

-- the state with a result's registers and groups
abbrev pub state_of : Result → State
state_of res = set_groups res.groups (set_registers res.registers empty)

-- the rows of registers, segments, uses and groups, zeros behind the rows of each table
unfoldable pub result_words : OutLayout → Result → List ℕ
result_words ol res = whole (tables ol) (contents (state_of res))

-- the bytes of a slice of n bytes: the result and zeros behind it; or zeros
unfoldable pub bytes_left : ℕ → OutLayout → Out Result → List ℕ
bytes_left n ol (done res) = pad n (bytes_of (result_words ol res))
bytes_left n ol (refused f) = replicate n 0

-- the answer: 0 and how many registers and groups; or the number alone
unfoldable pub end_left : Out Result → BuildEnd
end_left (done res) = record { number = 0; registers = length res.registers; groups = length res.groups }
end_left (refused f) = record { number = number_of f; registers = 0; groups = 0 }

-- A build of which o is the definition's answer ended with r and left the bytes x in a slice of n bytes with these tables. Where it is accepted, the rows can be read back.
pub record Answered (n : ℕ) (ol : OutLayout) (o : Out Result) (r : BuildEnd) (x : List ℕ) : Type 0 where
  pub end : r ≡ end_left o
  pub bytes : x ≡ bytes_left n ol o
  pub holds : (res : Result) → o ≡ done res → Holds ol (words_of x) (state_of res)

-- the result as a caller reads it from the bytes, by the tables that it lent and the counts that were answered
abbrev pub result_in : OutLayout → BuildEnd → List ℕ → Result
result_in ol r x = record { registers = registers_in ol (words_of x) r.registers; groups = groups_in ol (words_of x) r.groups }
