-- The records that are left at a cursor, and their text in a form. Assumes nothing.
use Rattle.std.specs.Prelude.{◌≡◌, ◌⊎◌, Bool, true, false, List, [], ◌∷◌, ◌++◌, ℕ, ◌+◌, ◌≤◌, ◌<◌, length}
use Rattle.definition.specs.Types.{Job}
use Rattle.definition.specs.JobSheet.{Word, opt, bank, class, reg, block, value, vgroup, operand, hint, seg, use', end}
use Rattle.definition.specs.JobSheet.{word_number, Record, at, only, ordered}
use Rattle.definition.specs.Conversion.{lines_text, grown}
use Rattle.values.specs.ValueRows.{values_at}
use Rattle.sheet_rules.specs.Places.{limit_of, row_at}
use Rattle.sheet_laws.specs.Stands.{Row, Stands}
use Rattle.sheet_laws.specs.Choices.{Chosen}
use Rattle.lines.specs.Records.{Long}
use Rattle.job_pages.specs.Cursors.{Cursor, shown_row, rows_in, front_text}

-- ---- what is known of a record of a sheet that passes

-- no more than eight members
abbrev pub Grouped : Word → List ℕ → Type 0
Grouped vgroup ns = length ns ≤ 8
Grouped w ns = Unit {0}

pub record Fair (w : Word) (ns : List ℕ) : Type 0 where
  pub long : Long w ns
  pub chosen : Chosen w ns
  pub grouped : Grouped w ns

module _ (P : Word → List ℕ → Type 0) where
  abbrev pub Each : List Record → Type 0
  Each [] = Unit {0}
  Each (r ∷ rs) = P r.word r.fields × Each rs

-- the instructions of some numbers of a block's fields
abbrev pub insts_in : List (List ℕ) → ℕ
insts_in [] = 0
insts_in (ns ∷ nss) = at ns 0 + insts_in nss

-- the first record is the table's opt
abbrev pub OptStands : List ℕ → ℕ → List Record → Type 0
OptStands T i [] = Unit {0}
OptStands T i (r ∷ rs) = (u : ℕ) → Row T 0 i r.fields u

-- ---- which records may come at a cursor that stands at a kind

abbrev pub later : Word → List Word
later opt = []
later bank = class ∷ reg ∷ block ∷ value ∷ vgroup ∷ operand ∷ hint ∷ seg ∷ end ∷ []
later class = reg ∷ block ∷ value ∷ vgroup ∷ operand ∷ hint ∷ seg ∷ end ∷ []
later reg = block ∷ value ∷ vgroup ∷ operand ∷ hint ∷ seg ∷ end ∷ []
later block = value ∷ vgroup ∷ operand ∷ hint ∷ seg ∷ end ∷ []
later value = vgroup ∷ operand ∷ hint ∷ seg ∷ end ∷ []
later vgroup = operand ∷ hint ∷ seg ∷ end ∷ []
later operand = hint ∷ seg ∷ end ∷ []
later hint = seg ∷ end ∷ []
later seg = end ∷ []
later use' = seg ∷ end ∷ []
later end = []

-- ---- the records left

-- at a cursor that stands at kind w, in a table of the words T
pub record Going (T : List ℕ) (job : Job) (c : Cursor) (rs : List Record) : Type 0 where
  pub kind : Word
  pub key : c.key ≡ word_number kind
  -- how many rows of each kind are printed
  pub rows : ℕ → ℕ
  pub stands : Stands T rows rs
  pub opt_stands : kind ≡ opt → OptStands T (shown_row c) rs
  pub counts : (w : Word) → 1 ≤ word_number w → word_number w ≤ 10
      → rows_in T (word_number w) ≡ rows (word_number w) + length (only w rs)
  pub few : (w : Word) → 1 ≤ word_number w → word_number w ≤ 10 → rows_in T (word_number w) ≤ limit_of (word_number w)
  pub order : ordered (kind ∷ later kind) rs ≡ true
  pub row : shown_row c ≡ rows (word_number kind)
  pub last : kind ≡ end → shown_row c ≡ 0
  pub low : c.row ≤ 1024
  pub segs : c.segs ≡ rows 9
  pub uses : c.uses ≡ rows 10
  pub fresh : (k : ℕ) → word_number kind < k → k ≤ 11 → (k ≡ 9 → ⊥) → (k ≡ 10 → ⊥) → rows k ≡ 0
  pub fair : Each Fair rs
  pub insts : c.insts + insts_in (only block rs) ≤ 4096
  pub values : job.values ≡ values_at T (row_at 5 0) (rows_in T 5)

pub record Over (c : Cursor) (rs : List Record) : Type 0 where
  pub key : c.key ≡ 12
  pub none_left : rs ≡ []

abbrev pub Left : List ℕ → Job → Cursor → List Record → Type 0
Left T job c rs = Going T job c rs ⊎ Over c rs

-- ---- their text

-- records of the first form, behind n instructions, as a form has them
abbrev pub in_form : Bool → ℕ → Job → List Record → List Record
in_form true n job rs = grown n job rs
in_form false n job rs = rs

unfoldable pub text_left : Bool → Job → Cursor → List Record → List ℕ
unfolding front_text lines_text grown
text_left second job c rs = front_text second c.key ++ lines_text second (in_form second c.insts job rs)
