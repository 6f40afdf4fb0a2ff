-- The job sheet: what bytes are one, and the job that it stands for. What is no sheet is refused by number 1:
-- "line not a record, unknown kind, wrong order, number form, choice off its list"; "A missing opt, bank, class, block or end, and a number above 4,294,967,295, are 1."
-- Assumes nothing.
use Rattle.std.specs.Prelude.{ℕ, ◌/◌, ◌%◌, Bool, true, false, ◌||◌, cond, List, [], ◌∷◌, map, eqb, length, get_or, drop, replicate, Float}
use Rattle.std.proofs.Math.Option.{Option, none, some}
use Rattle.std.specs.Float.{binary32}
use Rattle.std.specs.Float.Ieee.{of_bits}
use Rattle.definition.specs.Types.{Value, RegClass, PhysReg, UseKind, FixedDef, FixedUse, TiedUse, ConstraintConflict, ClassUse, ClassDef, GroupClassUse, GroupClassDef, BlockparamIn, BlockparamOut, Use, UseFlags, Options, BlockData, ClassData, Remat, Never, CheaperThanMove, CheaperThanLoad, Indirect, ValueData, Operand, Hint, Segment, Job, Room, NotARecord, Out, refused, inst, val, cls, point}
use Rattle.definition.specs.Build.{Result}
use Rattle.definition.specs.Entry.{answer}
use Rattle.definition.specs.Text.{bytes, same, ◌>>=◌, given, lines_of, fields_of, read_number, read_bits}

-- ---- the twelve records

-- "Job records, in this order": the word that a record begins with
pub data Word : Type 0 where
  opt bank class reg block value vgroup operand hint seg use' end : Word

abbrev pub spelling : Word → List ℕ
spelling opt = bytes "opt"
spelling bank = bytes "bank"
spelling class = bytes "class"
spelling reg = bytes "reg"
spelling block = bytes "block"
spelling value = bytes "value"
spelling vgroup = bytes "vgroup"
spelling operand = bytes "operand"
spelling hint = bytes "hint"
spelling seg = bytes "seg"
spelling use' = bytes "use"
spelling end = bytes "end"

-- a word's place in that order
abbrev pub word_number : Word → ℕ
word_number opt = 0
word_number bank = 1
word_number class = 2
word_number reg = 3
word_number block = 4
word_number value = 5
word_number vgroup = 6
word_number operand = 7
word_number hint = 8
word_number seg = 9
word_number use' = 10
word_number end = 11

abbrev pub all_words : List Word
all_words = opt ∷ bank ∷ class ∷ reg ∷ block ∷ value ∷ vgroup ∷ operand ∷ hint ∷ seg ∷ use' ∷ end ∷ []

-- the first of the words that a field spells
unfoldable pub word_among : List Word → List ℕ → Option Word
word_among [] f = none
word_among (w ∷ ws) f = elim (same f (spelling w)) [ true ↦ some w | false ↦ word_among ws f ]

-- ---- the fields of a record

-- The form of a field: a number up to a greatest one, a choice up to the last of its list; "masks and f32 bits".
pub data Form : Type 0 where
  up_to : ℕ → Form
  bits : Form

-- "a number above 4,294,967,295" is 1
abbrev pub number : Form
number = up_to 4294967295

-- spillslots, memory and incoming are 0 or 1; remat 0 to 3; flags 0 to 15; kinds 0 to 9
abbrev pub flag : Form
flag = up_to 1

abbrev pub remat : Form
remat = up_to 3

abbrev pub use_flags : Form
use_flags = up_to 15

abbrev pub use_kind : Form
use_kind = up_to 9

abbrev pub read_field : Form → List ℕ → Option ℕ
read_field (up_to most) f = read_number most f
read_field bits f = read_bits f

-- a field for each form, and none left over
unfoldable pub read_fields : List Form → List (List ℕ) → Option (List ℕ)
unfolding read_number read_bits
read_fields [] [] = some []
read_fields [] (f ∷ fs) = none
read_fields (m ∷ ms) [] = none
read_fields (m ∷ ms) (f ∷ fs) = read_field m f >>= λ n. read_fields ms fs >>= λ ns. some (n ∷ ns)

-- how many fields UseKind's kinds have, in its order
abbrev pub kind_fields : ℕ → ℕ
kind_fields k = get_or (1 ∷ 1 ∷ 4 ∷ 0 ∷ 2 ∷ 2 ∷ 3 ∷ 3 ∷ 1 ∷ 0 ∷ []) k 0

-- "use lines (kind, instruction, the kind's fields as in UseKind)"
unfoldable pub read_use : List (List ℕ) → Option (List ℕ)
unfolding read_number read_bits read_fields
read_use [] = none
read_use (f ∷ fs) = read_field use_kind f >>= λ k. read_fields (number ∷ replicate (kind_fields k) number) fs >>= λ ns. some (k ∷ ns)

unfoldable pub read_record : Word → List (List ℕ) → Option (List ℕ)
unfolding read_fields read_use
-- opt (weight adjust k; scales for cheaper-than-move, cheaper-than-load, indirect)
read_record opt fs = read_fields (number ∷ bits ∷ bits ∷ bits ∷ []) fs
-- bank (top class)
read_record bank fs = read_fields (number ∷ []) fs
-- class (subclass mask, cost, group size, spillslots 0/1)
read_record class fs = read_fields (bits ∷ bits ∷ number ∷ flag ∷ []) fs
-- reg (memory 0/1)
read_record reg fs = read_fields (flag ∷ []) fs
-- block (instruction count, frequency)
read_record block fs = read_fields (number ∷ bits ∷ []) fs
-- value (bank, leader, remat 0 none, 1 move, 2 load, 3 indirect)
read_record value fs = read_fields (number ∷ number ∷ remat ∷ []) fs
-- vgroup (members)
read_record vgroup fs = read_fields (replicate (length fs) number) fs
-- operand (instruction, slot, vgroup, class)
read_record operand fs = read_fields (number ∷ number ∷ number ∷ number ∷ []) fs
-- hint (value, instruction, 1 incoming/0 outgoing)
read_record hint fs = read_fields (number ∷ number ∷ flag ∷ []) fs
-- seg (value, from, to, flags)
read_record seg fs = read_fields (number ∷ number ∷ number ∷ use_flags ∷ []) fs
read_record use' fs = read_use fs
read_record end fs = read_fields [] fs

pub record Record : Type 0 where
  pub word : Word
  pub fields : List ℕ

-- "One record a line, fields parted by tabs"
unfoldable pub record_of : List ℕ → Option Record
unfolding fields_of word_among read_record
record_of l =
    let fs = fields_of l in
    word_among all_words fs.first >>= λ w. read_record w fs.rest >>= λ ns. some (record { word = w; fields = ns })

unfoldable pub records_of : List (List ℕ) → Option (List Record)
unfolding record_of
records_of [] = some []
records_of (l ∷ ls) = record_of l >>= λ r. records_of ls >>= λ rs. some (r ∷ rs)

-- ---- "Job records, in this order": one opt, at least one bank, class and block, a seg before its use lines, one end

-- which records may follow a record
abbrev pub next : Word → List Word
next opt = bank ∷ []
next bank = bank ∷ class ∷ []
next class = class ∷ reg ∷ block ∷ []
next reg = reg ∷ block ∷ []
next block = block ∷ value ∷ vgroup ∷ operand ∷ hint ∷ seg ∷ end ∷ []
next value = value ∷ vgroup ∷ operand ∷ hint ∷ seg ∷ end ∷ []
next vgroup = vgroup ∷ operand ∷ hint ∷ seg ∷ end ∷ []
next operand = operand ∷ hint ∷ seg ∷ end ∷ []
next hint = hint ∷ seg ∷ end ∷ []
next seg = seg ∷ use' ∷ end ∷ []
next use' = seg ∷ use' ∷ end ∷ []
next end = []

abbrev pub among : Word → List Word → Bool
among w [] = false
among w (v ∷ vs) = eqb (word_number w) (word_number v) || among w vs

-- the first argument has the records that may come next; where none may, the sheet ends
unfoldable pub ordered : List Word → List Record → Bool
ordered [] [] = true
ordered (w ∷ ws) [] = false
ordered ws (r ∷ rs) = elim (among r.word ws) [ true ↦ ordered (next r.word) rs | false ↦ false ]

-- the records of a sheet, or none where the bytes are no sheet
unfoldable pub sheet_of : List ℕ → Option (List Record)
unfolding lines_of records_of ordered
sheet_of bs = lines_of bs >>= λ ls. records_of ls >>= λ rs. given (ordered (opt ∷ []) rs) rs

-- ---- the job of the records

-- field i of a record
abbrev pub at : List ℕ → ℕ → ℕ
at ns i = get_or ns i 0

abbrev pub is_one : ℕ → Bool
is_one n = eqb n 1

unfoldable pub float : ℕ → Float
unfolding of_bits
float b = of_bits binary32 b

unfoldable pub options_of : List ℕ → Options
unfolding float
options_of ns = record {
  adjust = at ns 0;
  cheaper_than_move = float (at ns 1);
  cheaper_than_load = float (at ns 2);
  indirect = float (at ns 3);
}

unfoldable pub bank_of : List ℕ → RegClass
bank_of ns = cls (at ns 0)

unfoldable pub class_data_of : List ℕ → ClassData
unfolding float
class_data_of ns = record { mask = at ns 0; cost = float (at ns 1); size = at ns 2; spillslots = is_one (at ns 3) }

unfoldable pub memory_of : List ℕ → Bool
memory_of ns = is_one (at ns 0)

unfoldable pub block_data_of : List ℕ → BlockData
unfolding float
block_data_of ns = record { insts = at ns 0; frequency = float (at ns 1) }

-- "remat 0 none, 1 move, 2 load, 3 indirect"
abbrev pub remat_of : ℕ → Remat
remat_of n = get_or (Never ∷ CheaperThanMove ∷ CheaperThanLoad ∷ Indirect ∷ []) n Never

unfoldable pub value_data_of : List ℕ → ValueData
value_data_of ns = record { bank = record { 0 = at ns 0 }; leader = val (at ns 1); remat = remat_of (at ns 2) }

unfoldable pub vgroup_of : List ℕ → List Value
vgroup_of ns = map val ns

unfoldable pub operand_of : List ℕ → Operand
operand_of ns = record { inst = inst (at ns 0); slot = at ns 1; vgroup = record { 0 = at ns 2 }; class = cls (at ns 3) }

unfoldable pub hint_of : List ℕ → Hint
hint_of ns = record { value = val (at ns 0); inst = inst (at ns 1); incoming = is_one (at ns 2) }

-- "Flags: 1 live-in, 2 live-out, 4 fixed hint, 8 fixed def."
unfoldable pub flags_of : ℕ → UseFlags
flags_of n = record { livein = is_one (n % 2); liveout = is_one (n / 2 % 2); fixedhint = is_one (n / 4 % 2); fixeddef = is_one (n / 8 % 2) }

abbrev pub reg_of : ℕ → PhysReg
reg_of n = record { 0 = n }

-- "Kinds 0 to 9 follow UseKind's order."
abbrev pub kinds : List ℕ → List UseKind
kinds ns =
    FixedDef (reg_of (at ns 0)) ∷ FixedUse (reg_of (at ns 0)) ∷ TiedUse (at ns 0) (at ns 1) (cls (at ns 2)) (at ns 3) ∷ ConstraintConflict
    ∷ ClassUse (at ns 0) (cls (at ns 1)) ∷ ClassDef (at ns 0) (cls (at ns 1))
    ∷ GroupClassUse (at ns 0) (cls (at ns 1)) (at ns 2) ∷ GroupClassDef (at ns 0) (cls (at ns 1)) (at ns 2)
    ∷ BlockparamIn (at ns 0) ∷ BlockparamOut ∷ []

unfoldable pub use_of : List ℕ → Use
use_of ns = record { pos = inst (at ns 1); kind = get_or (kinds (drop 2 ns)) (at ns 0) ConstraintConflict }

unfoldable pub segment_of : List ℕ → List Use → Segment
unfolding flags_of
segment_of ns us = record { value = val (at ns 0); «from» = point (at ns 1); to = point (at ns 2); flags = flags_of (at ns 3); uses = us }

-- the fields of the records with this word, in order
unfoldable pub only : Word → List Record → List (List ℕ)
only w [] = []
only w (r ∷ rs) = let q = only w rs in cond (eqb (word_number r.word) (word_number w)) (r.fields ∷ q) q

-- use lines that wait for their seg, and the segments behind them
pub record Segments : Type 0 where
  pub waiting : List Use
  pub made : List Segment

abbrev pub onto_segments : Word → List ℕ → Segments → Segments
onto_segments opt ns r = r
onto_segments bank ns r = r
onto_segments class ns r = r
onto_segments reg ns r = r
onto_segments block ns r = r
onto_segments value ns r = r
onto_segments vgroup ns r = r
onto_segments operand ns r = r
onto_segments hint ns r = r
onto_segments seg ns r = record { waiting = []; made = segment_of ns r.waiting ∷ r.made }
onto_segments use' ns r = record { waiting = use_of ns ∷ r.waiting; made = r.made }
onto_segments end ns r = r

-- "seg (value, from, to, flags), each followed by its use lines"
unfoldable pub segments_of : List Record → Segments
unfolding segment_of use_of
segments_of [] = record { waiting = []; made = [] }
segments_of (r ∷ rs) = onto_segments r.word r.fields (segments_of rs)

unfoldable pub job_of_records : List Record → Job
unfolding only options_of bank_of class_data_of memory_of block_data_of value_data_of vgroup_of operand_of hint_of segments_of
job_of_records rs = record {
  options = options_of (get_or (only opt rs) 0 []);
  banks = map bank_of (only bank rs);
  classes = map class_data_of (only class rs);
  memory = map memory_of (only reg rs);
  blocks = map block_data_of (only block rs);
  values = map value_data_of (only value rs);
  vgroups = map vgroup_of (only vgroup rs);
  operands = map operand_of (only operand rs);
  hints = map hint_of (only hint rs);
  segments = (segments_of rs).made;
}

-- the job that a sheet stands for
unfoldable pub job_of_sheet : List ℕ → Option Job
unfolding sheet_of job_of_records
job_of_sheet bs = sheet_of bs >>= λ rs. some (job_of_records rs)

abbrev pub answer_or_one : Option Job → Room → Out Result
answer_or_one none room = refused NotARecord
answer_or_one (some job) room = answer job room

-- "Tests 1 to 7 go by number, lowest first". This is the answer to a sheet of the first form; specs/SheetForms has that to either.
unfoldable pub sheet_answer : List ℕ → Room → Out Result
unfolding job_of_sheet answer
sheet_answer bs room = answer_or_one (job_of_sheet bs) room
