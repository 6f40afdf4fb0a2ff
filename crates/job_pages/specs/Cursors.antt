-- The cursor in a table of job records: what it stands at, and where it goes. Assumes nothing.
use Rattle.std.specs.Prelude.{◌≡◌, refl, Bool, true, false, cond, ◌||◌, List, [], ℕ, ◌+◌, ◌-◌, ◌*◌, ltb, eqb, get_or}
use Rattle.std.specs.Prelude.{Option, Some, None, is_some}
use Rattle.definition.specs.Types.{Job, val}
use Rattle.definition.specs.RegInfo.{set_of}
use Rattle.definition.specs.SheetForms.{form_line}
use Rattle.sheet_rules.specs.Places.{stored_of}
use Rattle.sheet_job.specs.Segments.{next_first}
use Rattle.register_sheet.specs.Typed.{use_length}
use Rattle.sheet_rules.specs.declared.forms.Kind.{Kind}
use Rattle.sheet_rules.specs.declared.forms.Kind.TheVariants.{Opt}
use Rattle.sheet_rules.specs.Kinds.{key_number}
use Rattle.job_pages.specs.declared.Cursor.{Cursor as Held}

-- a cursor with its kind as a number, 12 behind the end
pub record Cursor : Type 0 where
  pub key : ℕ
  pub row : ℕ
  pub segs : ℕ
  pub uses : ℕ
  pub insts : ℕ

abbrev pub cursor_of : Held → Cursor
cursor_of c = record { key = key_number c.key; row = c.row; segs = c.segs; uses = c.uses; insts = c.insts }

-- a kind's number is not 12
pub some_key : (k : Option Kind) → is_some k ≡ true → eqb (key_number k) 12 ≡ false
some_key None e = cc
some_key (Some Opt) e = refl
some_key (Some k) e = refl

pub none_key : (k : Option Kind) → is_some k ≡ false → key_number k ≡ 12
none_key None e = refl
none_key (Some k) e = cc

abbrev pub cursor : ℕ → ℕ → ℕ → ℕ → ℕ → Cursor
cursor k r s u n = record { key = k; row = r; segs = s; uses = u; insts = n }

-- before the first line
abbrev pub at_start : Cursor
at_start = record { key = 0; row = 0; segs = 0; uses = 0; insts = 0 }

-- the row of its kind's table that a cursor stands at
unfoldable pub shown_row : Cursor → ℕ
shown_row c = cond (eqb c.key 9) c.segs (cond (eqb c.key 10) c.uses c.row)

-- how many records of a kind the table has
abbrev pub rows_in : List ℕ → ℕ → ℕ
rows_in T k = get_or T (k - 1) 0

-- whether a record of its kind comes next; there is one opt and one end
unfoldable pub has_row : List ℕ → Cursor → Bool
unfolding shown_row next_first
has_row T c =
    cond (eqb c.key 0) true
    (cond (ltb 10 c.key) true
    (cond (eqb c.key 10) (ltb c.uses (next_first T c.segs)) (ltb (shown_row c) (rows_in T c.key))))

-- the next kind; behind the uses of a segment come segments again, and behind all of these the end
unfoldable pub passed_on : Cursor → Cursor
passed_on c = record {
  key = cond (eqb c.key 10) 9 (cond (eqb c.key 9) 11 (c.key + 1));
  row = 0;
  segs = c.segs;
  uses = c.uses;
  insts = c.insts;
}

-- how many fields the record has whose row begins at word w, and the word of the first one
unfoldable pub field_count : List ℕ → ℕ → ℕ → ℕ
field_count T key w =
    cond (eqb key 6) (get_or T w 0) (cond (eqb key 10) (use_length (get_or T w 0)) (stored_of key))

unfoldable pub first_field : ℕ → ℕ → ℕ
first_field key w = cond (eqb key 6) (w + 1) w

-- the field that the second form has behind the record whose row begins at word w
unfoldable pub written_by : Bool → List ℕ → Job → Cursor → ℕ → Option ℕ
written_by second T job c w =
    cond second
    (cond (eqb c.key 4) (Some c.insts) (cond (eqb c.key 9) (Some (set_of job (val (get_or T w 0))).0) None)) None

-- the line of the form, before opt in the second form
unfoldable pub front_text : Bool → ℕ → List ℕ
front_text second key = cond second (cond (eqb key 0) form_line []) []

-- behind the record whose row begins at word w
unfoldable pub behind_row : List ℕ → Cursor → ℕ → Cursor
behind_row T c w = record {
  key = cond (eqb c.key 9) 10 (cond (eqb c.key 0) 1 (cond (eqb c.key 11) 12 c.key));
  row = cond (eqb c.key 0) 0 (cond (eqb c.key 9 || eqb c.key 10 || eqb c.key 11) c.row (c.row + 1));
  segs = cond (eqb c.key 9) (c.segs + 1) c.segs;
  uses = cond (eqb c.key 10) (c.uses + 1) c.uses;
  insts = cond (eqb c.key 4) (c.insts + get_or T w 0) c.insts;
}

-- how far a kind is from the end; uses stand before segments, since segments come again behind a segment's uses
unfoldable pub phase : ℕ → ℕ
phase key = cond (eqb key 9) 3 (cond (eqb key 10) 4 (cond (eqb key 11) 2 (13 - key)))

-- a number that falls with every step: segments and uses are counted apart, each other kind has at most 1,024 rows
unfoldable pub steps_left : Cursor → ℕ
unfolding phase
steps_left c = 3000 * (2000 - c.segs) + ((5000 - c.uses) + (phase c.key * 2000 - c.row))
