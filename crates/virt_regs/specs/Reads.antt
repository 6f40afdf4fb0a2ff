-- What words that hold a state say of its registers, pieces, uses and groups. Assumes nothing.
use Rattle.std.specs.Prelude.{◌≡◌}
use Rattle.std.proofs.Math.Path.{refl, ap}
use Rattle.std.proofs.Common.{sym, ◌∙◌}
use Rattle.std.proofs.Math.Option.{none, some}
use mathlib.Core.List.{List, [], ◌∷◌, ◌++◌, append_assoc}
use Prim.Native.Nat.{ℕ, suc, ◌+◌, ◌-◌, ◌*◌, ◌≤◌, ◌<◌}
use Rattle.std.proofs.Math.Nat.{zero-add}
use native.Mathlib.Omega.{arith}
use Rattle.std.proofs.Math.ListN.{length, get_or, take, drop, replicate, length-append, get_or-append}
use Rattle.std.specs.Float.{binary32}
use Rattle.std.specs.Float.Ieee.{to_bits, of_bits}
use Rattle.std.proofs.Math.Seq.{split_at, length-take-le, take_at, get_or-append-add}
use Rattle.words.specs.Tab.{get_or_tab}
use Rattle.words.specs.Parts.{pad}
use Rattle.words.specs.AnyRows.{rows_of, after, rows_append, row_get}
use Rattle.definition.specs.declared.VirtReg.{VirtReg}
use Rattle.definition.specs.declared.VirtRegGroup.{VirtRegGroup}
use Rattle.definition.specs.declared.Use.{Use}
use Rattle.definition.specs.declared.Origin.TheVariants.{Own}
use Rattle.definition.specs.Limits.{max_group}
use Rattle.definition.specs.Types.{Piece, Register, Mapped, State, val, point}
use Rattle.definition.specs.Place.{pieces_in, uses_in, uses_of, segs_of, empty, set_mapping}
use Rattle.definition.specs.Lines.{hint_in}
use Rattle.definition.specs.Admit.{register_at, no_register, members_at, no_use}
use Rattle.virt_regs.specs.declared.OutLayout.{OutLayout}
use Rattle.virt_regs.specs.declared.PieceRow.{PieceRow}
use Rattle.words.specs.Part.{part, part_cut, part_middle}
use Rattle.words.specs.Tables.{table_word, cleared}
use Rattle.virt_regs.specs.Each.{each_none, each_get}
use Rattle.virt_regs.specs.Encoding.{group_row, tables, contents, Weighs, Placed, seg_base, use_base, group_base, tables_end, group_word, place_word, hint_word, piece_row, use_words, group_words, all_pieces, past_pieces, used_by, still, each_register, each_piece, each_use, each_group, piece_rows, Holds}
use Rattle.virt_regs.specs.Held.{held_long, fit_registers, fit_segments, part_segments}
use Rattle.virt_regs.specs.Counting.{all_append, count_pieces, count_uses, after_registers, after_pieces, length_registers, length_pieces, length_uses, length_groups}

abbrev pub no_piece : Piece
no_piece = record { origin = Own; seg = record { value = val 0; «from» = point 0; to = point 0; flags = record { livein = mathlib.Core.Bool.false; liveout = mathlib.Core.Bool.false; fixedhint = mathlib.Core.Bool.false; fixeddef = mathlib.Core.Bool.false }; uses = [] } }

-- piece i of all, and the numbers that rows count from: the first piece of register v, the first use of piece i
unfoldable pub piece_at : State → ℕ → Piece
piece_at st i = get_or (all_pieces st.registers) i no_piece

unfoldable pub first_piece : State → VirtReg → ℕ
first_piece st v = length (all_pieces (take v.0 st.registers))

unfoldable pub first_use : State → ℕ → ℕ
first_use st i = length (uses_of (segs_of (take i (all_pieces st.registers))))

-- the piece whose row begins at word i
unfoldable pub piece_in : List ℕ → ℕ → PieceRow
piece_in O i = record {
  value = val (get_or O i 0);
  «from» = point (get_or O (i + 1) 0);
  to = point (get_or O (i + 2) 0);
  flags = get_or O (i + 3) 0;
  origin = get_or O (i + 4) 0;
  first = get_or O (i + 5) 0;
  uses = get_or O (i + 6) 0;
}

-- the piece rows of register v, by its row
unfoldable pub segments_in : OutLayout → List ℕ → VirtReg → List ℕ
segments_in ol O v =
    let f = get_or O (v.0 * 8 + 6) 0 in
    part (seg_base ol + f * 7) (seg_base ol + f * 7 + get_or O (v.0 * 8 + 7) 0 * 7) O

module _ (ol : OutLayout) (O : List ℕ) (st : State) (h : Holds ol O st) where
  -- word k of a row
  pub register_word : (v : VirtReg) (k : ℕ) → v.0 < length st.registers → k < 8
      → get_or O (v.0 * 8 + k) 0 ≡ get_or (each_register (first_piece st v) (register_at st v)) k 0
  unfolding register_at first_piece
  register_word v k l s =
      let f : after each_register past_pieces 0 (take v.0 st.registers) ≡ length (all_pieces (take v.0 st.registers)) = after_registers 0 (take v.0 st.registers) ∙ zero-add _ in
      table_word (tables ol) (contents st) O h.tabled 0 (omega arith) (v.0 * 8 + k) (v.0 * 8 + k) (omega arith) (omega (arith, length_registers 0 st.registers))
      ∙ row_get each_register past_pieces 8 (λ σ a. refl) 0 st.registers no_register v.0 k l s
      ∙ ap (λ (σ : ℕ). get_or (each_register σ (get_or st.registers v.0 no_register)) k 0) f

  pub piece_word : (i k : ℕ) → i < pieces_in st → k < 7 → get_or O (seg_base ol + (i * 7 + k)) 0 ≡ get_or (each_piece (first_use st i) (piece_at st i)) k 0
  unfolding piece_at first_use
  piece_word i k l s =
      let ps : List Piece = all_pieces st.registers in
      let f : after each_piece used_by 0 (take i ps) ≡ length (uses_of (segs_of (take i ps))) = after_pieces 0 (take i ps) ∙ zero-add _ in
      let n : i < length ps = omega (arith, count_pieces st) in
      table_word (tables ol) (contents st) O h.tabled 1 (omega arith) (seg_base ol + (i * 7 + k)) (i * 7 + k) refl (omega (arith, length_pieces 0 ps))
      ∙ row_get each_piece used_by 7 (λ σ a. refl) 0 ps no_piece i k n s
      ∙ ap (λ (σ : ℕ). get_or (each_piece σ (get_or ps i no_piece)) k 0) f

  pub use_word : (i k : ℕ) → i < uses_in st → k < 6 → get_or O (use_base ol + (i * 6 + k)) 0 ≡ get_or (use_words (get_or (uses_of (segs_of (all_pieces st.registers))) i no_use)) k 0
  use_word i k l s =
      let us : List Use = uses_of (segs_of (all_pieces st.registers)) in
      let n : i < length us = omega (arith, count_uses st) in
      table_word (tables ol) (contents st) O h.tabled 2 (omega arith) (use_base ol + (i * 6 + k)) (i * 6 + k) refl (omega (arith, length_uses us))
      ∙ row_get each_use still 6 (λ σ a. refl) tt us no_use i k n s

  pub group_word_lem : (g : VirtRegGroup) (k : ℕ) → g.0 < length st.groups → k < group_row → get_or O (group_base ol + (g.0 * group_row + k)) 0 ≡ get_or (group_words (members_at st g)) k 0
  unfolding members_at
  group_word_lem g k l s =
      table_word (tables ol) (contents st) O h.tabled 3 (omega arith) (group_base ol + (g.0 * group_row + k)) (g.0 * group_row + k) refl (omega (arith, length_groups st.groups))
      ∙ row_get each_group still group_row (λ σ a. refl) tt st.groups [] g.0 k l s

  -- ---- fields

  pub class_held : (v : VirtReg) → v.0 < length st.registers → get_or O (v.0 * 8 + 1) 0 ≡ (register_at st v).class.0
  class_held v l = register_word v 1 l (omega arith)

  pub weight_held : (v : VirtReg) → v.0 < length st.registers → get_or O (v.0 * 8 + 2) 0 ≡ to_bits binary32 (register_at st v).weight
  weight_held v l = register_word v 2 l (omega arith)

  pub group_held : (v : VirtReg) → v.0 < length st.registers → get_or O (v.0 * 8 + 3) 0 ≡ group_word (register_at st v).group
  group_held v l = register_word v 3 l (omega arith)

  pub hint_held : (v : VirtReg) → v.0 < length st.registers → get_or O (v.0 * 8 + 5) 0 ≡ hint_word (hint_in (register_at st v).pieces)
  hint_held v l = register_word v 5 l (omega arith)

  pub first_held : (v : VirtReg) → v.0 < length st.registers → get_or O (v.0 * 8 + 6) 0 ≡ first_piece st v
  first_held v l = register_word v 6 l (omega arith)

  pub count_held : (v : VirtReg) → v.0 < length st.registers → get_or O (v.0 * 8 + 7) 0 ≡ length (register_at st v).pieces
  count_held v l = register_word v 7 l (omega arith)

  pub size_held : (g : VirtRegGroup) → g.0 < length st.groups → get_or O (group_base ol + g.0 * group_row) 0 ≡ length (members_at st g)
  size_held g l = let e : g.0 * group_row ≡ g.0 * group_row + 0 = omega arith in ap (λ (k : ℕ). get_or O (group_base ol + k) 0) e ∙ group_word_lem g 0 l (omega arith)

  pub member_held : (g : VirtRegGroup) (i : ℕ) → g.0 < length st.groups → i < max_group
      → get_or O (group_base ol + (g.0 * group_row + (i + 1))) 0 ≡ place_word (get_or (members_at st g) i none)
  member_held g i l s =
      let e : i + 1 ≡ suc i = omega arith in
      group_word_lem g (i + 1) l (omega arith)
      ∙ ap (λ (k : ℕ). get_or (group_words (members_at st g)) k 0) e
      ∙ get_or_tab (λ k. place_word (get_or (members_at st g) k none)) 0 max_group i 0 s
      ∙ ap (λ (k : ℕ). place_word (get_or (members_at st g) k none)) (zero-add i)

  pub piece_held : (i : ℕ) → i < pieces_in st → piece_in O (seg_base ol + i * 7) ≡ piece_row (first_use st i) (piece_at st i)
  unfolding piece_in
  piece_held i l =
      let w : (k : ℕ) → k < 7 → get_or O (seg_base ol + i * 7 + k) 0 ≡ get_or (each_piece (first_use st i) (piece_at st i)) k 0 =
      λ k s. let e : seg_base ol + i * 7 + k ≡ seg_base ol + (i * 7 + k) = omega arith in ap (λ (n : ℕ). get_or O n 0) e ∙ piece_word i k l s in
      let w₀ : get_or O (seg_base ol + i * 7) 0 ≡ (piece_at st i).seg.value.0 = let e : seg_base ol + i * 7 ≡ seg_base ol + i * 7 + 0 = omega arith in ap (λ (n : ℕ). get_or O n 0) e ∙ w 0 (omega arith) in
      λ x. record {
        value = val (w₀ x);
        «from» = point (w 1 (omega arith) x);
        to = point (w 2 (omega arith) x);
        flags = w 3 (omega arith) x;
        origin = w 4 (omega arith) x;
        first = w 5 (omega arith) x;
        uses = w 6 (omega arith) x;
      }

  -- ---- bounds

  pub register_in : (v : VirtReg) → v.0 < length st.registers → v.0 * 8 + 8 ≤ length O
  register_in v l = omega (arith, held_long h, fit_registers h)

  pub weighs_held : (v : VirtReg) → v.0 < length st.registers
      → (of_bits binary32 (to_bits binary32 (register_at st v).weight) ≡ (register_at st v).weight) × (to_bits binary32 (register_at st v).weight ≤ 2139095040)
  unfolding register_at Weighs
  weighs_held v l = each_get _ st.registers v.0 no_register h.weights l

  -- a group has no more places than it may have, and a member is a register
  pub size_le : (g : VirtRegGroup) → g.0 < length st.groups → length (members_at st g) ≤ max_group
  unfolding members_at Placed
  size_le g l = (each_get _ st.groups g.0 [] h.members l).0

  pub member_lt : (g : VirtRegGroup) (i : ℕ) (r : VirtReg) → g.0 < length st.groups → get_or (members_at st g) i none ≡ some r → r.0 < length st.registers
  unfolding members_at Placed
  member_lt g i r l e = (each_get _ st.groups g.0 [] h.members l).1 i r e

  -- the pieces of register v are among all, in order
  pub piece_of_lem : (v : VirtReg) (j : ℕ) → v.0 < length st.registers → j < length (register_at st v).pieces
      → piece_at st (first_piece st v + j) ≡ get_or (register_at st v).pieces j no_piece
  unfolding register_at first_piece piece_at all_pieces
  piece_of_lem v j l s =
      let rs = st.registers in
      let r = get_or rs v.0 no_register in
      ap (λ (l : List Register). get_or (all_pieces l) (length (all_pieces (take v.0 rs)) + j) no_piece) (split_at rs v.0 no_register l)
      ∙ ap (λ (l : List Piece). get_or l (length (all_pieces (take v.0 rs)) + j) no_piece) (all_append (take v.0 rs) (r ∷ drop (suc v.0) rs))
      ∙ get_or-append-add (all_pieces (take v.0 rs)) (r.pieces ++ all_pieces (drop (suc v.0) rs)) j no_piece
      ∙ get_or-append r.pieces (all_pieces (drop (suc v.0) rs)) no_piece j s

  pub pieces_in_lem : (v : VirtReg) → v.0 < length st.registers → first_piece st v + length (register_at st v).pieces ≤ pieces_in st
  unfolding register_at first_piece all_pieces
  pieces_in_lem v l =
      let rs = st.registers in
      let r = get_or rs v.0 no_register in
      let e : all_pieces rs ≡ all_pieces (take v.0 rs) ++ (r.pieces ++ all_pieces (drop (suc v.0) rs)) =
      ap (λ (l : List Register). all_pieces l) (split_at rs v.0 no_register l) ∙ all_append (take v.0 rs) (r ∷ drop (suc v.0) rs) in
      let n : length (all_pieces rs) ≡ length (all_pieces (take v.0 rs)) + (length r.pieces + length (all_pieces (drop (suc v.0) rs))) = ap length e ∙ simp length-append in
      omega (arith, count_pieces st)

  -- its rows are rows of the table
  pub span_in : (v : VirtReg) → v.0 < length st.registers → get_or O (v.0 * 8 + 6) 0 + get_or O (v.0 * 8 + 7) 0 ≤ ol.segs
  span_in v l = omega (arith, first_held v l, count_held v l, pieces_in_lem v l, fit_segments h)

  -- the rows of register v's pieces
  pub segments_held : (v : VirtReg) → v.0 < length st.registers
      → segments_in ol O v ≡ piece_rows (first_use st (first_piece st v)) (register_at st v).pieces
  unfolding segments_in register_at first_piece first_use all_pieces pad
  segments_held v l =
      let rs : List Register = st.registers in
      let r : Register = get_or rs v.0 no_register in
      let ps : List Piece = all_pieces (take v.0 rs) in
      let qs : List Piece = all_pieces (drop (suc v.0) rs) in
      let e : all_pieces rs ≡ ps ++ (r.pieces ++ qs) =
      ap (λ (t : List Register). all_pieces t) (split_at rs v.0 no_register l) ∙ all_append (take v.0 rs) (r ∷ drop (suc v.0) rs) in
      let σ : ℕ = after each_piece used_by 0 ps in
      let τ : ℕ = after each_piece used_by σ r.pieces in
      let A : List ℕ = piece_rows 0 ps in
      let B : List ℕ = piece_rows σ r.pieces in
      let C : List ℕ = piece_rows τ qs in
      let Z : List ℕ = replicate (ol.segs * 7 - length (piece_rows 0 (all_pieces rs))) 0 in
      let T : List ℕ = take (seg_base ol) O in
      let rest : List ℕ = drop (use_base ol) O in
      let rows : piece_rows 0 (all_pieces rs) ≡ A ++ (B ++ C) =
      ap (λ (t : List Piece). piece_rows 0 t) e ∙ rows_append each_piece used_by 0 ps (r.pieces ++ qs) ∙ ap (λ (t : List ℕ). A ++ t) (rows_append each_piece used_by σ r.pieces qs) in
      let whole : O ≡ (T ++ A) ++ (B ++ (C ++ (Z ++ rest))) =
      part_cut (seg_base ol) (use_base ol) O (omega arith)
      ∙ ap (λ (t : List ℕ). T ++ (t ++ rest)) (part_segments h ∙ ap (λ (t : List ℕ). t ++ Z) rows)
      ∙ simp append_assoc in
      let f : get_or O (v.0 * 8 + 6) 0 ≡ length ps = first_held v l in
      let n : get_or O (v.0 * 8 + 7) 0 ≡ length r.pieces = count_held v l in
      let lt : length (T ++ A) ≡ seg_base ol + length ps * 7 =
      length-append T A ∙ (let la = length_pieces 0 ps in let lo = length-take-le (seg_base ol) O (omega (arith, held_long h)) in omega arith) in
      let lb : length B ≡ seg_base ol + length ps * 7 + length r.pieces * 7 - (seg_base ol + length ps * 7) = length_pieces σ r.pieces ∙ omega arith in
      let here : part (seg_base ol + length ps * 7) (seg_base ol + length ps * 7 + length r.pieces * 7) O ≡ B =
      ap (λ (t : List ℕ). part (seg_base ol + length ps * 7) (seg_base ol + length ps * 7 + length r.pieces * 7) t) whole
      ∙ part_middle (T ++ A) B (C ++ (Z ++ rest)) (seg_base ol + length ps * 7) (seg_base ol + length ps * 7 + length r.pieces * 7) lt lb in
      let t : take (length ps) (all_pieces rs) ≡ ps = ap (λ (t : List Piece). take (length ps) t) e ∙ take_at ps (r.pieces ++ qs) (length ps) refl in
      let s : σ ≡ length (uses_of (segs_of (take (length ps) (all_pieces rs)))) =
      after_pieces 0 ps ∙ zero-add _ ∙ ap (λ (t : List Piece). length (uses_of (segs_of t))) (sym t) in
      ap (λ (k : ℕ). part (seg_base ol + k * 7) (seg_base ol + k * 7 + get_or O (v.0 * 8 + 7) 0 * 7) O) f
      ∙ ap (λ (k : ℕ). part (seg_base ol + length ps * 7) (seg_base ol + length ps * 7 + k * 7) O) n
      ∙ here
      ∙ ap (λ (k : ℕ). piece_rows k r.pieces) s

-- ---- cleared words hold the state of no registers and no groups

pub holds_none : (ol : OutLayout) (n : ℕ) (ms : List Mapped) → tables_end ol ≤ n → Holds ol (replicate n 0) (set_mapping ms empty)
unfolding rows_of all_pieces uses_of
holds_none ol n ms l = record {
  tabled = cleared (tables ol) (contents (set_mapping ms empty)) n (omega arith) (refl, (refl, (refl, (refl, tt)))) l;
  typed = each_none _;
  weights = each_none _;
  members = each_none _;
}

-- the mapping is no part of the tables
pub holds_mapping : (ol : OutLayout) (O : List ℕ) (st : State) (ms : List Mapped) → Holds ol O st → Holds ol O (set_mapping ms st)
holds_mapping ol O st ms h = record { tabled = h.tabled; typed = h.typed; weights = h.weights; members = h.members }
