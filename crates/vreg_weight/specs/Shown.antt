-- A run of pieces that stands in the result tables, with its uses. Assumes nothing.
use Rattle.std.specs.Prelude.{◌≡◌, refl, List, [], ◌∷◌, ◌++◌, map, ℕ, suc, ◌+◌, ◌-◌, ◌*◌, ◌≤◌, ◌<◌, length, get_or, take, drop}
use Rattle.std.proofs.Common.{sym, ap, ◌∙◌, add-zero, arith, length-append, take_at, drop_at, get_or-append-add}
use Rattle.std.proofs.Math.ListN.{get_or-append}
use Rattle.std.proofs.Math.Seq.{split_at}
use Rattle.words.specs.Parts.{splice, get_d_past, get_or_splice_in, length_splice, drop_splice}
use Rattle.words.specs.AnyRows.{rows_of, rows_append}
use Rattle.words.specs.RowsAt.{rows_at, rows_at_cons, rows_at_append, rows_at_ext, length_rows_at, map-rows-at}
use Rattle.definition.specs.declared.Use.{Use}
use Rattle.definition.specs.declared.VirtReg.{VirtReg}
use Rattle.definition.specs.Types.{Piece, Register, State, val, point}
use Rattle.definition.specs.LiveRange.{live_insts}
use Rattle.definition.specs.Admit.{register_at, no_register}
use Rattle.definition.specs.Place.{total, uses_of_pieces, uses_of, segs_of}
use Rattle.uses.specs.Rows.{use_row, uses_at}
use Rattle.live_range.specs.declared.insts.LiveRangeSegment.{LiveRangeSegment}
use Rattle.live_range.specs.Ranges.{range_of, range_at, range_insts}
use Rattle.live_range.specs.Laws.{live_insts_ranges}
use Rattle.virt_regs.specs.declared.OutLayout.{OutLayout}
use Rattle.virt_regs.specs.declared.PieceRow.{PieceRow}
use Rattle.words.specs.Part.{part_get}
use Rattle.words.specs.Tables.{table_word}
use Rattle.virt_regs.specs.Each.{Each}
use Rattle.virt_regs.specs.Encoding.{tables, contents, seg_base, use_base, tables_end, piece_row, use_words, all_pieces, each_piece, each_use, used_by, still, piece_rows, use_rows, Holds}
use Rattle.virt_regs.specs.Counting.{all_append, uses_append, count_uses, count_uses_of, length_pieces, length_uses}
use Rattle.virt_regs.specs.Held.{held_long, fit_segments, fit_uses}
use Rattle.virt_regs.specs.Reads.{first_piece, first_use, piece_in, segments_in, first_held, count_held, segments_held, pieces_in_lem}
use Rattle.vregs_write.specs.Written.{Written}
use Rattle.vreg_weight.specs.Typed.{TypedUse, use_back}
use lib.Seq.{get_or-drop}

-- the rows of pieces whose uses begin at use f
unfoldable pub shown_rows : ℕ → List Piece → List PieceRow
shown_rows f [] = []
shown_rows f (p ∷ ps) = piece_row f p ∷ shown_rows (f + length p.seg.uses) ps

-- The piece rows of O from piece p on and its use rows from use u on are those of the pieces ps and their uses.
pub record Shown (ol : OutLayout) (O : List ℕ) (p u : ℕ) (ps : List Piece) : Type 0 where
  pub long : tables_end ol ≤ length O
  pub fit_segments : p + length ps ≤ ol.segs
  pub fit_uses : u + uses_of_pieces ps ≤ ol.uses
  pub pieces : rows_at piece_in O (seg_base ol + p * 7) 7 (length ps) ≡ shown_rows u ps
  pub uses : uses_at O (use_base ol + u * 6) (uses_of_pieces ps) ≡ uses_of (segs_of ps)

-- ---- rows read back, word by word

piece_back : (O : List ℕ) (a f : ℕ) (q : Piece) → ((j : ℕ) → j < 7 → get_or O (a + j) 0 ≡ get_or (each_piece f q) j 0) → piece_in O a ≡ piece_row f q
unfolding piece_in
piece_back O a f q h =
    let w₀ : get_or O a 0 ≡ q.seg.value.0 = ap (λ (i : ℕ). get_or O i 0) (sym (add-zero a)) ∙ h 0 (omega arith) in
    λ x. record {
      value = val (w₀ x);
      «from» = point (h 1 (omega arith) x);
      to = point (h 2 (omega arith) x);
      flags = h 3 (omega arith) x;
      origin = h 4 (omega arith) x;
      first = h 5 (omega arith) x;
      uses = h 6 (omega arith) x;
    }

pieces_back : (O : List ℕ) (a f : ℕ) (ps : List Piece) → ((j : ℕ) → j < length ps * 7 → get_or O (a + j) 0 ≡ get_or (piece_rows f ps) j 0)
    → rows_at piece_in O a 7 (length ps) ≡ shown_rows f ps
unfolding rows_at rows_of shown_rows
pieces_back O a f [] h = refl
pieces_back O a f (q ∷ ps) h =
    let first : piece_in O a ≡ piece_row f q = piece_back O a f q (λ j l. h j (omega arith) ∙ get_or-append (each_piece f q) (piece_rows (used_by f q) ps) 0 j l) in
    let rest : rows_at piece_in O (a + 7) 7 (length ps) ≡ shown_rows (used_by f q) ps =
    pieces_back O (a + 7) (used_by f q) ps
    (λ j l.
    let e : a + 7 + j ≡ a + (7 + j) = omega arith in
    ap (λ (i : ℕ). get_or O i 0) e ∙ h (7 + j) (omega arith) ∙ get_or-append-add (each_piece f q) (piece_rows (used_by f q) ps) j 0) in
    rows_at_cons piece_in O a 7 (length ps) ∙ λ x. first x ∷ rest x

uses_back : (O : List ℕ) (a : ℕ) (us : List Use) → Each TypedUse us → ((j : ℕ) → j < length us * 6 → get_or O (a + j) 0 ≡ get_or (use_rows us) j 0)
    → uses_at O a (length us) ≡ us
unfolding rows_at uses_at rows_of Each
uses_back O a [] t h = refl
uses_back O a (u ∷ us) t h =
    let first : use_row O a ≡ u = use_back O a u (λ j l. h j (omega arith) ∙ get_or-append (use_words u) (use_rows us) 0 j l) t.0 in
    let rest : rows_at use_row O (a + 6) 6 (length us) ≡ us =
    uses_back O (a + 6) us t.1
    (λ j l.
    let e : a + 6 + j ≡ a + (6 + j) = omega arith in
    ap (λ (i : ℕ). get_or O i 0) e ∙ h (6 + j) (omega arith) ∙ get_or-append-add (use_words u) (use_rows us) j 0) in
    rows_at_cons use_row O a 6 (length us) ∙ λ x. first x ∷ rest x

-- pieces are shown where the words are those of their rows
pub shown_words : (ol : OutLayout) (O : List ℕ) (p u : ℕ) (ps : List Piece) → tables_end ol ≤ length O → p + length ps ≤ ol.segs → u + uses_of_pieces ps ≤ ol.uses
    → Each TypedUse (uses_of (segs_of ps))
    → ((j : ℕ) → j < length ps * 7 → get_or O (seg_base ol + p * 7 + j) 0 ≡ get_or (piece_rows u ps) j 0)
    → ((j : ℕ) → j < length (uses_of (segs_of ps)) * 6 → get_or O (use_base ol + u * 6 + j) 0 ≡ get_or (use_rows (uses_of (segs_of ps))) j 0)
    → Shown ol O p u ps
shown_words ol O p u ps l fp fu t hp hu =
    record {
      long = l;
      fit_segments = fp;
      fit_uses = fu;
      pieces = pieces_back O (seg_base ol + p * 7) u ps hp;
      uses = ap (λ (n : ℕ). uses_at O (use_base ol + u * 6) n) (count_uses_of ps) ∙ uses_back O (use_base ol + u * 6) (uses_of (segs_of ps)) t hu;
    }

-- ---- pieces that were written

get_or_splice_behind : (d : List ℕ) (i : ℕ) (vs : List ℕ) → i + length vs ≤ length d → (j z : ℕ) → i + length vs ≤ j → get_or (splice d i vs) j z ≡ get_or d j z
get_or_splice_behind d i vs h j z l =
    let e : j ≡ i + length vs + (j - (i + length vs)) = omega arith in
    ap (λ (k : ℕ). get_or (splice d i vs) k z) e
    ∙ sym (get_or-drop (i + length vs) (splice d i vs) (j - (i + length vs)) z)
    ∙ ap (λ (t : List ℕ). get_or t (j - (i + length vs)) z) (drop_splice d i vs h)
    ∙ get_or-drop (i + length vs) d (j - (i + length vs)) z
    ∙ ap (λ (k : ℕ). get_or d k z) (sym e)

pub shown_written : (ol : OutLayout) (O O' : List ℕ) (p u : ℕ) (ps : List Piece) → Written ol O p u ps (uses_of (segs_of ps)) O' → tables_end ol ≤ length O
    → p + length ps ≤ ol.segs → u + uses_of_pieces ps ≤ ol.uses → Each TypedUse (uses_of (segs_of ps)) → Shown ol O' p u ps
shown_written ol O O' p u ps w l fp fu t =
    let lp : length (piece_rows u ps) ≡ length ps * 7 = length_pieces u ps in
    let lu : length (use_rows (uses_of (segs_of ps))) ≡ length (uses_of (segs_of ps)) * 6 = length_uses (uses_of (segs_of ps)) in
    let nu : uses_of_pieces ps ≡ length (uses_of (segs_of ps)) = count_uses_of ps in
    let U : List ℕ = use_rows (uses_of (segs_of ps)) in
    let B : List ℕ = splice O (use_base ol + u * 6) U in
    let lb : length B ≡ length O = length_splice O (use_base ol + u * 6) U (omega arith) in
    shown_words ol O' p u ps (omega (arith, w.long)) fp fu t
    (λ j k. ap (λ (t : List ℕ). get_or t (seg_base ol + p * 7 + j) 0) w.is ∙ get_or_splice_in B (seg_base ol + p * 7) (piece_rows u ps) (omega arith) j 0 (omega arith))
    (λ j k. ap (λ (t : List ℕ). get_or t (use_base ol + u * 6 + j) 0) w.is
    ∙ get_or_splice_behind B (seg_base ol + p * 7) (piece_rows u ps) (omega arith) (use_base ol + u * 6 + j) 0 (omega arith)
    ∙ get_or_splice_in O (use_base ol + u * 6) U (omega arith) j 0 (omega arith))

-- ---- the pieces of a register that is held

pub shown_held : (ol : OutLayout) (O : List ℕ) (st : State) (v : VirtReg) → Holds ol O st → v.0 < length st.registers
    → Each TypedUse (uses_of (segs_of (register_at st v).pieces))
    → Shown ol O (first_piece st v) (first_use st (first_piece st v)) (register_at st v).pieces
unfolding segments_in register_at first_piece first_use all_pieces
shown_held ol O st v h l t =
    let rs : List Register = st.registers in
    let r : Register = get_or rs v.0 no_register in
    let ps : List Piece = all_pieces (take v.0 rs) in
    let qs : List Piece = all_pieces (drop (suc v.0) rs) in
    let A : List Use = uses_of (segs_of ps) in
    let B : List Use = uses_of (segs_of r.pieces) in
    let C : List Use = uses_of (segs_of qs) in
    let e : all_pieces rs ≡ ps ++ (r.pieces ++ qs) =
    ap (λ (x : List Register). all_pieces x) (split_at rs v.0 no_register l) ∙ all_append (take v.0 rs) (r ∷ drop (suc v.0) rs) in
    let eu : uses_of (segs_of (all_pieces rs)) ≡ A ++ (B ++ C) =
    ap (λ (x : List Piece). uses_of (segs_of x)) e ∙ uses_append ps (r.pieces ++ qs) ∙ ap (λ (x : List Use). A ++ x) (uses_append r.pieces qs) in
    let k : take (length ps) (all_pieces rs) ≡ ps = ap (λ (x : List Piece). take (length ps) x) e ∙ take_at ps (r.pieces ++ qs) (length ps) refl in
    let ku : first_use st (length ps) ≡ length A = ap (λ (x : List Piece). length (uses_of (segs_of x))) k in
    let l_a : length (use_rows A) ≡ length A * 6 = length_uses A in
    let l_b : length (use_rows B) ≡ length B * 6 = length_uses B in
    let n : length (uses_of (segs_of (all_pieces rs))) ≡ length A + (length B + length C) = ap length eu ∙ length-append A (B ++ C) ∙ ap (λ (m : ℕ). length A + m) (length-append B C) in
    let rows : use_rows (uses_of (segs_of (all_pieces rs))) ≡ use_rows A ++ (use_rows B ++ use_rows C) =
    ap (λ (x : List Use). use_rows x) eu ∙ rows_append each_use still tt A (B ++ C) ∙ ap (λ (x : List ℕ). use_rows A ++ x) (rows_append each_use still tt B C) in
    let fit : length A + (length B + length C) ≤ ol.uses = omega (arith, fit_uses h, count_uses st) in
    let piece : (j : ℕ) → j < length r.pieces * 7 → get_or O (seg_base ol + length ps * 7 + j) 0 ≡ get_or (piece_rows (first_use st (length ps)) r.pieces) j 0 =
    λ j m.
    let a : get_or O (v.0 * 8 + 6) 0 ≡ length ps = first_held ol O st h v l in
    let c : get_or O (v.0 * 8 + 7) 0 ≡ length r.pieces = count_held ol O st h v l in
    let s : seg_base ol + length ps * 7 + j ≡ seg_base ol + get_or O (v.0 * 8 + 6) 0 * 7 + j = omega arith in
    ap (λ (i : ℕ). get_or O i 0) s
    ∙ sym (part_get (seg_base ol + get_or O (v.0 * 8 + 6) 0 * 7) (seg_base ol + get_or O (v.0 * 8 + 6) 0 * 7 + get_or O (v.0 * 8 + 7) 0 * 7) j O (omega arith))
    ∙ ap (λ (x : List ℕ). get_or x j 0) (segments_held ol O st h v l) in
    let use_word : (j : ℕ) → j < length B * 6 → get_or O (use_base ol + first_use st (length ps) * 6 + j) 0 ≡ get_or (use_rows B) j 0 =
    λ j m.
    let s : use_base ol + first_use st (length ps) * 6 + j ≡ use_base ol + (length A * 6 + j) = omega arith in
    let all : length (use_rows (uses_of (segs_of (all_pieces rs)))) ≡ (length A + (length B + length C)) * 6 = length_uses _ ∙ ap (λ (i : ℕ). i * 6) n in
    ap (λ (i : ℕ). get_or O i 0) s
    ∙ table_word (tables ol) (contents st) O h.tabled 2 (omega arith) (use_base ol + (length A * 6 + j)) (length A * 6 + j) refl (omega arith)
    ∙ ap (λ (x : List ℕ). get_or x (length A * 6 + j) 0) rows
    ∙ get_d_past (use_rows A) (use_rows B ++ use_rows C) (length A * 6 + j) j 0 (omega arith)
    ∙ get_or-append (use_rows B) (use_rows C) 0 j (omega arith) in
    shown_words ol O (length ps) (first_use st (length ps)) r.pieces (held_long h) (omega (arith, pieces_in_lem ol O st h v l, fit_segments h)) (omega (arith, count_uses_of r.pieces)) t piece use_word

-- ---- the first piece and the rest

abbrev head : PieceRow → List PieceRow → PieceRow
head d [] = d
head d (r ∷ rs) = r

abbrev tail : List PieceRow → List PieceRow
tail [] = []
tail (r ∷ rs) = rs

pub record FirstShown (ol : OutLayout) (O : List ℕ) (p u : ℕ) (q : Piece) (ps : List Piece) : Type 0 where
  pub row : piece_in O (seg_base ol + p * 7) ≡ piece_row u q
  pub own : uses_at O (use_base ol + u * 6) (length q.seg.uses) ≡ q.seg.uses
  pub fit : u + length q.seg.uses ≤ ol.uses
  pub rest : Shown ol O (p + 1) (u + length q.seg.uses) ps

pub shown_first : (ol : OutLayout) (O : List ℕ) (p u : ℕ) (q : Piece) (ps : List Piece) → Shown ol O p u (q ∷ ps) → FirstShown ol O p u q ps
unfolding shown_rows uses_of_pieces total uses_of uses_at
shown_first ol O p u q ps s =
    let a : ℕ = seg_base ol + p * 7 in
    let b : ℕ = use_base ol + u * 6 in
    let m : ℕ = length q.seg.uses in
    let ep : piece_in O a ∷ rows_at piece_in O (a + 7) 7 (length ps) ≡ piece_row u q ∷ shown_rows (u + m) ps = sym (rows_at_cons piece_in O a 7 (length ps)) ∙ s.pieces in
    let eu : rows_at use_row O b 6 m ++ rows_at use_row O (b + m * 6) 6 (uses_of_pieces ps) ≡ q.seg.uses ++ uses_of (segs_of ps) =
    sym (rows_at_append use_row O b 6 m (uses_of_pieces ps)) ∙ s.uses in
    let lm : length (rows_at use_row O b 6 m) ≡ m = length_rows_at use_row O b 6 m in
    let ka : seg_base ol + (p + 1) * 7 ≡ a + 7 = omega arith in
    let kb : use_base ol + (u + m) * 6 ≡ b + m * 6 = omega arith in
    record {
      row = ap (λ (l : List PieceRow). head (piece_row u q) l) ep;
      own = sym (take_at (rows_at use_row O b 6 m) _ m lm) ∙ ap (λ (l : List Use). take m l) eu ∙ take_at q.seg.uses _ m refl;
      fit = omega (arith, s.fit_uses);
      rest = record {
        long = s.long;
        fit_segments = omega (arith, s.fit_segments);
        fit_uses = omega (arith, s.fit_uses);
        pieces = ap (λ (i : ℕ). rows_at piece_in O i 7 (length ps)) ka ∙ ap tail ep;
        uses =
            ap (λ (i : ℕ). rows_at use_row O i 6 (uses_of_pieces ps)) kb
            ∙ sym (drop_at (rows_at use_row O b 6 m) _ m lm)
            ∙ ap (λ (l : List Use). drop m l) eu
            ∙ drop_at q.seg.uses _ m refl;
      };
    }

-- ---- the instructions that shown pieces touch

abbrev row_range : PieceRow → LiveRangeSegment
row_range r = record { «from» = r.«from»; to = r.to }

shown_points : (f : ℕ) (ps : List Piece) → map row_range (shown_rows f ps) ≡ map range_of (segs_of ps)
unfolding shown_rows
shown_points f [] = refl
shown_points f (q ∷ ps) = ap (λ (l : List LiveRangeSegment). range_of q.seg ∷ l) (shown_points (f + length q.seg.uses) ps)

pub shown_insts : (ol : OutLayout) (O : List ℕ) (p u : ℕ) (ps : List Piece) → Shown ol O p u ps
    → range_insts (rows_at range_at O (seg_base ol + p * 7) 7 (length ps)) ≡ live_insts (segs_of ps)
unfolding range_at piece_in
shown_insts ol O p u ps s =
    let e : rows_at range_at O (seg_base ol + p * 7) 7 (length ps) ≡ map range_of (segs_of ps) =
    rows_at_ext range_at (λ W i. row_range (piece_in W i)) O O (seg_base ol + p * 7) (seg_base ol + p * 7) 7 (length ps) (λ k l. refl)
    ∙ sym (map-rows-at row_range piece_in O (seg_base ol + p * 7) 7 (length ps))
    ∙ ap (λ (l : List PieceRow). map row_range l) s.pieces
    ∙ shown_points u ps in
    ap range_insts e ∙ sym (live_insts_ranges (segs_of ps))
