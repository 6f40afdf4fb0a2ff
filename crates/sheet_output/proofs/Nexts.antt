-- The first of the lines that are left, by what is left. Assumes nothing.
use mathlib.Core.Path.{◌≡◌, sym, ap, ◌∙◌}
use mathlib.Core.Option.{Option}
use mathlib.Core.List.{List, [], ◌∷◌, ◌++◌, append_assoc, append-nil}
use Prim.Native.Nat.{ℕ, suc, ◌+◌, ◌≤◌, ◌<◌}
use native.Mathlib.Numerals.{add-one}
use native.Mathlib.Omega.{arith}
use lib.ListN.{length, get_or, take, drop, length-append, take-append-drop, drop_of_length-le, get_or-append}
use lib.Seq.{drop-cons, take-suc, drop_at}
use Rattle.definition.specs.declared.VirtReg.{VirtReg}
use Rattle.definition.specs.declared.Use.{Use}
use Rattle.definition.specs.Types.{Piece, Register, State, vreg, vrgroup}
use Rattle.definition.specs.Place.{pieces_in, uses_in, uses_of, segs_of}
use Rattle.definition.specs.Admit.{register_at, no_register, members_at, no_use}
use Rattle.definition.specs.Lines.{Line, use_line_lem, group_line_lem, end_line_lem, seg_line, vreg_line, use_lines, seg_lines, vreg_lines, group_lines}
use Rattle.virt_regs.specs.Encoding.{all_pieces}
use Rattle.virt_regs.specs.Counting.{all_append, uses_append, count_pieces, count_uses}
use Rattle.virt_regs.specs.Reads.{no_piece, piece_at, first_piece, first_use}
use Rattle.sheet_output.specs.Left.{uses_left, pieces_left, open_lines}

-- all pieces and all uses of a state
abbrev pieces : State → List Piece
pieces st = all_pieces st.registers

abbrev pub uses : State → List Use
uses st = uses_of (segs_of (all_pieces st.registers))

-- the lines behind the uses, the pieces and the registers
abbrev ending : State → ℕ → List Line
ending st g = group_lines g (drop g st.groups) ++ (end_line_lem (length st.registers) (length st.groups) ∷ [])

abbrev registering : State → ℕ → ℕ → List Line
registering st r g = vreg_lines r (drop r st.registers) ++ ending st g

abbrev piecing : State → ℕ → ℕ → ℕ → List Line
piecing st r s g = seg_lines (pieces_left st r s) ++ registering st r g

module _ (st : State) where
  -- ---- the first of all

  uses_split : (s : ℕ) → uses st ≡ uses_of (segs_of (take s (pieces st))) ++ uses_of (segs_of (drop s (pieces st)))
  uses_split s = ap (λ (t : List Piece). uses_of (segs_of t)) (sym (take-append-drop s (pieces st))) ∙ uses_append (take s (pieces st)) (drop s (pieces st))

  pieces_split : (r : ℕ) → pieces st ≡ all_pieces (take r st.registers) ++ all_pieces (drop r st.registers)
  pieces_split r = ap (λ (t : List Register). all_pieces t) (sym (take-append-drop r st.registers)) ∙ all_append (take r st.registers) (drop r st.registers)

  pub first_use_le : (s : ℕ) → first_use st s ≤ uses_in st
  unfolding first_use
  first_use_le s =
      let n : length (uses st) ≡ length (uses_of (segs_of (take s (pieces st)))) + length (uses_of (segs_of (drop s (pieces st)))) = ap length (uses_split s) ∙ length-append (uses_of (segs_of (take s (pieces st)))) (uses_of (segs_of (drop s (pieces st)))) in
      omega (arith, count_uses st)

  pub first_piece_le : (r : ℕ) → first_piece st (vreg r) ≤ pieces_in st
  unfolding first_piece
  first_piece_le r =
      let n : length (pieces st) ≡ length (all_pieces (take r st.registers)) + length (all_pieces (drop r st.registers)) = ap length (pieces_split r) ∙ length-append (all_pieces (take r st.registers)) (all_pieces (drop r st.registers)) in
      omega (arith, count_pieces st)

  use_at : (s u : ℕ) → u < length (uses_of (segs_of (take s (pieces st)))) → get_or (uses_of (segs_of (take s (pieces st)))) u no_use ≡ get_or (uses st) u no_use
  use_at s u h =
      sym (ap (λ (t : List Use). get_or t u no_use) (uses_split s) ∙ get_or-append (uses_of (segs_of (take s (pieces st)))) (uses_of (segs_of (drop s (pieces st)))) no_use u h)

  piece_in : (r s : ℕ) → s < length (all_pieces (take r st.registers)) → get_or (all_pieces (take r st.registers)) s no_piece ≡ get_or (pieces st) s no_piece
  piece_in r s h =
      sym (ap (λ (t : List Piece). get_or t s no_piece) (pieces_split r) ∙ get_or-append (all_pieces (take r st.registers)) (all_pieces (drop r st.registers)) no_piece s h)

  -- ---- one more

  uses_more : (s : ℕ) → s < length (pieces st) → uses_of (segs_of (take (s + 1) (pieces st))) ≡ uses_of (segs_of (take s (pieces st))) ++ (piece_at st s).seg.uses
  unfolding piece_at uses_of
  uses_more s h =
      let p : Piece = get_or (pieces st) s no_piece in
      ap (λ (n : ℕ). uses_of (segs_of (take n (pieces st)))) (add-one s)
      ∙ ap (λ (t : List Piece). uses_of (segs_of t)) (take-suc (pieces st) s no_piece h)
      ∙ uses_append (take s (pieces st)) (p ∷ [])
      ∙ ap (λ (t : List Use). uses_of (segs_of (take s (pieces st))) ++ t) (append-nil p.seg.uses)

  pieces_more : (r : ℕ) → r < length st.registers → all_pieces (take (r + 1) st.registers) ≡ all_pieces (take r st.registers) ++ (register_at st (vreg r)).pieces
  unfolding register_at all_pieces
  pieces_more r h =
      let q : Register = get_or st.registers r no_register in
      ap (λ (n : ℕ). all_pieces (take n st.registers)) (add-one r)
      ∙ ap (λ (t : List Register). all_pieces t) (take-suc st.registers r no_register h)
      ∙ all_append (take r st.registers) (q ∷ [])
      ∙ ap (λ (t : List Piece). all_pieces (take r st.registers) ++ t) (append-nil q.pieces)

  pub first_use_next : (s : ℕ) → s < pieces_in st → first_use st (s + 1) ≡ first_use st s + length (piece_at st s).seg.uses
  unfolding first_use
  first_use_next s h = ap length (uses_more s (omega (arith, count_pieces st))) ∙ length-append (uses_of (segs_of (take s (pieces st)))) (piece_at st s).seg.uses

  pub first_piece_next : (r : ℕ) → r < length st.registers → first_piece st (vreg (r + 1)) ≡ first_piece st (vreg r) + length (register_at st (vreg r)).pieces
  unfolding first_piece
  first_piece_next r h = ap length (pieces_more r h) ∙ length-append (all_pieces (take r st.registers)) (register_at st (vreg r)).pieces

  uses_next : (s u : ℕ) → s < length (pieces st) → u ≡ first_use st s → uses_left st (s + 1) u ≡ (piece_at st s).seg.uses
  unfolding first_use
  uses_next s u h e = ap (λ (t : List Use). drop u t) (uses_more s h) ∙ drop_at (uses_of (segs_of (take s (pieces st)))) (piece_at st s).seg.uses u (sym e)

  pieces_next : (r s : ℕ) → r < length st.registers → s ≡ first_piece st (vreg r) → pieces_left st (r + 1) s ≡ (register_at st (vreg r)).pieces
  unfolding first_piece
  pieces_next r s h e = ap (λ (t : List Piece). drop s t) (pieces_more r h) ∙ drop_at (all_pieces (take r st.registers)) (register_at st (vreg r)).pieces s (sym e)

  -- ---- nothing left of a kind

  no_uses : (s u : ℕ) → u ≡ first_use st s → use_lines (uses_left st s u) ≡ []
  unfolding first_use use_lines
  no_uses s u e = ap (λ (t : List Use). use_lines t) (drop_of_length-le (uses_of (segs_of (take s (pieces st)))) {i = u} (omega (arith, e)))

  no_pieces : (r s : ℕ) → s ≡ first_piece st (vreg r) → seg_lines (pieces_left st r s) ≡ []
  unfolding first_piece seg_lines
  no_pieces r s e = ap (λ (t : List Piece). seg_lines t) (drop_of_length-le (all_pieces (take r st.registers)) {i = s} (omega (arith, e)))

  no_registers : (r : ℕ) → r ≡ length st.registers → vreg_lines r (drop r st.registers) ≡ []
  unfolding vreg_lines
  no_registers r e = ap (λ (t : List Register). vreg_lines r t) (drop_of_length-le st.registers {i = r} (omega (arith, e)))

  no_groups : (g : ℕ) → g ≡ length st.groups → group_lines g (drop g st.groups) ≡ []
  unfolding group_lines
  no_groups g e = ap (λ (t : List (List (Option VirtReg))). group_lines g t) (drop_of_length-le st.groups {i = g} (omega (arith, e)))

  past_uses : (r s u g : ℕ) → u ≡ first_use st s → open_lines st r s u g ≡ piecing st r s g
  unfolding open_lines
  past_uses r s u g e = ap (λ (t : List Line). t ++ piecing st r s g) (no_uses s u e)

  past_pieces : (r s u g : ℕ) → u ≡ first_use st s → s ≡ first_piece st (vreg r) → open_lines st r s u g ≡ registering st r g
  past_pieces r s u g e f = past_uses r s u g e ∙ ap (λ (t : List Line). t ++ registering st r g) (no_pieces r s f)

  past_registers : (r s u g : ℕ) → u ≡ first_use st s → s ≡ first_piece st (vreg r) → r ≡ length st.registers → open_lines st r s u g ≡ ending st g
  past_registers r s u g e f n = past_pieces r s u g e f ∙ ap (λ (t : List Line). t ++ ending st g) (no_registers r n)

  -- ---- the next line

  pub use_next : (r s u g : ℕ) → u < first_use st s → open_lines st r s u g ≡ use_line_lem (get_or (uses st) u no_use) ∷ open_lines st r s (u + 1) g
  unfolding open_lines use_lines first_use
  use_next r s u g h =
      let l : List Use = uses_of (segs_of (take s (pieces st))) in
      ap (λ (t : List Use). use_lines t ++ piecing st r s g) (drop-cons l u no_use h)
      ∙ ap (λ (x : Use). use_line_lem x ∷ (use_lines (drop (suc u) l) ++ piecing st r s g)) (use_at s u h)
      ∙ ap (λ (n : ℕ). use_line_lem (get_or (uses st) u no_use) ∷ (use_lines (drop n l) ++ piecing st r s g)) (sym (add-one u))

  seg_first : (r s g : ℕ) → s < length (all_pieces (take r st.registers))
      → piecing st r s g ≡ seg_line (piece_at st s) ∷ (use_lines (piece_at st s).seg.uses ++ piecing st r (s + 1) g)
  unfolding seg_lines piece_at
  seg_first r s g h =
      let m : List Piece = all_pieces (take r st.registers) in
      let p : Piece = get_or (pieces st) s no_piece in
      ap (λ (t : List Piece). seg_lines t ++ registering st r g) (drop-cons m s no_piece h)
      ∙ ap (λ (x : Piece). seg_line x ∷ ((use_lines x.seg.uses ++ seg_lines (drop (suc s) m)) ++ registering st r g)) (piece_in r s h)
      ∙ ap (λ (t : List Line). seg_line p ∷ t) (append_assoc (use_lines p.seg.uses) (seg_lines (drop (suc s) m)) (registering st r g))
      ∙ ap (λ (n : ℕ). seg_line p ∷ (use_lines p.seg.uses ++ (seg_lines (drop n m) ++ registering st r g))) (sym (add-one s))

  pub seg_next : (r s u g : ℕ) → u ≡ first_use st s → s < first_piece st (vreg r) → open_lines st r s u g ≡ seg_line (piece_at st s) ∷ open_lines st r (s + 1) u g
  unfolding open_lines first_piece
  seg_next r s u g e h =
      let k : s < length (pieces st) = omega (arith, first_piece_le r, count_pieces st) in
      past_uses r s u g e
      ∙ seg_first r s g h
      ∙ ap (λ (t : List Use). seg_line (piece_at st s) ∷ (use_lines t ++ piecing st r (s + 1) g)) (sym (uses_next s u k e))

  vreg_first : (r g : ℕ) → r < length st.registers
      → registering st r g ≡ vreg_line r (register_at st (vreg r)) ∷ (seg_lines (register_at st (vreg r)).pieces ++ registering st (r + 1) g)
  unfolding vreg_lines register_at
  vreg_first r g h =
      let q : Register = get_or st.registers r no_register in
      ap (λ (t : List Register). vreg_lines r t ++ ending st g) (drop-cons st.registers r no_register h)
      ∙ ap (λ (t : List Line). vreg_line r q ∷ t) (append_assoc (seg_lines q.pieces) (vreg_lines (suc r) (drop (suc r) st.registers)) (ending st g))
      ∙ ap (λ (n : ℕ). vreg_line r q ∷ (seg_lines q.pieces ++ (vreg_lines n (drop n st.registers) ++ ending st g))) (sym (add-one r))

  pub vreg_next : (r s u g : ℕ) → u ≡ first_use st s → s ≡ first_piece st (vreg r) → r < length st.registers
      → open_lines st r s u g ≡ vreg_line r (register_at st (vreg r)) ∷ open_lines st (r + 1) s u g
  vreg_next r s u g e f h =
      past_pieces r s u g e f
      ∙ vreg_first r g h
      ∙ ap (λ (t : List Piece). vreg_line r (register_at st (vreg r)) ∷ (seg_lines t ++ registering st (r + 1) g)) (sym (pieces_next r s h f))
      ∙ ap (λ (t : List Line). vreg_line r (register_at st (vreg r)) ∷ t) (sym (past_uses (r + 1) s u g e))

  group_first : (g : ℕ) → g < length st.groups → ending st g ≡ group_line_lem g (members_at st (vrgroup g)) ∷ ending st (g + 1)
  unfolding group_lines members_at
  group_first g h =
      let e : List Line = end_line_lem (length st.registers) (length st.groups) ∷ [] in
      ap (λ (t : List (List (Option VirtReg))). group_lines g t ++ e) (drop-cons st.groups g [] h)
      ∙ ap (λ (n : ℕ). group_line_lem g (get_or st.groups g []) ∷ (group_lines n (drop n st.groups) ++ e)) (sym (add-one g))

  pub group_next : (r s u g : ℕ) → u ≡ first_use st s → s ≡ first_piece st (vreg r) → r ≡ length st.registers → g < length st.groups
      → open_lines st r s u g ≡ group_line_lem g (members_at st (vrgroup g)) ∷ open_lines st r s u (g + 1)
  group_next r s u g e f n h =
      past_registers r s u g e f n ∙ group_first g h ∙ ap (λ (t : List Line). group_line_lem g (members_at st (vrgroup g)) ∷ t) (sym (past_registers r s u (g + 1) e f n))

  pub end_next : (r s u g : ℕ) → u ≡ first_use st s → s ≡ first_piece st (vreg r) → r ≡ length st.registers → g ≡ length st.groups
      → open_lines st r s u g ≡ end_line_lem (length st.registers) (length st.groups) ∷ []
  end_next r s u g e f n m =
      past_registers r s u g e f n ∙ ap (λ (t : List Line). t ++ (end_line_lem (length st.registers) (length st.groups) ∷ [])) (no_groups g m)
