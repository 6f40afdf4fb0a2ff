-- Gaps opened for pieces that are merged into a register, and what the tables hold when they are filled. Assumes nothing.
use Rattle.std.specs.Prelude.{◌≡◌, Bool, true, false, ◌||◌, set}
use Rattle.std.proofs.Math.Path.{refl, sym, ap}
use Rattle.std.proofs.Common.{◌∙◌, subst, arith, length-set, take-append-drop}
use mathlib.Core.List.{List, [], ◌∷◌, ◌++◌, append_assoc, append-nil}
use Prim.Native.Nat.{ℕ, suc, ◌+◌, ◌-◌, ◌*◌, ◌≤◌, ◌<◌}
use Rattle.std.proofs.Math.Nat.{zero-add}
use Rattle.std.proofs.Math.ListN.{length, get_or, take, drop, replicate, length-append, length-drop}
use Rattle.std.proofs.Math.Seq.{split_at, length-take-le}
use Rattle.words.specs.Parts.{pad, set_past, get_d_past, length_pad}
use Rattle.words.specs.Moves.{Gap}
use Rattle.words.specs.AnyRows.{rows_of, after, rows_append}
use Rattle.definition.specs.declared.VirtReg.{VirtReg}
use Rattle.definition.specs.Types.{Piece, Register, State}
use Rattle.definition.specs.Place.{pieces_in, uses_in, uses_of, segs_of, with_pieces, update}
use Rattle.definition.specs.Lines.{hint_in}
use Rattle.definition.specs.Admit.{register_at, no_register}
use Rattle.virt_regs.specs.declared.OutLayout.{OutLayout}
use Rattle.virt_regs.specs.declared.Counts.{Counts}
use Rattle.words.specs.Tables.{Tabled, change}
use Rattle.virt_regs.specs.Encoding.{tables, contents, seg_base, use_base, hint_word, all_pieces, past_pieces, used_by, each_register, each_piece, register_rows, piece_rows, use_rows, counts_of, Holds, still, each_use}
use Rattle.virt_regs.specs.Update.{update_split}
use Rattle.virt_regs.specs.Counting.{all_append, count_pieces, count_uses, after_registers, after_pieces, length_registers, uses_append, length_pieces, length_uses}
use Rattle.virt_regs.specs.Reads.{first_piece, first_use}
use Rattle.vregs_write.specs.Raised.{raised, raised_table, put_raised}
use Rattle.vregs_write.specs.InsertFlat.{or_word, grown, lifted}
use lib.ListN.{get_or-append}
use lib.Seq.{set-append_left}
use Rattle.virt_regs.specs.Held.{fit_registers, fit_segments, fit_uses}
use Rattle.vregs_write.specs.GapParts.{put_gap}

-- The rows in the tables of st, with others for the registers, and with gaps: one before piece p, and one of nu uses
-- before use u
abbrev pub gapped : State → ℕ → ℕ → ℕ → List ℕ → List ℕ → List ℕ → List (List ℕ)
gapped st p u nu rows gap use_gap =
    let ps : List Piece = all_pieces st.registers in
    set (set (set (contents st) 0 rows)
    1 (piece_rows 0 (take p ps) ++ (gap ++ piece_rows (u + nu) (drop p ps))))
    2 (use_rows (uses_of (segs_of (take p ps))) ++ (use_gap ++ use_rows (uses_of (segs_of (drop p ps)))))

-- The tables of st with a gap of np pieces before piece p, which is piece k of register v, and one of nu uses before use u. Register v's row counts the new pieces, and has their hint.
pub record Opened (ol : OutLayout) (st : State) (c : Counts) (v : VirtReg) (k np nu : ℕ) (hint : Bool) (p u : ℕ) (O' : List ℕ) : Type 0 where
  pub piece : p ≡ first_piece st v + k
  pub use' : u ≡ first_use st p
  pub gap : List ℕ
  pub use_gap : List ℕ
  pub rows : List ℕ
  pub long : length gap ≡ np * 7
  pub use_long : length use_gap ≡ nu * 6
  pub tabled : Tabled (tables ol) (gapped st p u nu rows gap use_gap) O'
  -- the registers', for any pieces of register v that its row then counts, and whose hint it has
  pub row : (qs : List Piece) → length qs ≡ length (register_at st v).pieces + np
      → hint_in qs ≡ hint || hint_in (register_at st v).pieces
      → rows ≡ register_rows 0 (update (with_pieces qs) v.0 st.registers)

module _ {ol : OutLayout} {st : State} {c : Counts} {v : VirtReg} {k np nu : ℕ} {hint : Bool} {p u : ℕ} {O' : List ℕ}
    (op : Opened ol st c v k np nu hint p u O') where
  -- the tables with the rows of such pieces
  pub opened_tables : (qs : List Piece) → length qs ≡ length (register_at st v).pieces + np
      → hint_in qs ≡ hint || hint_in (register_at st v).pieces
      → Tabled (tables ol)
      (gapped st p u nu (register_rows 0 (update (with_pieces qs) v.0 st.registers)) op.gap op.use_gap) O'
  opened_tables qs lq hq =
      subst (λ (t : List ℕ). Tabled (tables ol) (gapped st p u nu t op.gap op.use_gap) O') (op.row qs lq hq) op.tabled

-- ---- the rows that stay

grown_front : (v n : ℕ) (hint : Bool) (T z : List ℕ) → v * 8 + 8 ≤ length T → grown v n hint (T ++ z) ≡ grown v n hint T ++ z
unfolding grown
grown_front v n hint T z h =
    let i : ℕ = v * 8 + 7 in
    let j : ℕ = v * 8 + 5 in
    ap (λ (x : ℕ). set (set (T ++ z) i (x + n)) j (or_word hint (get_or (T ++ z) j 0))) (get_or-append T z 0 i (omega arith))
    ∙ ap (λ (x : ℕ). set (set (T ++ z) i (get_or T i 0 + n)) j (or_word hint x)) (get_or-append T z 0 j (omega arith))
    ∙ ap (λ (t : List ℕ). set t j (or_word hint (get_or T j 0))) (set-append_left T z i (get_or T i 0 + n) (omega arith))
    ∙ set-append_left (set T i (get_or T i 0 + n)) z j (or_word hint (get_or T j 0)) (omega (arith, length-set T i (get_or T i 0 + n)))

or_hint : (a b : Bool) → or_word a (hint_word b) ≡ hint_word (a || b)
or_hint true b = refl
or_hint false b = refl

length_grown : (v n : ℕ) (hint : Bool) (T : List ℕ) → length (grown v n hint T) ≡ length T
unfolding grown
length_grown v n hint T =
    let w : ℕ = get_or T (v * 8 + 7) 0 + n in
    length-set (set T (v * 8 + 7) w) (v * 8 + 5) (or_word hint (get_or T (v * 8 + 5) 0)) ∙ length-set T (v * 8 + 7) w

-- in a table
grown_pad : (N v n : ℕ) (hint : Bool) (T : List ℕ) → v * 8 + 8 ≤ length T
    → grown v n hint (pad N T) ≡ pad N (grown v n hint T)
unfolding pad
grown_pad N v n hint T h =
    grown_front v n hint T (replicate (N - length T) 0) h
    ∙ ap (λ (m : ℕ). grown v n hint T ++ replicate (N - m) 0) (sym (length_grown v n hint T))

-- the row of register v with other pieces
grown_row : (f v n : ℕ) (hint : Bool) (X R : List ℕ) (r : Register) (qs : List Piece) → length X ≡ v * 8
    → length qs ≡ length r.pieces + n → hint_in qs ≡ hint || hint_in r.pieces
    → grown v n hint (X ++ (each_register f r ++ R)) ≡ X ++ (each_register f (with_pieces qs r) ++ R)
unfolding grown
grown_row f v n hint X R r qs lx lq hq =
    let T : List ℕ = X ++ (each_register f r ++ R) in
    let i : ℕ = v * 8 + 7 in
    let j : ℕ = v * 8 + 5 in
    let gi : get_or T i 0 ≡ length r.pieces = get_d_past X (each_register f r ++ R) i 7 0 (omega arith) in
    let gj : get_or T j 0 ≡ hint_word (hint_in r.pieces) = get_d_past X (each_register f r ++ R) j 5 0 (omega arith) in
    let y : ℕ = hint_word (hint_in qs) in
    let ey : or_word hint (hint_word (hint_in r.pieces)) ≡ y = or_hint hint (hint_in r.pieces) ∙ ap hint_word (sym hq) in
    ap (λ (x : ℕ). set (set T i (x + n)) j (or_word hint (get_or T j 0))) gi
    ∙ ap (λ (x : ℕ). set (set T i (length r.pieces + n)) j (or_word hint x)) gj
    ∙ ap (λ (x : ℕ). set (set T i (length r.pieces + n)) j x) ey
    ∙ ap (λ (x : ℕ). set (set T i x) j y) (sym lq)
    ∙ ap (λ (t : List ℕ). set t j y) (set_past X (each_register f r ++ R) i 7 (length qs) (omega arith))
    ∙ set_past X (set (each_register f r ++ R) 7 (length qs)) j 5 y (omega arith)

module _ (ol : OutLayout) (O : List ℕ) (st : State) (h : Holds ol O st) (c : Counts) (ec : c ≡ counts_of st) (v : VirtReg) (here : v.0 < length st.registers)
    (p u np nu : ℕ) (hint : Bool) (hp : p ≤ c.segs) (eu : u ≡ first_use st p) where
  counts_are : (c.regs ≡ length st.registers) × (c.segs ≡ length (all_pieces st.registers)) × (c.uses ≡ length (uses_of (segs_of (all_pieces st.registers))))
  counts_are = (ap (λ (x : Counts). x.regs) ec, ap (λ (x : Counts). x.segs) ec ∙ count_pieces st, ap (λ (x : Counts). x.uses) ec ∙ count_uses st)

  fits_are : (c.regs ≤ ol.regs) × (c.segs ≤ ol.segs) × (c.uses ≤ ol.uses)
  fits_are =
      let n : c.regs ≡ length st.registers = ap (λ (x : Counts). x.regs) ec in
      let s : c.segs ≡ pieces_in st = ap (λ (x : Counts). x.segs) ec in
      let w : c.uses ≡ uses_in st = ap (λ (x : Counts). x.uses) ec in
      (omega (arith, fit_registers h), omega (arith, fit_segments h), omega (arith, fit_uses h))

  -- the later pieces' first uses raised, then the later registers' first pieces
  abbrev W₁ : List ℕ
  W₁ = raised nu 7 O (seg_base ol + (p * 7 + 5)) (c.segs - p)

  abbrev W₂ : List ℕ
  W₂ = raised np 8 W₁ ((v.0 + 1) * 8 + 6) (c.regs - (v.0 + 1))

  -- the pieces' rows, the later ones raised
  abbrev pieces_up : List ℕ
  pieces_up = piece_rows 0 (take p (all_pieces st.registers)) ++ piece_rows (u + nu) (drop p (all_pieces st.registers))

  raised_pieces : Tabled (tables ol) (set (contents st) 1 pieces_up) W₁
  unfolding first_use
  raised_pieces =
      let cs = counts_are in
      let fs = fits_are in
      let A : List Piece = all_pieces st.registers in
      let lt : length (take p A) ≡ p = length-take-le p A (omega arith) in
      let ld : length (drop p A) ≡ length A - p = length-drop p A in
      let lx = length_pieces 0 (take p A) in
      let ly = length_pieces (u + nu) (drop p A) in
      let σ : after each_piece used_by 0 (take p A) + nu ≡ u + nu = ap (λ (x : ℕ). x + nu) (after_pieces 0 (take p A) ∙ zero-add _ ∙ sym eu) in
      put_raised (tables ol) (contents st) O h.tabled 1 (omega arith) nu 7 (seg_base ol + (p * 7 + 5)) (p * 7 + 5) (c.segs - p) pieces_up refl (omega arith)
      (omega (arith, length-append (piece_rows 0 (take p A)) (piece_rows (u + nu) (drop p A))))
      (ap (λ (t : List Piece). raised nu 7 (pad (ol.segs * 7) (piece_rows 0 t)) (p * 7 + 5) (c.segs - p)) (sym (take-append-drop p A))
      ∙ raised_table each_piece used_by 7 (λ s a. refl) 5 nu (omega arith) (λ s a. refl) (λ s a. omega arith) (ol.segs * 7) 0 (take p A) (drop p A) (p * 7 + 5) (c.segs - p) (omega arith) (omega arith)
      ∙ ap (λ (x : ℕ). pad (ol.segs * 7) (piece_rows 0 (take p A) ++ piece_rows x (drop p A))) σ)

  -- the registers' rows, the later ones raised for np pieces more; then register v's
  abbrev rows_up : List ℕ
  rows_up =
      register_rows 0 (take v.0 st.registers)
      ++ (each_register (first_piece st v) (register_at st v)
      ++ register_rows (first_piece st v + (length (register_at st v).pieces + np)) (drop (suc v.0) st.registers))

  abbrev rows_grown : List ℕ
  rows_grown = grown v.0 np hint rows_up

  lifted_rows : Tabled (tables ol) (set (set (contents st) 1 pieces_up) 0 rows_grown) (lifted ol c v.0 p np nu hint O)
  unfolding lifted register_at first_piece rows_of all_pieces
  lifted_rows =
      let cs = counts_are in
      let fs = fits_are in
      let rs : List Register = st.registers in
      let r : Register = get_or rs v.0 no_register in
      let xs : List Register = take v.0 rs in
      let ys : List Register = drop (suc v.0) rs in
      let i : ℕ = (v.0 + 1) * 8 + 6 in
      let n : ℕ = c.regs - (v.0 + 1) in
      let lx : length xs ≡ v.0 = length-take-le v.0 rs (omega arith) in
      let ly : length ys ≡ length rs - suc v.0 = length-drop (suc v.0) rs in
      let lz : length (xs ++ (r ∷ [])) ≡ v.0 + 1 = length-append xs (r ∷ []) ∙ ap (λ (x : ℕ). x + 1) lx in
      let f : ℕ = length (all_pieces xs) in
      let m : ℕ = length r.pieces + np in
      let whole : rs ≡ (xs ++ (r ∷ [])) ++ ys = split_at rs v.0 no_register here ∙ sym (append_assoc xs (r ∷ []) ys) in
      let X : List ℕ = register_rows 0 xs in
      let l_x : length X ≡ v.0 * 8 = length_registers 0 xs ∙ ap (λ (x : ℕ). x * 8) lx in
      let σ : after each_register past_pieces 0 xs ≡ f = after_registers 0 xs ∙ zero-add f in
      let τ : after each_register past_pieces 0 (xs ++ (r ∷ [])) + np ≡ f + m =
      ap (λ (x : ℕ). x + np)
      (after_registers 0 (xs ++ (r ∷ []))
      ∙ ap (λ (t : List Piece). 0 + length t)
      (all_append xs (r ∷ []) ∙ ap (λ (t : List Piece). all_pieces xs ++ t) (append-nil r.pieces)))
      ∙ (let q = length-append (all_pieces xs) r.pieces in omega arith) in
      let R : List ℕ = register_rows (f + m) ys in
      let front : register_rows 0 (xs ++ (r ∷ [])) ≡ X ++ each_register f r =
      rows_append each_register past_pieces 0 xs (r ∷ [])
      ∙ ap (λ (x : ℕ). X ++ (each_register x r ++ [])) σ
      ∙ ap (λ (t : List ℕ). X ++ t) (append-nil (each_register f r)) in
      let up : raised np 8 (pad (ol.regs * 8) (register_rows 0 rs)) i n ≡ pad (ol.regs * 8) (X ++ (each_register f r ++ R)) =
      ap (λ (t : List Register). raised np 8 (pad (ol.regs * 8) (register_rows 0 t)) i n) whole
      ∙ raised_table each_register past_pieces 8 (λ s a. refl) 6 np (omega arith) (λ s a. refl) (λ s a. omega arith)
      (ol.regs * 8) 0 (xs ++ (r ∷ [])) ys i n (omega arith) (omega arith)
      ∙ ap (λ (x : ℕ). pad (ol.regs * 8) (register_rows 0 (xs ++ (r ∷ [])) ++ register_rows x ys)) τ
      ∙ ap (λ (t : List ℕ). pad (ol.regs * 8) (t ++ R)) front
      ∙ ap (λ (t : List ℕ). pad (ol.regs * 8) t) (append_assoc X (each_register f r) R) in
      let mid : List ℕ = X ++ (each_register f r ++ R) in
      let l_r : length R ≡ length ys * 8 = length_registers (f + m) ys in
      let lm : length mid ≡ length X + (8 + length R) =
      length-append X (each_register f r ++ R) ∙ ap (λ (x : ℕ). length X + x) (length-append (each_register f r) R) in
      let raised_all =
      put_raised (tables ol) (set (contents st) 1 pieces_up) W₁ raised_pieces 0 (omega arith) np 8 i i n mid
      (omega arith) (omega arith) (omega arith) up in
      let new : List ℕ = grown v.0 np hint mid in
      let ln : length new ≡ length mid = length_grown v.0 np hint mid in
      change (tables ol) (set (set (contents st) 1 pieces_up) 0 mid) W₂ raised_all 0 (omega arith) new
      (grown v.0 np hint W₂) (omega arith) (λ q z lq eo.
      let N : ℕ = ol.regs * 8 in
      let lt : length (pad N mid) ≡ N = length_pad N mid (omega arith) in
      let none : q ≡ [] = nothing q lq in
      ap (λ (t : List ℕ). grown v.0 np hint t) (eo ∙ ap (λ (t : List ℕ). t ++ (pad N mid ++ z)) none)
      ∙ grown_front v.0 np hint (pad N mid) z (omega arith)
      ∙ ap (λ (t : List ℕ). t ++ z) (grown_pad N v.0 np hint mid (omega arith))
      ∙ ap (λ (t : List ℕ). t ++ (pad N new ++ z)) (sym none))
    where
      nothing : (l : List ℕ) → length l ≡ 0 → l ≡ []
      nothing [] e = refl
      nothing (x ∷ l) e = absurd (omega arith)

  lifted_row : (qs : List Piece) → length qs ≡ length (register_at st v).pieces + np
      → hint_in qs ≡ hint || hint_in (register_at st v).pieces
      → rows_grown ≡ register_rows 0 (update (with_pieces qs) v.0 st.registers)
  unfolding register_at first_piece rows_of
  lifted_row qs lq hq =
      let rs : List Register = st.registers in
      let r : Register = get_or rs v.0 no_register in
      let xs : List Register = take v.0 rs in
      let ys : List Register = drop (suc v.0) rs in
      let f : ℕ = length (all_pieces xs) in
      let X : List ℕ = register_rows 0 xs in
      let l_x : length X ≡ v.0 * 8 =
      length_registers 0 xs ∙ ap (λ (x : ℕ). x * 8) (length-take-le v.0 rs (omega arith)) in
      let σ : after each_register past_pieces 0 xs ≡ f = after_registers 0 xs ∙ zero-add f in
      let R : List ℕ = register_rows (f + length qs) ys in
      let done : register_rows 0 (update (with_pieces qs) v.0 rs) ≡ X ++ (each_register f (with_pieces qs r) ++ R) =
      ap (λ (t : List Register). register_rows 0 t) (update_split (with_pieces qs) v.0 rs no_register here)
      ∙ rows_append each_register past_pieces 0 xs (with_pieces qs r ∷ ys)
      ∙ ap (λ (x : ℕ). X ++ (each_register x (with_pieces qs r) ++ register_rows (x + length qs) ys)) σ in
      ap (λ (x : ℕ). grown v.0 np hint (X ++ (each_register f r ++ register_rows (f + x) ys))) (sym lq)
      ∙ grown_row f v.0 np hint X R r qs l_x lq hq
      ∙ sym done

  -- the gaps opened
  pub opened_of : (O₁ O₂ O₃ : List ℕ) (k : ℕ) → O₁ ≡ lifted ol c v.0 p np nu hint O
      → Gap O₁ (seg_base ol + p * 7) (seg_base ol + c.segs * 7) (np * 7) O₂ → Gap O₂ (use_base ol + u * 6) (use_base ol + c.uses * 6) (nu * 6) O₃
      → p ≡ first_piece st v + k → u ≤ c.uses → c.segs + np ≤ ol.segs → c.uses + nu ≤ ol.uses → Opened ol st c v k np nu hint p u O₃
  unfolding first_use
  opened_of O₁ O₂ O₃ k e₁ g₂ g₃ ep hu fs fu =
      let cs = counts_are in
      let A : List Piece = all_pieces st.registers in
      let U₁ = uses_of (segs_of (take p A)) in
      let U₂ = uses_of (segs_of (drop p A)) in
      let lt : length (take p A) ≡ p = length-take-le p A (omega arith) in
      let ld : length (drop p A) ≡ length A - p = length-drop p A in
      let lx = length_pieces 0 (take p A) in
      let ly = length_pieces (u + nu) (drop p A) in
      let old : uses_of (segs_of A) ≡ U₁ ++ U₂ = ap (λ (t : List Piece). uses_of (segs_of t)) (sym (take-append-drop p A)) ∙ uses_append (take p A) (drop p A) in
      let lo : length (uses_of (segs_of A)) ≡ length U₁ + length U₂ = ap length old ∙ length-append U₁ U₂ in
      let l₁ = length_uses U₁ in
      let l₂ = length_uses U₂ in
      let first =
      subst (λ (t : List ℕ). Tabled (tables ol) (set (set (contents st) 1 pieces_up) 0 rows_grown) t) (sym e₁)
      lifted_rows in
      let second =
      put_gap (tables ol) _ O₁ first 1 (omega arith) (seg_base ol + p * 7) (seg_base ol + c.segs * 7) (np * 7)
      (piece_rows 0 (take p A)) (piece_rows (u + nu) (drop p A)) O₂ g₂ refl (omega arith) (omega arith) (omega arith) in
      record {
        piece = ep;
        use' = eu;
        gap = g₂.gap;
        use_gap = g₃.gap;
        rows = rows_grown;
        long = g₂.long;
        use_long = g₃.long;
        tabled =
            put_gap (tables ol) _ O₂ second 2 (omega arith) (use_base ol + u * 6) (use_base ol + c.uses * 6) (nu * 6)
            (use_rows U₁) (use_rows U₂) O₃ g₃ (ap use_rows old ∙ rows_append each_use still tt U₁ U₂)
            (omega arith) (omega arith) (omega arith);
        row = lifted_row;
      }
