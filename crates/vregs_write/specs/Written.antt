-- Pieces and uses written row by row, and a register added with them. Assumes nothing.
use Rattle.std.specs.Prelude.{◌≡◌, refl, List, [], ◌∷◌, ◌++◌, ℕ, suc, ◌+◌, ◌-◌, ◌*◌, ◌≤◌, ◌<◌, length}
use Rattle.std.proofs.Common.{sym, ap, ◌∙◌, subst, append-nil, zero-add, arith, length-append, length-take, length-drop}
use Rattle.words.specs.Parts.{splice, splice_none, splice_splice, length_splice}
use Rattle.words.specs.AnyRows.{rows_of, after, rows_append}
use Rattle.definition.specs.declared.Use.{Use}
use Rattle.definition.specs.Types.{Piece, Register, State}
use Rattle.definition.specs.Place.{pieces_in, uses_in, uses_of_pieces, uses_of, segs_of, add_register}
use Rattle.virt_regs.specs.declared.OutLayout.{OutLayout}
use Rattle.virt_regs.specs.declared.Counts.{Counts}
use Rattle.words.specs.Part.{part, part_ahead, part_behind, splice_swap}
use Rattle.words.specs.Tables.{Tabled, put_more}
use Rattle.virt_regs.specs.Each.{Each, each_append, each_one, each_weaker}
use Rattle.virt_regs.specs.Encoding.{tables, contents, seg_base, use_base, group_base, tables_end, register_row, register_words, use_words, all_pieces, past_pieces, used_by, still, each_register, each_piece, each_use, register_rows, piece_rows, use_rows, counts_of, Weighs, Typed, Holds}
use Rattle.virt_regs.specs.Counting.{all_append, uses_append, count_pieces, count_uses, count_uses_of, after_registers, after_pieces, length_registers, length_pieces, length_uses, placed_more}

-- O' is O with the rows of the pieces ps from piece p on, whose uses begin at use u, and the rows of the uses us from use u on
pub record Written (ol : OutLayout) (O : List ℕ) (p u : ℕ) (ps : List Piece) (us : List Use) (O' : List ℕ) : Type 0 where
  pub long : length O' ≡ length O
  -- what is ahead of the pieces and behind the uses is as it was
  pub ahead : part 0 (seg_base ol) O' ≡ part 0 (seg_base ol) O
  pub behind : (a e : ℕ) → group_base ol ≤ a → a ≤ length O → part a e O' ≡ part a e O
  pub is : O' ≡ splice (splice O (use_base ol + u * 6) (use_rows us)) (seg_base ol + p * 7) (piece_rows u ps)

-- words put in, wherever, leave no fewer
splice_longer : (t : List ℕ) (i : ℕ) (vs : List ℕ) → length t ≤ length (splice t i vs)
unfolding splice
splice_longer t i vs = simp (length-append, length-take, length-drop) (omega arith)

pub written_none : (ol : OutLayout) (O : List ℕ) (p u : ℕ) → Written ol O p u [] [] O
unfolding rows_of
written_none ol O p u = record {
  long = refl;
  ahead = refl;
  behind = λ a e h l. refl;
  is = sym (splice_none _ (seg_base ol + p * 7) ∙ splice_none O (use_base ol + u * 6));
}

-- one piece more
pub written_piece : (ol : OutLayout) (O : List ℕ) (p u : ℕ) (ps : List Piece) (us : List Use) (O₁ O₂ : List ℕ) (q : Piece) (f : ℕ)
    → Written ol O p u ps us O₁ → tables_end ol ≤ length O → p + length ps < ol.segs → f ≡ u + uses_of_pieces ps
    → O₂ ≡ splice O₁ (seg_base ol + (p + length ps) * 7) (each_piece f q) → Written ol O p u (ps ++ (q ∷ [])) us O₂
unfolding rows_of
written_piece ol O p u ps us O₁ O₂ q f w l h ef e =
    let row : List ℕ = each_piece f q in
    let B : List ℕ = splice O (use_base ol + u * 6) (use_rows us) in
    let at : ℕ = seg_base ol + p * 7 in
    let lr : length (piece_rows u ps) ≡ length ps * 7 = length_pieces u ps in
    let lb : length O ≤ length B = splice_longer O (use_base ol + u * 6) (use_rows us) in
    let k : seg_base ol + (p + length ps) * 7 ≡ at + length (piece_rows u ps) = omega arith in
    let σ : after each_piece used_by u ps ≡ f = after_pieces u ps ∙ ap (λ (n : ℕ). u + n) (sym (count_uses_of ps)) ∙ sym ef in
    let more : piece_rows u ps ++ row ≡ piece_rows u (ps ++ (q ∷ [])) =
    sym (rows_append each_piece used_by u ps (q ∷ []) ∙ ap (λ (n : ℕ). piece_rows u ps ++ (each_piece n q ++ [])) σ ∙ ap (λ (t : List ℕ). piece_rows u ps ++ t) (append-nil row)) in
    record {
      long = ap length e ∙ length_splice O₁ (seg_base ol + (p + length ps) * 7) row (omega (arith, w.long)) ∙ w.long;
      ahead = ap (λ (t : List ℕ). part 0 (seg_base ol) t) e ∙ part_behind 0 (seg_base ol) _ O₁ row (omega arith) (omega arith) (omega (arith, w.long)) ∙ w.ahead;
      behind = λ a b q r. ap (λ (t : List ℕ). part a b t) e ∙ part_ahead a b _ O₁ row (omega arith) (omega (arith, w.long)) ∙ w.behind a b q r;
      is = e ∙ ap (λ (t : List ℕ). splice t (seg_base ol + (p + length ps) * 7) row) w.is ∙ ap (λ (i : ℕ). splice (splice B at (piece_rows u ps)) i row) k
          ∙ splice_splice B at (piece_rows u ps) row (omega arith) ∙ ap (λ (t : List ℕ). splice B at t) more;
    }

-- one use more
pub written_use : (ol : OutLayout) (O : List ℕ) (p u : ℕ) (ps : List Piece) (us : List Use) (O₁ O₂ : List ℕ) (x : Use)
    → Written ol O p u ps us O₁ → tables_end ol ≤ length O → p + length ps ≤ ol.segs → u + length us < ol.uses
    → O₂ ≡ splice O₁ (use_base ol + (u + length us) * 6) (use_words x) → Written ol O p u ps (us ++ (x ∷ [])) O₂
unfolding rows_of
written_use ol O p u ps us O₁ O₂ x w l fp h e =
    let row : List ℕ = use_words x in
    let at : ℕ = use_base ol + u * 6 in
    let pieces : List ℕ = piece_rows u ps in
    let next : ℕ = use_base ol + (u + length us) * 6 in
    let uses' : List ℕ = splice O at (use_rows us) in
    let lr : length (use_rows us) ≡ length us * 6 = length_uses us in
    let lp : length pieces ≡ length ps * 7 = length_pieces u ps in
    let lu : length O ≤ length uses' = splice_longer O at (use_rows us) in
    let k : next ≡ at + length (use_rows us) = omega arith in
    let more : use_rows us ++ row ≡ use_rows (us ++ (x ∷ [])) = sym (rows_append each_use still tt us (x ∷ []) ∙ ap (λ (t : List ℕ). use_rows us ++ t) (append-nil row)) in
    record {
      long = ap length e ∙ length_splice O₁ next row (omega (arith, w.long)) ∙ w.long;
      ahead = ap (λ (t : List ℕ). part 0 (seg_base ol) t) e ∙ part_behind 0 (seg_base ol) _ O₁ row (omega arith) (omega arith) (omega (arith, w.long)) ∙ w.ahead;
      behind = λ a b q r. ap (λ (t : List ℕ). part a b t) e ∙ part_ahead a b _ O₁ row (omega arith) (omega (arith, w.long)) ∙ w.behind a b q r;
      is = e ∙ ap (λ (t : List ℕ). splice t next row) w.is
          ∙ splice_swap uses' pieces row (seg_base ol + p * 7) next (omega arith) (omega arith)
          ∙ ap (λ (t : List ℕ). splice t (seg_base ol + p * 7) pieces)
          (ap (λ (i : ℕ). splice uses' i row) k ∙ splice_splice O at (use_rows us) row (omega arith) ∙ ap (λ (t : List ℕ). splice O at t) more);
    }

-- a register more: its pieces and uses behind those held, then its row
pub holds_added : (ol : OutLayout) (O O₁ O₂ : List ℕ) (st : State) (c : Counts) (r : Register) → Holds ol O st → c ≡ counts_of st
    → Written ol O c.segs c.uses r.pieces (uses_of (segs_of r.pieces)) O₁ → O₂ ≡ splice O₁ (c.regs * 8) (register_words (register_row c.segs r))
    → c.regs < ol.regs → c.segs + length r.pieces ≤ ol.segs → c.uses + uses_of_pieces r.pieces ≤ ol.uses → Weighs r.weight → Each Typed (uses_of (segs_of r.pieces))
    → Holds ol O₂ (add_register r st)
unfolding rows_of all_pieces
holds_added ol O O₁ O₂ st c r h ec w e fr fp fu ww ty =
    let rs : List Register = st.registers in
    let en : c.regs ≡ length rs = ap (λ (x : Counts). x.regs) ec in
    let ep : c.segs ≡ length (all_pieces rs) = ap (λ (x : Counts). x.segs) ec ∙ count_pieces st in
    let eu : c.uses ≡ length (uses_of (segs_of (all_pieces rs))) = ap (λ (x : Counts). x.uses) ec ∙ count_uses st in
    let row : List ℕ = register_words (register_row c.segs r) in
    let all : all_pieces (rs ++ (r ∷ [])) ≡ all_pieces rs ++ r.pieces = all_append rs (r ∷ []) ∙ ap (λ (t : List Piece). all_pieces rs ++ t) (append-nil r.pieces) in
    let each : uses_of (segs_of (all_pieces (rs ++ (r ∷ [])))) ≡ uses_of (segs_of (all_pieces rs)) ++ uses_of (segs_of r.pieces) =
    ap (λ (t : List Piece). uses_of (segs_of t)) all ∙ uses_append (all_pieces rs) r.pieces in
    let st' : State = add_register r st in
    let rows : register_rows 0 (rs ++ (r ∷ [])) ≡ register_rows 0 rs ++ row =
    rows_append each_register past_pieces 0 rs (r ∷ [])
    ∙ ap (λ (n : ℕ). register_rows 0 rs ++ (register_words (register_row n r) ++ [])) (after_registers 0 rs ∙ zero-add _ ∙ sym ep)
    ∙ ap (λ (t : List ℕ). register_rows 0 rs ++ t) (append-nil row) in
    let pieces : piece_rows 0 (all_pieces (rs ++ (r ∷ []))) ≡ piece_rows 0 (all_pieces rs) ++ piece_rows c.uses r.pieces =
    ap (λ (t : List Piece). piece_rows 0 t) all ∙ rows_append each_piece used_by 0 (all_pieces rs) r.pieces
    ∙ ap (λ (n : ℕ). piece_rows 0 (all_pieces rs) ++ piece_rows n r.pieces) (after_pieces 0 (all_pieces rs) ∙ zero-add _ ∙ sym eu) in
    let uses' : use_rows (uses_of (segs_of (all_pieces (rs ++ (r ∷ []))))) ≡ use_rows (uses_of (segs_of (all_pieces rs))) ++ use_rows (uses_of (segs_of r.pieces)) =
    ap (λ (t : List Use). use_rows t) each ∙ rows_append each_use still tt (uses_of (segs_of (all_pieces rs))) (uses_of (segs_of r.pieces)) in
    let ln : length (rs ++ (r ∷ [])) ≡ suc (length rs) = length-append rs (r ∷ []) ∙ omega arith in
    let T = tables ol in
    let lr = length_registers 0 rs in
    let lp = length_pieces 0 (all_pieces rs) in
    let lq = length_pieces c.uses r.pieces in
    let lu = length_uses (uses_of (segs_of (all_pieces rs))) in
    let lv = length_uses (uses_of (segs_of r.pieces)) in
    let with_uses = put_more T (contents st) O h.tabled 2 (omega arith) (use_base ol + c.uses * 6) (use_rows (uses_of (segs_of r.pieces))) _ (omega arith) (omega (arith, count_uses_of r.pieces)) (sym uses') in
    let with_pieces = put_more T _ _ with_uses 1 (omega arith) (seg_base ol + c.segs * 7) (piece_rows c.uses r.pieces) _ (omega arith) (omega arith) (sym pieces) in
    let with_row = put_more T _ _ with_pieces 0 (omega arith) (c.regs * 8) row _ (omega arith) (omega arith) (sym rows) in
    record {
      tabled = subst (λ (t : List ℕ). Tabled T (contents st') t) (sym (e ∙ ap (λ (t : List ℕ). splice t (c.regs * 8) row) w.is)) with_row;
      typed = subst (λ (us : List Use). Each Typed us) (sym each) (each_append _ (uses_of (segs_of (all_pieces rs))) (uses_of (segs_of r.pieces)) h.typed ty);
      weights = each_append _ rs (r ∷ []) h.weights (each_one _ r ww);
      members = each_weaker _ _ (λ ms p. placed_more ms (length rs) (length (rs ++ (r ∷ []))) (omega arith) p) st.groups h.members;
    }

pub counts_added : (st : State) (c : Counts) (r : Register) → c ≡ counts_of st
    → record { regs = c.regs + 1; segs = c.segs + length r.pieces; uses = c.uses + uses_of_pieces r.pieces; groups = c.groups } ≡ counts_of (add_register r st)
unfolding all_pieces
counts_added st c r ec =
    let rs : List Register = st.registers in
    let st' : State = add_register r st in
    let all : all_pieces (rs ++ (r ∷ [])) ≡ all_pieces rs ++ r.pieces = all_append rs (r ∷ []) ∙ ap (λ (t : List Piece). all_pieces rs ++ t) (append-nil r.pieces) in
    let each : uses_of (segs_of (all_pieces (rs ++ (r ∷ [])))) ≡ uses_of (segs_of (all_pieces rs)) ++ uses_of (segs_of r.pieces) =
    ap (λ (t : List Piece). uses_of (segs_of t)) all ∙ uses_append (all_pieces rs) r.pieces in
    let np : pieces_in st' ≡ pieces_in st + length r.pieces = count_pieces st' ∙ ap length all ∙ length-append (all_pieces rs) r.pieces ∙ ap (λ (n : ℕ). n + length r.pieces) (sym (count_pieces st)) in
    let nu : uses_in st' ≡ uses_in st + uses_of_pieces r.pieces =
    count_uses st' ∙ ap length each ∙ length-append (uses_of (segs_of (all_pieces rs))) (uses_of (segs_of r.pieces)) ∙ (let a = count_uses st in let b = count_uses_of r.pieces in omega arith) in
    let n : length (rs ++ (r ∷ [])) ≡ length rs + 1 = length-append rs (r ∷ []) in
    ap (λ (x : Counts). record { regs = x.regs + 1; segs = x.segs + length r.pieces; uses = x.uses + uses_of_pieces r.pieces; groups = x.groups }) ec
    ∙ λ x. record { regs = sym n x; segs = sym np x; uses = sym nu x; groups = length st.groups }
