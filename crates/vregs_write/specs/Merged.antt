-- The gaps filled: pieces merged into a register. Assumes nothing.
use Rattle.std.specs.Prelude.{◌≡◌, refl, Bool, true, false, ◌||◌, List, [], ◌∷◌, ◌++◌, ℕ, suc, ◌+◌, ◌-◌, ◌*◌, ◌≤◌, ◌<◌, length, get_or, take, drop}
use Rattle.std.proofs.Common.{sym, ap, ◌∙◌, subst, append_assoc, zero-add, arith, length-append, length-drop, take-append-drop, length-take-le}
use Rattle.std.proofs.Math.Seq.{split_at, take-append-add, drop-append-add}
use Rattle.std.proofs.lemmas.List.{take-append-le, drop-append-le}
use Rattle.words.specs.AnyRows.{after, rows_append}
use Rattle.definition.specs.declared.LiveRangePoint.{LiveRangePoint}
use Rattle.definition.specs.declared.VirtReg.{VirtReg}
use Rattle.definition.specs.declared.Use.{Use}
use Rattle.definition.specs.Types.{Piece, Register, State}
use Rattle.definition.specs.Place.{pieces_in, uses_in, uses_of_pieces, uses_of, segs_of, with_pieces, update, inserted, with_pieces_at}
use Rattle.definition.specs.Lines.{hint_in}
use Rattle.definition.specs.Admit.{register_at, no_register}
use Rattle.virt_regs.specs.declared.OutLayout.{OutLayout}
use Rattle.virt_regs.specs.declared.Counts.{Counts}
use Rattle.words.specs.Tables.{Tabled, put_over}
use Rattle.virt_regs.specs.Each.{Each, each_append, each_front, each_back, each_weaker}
use Rattle.virt_regs.specs.Encoding.{tables, contents, seg_base, use_base, all_pieces, used_by, still, each_piece, each_use, piece_rows, use_rows, counts_of, Typed, Holds}
use Rattle.virt_regs.specs.Update.{update_split, length_update, each_update}
use Rattle.virt_regs.specs.Counting.{all_append, uses_append, count_pieces, count_uses, count_uses_of, after_pieces, length_pieces, length_uses, placed_more}
use Rattle.virt_regs.specs.Reads.{first_piece, first_use}
use Rattle.vregs_write.specs.Written.{Written}
use Rattle.vregs_write.specs.Ends.{ends_by, inserted_at, ends_le, inserted_at_lem}
use Rattle.vregs_write.specs.Opened.{Opened, opened_tables}

-- ---- the register's pieces, and all of them

pub length_inserted : (k : ℕ) (new ps : List Piece) → length (inserted_at k new ps) ≡ length ps + length new
length_inserted k new ps =
    let e : length (take k ps) + length (drop k ps) ≡ length ps = sym (length-append (take k ps) (drop k ps)) ∙ ap length (take-append-drop k ps) in
    length-append (take k ps) (new ++ drop k ps) ∙ (let q = length-append new (drop k ps) in omega arith)

hint_append : (ps qs : List Piece) → hint_in (ps ++ qs) ≡ hint_in ps || hint_in qs
unfolding hint_in
hint_append [] qs = refl
hint_append (p ∷ ps) qs = ap (λ (b : Bool). p.seg.flags.fixedhint || b) (hint_append ps qs) ∙ or_assoc p.seg.flags.fixedhint (hint_in ps) (hint_in qs)
  where
    or_assoc : (a b c : Bool) → a || (b || c) ≡ (a || b) || c
    or_assoc true b c = refl
    or_assoc false b c = refl

pub hint_inserted : (k : ℕ) (new ps : List Piece) → hint_in (inserted_at k new ps) ≡ hint_in new || hint_in ps
hint_inserted k new ps =
    hint_append (take k ps) (new ++ drop k ps)
    ∙ ap (λ (b : Bool). hint_in (take k ps) || b) (hint_append new (drop k ps))
    ∙ or_swap (hint_in (take k ps)) (hint_in new) (hint_in (drop k ps))
    ∙ ap (λ (b : Bool). hint_in new || b) (sym (hint_append (take k ps) (drop k ps)) ∙ ap hint_in (take-append-drop k ps))
  where
    or_swap : (a b c : Bool) → a || (b || c) ≡ b || (a || c)
    or_swap true true c = refl
    or_swap true false c = refl
    or_swap false b c = refl

-- all pieces, where those of register v have new ones in front of piece k
pub all_inserted : (st : State) (v : VirtReg) (k p : ℕ) (new : List Piece) → v.0 < length st.registers → k ≤ length (register_at st v).pieces → p ≡ first_piece st v + k
    → all_pieces (update (with_pieces (inserted_at k new (register_at st v).pieces)) v.0 st.registers) ≡ take p (all_pieces st.registers) ++ (new ++ drop p (all_pieces st.registers))
unfolding register_at first_piece all_pieces
all_inserted st v k p new here hk ep =
    let rs : List Register = st.registers in
    let r : Register = get_or rs v.0 no_register in
    let ps : List Piece = r.pieces in
    let xs : List Piece = all_pieces (take v.0 rs) in
    let ys : List Piece = all_pieces (drop (suc v.0) rs) in
    let whole : all_pieces rs ≡ xs ++ (ps ++ ys) = ap all_pieces (split_at rs v.0 no_register here) ∙ all_append (take v.0 rs) (r ∷ drop (suc v.0) rs) in
    let t : take p (all_pieces rs) ≡ xs ++ take k ps =
    ap (λ (n : ℕ). take n (all_pieces rs)) ep ∙ ap (λ (l : List Piece). take (length xs + k) l) whole ∙ take-append-add xs (ps ++ ys) k ∙ ap (λ (l : List Piece). xs ++ l) (take-append-le k ps ys hk) in
    let d : drop p (all_pieces rs) ≡ drop k ps ++ ys =
    ap (λ (n : ℕ). drop n (all_pieces rs)) ep ∙ ap (λ (l : List Piece). drop (length xs + k) l) whole ∙ drop-append-add xs (ps ++ ys) k ∙ drop-append-le k ps ys hk in
    ap all_pieces (update_split (with_pieces (inserted_at k new ps)) v.0 rs no_register here)
    ∙ all_append (take v.0 rs) (with_pieces (inserted_at k new ps) r ∷ drop (suc v.0) rs)
    ∙ rw (t, d) (simp append_assoc)

pub holds_merged : (ol : OutLayout) (O O₁ O₂ : List ℕ) (st : State) (c : Counts) (v : VirtReg) (k np nu : ℕ) (hint : Bool) (p u : ℕ) (new : List Piece) → Holds ol O st → c ≡ counts_of st
    → v.0 < length st.registers → k ≤ length (register_at st v).pieces → Opened ol st c v k np nu hint p u O₁ → Written ol O₁ p u new (uses_of (segs_of new)) O₂
    → np ≡ length new → nu ≡ uses_of_pieces new → hint ≡ hint_in new → c.segs + np ≤ ol.segs → c.uses + nu ≤ ol.uses → p ≤ c.segs → Each Typed (uses_of (segs_of new))
    → Holds ol O₂ (with_pieces_at v (inserted_at k new (register_at st v).pieces) st)
unfolding first_use
holds_merged ol O O₁ O₂ st c v k np nu hint p u new h ec here hk op w en eu eh fp fu hp ty =
    let rs : List Register = st.registers in
    let ps : List Piece = (register_at st v).pieces in
    let qs : List Piece = inserted_at k new ps in
    let A : List Piece = all_pieces rs in
    let X : List Piece = take p A in
    let Y : List Piece = drop p A in
    let U₁ : List Use = uses_of (segs_of X) in
    let U₂ : List Use = uses_of (segs_of Y) in
    let Un : List Use = uses_of (segs_of new) in
    let cp : c.segs ≡ length A = ap (λ (x : Counts). x.segs) ec ∙ count_pieces st in
    let cu : c.uses ≡ length (uses_of (segs_of A)) = ap (λ (x : Counts). x.uses) ec ∙ count_uses st in
    let l_x : length X ≡ p = length-take-le p A (omega arith) in
    let l_y : length Y ≡ length A - p = length-drop p A in
    let st' : State = with_pieces_at v qs st in
    let all : all_pieces st'.registers ≡ X ++ (new ++ Y) = all_inserted st v k p new here hk op.piece in
    let old : uses_of (segs_of A) ≡ U₁ ++ U₂ = ap (λ (t : List Piece). uses_of (segs_of t)) (sym (take-append-drop p A)) ∙ uses_append X Y in
    let each : uses_of (segs_of (all_pieces st'.registers)) ≡ U₁ ++ (Un ++ U₂) =
    ap (λ (t : List Piece). uses_of (segs_of t)) all ∙ uses_append X (new ++ Y) ∙ ap (λ (t : List Use). U₁ ++ t) (uses_append new Y) in
    let lu : length U₁ ≡ u = sym op.use' in
    let lo : length (uses_of (segs_of A)) ≡ length U₁ + length U₂ = ap length old ∙ length-append U₁ U₂ in
    let lv : nu ≡ length Un = eu ∙ count_uses_of new in
    let ln : length st'.registers ≡ length rs = length_update (with_pieces qs) v.0 rs in
    let σ : after each_piece used_by 0 X ≡ u = after_pieces 0 X ∙ zero-add _ ∙ lu in
    let τ : after each_piece used_by u new ≡ u + nu = after_pieces u new ∙ ap (λ (n : ℕ). u + n) (sym lv) in
    let rows : piece_rows 0 (X ++ (new ++ Y)) ≡ piece_rows 0 X ++ (piece_rows u new ++ piece_rows (u + nu) Y) =
    rows_append each_piece used_by 0 X (new ++ Y)
    ∙ ap (λ (n : ℕ). piece_rows 0 X ++ piece_rows n (new ++ Y)) σ
    ∙ ap (λ (t : List ℕ). piece_rows 0 X ++ t) (rows_append each_piece used_by u new Y ∙ ap (λ (n : ℕ). piece_rows u new ++ piece_rows n Y) τ) in
    let urows : use_rows (U₁ ++ (Un ++ U₂)) ≡ use_rows U₁ ++ (use_rows Un ++ use_rows U₂) =
    rows_append each_use still tt U₁ (Un ++ U₂) ∙ ap (λ (t : List ℕ). use_rows U₁ ++ t) (rows_append each_use still tt Un U₂) in
    let lp_x = length_pieces 0 X in
    let lp_y = length_pieces (u + nu) Y in
    let lpn = length_pieces u new in
    let lu_x = length_uses U₁ in
    let lu_y = length_uses U₂ in
    let lun = length_uses Un in
    let opened =
    opened_tables op qs (length_inserted k new ps ∙ ap (λ (n : ℕ). length ps + n) (sym en))
    (hint_inserted k new ps ∙ ap (λ (b : Bool). b || hint_in ps) (sym eh)) in
    let uses_put = put_over (tables ol) _ O₁ opened 2 (omega arith) (use_base ol + u * 6) (u * 6) (use_rows U₁) op.use_gap (use_rows U₂) (use_rows Un) _ refl refl (omega arith) (omega (arith, op.use_long)) (sym urows ∙ ap (λ (t : List Use). use_rows t) (sym each)) in
    let pieces_put = put_over (tables ol) _ _ uses_put 1 (omega arith) (seg_base ol + p * 7) (p * 7) (piece_rows 0 X) op.gap (piece_rows (u + nu) Y) (piece_rows u new) _ refl refl (omega arith) (omega (arith, op.long)) (sym rows ∙ ap (λ (t : List Piece). piece_rows 0 t) (sym all)) in
    record {
      tabled = subst (λ (t : List ℕ). Tabled (tables ol) (contents st') t) (sym w.is) pieces_put;
      typed =
          let o : Each Typed (U₁ ++ U₂) = subst (λ (us : List Use). Each Typed us) old h.typed in
          subst (λ (us : List Use). Each Typed us) (sym each) (each_append _ U₁ (Un ++ U₂) (each_front _ U₁ U₂ o) (each_append _ Un U₂ ty (each_back _ U₁ U₂ o)));
      weights = each_update _ (with_pieces qs) (λ r q. q) v.0 rs h.weights;
      members = each_weaker _ _ (λ ms q. placed_more ms (length rs) (length st'.registers) (omega arith) q) st.groups h.members;
    }

-- the place is the definition's: behind the pieces that end by a
pub merged_inserted : (ol : OutLayout) (O : List ℕ) (st : State) (v : VirtReg) (a : LiveRangePoint) (k : ℕ) (new : List Piece) → k ≡ ends_by a (register_at st v).pieces
    → Holds ol O (with_pieces_at v (inserted_at k new (register_at st v).pieces) st)
    → Holds ol O (with_pieces_at v (inserted a new (register_at st v).pieces) st)
merged_inserted ol O st v a k new ek h =
    let ps : List Piece = (register_at st v).pieces in
    let e : inserted_at k new ps ≡ inserted a new ps = ap (λ (j : ℕ). inserted_at j new ps) ek ∙ sym (inserted_at_lem a new ps) in
    subst (λ (qs : List Piece). Holds ol O (with_pieces_at v qs st)) e h

pub counts_merged : (st : State) (c : Counts) (v : VirtReg) (a : LiveRangePoint) (new : List Piece) → c ≡ counts_of st → v.0 < length st.registers
    → record { regs = c.regs; segs = c.segs + length new; uses = c.uses + uses_of_pieces new; groups = c.groups }
    ≡ counts_of (with_pieces_at v (inserted a new (register_at st v).pieces) st)
counts_merged st c v a new ec here =
    let rs : List Register = st.registers in
    let ps : List Piece = (register_at st v).pieces in
    let k : ℕ = ends_by a ps in
    let p : ℕ = first_piece st v + k in
    let A : List Piece = all_pieces rs in
    let st' : State = with_pieces_at v (inserted a new ps) st in
    let all : all_pieces st'.registers ≡ take p A ++ (new ++ drop p A) =
    ap (λ (qs : List Piece). all_pieces (update (with_pieces qs) v.0 rs)) (inserted_at_lem a new ps) ∙ all_inserted st v k p new here (ends_le a ps) refl in
    let each : uses_of (segs_of (all_pieces st'.registers)) ≡ uses_of (segs_of (take p A)) ++ (uses_of (segs_of new) ++ uses_of (segs_of (drop p A))) =
    ap (λ (t : List Piece). uses_of (segs_of t)) all ∙ uses_append (take p A) (new ++ drop p A) ∙ ap (λ (t : List Use). uses_of (segs_of (take p A)) ++ t) (uses_append new (drop p A)) in
    let old : uses_of (segs_of A) ≡ uses_of (segs_of (take p A)) ++ uses_of (segs_of (drop p A)) = ap (λ (t : List Piece). uses_of (segs_of t)) (sym (take-append-drop p A)) ∙ uses_append (take p A) (drop p A) in
    let np : pieces_in st' ≡ pieces_in st + length new =
    count_pieces st' ∙ ap length all ∙ length_inserted p new A ∙ ap (λ (n : ℕ). n + length new) (sym (count_pieces st)) in
    let lo : length (uses_of (segs_of A)) ≡ length (uses_of (segs_of (take p A))) + length (uses_of (segs_of (drop p A))) = ap length old ∙ length-append (uses_of (segs_of (take p A))) (uses_of (segs_of (drop p A))) in
    let le : length (uses_of (segs_of (take p A)) ++ (uses_of (segs_of new) ++ uses_of (segs_of (drop p A)))) ≡ length (uses_of (segs_of A)) + uses_of_pieces new =
    length-append (uses_of (segs_of (take p A))) (uses_of (segs_of new) ++ uses_of (segs_of (drop p A)))
    ∙ (let q = length-append (uses_of (segs_of new)) (uses_of (segs_of (drop p A))) in let b = count_uses_of new in omega arith) in
    let nu : uses_in st' ≡ uses_in st + uses_of_pieces new = count_uses st' ∙ ap length each ∙ le ∙ ap (λ (n : ℕ). n + uses_of_pieces new) (sym (count_uses st)) in
    let n : length st'.registers ≡ length rs = length_update (with_pieces (inserted a new ps)) v.0 rs in
    ap (λ (x : Counts). record { regs = x.regs; segs = x.segs + length new; uses = x.uses + uses_of_pieces new; groups = x.groups }) ec
    ∙ λ x. record { regs = sym n x; segs = sym np x; uses = sym nu x; groups = length st.groups }
