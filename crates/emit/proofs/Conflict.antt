-- The piece of a run of turned uses: what it begins with, the uses, the tally. Assumes nothing.
use Rattle.std.specs.Prelude as code
use Rattle.std.specs.Int.{from_bool}
use Rattle.std.specs.Prelude.{◌≡◌, refl, Bool, true, false, cond, List, [], ◌∷◌, ◌++◌, ℕ, ◌+◌, ◌-◌, ◌*◌, ◌≤◌, ◌<◌, map, length, get_or, None, Some}
use Rattle.std.proofs.Common.{sym, ap, ◌∙◌, subst, arith, add-zero, length-append}
use Rattle.words.specs.Tab.{tab, length_tab}
use Rattle.words.specs.Parts.{splice}
use Rattle.definition.specs.declared.BlockData.{BlockData}
use Rattle.definition.specs.declared.Inst.{Inst}
use Rattle.definition.specs.declared.Remat.{Remat}
use Rattle.definition.specs.declared.Use.{Use}
use Rattle.definition.specs.declared.UseKind.TheVariants.{BlockparamIn}
use Rattle.definition.specs.declared.Value.{Value}
use Rattle.definition.specs.Types.{Job, Piece, Turned}
use Rattle.definition.specs.RegInfo.{value_at}
use Rattle.definition.specs.Build.{opening, conflict_piece}
use Rattle.definition.specs.Entry.{insts_of}
use Rattle.definition.specs.Place.{uses_of, segs_of, uses_of_pieces, total}
use Rattle.job.specs.declared.Layout.{Layout}
use Rattle.live_range.specs.Ranges.{new_insts, range_of}
use Rattle.uses.specs.Rows.{use_row}
use Rattle.virt_regs.specs.declared.OutLayout.{OutLayout}
use Rattle.virt_regs.specs.declared.PieceRow.{PieceRow}
use Rattle.virt_regs.specs.Each.{Each}
use Rattle.virt_regs.specs.Encoding.{seg_base, use_base, tables_end, use_words, piece_words, each_piece}
use Rattle.vreg_weight.specs.Sorted.{Sorted}
use Rattle.vreg_weight.specs.Sound.{each_left, each_right}
use Rattle.vreg_weight.specs.Weighed.{Inside}
use Rattle.vreg_weight.specs.Fair.{Fair, fair_inside}
use Rattle.pieces.specs.Conflict.{row_use, turned_rows_of, param_by, open_count, conflict_row}
use Rattle.pieces.proofs.ConflictRows.{rows_uses, piece_uses, open_count_lem, row_words}
use Rattle.emit.specs.declared.near.Near.{Near}
use Rattle.emit.specs.declared.tally.Costs.{Costs}
use Rattle.emit.specs.declared.tally.Tally.{Tally}
use Rattle.emit.specs.Told.{NearFits, use_adds, InsideRun, Counted, UsesAdd, Told}
use Rattle.emit.proofs.Uses.{uses_nil, uses_both, uses_one}
use Rattle.emit.proofs.Pieces.{told_more}
use Rattle.emit.proofs.Parts.{inside_tab}

-- ---- the opening

module _ (J : Job) (ol : OutLayout) (u : ℕ) (r : Remat) (pos : Inst) (q : code.Option ℕ) where
  pub open_none : (O : List ℕ) (s : Costs) → q ≡ None → NearFits J.blocks s.near
      → UsesAdd J ol u r (opening pos (param_by q)) O s O s
  open_none O s e n = rw e (uses_nil J ol u r O s n)

  pub open_some : (i : ℕ) (O O₁ : List ℕ) (s t : Costs) → q ≡ Some i → tables_end ol ≤ length O
      → u + open_count q ≤ ol.uses
      → O₁ ≡ splice O (use_base ol + u * 6) (use_words (record { pos = pos; kind = BlockparamIn i }))
      → NearFits J.blocks t.near
      → t.total.value ≡ use_adds J r s.total.value (record { pos = pos; kind = BlockparamIn i })
      → UsesAdd J ol u r (opening pos (param_by q)) O s O₁ t
  open_some i O O₁ s t e l = rw e (λ h w n es. uses_one J ol u r (record { pos = pos; kind = BlockparamIn i }) O O₁ s t l (omega arith) w n es)

pub open_inside : (J : Job) (pos : Inst) (q : code.Option ℕ) (i : ℕ) → q ≡ Some i → Inside J (opening pos (param_by q))
    → pos.0 < insts_of J.blocks
unfolding Inside Each
open_inside J pos q i e = rw e (λ h. h.0)

-- ---- the turned uses

pub turned_read : (K : List ℕ) (turned : ℕ) (W : List ℕ) (lay : Layout) (k n : ℕ) (x : List ℕ)
    → n ≡ get_or K (turned + k * 4 + 1) 0 → x ≡ use_words (use_row W (lay.uses.at + n * 6))
    → x ≡ use_words (row_use K turned W lay k)
unfolding row_use
turned_read K turned W lay k n x en ex = ex ∙ ap (λ (j : ℕ). use_words (use_row W (lay.uses.at + j * 6))) en

-- ---- what a piece that can be weighed has

module _ (J : Job) (v : Value) (pos : Inst) (q : code.Option ℕ) (K : List ℕ) (turned : ℕ) (W : List ℕ) (lay : Layout) (a b : ℕ)
    (fair : Fair J 4096 (conflict_piece v pos (param_by q) (turned_rows_of K turned W lay a b) ∷ [])) where
  all_inside : Inside J (opening pos (param_by q) ++ tab (row_use K turned W lay) a (b - a))
  all_inside =
      let ts : List Turned = turned_rows_of K turned W lay a b in
      let e : uses_of (segs_of (conflict_piece v pos (param_by q) ts ∷ [])) ≡ opening pos (param_by q) ++ tab (row_use K turned W lay) a (b - a) =
      piece_uses v pos (param_by q) ts
      ∙ ap (λ (l : List Use). opening pos (param_by q) ++ l) (rows_uses K turned W lay a b) in
      subst (λ (l : List Use). Inside J l) e (fair_inside J 4096 (conflict_piece v pos (param_by q) ts ∷ []) fair)

  pub opening_inside : Inside J (opening pos (param_by q))
  unfolding Inside
  opening_inside = each_left (λ u. u.pos.0 < insts_of J.blocks) (opening pos (param_by q)) (tab (row_use K turned W lay) a (b - a)) all_inside

  turned_tab : Inside J (tab (row_use K turned W lay) a (b - a))
  unfolding Inside
  turned_tab = each_right (λ u. u.pos.0 < insts_of J.blocks) (opening pos (param_by q)) (tab (row_use K turned W lay) a (b - a)) all_inside

  pub turned_inside : a ≤ b → InsideRun J (row_use K turned W lay) a b
  turned_inside h =
      let e : a + (b - a) ≡ b = omega arith in
      subst (λ (n : ℕ). InsideRun J (row_use K turned W lay) a n) e (inside_tab J (row_use K turned W lay) a (b - a) turned_tab)

  pub conflict_low : 4 * pos.0 + 2 ≤ 16384
  unfolding Sorted conflict_piece
  conflict_low = omega (arith, fair.sorted.2)

-- it touches one instruction
pub conflict_few : (v : Value) (pos : Inst) (q : code.Option ℕ) (u n k : ℕ) (row : PieceRow) (t : Tally)
    → row ≡ conflict_row v pos q u n → t.insts ≡ 0 → 4 * pos.0 + 2 ≤ 16384
    → t.insts + new_insts k (record { «from» = row.«from»; to = row.to }) ≤ 4096
unfolding conflict_row
conflict_few v pos q u n k row t e z h = rw e (omega arith)

-- ---- all of it

conflict_counted : (v : Value) (pos : Inst) (q : code.Option ℕ) (u n : ℕ) (ts : List Turned) (row : PieceRow) (t t' : Tally) (c : Costs)
    → row ≡ conflict_row v pos q u n
    → Counted t (record { «from» = row.«from»; to = row.to }) false c t'
    → Counted t (range_of (conflict_piece v pos (param_by q) ts).seg) (conflict_piece v pos (param_by q) ts).seg.flags.fixedhint c t'
unfolding conflict_row conflict_piece
conflict_counted v pos q u n ts row t t' c e h = subst (λ (r : PieceRow). Counted t (record { «from» = r.«from»; to = r.to }) false c t') e h

conflict_uses : (J : Job) (ol : OutLayout) (u : ℕ) (rm : Remat) (v : Value) (pos : Inst) (q : code.Option ℕ) (K : List ℕ) (turned : ℕ) (W : List ℕ) (lay : Layout) (a b : ℕ) (O₁ O₂ : List ℕ) (s t : Costs)
    → UsesAdd J ol u rm (opening pos (param_by q) ++ tab (row_use K turned W lay) a (b - a)) O₁ s O₂ t
    → UsesAdd J ol u rm (conflict_piece v pos (param_by q) (turned_rows_of K turned W lay a b)).seg.uses O₁ s O₂ t
unfolding conflict_piece
conflict_uses J ol u rm v pos q K turned W lay a b O₁ O₂ s t w =
    subst (λ (l : List Use). UsesAdd J ol u rm (opening pos (param_by q) ++ l) O₁ s O₂ t) (sym (rows_uses K turned W lay a b)) w

pub conflict_told : (J : Job) (ol : OutLayout) (p u k : ℕ) (rm : Remat) (v : Value) (pos : Inst) (q : code.Option ℕ) (K : List ℕ) (turned : ℕ) (W : List ℕ) (lay : Layout) (a b : ℕ)
    (O O₁ O₂ O₃ : List ℕ) (row : PieceRow) (t t' : Tally) (begun costs : Costs)
    → Told J ol O p u [] O t → tables_end ol ≤ length O → p < ol.segs → k ≡ open_count q
    → row ≡ conflict_row v pos q u (k + (b - a))
    → O₁ ≡ splice O (seg_base ol + p * 7) (piece_words row) → rm ≡ (value_at J v).remat
    → UsesAdd J ol u rm (opening pos (param_by q)) O₁ t.costs O₂ begun
    → UsesAdd J ol (u + k) rm (tab (row_use K turned W lay) a (b - a)) O₂ begun O₃ costs
    → Counted t (record { «from» = row.«from»; to = row.to }) false costs t'
    → Told J ol O p u (conflict_piece v pos (param_by q) (turned_rows_of K turned W lay a b) ∷ []) O₃ t'
unfolding uses_of_pieces total conflict_piece
conflict_told J ol p u k rm v pos q K turned W lay a b O O₁ O₂ O₃ row t t' begun costs told l h ek er e em w₁ w₂ ct =
    let us : List Use = opening pos (param_by q) in
    let xs : List Use = tab (row_use K turned W lay) a (b - a) in
    let ts : List Turned = turned_rows_of K turned W lay a b in
    let piece : Piece = conflict_piece v pos (param_by q) ts in
    let n : k + (b - a) ≡ length (us ++ map (λ t. t.use') ts) =
    sym (length-append us (map (λ t. t.use') ts) ∙ ap (λ (l : List Use). length us + length l) (rows_uses K turned W lay a b) ∙ ap (λ (j : ℕ). length us + j) (length_tab (row_use K turned W lay) a (b - a))
    ∙ ap (λ (j : ℕ). j + (b - a)) (open_count_lem pos q ∙ sym ek)) in
    let words : piece_words row ≡ each_piece u piece = ap piece_words er ∙ row_words v pos q u (k + (b - a)) ts n in
    let all : UsesAdd J ol u rm piece.seg.uses O₁ t.costs O₃ costs =
    conflict_uses J ol u rm v pos q K turned W lay a b O₁ O₃ t.costs costs
    (uses_both J ol u rm us xs (u + k) O₁ O₂ O₃ t.costs begun costs w₁ (ap (λ (j : ℕ). u + j) (ek ∙ sym (open_count_lem pos q))) w₂) in
    told_more J ol p u piece rm O O₁ O₃ t t' costs l h (e ∙ ap (λ (ws : List ℕ). splice O (seg_base ol + p * 7) ws) words) em all
    (conflict_counted v pos q u (k + (b - a)) ts row t t' costs er ct) O p u [] told (sym (add-zero p)) (sym (add-zero u))

-- how many uses the opening has, off a bool
pub count_open : (b : Bool) → from_bool b ≡ cond b 1 0
count_open true = refl
count_open false = refl

pub near_same : (bs : List BlockData) (nr nr' : Near) → nr' ≡ nr → NearFits bs nr → NearFits bs nr'
near_same bs nr nr' e n = subst (λ (x : Near). NearFits bs x) (sym e) n
