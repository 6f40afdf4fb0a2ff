-- One piece more: its row, its uses, and the tally with it. Assumes nothing.
use Rattle.std.specs.Prelude.{◌≡◌, refl, Bool, true, false, ◌||◌, List, [], ◌∷◌, ◌++◌, ℕ, ◌+◌, ◌-◌, ◌*◌, ◌≤◌, ◌<◌, max, length, Float}
use Rattle.std.proofs.Common.{length-append, sym, ap, ◌∙◌, subst, arith, append-nil}
use Rattle.words.specs.Tab.{tab}
use Rattle.words.specs.Parts.{splice}
use Rattle.definition.specs.declared.Remat.{Remat}
use Rattle.definition.specs.declared.Use.{Use}
use Rattle.definition.specs.Types.{Job, Piece}
use Rattle.definition.specs.RegInfo.{zero_f, value_at}
use Rattle.definition.specs.LiveRange.{next_inst, inst_of, touched, live_insts}
use Rattle.definition.specs.Lines.{hint_in}
use Rattle.definition.specs.Weights.{sum_uses, sum_segs}
use Rattle.definition.specs.Place.{uses_of, segs_of, uses_of_pieces}
use Rattle.live_range.specs.Ranges.{range_of, new_insts}
use Rattle.set_part.specs.declared.PartSeg.{PartSeg}
use Rattle.set_part.specs.Part.{seg_by}
use Rattle.virt_regs.specs.declared.OutLayout.{OutLayout}
use Rattle.virt_regs.specs.declared.PieceRow.{PieceRow}
use Rattle.virt_regs.specs.Encoding.{seg_base, tables_end, piece_words, each_piece}
use Rattle.virt_regs.specs.Counting.{uses_append, count_uses_of}
use Rattle.vregs_write.specs.Written.{Written, written_none, written_piece}
use Rattle.pieces.specs.Rows.{row_of}
use Rattle.pieces.proofs.PartRows.{row_words}
use Rattle.emit.specs.declared.near.Near.{Near}
use Rattle.emit.specs.declared.tally.Costs.{Costs}
use Rattle.emit.specs.declared.tally.Tally.{Tally}
use Rattle.emit.specs.Told.{NearFits, own_piece, range_in, Counted, counted_by, UsesAdd, Told, PieceAdds}

-- ---- nothing yet

pub told_none : (J : Job) (ol : OutLayout) (O : List ℕ) (p u : ℕ) (t : Tally) (nr : Near)
    → (t.costs.near ≡ nr) × (t.costs.total.value ≡ zero_f) × (t.insts ≡ 0) × (t.counted.0 ≡ 0) × (t.hint ≡ false)
    → NearFits J.blocks nr → Told J ol O p u [] O t
unfolding sum_segs live_insts touched counted_by hint_in uses_of
told_none J ol O p u t nr e n = record {
  written = written_none ol O p u;
  sum = e.1;
  insts = e.2;
  hint = e.4;
  counted = e.3;
  near = subst (λ (x : Near). NearFits J.blocks x) (sym e.0) n;
}

-- ---- what a piece behind others adds

sum_more : (J : Job) (sum : Float) (ps : List Piece) (q : Piece)
    → sum_segs J sum (segs_of (ps ++ (q ∷ []))) ≡ sum_uses J (value_at J q.seg.value).remat (sum_segs J sum (segs_of ps)) q.seg.uses
unfolding sum_segs
sum_more J sum [] q = refl
sum_more J sum (p ∷ ps) q = sum_more J (sum_uses J (value_at J p.seg.value).remat sum p.seg.uses) ps q

pub touched_more : (n : ℕ) (ps : List Piece) (q : Piece)
    → touched n (segs_of (ps ++ (q ∷ []))) ≡ touched n (segs_of ps) + new_insts (counted_by n (segs_of ps)) (range_of q.seg)
unfolding touched counted_by
touched_more n [] q = omega arith
touched_more n (p ∷ ps) q =
    let ih = touched_more (next_inst p.seg.to) ps q in
    let more : ℕ = next_inst p.seg.to - max n (inst_of p.seg.«from») in
    ap (λ (k : ℕ). more + k) ih ∙ omega arith

counted_more : (n : ℕ) (ps : List Piece) (q : Piece) → counted_by n (segs_of (ps ++ (q ∷ []))) ≡ next_inst q.seg.to
unfolding counted_by
counted_more n [] q = refl
counted_more n (p ∷ ps) q = counted_more (next_inst p.seg.to) ps q

or_false : (x : Bool) → x || false ≡ x
or_false true = refl
or_false false = refl

or_assoc : (x y z : Bool) → x || (y || z) ≡ (x || y) || z
or_assoc true y z = refl
or_assoc false y z = refl

hint_more : (ps : List Piece) (q : Piece) → hint_in (ps ++ (q ∷ [])) ≡ hint_in ps || q.seg.flags.fixedhint
unfolding hint_in
hint_more [] q = or_false q.seg.flags.fixedhint
hint_more (p ∷ ps) q = ap (λ (b : Bool). p.seg.flags.fixedhint || b) (hint_more ps q) ∙ or_assoc p.seg.flags.fixedhint (hint_in ps) q.seg.flags.fixedhint

uses_more : (ps : List Piece) (q : Piece) → uses_of (segs_of (ps ++ (q ∷ []))) ≡ uses_of (segs_of ps) ++ q.seg.uses
unfolding uses_of
uses_more ps q = uses_append ps (q ∷ []) ∙ ap (λ (l : List Use). uses_of (segs_of ps) ++ l) (append-nil q.seg.uses)

-- ---- for every source: the row of a piece and its uses were written, and its costs, instructions and hint counted

pub told_more : (J : Job) (ol : OutLayout) (p u : ℕ) (q : Piece) (rm : Remat) (O₁ O₂ O₃ : List ℕ) (t t' : Tally) (costs : Costs)
    → tables_end ol ≤ length O₁ → p < ol.segs
    → O₂ ≡ splice O₁ (seg_base ol + p * 7) (each_piece u q) → rm ≡ (value_at J q.seg.value).remat
    → UsesAdd J ol u rm q.seg.uses O₂ t.costs O₃ costs
    → Counted t (range_of q.seg) q.seg.flags.fixedhint costs t' → PieceAdds J ol p u q O₁ t O₃ t'
unfolding live_insts
told_more J ol p u q rm O₁ O₂ O₃ t t' costs l h e er w et O p₀ u₀ ps told ep eu =
    let n : uses_of_pieces ps ≡ length (uses_of (segs_of ps)) = count_uses_of ps in
    let row : Written ol O p₀ u₀ (ps ++ (q ∷ [])) (uses_of (segs_of ps)) O₂ =
    written_piece ol O p₀ u₀ ps (uses_of (segs_of ps)) O₁ O₂ q u told.written (omega (arith, told.written.long)) (omega arith) eu
    (e ∙ ap (λ (k : ℕ). splice O₁ (seg_base ol + k * 7) (each_piece u q)) ep) in
    record {
      written = subst (λ (us : List Use). Written ol O p₀ u₀ (ps ++ (q ∷ [])) us O₃) (sym (uses_more ps q)) (w.written O p₀ u₀ (ps ++ (q ∷ [])) (uses_of (segs_of ps)) row (omega (arith, length-append ps (q ∷ []))) (omega arith));
      sum =
          ap (λ (c : Costs). c.total.value) et.costs
          ∙ w.sum
          ∙ ap (λ (r : Remat). sum_uses J r t.costs.total.value q.seg.uses) er
          ∙ ap (λ (y : Float). sum_uses J (value_at J q.seg.value).remat y q.seg.uses) told.sum
          ∙ sym (sum_more J zero_f ps q);
      insts =
          et.insts
          ∙ ap (λ (k : ℕ). t.insts + new_insts k (range_of q.seg)) told.counted
          ∙ ap (λ (k : ℕ). k + new_insts (counted_by 0 (segs_of ps)) (range_of q.seg)) told.insts
          ∙ sym (touched_more 0 ps q);
      hint = et.hint ∙ ap (λ (b : Bool). b || q.seg.flags.fixedhint) told.hint ∙ sym (hint_more ps q);
      counted = et.counted ∙ sym (counted_more 0 ps q);
      near = subst (λ (c : Costs). NearFits J.blocks c.near) (sym et.costs) w.near;
    }

-- a piece of the job's uses
pub own_more : (J : Job) (ol : OutLayout) (p u : ℕ) (f : ℕ → Use) (s : PartSeg) (row : PieceRow) (rm : Remat) (O₁ O₂ O₃ : List ℕ) (t t' : Tally) (costs : Costs)
    → tables_end ol ≤ length O₁ → p < ol.segs
    → row ≡ row_of s u → O₂ ≡ splice O₁ (seg_base ol + p * 7) (piece_words row) → rm ≡ (value_at J s.value).remat
    → UsesAdd J ol u rm (tab f s.first (s.end - s.first)) O₂ t.costs O₃ costs
    → Counted t (range_in s) s.flags.fixedhint costs t' → PieceAdds J ol p u (own_piece f s) O₁ t O₃ t'
unfolding seg_by
own_more J ol p u f s row rm O₁ O₂ O₃ t t' costs l h e₀ e er w et =
    told_more J ol p u (own_piece f s) rm O₁ O₂ O₃ t t' costs l h
    (e ∙ ap (λ (r : PieceRow). splice O₁ (seg_base ol + p * 7) (piece_words r)) e₀ ∙ ap (λ (ws : List ℕ). splice O₁ (seg_base ol + p * 7) ws) (row_words f s u)) er w et
