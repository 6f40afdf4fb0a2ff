-- The uses of a conflict piece and its row's words. Assumes nothing.
use mathlib.Core.Path.{◌≡◌, refl, ap, ◌∙◌}
use mathlib.Core.Bool.{false, cond}
use Rattle.std.specs.Prelude as code
use Rattle.std.specs.Prelude.{None, Some, is_some, unwrap_or}
use mathlib.Core.Option.{Option, none, some}
use mathlib.Core.List.{List, [], ◌∷◌, ◌++◌, map, append-nil}
use Prim.Native.Nat.{ℕ, zero, suc, ◌+◌, ◌-◌, ◌*◌, ◌≤◌, ◌<◌}
use native.Mathlib.Omega.{arith}
use lib.Dec.{eqb}
use lib.ListN.{length, get_or, length-append}
use Rattle.words.specs.Tab.{tab, length_tab}
use Rattle.definition.specs.declared.Value.{Value}
use Rattle.definition.specs.declared.Inst.{Inst}
use Rattle.definition.specs.declared.Use.{Use}
use Rattle.definition.specs.Types.{Turned}
use Rattle.definition.specs.Lines.{hint_in}
use Rattle.definition.specs.Build.{opening, conflict_piece}
use Rattle.definition.specs.Place.{uses_of, segs_of, uses_of_pieces}
use Rattle.uses.specs.Rows.{use_row}
use Rattle.job.specs.declared.Layout.{Layout}
use Rattle.set_part.specs.Part.{marked_use}
use Rattle.set_part.specs.declared.mark.TurnedRow.{TurnedRow}
use Rattle.set_part.specs.Turned.{row_turned}
use Rattle.virt_regs.specs.Encoding.{piece_words, each_piece}
use Rattle.virt_regs.specs.Counting.{count_uses_of}
use Rattle.pieces.specs.Conflict.{row_use, turned_row_at, turned_rows_of, param_by, open_count, conflict_row}

-- the use of a row
pub use_read : (K : List ℕ) (turned : ℕ) (W : List ℕ) (lay : Layout) (k n : ℕ) (u : Use) → n ≡ get_or K (turned + k * 4 + 1) 0 → u ≡ use_row W (lay.uses.at + n * 6) → u ≡ row_use K turned W lay k
unfolding row_use
use_read K turned W lay k n u en eu = eu ∙ ap (λ (j : ℕ). use_row W (lay.uses.at + j * 6)) en

pub open_room : (q : code.Option ℕ) (i u n : ℕ) → q ≡ Some i → u + open_count q ≤ n → u < n
open_room q i u n e = rw e (λ h. omega arith)

pub open_count_lem : (pos : Inst) (q : code.Option ℕ) → length (opening pos (param_by q)) ≡ open_count q
open_count_lem pos None = refl
open_count_lem pos (Some i) = refl

-- ---- the piece

map_tab : (f : ℕ → Turned) (i k : ℕ) → map (λ t. t.use') (tab f i k) ≡ tab (λ j. (f j).use') i k
map_tab f i zero = refl
map_tab f i (suc k) = ap (λ (l : List Use). (f i).use' ∷ l) (map_tab f (i + 1) k)

pub rows_uses : (K : List ℕ) (turned : ℕ) (W : List ℕ) (lay : Layout) (a b : ℕ) → map (λ t. t.use') (turned_rows_of K turned W lay a b) ≡ tab (row_use K turned W lay) a (b - a)
unfolding turned_rows_of turned_row_at
rows_uses K turned W lay a b = map_tab (turned_row_at K turned W lay) a (b - a)

pub piece_uses : (v : Value) (p : Inst) (q : Option ℕ) (ts : List Turned) → uses_of (segs_of (conflict_piece v p q ts ∷ [])) ≡ opening p q ++ map (λ t. t.use') ts
unfolding uses_of conflict_piece
piece_uses v p q ts = append-nil (opening p q ++ map (λ t. t.use') ts)

pub row_words : (v : Value) (p : Inst) (q : code.Option ℕ) (u n : ℕ) (ts : List Turned) → n ≡ length (opening p (param_by q) ++ map (λ t. t.use') ts)
    → piece_words (conflict_row v p q u n) ≡ each_piece u (conflict_piece v p (param_by q) ts)
unfolding conflict_row conflict_piece
row_words v p (Some i) u n ts e = ap (λ (k : ℕ). v.0 ∷ (4 * p.0) ∷ (4 * p.0 + 2) ∷ 0 ∷ 1 ∷ u ∷ k ∷ []) e
row_words v p None u n ts e = ap (λ (k : ℕ). v.0 ∷ (4 * p.0) ∷ (4 * p.0 + 2) ∷ 1 ∷ 1 ∷ u ∷ k ∷ []) e

-- ---- how many uses it has, and no fixed hint

pub count_conflict : (v : Value) (pos : Inst) (q : code.Option ℕ) (K : List ℕ) (turned : ℕ) (W : List ℕ) (lay : Layout) (a b : ℕ)
    → uses_of_pieces (conflict_piece v pos (param_by q) (turned_rows_of K turned W lay a b) ∷ []) ≡ open_count q + (b - a)
count_conflict v pos q K turned W lay a b =
    let ts : List Turned = turned_rows_of K turned W lay a b in
    let us : List Use = opening pos (param_by q) in
    count_uses_of (conflict_piece v pos (param_by q) ts ∷ [])
    ∙ ap length (piece_uses v pos (param_by q) ts)
    ∙ length-append us (map (λ t. t.use') ts)
    ∙ ap (λ (l : List Use). length us + length l) (rows_uses K turned W lay a b)
    ∙ ap (λ (n : ℕ). length us + n) (length_tab (row_use K turned W lay) a (b - a))
    ∙ ap (λ (n : ℕ). n + (b - a)) (open_count_lem pos q)

pub hint_conflict : (v : Value) (pos : Inst) (q : Option ℕ) (ts : List Turned) → hint_in (conflict_piece v pos q ts ∷ []) ≡ false
unfolding hint_in conflict_piece
hint_conflict v pos q ts = refl

-- ---- a row stands for the turned use that was kept in it

pub row_stands : (K K₀ : List ℕ) (turned marks : ℕ) (W : List ℕ) (lay : Layout) (k : ℕ) (t : TurnedRow) → get_or K (turned + k * 4) 0 ≡ t.value.0 → get_or K (turned + k * 4 + 1) 0 ≡ t.number
    → get_or K (turned + k * 4 + 2) 0 ≡ cond (is_some t.param) 1 0 → get_or K (turned + k * 4 + 3) 0 ≡ unwrap_or t.param 0 → get_or K₀ (marks + t.number) 0 ≡ 0
    → turned_row_at K turned W lay k ≡ row_turned K₀ marks W lay t
unfolding turned_row_at row_use row_turned marked_use
row_stands K K₀ turned marks W lay k t ev en eh ep em = rw (ev, en, ep, em, eh) (go t.param)
  where
    go : (q : code.Option ℕ)
        → ◌≡◌ {A = Turned} (record { value = t.value; use' = use_row W (lay.uses.at + t.number * 6); param = cond (eqb (cond (is_some q) 1 0) 0) none (some (unwrap_or q 0)) })
        (record { value = t.value; use' = use_row W (lay.uses.at + t.number * 6); param = param_by q })
    go None = refl
    go (Some i) = refl
