-- The steps of `put_sorted`, from the table of starts to the sorted rows: what each hands on to the next. `opened`,
-- `no_more`, `above`, `listed`. Assumes nothing.
use Prim.Native.Nat.{ℕ, zero, suc, ◌+◌, ◌-◌, ◌*◌, ◌≤◌, ◌<◌}
use native.Mathlib.Omega.{arith}
use mathlib.Core.Path.{◌≡◌, sym, ap, ◌∙◌}
use mathlib.Core.Bool.{true}
use mathlib.Core.List.{List}
use lib.ListN.{length}
use Rattle.definition.specs.declared.BlockData.{BlockData}
use Rattle.definition.specs.declared.CutMove.{CutMove}
use Rattle.definition.specs.declared.Side.{Side}
use Rattle.definition.specs.Types.{inst}
use Rattle.definition.specs.Entry.{insts_of, every, block_ok}
use Rattle.definition.specs.CutMoves.{infinity, chosen_of, edge_of, move_of, moves_from}
use Rattle.definition.specs.CutMoves.{steps_of, sorted, moves_among, cut_moves}
use Rattle.words.specs.Parts.{splice, pad}
use Rattle.words.specs.RowsAt.{rows_at}
use Rattle.function.specs.declared.starts.table.BlockStarts.{BlockStarts}
use Rattle.function.specs.Table.{Encodes}
use Rattle.cut_moves.specs.Rows.{row_of, row_words, key_of}
use Rattle.cut_moves.specs.Merges.{length_sorted}
use Rattle.split_placement.proofs.Chosen.{Judges, first_judges}
use Rattle.split_placement.specs.Places.{bits_in}
use Rattle.split_placement.proofs.Edge.{edge_above}
use Rattle.cut_moves.specs.Answer.{move_words}
use Rattle.cut_moves.proofs.Rows.{moves_more, step_long}
use Rattle.cut_moves.proofs.Same.{Open, open_there, open_finite, table_chosen, moves_by_table}
use Rattle.cut_moves.proofs.Lists.{sorted_there}

-- no more moves than blocks
moves_few : (side : Side) (f : ℕ → ℕ) (c e i k : ℕ) → length (moves_from side f c e i k) ≤ k
unfolding moves_from
moves_few side f c e i zero = omega arith
moves_few side f c e i (suc k) =
    omega (
      arith,
      ap length (moves_more side f c e i k),
      step_long (move_of side f c e i) (moves_from side f c e (suc i) k),
      moves_few side f c e (suc i) k,
    )

-- the first and the last open block found in the table
pub opened : (t : BlockStarts) (bs : List BlockData) (a b : ℕ) (side : Side) (lo hi : ℕ) → Encodes t bs
    → every block_ok bs ≡ true → a < b → b < insts_of bs → Judges t side (a + 1) lo → Judges t side b hi
    → Open t bs a b side lo hi
opened t bs a b side lo hi s ok h l first last =
    record {
      table = s;
      ok = ok;
      order = h;
      within = l;
      low = first bs s (omega (arith, h, l)) ∙ first_judges side bs a;
      high = last bs s l;
    }

module _ {t : BlockStarts} {bs : List BlockData} {a b : ℕ} {side : Side} {lo hi : ℕ} (o : Open t bs a b side lo hi)
    (c e : ℕ) where
  -- the moves of the open blocks, by rising block
  abbrev ms : List CutMove
  ms = moves_from side (bits_in t) c e lo (suc hi - lo)

  pub no_more : (k : ℕ) → k ≡ length ms → k ≤ t.n
  no_more k ek = omega (arith, ek, moves_few side (bits_in t) c e lo (suc hi - lo), open_there o)

  module _ (ec : c ≡ chosen_of side (bits_in t) lo lo (hi - lo))
      (ee : e ≡ edge_of side (bits_in t) c infinity lo (suc hi - lo)) where
    pub above : bits_in t c < e
    above =
        let p = table_chosen o ec in
        omega (arith, ee, edge_above side (bits_in t) lo hi c p (open_finite o c p.high))

    by_edge : sorted steps_of ms ≡ cut_moves bs (inst a) (inst b) side
    unfolding moves_among
    by_edge =
        ap (λ (x : ℕ). sorted steps_of (moves_from side (bits_in t) c x lo (suc hi - lo))) ee ∙ moves_by_table o ec

    pub listed : (k m : ℕ) (X Y : List ℕ) → t.n * 3 ≤ m → k ≡ length ms → X ≡ pad m (move_words ms)
        → Y ≡ splice X 0 (row_words (sorted key_of (rows_at row_of X 0 3 k)))
        → (k ≡ length (cut_moves bs (inst a) (inst b) side))
        × (Y ≡ pad m (move_words (cut_moves bs (inst a) (inst b) side)))
    listed k m X Y fit ek ex ey =
        let fits : length ms * 3 ≤ m = omega (arith, no_more k ek, ek) in (
          ek ∙ sym (length_sorted steps_of ms) ∙ ap length by_edge,
          ey ∙ (λ x. splice (ex x) 0 (row_words (sorted key_of (rows_at row_of (ex x) 0 3 (ek x)))))
              ∙ sorted_there m ms fits ∙ ap (λ (z : List CutMove). pad m (move_words z)) by_edge,
        )
