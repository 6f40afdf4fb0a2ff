-- What the words of a list are: its uses, a piece's uses, the uses of a part. Assumes nothing.
use Rattle.std.specs.Prelude.{◌≡◌, get_or}
use Rattle.std.proofs.Math.Path.{ap}
use Rattle.std.proofs.Common.{◌∙◌, zero-add}
use mathlib.Core.List.{List, ◌∷◌, ◌++◌, append_assoc}
use Prim.Native.Nat.{ℕ, suc, ◌+◌, ◌-◌, ◌*◌, ◌≤◌, ◌<◌}
use native.Mathlib.Omega.{arith}
use Rattle.std.proofs.Math.ListN.{length, take, drop, replicate, length-append}
use Rattle.std.proofs.Math.Seq.{split_at, length-take-le}
use Rattle.words.specs.Parts.{pad}
use Rattle.words.specs.AnyRows.{rows_append}
use Rattle.words.specs.RowsAt.{Reads, rows_at_words}
use Rattle.definition.specs.declared.Use.{Use}
use Rattle.definition.specs.Types.{Piece, State, inst}
use Rattle.definition.specs.Place.{pieces_in, uses_in, uses_of, segs_of}
use Rattle.uses.specs.Rows.{kind_of, use_row, uses_at}
use Rattle.job.specs.declared.Layout.{Layout}
use Rattle.set_part.specs.declared.SetPart.{SetPart}
use Rattle.uses.specs.declared.lists.Source.TheVariants.{Added}
use Rattle.uses.specs.declared.lists.UseList.{UseList}
use Rattle.uses.specs.Lists.{table_of}
use Rattle.virt_regs.specs.declared.OutLayout.{OutLayout}
use Rattle.virt_regs.specs.declared.PieceRow.{PieceRow}
use Rattle.words.specs.Part.{part, part_get, part_cut, part_middle}
use Rattle.virt_regs.specs.Encoding.{use_base, group_base, all_pieces, still, each_use, use_rows, Holds}
use Rattle.virt_regs.specs.Held.{held_long, fit_uses}
use Rattle.virt_regs.specs.Counting.{uses_append, count_pieces, count_uses, length_uses}
use Rattle.virt_regs.specs.Reads.{no_piece, piece_at, first_use, piece_held}
use Rattle.virt_regs.specs.View.{uses_held}
use Rattle.vreg_uses.specs.Shown.{part_list, piece_list, table_at, Listed, shown_words}
use Rattle.job.specs.Layout as layout

-- a use is read from the six words of its row
reads_use : Reads 6 use_row
unfolding use_row
reads_use W U i k f =
    let w₀ : get_or W i 0 ≡ get_or U k 0 =
    let a : i ≡ i + 0 = omega arith in
    let b : k + 0 ≡ k = omega arith in
    ap (λ (n : ℕ). get_or W n 0) a ∙ f 0 (omega arith) ∙ ap (λ (n : ℕ). get_or U n 0) b in
    λ x. record { pos = inst (f 1 (omega arith) x); kind = kind_of (w₀ x) (f 2 (omega arith) x) (f 3 (omega arith) x) (f 4 (omega arith) x) (f 5 (omega arith) x) }

-- the uses in the words shown are those of the table, from the list's first on
pub shown_uses : (W : List ℕ) (lay : Layout) (O : List ℕ) (ol : OutLayout) (l : UseList)
    → uses_at (shown_words W lay O ol l) 0 l.count ≡ uses_at (table_of W O l.source) (table_at lay ol l.source + l.first * 6) l.count
unfolding uses_at shown_words
shown_uses W lay O ol l =
    let T : List ℕ = table_of W O l.source in
    let at : ℕ = table_at lay ol l.source + l.first * 6 in
    rows_at_words use_row (part at (at + l.count * 6) T) T 0 at 6 l.count reads_use
    (λ j k.
    ap (λ (n : ℕ). get_or (part at (at + l.count * 6) T) n 0) (zero-add j) ∙ part_get at (at + l.count * 6) j T (omega arith))

-- ---- the uses of a part are a part of the job's

-- the rows of uses `first` to `end` - 1 of the job
pub part_shown : (W : List ℕ) (lay : Layout) (O : List ℕ) (ol : OutLayout) (sp : SetPart) → sp.first ≤ sp.end
    → shown_words W lay O ol (part_list sp) ≡ part (lay.uses.at + sp.first * 6) (lay.uses.at + sp.end * 6) W
unfolding shown_words part_list
part_shown W lay O ol sp h =
    let e : lay.uses.at + sp.first * 6 + (sp.end - sp.first) * 6 ≡ lay.uses.at + sp.end * 6 = omega arith in
    ap (λ (n : ℕ). part (lay.uses.at + sp.first * 6) n W) e

pub part_uses : (W : List ℕ) (lay : Layout) (O : List ℕ) (ol : OutLayout) (sp : SetPart)
    → uses_at (shown_words W lay O ol (part_list sp)) 0 (sp.end - sp.first) ≡ layout.job_uses use_row W lay sp.first sp.end
unfolding part_list uses_at layout.job_uses
part_uses W lay O ol sp = shown_uses W lay O ol (part_list sp)

pub part_listed : (lay : Layout) (ol : OutLayout) (sp : SetPart) → sp.first ≤ sp.end → sp.end ≤ lay.uses.n → Listed lay ol (part_list sp)
unfolding Listed part_list
part_listed lay ol sp h k = omega arith

-- ---- a piece of a result

module _ (ol : OutLayout) (O : List ℕ) (st : State) (h : Holds ol O st) where
  -- the list of piece i
  pub piece_list_lem : (i : ℕ) → i < pieces_in st → piece_list O ol i ≡ record { source = Added; first = first_use st i; count = length (piece_at st i).seg.uses }
  unfolding piece_list
  piece_list_lem i l = ap (λ (r : PieceRow). record { source = Added; first = r.first; count = r.uses }) (piece_held ol O st h i l)

  -- all uses, cut at those of piece i
  around : (i : ℕ) → i < pieces_in st
      → uses_of (segs_of (all_pieces st.registers))
      ≡ uses_of (segs_of (take i (all_pieces st.registers))) ++ ((piece_at st i).seg.uses ++ uses_of (segs_of (drop (suc i) (all_pieces st.registers))))
  unfolding piece_at uses_of
  around i l =
      let A : List Piece = all_pieces st.registers in
      ap (λ (t : List Piece). uses_of (segs_of t)) (split_at A i no_piece (omega (arith, count_pieces st))) ∙ uses_append (take i A) (get_or A i no_piece ∷ drop (suc i) A)

  uses_in_lem : (i : ℕ) → i < pieces_in st → first_use st i + length (piece_at st i).seg.uses ≤ uses_in st
  unfolding first_use
  uses_in_lem i l =
      let A : List Piece = all_pieces st.registers in
      let us : List Use = (piece_at st i).seg.uses in
      let xs : List Use = uses_of (segs_of (take i A)) in
      let ys : List Use = uses_of (segs_of (drop (suc i) A)) in
      let n : length (uses_of (segs_of A)) ≡ length xs + (length us + length ys) = ap length (around i l) ∙ simp length-append in
      omega (arith, count_uses st)

  -- its list lies in the result's use table
  pub piece_listed : (lay : Layout) (i : ℕ) → i < pieces_in st → Listed lay ol (piece_list O ol i)
  unfolding Listed
  piece_listed lay i l = rw (piece_list_lem i l) (omega (arith, uses_in_lem i l, fit_uses h))

  -- the use rows of piece i
  rows_here : (i : ℕ) → i < pieces_in st
      → part (use_base ol + first_use st i * 6) (use_base ol + first_use st i * 6 + length (piece_at st i).seg.uses * 6) O ≡ use_rows (piece_at st i).seg.uses
  unfolding first_use pad
  rows_here i l =
      let A : List Piece = all_pieces st.registers in
      let us : List Use = (piece_at st i).seg.uses in
      let xs : List Use = uses_of (segs_of (take i A)) in
      let ys : List Use = uses_of (segs_of (drop (suc i) A)) in
      let Z : List ℕ = replicate (ol.uses * 6 - length (use_rows (uses_of (segs_of A)))) 0 in
      let T : List ℕ = take (use_base ol) O in
      let rest : List ℕ = drop (group_base ol) O in
      let rows : use_rows (uses_of (segs_of A)) ≡ use_rows xs ++ (use_rows us ++ use_rows ys) =
      ap (λ (t : List Use). use_rows t) (around i l) ∙ rows_append each_use still tt xs (us ++ ys) ∙ ap (λ (t : List ℕ). use_rows xs ++ t) (rows_append each_use still tt us ys) in
      let whole : O ≡ (T ++ use_rows xs) ++ (use_rows us ++ (use_rows ys ++ (Z ++ rest))) =
      part_cut (use_base ol) (group_base ol) O (omega arith)
      ∙ ap (λ (t : List ℕ). T ++ (t ++ rest)) (Rattle.virt_regs.specs.Held.part_uses h ∙ ap (λ (t : List ℕ). t ++ Z) rows)
      ∙ simp append_assoc in
      let a : ℕ = use_base ol + length xs * 6 in
      let lt : length (T ++ use_rows xs) ≡ use_base ol + length xs * 6 =
      length-append T (use_rows xs) ∙ (let lx = length_uses xs in let lo = length-take-le (use_base ol) O (omega (arith, held_long h)) in omega arith) in
      let lb : length (use_rows us) ≡ use_base ol + length xs * 6 + length us * 6 - (use_base ol + length xs * 6) = length_uses us ∙ omega arith in
      ap (λ (t : List ℕ). part a (a + length us * 6) t) whole ∙ part_middle (T ++ use_rows xs) (use_rows us) (use_rows ys ++ (Z ++ rest)) a (a + length us * 6) lt lb

  -- the words shown for piece i are the rows of its uses
  pub piece_shown : (W : List ℕ) (lay : Layout) (i : ℕ) → i < pieces_in st → shown_words W lay O ol (piece_list O ol i) ≡ use_rows (piece_at st i).seg.uses
  unfolding shown_words
  piece_shown W lay i l = ap (λ (t : UseList). shown_words W lay O ol t) (piece_list_lem i l) ∙ rows_here i l

  -- and they read as its uses
  pub piece_uses : (W : List ℕ) (lay : Layout) (i : ℕ) → i < pieces_in st
      → uses_at (shown_words W lay O ol (piece_list O ol i)) 0 (piece_list O ol i).count ≡ (piece_at st i).seg.uses
  unfolding uses_at
  piece_uses W lay i l =
      ap (λ (t : UseList). uses_at (shown_words W lay O ol t) 0 t.count) (piece_list_lem i l)
      ∙ shown_uses W lay O ol (record { source = Added; first = first_use st i; count = length (piece_at st i).seg.uses })
      ∙ uses_held ol O st h i l
