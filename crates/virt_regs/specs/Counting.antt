-- How many pieces and uses there are, and the running values of the rows. Assumes nothing.
use Rattle.std.specs.Prelude.{◌≡◌, refl, List, [], ◌∷◌, ◌++◌, ℕ, ◌+◌, ◌*◌, ◌≤◌, length}
use Rattle.std.proofs.Common.{sym, ap, ◌∙◌, append_assoc, add-zero, arith, length-append}
use Rattle.words.specs.AnyRows.{after, length_rows}
use Rattle.std.proofs.Math.Option.{Option}
use Rattle.definition.specs.declared.VirtReg.{VirtReg}
use Rattle.definition.specs.declared.Use.{Use}
use Rattle.definition.specs.Types.{Piece, Register, State}
use Rattle.definition.specs.Place.{total, pieces_in, uses_of_pieces, uses_in, uses_of, segs_of}
use Rattle.virt_regs.specs.Encoding.{group_row, all_pieces, past_pieces, used_by, still, each_register, each_piece, each_use, each_group, register_rows, piece_rows, use_rows, group_rows, Placed}

pub all_append : (rs ss : List Register) → all_pieces (rs ++ ss) ≡ all_pieces rs ++ all_pieces ss
unfolding all_pieces
all_append [] ss = refl
all_append (r ∷ rs) ss = ap (λ (l : List Piece). r.pieces ++ l) (all_append rs ss) ∙ sym (append_assoc r.pieces (all_pieces rs) (all_pieces ss))

pub uses_append : (ps qs : List Piece) → uses_of (segs_of (ps ++ qs)) ≡ uses_of (segs_of ps) ++ uses_of (segs_of qs)
unfolding uses_of
uses_append [] qs = refl
uses_append (p ∷ ps) qs = ap (λ (l : List Use). p.seg.uses ++ l) (uses_append ps qs) ∙ sym (append_assoc p.seg.uses (uses_of (segs_of ps)) (uses_of (segs_of qs)))

-- the definition's counts
pub count_pieces : (st : State) → pieces_in st ≡ length (all_pieces st.registers)
unfolding pieces_in total all_pieces
count_pieces st = go st.registers
  where
    go : (rs : List Register) → total (λ r. length r.pieces) rs ≡ length (all_pieces rs)
    go [] = refl
    go (r ∷ rs) = simp length-append (omega (arith, go rs))

pub count_uses_of : (ps : List Piece) → uses_of_pieces ps ≡ length (uses_of (segs_of ps))
unfolding uses_of_pieces total uses_of
count_uses_of ps = go ps
  where
    go : (qs : List Piece) → total (λ p. length p.seg.uses) qs ≡ length (uses_of (segs_of qs))
    go [] = refl
    go (q ∷ qs) = simp length-append (omega (arith, go qs))

pub count_uses : (st : State) → uses_in st ≡ length (uses_of (segs_of (all_pieces st.registers)))
unfolding uses_in total all_pieces uses_of
count_uses st = go st.registers
  where
    go : (rs : List Register) → total (λ r. uses_of_pieces r.pieces) rs ≡ length (uses_of (segs_of (all_pieces rs)))
    go [] = refl
    go (r ∷ rs) = rw uses_append (simp length-append (omega (arith, go rs, count_uses_of r.pieces)))

-- ---- the running values, and how long the rows are

pub after_registers : (f : ℕ) (rs : List Register) → after each_register past_pieces f rs ≡ f + length (all_pieces rs)
unfolding after all_pieces
after_registers f [] = sym (add-zero f)
after_registers f (r ∷ rs) = simp length-append (omega (arith, after_registers (f + length r.pieces) rs))

pub after_pieces : (f : ℕ) (ps : List Piece) → after each_piece used_by f ps ≡ f + length (uses_of (segs_of ps))
unfolding after uses_of
after_pieces f [] = sym (add-zero f)
after_pieces f (p ∷ ps) = simp length-append (omega (arith, after_pieces (f + length p.seg.uses) ps))

pub length_registers : (f : ℕ) (rs : List Register) → length (register_rows f rs) ≡ length rs * 8
length_registers f rs = length_rows each_register past_pieces 8 (λ σ a. refl) f rs

pub length_pieces : (f : ℕ) (ps : List Piece) → length (piece_rows f ps) ≡ length ps * 7
length_pieces f ps = length_rows each_piece used_by 7 (λ σ a. refl) f ps

pub length_uses : (us : List Use) → length (use_rows us) ≡ length us * 6
length_uses us = length_rows each_use still 6 (λ σ a. refl) tt us

pub length_groups : (gs : List (List (Option VirtReg))) → length (group_rows gs) ≡ length gs * group_row
length_groups gs = length_rows each_group still group_row (λ σ a. refl) tt gs

-- a group among more registers
pub placed_more : (ms : List (Option VirtReg)) (n k : ℕ) → n ≤ k → Placed n ms → Placed k ms
unfolding Placed
placed_more ms n k h p = (p.0, λ i r e. let l = p.1 i r e in omega arith)
