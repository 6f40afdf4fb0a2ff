-- Where pieces go that are merged into a register: behind those that end by their start. Assumes nothing.
use Rattle.std.specs.Prelude.{◌≡◌, refl, Bool, true, false, ◌&&◌, ◌||◌, List, [], ◌∷◌, ◌++◌, ℕ, suc, ◌+◌, ◌*◌, ◌≤◌, ◌<◌, leb, ltb, length, get_or, take, drop, Option, None, Some}
use Rattle.std.proofs.Common.{sym, ap, ◌∙◌, append-nil, arith, leb-true, le-ltb}
use Rattle.definition.specs.declared.LiveRangePoint.{LiveRangePoint}
use Rattle.definition.specs.declared.VirtReg.{VirtReg}
use Rattle.definition.specs.Types.{Piece, State}
use Rattle.definition.specs.Place.{overlaps, inserted}
use Rattle.definition.specs.Admit.{register_at}
use Rattle.virt_regs.specs.declared.OutLayout.{OutLayout}
use Rattle.virt_regs.specs.Encoding.{seg_base, each_piece, Holds}
use Rattle.virt_regs.specs.Reads.{no_piece, piece_at, first_piece, first_use, piece_word, piece_of_lem, pieces_in_lem}

abbrev pub one_more : Bool → ℕ → ℕ
one_more true n = suc n
one_more false n = 0

-- how many of the first pieces end by a
unfoldable pub ends_by : LiveRangePoint → List Piece → ℕ
ends_by a [] = 0
ends_by a (p ∷ ps) = one_more (leb p.seg.to.0 a.0) (ends_by a ps)

-- the pieces new in front of piece k
abbrev pub inserted_at : ℕ → List Piece → List Piece → List Piece
inserted_at k new ps = take k ps ++ (new ++ drop k ps)

abbrev pub pick_place : Bool → ℕ → Option ℕ
pick_place true k = None
pick_place false k = Some k

-- the place for pieces from a up to b among ps
unfoldable pub place_of : LiveRangePoint → LiveRangePoint → List Piece → Option ℕ
unfolding overlaps ends_by
place_of a b ps = pick_place (overlaps a b ps) (ends_by a ps)

-- the rows from piece `first` on show where the pieces ps begin and end
pub record Shows (ol : OutLayout) (O : List ℕ) (first : ℕ) (ps : List Piece) : Type 0 where
  pub begins : (j : ℕ) → j < length ps → get_or O (seg_base ol + ((first + j) * 7 + 1)) 0 ≡ (get_or ps j no_piece).seg.«from».0
  pub ends : (j : ℕ) → j < length ps → get_or O (seg_base ol + ((first + j) * 7 + 2)) 0 ≡ (get_or ps j no_piece).seg.to.0

-- ---- what the definition says of that place

pub ends_le : (a : LiveRangePoint) (ps : List Piece) → ends_by a ps ≤ length ps
unfolding ends_by
ends_le a [] = omega arith
ends_le a (p ∷ ps) = go (leb p.seg.to.0 a.0) (ends_le a ps)
  where
    go : (b : Bool) → ends_by a ps ≤ length ps → one_more b (ends_by a ps) ≤ suc (length ps)
    go true h = omega arith
    go false h = omega arith

-- the new pieces stand behind the old ones that end by a
pub inserted_at_lem : (a : LiveRangePoint) (new ps : List Piece) → inserted a new ps ≡ inserted_at (ends_by a ps) new ps
unfolding inserted ends_by
inserted_at_lem a new [] = sym (append-nil new)
inserted_at_lem a new (p ∷ ps) = go (leb p.seg.to.0 a.0) (inserted_at_lem a new ps)
  where
    go : (b : Bool) → inserted a new ps ≡ inserted_at (ends_by a ps) new ps
        → elim b [ true ↦ p ∷ inserted a new ps | false ↦ new ++ p ∷ ps ] ≡ inserted_at (one_more b (ends_by a ps)) new (p ∷ ps)
    go true h = ap (λ (l : List Piece). p ∷ l) h
    go false h = refl

-- those that end by a do not overlap
pub overlaps_rest : (a b : LiveRangePoint) (ps : List Piece) → overlaps a b ps ≡ overlaps a b (drop (ends_by a ps) ps)
unfolding overlaps ends_by
overlaps_rest a b [] = refl
overlaps_rest a b (p ∷ ps) = go (leb p.seg.to.0 a.0) refl (overlaps_rest a b ps)
  where
    go : (c : Bool) → leb p.seg.to.0 a.0 ≡ c → overlaps a b ps ≡ overlaps a b (drop (ends_by a ps) ps)
        → overlaps a b (p ∷ ps) ≡ overlaps a b (drop (one_more c (ends_by a ps)) (p ∷ ps))
    go true e h =
        let n : ltb a.0 p.seg.to.0 ≡ false = le-ltb a.0 p.seg.to.0 (leb-true p.seg.to.0 a.0 e) in
        ap (λ (x : Bool). (x && ltb p.seg.«from».0 b.0) || overlaps a b ps) n ∙ h
    go false e h = refl

-- words that hold a state show the pieces of each register
pub shows_held : (ol : OutLayout) (O : List ℕ) (st : State) (v : VirtReg) (f : ℕ) → Holds ol O st → v.0 < length st.registers → f ≡ first_piece st v → Shows ol O f (register_at st v).pieces
shows_held ol O st v f h here ef =
    record {
      begins = λ j l. word j 1 l (omega arith) ∙ ap (λ (p : Piece). p.seg.«from».0) (piece_of_lem ol O st h v j here l);
      ends = λ j l. word j 2 l (omega arith) ∙ ap (λ (p : Piece). p.seg.to.0) (piece_of_lem ol O st h v j here l);
    }
  where
    word : (j k : ℕ) → j < length (register_at st v).pieces → k < 7
        → get_or O (seg_base ol + ((f + j) * 7 + k)) 0 ≡ get_or (each_piece (first_use st (first_piece st v + j)) (piece_at st (first_piece st v + j))) k 0
    word j k l m =
        ap (λ (x : ℕ). get_or O (seg_base ol + ((x + j) * 7 + k)) 0) ef
        ∙ piece_word ol O st h (first_piece st v + j) k (omega (arith, pieces_in_lem ol O st h v here)) m
