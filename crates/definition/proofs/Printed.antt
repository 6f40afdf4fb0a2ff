-- What can be read back from the lines of a result: each value's points and uses. Assumes nothing.
use mathlib.Core.Path.{◌≡◌, refl, ap, ◌∙◌}
use Prim.Native.Nat.{ℕ, suc, ◌+◌}
use native.Mathlib.Omega.{arith}
use mathlib.Core.Bool.{Bool, true, false, cond, ◌&&◌}
use mathlib.Core.Option.{Option}
use mathlib.Core.List.{List, [], ◌∷◌, ◌++◌, append_assoc}
use lib.ListN.{length}
use lib.Dec.{leb, ltb, eqb}
use Rattle.definition.specs.Types.{Conflict, LiveRangePoint, Origin, Own, Piece, Register, Use, Value, VirtReg}
use Rattle.definition.specs.Place.{total}
use Rattle.definition.specs.Build.{Result, one}
use Rattle.definition.specs.Lines.{Line, end_line_lem, group_line_lem, group_lines, printed, seg_line_lem, seg_lines, use_line_lem, use_lines, vreg_line_lem, vreg_lines}
use Rattle.definition.specs.Promised.{holds, same_use}
use Rattle.definition.proofs.Places.{counted}
use Rattle.definition.proofs.Points.{of_own}

-- ---- reading points: how many own seg lines of value v hold the point x

abbrev pub holds_point : Value → ℕ → Value → LiveRangePoint → LiveRangePoint → Origin → ℕ
holds_point v x w a b Own = one (eqb w.0 v.0 && leb a.0 x && ltb x b.0)
holds_point v x w a b Conflict = 0

unfoldable pub read_point : Value → ℕ → List Line → ℕ
read_point v x [] = 0
read_point v x (vreg_line_lem n s c w g i h ∷ ls) = read_point v x ls
read_point v x (seg_line_lem w a b f o ∷ ls) = holds_point v x w a b o + read_point v x ls
read_point v x (use_line_lem u ∷ ls) = read_point v x ls
read_point v x (group_line_lem n ms ∷ ls) = read_point v x ls
read_point v x (end_line_lem r g ∷ ls) = read_point v x ls

-- ---- reading uses: how many use lines are those of w, under seg lines whose value and origin pass. The Bool says whether the last seg line did.

unfoldable pub read_use : (Value → Origin → Bool) → Use → Bool → List Line → ℕ
unfolding same_use
read_use f w b [] = 0
read_use f w b (vreg_line_lem n s c x g i h ∷ ls) = read_use f w false ls
read_use f w b (seg_line_lem v a c fl o ∷ ls) = read_use f w (f v o) ls
read_use f w b (use_line_lem u ∷ ls) = cond b (one (same_use w u)) 0 + read_use f w b ls
read_use f w b (group_line_lem n ms ∷ ls) = read_use f w false ls
read_use f w b (end_line_lem r g ∷ ls) = read_use f w false ls

-- ---- what is read is what is counted

module _ (v : Value) (x : ℕ) where
  point_uses : (us : List Use) (ls : List Line) → read_point v x (use_lines us ++ ls) ≡ read_point v x ls
  unfolding read_point use_lines
  point_uses [] ls = refl
  point_uses (u ∷ us) ls = point_uses us ls

  of_piece : (p : Piece) → holds_point v x p.seg.value p.seg.«from» p.seg.to p.origin ≡ of_own (λ s. one (holds v x s)) p
  of_piece p = go p.origin
    where
      go : (o : Origin) → holds_point v x p.seg.value p.seg.«from» p.seg.to o ≡ elim o [ Own ↦ one (holds v x p.seg) | Conflict ↦ 0 ]
      go Own = refl
      go Conflict = refl

  point_pieces : (ps : List Piece) (ls : List Line) → read_point v x (seg_lines ps ++ ls) ≡ total (of_own (λ s. one (holds v x s))) ps + read_point v x ls
  unfolding read_point seg_lines total
  point_pieces [] ls = omega arith
  point_pieces (p ∷ ps) ls =
      let a : read_point v x ((use_lines p.seg.uses ++ seg_lines ps) ++ ls) ≡ read_point v x (seg_lines ps ++ ls) =
      ap (read_point v x) (append_assoc (use_lines p.seg.uses) (seg_lines ps) ls) ∙ point_uses p.seg.uses (seg_lines ps ++ ls) in
      omega (arith, a, of_piece p, point_pieces ps ls)

  point_registers : (n : ℕ) (rs : List Register) (ls : List Line) → read_point v x (vreg_lines n rs ++ ls) ≡ counted (of_own (λ s. one (holds v x s))) rs + read_point v x ls
  unfolding read_point vreg_lines counted
  point_registers n [] ls = omega arith
  point_registers n (r ∷ rs) ls =
      let a : read_point v x ((seg_lines r.pieces ++ vreg_lines (suc n) rs) ++ ls) ≡ total (of_own (λ s. one (holds v x s))) r.pieces + read_point v x (vreg_lines (suc n) rs ++ ls) =
      ap (read_point v x) (append_assoc (seg_lines r.pieces) (vreg_lines (suc n) rs) ls) ∙ point_pieces r.pieces (vreg_lines (suc n) rs ++ ls) in
      omega (arith, a, point_registers (suc n) rs ls)

  point_groups : (n : ℕ) (gs : List (List (Option VirtReg))) (r g : ℕ) → read_point v x (group_lines n gs ++ (end_line_lem r g ∷ [])) ≡ 0
  unfolding read_point group_lines
  point_groups n [] r g = refl
  point_groups n (ms ∷ gs) r g = point_groups (suc n) gs r g

  pub points_read : (res : Result) → read_point v x (printed res) ≡ counted (of_own (λ s. one (holds v x s))) res.registers
  unfolding printed
  points_read res =
      omega (
        arith,
        point_registers 0 res.registers (group_lines 0 res.groups ++ (end_line_lem (length res.registers) (length res.groups) ∷ [])),
        point_groups 0 res.groups (length res.registers) (length res.groups),
      )

module _ (f : Value → Origin → Bool) (w : Use) where
  -- of a piece that passes
  abbrev pub piece_uses : Piece → ℕ
  piece_uses p = cond (f p.seg.value p.origin) (total (λ u. one (same_use w u)) p.seg.uses) 0

  use_uses : (us : List Use) (b : Bool) (ls : List Line) → read_use f w b (use_lines us ++ ls) ≡ cond b (total (λ u. one (same_use w u)) us) 0 + read_use f w b ls
  unfolding read_use use_lines total
  use_uses [] true ls = omega arith
  use_uses [] false ls = omega arith
  use_uses (u ∷ us) true ls = omega (arith, use_uses us true ls)
  use_uses (u ∷ us) false ls = omega (arith, use_uses us false ls)

  -- where what follows is read alike after any seg line
  use_pieces : (ps : List Piece) (ls : List Line) (n : ℕ) → ((b : Bool) → read_use f w b ls ≡ n) → (b : Bool) → read_use f w b (seg_lines ps ++ ls) ≡ total piece_uses ps + n
  unfolding read_use seg_lines total
  use_pieces [] ls n e b = e b ∙ omega arith
  use_pieces (p ∷ ps) ls n e b =
      let now = f p.seg.value p.origin in
      let a : read_use f w now ((use_lines p.seg.uses ++ seg_lines ps) ++ ls) ≡ piece_uses p + read_use f w now (seg_lines ps ++ ls) =
      ap (read_use f w now) (append_assoc (use_lines p.seg.uses) (seg_lines ps) ls) ∙ use_uses p.seg.uses now (seg_lines ps ++ ls) in
      omega (arith, a, use_pieces ps ls n e now)

  use_registers : (i : ℕ) (rs : List Register) (ls : List Line) (n : ℕ) → ((b : Bool) → read_use f w b ls ≡ n) → (b : Bool) → read_use f w b (vreg_lines i rs ++ ls) ≡ counted piece_uses rs + n
  unfolding read_use vreg_lines counted
  use_registers i [] ls n e b = e b ∙ omega arith
  use_registers i (r ∷ rs) ls n e b =
      let a : read_use f w false ((seg_lines r.pieces ++ vreg_lines (suc i) rs) ++ ls) ≡ total piece_uses r.pieces + (counted piece_uses rs + n) =
      ap (read_use f w false) (append_assoc (seg_lines r.pieces) (vreg_lines (suc i) rs) ls)
      ∙ use_pieces r.pieces (vreg_lines (suc i) rs ++ ls) (counted piece_uses rs + n) (use_registers (suc i) rs ls n e) false in
      a ∙ omega arith

  use_groups : (i : ℕ) (gs : List (List (Option VirtReg))) (r g : ℕ) (b : Bool) → read_use f w b (group_lines i gs ++ (end_line_lem r g ∷ [])) ≡ 0
  unfolding read_use group_lines
  use_groups i [] r g b = refl
  use_groups i (ms ∷ gs) r g b = use_groups (suc i) gs r g false

  pub uses_read : (res : Result) → read_use f w false (printed res) ≡ counted piece_uses res.registers
  unfolding printed
  uses_read res =
      use_registers 0 res.registers (group_lines 0 res.groups ++ (end_line_lem (length res.registers) (length res.groups) ∷ [])) 0
      (use_groups 0 res.groups (length res.registers) (length res.groups)) false ∙ omega arith
