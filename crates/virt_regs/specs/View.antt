-- The registers and groups read back from the words: the tables lose nothing. Assumes nothing.
use Rattle.std.specs.Prelude.{◌≡◌, refl, take}
use Rattle.std.proofs.Common.{sym, ◌∙◌, zero-add, add-one}
use Rattle.std.proofs.Math.Path.{ap}
use Rattle.std.proofs.Math.Option.{Option, none, some}
use mathlib.Core.List.{List, [], ◌∷◌, ◌++◌}
use Prim.Native.Nat.{ℕ, zero, suc, ◌+◌, ◌*◌, ◌≤◌, ◌<◌}
use native.Mathlib.Omega.{arith}
use Rattle.std.proofs.Math.ListN.{length, get_or, drop, length-append, get_or-append}
use Rattle.std.specs.Float.Ieee.{binary32, of_bits}
use Rattle.std.proofs.Math.Seq.{split_at, ext_get_or, get_or-append-add}
use Rattle.words.specs.Tab.{tab, length_tab, get_or_tab}
use Rattle.words.specs.RowsAt.{rows_at, length_rows_at, get_or_rows_at}
use Rattle.definition.specs.declared.VirtReg.{VirtReg}
use Rattle.definition.specs.declared.VirtRegGroup.{VirtRegGroup}
use Rattle.definition.specs.declared.Use.{Use}
use Rattle.definition.specs.declared.Origin.{Origin}
use Rattle.definition.specs.declared.Origin.TheVariants.{Own, Conflict}
use Rattle.definition.specs.Types.{Piece, Register, State, val, point, vset, cls, vreg, vrgroup}
use Rattle.definition.specs.Place.{pieces_in, uses_in, uses_of, segs_of}
use Rattle.definition.specs.JobSheet.{flags_of}
use Rattle.definition.specs.Admit.{register_at, no_register, members_at, no_use}
use Rattle.definition.proofs.Written.{flags_back}
use Rattle.uses.specs.Rows.{use_row}
use Rattle.virt_regs.specs.declared.OutLayout.{OutLayout}
use Rattle.virt_regs.specs.declared.Counts.{Counts}
use Rattle.virt_regs.specs.Each.{each_get}
use Rattle.virt_regs.specs.Encoding.{group_row, seg_base, use_base, group_base, group_word, place_word, origin_word, all_pieces, each_register, each_piece, counts_of, Holds}
use Rattle.virt_regs.specs.Counting.{uses_append, count_pieces, count_uses}
use Rattle.virt_regs.specs.Reads.{no_piece, piece_at, first_piece, first_use, register_word, piece_word, use_word, group_held, first_held, count_held, size_held, member_held, weight_held, weighs_held, size_le, piece_of_lem, pieces_in_lem}
use Rattle.virt_regs.specs.UseRows.{use_back}

-- ---- words read

abbrev pub origin_of : ℕ → Origin
origin_of zero = Own
origin_of (suc n) = Conflict

abbrev pub group_of : ℕ → Option VirtRegGroup
group_of zero = none
group_of (suc n) = some (vrgroup n)

abbrev pub member_of : ℕ → Option VirtReg
member_of zero = none
member_of (suc n) = some (vreg n)

-- the piece, the register and the group whose rows begin at word i
unfoldable pub piece_of : OutLayout → List ℕ → ℕ → Piece
piece_of ol O i = record {
  origin = origin_of (get_or O (i + 4) 0);
  seg = record {
    value = val (get_or O i 0);
    «from» = point (get_or O (i + 1) 0);
    to = point (get_or O (i + 2) 0);
    flags = flags_of (get_or O (i + 3) 0);
    uses = rows_at use_row O (use_base ol + get_or O (i + 5) 0 * 6) 6 (get_or O (i + 6) 0);
  };
}

unfoldable pub register_of : OutLayout → List ℕ → ℕ → Register
unfolding piece_of
register_of ol O i = record {
  set = vset (get_or O i 0);
  class = cls (get_or O (i + 1) 0);
  weight = of_bits binary32 (get_or O (i + 2) 0);
  group = group_of (get_or O (i + 3) 0);
  index = get_or O (i + 4) 0;
  pieces = rows_at (piece_of ol) O (seg_base ol + get_or O (i + 6) 0 * 7) 7 (get_or O (i + 7) 0);
}

unfoldable pub group_places : List ℕ → ℕ → List (Option VirtReg)
group_places O i = tab (λ j. member_of (get_or O (i + (j + 1)) 0)) 0 (get_or O i 0)

unfoldable pub registers_in : OutLayout → List ℕ → ℕ → List Register
unfolding register_of
registers_in ol O n = rows_at (register_of ol) O 0 8 n

unfoldable pub groups_in : OutLayout → List ℕ → ℕ → List (List (Option VirtReg))
unfolding group_places
groups_in ol O n = rows_at group_places O (group_base ol) group_row n

-- ---- read back

origin_back : (o : Origin) → origin_of (origin_word o) ≡ o
origin_back Own = refl
origin_back Conflict = refl

group_back : (g : Option VirtRegGroup) → group_of (group_word g) ≡ g
group_back none = refl
group_back (some g) = ap group_of (add-one g.0)

member_back : (m : Option VirtReg) → member_of (place_word m) ≡ m
member_back none = refl
member_back (some r) = ap member_of (add-one r.0)

module _ (ol : OutLayout) (O : List ℕ) (st : State) (h : Holds ol O st) where
  -- the uses of piece i are among all, in order
  use_of : (i j : ℕ) → i < pieces_in st → j < length (piece_at st i).seg.uses
      → get_or (uses_of (segs_of (all_pieces st.registers))) (first_use st i + j) no_use ≡ get_or (piece_at st i).seg.uses j no_use
  unfolding piece_at first_use uses_of
  use_of i j l s =
      let A : List Piece = all_pieces st.registers in
      let p : Piece = get_or A i no_piece in
      let xs : List Use = uses_of (segs_of (take i A)) in
      let ys : List Use = uses_of (segs_of (drop (suc i) A)) in
      let e : uses_of (segs_of A) ≡ xs ++ (p.seg.uses ++ ys) =
      ap (λ (t : List Piece). uses_of (segs_of t)) (split_at A i no_piece (omega (arith, count_pieces st))) ∙ uses_append (take i A) (p ∷ drop (suc i) A) in
      ap (λ (t : List Use). get_or t (length xs + j) no_use) e ∙ get_or-append-add xs (p.seg.uses ++ ys) j no_use ∙ get_or-append p.seg.uses ys no_use j s

  uses_in_lem : (i : ℕ) → i < pieces_in st → first_use st i + length (piece_at st i).seg.uses ≤ uses_in st
  unfolding piece_at first_use uses_of
  uses_in_lem i l =
      let A : List Piece = all_pieces st.registers in
      let p : Piece = get_or A i no_piece in
      let xs : List Use = uses_of (segs_of (take i A)) in
      let ys : List Use = uses_of (segs_of (drop (suc i) A)) in
      let e : uses_of (segs_of A) ≡ xs ++ (p.seg.uses ++ ys) =
      ap (λ (t : List Piece). uses_of (segs_of t)) (split_at A i no_piece (omega (arith, count_pieces st))) ∙ uses_append (take i A) (p ∷ drop (suc i) A) in
      let n : length (uses_of (segs_of A)) ≡ length xs + (length p.seg.uses + length ys) = ap length e ∙ simp length-append in
      omega (arith, count_uses st)

  -- the uses of piece i, read
  pub uses_held : (i : ℕ) → i < pieces_in st → rows_at use_row O (use_base ol + first_use st i * 6) 6 (length (piece_at st i).seg.uses) ≡ (piece_at st i).seg.uses
  uses_held i l =
      let us : List Use = (piece_at st i).seg.uses in
      let at : ℕ = use_base ol + first_use st i * 6 in
      ext_get_or no_use (rows_at use_row O at 6 (length us)) us (length_rows_at use_row O at 6 (length us))
      (λ j s.
      let q : j < length us = omega (arith, length_rows_at use_row O at 6 (length us)) in
      let m : first_use st i + j < uses_in st = omega (arith, uses_in_lem i l) in
      let u : Use = get_or (uses_of (segs_of (all_pieces st.registers))) (first_use st i + j) no_use in
      get_or_rows_at use_row O at 6 (length us) j no_use q
      ∙ use_back O (at + j * 6) u (each_get _ (uses_of (segs_of (all_pieces st.registers))) (first_use st i + j) no_use h.typed (omega (arith, count_uses st)))
      (λ k w. let e : at + j * 6 + k ≡ use_base ol + ((first_use st i + j) * 6 + k) = omega arith in ap (λ (x : ℕ). get_or O x 0) e ∙ use_word ol O st h (first_use st i + j) k m w)
      ∙ use_of i j l q)

  -- piece i, read
  pub piece_back : (i : ℕ) → i < pieces_in st → piece_of ol O (seg_base ol + i * 7) ≡ piece_at st i
  unfolding piece_of
  piece_back i l =
      let p : Piece = piece_at st i in
      let w : (k : ℕ) → k < 7 → get_or O (seg_base ol + i * 7 + k) 0 ≡ get_or (each_piece (first_use st i) p) k 0 =
      λ k s. let e : seg_base ol + i * 7 + k ≡ seg_base ol + (i * 7 + k) = omega arith in ap (λ (n : ℕ). get_or O n 0) e ∙ piece_word ol O st h i k l s in
      let w₀ : get_or O (seg_base ol + i * 7) 0 ≡ p.seg.value.0 = let e : seg_base ol + i * 7 ≡ seg_base ol + i * 7 + 0 = omega arith in ap (λ (n : ℕ). get_or O n 0) e ∙ w 0 (omega arith) in
      let us : rows_at use_row O (use_base ol + get_or O (seg_base ol + i * 7 + 5) 0 * 6) 6 (get_or O (seg_base ol + i * 7 + 6) 0) ≡ p.seg.uses =
      (λ x. rows_at use_row O (use_base ol + w 5 (omega arith) x * 6) 6 (w 6 (omega arith) x)) ∙ uses_held i l in
      let fl : flags_of (get_or O (seg_base ol + i * 7 + 3) 0) ≡ p.seg.flags = ap flags_of (w 3 (omega arith)) ∙ flags_back p.seg.flags in
      let og : origin_of (get_or O (seg_base ol + i * 7 + 4) 0) ≡ p.origin = ap origin_of (w 4 (omega arith)) ∙ origin_back p.origin in
      λ x. record {
        origin = og x;
        seg = record { value = val (w₀ x); «from» = point (w 1 (omega arith) x); to = point (w 2 (omega arith) x); flags = fl x; uses = us x };
      }

  -- the pieces of register v, read
  pub pieces_held : (v : VirtReg) → v.0 < length st.registers → rows_at (piece_of ol) O (seg_base ol + first_piece st v * 7) 7 (length (register_at st v).pieces) ≡ (register_at st v).pieces
  pieces_held v l =
      let ps : List Piece = (register_at st v).pieces in
      let at : ℕ = seg_base ol + first_piece st v * 7 in
      ext_get_or no_piece (rows_at (piece_of ol) O at 7 (length ps)) ps (length_rows_at (piece_of ol) O at 7 (length ps))
      (λ j s.
      let q : j < length ps = omega (arith, length_rows_at (piece_of ol) O at 7 (length ps)) in
      let e : at + j * 7 ≡ seg_base ol + (first_piece st v + j) * 7 = omega arith in
      get_or_rows_at (piece_of ol) O at 7 (length ps) j no_piece q
      ∙ ap (λ (x : ℕ). piece_of ol O x) e
      ∙ piece_back (first_piece st v + j) (omega (arith, pieces_in_lem ol O st h v l))
      ∙ piece_of_lem ol O st h v j l q)

  pub register_back : (v : VirtReg) → v.0 < length st.registers → register_of ol O (v.0 * 8) ≡ register_at st v
  unfolding register_of
  register_back v l =
      let r : Register = register_at st v in
      let w : (k : ℕ) → k < 8 → get_or O (v.0 * 8 + k) 0 ≡ get_or (each_register (first_piece st v) r) k 0 = λ k s. register_word ol O st h v k l s in
      let w₀ : get_or O (v.0 * 8) 0 ≡ r.set.0 = let e : v.0 * 8 ≡ v.0 * 8 + 0 = omega arith in ap (λ (n : ℕ). get_or O n 0) e ∙ w 0 (omega arith) in
      let wt : of_bits binary32 (get_or O (v.0 * 8 + 2) 0) ≡ r.weight = ap (λ (n : ℕ). of_bits binary32 n) (weight_held ol O st h v l) ∙ (weighs_held ol O st h v l).0 in
      let gr : group_of (get_or O (v.0 * 8 + 3) 0) ≡ r.group = ap group_of (group_held ol O st h v l) ∙ group_back r.group in
      let ps : rows_at (piece_of ol) O (seg_base ol + get_or O (v.0 * 8 + 6) 0 * 7) 7 (get_or O (v.0 * 8 + 7) 0) ≡ r.pieces =
      (λ x. rows_at (piece_of ol) O (seg_base ol + first_held ol O st h v l x * 7) 7 (count_held ol O st h v l x)) ∙ pieces_held v l in
      λ x. record { set = vset (w₀ x); class = cls (w 1 (omega arith) x); weight = wt x; group = gr x; index = w 4 (omega arith) x; pieces = ps x }

  -- the registers and the groups
  pub registers_held : registers_in ol O (length st.registers) ≡ st.registers
  unfolding registers_in register_at
  registers_held =
      let rs : List Register = st.registers in
      ext_get_or no_register (rows_at (register_of ol) O 0 8 (length rs)) rs (length_rows_at (register_of ol) O 0 8 (length rs))
      (λ j s.
      let q : j < length rs = omega (arith, length_rows_at (register_of ol) O 0 8 (length rs)) in
      get_or_rows_at (register_of ol) O 0 8 (length rs) j no_register q ∙ ap (λ (x : ℕ). register_of ol O x) (zero-add (j * 8)) ∙ register_back (vreg j) q)

  group_read : (g : VirtRegGroup) → g.0 < length st.groups → group_places O (group_base ol + g.0 * group_row) ≡ members_at st g
  unfolding group_places
  group_read g l =
      let ms : List (Option VirtReg) = members_at st g in
      let f : ℕ → Option VirtReg = λ j. member_of (get_or O (group_base ol + g.0 * group_row + (j + 1)) 0) in
      let le = size_le ol O st h g l in
      ap (λ (n : ℕ). tab f 0 n) (size_held ol O st h g l)
      ∙ ext_get_or none (tab f 0 (length ms)) ms (length_tab f 0 (length ms))
      (λ j s.
      let q : j < length ms = omega (arith, length_tab f 0 (length ms)) in
      let e : group_base ol + g.0 * group_row + (0 + j + 1) ≡ group_base ol + (g.0 * group_row + (j + 1)) = omega arith in
      get_or_tab f 0 (length ms) j none q ∙ ap (λ (x : ℕ). member_of (get_or O x 0)) e ∙ ap member_of (member_held ol O st h g j l (omega arith)) ∙ member_back (get_or ms j none))

  pub groups_held : groups_in ol O (length st.groups) ≡ st.groups
  unfolding groups_in members_at
  groups_held =
      let gs : List (List (Option VirtReg)) = st.groups in
      ext_get_or [] (rows_at group_places O (group_base ol) group_row (length gs)) gs (length_rows_at group_places O (group_base ol) group_row (length gs))
      (λ j s.
      let q : j < length gs = omega (arith, length_rows_at group_places O (group_base ol) group_row (length gs)) in
      get_or_rows_at group_places O (group_base ol) group_row (length gs) j [] q ∙ group_read (vrgroup j) q)

-- the words and the counts say which registers and groups they hold
pub loses_nothing : (ol : OutLayout) (O : List ℕ) (st st' : State) → Holds ol O st → Holds ol O st' → counts_of st ≡ counts_of st' → (st.registers ≡ st'.registers) × (st.groups ≡ st'.groups)
loses_nothing ol O st st' h h' e = (
  sym (registers_held ol O st h) ∙ ap (λ (c : Counts). registers_in ol O c.regs) e ∙ registers_held ol O st' h',
  sym (groups_held ol O st h) ∙ ap (λ (c : Counts). groups_in ol O c.groups) e ∙ groups_held ol O st' h',
)
