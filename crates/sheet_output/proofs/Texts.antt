-- The lines of rows that hold a state are the lines of what they hold. Assumes nothing.
use mathlib.Core.Path.{◌≡◌, refl, ap, ◌∙◌}
use mathlib.Core.Bool.{Bool, true, false}
use mathlib.Core.Option.{Option, none, some}
use mathlib.Core.List.{List, [], ◌∷◌, map}
use Prim.Native.Nat.{ℕ, zero, suc, ◌+◌, ◌*◌, ◌≤◌, ◌<◌}
use native.Mathlib.Numerals.{add-one}
use native.Mathlib.Omega.{arith}
use lib.Dec.{eqb}
use lib.ListN.{length, get_or, take, length-map, get_or-map}
use lib.Ieee.{binary32, to_bits}
use lib.Seq.{length-take-le, get_or-take, ext_get_or}
use Rattle.words.specs.Tab.{tab}
use Rattle.definition.specs.declared.Inst.{Inst}
use Rattle.definition.specs.declared.VirtReg.{VirtReg}
use Rattle.definition.specs.declared.VirtRegGroup.{VirtRegGroup}
use Rattle.definition.specs.declared.UseKind.{UseKind}
use Rattle.definition.specs.declared.UseKind.TheVariants.{FixedDef, FixedUse, TiedUse, ConstraintConflict, ClassUse, ClassDef, GroupClassUse, GroupClassDef, BlockparamIn, BlockparamOut}
use Rattle.definition.specs.declared.Use.{Use}
use Rattle.definition.specs.declared.Origin.{Origin}
use Rattle.definition.specs.declared.Origin.TheVariants.{Own, Conflict}
use Rattle.definition.specs.Types.{Piece, Register, State, vset, cls, vreg, vrgroup}
use Rattle.definition.specs.Place.{pieces_in, uses_in}
use Rattle.definition.specs.Admit.{register_at, members_at, no_use}
use Rattle.definition.specs.Lines.{vreg_line_lem, seg_line_lem, use_line_lem, group_line_lem, numbers_of, use_numbers, hint_in}
use Rattle.definition.specs.Lines as lines
use Rattle.definition.specs.JobSheet.{use_of}
use Rattle.definition.specs.RegisterSheet.{line_bytes}
use Rattle.definition.proofs.Written.{flags_back}
use Rattle.virt_regs.specs.declared.OutLayout.{OutLayout}
use Rattle.virt_regs.specs.Encoding.{use_base, group_base, group_word, place_word, origin_word, hint_word, register_row, use_words, each_register, Holds}
use Rattle.virt_regs.specs.Reads.{piece_at, first_piece, register_word, use_word, piece_held, size_held, size_le, member_held}
use Rattle.register_sheet.specs.Typed.{group_of, member_of, origin_of, vreg_line, seg_line, use_line, group_line}
use Rattle.sheet_output.specs.Rows.{register_in, use_in, members_in, use_text, seg_text, seg_row_text, vreg_text, vreg_row_text, group_text}
use Rattle.sheet_output.proofs.Nexts.{uses}

-- ---- words read back

-- a use from the numbers of its row
use_back : (u : Use) → use_of (use_words u) ≡ u
unfolding use_of
use_back u = go u.kind u.pos
  where
    go : (k : UseKind) (p : Inst) → use_of (tab (λ i. get_or (numbers_of k p.0) i 0) 0 6) ≡ record { pos = p; kind = k }
    go (FixedDef r) p = refl
    go (FixedUse r) p = refl
    go (TiedUse s d c i) p = refl
    go ConstraintConflict p = refl
    go (ClassUse s c) p = refl
    go (ClassDef s c) p = refl
    go (GroupClassUse s c i) p = refl
    go (GroupClassDef s c i) p = refl
    go (BlockparamIn q) p = refl
    go BlockparamOut p = refl

kind_most : (k : UseKind) (p : ℕ) → get_or (numbers_of k p) 0 0 < 10
kind_most (FixedDef r) p = omega arith
kind_most (FixedUse r) p = omega arith
kind_most (TiedUse s d c i) p = omega arith
kind_most ConstraintConflict p = omega arith
kind_most (ClassUse s c) p = omega arith
kind_most (ClassDef s c) p = omega arith
kind_most (GroupClassUse s c i) p = omega arith
kind_most (GroupClassDef s c i) p = omega arith
kind_most (BlockparamIn q) p = omega arith
kind_most BlockparamOut p = omega arith

origin_back : (o : Origin) → origin_of (origin_word o) ≡ o
origin_back Own = refl
origin_back Conflict = refl

group_back : (g : Option VirtRegGroup) → group_of (group_word g) ≡ g
group_back none = refl
group_back (some g) = ap group_of (add-one g.0)

member_back : (m : Option VirtReg) → member_of (place_word m) ≡ m
member_back none = refl
member_back (some r) = ap member_of (add-one r.0)

hint_back : (b : Bool) → eqb (hint_word b) 1 ≡ b
hint_back true = refl
hint_back false = refl

-- place j of a group's row
place_at : (O : List ℕ) (i j : ℕ) → j < 8 → get_or (members_in O i) j 0 ≡ get_or O (i + (j + 1)) 0
unfolding members_in
place_at O i zero h = refl
place_at O i (suc zero) h = refl
place_at O i (suc (suc zero)) h = refl
place_at O i (suc (suc (suc zero))) h = refl
place_at O i (suc (suc (suc (suc zero)))) h = refl
place_at O i (suc (suc (suc (suc (suc zero))))) h = refl
place_at O i (suc (suc (suc (suc (suc (suc zero)))))) h = refl
place_at O i (suc (suc (suc (suc (suc (suc (suc zero))))))) h = refl
place_at O i (suc (suc (suc (suc (suc (suc (suc (suc j)))))))) h = absurd (omega (arith, h))

places : (O : List ℕ) (i : ℕ) → length (members_in O i) ≡ 8
unfolding members_in
places O i = refl

-- ---- lines

module _ (ol : OutLayout) (O : List ℕ) (st : State) (h : Holds ol O st) where
  use_kind : (i : ℕ) → i < uses_in st → get_or O (use_base ol + i * 6) 0 ≡ get_or (use_numbers (get_or (uses st) i no_use)) 0 0
  use_kind i l = let e : use_base ol + i * 6 ≡ use_base ol + (i * 6 + 0) = omega arith in ap (λ (n : ℕ). get_or O n 0) e ∙ use_word ol O st h i 0 l (omega arith)

  pub kind_held : (i : ℕ) → i < uses_in st → get_or O (use_base ol + i * 6) 0 < 10
  kind_held i l = let u : Use = get_or (uses st) i no_use in omega (arith, use_kind i l, kind_most u.kind u.pos.0)

  use_held : (i : ℕ) → i < uses_in st → use_in O (use_base ol + i * 6) ≡ use_words (get_or (uses st) i no_use)
  unfolding use_in
  use_held i l =
      let w : (k : ℕ) → k < 6 → get_or O (use_base ol + i * 6 + k) 0 ≡ get_or (use_words (get_or (uses st) i no_use)) k 0 =
      λ k s. let e : use_base ol + i * 6 + k ≡ use_base ol + (i * 6 + k) = omega arith in ap (λ (n : ℕ). get_or O n 0) e ∙ use_word ol O st h i k l s in
      λ x. use_kind i l x ∷ w 1 (omega arith) x ∷ w 2 (omega arith) x ∷ w 3 (omega arith) x ∷ w 4 (omega arith) x ∷ w 5 (omega arith) x ∷ []

  pub use_text_lem : (i : ℕ) → i < uses_in st → use_text ol O i ≡ line_bytes (use_line_lem (get_or (uses st) i no_use))
  unfolding use_text use_line
  use_text_lem i l = ap (λ (ns : List ℕ). line_bytes (use_line_lem (use_of ns))) (use_held i l) ∙ ap (λ (u : Use). line_bytes (use_line_lem u)) (use_back (get_or (uses st) i no_use))

  pub seg_text_lem : (i : ℕ) → i < pieces_in st → seg_text ol O i ≡ line_bytes (lines.seg_line (piece_at st i))
  unfolding seg_text seg_line
  seg_text_lem i l =
      let p : Piece = piece_at st i in
      ap seg_row_text (piece_held ol O st h i l)
      ∙ (λ x. line_bytes (seg_line_lem p.seg.value p.seg.«from» p.seg.to (flags_back p.seg.flags x) (origin_back p.origin x)))

  pub register_held : (r : ℕ) → r < length st.registers → register_in O (r * 8) ≡ register_row (first_piece st (vreg r)) (register_at st (vreg r))
  unfolding register_in
  register_held r l =
      let w : (k : ℕ) → k < 8 → get_or O (r * 8 + k) 0 ≡ get_or (each_register (first_piece st (vreg r)) (register_at st (vreg r))) k 0 = λ k s. register_word ol O st h (vreg r) k l s in
      let w₀ : get_or O (r * 8) 0 ≡ (register_at st (vreg r)).set.0 = let e : r * 8 ≡ r * 8 + 0 = omega arith in ap (λ (n : ℕ). get_or O n 0) e ∙ w 0 (omega arith) in
      λ x. record {
        set = vset (w₀ x);
        class = cls (w 1 (omega arith) x);
        weight = w 2 (omega arith) x;
        group = w 3 (omega arith) x;
        index = w 4 (omega arith) x;
        hint = w 5 (omega arith) x;
        first = w 6 (omega arith) x;
        count = w 7 (omega arith) x;
      }

  pub vreg_text_lem : (r : ℕ) → r < length st.registers → vreg_text O r ≡ line_bytes (lines.vreg_line r (register_at st (vreg r)))
  unfolding vreg_text vreg_line
  vreg_text_lem r l =
      let q : Register = register_at st (vreg r) in
      ap (vreg_row_text r) (register_held r l)
      ∙ (λ x. line_bytes (vreg_line_lem r q.set q.class (to_bits binary32 q.weight) (group_back q.group x) q.index (hint_back (hint_in q.pieces) x)))

  pub size_most : (g : ℕ) → g < length st.groups → get_or O (group_base ol + g * 9) 0 ≤ 8
  size_most g l = omega (arith, size_held ol O st h (vrgroup g) l, size_le ol O st h (vrgroup g) l)

  members_held : (g : ℕ) → g < length st.groups
      → map member_of (take (get_or O (group_base ol + g * 9) 0) (members_in O (group_base ol + g * 9))) ≡ members_at st (vrgroup g)
  members_held g l =
      let ms : List (Option VirtReg) = members_at st (vrgroup g) in
      let i : ℕ = group_base ol + g * 9 in
      let M : List ℕ = members_in O i in
      let k : length ms ≤ 8 = size_le ol O st h (vrgroup g) l in
      let n : length (take (length ms) M) ≡ length ms = length-take-le (length ms) M (omega (arith, places O i)) in
      let m : length (map member_of (take (length ms) M)) ≡ length ms = length-map (take (length ms) M) member_of ∙ n in
      ap (λ (n : ℕ). map member_of (take n M)) (size_held ol O st h (vrgroup g) l)
      ∙ ext_get_or none (map member_of (take (length ms) M)) ms m
      (λ j s.
      let q : j < length ms = omega (arith, m) in
      let e : i + (j + 1) ≡ group_base ol + (g * 9 + (j + 1)) = omega arith in
      get_or-map member_of (take (length ms) M) j 0
      ∙ ap member_of
      (get_or-take (length ms) M j 0 q ∙ place_at O i j (omega arith) ∙ ap (λ (x : ℕ). get_or O x 0) e ∙ member_held ol O st h (vrgroup g) j l (omega arith))
      ∙ member_back (get_or ms j none))

  pub group_text_lem : (g : ℕ) → g < length st.groups → group_text ol O g ≡ line_bytes (group_line_lem g (members_at st (vrgroup g)))
  unfolding group_text group_line
  group_text_lem g l = ap (λ (ms : List (Option VirtReg)). line_bytes (group_line_lem g ms)) (members_held g l)

-- the kind of a use's row
pub row_kind : (O r : List ℕ) (i k : ℕ) → r ≡ use_in O i → get_or O i 0 < k → get_or r 0 0 < k
unfolding use_in
row_kind O r i k e h = omega (arith, ap (λ (l : List ℕ). get_or l 0 0) e)
