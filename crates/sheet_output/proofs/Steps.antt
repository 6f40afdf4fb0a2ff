-- A line written, by its kind. Assumes nothing.
use mathlib.Core.Path.{◌≡◌, refl, sym, ap, ◌∙◌, subst}
use mathlib.Core.Bool.{Bool, false, cond}
use mathlib.Core.List.{List, [], ◌∷◌, ◌++◌, append_assoc}
use Prim.Native.Nat.{ℕ, ◌+◌, ◌*◌, ◌^◌, ◌≤◌, ◌<◌}
use native.Mathlib.Omega.{arith}
use lib.ListN.{length, get_or, take}
use Rattle.definition.specs.Types.{State, vreg}
use Rattle.definition.specs.Place.{pieces_in, uses_in}
use Rattle.definition.specs.Admit.{register_at}
use Rattle.definition.specs.Lines.{Line, end_line_lem}
use Rattle.definition.specs.RegisterSheet.{line_bytes, lines_bytes}
use Rattle.lines.specs.Wrote.{Wrote}
use Rattle.virt_regs.specs.declared.OutLayout.{OutLayout}
use Rattle.virt_regs.specs.declared.PieceRow.{PieceRow}
use Rattle.virt_regs.specs.declared.RegisterRow.{RegisterRow}
use Rattle.virt_regs.specs.Encoding.{seg_base, use_base, group_base}
use Rattle.virt_regs.specs.Held.{fit_registers, fit_segments, fit_uses, fit_groups}
use Rattle.virt_regs.specs.Reads.{piece_at, first_piece, first_use, piece_in, piece_held}
use Rattle.register_sheet.specs.Typed.{end_line}
use Rattle.sheet_output.specs.declared.Cursor.{Cursor}
use Rattle.lines.specs.declared.Page.{Page}
use Rattle.sheet_output.specs.Left.{open_lines, lines_left, text_left, rows_left}
use Rattle.sheet_output.specs.Rows.{register_in, use_text, seg_text, vreg_text, group_text, behind_use, behind_seg, behind_vreg, behind_group, behind_end}
use Rattle.sheet_output.specs.Pages.{Shows, Goes, Stepped}
use Rattle.sheet_output.proofs.Nexts.{first_use_le, first_piece_le, first_use_next, first_piece_next, use_next, seg_next, vreg_next, group_next, end_next}
use Rattle.sheet_output.proofs.Texts.{kind_held, size_most, register_held, use_text_lem, seg_text_lem, vreg_text_lem, group_text_lem}

-- ---- what the writers of lines ask

module _ {ol : OutLayout} {w : ℕ} {O : List ℕ} {regs groups : ℕ} {c : Cursor} (a : Shows ol w O regs groups c) where
  use_in : c.uses < c.uses_end → c.uses < uses_in a.st
  use_in l = omega (arith, a.stands.uses_end_lem, first_use_le a.st c.segs)

  seg_in : c.segs < c.segs_end → c.segs < pieces_in a.st
  seg_in l = omega (arith, a.stands.segs_end_lem, first_piece_le a.st c.regs)

  pub use_asked : c.uses < c.uses_end → (c.uses < ol.uses) × (get_or O (use_base ol + c.uses * 6) 0 < 10)
  use_asked l = (omega (arith, use_in l, fit_uses a.holds), kind_held ol O a.st a.holds c.uses (use_in l))

  pub seg_asked : c.segs < c.segs_end → c.segs < ol.segs
  seg_asked l = omega (arith, seg_in l, fit_segments a.holds)

  pub vreg_asked : c.regs < regs → (c.regs * 8 + 8 ≤ w) × (c.regs < 2 ^ 32)
  vreg_asked l = (
    omega (arith, a.has_registers, fit_registers a.holds, a.long),
    omega (arith, a.has_registers, fit_registers a.holds, a.few_regs),
  )

  pub end_asked : (regs < 2 ^ 32) × (groups < 2 ^ 32)
  end_asked = (
    omega (arith, a.has_registers, fit_registers a.holds, a.few_regs),
    omega (arith, a.has_groups, fit_groups a.holds, a.few_groups),
  )

  pub group_asked : c.groups < groups → (c.groups < ol.groups) × (c.groups < 2 ^ 32) × (get_or O (group_base ol + c.groups * 9) 0 ≤ 8)
  group_asked l = (
    omega (arith, a.has_groups, fit_groups a.holds),
    omega (arith, a.has_groups, fit_groups a.holds, a.few_groups),
    size_most ol O a.st a.holds c.groups (omega (arith, a.has_groups)),
  )

-- ---- a line more

module _ (st : State) (c c' : Cursor) where
  open_left : c.ended ≡ false → lines_left st c ≡ open_lines st c.regs c.segs c.uses c.groups
  unfolding lines_left
  open_left o = ap (λ (b : Bool). cond b [] (open_lines st c.regs c.segs c.uses c.groups)) o

  step_text : (at n : ℕ) (B B' t : List ℕ) (l : Line) → Wrote 256 at B n B' t → t ≡ line_bytes l → lines_left st c ≡ l ∷ lines_left st c'
      → take n B' ++ text_left st c' ≡ take at B ++ text_left st c
  unfolding text_left lines_bytes
  step_text at n B B' t l w e q =
      ap (λ (x : List ℕ). x ++ lines_bytes (lines_left st c')) w.is
      ∙ append_assoc (take at B) t (lines_bytes (lines_left st c'))
      ∙ ap (λ (x : List ℕ). take at B ++ (x ++ lines_bytes (lines_left st c'))) e
      ∙ ap (λ (x : List Line). take at B ++ lines_bytes x) (sym q)

open_next : (st : State) (c c' : Cursor) (l : Line) → c.ended ≡ false → c'.ended ≡ false
    → open_lines st c.regs c.segs c.uses c.groups ≡ l ∷ open_lines st c'.regs c'.segs c'.uses c'.groups → lines_left st c ≡ l ∷ lines_left st c'
open_next st c c' l o o' e = open_left st c c' o ∙ e ∙ ap (λ (t : List Line). l ∷ t) (sym (open_left st c' c o'))

module _ (ol : OutLayout) (O : List ℕ) (regs groups : ℕ) (c : Cursor) (at : ℕ) (B : List ℕ) (r : Page Cursor) (B' : List ℕ) where
  stepped : (c' : Cursor) → r.cur ≡ c' → r.n ≤ at + 256 → rows_left ol regs groups c' < rows_left ol regs groups c → Goes ol O regs groups c at B c' r.n B'
      → Stepped ol O regs groups c at B r B'
  stepped c' e m f g =
      record {
        most = m;
        fewer = subst (λ (x : Cursor). rows_left ol regs groups x < rows_left ol regs groups c) (sym e) f;
        goes = subst (λ (x : Cursor). Goes ol O regs groups c at B x r.n B') (sym e) g;
      }

  module _ (w : ℕ) (a : Shows ol w O regs groups c) (o : c.ended ≡ false) where
    ends : ◌≡◌ {A = ℕ} (cond c.ended 0 1) 1
    ends = ap (λ (b : Bool). cond {A = ℕ} b 0 1) o

    pub use_step : c.uses < c.uses_end → Wrote 256 at B r.n B' (use_text ol O c.uses) → r.cur ≡ behind_use c → Stepped ol O regs groups c at B r B'
    use_step l t e =
        stepped (behind_use c) e t.most (omega (arith, ends, (use_asked a l).0))
        (λ st h n m s.
        let k : c.uses < first_use st c.segs = omega (arith, s.uses_end_lem) in
        let i : c.uses < uses_in st = omega (arith, k, first_use_le st c.segs) in
        record {
          stands = record { uses = omega arith; uses_end_lem = s.uses_end_lem; segs = s.segs; segs_end_lem = s.segs_end_lem; regs = s.regs; groups = s.groups };
          text = step_text st c (behind_use c) at r.n B B' _ _ t (use_text_lem ol O st h c.uses i)
              (open_next st c (behind_use c) _ o refl (use_next st c.regs c.segs c.uses c.groups k));
        })

    pub seg_step : c.uses_end ≤ c.uses → c.segs < c.segs_end → Wrote 256 at B r.n B' (seg_text ol O c.segs) → r.cur ≡ behind_seg ol O c
        → Stepped ol O regs groups c at B r B'
    unfolding behind_seg
    seg_step d l t e =
        stepped (behind_seg ol O c) e t.most (omega (arith, ends, seg_asked a l))
        (λ st h n m s.
        let u : c.uses ≡ first_use st c.segs = omega (arith, s.uses, s.uses_end_lem, d) in
        let k : c.segs < first_piece st (vreg c.regs) = omega (arith, s.segs_end_lem, l) in
        let i : c.segs < pieces_in st = omega (arith, k, first_piece_le st c.regs) in
        let p : (piece_in O (seg_base ol + c.segs * 7)).first ≡ first_use st c.segs = ap (λ (q : PieceRow). q.first) (piece_held ol O st h c.segs i) in
        let q : (piece_in O (seg_base ol + c.segs * 7)).uses ≡ length (piece_at st c.segs).seg.uses = ap (λ (q : PieceRow). q.uses) (piece_held ol O st h c.segs i) in
        record {
          stands = record {
            uses = omega (arith, p, u);
            uses_end_lem = omega (arith, p, q, first_use_next st c.segs i);
            segs = omega arith;
            segs_end_lem = s.segs_end_lem;
            regs = s.regs;
            groups = s.groups;
          };
          text = step_text st c (behind_seg ol O c) at r.n B B' _ _ t (seg_text_lem ol O st h c.segs i)
              (open_next st c (behind_seg ol O c) _ o refl (seg_next st c.regs c.segs c.uses c.groups u k));
        })

    pub vreg_step : c.uses_end ≤ c.uses → c.segs_end ≤ c.segs → c.regs < regs → Wrote 256 at B r.n B' (vreg_text O c.regs) → r.cur ≡ behind_vreg O c
        → Stepped ol O regs groups c at B r B'
    unfolding behind_vreg
    vreg_step d d₂ l t e =
        stepped (behind_vreg O c) e t.most (omega (arith, ends, l))
        (λ st h n m s.
        let u : c.uses ≡ first_use st c.segs = omega (arith, s.uses, s.uses_end_lem, d) in
        let v : c.segs ≡ first_piece st (vreg c.regs) = omega (arith, s.segs, s.segs_end_lem, d₂) in
        let i : c.regs < length st.registers = omega (arith, n, l) in
        let p : (register_in O (c.regs * 8)).first ≡ first_piece st (vreg c.regs) = ap (λ (q : RegisterRow). q.first) (register_held ol O st h c.regs i) in
        let q : (register_in O (c.regs * 8)).count ≡ length (register_at st (vreg c.regs)).pieces = ap (λ (q : RegisterRow). q.count) (register_held ol O st h c.regs i) in
        record {
          stands = record {
            uses = s.uses;
            uses_end_lem = s.uses_end_lem;
            segs = omega (arith, p, v);
            segs_end_lem = omega (arith, p, q, first_piece_next st c.regs i);
            regs = omega arith;
            groups = s.groups;
          };
          text = step_text st c (behind_vreg O c) at r.n B B' _ _ t (vreg_text_lem ol O st h c.regs i)
              (open_next st c (behind_vreg O c) _ o refl (vreg_next st c.regs c.segs c.uses c.groups u v i));
        })

    pub group_step : c.uses_end ≤ c.uses → c.segs_end ≤ c.segs → regs ≤ c.regs → c.groups < groups → Wrote 256 at B r.n B' (group_text ol O c.groups) → r.cur ≡ behind_group c
        → Stepped ol O regs groups c at B r B'
    group_step d d₂ d₃ l t e =
        stepped (behind_group c) e t.most (omega (arith, ends, l))
        (λ st h n m s.
        let u : c.uses ≡ first_use st c.segs = omega (arith, s.uses, s.uses_end_lem, d) in
        let v : c.segs ≡ first_piece st (vreg c.regs) = omega (arith, s.segs, s.segs_end_lem, d₂) in
        let f : c.regs ≡ length st.registers = omega (arith, n, d₃, s.regs) in
        let i : c.groups < length st.groups = omega (arith, m, l) in
        record {
          stands = record { uses = s.uses; uses_end_lem = s.uses_end_lem; segs = s.segs; segs_end_lem = s.segs_end_lem; regs = s.regs; groups = omega arith };
          text = step_text st c (behind_group c) at r.n B B' _ _ t (group_text_lem ol O st h c.groups i)
              (open_next st c (behind_group c) _ o refl (group_next st c.regs c.segs c.uses c.groups u v f i));
        })

    pub end_step : c.uses_end ≤ c.uses → c.segs_end ≤ c.segs → regs ≤ c.regs → groups ≤ c.groups → Wrote 256 at B r.n B' (end_line regs groups) → r.cur ≡ behind_end c
        → Stepped ol O regs groups c at B r B'
    unfolding lines_left end_line
    end_step d d₂ d₃ d₄ t e =
        stepped (behind_end c) e t.most (omega (arith, ends))
        (λ st h n m s.
        let u : c.uses ≡ first_use st c.segs = omega (arith, s.uses, s.uses_end_lem, d) in
        let v : c.segs ≡ first_piece st (vreg c.regs) = omega (arith, s.segs, s.segs_end_lem, d₂) in
        let f : c.regs ≡ length st.registers = omega (arith, n, d₃, s.regs) in
        let g : c.groups ≡ length st.groups = omega (arith, m, d₄, s.groups) in
        record {
          stands = record { uses = s.uses; uses_end_lem = s.uses_end_lem; segs = s.segs; segs_end_lem = s.segs_end_lem; regs = s.regs; groups = s.groups };
          text = step_text st c (behind_end c) at r.n B B' _ (end_line_lem (length st.registers) (length st.groups)) t
              ((λ x. line_bytes (end_line_lem (n x) (m x))))
              (open_left st c c o ∙ end_next st c.regs c.segs c.uses c.groups u v f g);
        })
