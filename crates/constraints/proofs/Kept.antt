-- What stays when words of the work slice change, and an operand more that is mapped. Assumes nothing.
use mathlib.Core.Path.{◌≡◌, refl, sym, ap, ap₂, ◌∙◌}
use mathlib.Core.Bool.{Bool, true, false, ◌&&◌, cond}
use mathlib.Core.Option.{Option, none, some}
use mathlib.Core.List.{List, [], ◌∷◌, ◌++◌}
use Prim.Native.Nat.{ℕ, ◌+◌, ◌-◌, ◌*◌, ◌≤◌, ◌<◌}
use native.Mathlib.Omega.{arith}
use lib.Dec.{eqb}
use lib.ListN.{length, get_or, set}
use lib.Seq.{get_or-set_same, get_or-set_other}
use borrow.Author.Tests.{eqb-true, eqb-false, eq-eqb}
use Rattle.definition.specs.declared.Inst.{Inst}
use Rattle.definition.specs.declared.BlockData.{BlockData}
use Rattle.definition.specs.declared.Operand.{Operand}
use Rattle.definition.specs.declared.VirtRegGroup.{VirtRegGroup}
use Rattle.definition.specs.Types.{Mapped, State, inst}
use Rattle.definition.specs.Admit.{mapped_at}
use Rattle.definition.specs.Entry.{apart, same_place}
use Rattle.definition.proofs.Entries.{and_both}
use Rattle.words.specs.RowsAt.{length_rows_at}
use Rattle.function.specs.Blocks.{block_row, blocks_at, Starts}
use Rattle.std.specs.Prelude.{Some}
use Rattle.values.specs.OperandRows.{op_at, is_at, last_place}
use Rattle.values.proofs.Rows.{long}
use Rattle.values.proofs.Store.{chained_kept}
use Rattle.values.proofs.Only.{found_only}
use Rattle.job.specs.declared.Layout.{Layout}
use Rattle.virt_regs.specs.declared.OutLayout.{OutLayout}
use Rattle.virt_regs.specs.Encoding.{group_word}
use Rattle.job.specs.declared.work.WorkLayout.{WorkLayout}
use Rattle.job.specs.Regions.{chains_in}
use Rattle.constraints.specs.Ready.{operands_in, Mapping, Ready, Stands}

-- n words from word `at` on are the same in L as in K
abbrev pub Same : List ℕ → List ℕ → ℕ → ℕ → Type 0
Same K L at n = (i : ℕ) → i < n → get_or L (at + i) 0 ≡ get_or K (at + i) 0

pub same_set : (K : List ℕ) (p x at n : ℕ) → ((i : ℕ) → i < n → at + i ≡ p → ⊥) → Same K (set K p x) at n
same_set K p x at n f i l = get_or-set_other K p (at + i) x 0 (f i l)

pub starts_kept : (K L : List ℕ) (at : ℕ) (bs : List BlockData) → Same K L at (length bs * 2 + 2) → Starts K at bs → Starts L at bs
starts_kept K L at bs f h =
    let bits : (j : ℕ) → j < length bs → get_or L (at + j * 2 + 1) 0 ≡ get_or K (at + j * 2 + 1) 0 =
    λ j l. let e : at + j * 2 + 1 ≡ at + (j * 2 + 1) = omega arith in ap (λ (n : ℕ). get_or L n 0) e ∙ f (j * 2 + 1) (omega arith) ∙ ap (λ (n : ℕ). get_or K n 0) (sym e) in
    record {
      first = λ j l. f (j * 2) (omega arith) ∙ h.first j l;
      bits = λ j l. rw (bits j l) (h.bits j l);
      finite = λ j l. rw (bits j l) (h.finite j l);
      filled = h.filled;
    }

-- the index and the table of starts are where they were
pub ready_kept : {t w : ℕ} {W K : List ℕ} {lay : Layout} {wl : WorkLayout} (L : List ℕ) → Ready t w W K lay wl
    → Same K L wl.heads (wl.nexts - wl.heads) → Same K L wl.nexts lay.operands.n → Same K L wl.starts (lay.blocks.n * 2 + 2) → Ready t w W L lay wl
ready_kept {t} {w} {W} {K} {lay} {wl} L r f g h =
    let n : length (operands_in W lay) ≡ lay.operands.n = long W lay.operands.at lay.operands.n in
    let m : length (blocks_at W lay.blocks.at lay.blocks.n) ≡ lay.blocks.n = length_rows_at block_row W lay.blocks.at 2 lay.blocks.n in
    record {
      fits = r.fits;
      index = r.index;
      chained = chained_kept K L (chains_in lay wl) (operands_in W lay) f (λ k l. g k (omega arith)) r.chained;
      under = r.under;
      single = r.single;
      grouped = r.grouped;
      width = r.width;
      mapping = r.mapping;
      some_block = r.some_block;
      few_blocks = r.few_blocks;
      few_insts = r.few_insts;
      room = r.room;
      starts = starts_kept K L wl.starts (blocks_at W lay.blocks.at lay.blocks.n) (λ i l. h i (omega arith)) r.starts;
      marks = r.marks;
      within = r.within;
      backed = r.backed;
    }

pub mapping_kept : {K : List ℕ} {at : ℕ} {os : List Operand} {ms : List Mapped} (L : List ℕ) → Same K L at (length os) → Mapping K at os ms → Mapping L at os ms
mapping_kept L f m = record { is = λ k l. f k l ∙ m.is k l }

pub stands_kept : {ol : OutLayout} {O W K : List ℕ} {lay : Layout} {wl : WorkLayout} {st : State} (L : List ℕ) → Same K L wl.mapping lay.operands.n
    → Stands ol O W K lay wl st → Stands ol O W L lay wl st
stands_kept {ol} {O} {W} {K} {lay} {wl} {st} L f s =
    let n : length (operands_in W lay) ≡ lay.operands.n = long W lay.operands.at lay.operands.n in
    record { tables = s.tables; mapped = mapping_kept L (λ i l. f i (omega arith)) s.mapped }

-- ---- one operand more is mapped

-- an entry is that of the operand at i and s
abbrev is_of : Mapped → Inst → ℕ → Bool
is_of m i s = eqb m.inst.0 i.0 && eqb m.slot s

module _ (m : Mapped) (i : Inst) (s : ℕ) where
  pub mapped_other : (ms : List Mapped) → is_of m i s ≡ false → mapped_at (ms ++ (m ∷ [])) i s ≡ mapped_at ms i s
  unfolding mapped_at
  mapped_other [] e = rw e
  mapped_other (x ∷ ms) e = ap (λ (r : Option VirtRegGroup). cond (is_of x i s) (some x.group) r) (mapped_other ms e)

  pub mapped_here : (ms : List Mapped) → is_of m i s ≡ true → mapped_at ms i s ≡ none → mapped_at (ms ++ (m ∷ [])) i s ≡ some m.group
  unfolding mapped_at
  mapped_here [] e z = rw e
  mapped_here (x ∷ ms) e z = go (is_of x i s) z (mapped_here ms e)
    where
      go : (b : Bool) → cond b (some x.group) (mapped_at ms i s) ≡ none → (mapped_at ms i s ≡ none → mapped_at (ms ++ (m ∷ [])) i s ≡ some m.group)
          → cond b (some x.group) (mapped_at (ms ++ (m ∷ [])) i s) ≡ some m.group
      go true q f = let n : ◌≡◌ {A = ℕ} 0 1 = cc in absurd (omega arith)
      go false q f = f q

both_eqb : (a b c d : ℕ) → a ≡ b → c ≡ d → eqb a b && eqb c d ≡ true
both_eqb a b c d e f = rw (eq-eqb a b e, eq-eqb c d f)

-- an entry for operand k is none for another
not_of : (os : List Operand) (k j : ℕ) (m : Mapped) → apart same_place os ≡ true → k < length os → j < length os → is_at m.inst.0 m.slot (op_at os k) ≡ true → (j ≡ k → ⊥)
    → (b : Bool) → is_of m (op_at os j).inst (op_at os j).slot ≡ b → b ≡ false
not_of os k j m a l h t ne false q = refl
not_of os k j m a l h t ne true q =
    let r = and_both (eqb m.inst.0 (op_at os j).inst.0) (eqb m.slot (op_at os j).slot) q in
    let i : m.inst.0 ≡ (op_at os j).inst.0 = eqb-true m.inst.0 (op_at os j).inst.0 r.0 in
    let u : m.slot ≡ (op_at os j).slot = eqb-true m.slot (op_at os j).slot r.1 in
    let fj : last_place os (length os) m.inst.0 m.slot ≡ Some j =
    found_only os m.inst.0 m.slot j a h (both_eqb (op_at os j).inst.0 m.inst.0 (op_at os j).slot m.slot (sym i) (sym u)) in
    let fk : last_place os (length os) m.inst.0 m.slot ≡ Some k = found_only os m.inst.0 m.slot k a l t in
    let e : j ≡ k = cc in
    absurd (ne e)

-- word k set to the group's number + 1, where operand k is at p and s
pub mapping_more : (K : List ℕ) (at : ℕ) (os : List Operand) (ms : List Mapped) (k : ℕ) (p : Inst) (s : ℕ) (g : VirtRegGroup) → apart same_place os ≡ true → at + length os ≤ length K
    → k < length os → is_at p.0 s (op_at os k) ≡ true → mapped_at ms p s ≡ none → Mapping K at os ms
    → Mapping (set K (at + k) (g.0 + 1)) at os (ms ++ (record { inst = p; slot = s; group = g } ∷ []))
mapping_more K at os ms k p s g a lk l t z m = record { is = λ j h. go j h (eqb j k) refl }
  where
    new : Mapped
    new = record { inst = p; slot = s; group = g }

    place : (op_at os k).inst ≡ p
    place = ap inst (eqb-true (op_at os k).inst.0 p.0 (and_both (eqb (op_at os k).inst.0 p.0) (eqb (op_at os k).slot s) t).0)

    slot : (op_at os k).slot ≡ s
    slot = eqb-true (op_at os k).slot s (and_both (eqb (op_at os k).inst.0 p.0) (eqb (op_at os k).slot s) t).1

    go : (j : ℕ) → j < length os → (b : Bool) → eqb j k ≡ b → get_or (set K (at + k) (g.0 + 1)) (at + j) 0 ≡ group_word (mapped_at (ms ++ (new ∷ [])) (op_at os j).inst (op_at os j).slot)
    go j h true q =
        let e : j ≡ k = eqb-true j k q in
        ap (λ (n : ℕ). get_or (set K (at + k) (g.0 + 1)) (at + n) 0) e
        ∙ get_or-set_same K (at + k) (g.0 + 1) 0 (omega arith)
        ∙ sym (ap (λ (n : ℕ). group_word (mapped_at (ms ++ (new ∷ [])) (op_at os n).inst (op_at os n).slot)) e
        ∙ ap₂ (λ (x : Inst) (y : ℕ). group_word (mapped_at (ms ++ (new ∷ [])) x y)) place slot
        ∙ ap group_word (mapped_here new p s ms (both_eqb p.0 p.0 s s refl refl) z))
    go j h false q =
        let ne : j ≡ k → ⊥ = eqb-false j k q in
        get_or-set_other K (at + k) (at + j) (g.0 + 1) 0 (λ (r : at + j ≡ at + k). ne (omega arith))
        ∙ m.is j h
        ∙ sym (ap group_word (mapped_other new (op_at os j).inst (op_at os j).slot ms (not_of os k j new a l h t ne (is_of new (op_at os j).inst (op_at os j).slot) refl)))
