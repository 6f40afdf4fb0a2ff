-- The members of a group that stand in the result tables, with their weights. Assumes nothing.
use Rattle.std.specs.Prelude.{◌≡◌, refl, cond, List, [], ◌∷◌, ℕ, suc, ◌+◌, ◌-◌, ◌*◌, ◌≤◌, ◌<◌, eqb, length, get_or, Float}
use Rattle.std.proofs.Common.{sym, ap, ◌∙◌, zero-add, arith, take, drop_of_length-le}
use Rattle.std.proofs.Math.Seq.{take-nil}
use Rattle.std.proofs.lemmas.Bool.{cases_lt}
use mathlib.Core.Logic.{◌⊎◌, inl, inr}
use Rattle.std.proofs.Math.Option.{Option, none, some}
use Rattle.std.specs.Float.{binary32}
use Rattle.std.specs.Float.Ieee.{to_bits}
use Rattle.definition.specs.declared.Use.{Use}
use Rattle.definition.specs.declared.VirtReg.{VirtReg}
use Rattle.definition.specs.declared.VirtRegGroup.{VirtRegGroup}
use Rattle.definition.specs.Types.{Piece, State}
use Rattle.definition.specs.Weights.{min_f}
use Rattle.definition.specs.Admit.{register_at, members_at}
use Rattle.definition.specs.Place.{least_weight}
use Rattle.virt_regs.specs.declared.OutLayout.{OutLayout}
use Rattle.words.specs.Part.{part, part_get}
use Rattle.virt_regs.specs.Encoding.{seg_base, group_base, tables_end, place_word, Weighs, Holds}
use Rattle.virt_regs.specs.Held.{fit_registers}
use Rattle.virt_regs.specs.Reads.{member_held, member_lt, size_le, weight_held, weighs_held}
use Rattle.vregs_write.specs.Written.{Written}

-- The row of group g in O is its members in st, and each member's row has its weight.
pub record Members (ol : OutLayout) (O : List ℕ) (st : State) (g : VirtRegGroup) : Type 0 where
  pub size : length (members_at st g) ≤ 8
  pub places : (j : ℕ) → j < 8 → get_or O (group_base ol + (g.0 * 9 + (j + 1))) 0 ≡ place_word (get_or (members_at st g) j none)
  pub there : (j : ℕ) (v : VirtReg) → get_or (members_at st g) j none ≡ some v → v.0 < ol.regs
  pub weights : (j : ℕ) (v : VirtReg) → get_or (members_at st g) j none ≡ some v → get_or O (v.0 * 8 + 2) 0 ≡ to_bits binary32 (register_at st v).weight
  pub weighs : (j : ℕ) (v : VirtReg) → get_or (members_at st g) j none ≡ some v → Weighs (register_at st v).weight

pub members_held : (ol : OutLayout) (O : List ℕ) (st : State) (g : VirtRegGroup) → Holds ol O st → g.0 < length st.groups → Members ol O st g
unfolding Weighs
members_held ol O st g h l =
    let there : (j : ℕ) (v : VirtReg) → get_or (members_at st g) j none ≡ some v → v.0 < length st.registers = λ j v e. member_lt ol O st h g j v l e in
    record {
      size = size_le ol O st h g l;
      places = λ j k. member_held ol O st h g j l k;
      there = λ j v e. omega (arith, there j v e, fit_registers h);
      weights = λ j v e. weight_held ol O st h v (there j v e);
      weighs = λ j v e. weighs_held ol O st h v (there j v e);
    }

-- a word of a part that stays
kept : (a e j : ℕ) (O O' : List ℕ) → part a e O' ≡ part a e O → j < e - a → get_or O' (a + j) 0 ≡ get_or O (a + j) 0
kept a e j O O' h l = sym (part_get a e j O' l) ∙ ap (λ (t : List ℕ). get_or t j 0) h ∙ part_get a e j O l

-- stores to pieces and uses leave them
pub members_kept : (ol : OutLayout) (O O' : List ℕ) (st : State) (g : VirtRegGroup) → part 0 (seg_base ol) O' ≡ part 0 (seg_base ol) O
    → part (group_base ol) (tables_end ol) O' ≡ part (group_base ol) (tables_end ol) O → g.0 < ol.groups → Members ol O st g → Members ol O' st g
members_kept ol O O' st g hr hg l m =
    record {
      size = m.size;
      places = λ j k. kept (group_base ol) (tables_end ol) (g.0 * 9 + (j + 1)) O O' hg (omega arith) ∙ m.places j k;
      there = m.there;
      weights = λ j v e.
          let z : v.0 * 8 + 2 ≡ 0 + (v.0 * 8 + 2) = sym (zero-add _) in
          ap (λ (i : ℕ). get_or O' i 0) z
          ∙ kept 0 (seg_base ol) (v.0 * 8 + 2) O O' hr (omega (arith, m.there j v e))
          ∙ ap (λ (i : ℕ). get_or O i 0) (sym z)
          ∙ m.weights j v e;
      weighs = m.weighs;
    }

-- past the end there are no words
part_past : (a e : ℕ) (O : List ℕ) → length O ≤ a → part a e O ≡ []
unfolding part
part_past a e O h = ap (λ (t : List ℕ). take (e - a) t) (drop_of_length-le O {i = a} h) ∙ take-nil (e - a)

pub members_written : (ol : OutLayout) (O O' : List ℕ) (st : State) (g : VirtRegGroup) (p u : ℕ) (ps : List Piece)
    (us : List Use) → Written ol O p u ps us O' → g.0 < ol.groups → Members ol O st g → Members ol O' st g
members_written ol O O' st g p u ps us w l m =
    members_kept ol O O' st g w.ahead (groups (cases_lt (length O) (group_base ol))) l m
  where
    groups : (length O < group_base ol) ⊎ (group_base ol ≤ length O)
        → part (group_base ol) (tables_end ol) O' ≡ part (group_base ol) (tables_end ol) O
    groups (inl h) =
        part_past (group_base ol) (tables_end ol) O' (omega (arith, w.long))
        ∙ sym (part_past (group_base ol) (tables_end ol) O (omega arith))
    groups (inr h) = w.behind (group_base ol) (tables_end ol) (omega arith) h

-- the least weight depends on the weights alone
pub least_same : (st st' : State) → ((r : VirtReg) → (register_at st' r).weight ≡ (register_at st r).weight) → (i j : ℕ) (ms : List (Option VirtReg)) (w : Float)
    → least_weight st' i j ms w ≡ least_weight st i j ms w
unfolding least_weight
least_same st st' h i j [] w = refl
least_same st st' h i j (none ∷ ms) w = least_same st st' h i (suc j) ms w
least_same st st' h i j (some r ∷ ms) w =
    ap (λ (x : Float). least_weight st' i (suc j) ms (cond (eqb i j) w (min_f w x))) (h r)
    ∙ least_same st st' h i (suc j) ms (cond (eqb i j) w (min_f w (register_at st r).weight))
