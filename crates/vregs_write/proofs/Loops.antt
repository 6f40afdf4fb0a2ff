-- Turns of the loop over a group's places. Assumes nothing.
use mathlib.Core.Path.{◌≡◌, refl, sym, ap, ◌∙◌}
use mathlib.Core.List.{List}
use Prim.Native.Nat.{ℕ, zero, suc, ◌+◌, ◌-◌, ◌*◌, ◌≤◌, ◌<◌}
use native.Mathlib.Omega.{arith}
use lib.ListN.{get_or, set}
use lib.Seq.{get_or-set_other}
use Rattle.words.specs.Tab.{tab, tab_more, tab_done}
use Rattle.words.specs.Words.{words_of}
use Rattle.definition.specs.declared.VirtRegGroup.{VirtRegGroup}
use Rattle.virt_regs.specs.declared.OutLayout.{OutLayout}
use Rattle.virt_regs.specs.Encoding.{group_row, group_base}
use Rattle.vregs_write.specs.ChangeFlat.{weighted, at_place, at_places, member_in, spread_in, Spreadable}

pub place_none : (c b m : ℕ) (O : List ℕ) → m ≡ 0 → O ≡ at_place c b m O
unfolding at_place
place_none c b zero O e = refl
place_none c b (suc m) O e = absurd (omega arith)

pub place_some : (c b m : ℕ) (O W : List ℕ) → (m ≡ 0 → ⊥) → W ≡ weighted c b (m - 1) O → W ≡ at_place c b m O
unfolding at_place
place_some c b zero O W n e = absurd (n refl)
place_some c b (suc m) O W n e = let k : suc m - 1 ≡ m = omega arith in e ∙ ap (λ (v : ℕ). weighted c b v O) k

-- a change of a register's row leaves the groups' rows
member_kept : (ol : OutLayout) (g : VirtRegGroup) (c b m j : ℕ) (O : List ℕ) → m ≤ ol.regs → member_in ol g (at_place c b m O) j ≡ member_in ol g O j
unfolding at_place weighted member_in
member_kept ol g c b zero j O h = refl
member_kept ol g c b (suc v) j O h =
    let at : ℕ = group_base ol + (g.0 * group_row + (j + 1)) in
    get_or-set_other (set O (v * 8 + 1) c) (v * 8 + 2) at b 0 (omega arith) ∙ get_or-set_other O (v * 8 + 1) at c 0 (omega arith)

-- the places before place i are done; n is the group's size
pub record Spreading (ol : OutLayout) (g : VirtRegGroup) (c b n : ℕ) (o₀ : List ℕ) (i : ℕ) (o : List ℕ) : Type 0 where
  pub within : i ≤ n
  pub same : (j : ℕ) → member_in ol g (words_of o) j ≡ member_in ol g (words_of o₀) j
  pub left : at_places c b (tab (member_in ol g (words_of o₀)) 0 n) (words_of o₀) ≡ at_places c b (tab (member_in ol g (words_of o₀)) i (n - i)) (words_of o)

-- the member at place i is a row
pub spread_row : {ol : OutLayout} {g : VirtRegGroup} {c b n : ℕ} {o₀ : List ℕ} {i : ℕ} {o : List ℕ} (m : ℕ) → Spreading ol g c b n o₀ i o → Spreadable ol g (words_of o₀) → i < n → n ≤ 8
    → m ≡ get_or (words_of o) (group_base ol + (g.0 * group_row + (i + 1))) 0 → m ≤ ol.regs
unfolding member_in
spread_row {i = i} m s a l h e = let k = a.members i (omega arith) in let q = s.same i in omega arith

pub spread_next : {ol : OutLayout} {g : VirtRegGroup} {c b n : ℕ} {o₀ : List ℕ} {i : ℕ} {o o' : List ℕ} (m : ℕ) → Spreading ol g c b n o₀ i o → i < n → m ≤ ol.regs
    → m ≡ get_or (words_of o) (group_base ol + (g.0 * group_row + (i + 1))) 0 → words_of o' ≡ at_place c b m (words_of o) → Spreading ol g c b n o₀ (i + 1) o'
unfolding member_in at_places
spread_next {ol} {g} {c} {b} {n} {o₀} {i} {o} {o'} m s l r em ew =
    let f : ℕ → ℕ = member_in ol g (words_of o₀) in
    let e : f i ≡ m = sym (s.same i) ∙ sym em in
    record {
      within = omega arith;
      same = λ j. ap (λ (t : List ℕ). member_in ol g t j) ew ∙ member_kept ol g c b m j (words_of o) r ∙ s.same j;
      left =
          s.left
          ∙ ap (λ (ms : List ℕ). at_places c b ms (words_of o)) (tab_more f i n l)
          ∙ ap (λ (k : ℕ). at_places c b (tab f (i + 1) (n - (i + 1))) (at_place c b k (words_of o))) e
          ∙ ap (λ (t : List ℕ). at_places c b (tab f (i + 1) (n - (i + 1))) t) (sym ew);
    }

pub spread_last : {ol : OutLayout} {g : VirtRegGroup} {c b n : ℕ} {o₀ : List ℕ} {i : ℕ} {o : List ℕ} → Spreading ol g c b n o₀ i o → n ≤ i
    → n ≡ get_or (words_of o₀) (group_base ol + g.0 * group_row) 0 → words_of o ≡ spread_in ol c b g (words_of o₀)
unfolding at_places spread_in
spread_last {ol} {g} {c} {b} {n} {o₀} {i} {o} s l en =
    sym (ap (λ (k : ℕ). at_places c b (tab (member_in ol g (words_of o₀)) 0 k) (words_of o₀)) (sym en)
    ∙ s.left
    ∙ ap (λ (ms : List ℕ). at_places c b ms (words_of o)) (tab_done (member_in ol g (words_of o₀)) i n l))
