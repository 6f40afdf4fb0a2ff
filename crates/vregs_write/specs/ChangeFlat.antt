-- What a change of class and weight stores, and what it asks of the words. Assumes nothing.
use Rattle.std.specs.Prelude.{List, [], ◌∷◌, ℕ, zero, suc, ◌+◌, ◌*◌, ◌≤◌, ◌<◌, get_or, set}
use Rattle.words.specs.Tab.{tab}
use Rattle.definition.specs.Limits.{max_group}
use Rattle.definition.specs.declared.VirtRegGroup.{VirtRegGroup}
use Rattle.virt_regs.specs.declared.OutLayout.{OutLayout}
use Rattle.virt_regs.specs.Encoding.{group_row, group_base}

-- class c and the weight's bits b in register v's row
unfoldable pub weighted : ℕ → ℕ → ℕ → List ℕ → List ℕ
weighted c b v O = set (set O (v * 8 + 1) c) (v * 8 + 2) b

-- for the register that a place's word names, if any
unfoldable pub at_place : ℕ → ℕ → ℕ → List ℕ → List ℕ
unfolding weighted
at_place c b zero O = O
at_place c b (suc v) O = weighted c b v O

-- for each of the places' words in turn
unfoldable pub at_places : ℕ → ℕ → List ℕ → List ℕ → List ℕ
unfolding at_place
at_places c b [] O = O
at_places c b (m ∷ ms) O = at_places c b ms (at_place c b m O)

-- the word of place i of group g
unfoldable pub member_in : OutLayout → VirtRegGroup → List ℕ → ℕ → ℕ
member_in ol g O i = get_or O (group_base ol + (g.0 * group_row + (i + 1))) 0

-- class c and weight b for every member of group g
unfoldable pub spread_in : OutLayout → ℕ → ℕ → VirtRegGroup → List ℕ → List ℕ
unfolding at_places
spread_in ol c b g O = at_places c b (tab (member_in ol g O) 0 (get_or O (group_base ol + g.0 * group_row) 0)) O

-- group g is a row with at most eight places, whose members are rows
pub record Spreadable (ol : OutLayout) (g : VirtRegGroup) (O : List ℕ) : Type 0 where
  pub here : g.0 < ol.groups
  pub size : get_or O (group_base ol + g.0 * group_row) 0 ≤ max_group
  pub members : (i : ℕ) → i < max_group → member_in ol g O i ≤ ol.regs
