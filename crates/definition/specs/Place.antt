-- Placing a register: a new one, one that joins a group, or pieces that are merged into a register. Assumes nothing.
use Rattle.std.specs.Prelude.{ℕ, zero, suc, ◌+◌, Bool, true, false, ◌&&◌, ◌||◌, cond, List, [], ◌∷◌, ◌++◌, map, leb, ltb, eqb, length, set, replicate, Float}
use Rattle.std.proofs.Math.Option.{Option, none, some}
use Rattle.definition.specs.Types.{Inst, ValueSet, RegClass, VirtReg, VirtRegGroup, LiveRangePoint, Use, Segment, Job, Room, HeldGroup, Held, Piece, Register, Mapped, State, Stop, MappedTwice, Overlap, Stopped, Full, Out, done, refused, vreg, vrgroup, point}
use Rattle.definition.specs.RegInfo.{class_at}
use Rattle.definition.specs.Uses.{slot_of}
use Rattle.definition.specs.Weights.{weight_of, min_f}
use Rattle.definition.specs.Admit.{register_at, members_at, mapped_at}

infixl 20 ◌>>=◌
abbrev pub ◌>>=◌ : {A B : Type 0} → Out A → (A → Out B) → Out B
◌>>=◌ (done a) k = k a
◌>>=◌ (refused r) k = refused r

-- ---- how a state changes

-- A state is written out here alone, and by these names elsewhere: a field more is a line in `empty` and in each of these
-- that changes it.

-- "from empty tables"
abbrev pub empty : State
empty = record { registers = []; groups = []; mapping = [] }

-- one field replaced, the others as they are
abbrev pub set_registers : List Register → State → State
set_registers rs st = record st { registers = rs }

abbrev pub set_groups : List (List (Option VirtReg)) → State → State
set_groups gs st = record st { groups = gs }

abbrev pub set_mapping : List Mapped → State → State
set_mapping ms st = record st { mapping = ms }

-- a register more, behind the others
abbrev pub add_register : Register → State → State
add_register r st = set_registers (st.registers ++ (r ∷ [])) st

-- a group more, behind the others, with the members ms
abbrev pub add_group : List (Option VirtReg) → State → State
add_group ms st = set_groups (st.groups ++ (ms ∷ [])) st

-- the members ms in place of those of group g
abbrev pub set_members : VirtRegGroup → List (Option VirtReg) → State → State
set_members g ms st = set_groups (set st.groups g.0 ms) st

-- a register with the class c and the weight w, and one with the pieces ps
abbrev pub with_weight : RegClass → Float → Register → Register
with_weight c w r = record r { class = c; weight = w }

abbrev pub with_pieces : List Piece → Register → Register
with_pieces ps r = record r { pieces = ps }

-- register n changed by f
unfoldable pub update : (Register → Register) → ℕ → List Register → List Register
update f n [] = []
update f zero (r ∷ rs) = f r ∷ rs
update f (suc n) (r ∷ rs) = r ∷ update f n rs

-- "A joining or merging register sets class and weight of all members."
unfoldable pub spread : RegClass → Float → List (Option VirtReg) → List Register → List Register
unfolding update
spread c w [] rs = rs
spread c w (none ∷ ms) rs = spread c w ms rs
spread c w (some r ∷ ms) rs = spread c w ms (update (with_weight c w) r.0 rs)

-- the class c and the weight w for register v
abbrev pub with_weight_at : VirtReg → RegClass → Float → State → State
with_weight_at v c w st = set_registers (update (with_weight c w) v.0 st.registers) st

-- the same for each of the members ms
abbrev pub spread_to : List (Option VirtReg) → RegClass → Float → State → State
spread_to ms c w st = set_registers (spread c w ms st.registers) st

-- the pieces ps for register v
abbrev pub with_pieces_at : VirtReg → List Piece → State → State
with_pieces_at v ps st = set_registers (update (with_pieces ps) v.0 st.registers) st

-- ---- counts, for the lent tables

unfoldable pub total : {A : Type 0} → (A → ℕ) → List A → ℕ
total f [] = 0
total f (x ∷ xs) = f x + total f xs

unfoldable pub pieces_in : State → ℕ
unfolding total
pieces_in st = total (λ r. length r.pieces) st.registers

unfoldable pub uses_of_pieces : List Piece → ℕ
unfolding total
uses_of_pieces ps = total (λ p. length p.seg.uses) ps

unfoldable pub uses_in : State → ℕ
unfolding total uses_of_pieces
uses_in st = total (λ r. uses_of_pieces r.pieces) st.registers

-- 9: "a register to be placed, with its pieces, their uses and new group, overfills a lent table (merging adds no register; moved pieces count once)".
-- The tables hold r registers and g groups more, and the pieces ps with their uses.
unfoldable pub has_room : Room → State → ℕ → ℕ → List Piece → Bool
unfolding pieces_in uses_in uses_of_pieces
has_room room st r g ps =
    leb (length st.registers + r) room.registers && leb (pieces_in st + length ps) room.segments
    && leb (uses_in st + uses_of_pieces ps) room.uses && leb (length st.groups + g) room.groups

-- the state, if there is room
unfoldable pub if_room : Bool → State → Out State
if_room true st = done st
if_room false st = refused Full

-- "8 if one register meets both": the stop s where the Bool before it says so, then room
unfoldable pub gate : Bool → Stop → Bool → State → Out State
unfolding if_room
gate true s b st = refused (Stopped s)
gate false s b st = if_room b st

-- ---- members of a group

-- "Last, the least of that and the other group members' weights": w, and the members at other places than i; j is the first member's place
unfoldable pub least_weight : State → ℕ → ℕ → List (Option VirtReg) → Float → Float
unfolding min_f register_at
least_weight st i j [] w = w
least_weight st i j (none ∷ ms) w = least_weight st i (suc j) ms w
least_weight st i j (some r ∷ ms) w = least_weight st i (suc j) ms (cond (eqb i j) w (min_f w (register_at st r).weight))

-- ---- merging

unfoldable pub first_from : List Piece → LiveRangePoint
first_from [] = point 0
first_from (p ∷ ps) = p.seg.«from»

unfoldable pub last_to : List Piece → LiveRangePoint
last_to [] = point 0
last_to (p ∷ []) = p.seg.to
last_to (p ∷ q ∷ ps) = last_to (q ∷ ps)

-- "an old piece of a merged register ends after the first new piece starts and starts before the last new one ends"
unfoldable pub overlaps : LiveRangePoint → LiveRangePoint → List Piece → Bool
overlaps a b [] = false
overlaps a b (p ∷ ps) = (ltb a.0 p.seg.to.0 && ltb p.seg.«from».0 b.0) || overlaps a b ps

-- the new pieces behind the old ones that end by a
unfoldable pub inserted : LiveRangePoint → List Piece → List Piece → List Piece
inserted a new [] = new
inserted a new (p ∷ ps) = elim (leb p.seg.to.0 a.0) [ true ↦ p ∷ inserted a new ps | false ↦ new ++ p ∷ ps ]

abbrev pub segs_of : List Piece → List Segment
segs_of ps = map (λ p. p.seg) ps

-- the weight of pieces ps in a group whose members are ms
unfoldable pub group_weight : Job → Held → HeldGroup → List (Option VirtReg) → List Piece → State → Float
unfolding least_weight weight_of
group_weight job h hg ms ps st = least_weight st hg.index 0 ms (weight_of job h.class (segs_of ps))

unfoldable pub merge_state : Job → Held → HeldGroup → VirtRegGroup → VirtReg → List Piece → State → State
unfolding inserted first_from register_at members_at group_weight spread update
merge_state job h hg g v new st =
    let ps = inserted (first_from new) new (register_at st v).pieces in
    spread_to (members_at st g) h.class (group_weight job h hg (members_at st g) ps st) (with_pieces_at v ps st)

unfoldable pub merge : Job → Room → Held → HeldGroup → VirtRegGroup → VirtReg → List Piece → State → Out State
unfolding gate overlaps first_from last_to has_room register_at merge_state
merge job room h hg g v new st =
    gate (overlaps (first_from new) (last_to new) (register_at st v).pieces) Overlap (has_room room st 0 0 new) (merge_state job h hg g v new st)

-- ---- joining a group

abbrev pub made : ValueSet → Held → Float → Option VirtRegGroup → ℕ → List Piece → Register
made set' h w g i ps = record { set = set'; class = h.class; weight = w; group = g; index = i; pieces = ps }

unfoldable pub join_state : Job → ValueSet → Held → HeldGroup → VirtRegGroup → List Piece → State → State
unfolding members_at group_weight spread
join_state job set' h hg g new st =
    let ms = members_at st g in
    let w = group_weight job h hg ms new st in
    let r = made set' h w (some g) hg.index new in
    set_members g (set ms hg.index (some (vreg (length st.registers)))) (add_register r (spread_to ms h.class w st))

unfoldable pub join : Job → Room → ValueSet → Held → HeldGroup → VirtRegGroup → List Piece → State → Out State
unfolding if_room has_room join_state
join job room set' h hg g new st = if_room (has_room room st 1 0 new) (join_state job set' h hg g new st)

-- ---- "A new group maps every group operand of its register; a joining or merging register maps none."

-- none where the operand has a group already ("one operand mapped twice")
abbrev pub if_unmapped : Option VirtRegGroup → List Mapped → Option (List Mapped)
if_unmapped none ms = some ms
if_unmapped (some f) ms = none

-- the mapping with the operand of a use at instruction i more: the use has a slot, and so an operand, only if it is a group use
abbrev pub map_one : Inst → Option ℕ → VirtRegGroup → List Mapped → Option (List Mapped)
map_one i none g ms = some ms
map_one i (some s) g ms = if_unmapped (mapped_at ms i s) (ms ++ (record { inst = i; slot = s; group = g } ∷ []))

abbrev pub on_mapping : Option (List Mapped) → (List Mapped → Option (List Mapped)) → Option (List Mapped)
on_mapping none k = none
on_mapping (some ms) k = k ms

unfoldable pub map_uses : VirtRegGroup → List Use → List Mapped → Option (List Mapped)
unfolding mapped_at
map_uses g [] ms = some ms
map_uses g (u ∷ us) ms = on_mapping (map_one u.pos (slot_of u.kind) g ms) λ ns. map_uses g us ns

unfoldable pub uses_of : List Segment → List Use
uses_of [] = []
uses_of (s ∷ ss) = s.uses ++ uses_of ss

abbrev pub is_none : {A : Type 0} → Option A → Bool
is_none none = true
is_none (some a) = false

abbrev pub or_else : {A : Type 0} → Option A → A → A
or_else none d = d
or_else (some a) d = a

unfoldable pub lead_state : Job → ValueSet → Held → HeldGroup → List Piece → State → List Mapped → State
unfolding weight_of class_at
lead_state job set' h hg new st ms =
    let r = made set' h (weight_of job h.class (segs_of new)) (some (vrgroup (length st.groups))) hg.index new in
    let places = set (replicate (class_at job h.class).size none) hg.index (some (vreg (length st.registers))) in
    set_mapping ms (add_group places (add_register r st))

unfoldable pub lead : Job → Room → ValueSet → Held → HeldGroup → List Piece → State → Out State
unfolding gate has_room map_uses uses_of lead_state
lead job room set' h hg new st =
    let ms = map_uses (vrgroup (length st.groups)) (uses_of (segs_of new)) st.mapping in
    gate (is_none ms) MappedTwice (has_room room st 1 1 new) (lead_state job set' h hg new st (or_else ms []))

-- ---- a register of no group

unfoldable pub alone_state : Job → ValueSet → Held → List Piece → State → State
unfolding weight_of
alone_state job set' h new st = add_register (made set' h (weight_of job h.class (segs_of new)) none 0 new) st

unfoldable pub alone : Job → Room → ValueSet → Held → List Piece → State → Out State
unfolding if_room has_room alone_state
alone job room set' h new st = if_room (has_room room st 1 0 new) (alone_state job set' h new st)

-- ---- all four

-- In a group: a new one where no mapping is held, else the one that is mapped to. A register to merge into is read from a place of that one (`at_place`), and a mapping
-- once held stays (`mapping_fits`): so where none is held there is no register to merge into (`scan_unmapped` in `proofs/Targets.antt`), and none is asked for.
unfoldable pub place_group : Job → Room → ValueSet → Held → List Piece → State → HeldGroup → Option VirtRegGroup → Option VirtReg → Out State
unfolding merge join lead
place_group job room set' h new st hg none t = lead job room set' h hg new st
place_group job room set' h new st hg (some g) none = join job room set' h hg g new st
place_group job room set' h new st hg (some g) (some v) = merge job room h hg g v new st

unfoldable pub place_by : Job → Room → ValueSet → Held → List Piece → State → Option HeldGroup → Out State
unfolding alone place_group
place_by job room set' h new st none = alone job room set' h new st
place_by job room set' h new st (some hg) = place_group job room set' h new st hg hg.mapped h.target

unfoldable pub place : Job → Room → ValueSet → Held → List Piece → State → Out State
unfolding place_by
place job room set' h new st = place_by job room set' h new st h.group
