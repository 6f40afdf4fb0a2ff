-- "Admitting a use", the scans over uses, and the step that a scan leads to. Assumes nothing.
use Rattle.std.specs.Prelude.{ℕ, suc, ◌-◌, Bool, true, false, ◌&&◌, cond, List, [], ◌∷◌, ◌++◌, map, reverse, eqb, length, get_or, take, replicate}
use Rattle.std.proofs.Math.Option.{Option, none, some, bind}
use Rattle.std.specs.Float.Ieee.{le}
use Rattle.definition.specs.Types.{Inst, Value, ValueSet, RegClass, VirtReg, VirtRegGroup, UseKind, FixedDef}
use Rattle.definition.specs.Types.{FixedUse, TiedUse, ConstraintConflict, ClassUse, ClassDef, GroupClassUse}
use Rattle.definition.specs.Types.{GroupClassDef, BlockparamIn, BlockparamOut, Use, Operand, Job, HeldGroup, Held}
use Rattle.definition.specs.Types.{Register, Mapped, State, Side, Early, Late, Stop, NoStart, TurnedDef, inst}
use Rattle.definition.specs.Types.{vset, cls}
use Rattle.definition.specs.Limits.{max_group}
use Rattle.definition.specs.RegInfo.{zero_f, class_at, common_subclass, set_of}
use Rattle.definition.specs.Uses.{is_def}
use Rattle.definition.specs.SplitPlacement.{early_cut, late_cut, side_of}

-- ---- reading the tables that are built

abbrev pub no_register : Register
no_register = record { set = vset 0; class = cls 0; weight = zero_f; group = none; index = 0; pieces = [] }

unfoldable pub register_at : State → VirtReg → Register
register_at st r = get_or st.registers r.0 no_register

unfoldable pub members_at : State → VirtRegGroup → List (Option VirtReg)
members_at st g = get_or st.groups g.0 []

-- "HashMap: a table of instruction, slot, group": the group that the operand at an instruction and slot is mapped to
unfoldable pub mapped_at : List Mapped → Inst → ℕ → Option VirtRegGroup
mapped_at [] i s = none
mapped_at (m ∷ ms) i s = let r = mapped_at ms i s in cond (eqb m.inst.0 i.0 && eqb m.slot s) (some m.group) r

-- the vgroup of that operand, as its number
unfoldable pub vgroup_at : List Operand → Inst → ℕ → ℕ
vgroup_at [] i s = 0
vgroup_at (o ∷ os) i s = let r = vgroup_at os i s in cond (eqb o.inst.0 i.0 && eqb o.slot s) o.vgroup.0 r

-- "eight places compared whole, the reserved value filling the rest": the value sets of a vgroup's members, place by place
abbrev pub reserved : ValueSet
reserved = vset 4294967295

unfoldable pub sets_of : Job → List Value → List ValueSet
unfolding set_of
sets_of job ms = map (λ v. set_of job v) ms ++ replicate (max_group - length ms) reserved

-- those of an operand's vgroup
unfoldable pub sets_at : Job → Inst → ℕ → List ValueSet
unfolding vgroup_at sets_of
sets_at job i s = sets_of job (get_or job.vgroups (vgroup_at job.operands i s) [])

-- ---- what is held "from the top class", before any use
unfoldable pub fresh : RegClass → Held
fresh top = record { class = top; group = none; target = none }

-- ---- "A class use needs a common subclass of the class held and its own, which is then held."
unfoldable pub admit_class : Job → Held → RegClass → Option Held
unfolding bind common_subclass
admit_class job h c = bind (common_subclass job h.class c) λ k. some (record { class = k; group = h.group; target = h.target })

-- ---- group uses

abbrev pub same_sets : List ValueSet → List ValueSet → Bool
same_sets [] [] = true
same_sets [] (y ∷ ys) = false
same_sets (x ∷ xs) [] = false
same_sets (x ∷ xs) (y ∷ ys) = eqb x.0 y.0 && same_sets xs ys

-- "If its operand is mapped to a register group, a mapping held before must be that one; if not, none may be held."
abbrev pub mapping_fits : Option VirtRegGroup → Option VirtRegGroup → Bool
mapping_fits none m = true
mapping_fits (some g) none = false
mapping_fits (some g) (some f) = eqb g.0 f.0

-- "A group use also needs the group index held, if one is." "If a group use came before, the value sets of the two vgroups agree place by place."
unfoldable pub group_fits : Option HeldGroup → ℕ → Option VirtRegGroup → List ValueSet → Bool
group_fits none i m sets = true
group_fits (some g) i m sets = eqb g.index i && mapping_fits g.mapped m && same_sets g.sets sets

unfoldable pub guard : Bool → Option (Unit {0})
guard true = some tt
guard false = none

-- "the candidate is narrowed by each member's class in turn"
unfoldable pub narrowed : Job → State → List (Option VirtReg) → RegClass → Option RegClass
unfolding bind common_subclass register_at
narrowed job st [] k = some k
narrowed job st (none ∷ ms) k = narrowed job st ms k
narrowed job st (some v ∷ ms) k = bind (common_subclass job k (register_at st v).class) λ n. narrowed job st ms n

-- "If the mapped group's place at that index is taken, that register is merged into, and the class is the common subclass of the class held before this use and
-- that register's; if the place is empty, the candidate is narrowed". The candidate is k, the common subclass of the class held and the use's own.
unfoldable pub at_place : Job → State → Held → RegClass → List (Option VirtReg) → Option VirtReg → Option (RegClass × Option VirtReg)
unfolding bind common_subclass register_at narrowed
at_place job st h k ms (some v) = bind (common_subclass job h.class (register_at st v).class) λ n. some (n, some v)
at_place job st h k ms none = bind (narrowed job st ms k) λ n. some (n, h.target)

unfoldable pub in_group : Job → State → Held → RegClass → ℕ → Option VirtRegGroup → Option (RegClass × Option VirtReg)
unfolding at_place members_at
in_group job st h k i none = some (k, h.target)
in_group job st h k i (some g) = at_place job st h k (members_at st g) (get_or (members_at st g) i none)

-- "Where one is lacking the use isn't admitted and nothing held changes."
unfoldable pub admit_group : Job → State → Held → Inst → ℕ → RegClass → ℕ → Option Held
unfolding bind common_subclass guard group_fits mapped_at sets_at in_group
admit_group job st h p slot c i =
    let m = mapped_at st.mapping p slot in
    let sets = sets_at job p slot in
    bind (common_subclass job h.class c) λ k.
    bind (guard (group_fits h.group i m sets)) λ _.
    bind (in_group job st h k i m) λ n.
    some (record { class = n.0; group = some (record { index = i; mapped = m; sets = sets }); target = n.1 })

-- ---- "Other kinds than class uses are always admitted."
unfoldable pub admit_kind : Job → State → Held → Inst → UseKind → Option Held
unfolding admit_class admit_group
admit_kind job st h p (FixedDef r) = some h
admit_kind job st h p (FixedUse r) = some h
admit_kind job st h p (TiedUse u d c i) = some h
admit_kind job st h p ConstraintConflict = some h
admit_kind job st h p (ClassUse s c) = admit_class job h c
admit_kind job st h p (ClassDef s c) = admit_class job h c
admit_kind job st h p (GroupClassUse s c i) = admit_group job st h p s c i
admit_kind job st h p (GroupClassDef s c i) = admit_group job st h p s c i
admit_kind job st h p (BlockparamIn q) = some h
admit_kind job st h p BlockparamOut = some h

unfoldable pub admit : Job → State → Held → Use → Option Held
unfolding admit_kind
admit job st h u = admit_kind job st h u.pos u.kind

-- ---- a scan over uses: all admitted, and what is then held; or the place of the first that is not

pub data Scan : Type 0 where
  through : Held → Scan
  fails_at : ℕ → Scan

abbrev pub later : Scan → Scan
later (through h) = through h
later (fails_at n) = fails_at (suc n)

abbrev pub on_admit : Option Held → (Held → Scan) → Scan
on_admit none k = fails_at 0
on_admit (some h) k = later (k h)

unfoldable pub scan : Job → State → List Use → Held → Scan
unfolding admit
scan job st [] h = through h
scan job st (u ∷ us) h = on_admit (admit job st h u) λ g. scan job st us g

-- what is held when a scan ends: after the last use, or at one that it can't admit, where "nothing held changes"
unfoldable pub held_by : Job → State → List Use → Held → Held
unfolding admit
held_by job st [] h = h
held_by job st (u ∷ us) h = elim (admit job st h u) [ some g ↦ held_by job st us g | none ↦ h ]

-- ---- the step that the forward scan leads to: place all; or turn the use at a place, or cut at an instruction; or stop

pub data Move : Type 0 where
  whole : Held → Move
  turn : ℕ → Move
  cut : Inst → Move
  halt : Stop → Move

abbrev pub no_use : Use
no_use = record { pos = inst 0; kind = ConstraintConflict }

abbrev pub use_at : List Use → ℕ → Use
use_at us n = get_or us n no_use

-- the use to turn stands at place n; a stop where "the use to turn is a definition"
unfoldable pub turning : List Use → ℕ → Move
turning us n = cond (is_def (use_at us n).kind) (halt TurnedDef) (turn n)

-- Change request 7. "The class at the end of a conflict is now the one that the backward scan held when it failed. The
-- cut is early if the forward class costs at least as much as that one, and late otherwise."
unfoldable pub cut_side : Job → (forward end : RegClass) → Side
unfolding le class_at
cut_side job forward end = cond (le (class_at job end).cost (class_at job forward).cost) Early Late

-- "If start and end share an instruction, the end is turned into a conflict (kind 3), or the start where the end is a definition, and the scan restarts; else a cut is made".
-- Start and end are places s and e of the uses.
unfoldable pub parted : Job → Side → List Use → ℕ → ℕ → Move
unfolding turning early_cut late_cut
parted job side us s e =
    cond (eqb (use_at us s).pos.0 (use_at us e).pos.0)
    (turning us (cond (is_def (use_at us e).kind) s e))
    (cut (inst (side_of side job.blocks (use_at us s).pos.0 (use_at us e).pos.0)))

-- "no start in the backward scan": it went through; or it failed j places before the end
unfoldable pub from_start : Job → Side → List Use → ℕ → Scan → Move
unfolding parted
from_start job side us e (through h) = halt NoStart
from_start job side us e (fails_at j) = parted job side us (e - j) e

-- the uses of the backward scan, where the forward one failed at place e: "back from the failing use"
abbrev pub back_from : ℕ → List Use → List Use
back_from e us = reverse (take (suc e) us)

-- "the forward class", and the "class at the end of a conflict": those that the two scans held when they failed
abbrev pub forward_class : Job → State → RegClass → List Use → RegClass
forward_class job st top us = (held_by job st us (fresh top)).class

abbrev pub end_class : Job → State → RegClass → List Use → ℕ → RegClass
end_class job st top us e = (held_by job st (back_from e us) (fresh top)).class

-- "The backward scan uses constraints of its own". "It goes back from the failing use, from the top class, to the first use it can't admit: the start."
unfoldable pub from_end : Job → State → RegClass → List Use → Scan → Move
unfolding scan fresh from_start held_by cut_side
from_end job st top us (through h) = whole h
from_end job st top us (fails_at e) =
    from_start job (cut_side job (forward_class job st top us) (end_class job st top us e)) us e
    (scan job st (back_from e us) (fresh top))

unfoldable pub move : Job → State → RegClass → List Use → Move
unfolding scan fresh from_end
move job st top us = from_end job st top us (scan job st us (fresh top))
