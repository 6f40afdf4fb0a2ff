-- A use at a place of a mapped group. Assumes nothing.
use mathlib.Core.Path.{◌≡◌, sym, ap, ◌∙◌}
use mathlib.Core.Option.{Option, none, some, bind}
use mathlib.Core.List.{List}
use Prim.Native.Nat.{ℕ, ◌<◌}
use lib.ListN.{length, get_or}
use Rattle.definition.specs.declared.RegClass.{RegClass}
use Rattle.definition.specs.declared.VirtReg.{VirtReg}
use Rattle.definition.specs.declared.VirtRegGroup.{VirtRegGroup}
use Rattle.definition.specs.Types.{Job, State, Held}
use Rattle.definition.specs.RegInfo.{common_subclass}
use Rattle.definition.specs.Admit.{register_at, members_at, narrowed, at_place, in_group}
use Rattle.std.specs.Prelude.{Some, None}
use Rattle.std.specs.Prelude as code
use Rattle.reginfo.specs.Rows.{found_of}
use Rattle.virt_regs.specs.declared.OutLayout.{OutLayout}
use Rattle.virt_regs.specs.Encoding.{Holds}
use Rattle.constraints.specs.declared.members.Joined.{Joined}
use Rattle.constraints.specs.Places.{option_of, joined_of}
use Rattle.constraints.proofs.Places.{member_in}

-- the class that is found, if any, with the register to merge into
abbrev joined : code.Option RegClass → code.Option VirtReg → code.Option Joined
joined None t = None
joined (Some c) t = Some (record { class = c; target = t })

join : (o : Option RegClass) (f : code.Option RegClass) (t : code.Option VirtReg) → found_of o ≡ f → joined_of (joined f t) ≡ bind o (λ n. some (n, option_of t))
unfolding joined_of bind
join none f t e = ap (λ (g : code.Option RegClass). joined_of (joined g t)) (sym e)
join (some c) f t e = ap (λ (g : code.Option RegClass). joined_of (joined g t)) (sym e)

module _ (job : Job) (st : State) (h : Held) (k : RegClass) (g : VirtRegGroup) (i : ℕ) (m : code.Option VirtReg) (em : option_of m ≡ get_or (members_at st g) i none) where
  -- the place is empty
  pub place_empty : (t : code.Option VirtReg) (f r : code.Option RegClass) → m ≡ None → h.target ≡ option_of t → f ≡ found_of (narrowed job st (members_at st g) k) → f ≡ r
      → joined_of (joined r t) ≡ at_place job st h k (members_at st g) (get_or (members_at st g) i none)
  unfolding at_place
  place_empty t f r z et ef er =
      join (narrowed job st (members_at st g) k) r t (sym ef ∙ er)
      ∙ ap (λ (x : Option VirtReg). bind (narrowed job st (members_at st g) k) (λ n. some (n, x))) (sym et)
      ∙ ap (λ (o : Option VirtReg). at_place job st h k (members_at st g) o) (sym (ap option_of z) ∙ em)

  -- the place is taken
  pub place_taken : (ol : OutLayout) (O : List ℕ) → Holds ol O st → (c : RegClass) (v : VirtReg) (f r : code.Option RegClass) → m ≡ Some v → h.class ≡ c
      → (v.0 < length st.registers → f ≡ found_of (common_subclass job c (register_at st v).class))
      → f ≡ r → joined_of (joined r (Some v)) ≡ at_place job st h k (members_at st g) (get_or (members_at st g) i none)
  unfolding at_place
  place_taken ol O hs c v f r q ec ef er =
      let s : some v ≡ get_or (members_at st g) i none = sym (ap option_of q) ∙ em in
      join (common_subclass job c (register_at st v).class) r (Some v) (sym (ef (member_in ol O st hs g i v (sym s))) ∙ er)
      ∙ ap (λ (x : RegClass). bind (common_subclass job x (register_at st v).class) (λ n. some (n, some v))) (sym ec)
      ∙ ap (λ (o : Option VirtReg). at_place job st h k (members_at st g) o) s

-- the operand is not mapped, or to a group
pub group_free : (job : Job) (st : State) (h : Held) (k : RegClass) (m : code.Option VirtRegGroup) (i : ℕ) (t : code.Option VirtReg) → m ≡ None → h.target ≡ option_of t
    → joined_of (Some (record { class = k; target = t })) ≡ in_group job st h k i (option_of m)
unfolding in_group joined_of
group_free job st h k m i t z et =
    ap (λ (x : Option VirtReg). some (k, x)) (sym et) ∙ ap (λ (o : code.Option VirtRegGroup). in_group job st h k i (option_of o)) (sym z)

pub group_mapped : (job : Job) (st : State) (h : Held) (k : RegClass) (m : code.Option VirtRegGroup) (g : VirtRegGroup) (i : ℕ) (j : code.Option Joined) → m ≡ Some g
    → joined_of j ≡ at_place job st h k (members_at st g) (get_or (members_at st g) i none) → joined_of j ≡ in_group job st h k i (option_of m)
unfolding in_group
group_mapped job st h k m g i j q e = e ∙ ap (λ (o : code.Option VirtRegGroup). in_group job st h k i (option_of o)) (sym q)
