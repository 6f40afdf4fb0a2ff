-- Pieces that can be weighed, as the tables store them. Assumes nothing.
use Rattle.std.specs.Prelude.{◌≡◌, Bool, List, ℕ, length}
use Rattle.definition.specs.declared.Use.{Use}
use Rattle.definition.specs.declared.UseKind.{UseKind}
use Rattle.definition.specs.declared.UseKind.TheVariants.{FixedDef, FixedUse, TiedUse, ConstraintConflict, ClassUse, ClassDef, GroupClassUse, GroupClassDef, BlockparamIn, BlockparamOut}
use Rattle.definition.specs.Types.{Job, Piece, State}
use Rattle.definition.specs.Lines.{hint_in}
use Rattle.definition.specs.Place.{uses_of_pieces, uses_of, segs_of}
use Rattle.virt_regs.specs.declared.OutLayout.{OutLayout}
use Rattle.virt_regs.specs.declared.Counts.{Counts}
use Rattle.virt_regs.specs.Each.{Each, each_weaker}
use Rattle.virt_regs.specs.Encoding.{TypedKind, Typed, counts_of, Holds}
use Rattle.vregs_write.specs.Written.{Written}
use Rattle.vreg_weight.specs.Typed as weighed
use Rattle.vreg_weight.specs.Fair.{Fair, fair_insts, fair_typed, fair_inside}
use Rattle.placing.specs.Ready.{Weighed, Ready}

kind_typed : (k : UseKind) → weighed.TypedKind k → TypedKind k
unfolding TypedKind
kind_typed (FixedDef r) t = tt
kind_typed (FixedUse r) t = tt
kind_typed (TiedUse s d c i) t = t
kind_typed ConstraintConflict t = tt
kind_typed (ClassUse s c) t = t
kind_typed (ClassDef s c) t = t
kind_typed (GroupClassUse s c i) t = t
kind_typed (GroupClassDef s c i) t = t
kind_typed (BlockparamIn q) t = tt
kind_typed BlockparamOut t = tt

use_typed : (u : Use) → weighed.TypedUse u → Typed u
unfolding weighed.TypedUse
use_typed u t = kind_typed u.kind t

pub fair_stored : (J : Job) (m : ℕ) (ps : List Piece) → Fair J m ps → Each Typed (uses_of (segs_of ps))
fair_stored J m ps f = each_weaker weighed.TypedUse Typed use_typed (uses_of (segs_of ps)) (fair_typed J m ps f)

pub fair_weighed : (J : Job) (ps : List Piece) → Fair J 4096 ps → Weighed J ps
fair_weighed J ps f = let i = fair_insts J 4096 ps f in record { inside = fair_inside J 4096 ps f; least = i.0; most = i.1 }

-- written behind the rows in use
pub ready_fair : (J : Job) (ol : OutLayout) (O O₁ : List ℕ) (c : Counts) (np nu : ℕ) (hint : Bool) (st : State) (ps : List Piece) → Holds ol O st → c ≡ counts_of st
    → Written ol O c.segs c.uses ps (uses_of (segs_of ps)) O₁ → length ps ≡ np → uses_of_pieces ps ≡ nu → hint ≡ hint_in ps → Fair J 4096 ps → Ready J ol O c np nu hint st ps O₁
ready_fair J ol O O₁ c np nu hint st ps h ec w ep eu eh f =
    record { holds = h; counts = ec; written = w; pieces = ep; uses = eu; hinted = eh; typed = fair_stored J 4096 ps f; weighed = fair_weighed J ps f }
