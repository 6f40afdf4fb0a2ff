-- What a walk over uses answers: it speaks of a list of classes and of a function from numbers to uses, in every state
-- and whatever else is held. Assumes nothing.
use Rattle.std.specs.Prelude.{ℕ, ◌-◌, ◌≤◌, ◌<◌, ◌≡◌, true, List, reverse, Option, Some, None}
use Rattle.std.proofs.Math.Option as maybe
use Rattle.words.specs.Tab.{tab}
use Rattle.job.specs.declared.job.Job as lent
use Rattle.job.specs.JobWords.{words_in}
use Rattle.definition.specs.declared.RegClass.{RegClass}
use Rattle.definition.specs.declared.ClassData.{ClassData}
use Rattle.definition.specs.declared.Use.{Use}
use Rattle.definition.specs.Types.{Job, State}
use Rattle.definition.specs.Types as types
use Rattle.definition.specs.RegInfo.{common_subclass}
use Rattle.definition.specs.Admit.{admit, scan, through}
use Rattle.reginfo.specs.Rows.{classes_at, mask_in}
use Rattle.constraints.specs.declared.Ask.{Ask}
use Rattle.constraints.specs.declared.Ask.TheVariants as ask
use Rattle.scans.specs.declared.walk.Masked.{Masked}
use Rattle.scans.specs.declared.walk.Asked.{Asked}
use Rattle.scans.specs.declared.walk.Asked.TheVariants.{Any, Class, Group}
use Rattle.scans.specs.declared.walk.Met.{Met}
use Rattle.scans.specs.declared.walk.Met.TheVariants as met
use Rattle.scans.specs.declared.walk.Walk.{Walk}

-- the classes of a job
abbrev pub book : lent.Job → List ClassData
book job = classes_at (words_in job) job.lay.classes.at job.lay.classes.n

-- what is asked, without the place in a group
abbrev pub asked_of : Ask → Asked
asked_of ask.Any = Any
asked_of (ask.Class c) = Class c
asked_of (ask.Group g) = Group

-- the mask is the class's
abbrev pub IsMasked : List ClassData → Masked → Type 0
IsMasked cs m = m.mask ≡ mask_in cs m.class

-- the common subclass of two classes, in every job with these classes
unfoldable pub Narrows : List ClassData → RegClass → RegClass → Option Masked → Type 0
Narrows cs c own None = (job : Job) → job.classes ≡ cs → common_subclass job c own ≡ maybe.none
Narrows cs c own (Some m) = IsMasked cs m × ((job : Job) → job.classes ≡ cs → common_subclass job c own ≡ maybe.some m.class)

-- what is held, with another class
abbrev pub with_class : types.Held → RegClass → types.Held
with_class h c = record { class = c; group = h.group; target = h.target }

-- what use u leads to from class c: of a group use nothing is said
unfoldable pub Meets : List ClassData → Use → RegClass → Met → Type 0
Meets cs u c (met.Passed m) =
    IsMasked cs m
    × ((job : Job) (st : State) (h : types.Held) → job.classes ≡ cs
    → admit job st (with_class h c) u ≡ maybe.some (with_class h m.class))
Meets cs u c met.Refused =
    (job : Job) (st : State) (h : types.Held) → job.classes ≡ cs → admit job st (with_class h c) u ≡ maybe.none
Meets cs u c met.Group = Unit {0}

-- The uses f from number a on, of those below b, were passed from class `first` on, and class r.class is then held; if
-- `refused`, the next is not admitted.
pub record Walked (cs : List ClassData) (f : ℕ → Use) (first : RegClass) (a b : ℕ) (r : Walk) : Type 0 where
  pub from_a : a ≤ r.at
  pub to_b : r.at ≤ b
  pub within : r.refused ≡ true → r.at < b
  pub passed : (job : Job) (st : State) (h : types.Held) → job.classes ≡ cs → h.class ≡ first
      → scan job st (tab f a (r.at - a)) h ≡ through (with_class h r.class)
  pub stopped : r.refused ≡ true → (job : Job) (st : State) (h : types.Held) → job.classes ≡ cs
      → admit job st (with_class h r.class) (f r.at) ≡ maybe.none

-- The same backwards, from number b - 1 down to a: those from r.at on were passed.
pub record WalkedBack (cs : List ClassData) (f : ℕ → Use) (first : RegClass) (a b : ℕ) (r : Walk) : Type 0 where
  pub from_a : a ≤ r.at
  pub to_b : r.at ≤ b
  pub within : r.refused ≡ true → a < r.at
  pub passed : (job : Job) (st : State) (h : types.Held) → job.classes ≡ cs → h.class ≡ first
      → scan job st (reverse (tab f r.at (b - r.at))) h ≡ through (with_class h r.class)
  pub stopped : r.refused ≡ true → (job : Job) (st : State) (h : types.Held) → job.classes ≡ cs
      → admit job st (with_class h r.class) (f (r.at - 1)) ≡ maybe.none
