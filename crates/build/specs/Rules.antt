-- What the entry rules say of an accepted job's classes, group uses and segments. Assumes nothing.
use Rattle.std.specs.Prelude.{◌≡◌, refl, ℕ, ◌*◌, ◌^◌, ◌≤◌, ◌<◌, Bool, true, false, ◌&&◌, ◌||◌, List, [], ◌∷◌, length, ltb}
use Rattle.std.proofs.Common.{subst, le_trans, pow_mono, pow_pos}
use native.Mathlib.Omega.{arith}
use Rattle.std.proofs.Math.Option.{none}
use borrow.Author.Tests.{ltb-true, leb-true}
use Rattle.definition.specs.declared.Inst.{Inst}
use Rattle.definition.specs.declared.Value.{Value}
use Rattle.definition.specs.declared.RegClass.{RegClass}
use Rattle.definition.specs.declared.ClassData.{ClassData}
use Rattle.definition.specs.declared.Use.{Use}
use Rattle.definition.specs.Limits.{max_group}
use Rattle.definition.specs.Types.{Segment, Job}
use Rattle.definition.specs.RegInfo.{class_at, no_class}
use Rattle.definition.specs.Build.{with_uses}
use Rattle.definition.specs.Entry.{book_ok, book_tests, chained, class_ok, class_tests, entry, entry_tests, every}
use Rattle.definition.specs.Entry.{function_ok, group_use_ok, limit_tests, limits_ok, vgroup_values, segment_ok, segments_ok}
use Rattle.definition.specs.Entry.{sized, use_ok, uses_ok}
use Rattle.definition.proofs.Places.{All, all_map, all_get_d}
use Rattle.definition.proofs.Tables.{operand_at, uses_are}
use Rattle.definition.proofs.Classes.{Masks}
use Rattle.definition.proofs.Entries.{accepted_insts, and_both, conj_all, every_all, lowest_none, Good, segment_ends}
use Rattle.definition.proofs.Entries.{segment_good}
use Rattle.definition.proofs.Admission.{size_of, GroupUse, UseFits, Sizes, SegFits}
use Rattle.definition.proofs.Accepted.{group_operand, sized_at}

-- ---- the register book

-- a class by its tests: its mask, its size, and those of its subclasses
abbrev ClassFits : List ClassData → ClassData → Type 0
ClassFits cs c = (c.mask < 2 ^ length cs) × (c.size ≤ max_group) × (2 ≤ c.size → sized c.mask c.size cs ≡ true)

class_fits : (cs : List ClassData) (c : ClassData) → class_ok cs c ≡ true → ClassFits cs c
unfolding class_ok
class_fits cs c e =
    let a = conj_all (class_tests cs c) e in
    (ltb-true _ _ a.0, leb-true _ _ a.1.1.1.0, λ l. go (ltb c.size 2) refl l a.1.1.1.1.0)
  where
    go : (b : Bool) → ltb c.size 2 ≡ b → 2 ≤ c.size → (b || sized c.mask c.size cs) ≡ true → sized c.mask c.size cs ≡ true
    go true x l d = let q : c.size < 2 = ltb-true _ _ x in absurd (omega arith)
    go false x l d = d

one_passes : (b : Bool) → b ≡ true → (b && true) && true ≡ true
one_passes true e = refl
one_passes false e = e

module _ (J : Job) (e : entry J ≡ none) where
  few_classes : length J.classes ≤ 32
  unfolding entry limits_ok
  few_classes = leb-true _ _ (conj_all (limit_tests J) (lowest_none (entry_tests J) e).0).1.1.1.1.1.1.1.1.0

  fits_at : (c : RegClass) → ClassFits J.classes (class_at J c)
  unfolding entry book_ok class_at
  fits_at c =
      all_get_d (ClassFits J.classes) J.classes c.0 no_class
      (all_map _ (ClassFits J.classes) (class_fits J.classes) J.classes
      (every_all (class_ok J.classes) J.classes (conj_all (book_tests J) (lowest_none (entry_tests J) e).1.0).1.1.0))
      (pow_pos (length J.classes), omega arith, λ l. absurd (omega arith))

  -- masks are words
  pub accepted_masks : Masks J
  accepted_masks c = le_trans (fits_at c).0 (pow_mono few_classes)

  -- a class of size 2 or more has subclasses of its size alone
  pub accepted_sizes : Sizes J
  unfolding class_at
  accepted_sizes c k i l = let f = fits_at c in sized_at J.classes (class_at J c).mask (class_at J c).size k.0 f.0 (f.2 l) i

  -- "group size not 1 to 8" is refused, and an unknown class has size 0
  pub accepted_widths : (c : RegClass) → (class_at J c).size ≤ max_group
  accepted_widths c = (fits_at c).1

  -- ---- group uses

  function_passed : function_ok J ≡ true
  unfolding entry
  function_passed = (lowest_none (entry_tests J) e).1.1.0

  group_use_fits : (v : Value) (p : Inst) (s : ℕ) (c : RegClass) (i : ℕ) → group_use_ok J v p s c i ≡ true → GroupUse J p s c i
  group_use_fits v p s c i g =
      let o = operand_at J.operands p s in
      let t = group_operand J function_passed v p s c i g in
      let size : size_of J c ≡ length (vgroup_values J o.vgroup) = subst (λ (x : RegClass). (class_at J x).size ≡ length (vgroup_values J o.vgroup)) t.1.2 t.0.1 in
      (t.1.2, omega (arith, t.0.0), omega (arith, t.1.3))

  segment_fits : (s : Segment) → uses_ok J s ≡ true → SegFits J s
  segment_fits s u = uses_are J (GroupUse J) s (group_use_fits s.value) u

  -- one use that passed rule 7 with its segment
  pub use_fits : (s : Segment) (u : Use) → use_ok J s u ≡ true → UseFits J u
  unfolding uses_ok every chained use_ok
  use_fits s u h = (segment_fits (with_uses (u ∷ []) s) (one_passes (use_ok J s u) h)).0

  -- ---- segments

  uses_passed : All (λ s. uses_ok J s ≡ true) J.segments
  unfolding entry
  uses_passed = every_all (uses_ok J) J.segments (lowest_none (entry_tests J) e).1.1.1.1.1.0

  pub segments_passed : All (λ s. segment_ok J s ≡ true) J.segments
  unfolding entry segments_ok
  segments_passed = every_all (segment_ok J) J.segments (and_both _ _ (lowest_none (entry_tests J) e).1.1.1.1.0).0

  -- their group uses are as the entry rules have them
  pub accepted_kinds : All (SegFits J) J.segments
  accepted_kinds = all_map _ (SegFits J) segment_fits J.segments uses_passed

  -- none is empty, and its uses lie within it
  pub accepted_good : All (Good J) J.segments
  accepted_good = goods J.segments segments_passed uses_passed
    where
      goods : (ss : List Segment) → All (λ s. segment_ok J s ≡ true) ss → All (λ s. uses_ok J s ≡ true) ss → All (Good J) ss
      goods [] g h = tt
      goods (s ∷ ss) g h = (segment_good J s g.0 h.0, goods ss g.1 h.1)

  ends_by : (s : Segment) → segment_ok J s ≡ true → s.to.0 ≤ 4 * 4096
  ends_by s h = omega (arith, segment_ends J s h, accepted_insts J e)

  -- none goes past the last instruction
  pub accepted_ends : All (λ s. s.to.0 ≤ 4 * 4096) J.segments
  accepted_ends = all_map _ (λ s. s.to.0 ≤ 4 * 4096) ends_by J.segments segments_passed
