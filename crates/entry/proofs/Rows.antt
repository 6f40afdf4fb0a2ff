-- What the rows of an accepted job hold: operands, value groups, uses. Assumes nothing.
use Prim.Native.Nat.{ℕ, zero, suc, ◌+◌, ◌-◌, ◌*◌, ◌≤◌, ◌<◌}
use native.Mathlib.Omega.{arith}
use native.Mathlib.Nat.{zero-add}
use mathlib.Core.Path.{◌≡◌, refl, sym, ap, subst, ◌∙◌}
use mathlib.Core.Bool.{Bool, true, false, ◌&&◌, ◌||◌}
use mathlib.Core.Option.{none}
use mathlib.Core.List.{List, [], ◌∷◌}
use lib.Dec.{ltb, eqb}
use lib.ListN.{length, get_or}
use borrow.Author.Tests.{ltb-true, ltb-false, eqb-true}
use Rattle.words.specs.Tab.{tab}
use Rattle.words.specs.RowsAt.{rows_at}
use Rattle.words.specs.Words.{word_count, words_of}
use Rattle.definition.specs.declared.Inst.{Inst}
use Rattle.definition.specs.declared.Value.{Value}
use Rattle.definition.specs.declared.RegClass.{RegClass}
use Rattle.definition.specs.declared.Operand.{Operand}
use Rattle.definition.specs.Types.{Job}
use Rattle.definition.specs.Entry.{conj, every, some_is, insts_of, insts, group_use_tests, group_use_ok, use_tests, use_ok, uses_ok, function_ok, entry_tests, entry}
use Rattle.definition.proofs.Entries.{and_both, lowest_none}
use Rattle.function.specs.Blocks.{blocks_at}
use Rattle.values.specs.ValueRows.{vgroup_row}
use Rattle.values.specs.OperandRows.{operands_at, op_at, is_at}
use Rattle.values.specs.Chains.{Under}
use Rattle.values.specs.Chains as chains
use Rattle.uses.specs.Rows.{use_row}
use Rattle.job.specs.declared.Layout.{Layout}
use Rattle.job.specs.Layout.{seg_at, next_use, job_uses, segment_of}
use Rattle.job.specs.Job.{job_by, raw_job, job_of}
use Rattle.job_shape.specs.Shape.{use_counts, rises, counts_ok}
use Rattle.job_shape.proofs.Rising.{begins_none}
use Rattle.entry_function.proofs.Scans.{each_at, conj_at}
use Rattle.entry_function.proofs.Tables.{raw_operands, operands_count, vgroups_count, members_row}
use Rattle.entry_function.proofs.Passed.{operand_fits, members_few}
use Rattle.entry_uses.specs.ListTests.{Rising}
use Rattle.job.specs.declared.work.WorkLayout.{WorkLayout}
use Rattle.job.specs.Regions.{max_work, chains_in}
use Rattle.job.proofs.Parts.{heads_are}
use Rattle.entry.specs.Accepted.{Accepted}
use Rattle.entry.specs.Owner.{Owner}
use Rattle.entry.proofs.Counts.{first_at, first_is, next_last, next_more}

-- ---- a group use has its operand

pub group_has : (job : Job) (v : Value) (p : Inst) (s : ℕ) (c : RegClass) (i : ℕ) → group_use_ok job v p s c i ≡ true → some_is (is_at p.0 s) job.operands ≡ true
unfolding group_use_ok some_is conj
group_has job v p s c i = go job.operands
  where
    at_place : (a b t x y : Bool) → (a && (b && t)) || x ≡ true → (x ≡ true → y ≡ true) → (a && b) || y ≡ true
    at_place true true t x y e f = refl
    at_place true false t x y e f = f e
    at_place false b t x y e f = f e

    go : (os : List Operand) → some_is (λ (o : Operand). conj (group_use_tests job v p s c i o)) os ≡ true → some_is (is_at p.0 s) os ≡ true
    go [] e = e
    go (o ∷ os) e =
        at_place (eqb o.inst.0 p.0) (eqb o.slot s) _ (some_is (λ (x : Operand). conj (group_use_tests job v p s c i x)) os) (some_is (is_at p.0 s) os) e (go os)

-- ---- the owner of a use

module _ (W : List ℕ) (lay : Layout) (u : ℕ) (l : u < lay.uses.n) where
  owner_from : (k i : ℕ) → i + suc k ≡ lay.segments.n → first_at W lay i ≤ u → Owner W lay u
  owner_from zero i h f = record { seg = i; known = omega arith; first = omega (arith, first_is W lay i, f); next = omega (arith, next_last W lay i (omega arith)) }
  owner_from (suc k) i h f = go (ltb u (first_at W lay (i + 1))) refl (λ g. owner_from k (i + 1) (omega arith) g)
    where
      go : (t : Bool) → ltb u (first_at W lay (i + 1)) ≡ t → (first_at W lay (i + 1) ≤ u → Owner W lay u) → Owner W lay u
      go true e r =
          let b : u < first_at W lay (i + 1) = ltb-true _ _ e in
          record { seg = i; known = omega arith; first = omega (arith, first_is W lay i, f); next = omega (arith, b, next_more W lay i (omega arith)) }
      go false e r = r (ltb-false _ _ e)

  -- where there is a use there is a segment
  some_segment : counts_ok W lay ≡ true → 0 < lay.segments.n
  unfolding counts_ok
  some_segment e = by lay.segments.n refl
    where
      by : (n : ℕ) → lay.segments.n ≡ n → 0 < lay.segments.n
      by zero d =
          absurd (omega (arith, l, begins_none W lay d, eqb-true (get_or (use_counts W lay) 0 lay.uses.n) 0 (and_both (eqb (get_or (use_counts W lay) 0 lay.uses.n) 0) (rises 0 (use_counts W lay) lay.uses.n) e).0))
      by (suc n) d = omega arith

  pub owner : counts_ok W lay ≡ true → Rising W lay → Owner W lay u
  owner e r =
      let p = some_segment e in
      owner_from (lay.segments.n - 1) 0 (omega arith) (omega (arith, first_is W lay 0, r.first p))

  -- a use passes test 7 with its owner
  pub use_passes : every (uses_ok (job_of W lay)) (job_of W lay).segments ≡ true → (o : Owner W lay u) → use_ok (job_of W lay) (segment_of use_row W lay o.seg) (use_row W (lay.uses.at + u * 6)) ≡ true
  unfolding job_of job_by uses_ok job_uses rows_at
  use_passes e o =
      let k : ℕ = o.seg in
      let a : ℕ = (seg_at W lay k).first in
      let at : ℕ = lay.uses.at + a * 6 in
      let n : ℕ = next_use W lay k - a in
      let z : at + (0 + (u - a)) * 6 ≡ lay.uses.at + u * 6 = omega (arith, o.first) in
      let p : uses_ok (job_of W lay) (segment_of use_row W lay k) ≡ true =
      ap (λ (j : ℕ). uses_ok (job_of W lay) (segment_of use_row W lay j)) (sym (zero-add k)) ∙ each_at (uses_ok (job_of W lay)) (segment_of use_row W lay) 0 lay.segments.n k e o.known in
      let q : every (use_ok (job_of W lay) (segment_of use_row W lay k)) (tab (λ (j : ℕ). use_row W (at + j * 6)) 0 n) ≡ true = uses_every k p in
      ap (λ (j : ℕ). use_ok (job_of W lay) (segment_of use_row W lay k) (use_row W j)) (sym z)
      ∙ each_at (use_ok (job_of W lay) (segment_of use_row W lay k)) (λ (j : ℕ). use_row W (at + j * 6)) 0 n (u - a) q (omega (arith, o.first, o.next))
    where
      uses_every : (k : ℕ) → uses_ok (job_of W lay) (segment_of use_row W lay k) ≡ true
          → every (use_ok (job_of W lay) (segment_of use_row W lay k)) (tab (λ (j : ℕ). use_row W (lay.uses.at + (seg_at W lay k).first * 6 + j * 6)) 0 (next_use W lay k - (seg_at W lay k).first)) ≡ true
      uses_every k p = (and_both _ _ p).0

-- ---- of an accepted job

module _ {s K : List ℕ} {lay : Layout} {wl : WorkLayout} {n : ℕ} (a : Accepted s K lay wl n) where
  abbrev W : List ℕ
  W = words_of s

  passed_function : function_ok (raw_job W lay) ≡ true
  unfolding entry
  passed_function = (lowest_none (entry_tests (raw_job W lay)) a.accepted).1.1.0

  -- the index of the operands has room in the slices, and its heads are as many as the instructions
  pub index_room : (w : ℕ) → max_work ≤ w → chains.Fits (word_count s) w (chains_in lay wl)
  index_room w h =
      record {
        rows = a.shaped.fits.operands;
        apart = omega (arith, a.regions.heads);
        work = omega (arith, a.regions.nexts, a.regions.mapping, a.regions.starts, a.regions.marks, a.regions.turned);
        small = omega (arith, a.limited.operands);
      }

  pub under_heads : Under (wl.nexts - wl.heads) (operands_at W lay.operands.at lay.operands.n)
  under_heads = subst (λ (k : ℕ). Under k (operands_at W lay.operands.at lay.operands.n)) (sym (heads_are a.regions)) a.under

  -- an operand's value group is known
  pub operand_group : (k : ℕ) → k < lay.operands.n → (op_at (operands_at W lay.operands.at lay.operands.n) k).vgroup.0 < lay.vgroups.n
  operand_group k h =
      let f = (operand_fits (raw_job W lay) passed_function k (omega (arith, operands_count W lay))).vgroup in
      let e = ap (λ (os : List Operand). (op_at os k).vgroup.0) (raw_operands W lay) in
      omega (arith, e, f, vgroups_count W lay)

  -- a value group has at most eight members
  pub group_width : (g : ℕ) → g < lay.vgroups.n → length (vgroup_row W (lay.vgroups.at + g * 9)) ≤ 8
  group_width g h =
      subst (λ (ms : List Value). length ms ≤ 8) (members_row W lay (record { 0 = g }) h) (members_few (raw_job W lay) passed_function (record { 0 = g }) (omega (arith, vgroups_count W lay)))

  -- the job that code reads is accepted
  pub job_none : entry (job_of W lay) ≡ none
  job_none = subst (λ (j : Job). entry j ≡ none) a.same a.accepted

  passed_uses : every (uses_ok (job_of W lay)) (job_of W lay).segments ≡ true
  unfolding entry
  passed_uses = (lowest_none (entry_tests (job_of W lay)) job_none).1.1.1.1.1.0

  -- every use belongs to a segment
  pub use_owner : (u : ℕ) → u < lay.uses.n → Owner W lay u
  use_owner u h = owner W lay u h a.shaped.counts a.rising

  -- and passes test 7 with it
  pub use_passed : (u : ℕ) (h : u < lay.uses.n) → use_ok (job_of W lay) (segment_of use_row W lay (use_owner u h).seg) (use_row W (lay.uses.at + u * 6)) ≡ true
  use_passed u h = use_passes W lay u h passed_uses (use_owner u h)

  pub job_insts : insts (job_of W lay) ≡ insts_of (blocks_at W lay.blocks.at lay.blocks.n)
  unfolding insts job_of job_by
  job_insts = refl

  -- a use is at an instruction of the job
  pub use_within : (u : ℕ) → u < lay.uses.n → (use_row W (lay.uses.at + u * 6)).pos.0 < insts_of (blocks_at W lay.blocks.at lay.blocks.n)
  unfolding use_ok
  use_within u h =
      let t = use_tests (job_of W lay) (segment_of use_row W lay (use_owner u h).seg) (use_row W (lay.uses.at + u * 6)) in
      omega (arith, job_insts, ltb-true (use_row W (lay.uses.at + u * 6)).pos.0 (insts (job_of W lay)) (conj_at t 0 (use_passed u h) (omega arith)))
