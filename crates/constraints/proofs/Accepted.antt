-- An accepted job is ready. Assumes nothing.
use mathlib.Core.Path.{◌≡◌, refl, sym, ap, subst, ◌∙◌}
use mathlib.Core.Bool.{Bool, true, false, ◌||◌}
use mathlib.Core.List.{List, [], ◌∷◌}
use Prim.Native.Nat.{ℕ, zero, suc, ◌+◌, ◌-◌, ◌*◌, ◌≤◌, ◌<◌}
use native.Mathlib.Nat.{zero-add}
use native.Mathlib.Omega.{arith}
use lib.Dec.{eqb, ltb}
use lib.ListN.{length, get_or}
use borrow.Author.Tests.{ltb-true, ltb-false, leb-true, lt-ltb, le-ltb}
use Rattle.words.specs.Tab.{tab, length_tab, get_or_tab}
use Rattle.words.specs.RowsAt.{rows_at, length_rows_at, get_or_rows_at}
use Rattle.definition.specs.declared.Inst.{Inst}
use Rattle.definition.specs.declared.Value.{Value}
use Rattle.definition.specs.declared.RegClass.{RegClass}
use Rattle.definition.specs.declared.Operand.{Operand}
use Rattle.definition.specs.declared.Use.{Use}
use Rattle.definition.specs.declared.UseKind.{UseKind}
use Rattle.definition.specs.declared.UseKind.TheVariants.{FixedDef, FixedUse, TiedUse, ConstraintConflict, ClassUse, ClassDef, GroupClassUse, GroupClassDef, BlockparamIn, BlockparamOut}
use Rattle.definition.specs.Types.{Segment, Job, val, point}
use Rattle.definition.specs.Admit.{no_use}
use Rattle.definition.specs.Entry.{conj, every, some_is, apart, same_place, insts_of, insts, limit_tests, limits_ok, vgroup_tests, vgroup_ok, operand_tests, operand_ok, function_tests, function_ok, group_use_tests, group_use_ok, kind_ok, use_tests, use_ok, uses_ok}
use Rattle.definition.proofs.Entries.{and_both}
use Rattle.values.specs.ValueRows.{vgroup_row}
use Rattle.values.proofs.Members.{groups_long, group_row_at}
use Rattle.function.specs.Blocks.{block_row, blocks_at, Starts}
use Rattle.values.specs.OperandRows.{no_operand, op_at, is_at}
use Rattle.values.specs.Chains.{Under, Chained}
use Rattle.values.specs.Chains as chains
use Rattle.values.proofs.Rows.{long}
use Rattle.values.proofs.Twice.{never}
use Rattle.values.proofs.Only.{under_of}
use Rattle.uses.specs.Rows.{use_row}
use Rattle.job.specs.declared.Layout.{Layout}
use Rattle.job.specs.Layout.{Fits, seg_row, seg_at, next_use, job_uses, segment_of}
use Rattle.job.specs.Job.{job_by, job_of}
use Rattle.job.specs.declared.work.WorkLayout.{WorkLayout}
use Rattle.constraints.specs.Asks.{ask_of}
use Rattle.job.specs.Regions.{chains_in}
use Rattle.constraints.specs.Ready.{operands_in, HasOperand, BackedAsk, Backed, Ready}
use Rattle.constraints.proofs.Operand.{job_blocks, job_vgroups, job_operands}

-- ---- tests over lists

every_at : {A : Type 0} (f : A → Bool) (l : List A) (i : ℕ) (d : A) → every f l ≡ true → i < length l → f (get_or l i d) ≡ true
unfolding every
every_at f [] i d e h = absurd (omega arith)
every_at f (x ∷ l) zero d e h = (and_both (f x) (every f l) e).0
every_at f (x ∷ l) (suc i) d e h = every_at f l i d (and_both (f x) (every f l) e).1 (omega arith)

-- each of them passes
nth_test : (bs : List Bool) (i : ℕ) → conj bs ≡ true → get_or bs i true ≡ true
unfolding conj
nth_test [] i e = refl
nth_test (b ∷ bs) zero e = (and_both b (conj bs) e).0
nth_test (b ∷ bs) (suc i) e = nth_test bs i (and_both b (conj bs) e).1

-- ---- rules 2 and 4

module _ (job : Job) (ok : limits_ok job ≡ true) where
  pub few_insts_of : insts_of job.blocks ≤ 4096
  unfolding limits_ok insts
  few_insts_of = leb-true (insts_of job.blocks) 4096 (nth_test (limit_tests job) 0 ok)

  pub few_blocks_of : length job.blocks ≤ 512
  unfolding limits_ok
  few_blocks_of = leb-true (length job.blocks) 512 (nth_test (limit_tests job) 1 ok)

module _ (job : Job) (ok : function_ok job ≡ true) where
  vgroups_ok : every (vgroup_ok job) job.vgroups ≡ true
  unfolding function_ok
  vgroups_ok = nth_test (function_tests job) 2 ok

  operands_ok : every (operand_ok job) job.operands ≡ true
  unfolding function_ok
  operands_ok = nth_test (function_tests job) 3 ok

  pub single_of : apart same_place job.operands ≡ true
  unfolding function_ok
  single_of = nth_test (function_tests job) 4 ok

  pub operand_in : (k : ℕ) → k < length job.operands → (op_at job.operands k).vgroup.0 < length job.vgroups
  unfolding operand_ok
  operand_in k h = ltb-true (op_at job.operands k).vgroup.0 (length job.vgroups) (nth_test (operand_tests job (op_at job.operands k)) 2 (every_at (operand_ok job) job.operands k no_operand operands_ok h))

  pub width_of : (g : ℕ) → g < length job.vgroups → length (get_or job.vgroups g []) ≤ 8
  unfolding vgroup_ok
  width_of g h = leb-true (length (get_or job.vgroups g [])) 8 (nth_test (vgroup_tests job (get_or job.vgroups g [])) 1 (every_at (vgroup_ok job) job.vgroups g [] vgroups_ok h))

  pub below_of : Under (insts job) job.operands
  below_of = under_of job operands_ok

-- ---- rule 7

some_weaker : {A : Type 0} (f g : A → Bool) → ((a : A) → f a ≡ true → g a ≡ true) → (l : List A) → some_is f l ≡ true → some_is g l ≡ true
unfolding some_is
some_weaker f g w [] e = never (sym e)
some_weaker f g w (x ∷ l) e = go (f x) refl e (some_weaker f g w l)
  where
    or_left : (a b : Bool) → a ≡ true → a || b ≡ true
    or_left true b q = refl
    or_left false b q = never (sym q)

    or_right : (a b : Bool) → b ≡ true → a || b ≡ true
    or_right true b q = refl
    or_right false b q = q

    go : (t : Bool) → f x ≡ t → t || some_is f l ≡ true → (some_is f l ≡ true → some_is g l ≡ true) → g x || some_is g l ≡ true
    go true q r ih = or_left (g x) (some_is g l) (w x q)
    go false q r ih = or_right (g x) (some_is g l) (ih r)

-- a group use has its operand
pub operand_of : (job : Job) (v : Value) (p : Inst) (s : ℕ) (c : RegClass) (i : ℕ) → group_use_ok job v p s c i ≡ true → HasOperand job p s
unfolding group_use_ok conj
operand_of job v p s c i e = some_weaker (λ o. conj (group_use_tests job v p s c i o)) (is_at p.0 s) here job.operands e
  where
    here : (o : Operand) → conj (group_use_tests job v p s c i o) ≡ true → is_at p.0 s o ≡ true
    here o t =
        let a = and_both (eqb o.inst.0 p.0) _ t in
        let b = and_both (eqb o.slot s) _ a.1 in
        rw (a.0, b.0)

pub backed_of : (job : Job) (v : Value) (u : Use) → kind_ok job v u.pos u.kind ≡ true → Backed job u
unfolding Backed BackedAsk kind_ok
backed_of job v u e = go u.kind e
  where
    go : (k : UseKind) → kind_ok job v u.pos k ≡ true → BackedAsk job u.pos (ask_of k)
    go (FixedDef r) q = tt
    go (FixedUse r) q = tt
    go (TiedUse a b c i) q = tt
    go ConstraintConflict q = tt
    go (ClassUse s c) q = tt
    go (ClassDef s c) q = tt
    go (GroupClassUse s c i) q = operand_of job v u.pos s c i q
    go (GroupClassDef s c i) q = operand_of job v u.pos s c i q
    go (BlockparamIn b) q = tt
    go BlockparamOut q = tt

module _ (job : Job) (s : Segment) (u : Use) (ok : use_ok job s u ≡ true) where
  pub use_within : u.pos.0 < insts_of job.blocks
  unfolding use_ok insts
  use_within = ltb-true u.pos.0 (insts_of job.blocks) (nth_test (use_tests job s u) 0 ok)

  pub use_backed : Backed job u
  unfolding use_ok
  use_backed = backed_of job s.value u (nth_test (use_tests job s u) 1 ok)

-- ---- each use is one of a segment's

pub record InSegment (W : List ℕ) (lay : Layout) (n : ℕ) : Type 0 where
  pub number : ℕ
  pub there : number < lay.segments.n
  pub after : (seg_at W lay number).first ≤ n
  pub before : n < next_use W lay number

next_first : (W : List ℕ) (lay : Layout) (i : ℕ) → suc i < lay.segments.n → next_use W lay i ≡ (seg_at W lay (suc i)).first
unfolding next_use seg_at seg_row
next_first W lay i h = let e : i + 1 ≡ suc i = omega arith in rw (e, lt-ltb (suc i) lay.segments.n h)

next_last : (W : List ℕ) (lay : Layout) (i : ℕ) → lay.segments.n ≤ suc i → next_use W lay i ≡ lay.uses.n
unfolding next_use
next_last W lay i h = let e : i + 1 ≡ suc i = omega arith in rw (e, le-ltb (suc i) lay.segments.n h)

module _ (W : List ℕ) (lay : Layout) (n : ℕ) (z : (seg_at W lay 0).first ≡ 0) where
  from_last : (i : ℕ) → i < lay.segments.n → n < next_use W lay i → InSegment W lay n
  from_last zero h m = record { number = 0; there = h; after = omega arith; before = m }
  from_last (suc i) h m = go (ltb n (seg_at W lay (suc i)).first) refl (from_last i (omega arith))
    where
      go : (b : Bool) → ltb n (seg_at W lay (suc i)).first ≡ b → (n < next_use W lay i → InSegment W lay n) → InSegment W lay n
      go true q f = f (rw (next_first W lay i h) (ltb-true n (seg_at W lay (suc i)).first q))
      go false q f = record { number = suc i; there = h; after = ltb-false n (seg_at W lay (suc i)).first q; before = m }

  pub in_segment : 0 < lay.segments.n → n < lay.uses.n → InSegment W lay n
  in_segment some l =
      let e : lay.segments.n ≤ suc (lay.segments.n - 1) = omega arith in
      from_last (lay.segments.n - 1) (omega arith) (rw (next_last W lay (lay.segments.n - 1) e) l)

abbrev no_segment : Segment
no_segment = record { value = val 0; «from» = point 0; to = point 0; flags = record { livein = false; liveout = false; fixedhint = false; fixeddef = false }; uses = [] }

module _ (W : List ℕ) (lay : Layout) (ok : every (uses_ok (job_of W lay)) (job_of W lay).segments ≡ true) where
  segment_ok_lem : (i : ℕ) → i < lay.segments.n → uses_ok (job_of W lay) (segment_of use_row W lay i) ≡ true
  unfolding job_of job_by
  segment_ok_lem i h =
      let e : every (uses_ok (job_of W lay)) (tab (segment_of use_row W lay) 0 lay.segments.n) ≡ true = ok in
      let l : i < length (tab (segment_of use_row W lay) 0 lay.segments.n) = omega (arith, length_tab (segment_of use_row W lay) 0 lay.segments.n) in
      ap (λ (s : Segment). uses_ok (job_of W lay) s) (sym (get_or_tab (segment_of use_row W lay) 0 lay.segments.n i no_segment h ∙ ap (λ (j : ℕ). segment_of use_row W lay j) (zero-add i)))
      ∙ every_at (uses_ok (job_of W lay)) (tab (segment_of use_row W lay) 0 lay.segments.n) i no_segment e l

  pub use_ok_lem : (n : ℕ) (s : InSegment W lay n) → use_ok (job_of W lay) (segment_of use_row W lay s.number) (use_row W (lay.uses.at + n * 6)) ≡ true
  unfolding uses_ok segment_of job_uses
  use_ok_lem n s =
      let j : n - (seg_at W lay s.number).first < next_use W lay s.number - (seg_at W lay s.number).first = omega (arith, s.after, s.before) in
      let us : every (use_ok (job_of W lay) (segment_of use_row W lay s.number)) (rows_at use_row W (lay.uses.at + (seg_at W lay s.number).first * 6) 6 (next_use W lay s.number - (seg_at W lay s.number).first)) ≡ true =
      (and_both _ _ (segment_ok_lem s.number s.there)).0 in
      let e : lay.uses.at + (seg_at W lay s.number).first * 6 + (n - (seg_at W lay s.number).first) * 6 ≡ lay.uses.at + n * 6 = omega (arith, s.after) in
      ap (λ (u : Use). use_ok (job_of W lay) (segment_of use_row W lay s.number) u)
      (sym (get_or_rows_at use_row W (lay.uses.at + (seg_at W lay s.number).first * 6) 6 (next_use W lay s.number - (seg_at W lay s.number).first) (n - (seg_at W lay s.number).first) no_use j
      ∙ ap (λ (k : ℕ). use_row W k) e))
      ∙ every_at (use_ok (job_of W lay) (segment_of use_row W lay s.number))
      (rows_at use_row W (lay.uses.at + (seg_at W lay s.number).first * 6) 6 (next_use W lay s.number - (seg_at W lay s.number).first)) (n - (seg_at W lay s.number).first) no_use us
      (omega (arith, length_rows_at use_row W (lay.uses.at + (seg_at W lay s.number).first * 6) 6 (next_use W lay s.number - (seg_at W lay s.number).first)))

-- ---- all of it

pub blocks_long : (W : List ℕ) (lay : Layout) → length (job_of W lay).blocks ≡ lay.blocks.n
blocks_long W lay = ap length (job_blocks W lay) ∙ length_rows_at block_row W lay.blocks.at 2 lay.blocks.n

pub vgroups_long : (W : List ℕ) (lay : Layout) → length (job_of W lay).vgroups ≡ lay.vgroups.n
vgroups_long W lay = ap length (job_vgroups W lay) ∙ groups_long W lay.vgroups.at lay.vgroups.n

pub operands_long : (W : List ℕ) (lay : Layout) → length (job_of W lay).operands ≡ lay.operands.n
operands_long W lay = ap length (job_operands W lay) ∙ long W lay.operands.at lay.operands.n

pub ready_of : {t w : ℕ} {W K : List ℕ} {lay : Layout} {wl : WorkLayout} → Fits t lay → chains.Fits t w (chains_in lay wl) → Chained K (chains_in lay wl) (operands_in W lay)
    → wl.nexts - wl.heads ≡ insts (job_of W lay) → wl.mapping + lay.operands.n ≤ w → wl.marks + lay.uses.n ≤ w → 0 < lay.blocks.n → wl.starts + lay.blocks.n * 2 + 2 ≤ w
    → Starts K wl.starts (blocks_at W lay.blocks.at lay.blocks.n) → limits_ok (job_of W lay) ≡ true → function_ok (job_of W lay) ≡ true
    → every (uses_ok (job_of W lay)) (job_of W lay).segments ≡ true → (0 < lay.segments.n → (seg_at W lay 0).first ≡ 0) → Ready t w W K lay wl
ready_of {t} {w} {W} {K} {lay} {wl} fits index chained eq mapping marks some room starts limits function uses zero' =
    record {
      fits = fits;
      index = index;
      chained = chained;
      under = subst (λ (os : List Operand). Under (wl.nexts - wl.heads) os) (job_operands W lay) (subst (λ (n : ℕ). Under n (job_of W lay).operands) (sym eq) (below_of (job_of W lay) function));
      single = ap (λ (os : List Operand). apart same_place os) (sym (job_operands W lay)) ∙ single_of (job_of W lay) function;
      grouped =
          λ k l.
          let h : (op_at (job_of W lay).operands k).vgroup.0 < length (job_of W lay).vgroups = operand_in (job_of W lay) function k (omega (arith, operands_long W lay)) in
          let e : (op_at (job_of W lay).operands k).vgroup.0 ≡ (op_at (operands_in W lay) k).vgroup.0 = ap (λ (os : List Operand). (op_at os k).vgroup.0) (job_operands W lay) in
          omega (arith, vgroups_long W lay);
      width =
          λ g l.
          let h : length (get_or (job_of W lay).vgroups g []) ≤ 8 = width_of (job_of W lay) function g (omega (arith, vgroups_long W lay)) in
          let e : length (get_or (job_of W lay).vgroups g []) ≡ length (vgroup_row W (lay.vgroups.at + g * 9)) =
          ap (λ (gs : List (List Value)). length (get_or gs g [])) (job_vgroups W lay) ∙ ap length (sym (group_row_at W lay.vgroups.at lay.vgroups.n g l)) in
          omega arith;
      mapping = mapping;
      some_block = some;
      few_blocks = omega (arith, few_blocks_of (job_of W lay) limits, blocks_long W lay);
      few_insts = subst (λ (bs : List _). insts_of bs ≤ 4096) (job_blocks W lay) (few_insts_of (job_of W lay) limits);
      room = room;
      starts = starts;
      marks = marks;
      within =
          λ h n l.
          subst (λ (bs : List _). (use_row W (lay.uses.at + n * 6)).pos.0 < insts_of bs) (job_blocks W lay)
          (use_within (job_of W lay) _ _ (use_ok_lem W lay uses n (in_segment W lay n (zero' h) h l)));
      backed = λ h n l. use_backed (job_of W lay) _ _ (use_ok_lem W lay uses n (in_segment W lay n (zero' h) h l));
    }
