-- One law for each way through the tests of a leader, a value group and an operand, and for the whole of test 4. Assumes nothing.
use Prim.Native.Nat.{ℕ, suc, ◌+◌, ◌*◌, ◌≤◌, ◌<◌}
use native.Mathlib.Omega.{arith}
use mathlib.Core.Path.{◌≡◌, refl, sym, ap, ap₂, ◌∙◌}
use mathlib.Core.Bool.{Bool, true, false, not, ◌&&◌}
use mathlib.Core.List.{List, [], ◌∷◌}
use lib.Dec.{eqb}
use lib.ListN.{length, get_or}
use borrow.Author.Tests.{lt-ltb, le-ltb, le-leb, lt-leb, not-true, not-false}
use Rattle.words.specs.Tab.{tab, tab_ext}
use Rattle.definition.specs.declared.ValueSet.{ValueSet}
use Rattle.definition.specs.declared.Value.{Value}
use Rattle.definition.specs.declared.Operand.{Operand}
use Rattle.definition.specs.Types.{Job, val}
use Rattle.definition.specs.RegInfo.{set_of}
use Rattle.definition.specs.Entry.{conj, every, insts, block_ok, leader_ok, vgroup_ok, operand_ok, apart, same_place, function_ok}
use Rattle.function.specs.Blocks.{blocks_at}
use Rattle.values.specs.ValueRows.{value_row, values_at, vgroup_row, vgroups_at}
use Rattle.values.specs.declared.operands.Chains.{Chains}
use Rattle.values.specs.OperandRows.{operand_row, operands_at}
use Rattle.values.specs.Chains.{operands_of, Under}
use Rattle.values.specs.Chains as operands
use Rattle.values.proofs.Only.{under_of}
use Rattle.job.specs.declared.Layout.{Layout}
use Rattle.job.specs.Layout as layout
use Rattle.job.specs.Job.{raw_job}
use Rattle.entry_function.specs.Counts.{known, Within, Indexes}
use Rattle.entry_function.proofs.Tables.{raw_values, raw_vgroups, raw_operands, raw_blocks, values_count, vgroups_count, classes_count, class_size, members_row}

-- ---- a leader

pub leads_no : (W : List ℕ) (lay : Layout) (i w k : ℕ) → w ≡ get_or W (i + 1) 0 → k ≡ w → lay.values.n ≤ k → false ≡ leader_ok (raw_job W lay) (value_row W i)
unfolding leader_ok value_row
leads_no W lay i w k e q h = let z : length (raw_job W lay).values ≤ w = omega (arith, values_count W lay) in rw (← e, le-ltb _ _ z)

pub leads_by : (W : List ℕ) (lay : Layout) (i w k : ℕ) (s : ValueSet) → w ≡ get_or W (i + 1) 0 → k ≡ w → k < lay.values.n
    → ((job : Job) → job.values ≡ values_at W lay.values.at lay.values.n → s ≡ set_of job (val w)) → eqb s.0 w ≡ leader_ok (raw_job W lay) (value_row W i)
unfolding leader_ok value_row
leads_by W lay i w k s e q h f =
    let z : w < length (raw_job W lay).values = omega (arith, values_count W lay) in
    rw (← e, lt-ltb _ _ z) (ap (λ (x : ValueSet). eqb x.0 w) (f (raw_job W lay) (raw_values W lay)))

-- ---- a value group

-- a list by its places
by_places : {A : Type 0} (d : A) (xs : List A) → tab (λ k. get_or xs k d) 0 (length xs) ≡ xs
by_places d [] = refl
by_places d (x ∷ xs) =
    ap (λ ys. x ∷ ys) (tab_ext (λ k. get_or (x ∷ xs) k d) (λ k. get_or xs k d) 1 0 (length xs) (λ n l. place n) ∙ by_places d xs)
  where
    place : (n : ℕ) → get_or (x ∷ xs) (1 + n) d ≡ get_or xs (0 + n) d
    place n = let e : 1 + n ≡ suc n = omega arith in let f : 0 + n ≡ n = omega arith in rw (e, f)

pub every_member : (f : Value → Bool) (W : List ℕ) (i n : ℕ) → n ≡ length (vgroup_row W i) → every f (tab (λ k. get_or (vgroup_row W i) k (val 0)) 0 n) ≡ every f (vgroup_row W i)
every_member f W i n e = ap (λ m. every f (tab (λ k. get_or (vgroup_row W i) k (val 0)) 0 m)) e ∙ ap (every f) (by_places (val 0) (vgroup_row W i))

module _ (W : List ℕ) (lay : Layout) (i n : ℕ) (e : n ≡ length (vgroup_row W i)) where
  pub group_few : n < 2 → false ≡ vgroup_ok (raw_job W lay) (vgroup_row W i)
  unfolding vgroup_ok conj
  group_few h = rw (← e, lt-leb 2 n h)

  pub group_many : 2 ≤ n → 8 < n → false ≡ vgroup_ok (raw_job W lay) (vgroup_row W i)
  unfolding vgroup_ok conj
  group_many h l = rw (← e, le-leb 2 n h, lt-leb n 8 l)

  pub group_by : 2 ≤ n → n ≤ 8 → (t : Bool) → t ≡ every (known lay.values.n) (vgroup_row W i) → t ≡ vgroup_ok (raw_job W lay) (vgroup_row W i)
  unfolding vgroup_ok conj known
  group_by h l t f = rw (← e, le-leb 2 n h, le-leb n 8 l) (f ∙ ap (λ (m : ℕ). every (known m) (vgroup_row W i)) (sym (values_count W lay)) ∙ last _)
    where
      last : (b : Bool) → b ≡ b && true
      last true = refl
      last false = refl

-- ---- an operand

module _ (W : List ℕ) (lay : Layout) (i n : ℕ) (o : Operand) (r : o ≡ operand_row W i) (e : n ≡ insts (raw_job W lay)) where
  -- the row's test is that of the operand read
  on_row : (t : Bool) → t ≡ operand_ok (raw_job W lay) o → t ≡ operand_ok (raw_job W lay) (operand_row W i)
  on_row t q = q ∙ ap (operand_ok (raw_job W lay)) r

  pub operand_inst : n ≤ o.inst.0 → false ≡ operand_ok (raw_job W lay) (operand_row W i)
  unfolding operand_ok conj
  operand_inst h = on_row false (rw (← e, le-ltb _ _ h))

  module _ (a : o.inst.0 < n) where
    pub operand_slot : 65536 ≤ o.slot → false ≡ operand_ok (raw_job W lay) (operand_row W i)
    unfolding operand_ok conj
    operand_slot h = on_row false (rw (← e, lt-ltb _ _ a, le-ltb _ _ h))

    module _ (b : o.slot < 65536) where
      pub operand_group : lay.vgroups.n ≤ o.vgroup.0 → false ≡ operand_ok (raw_job W lay) (operand_row W i)
      unfolding operand_ok conj
      operand_group h = on_row false (rw (← e, lt-ltb _ _ a, lt-ltb _ _ b, vgroups_count W lay, le-ltb _ _ h))

      module _ (d : o.vgroup.0 < lay.vgroups.n) where
        pub operand_class : lay.classes.n ≤ o.class.0 → false ≡ operand_ok (raw_job W lay) (operand_row W i)
        unfolding operand_ok conj
        operand_class h = on_row false (rw (← e, lt-ltb _ _ a, lt-ltb _ _ b, vgroups_count W lay, lt-ltb _ _ d, classes_count W lay, le-ltb _ _ h))

        pub operand_by : o.class.0 < lay.classes.n → (x y : ℕ) → x ≡ get_or W (lay.classes.at + o.class.0 * 4 + 2) 0
            → y ≡ length (vgroup_row W (lay.vgroups.at + o.vgroup.0 * 9)) → eqb x y ≡ operand_ok (raw_job W lay) (operand_row W i)
        unfolding operand_ok conj
        operand_by h x y p q =
            on_row (eqb x y)
            (rw (← e, lt-ltb _ _ a, lt-ltb _ _ b, vgroups_count W lay, lt-ltb _ _ d, classes_count W lay, lt-ltb _ _ h, class_size W lay o.class h, members_row W lay o.vgroup d, ← p, ← q)
            (last (eqb x y)))
          where
            last : (t : Bool) → t ≡ t && true
            last true = refl
            last false = refl

-- ---- the whole test

module _ (a b c d e : Bool) where
  unfoldable five_of : Bool
  five_of = a && (b && (c && (d && (e && true))))

  stop_1 : a ≡ false → false ≡ five_of
  unfolding five_of
  stop_1 p = rw p

  stop_2 : a ≡ true → b ≡ false → false ≡ five_of
  unfolding five_of
  stop_2 p q = rw (p, q)

  stop_3 : a ≡ true → b ≡ true → c ≡ false → false ≡ five_of
  unfolding five_of
  stop_3 p q r = rw (p, q, r)

  stop_4 : a ≡ true → b ≡ true → c ≡ true → d ≡ false → false ≡ five_of
  unfolding five_of
  stop_4 p q r s = rw (p, q, r, s)

  last_5 : a ≡ true → b ≡ true → c ≡ true → d ≡ true → e ≡ five_of
  unfolding five_of
  last_5 p q r s = rw (p, q, r, s) (last e)
    where
      last : (t : Bool) → t ≡ t && true
      last true = refl
      last false = refl

-- an answer that is taken for no, and for yes
no : (t x : Bool) → t ≡ x → not t ≡ true → x ≡ false
no t x e h = sym e ∙ not-true t h

yes : (t x : Bool) → t ≡ x → not t ≡ false → x ≡ true
yes t x e h = sym e ∙ not-false t h

module _ (W : List ℕ) (lay : Layout) (c : Chains) (w : ℕ) (x : Indexes w W lay c) where
  pub operands_of_lem : operands_at W lay.operands.at lay.operands.n ≡ operands_of W c
  operands_of_lem = ap₂ (λ (a n : ℕ). operands_at W a n) (sym x.at) (sym x.count)

  pub index_under : (t : Bool) → t ≡ every (operand_ok (raw_job W lay)) (operands_at W lay.operands.at lay.operands.n) → not t ≡ false → Under c.insts (operands_of W c)
  index_under t e h =
      let u : every (operand_ok (raw_job W lay)) (raw_job W lay).operands ≡ true =
      ap (λ (os : List Operand). every (operand_ok (raw_job W lay)) os) (raw_operands W lay) ∙ yes t _ e h in
      rw (x.insts, ← operands_of_lem, ← raw_operands W lay) (under_of (raw_job W lay) u)

  pub index_fits : (N : ℕ) → layout.Fits N lay → Within W lay → operands.Fits N w c
  index_fits N f l =
      record {
        rows = omega (arith, f.operands, x.at, x.count);
        apart = x.apart;
        work = x.work;
        small = omega (arith, l.operands, x.count);
      }

  function_is : function_ok (raw_job W lay)
      ≡ five_of (every block_ok (blocks_at W lay.blocks.at lay.blocks.n)) (every (leader_ok (raw_job W lay)) (values_at W lay.values.at lay.values.n))
      (every (vgroup_ok (raw_job W lay)) (vgroups_at W lay.vgroups.at lay.vgroups.n))
      (every (operand_ok (raw_job W lay)) (operands_at W lay.operands.at lay.operands.n)) (apart same_place (operands_of W c))
  unfolding function_ok conj five_of
  function_is = rw (raw_blocks W lay, raw_values W lay, raw_vgroups W lay, raw_operands W lay, operands_of_lem)

  -- the answers in turn
  module _ (a : Bool) (ea : a ≡ every block_ok (blocks_at W lay.blocks.at lay.blocks.n)) where
    pub function_1 : not a ≡ true → false ≡ function_ok (raw_job W lay)
    function_1 h = stop_1 _ _ _ _ _ (no a _ ea h) ∙ sym function_is

    module _ (ha : not a ≡ false) (b : Bool) (eb : b ≡ every (leader_ok (raw_job W lay)) (values_at W lay.values.at lay.values.n)) where
      pub function_2 : not b ≡ true → false ≡ function_ok (raw_job W lay)
      function_2 h = stop_2 _ _ _ _ _ (yes a _ ea ha) (no b _ eb h) ∙ sym function_is

      module _ (hb : not b ≡ false) (d : Bool) (ed : d ≡ every (vgroup_ok (raw_job W lay)) (vgroups_at W lay.vgroups.at lay.vgroups.n)) where
        pub function_3 : not d ≡ true → false ≡ function_ok (raw_job W lay)
        function_3 h = stop_3 _ _ _ _ _ (yes a _ ea ha) (yes b _ eb hb) (no d _ ed h) ∙ sym function_is

        module _ (hd : not d ≡ false) (o : Bool) (eo : o ≡ every (operand_ok (raw_job W lay)) (operands_at W lay.operands.at lay.operands.n)) where
          pub function_4 : not o ≡ true → false ≡ function_ok (raw_job W lay)
          function_4 h = stop_4 _ _ _ _ _ (yes a _ ea ha) (yes b _ eb hb) (yes d _ ed hd) (no o _ eo h) ∙ sym function_is

          pub function_5 : not o ≡ false → (t : Bool) → t ≡ apart same_place (operands_of W c) → t ≡ function_ok (raw_job W lay)
          function_5 h t e = e ∙ last_5 _ _ _ _ _ (yes a _ ea ha) (yes b _ eb hb) (yes d _ ed hd) (yes o _ eo h) ∙ sym function_is
