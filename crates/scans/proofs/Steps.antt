-- The step that the scans lead to. Assumes nothing.
use mathlib.Core.Path.{◌≡◌, refl, sym, ap, ap₂, subst, ◌∙◌}
use mathlib.Core.Bool.{Bool, true, false, ◌&&◌, cond}
use mathlib.Core.List.{List, [], ◌∷◌, reverse}
use Prim.Native.Nat.{ℕ, suc, ◌+◌, ◌-◌, ◌≤◌, ◌<◌}
use native.Mathlib.Omega.{arith}
use lib.Dec.{eqb, ltb, leb}
use lib.ListN.{take}
use borrow.Author.Tests.{lt-leb, ltb-true}
use Rattle.words.specs.Tab.{tab, down, get_or_tab, tab_ext, down_reverse, take_tab}
use Rattle.definition.specs.declared.Inst.{Inst}
use Rattle.definition.specs.declared.RegClass.{RegClass}
use Rattle.definition.specs.declared.BlockData.{BlockData}
use Rattle.definition.specs.declared.Use.{Use}
use Rattle.definition.specs.declared.Side.{Side}
use Rattle.definition.specs.declared.Stop.TheVariants.{NoStart, TurnedDef}
use Rattle.definition.specs.Types.{Job, State, inst}
use Rattle.definition.specs.Types as types
use Rattle.definition.specs.Uses.{is_def}
use Rattle.definition.specs.SplitPlacement.{freq_at, starts, ends, keep, earliest, early_cut, late_from, late_cut, side_of}
use Rattle.definition.specs.Admit.{Scan, scan, held_by, fresh, Move, turn, cut, halt, no_use, use_at, turning, cut_side}
use Rattle.definition.specs.Admit.{parted, back_from, forward_class, end_class, from_start, from_end, move}
use Rattle.constraints.specs.declared.Held.{Held}
use Rattle.constraints.specs.Held.{held_of}
use Rattle.scans.specs.declared.ScanAnswer.{ScanAnswer}
use Rattle.scans.specs.declared.Move as code
use Rattle.scans.specs.declared.Move.TheVariants.{Whole, Turn, Cut, Halt}
use Rattle.std.specs.Prelude.{Some, None}
use Rattle.scans.specs.Answers.{scan_of, back_of, Ends, move_of}

-- ---- no place lies between where the end is not behind the start

keep_none : (f : ℕ → Bool) (l : List ℕ) → ((i : ℕ) → f i ≡ false) → keep f l ≡ []
unfolding keep
keep_none f [] h = refl
keep_none f (x ∷ l) h = rw (h x) (keep_none f l h)

none_between : (q y : ℕ) → y ≤ q → (i : ℕ) → ltb q i && leb i y ≡ false
none_between q y l i = go (ltb q i) refl
  where
    go : (b : Bool) → ltb q i ≡ b → b && leb i y ≡ false
    go true e = lt-leb i y (omega (arith, ltb-true q i e))
    go false e = refl

pub early_behind : (bs : List BlockData) (x y r : ℕ) → y ≤ x → r ≡ x + 1 → r ≡ early_cut bs x y
unfolding early_cut earliest
early_behind bs x y r l e =
    let s : x + 1 ≡ suc x = omega arith in
    e ∙ s ∙ sym (ap (earliest (freq_at bs) (suc x)) (keep_none _ (starts 0 bs) (none_between (suc x) y (omega arith))))

pub late_behind : (bs : List BlockData) (x y : ℕ) → y ≤ x → y ≡ late_cut bs x y
unfolding late_cut late_from
late_behind bs x y l =
    sym (ap (λ (c : List ℕ). late_from (λ i. freq_at bs (i - 1)) c y) (keep_none _ (ends 0 bs) (none_between x y l)))

pub by_side : (side k : Side) (bs : List BlockData) (x y r : ℕ) → side ≡ k → r ≡ side_of k bs x y
    → r ≡ side_of side bs x y
by_side side k bs x y r e q = q ∙ ap (λ (t : Side). side_of t bs x y) (sym e)

-- ---- uses a to b - 1, read by f

module _ (f : ℕ → Use) (a b n : ℕ) (l : a ≤ n) (m : n < b) where
  use_here : use_at (tab f a (b - a)) (n - a) ≡ f n
  use_here =
      let e : a + (n - a) ≡ n = omega arith in
      get_or_tab f a (b - a) (n - a) no_use (omega arith) ∙ ap f e

  -- the use at n turned
  pub turn_def : (u : Use) (d : Bool) → u ≡ f n → d ≡ is_def u.kind → d ≡ true → (h : Held) → move_of a h (Halt TurnedDef) ≡ turning (tab f a (b - a)) (n - a)
  unfolding move_of turning
  turn_def u d eu ed t h =
      sym (ap (λ (x : Bool). cond x (halt TurnedDef) (turn (n - a))) (ap (λ (w : Use). is_def w.kind) (use_here ∙ sym eu) ∙ sym ed ∙ t))

  pub turn_use : (u : Use) (d : Bool) → u ≡ f n → d ≡ is_def u.kind → d ≡ false → (h : Held) → move_of a h (Turn n) ≡ turning (tab f a (b - a)) (n - a)
  unfolding move_of turning
  turn_use u d eu ed t h =
      sym (ap (λ (x : Bool). cond x (halt TurnedDef) (turn (n - a))) (ap (λ (w : Use). is_def w.kind) (use_here ∙ sym eu) ∙ sym ed ∙ t))

-- start and end
module _ (job : Job) (side : Side) (f : ℕ → Use) (a b s e : ℕ) (ls : a ≤ s) (ms : s < b) (le : a ≤ e) (me : e < b)
    (x y : Use) (ex : x ≡ f s) (ey : y ≡ f e) where
  pub parted_is : (o : Move)
      → o ≡ cond (eqb x.pos.0 y.pos.0) (turning (tab f a (b - a)) (cond (is_def y.kind) (s - a) (e - a)))
      (cut (inst (side_of side job.blocks x.pos.0 y.pos.0)))
      → o ≡ parted job side (tab f a (b - a)) (s - a) (e - a)
  unfolding parted
  parted_is o q =
      let hx : x ≡ use_at (tab f a (b - a)) (s - a) = ex ∙ sym (use_here f a b s ls ms) in
      let hy : y ≡ use_at (tab f a (b - a)) (e - a) = ey ∙ sym (use_here f a b e le me) in
      q
      ∙ ap₂
      (λ (u w : Use).
      cond (eqb u.pos.0 w.pos.0) (turning (tab f a (b - a)) (cond (is_def w.kind) (s - a) (e - a)))
      (cut (inst (side_of side job.blocks u.pos.0 w.pos.0))))
      hx hy

  pub part_start : (o : Move) (d : Bool) → eqb x.pos.0 y.pos.0 ≡ true → d ≡ is_def y.kind → d ≡ true
      → o ≡ turning (tab f a (b - a)) (s - a) → o ≡ parted job side (tab f a (b - a)) (s - a) (e - a)
  part_start o d p ed t q = parted_is o (q ∙ rw (p, ← ed, t))

  pub part_end : (o : Move) (d : Bool) → eqb x.pos.0 y.pos.0 ≡ true → d ≡ is_def y.kind → d ≡ false
      → o ≡ turning (tab f a (b - a)) (e - a) → o ≡ parted job side (tab f a (b - a)) (s - a) (e - a)
  part_end o d p ed t q = parted_is o (q ∙ rw (p, ← ed, t))

  pub part_cut : (r : Inst) (bs : List BlockData) → eqb x.pos.0 y.pos.0 ≡ false → job.blocks ≡ bs
      → r.0 ≡ side_of side bs x.pos.0 y.pos.0
      → (h : Held) → move_of a h (Cut r) ≡ parted job side (tab f a (b - a)) (s - a) (e - a)
  unfolding move_of
  part_cut r bs ne eb er h =
      parted_is (cut r)
      (ap (λ (n : ℕ). cut (inst n)) er
      ∙ ap (λ (l : List BlockData). cut (inst (side_of side l x.pos.0 y.pos.0))) (sym eb) ∙ rw ne)

-- ---- the whole

-- the uses from e back to a
backs : (f : ℕ → Use) (a b e : ℕ) → a ≤ e → e < b
    → down (λ j. f (a + j)) (e + 1 - a) ≡ back_from (e - a) (tab f a (b - a))
backs f a b e l m =
    let z : suc (e - a) ≡ e + 1 - a = omega arith in
    down_reverse (λ j. f (a + j)) (e + 1 - a)
    ∙ ap reverse (sym (tab_ext f (λ j. f (a + j)) a 0 (e + 1 - a) (λ n k. let q : a + n ≡ a + (0 + n) = omega arith in ap f q)))
    ∙ ap reverse (sym (take_tab f a (e + 1) b (omega arith) (omega arith)))
    ∙ ap (λ (k : ℕ). reverse (take k (tab f a (b - a)))) (sym z)

pub back_is : (job : Job) (st : State) (f : ℕ → Use) (a b e : ℕ) (h : types.Held) (s : Scan) (g : Held) → a ≤ e → e < b
    → Ends job st (down (λ j. f (a + j)) (e + 1 - a)) h s g → Ends job st (back_from (e - a) (tab f a (b - a))) h s g
back_is job st f a b e h s g l m q = subst (λ (us : List Use). Ends job st us h s g) (backs f a b e l m) q

-- the same, where the scan begins with what is held before any use
pub back_fresh : (job : Job) (st : State) (f : ℕ → Use) (a b e : ℕ) (top : RegClass) (s : Scan) (g : Held) (h : types.Held) → h ≡ fresh top → a ≤ e → e < b
    → Ends job st (down (λ j. f (a + j)) (e + 1 - a)) h s g → Ends job st (back_from (e - a) (tab f a (b - a))) (fresh top) s g
back_fresh job st f a b e top s g h eh l m q =
    subst (λ (x : types.Held). Ends job st (back_from (e - a) (tab f a (b - a))) x s g) eh (back_is job st f a b e h s g l m q)

module _ (job : Job) (st : State) (top : RegClass) (us : List Use) (h : types.Held) (fr : h ≡ fresh top) (a : ℕ)
    (r : ScanAnswer) (er : Ends job st us h (scan_of a r) r.held) where
  forth : move job st top us ≡ from_end job st top us (scan_of a r)
  unfolding move
  forth =
      ap (λ (g : types.Held). from_end job st top us (scan job st us g)) (sym fr)
      ∙ ap (from_end job st top us) (sym er.0)

  pub move_whole : r.failed ≡ None → move_of a r.held Whole ≡ move job st top us
  unfolding move_of scan_of from_end
  move_whole q = sym (forth ∙ rw q)

  module _ (e : ℕ) (no : r.failed ≡ Some e) (back : ScanAnswer)
      (eb : Ends job st (back_from (e - a) us) h (back_of e back) back.held) where
    -- the side of the classes that are held where the scans end
    abbrev pub side : Side
    side = cut_side job r.held.class back.held.class

    -- it is the definition's
    sides : cut_side job (forward_class job st top us) (end_class job st top us (e - a)) ≡ side
    unfolding held_of
    sides =
        ap
        (λ (g : types.Held). cut_side job (held_by job st us g).class (held_by job st (back_from (e - a) us) g).class)
        (sym fr)
        ∙ ap₂ (λ (f g : types.Held). cut_side job f.class g.class) (sym er.1) (sym eb.1)

    back_forth : move job st top us ≡ from_start job side us (e - a) (back_of e back)
    unfolding scan_of from_end
    back_forth =
        forth
        ∙ rw no
        (ap
        (λ (g : types.Held).
        from_start job (cut_side job (forward_class job st top us) (end_class job st top us (e - a))) us (e - a)
        (scan job st (back_from (e - a) us) g))
        (sym fr)
        ∙ ap₂ (λ (d : Side) (s : Scan). from_start job d us (e - a) s) sides (sym eb.0))

    pub move_halt : back.failed ≡ None → move_of a r.held (Halt NoStart) ≡ move job st top us
    unfolding move_of back_of from_start
    move_halt q = sym (back_forth ∙ rw q)

    pub move_part : (s : ℕ) (k : code.Move) → back.failed ≡ Some s → a ≤ s → s ≤ e
        → move_of a r.held k ≡ parted job side us (s - a) (e - a)
        → move_of a r.held k ≡ move job st top us
    unfolding back_of from_start
    move_part s k q l m p =
        let z : s - a ≡ e - a - (e - s) = omega arith in
        p ∙ ap (λ (n : ℕ). parted job side us n (e - a)) z ∙ sym (back_forth ∙ rw q)
