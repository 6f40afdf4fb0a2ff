-- A use turned on tables: the part, the rows, and what stays. Assumes nothing.
use mathlib.Core.Path.{◌≡◌, refl, sym, ap, subst, ◌∙◌}
use Prim.Native.Nat.{ℕ, zero, suc, ◌+◌, ◌-◌, ◌*◌, ◌≤◌, ◌<◌}
use native.Mathlib.Nat.{add-zero, zero-add}
use native.Mathlib.Omega.{arith}
use mathlib.Core.Bool.{Bool, true, false, cond}
use mathlib.Core.List.{List, [], ◌∷◌, ◌++◌}
use lib.Dec.{eqb}
use lib.ListN.{length, get_or, set, length-set}
use lib.Seq.{get_or-set_other}
use borrow.Author.Tests.{eqb-true}
use Rattle.words.specs.Tab.{tab, tab_snoc, tab_ext}
use Rattle.words.specs.Parts.{splice, length_splice, get_or_splice_before, get_or_splice_in}
use Rattle.definition.specs.declared.Use.{Use}
use Rattle.definition.specs.Types.{Job, State, Segment, Turned}
use Rattle.definition.specs.Uses.{is_class_use}
use Rattle.definition.specs.Place.{uses_of}
use Rattle.definition.specs.Build.{class_uses, turn_at, turn_in, turned_at, turned_use}
use Rattle.definition.proofs.Moves.{ClassAt}
use Rattle.definition.proofs.Counts.{class_uses_at, class_uses_turn, uses_turn}
use Rattle.definition.proofs.Fits.{turn_fit}
use Rattle.uses.specs.Rows.{use_row}
use Rattle.job.specs.declared.Layout.{Layout}
use Rattle.job.specs.Job.{job_of}
use Rattle.set_part.specs.declared.SetPart.{SetPart}
use Rattle.set_part.specs.Part.{PartOk, part_segs, marked_use}
use Rattle.set_part.proofs.Uses.{part_use, part_count}
use Rattle.set_part.proofs.Alike.{part_words}
use Rattle.set_part.specs.declared.mark.TurnedRow.{TurnedRow}
use Rattle.set_part.specs.Turned.{turned_row, turned_in, row_turned}
use Rattle.set_part.proofs.Marks.{turn_part}
use Rattle.set_part.proofs.MarkKept.{kept_part}
use Rattle.virt_regs.specs.declared.OutLayout.{OutLayout}
use Rattle.virt_regs.specs.Each.{Each}
use Rattle.job.specs.declared.work.WorkLayout.{WorkLayout}
use Rattle.constraints.specs.Ready.{Ready, Stands}
use Rattle.constraints.proofs.Kept.{Same, ready_kept, stands_kept}
use Rattle.pieces.specs.Maps.{MapApart}
use Rattle.pieces.specs.Conflict.{row_use, turned_row_at, turned_rows_of, RowsOk}
use Rattle.pieces.proofs.ConflictRows.{row_stands}
use Rattle.vreg_weight.specs.Sorted.{sorted_turn}
use Rattle.vreg_weight.specs.Sound.{sound_turn_at}
use Rattle.steps.specs.Turns.{turned_words, turned_once, TurnRoom}
use Rattle.steps.specs.Laid.{UseFits, SegsFair, uses_left, Laid}

-- a class use is not marked
pub class_unmarked : (K : List ℕ) (marks : ℕ) (W : List ℕ) (lay : Layout) (c : ℕ) → is_class_use (marked_use K marks W lay c).kind ≡ true → get_or K (marks + c) 0 ≡ 0
unfolding marked_use
class_unmarked K marks W lay c = go (eqb (get_or K (marks + c) 0) 0) refl
  where
    go : (b : Bool) → eqb (get_or K (marks + c) 0) 0 ≡ b
        → is_class_use (cond b (use_row W (lay.uses.at + c * 6)) (turned_use (use_row W (lay.uses.at + c * 6)))).kind ≡ true → get_or K (marks + c) 0 ≡ 0
    go true e h = eqb-true _ _ e
    go false e h = let z : ◌≡◌ {A = ℕ} 0 1 = cc in absurd (omega arith)

pub row_number : (K : List ℕ) (marks : ℕ) (W : List ℕ) (lay : Layout) (sp : SetPart) (i : ℕ) → (turned_row K marks W lay sp i).number ≡ sp.first + i
unfolding turned_row turned_in
row_number K marks W lay sp i = refl

-- ---- the words

module _ (K : List ℕ) (lay : Layout) (wl : WorkLayout) (n : ℕ) (t : TurnedRow) (m : MapApart lay wl) (a : TurnRoom (length K) lay wl) (ln : n < lay.uses.n) (lc : t.number < lay.uses.n) where
  abbrev kept : List ℕ
  kept = splice K (wl.turned + n * 4) (turned_words t)

  abbrev once : List ℕ
  once = turned_once K wl n t

  within : wl.turned + n * 4 + length (turned_words t) ≤ length K
  unfolding turned_words
  within = omega (arith, a.room)

  pub kept_before : (j : ℕ) → j < wl.turned + n * 4 → get_or kept j 0 ≡ get_or K j 0
  kept_before j l = get_or_splice_before K (wl.turned + n * 4) (turned_words t) within j 0 l

  pub once_before : (j : ℕ) → j < wl.turned + n * 4 → (j ≡ wl.marks + t.number → ⊥) → get_or once j 0 ≡ get_or K j 0
  unfolding turned_once
  once_before j l ne = get_or-set_other kept (wl.marks + t.number) j 1 0 ne ∙ kept_before j l

  pub once_row : (k : ℕ) → k < length (turned_words t) → get_or once (wl.turned + n * 4 + k) 0 ≡ get_or (turned_words t) k 0
  unfolding turned_once
  once_row k l =
      get_or-set_other kept (wl.marks + t.number) (wl.turned + n * 4 + k) 1 0 (λ e. omega (arith, a.marks))
      ∙ get_or_splice_in K (wl.turned + n * 4) (turned_words t) within k 0 l

  pub once_long : length once ≡ length K
  unfolding turned_once
  once_long = length-set kept (wl.marks + t.number) 1 ∙ length_splice K (wl.turned + n * 4) (turned_words t) within

  -- what lies before the marks
  early : (at k : ℕ) → at + k ≤ wl.marks → Same K once at k
  early at k h i l = once_before (at + i) (omega (arith, a.marks)) (λ e. omega arith)

  pub once_ready : (s : ℕ) (W : List ℕ) → Ready s (length K) W K lay wl → Ready s (length K) W once lay wl
  once_ready s W r =
      ready_kept once r (λ i l. once_before (wl.heads + i) (omega (arith, a.marks, m.index, m.marks)) (λ e. omega (arith, m.index, m.marks)))
      (early wl.nexts lay.operands.n (omega (arith, m.index, m.marks))) (early wl.starts (lay.blocks.n * 2 + 2) (omega (arith, a.starts)))

  pub once_stands : (ol : OutLayout) (O W : List ℕ) (st : State) → Stands ol O W K lay wl st → Stands ol O W once lay wl st
  once_stands ol O W st s = stands_kept once (early wl.mapping lay.operands.n m.marks) s

  -- ---- the rows

  old_word : (k j : ℕ) → k < n → j < 4 → get_or once (wl.turned + k * 4 + j) 0 ≡ get_or K (wl.turned + k * 4 + j) 0
  old_word k j l h = once_before (wl.turned + k * 4 + j) (omega arith) (λ e. omega (arith, a.marks))

  old_first : (k : ℕ) → k < n → get_or once (wl.turned + k * 4) 0 ≡ get_or K (wl.turned + k * 4) 0
  old_first k l = once_before (wl.turned + k * 4) (omega arith) (λ e. omega (arith, a.marks))

  old_row : (W : List ℕ) (k : ℕ) → k < n → turned_row_at once wl.turned W lay k ≡ turned_row_at K wl.turned W lay k
  unfolding turned_row_at row_use
  old_row W k l = rw (old_first k l, old_word k 1 l (omega arith), old_word k 2 l (omega arith), old_word k 3 l (omega arith))

  new_first : get_or once (wl.turned + n * 4) 0 ≡ t.value.0
  unfolding turned_words
  new_first = ap (λ (j : ℕ). get_or once j 0) (sym (add-zero (wl.turned + n * 4))) ∙ once_row 0 (omega arith)

  new_row : (W : List ℕ) → get_or K (wl.marks + t.number) 0 ≡ 0 → turned_row_at once wl.turned W lay n ≡ row_turned K wl.marks W lay t
  unfolding turned_words
  new_row W z = row_stands once K wl.turned wl.marks W lay n t new_first (once_row 1 (omega arith)) (once_row 2 (omega arith)) (once_row 3 (omega arith)) z

  pub once_rows : (W : List ℕ) → get_or K (wl.marks + t.number) 0 ≡ 0
      → turned_rows_of once wl.turned W lay 0 (n + 1) ≡ turned_rows_of K wl.turned W lay 0 n ++ (row_turned K wl.marks W lay t ∷ [])
  unfolding turned_rows_of
  once_rows W z =
      let f = turned_row_at once wl.turned W lay in
      let g = turned_row_at K wl.turned W lay in
      let e : n + 1 - 0 ≡ n + 1 = omega arith in
      let d : n ≡ n - 0 = omega arith in
      let same : tab f 0 n ≡ tab g 0 n =
      tab_ext f g 0 0 n (λ k l. ap f (zero-add k) ∙ old_row W k l ∙ ap g (sym (zero-add k))) in
      ap (λ (k : ℕ). tab f 0 k) e
      ∙ tab_snoc f 0 n
      ∙ ap (λ (l : List Turned). l ++ (f (0 + n) ∷ [])) (same ∙ ap (λ (k : ℕ). tab g 0 k) d)
      ∙ ap (λ (x : Turned). tab g 0 (n - 0) ++ (x ∷ [])) (ap f (zero-add n) ∙ new_row W z)

  pub once_known : RowsOk (length K) K wl.turned lay 0 n → RowsOk (length K) once wl.turned lay 0 (n + 1)
  unfolding turned_words
  once_known r = record { order = omega arith; within = omega (arith, a.room); known = λ k h l. go k h l (eqb k n) refl }
    where
      go : (k : ℕ) → 0 ≤ k → k < n + 1 → (b : Bool) → eqb k n ≡ b → get_or once (wl.turned + k * 4 + 1) 0 < lay.uses.n
      go k h l true e =
          let x : k ≡ n = eqb-true k n e in
          let y : get_or once (wl.turned + k * 4 + 1) 0 ≡ t.number = ap (λ (j : ℕ). get_or once (wl.turned + j * 4 + 1) 0) x ∙ once_row 1 (omega arith) in
          omega arith
      go k h l false e =
          let x : k ≡ n → ⊥ = borrow.Author.Tests.eqb-false k n e in
          let k' : k < n = omega arith in
          omega (arith, r.known k h k', old_word k 1 k' (omega arith))

-- ---- the part

module _ (K W : List ℕ) (lay : Layout) (wl : WorkLayout) (sp : SetPart) (n i : ℕ) (m : MapApart lay wl) (a : TurnRoom (length K) lay wl) (ok : PartOk W lay sp) (ln : n < lay.uses.n)
    (c : ClassAt (uses_of (part_segs K wl.marks W lay sp)) i) where
  abbrev row : TurnedRow
  row = turned_row K wl.marks W lay sp i

  pub turn_inside : sp.first + i < sp.end
  turn_inside = omega (arith, c.0, part_count K wl.marks W lay sp ok)

  number : row.number ≡ sp.first + i
  number = row_number K wl.marks W lay sp i

  pub turn_number : row.number < lay.uses.n
  turn_number = omega (arith, number, turn_inside, ok.fits)

  unmarked : get_or K (wl.marks + row.number) 0 ≡ 0
  unmarked =
      ap (λ (j : ℕ). get_or K (wl.marks + j) 0) number
      ∙ class_unmarked K wl.marks W lay (sp.first + i) (subst (λ u. is_class_use u.kind ≡ true) (part_use K wl.marks W lay sp i ok turn_inside) c.1)

  pub turn_rows : turned_rows_of (turned_once K wl n row) wl.turned W lay 0 (n + 1) ≡ turned_rows_of K wl.turned W lay 0 n ++ (turned_at i (part_segs K wl.marks W lay sp) ∷ [])
  turn_rows =
      once_rows K lay wl n row m a ln turn_number W unmarked
      ∙ ap (λ (x : Turned). turned_rows_of K wl.turned W lay 0 n ++ (x ∷ [])) (sym (kept_part K wl.marks W lay sp i ok turn_inside))

  pub turn_segs : part_segs (turned_once K wl n row) wl.marks W lay sp ≡ turn_at i (part_segs K wl.marks W lay sp)
  unfolding turned_once
  turn_segs =
      let k₁ = splice K (wl.turned + n * 4) (turned_words row) in
      let long : length k₁ ≡ length K = length_splice K (wl.turned + n * 4) (turned_words row) (within K lay wl n row m a ln turn_number) in
      let same : part_segs K wl.marks W lay sp ≡ part_segs k₁ wl.marks W lay sp =
      part_words K k₁ wl.marks W lay sp ok (λ j x y. sym (kept_before K lay wl n row m a ln turn_number (wl.marks + j) (omega (arith, a.marks, ok.fits)))) in
      ap (λ (j : ℕ). part_segs (set k₁ (wl.marks + j) 1) wl.marks W lay sp) number
      ∙ sym (turn_part k₁ wl.marks W lay sp i ok turn_inside (omega (arith, long, turn_inside, ok.fits, a.marks, a.room)))
      ∙ ap (λ (ss : List Segment). turn_at i ss) (sym same)

  -- a class use less is left
  pub turn_left : suc (uses_left W (turned_once K wl n row) lay wl sp) ≡ uses_left W K lay wl sp
  unfolding uses_left
  turn_left =
      ap (λ (ss : List Segment). suc (class_uses (uses_of ss))) turn_segs
      ∙ ap (λ us. suc (class_uses us)) (uses_turn i (part_segs K wl.marks W lay sp))
      ∙ class_uses_turn (uses_of (part_segs K wl.marks W lay sp)) i c.0 c.1

kinds_turn : (J : Job) (n : ℕ) (us : List Use) → Each (UseFits J) us → Each (UseFits J) (turn_in n us)
unfolding turn_in Each
kinds_turn J n [] h = tt
kinds_turn J zero (u ∷ us) h = (tt, h.1)
kinds_turn J (suc n) (u ∷ us) h = (h.0, kinds_turn J n us h.1)

-- there is a row left for a class use
pub turn_room : (t w : ℕ) (W K : List ℕ) (lay : Layout) (wl : WorkLayout) (sp : SetPart) (n i : ℕ) → Laid t w W K lay wl sp n → ClassAt (uses_of (part_segs K wl.marks W lay sp)) i → n < lay.uses.n
unfolding uses_left
turn_room t w W K lay wl sp n i l c = omega (arith, l.left, class_uses_at (uses_of (part_segs K wl.marks W lay sp)) i c.0 c.1)

pub laid_turn : (t w : ℕ) (W K : List ℕ) (lay : Layout) (wl : WorkLayout) (sp : SetPart) (n i : ℕ) → w ≡ length K → Laid t w W K lay wl sp n → n < lay.uses.n
    → ClassAt (uses_of (part_segs K wl.marks W lay sp)) i → Laid t w W (turned_once K wl n (turned_row K wl.marks W lay sp i)) lay wl sp (n + 1)
laid_turn t w W K lay wl sp n i ew =
    rw ew
    (λ l ln c.
    let row = turned_row K wl.marks W lay sp i in
    let m = l.mapping in
    let a = l.turns in
    let lc = turn_number K W lay wl sp n i m a l.ok ln c in
    record {
      ready = once_ready K lay wl n row m a ln lc t W l.ready;
      mapping = m;
      turns = a;
      hints = l.hints;
      ok = l.ok;
      fair =
          subst (λ (ss : List Segment). SegsFair (job_of W lay) ss) (sym (turn_segs K W lay wl sp n i m a l.ok ln c))
          (record {
            fit = turn_fit (part_segs K wl.marks W lay sp) i 0 l.fair.fit;
            kinds =
                subst (λ (us : List Use). Each (UseFits (job_of W lay)) us) (sym (uses_turn i (part_segs K wl.marks W lay sp)))
                (kinds_turn (job_of W lay) i (uses_of (part_segs K wl.marks W lay sp)) l.fair.kinds);
            sound = sound_turn_at (job_of W lay) i (part_segs K wl.marks W lay sp) l.fair.sound;
            sorted = sorted_turn i 0 4096 (part_segs K wl.marks W lay sp) l.fair.sorted;
          });
      rows = once_known K lay wl n row m a ln lc l.rows;
      left = omega (arith, l.left, turn_left K W lay wl sp n i m a l.ok ln c);
    })
