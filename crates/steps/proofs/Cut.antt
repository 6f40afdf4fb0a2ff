-- A part cut on tables, and what stays when a part is placed. Assumes nothing.
use mathlib.Core.Path.{◌≡◌, refl, sym, subst, ◌∙◌}
use Prim.Native.Nat.{ℕ, ◌+◌, ◌-◌, ◌*◌, ◌<◌}
use native.Mathlib.Omega.{arith}
use mathlib.Core.List.{List, [], ◌∷◌}
use lib.ListN.{length, get_or}
use Rattle.words.specs.Tab.{tab, tab_ext}
use Rattle.words.specs.RowsAt.{rows_at}
use Rattle.definition.specs.declared.Hint.{Hint}
use Rattle.definition.specs.declared.Inst.{Inst}
use Rattle.definition.specs.declared.RegClass.{RegClass}
use Rattle.definition.specs.declared.Use.{Use}
use Rattle.definition.specs.Types.{Job, Segment, State}
use Rattle.definition.specs.Cuts.{left_cut, right_cut}
use Rattle.definition.specs.Admit.{cut, move}
use Rattle.definition.specs.Place.{uses_of}
use Rattle.definition.specs.Build.{as_own, class_uses}
use Rattle.definition.proofs.Fits.{SegsFit, right_fit}
use Rattle.definition.proofs.Moves.{CutAt, move_cut}
use Rattle.definition.proofs.Cuts.{cut_uses}
use Rattle.definition.proofs.Places.{All}
use Rattle.definition.proofs.Fuel.{cut_between, cut_falls}
use Rattle.hints.specs.Hints.{hint_at}
use Rattle.job.specs.declared.Layout.{Layout}
use Rattle.job.specs.Job.{job_by, job_of}
use Rattle.set_part.specs.declared.SetPart.{SetPart}
use Rattle.set_part.specs.Part.{PartOk, part_segs}
use Rattle.set_part.specs.Part as set-part
use Rattle.set_part.proofs.Uses.{part_uses, part_length}
use Rattle.set_part.proofs.Alike.{part_words}
use Rattle.set_part.proofs.Inside.{cut_open, cut_end}
use Rattle.set_part.specs.Cut.{cut_part}
use Rattle.set_part.proofs.Sides.{cut_left, cut_right}
use Rattle.set_part.proofs.CutsKept.{Sides, cut_sides}
use Rattle.virt_regs.specs.Each.{Each}
use Rattle.job.specs.declared.work.WorkLayout.{WorkLayout}
use Rattle.pieces.specs.Maps.{MapApart, Outside}
use Rattle.pieces.proofs.Kept.{ready_kept}
use Rattle.pieces.specs.Conflict.{row_use, turned_row_at, turned_rows_of, RowsOk}
use Rattle.vreg_weight.specs.Fair.{Fair, fair_own}
use Rattle.vreg_weight.specs.Sorted.{sorted_left, sorted_right}
use Rattle.vreg_weight.specs.Sound.{each_left, each_right, each_all, sound_left, sound_right}
use Rattle.steps.specs.Laid.{UseFits, SegsFair, uses_left, Laid}

pub job_hints : (W : List ℕ) (lay : Layout) → (job_of W lay).hints ≡ rows_at hint_at W lay.hints.at 3 lay.hints.n
unfolding job_of job_by
job_hints W lay = refl

-- the uses of a part, as the scans see them
pub part_scanned : (K : List ℕ) (marks : ℕ) (W : List ℕ) (lay : Layout) (sp : SetPart) → PartOk W lay sp
    → uses_of (part_segs K marks W lay sp) ≡ tab (set-part.marked_use K marks W lay) sp.first (sp.end - sp.first)
part_scanned K marks W lay sp ok = part_uses K marks W lay sp ok

-- ---- the mapping alone is changed

module _ (lay : Layout) (wl : WorkLayout) (K K' : List ℕ) (o : Outside lay wl K K') (m : MapApart lay wl) (W : List ℕ) where
  pub segs_kept : (sp : SetPart) → PartOk W lay sp → part_segs K' wl.marks W lay sp ≡ part_segs K wl.marks W lay sp
  segs_kept sp ok = part_words K' K wl.marks W lay sp ok (λ j a b. o.behind (wl.marks + j) (omega (arith, m.marks)))

  first_kept : (k : ℕ) → get_or K' (wl.turned + k * 4) 0 ≡ get_or K (wl.turned + k * 4) 0
  first_kept k = o.behind (wl.turned + k * 4) (omega (arith, m.turned))

  word_kept : (k j : ℕ) → get_or K' (wl.turned + k * 4 + j) 0 ≡ get_or K (wl.turned + k * 4 + j) 0
  word_kept k j = o.behind (wl.turned + k * 4 + j) (omega (arith, m.turned))

  row_same : (k : ℕ) → turned_row_at K' wl.turned W lay k ≡ turned_row_at K wl.turned W lay k
  unfolding turned_row_at row_use
  row_same k = rw (first_kept k, word_kept k 1, word_kept k 2, word_kept k 3)

  pub rows_kept : (a b : ℕ) → turned_rows_of K' wl.turned W lay a b ≡ turned_rows_of K wl.turned W lay a b
  unfolding turned_rows_of
  rows_kept a b = tab_ext (turned_row_at K' wl.turned W lay) (turned_row_at K wl.turned W lay) a a (b - a) (λ n l. row_same (a + n))

  pub rows_ok_kept : (w a b : ℕ) → RowsOk w K wl.turned lay a b → RowsOk w K' wl.turned lay a b
  rows_ok_kept w a b r = record { order = r.order; within = r.within; known = λ k h l. omega (arith, r.known k h l, word_kept k 1) }

-- ---- what is placed can be weighed

filled : (K : List ℕ) (marks : ℕ) (W : List ℕ) (lay : Layout) (sp : SetPart) → PartOk W lay sp → 0 < length (part_segs K marks W lay sp)
filled K marks W lay sp ok = let o = ok.order in omega (arith, part_length K marks W lay sp)

pub fair_part : (t w : ℕ) (W K : List ℕ) (lay : Layout) (wl : WorkLayout) (sp : SetPart) (n : ℕ) → Laid t w W K lay wl sp n → Fair (job_of W lay) 4096 (as_own (part_segs K wl.marks W lay sp))
fair_part t w W K lay wl sp n l =
    fair_own (job_of W lay) 4096 (part_segs K wl.marks W lay sp) l.fair.sound l.fair.sorted (filled K wl.marks W lay sp l.ok)

pub part_kinds : (t w : ℕ) (W K : List ℕ) (lay : Layout) (wl : WorkLayout) (sp : SetPart) (n : ℕ) → Laid t w W K lay wl sp n → All (UseFits (job_of W lay)) (uses_of (part_segs K wl.marks W lay sp))
part_kinds t w W K lay wl sp n l = each_all (UseFits (job_of W lay)) (uses_of (part_segs K wl.marks W lay sp)) l.fair.kinds

fit_zero : (q : ℕ) (ss : List Segment) → SegsFit q ss → SegsFit 0 ss
fit_zero q [] f = tt
fit_zero q (s ∷ ss) f = (omega arith, f.1, f.2, f.3)

-- ---- the sides of a cut

module _ (t w : ℕ) (W K : List ℕ) (lay : Layout) (wl : WorkLayout) (sp : SetPart) (n : ℕ) (l : Laid t w W K lay wl sp n) (st : State) (top : RegClass) (p : Inst)
    (e : move (job_of W lay) st top (uses_of (part_segs K wl.marks W lay sp)) ≡ cut p) where
  abbrev J : Job
  J = job_of W lay

  abbrev hs : List Hint
  hs = J.hints

  abbrev ss : List Segment
  ss = part_segs K wl.marks W lay sp

  pub cut_bounds : (sp.«from».0 < 4 * p.0) × (4 * p.0 < sp.to.0)
  cut_bounds =
      let c : CutAt J st top (uses_of ss) p = move_cut J st top (uses_of ss) p e in
      let b = cut_between J st top ss 0 p l.fair.fit c in (
        cut_open K wl.marks W lay sp l.ok 0 c.start p l.fair.fit c.clash.start.0 b.0,
        cut_end K wl.marks W lay sp l.ok 0 c.end p l.fair.fit c.clash.end.0 b.1 c.clash.end.1,
      )

  pub cut_parts : Sides W lay sp (cut_part hs W lay p sp)
  cut_parts = cut_sides hs W lay p sp l.ok cut_bounds.0 cut_bounds.1

  pub left_segs : left_cut hs p ss ≡ part_segs K wl.marks W lay (cut_part hs W lay p sp).left
  left_segs = cut_left hs W lay p sp l.ok cut_bounds.0 cut_bounds.1 K wl.marks

  right_segs : right_cut hs p ss ≡ part_segs K wl.marks W lay (cut_part hs W lay p sp).right
  right_segs = cut_right hs W lay p sp l.ok cut_bounds.0 cut_bounds.1 K wl.marks

  both_kinds : Each (UseFits J) (uses_of (left_cut hs p ss)) × Each (UseFits J) (uses_of (right_cut hs p ss))
  both_kinds =
      let k = subst (λ (us : List Use). Each (UseFits J) us) (sym (cut_uses hs p ss)) l.fair.kinds in
      (each_left (UseFits J) (uses_of (left_cut hs p ss)) (uses_of (right_cut hs p ss)) k, each_right (UseFits J) (uses_of (left_cut hs p ss)) (uses_of (right_cut hs p ss)) k)

  pub left_kinds : All (UseFits J) (uses_of (left_cut hs p ss))
  left_kinds = each_all (UseFits J) (uses_of (left_cut hs p ss)) both_kinds.0

  pub fair_left : Fair J 4096 (as_own (part_segs K wl.marks W lay (cut_part hs W lay p sp).left))
  fair_left =
      subst (λ (x : List Segment). Fair J 4096 (as_own x)) left_segs
      (fair_own J 4096 (left_cut hs p ss) (sound_left J hs p ss l.fair.sound) (sorted_left hs p 0 4096 ss l.fair.sorted)
      (subst (λ (x : List Segment). 0 < length x) (sym left_segs) (filled K wl.marks W lay (cut_part hs W lay p sp).left cut_parts.left_side)))

  module _ (K' : List ℕ) (o : Outside lay wl K K') where
    pub right_kept : part_segs K' wl.marks W lay (cut_part hs W lay p sp).right ≡ right_cut hs p ss
    right_kept = segs_kept lay wl K K' o l.mapping W (cut_part hs W lay p sp).right cut_parts.right_side ∙ sym right_segs

    -- a class use less is left
    pub right_left : uses_left W K' lay wl (cut_part hs W lay p sp).right < uses_left W K lay wl sp
    unfolding uses_left
    right_left =
        subst (λ (x : List Segment). class_uses (uses_of x) < class_uses (uses_of ss)) (sym right_kept) (cut_falls J st top ss 0 p l.fair.fit (move_cut J st top (uses_of ss) p e))

    pub laid_right : Laid t w W K' lay wl (cut_part hs W lay p sp).right n
    laid_right = record {
      ready = ready_kept lay wl K K' o l.mapping t w W l.ready;
      mapping = l.mapping;
      turns = l.turns;
      hints = l.hints;
      ok = cut_parts.right_side;
      fair =
          subst (λ (x : List Segment). SegsFair J x) (sym right_kept)
          (record {
            fit = fit_zero (4 * p.0) (right_cut hs p ss) (right_fit hs p ss 0 l.fair.fit);
            kinds = both_kinds.1;
            sound = sound_right J hs p ss l.fair.sound;
            sorted = sorted_right hs p 0 4096 ss l.fair.sorted;
          });
      rows = rows_ok_kept lay wl K K' o l.mapping W w 0 n l.rows;
      left = omega (arith, l.left, right_left);
    }
