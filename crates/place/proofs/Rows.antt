-- What a working part is to the plan: how many pieces and uses, where it begins and ends, and that mapping operands leaves it. Assumes nothing.
use mathlib.Core.Path.{◌≡◌, refl, sym, ap, ◌∙◌, subst}
use mathlib.Core.Bool.{Bool, cond}
use mathlib.Core.List.{List}
use Prim.Native.Nat.{ℕ, zero, suc, ◌+◌, ◌-◌, ◌^◌, ◌<◌}
use native.Mathlib.Nat.{add-zero}
use native.Mathlib.Omega.{arith}
use borrow.Author.Tests.{eq-eqb}
use Rattle.words.specs.Words.{word_count, words_of}
use Rattle.words.specs.Laws.{length_words}
use Rattle.words.specs.Tab.{tab}
use Rattle.definition.specs.declared.Use.{Use}
use Rattle.definition.specs.Types.{Job, Segment, Piece, State, vrgroup}
use Rattle.definition.specs.Lines.{hint_in}
use Rattle.definition.specs.Build.{as_own}
use Rattle.definition.specs.Place.{uses_of, segs_of, map_uses, first_from, last_to}
use Rattle.job.specs.declared.Layout.{Layout}
use Rattle.job.specs.Layout.{seg_at}
use Rattle.job.specs.Job.{job_of}
use Rattle.set_part.specs.declared.SetPart.{SetPart}
use Rattle.set_part.specs.Part.{PartOk, part_row, seg_by, marked_use, part_segs}
use Rattle.virt_regs.specs.declared.OutLayout.{OutLayout}
use Rattle.virt_regs.specs.declared.Counts.{Counts}
use Rattle.virt_regs.specs.Held.{fit_groups}
use Rattle.vreg_weight.specs.Fair.{Fair}
use Rattle.emit.specs.declared.tally.Tally.{Tally}
use Rattle.emit.specs.Told.{Told}
use Rattle.job.specs.declared.work.WorkLayout.{WorkLayout}
use Rattle.constraints.specs.Ready.{Ready}
use Rattle.pieces.proofs.PartRows.{own_segs, count_pieces_of, count_part_uses}
use Rattle.pieces.specs.Maps.{MapApart, Outside, Maps}
use Rattle.pieces.proofs.Kept.{marked_kept, ready_kept}
use Rattle.constraints.specs.declared.Held.{Held}
use Rattle.placing.specs.Ready.{RowsOf}
use Rattle.placing.specs.Held.{HeldFits}
use Rattle.placing.specs.Asked.{Measured}
use Rattle.placing.specs.Setting.{Small, Setting}
use Rattle.place.specs.Asked.{new_pieces, Standing, Asked}

-- ---- where a part begins and ends

last_at : (f : ℕ → Segment) (n i : ℕ) → last_to (as_own (tab f i (suc n))) ≡ (f (i + n)).to
unfolding last_to
last_at f zero i = ap (λ (k : ℕ). (f k).to) (sym (add-zero i))
last_at f (suc n) i = last_at f n (i + 1) ∙ ap (λ (k : ℕ). (f k).to) (omega arith)

module _ (K : List ℕ) (m : ℕ) (W : List ℕ) (lay : Layout) (sp : SetPart) (ok : PartOk W lay sp) where
  part_from : first_from (as_own (part_segs K m W lay sp)) ≡ sp.«from»
  unfolding part_segs seg_by part_row first_from
  part_from =
      let o = ok.order in
      let n : sp.last + 1 - sp.seg ≡ suc (sp.last - sp.seg) = omega arith in
      ap (λ (k : ℕ). first_from (as_own (tab (λ i. seg_by (marked_use K m W lay) (part_row W lay sp i)) sp.seg k))) n
      ∙ ap (λ (b : Bool). cond b sp.«from» (seg_at W lay sp.seg).«from») (eq-eqb sp.seg sp.seg refl)

  part_to : last_to (as_own (part_segs K m W lay sp)) ≡ sp.to
  unfolding part_segs seg_by part_row
  part_to =
      let o = ok.order in
      let n : sp.last + 1 - sp.seg ≡ suc (sp.last - sp.seg) = omega arith in
      let e : sp.seg + (sp.last - sp.seg) ≡ sp.last = omega arith in
      ap (λ (k : ℕ). last_to (as_own (tab (λ i. seg_by (marked_use K m W lay) (part_row W lay sp i)) sp.seg k))) n
      ∙ last_at (λ i. seg_by (marked_use K m W lay) (part_row W lay sp i)) (sp.last - sp.seg) sp.seg
      ∙ ap (λ (k : ℕ). (seg_by (marked_use K m W lay) (part_row W lay sp k)).to) e
      ∙ ap (λ (b : Bool). cond b sp.to (seg_at W lay sp.last).to) (eq-eqb sp.last sp.last refl)

  pub part_measured : Measured (as_own (part_segs K m W lay sp)) (record { pieces = sp.last + 1 - sp.seg; uses = sp.end - sp.first; «from» = sp.«from»; to = sp.to })
  part_measured = record { pieces = sym (count_pieces_of K m W lay sp); uses = sym (count_part_uses K m W lay sp ok); begin = sym part_from; end = sym part_to }

  pub part_rows : (b : Bool) → b ≡ hint_in (as_own (part_segs K m W lay sp)) → RowsOf (as_own (part_segs K m W lay sp)) (record { pieces = sp.last + 1 - sp.seg; uses = sp.end - sp.first; hint = b })
  part_rows b e = record { pieces = count_pieces_of K m W lay sp; uses = count_part_uses K m W lay sp ok; hinted = e }

-- ---- what is asked

module _ {t w o : ℕ} {W K O : List ℕ} {lay : Layout} {ol : OutLayout} {wl : WorkLayout} {sp : SetPart} {h : Held} {c : Counts} (a : Asked t w o W K O lay ol wl sp h c) where
  -- groups are counted by words
  pub asked_groups : c.groups + 1 < 2 ^ 32
  asked_groups = let e = ap (λ (x : Counts). x.groups) a.counts in omega (arith, e, a.groups, fit_groups a.holds)

  pub asked_small : Small ol
  asked_small = (a.regs, a.segs, a.uses, a.groups)

  pub asked_setting : Setting (job_of W lay) ol O c h a.st (new_pieces K wl W lay sp)
  asked_setting = record { holds = a.holds; counts = a.counts; fits = a.fits; sane = a.sane; fair = a.fair }

pub standing_setting : {J : Job} {ol : OutLayout} {O W K : List ℕ} {lay : Layout} {wl : WorkLayout} {c : Counts} {h : Held} (st : State) (ps : List Piece) → Standing J ol O W K lay wl c st → HeldFits J st h → Fair J 4096 ps
    → Setting J ol O c h st ps
standing_setting st ps q hf f = record { holds = q.stands.tables; counts = q.counts; fits = hf; sane = q.sane; fair = f }

-- ---- where the mapping alone is changed

pub pieces_kept : (W K K' : List ℕ) (lay : Layout) (wl : WorkLayout) (sp : SetPart) → Outside lay wl K K' → MapApart lay wl → new_pieces K' wl W lay sp ≡ new_pieces K wl W lay sp
unfolding part_segs
pieces_kept W K K' lay wl sp x a =
    let e : marked_use K' wl.marks W lay ≡ marked_use K wl.marks W lay = λ y n. marked_kept lay wl K K' x a W n y in
    ap (λ (f : ℕ → Use). as_own (tab (λ i. seg_by f (part_row W lay sp i)) sp.seg (sp.last + 1 - sp.seg))) e

pub ready_then : (t : ℕ) (W work work' : List ℕ) (lay : Layout) (wl : WorkLayout) → Outside lay wl (words_of work) (words_of work') → MapApart lay wl → Ready t (word_count work) W (words_of work) lay wl
    → Ready t (word_count work') W (words_of work') lay wl
ready_then t W work work' lay wl x a r =
    let e : word_count work ≡ word_count work' = sym (length_words work) ∙ sym x.long ∙ length_words work' in
    subst (λ (n : ℕ). Ready t n W (words_of work') lay wl) e (ready_kept lay wl (words_of work) (words_of work') x a t (word_count work) W r)

pub fair_then : (J : Job) (W K K' : List ℕ) (lay : Layout) (wl : WorkLayout) (sp : SetPart) → Outside lay wl K K' → MapApart lay wl → Fair J 4096 (new_pieces K wl W lay sp) → Fair J 4096 (new_pieces K' wl W lay sp)
fair_then J W K K' lay wl sp x a = subst (Fair J 4096) (sym (pieces_kept W K K' lay wl sp x a))

-- what was told of the part's pieces when its operands were mapped
pub told_then : (J : Job) (ol : OutLayout) (O O₁ : List ℕ) (p u : ℕ) (t : Tally) (W K K' : List ℕ) (lay : Layout) (wl : WorkLayout) (sp : SetPart) → Outside lay wl K K' → MapApart lay wl
    → Told J ol O p u (new_pieces K' wl W lay sp) O₁ t → Told J ol O p u (new_pieces K wl W lay sp) O₁ t
told_then J ol O O₁ p u t W K K' lay wl sp x a = subst (λ (ps : List Piece). Told J ol O p u ps O₁ t) (pieces_kept W K K' lay wl sp x a)

pub maps_own : (W K K' : List ℕ) (lay : Layout) (wl : WorkLayout) (g : ℕ) (ss : List Segment) (b : Bool) → Maps W K lay wl (map_uses (vrgroup g) (uses_of ss)) b K'
    → Maps W K lay wl (map_uses (vrgroup g) (uses_of (segs_of (as_own ss)))) b K'
maps_own W K K' lay wl g ss b m = subst (λ (x : List Segment). Maps W K lay wl (map_uses (vrgroup g) (uses_of x)) b K') (sym (own_segs ss)) m
