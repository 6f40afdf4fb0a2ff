-- The loop of `emit_part`, and the weight. Assumes nothing.
use Rattle.std.specs.Prelude.{◌≡◌, refl, Bool, true, false, List, [], ◌∷◌, ◌++◌, ℕ, zero, suc, ◌+◌, ◌-◌, ◌≤◌, ◌<◌, ltb, length, get_or, Float}
use Rattle.std.proofs.Common.{sym, ap, ◌∙◌, subst, arith, ltb-true, ltb-false}
use Rattle.std.specs.Float.{binary32}
use Rattle.std.specs.Float.Ieee.{to_bits, of_bits}
use Rattle.words.specs.Tab.{tab, length_tab, tab_snoc}
use Rattle.definition.specs.declared.ClassData.{ClassData}
use Rattle.definition.specs.declared.RegClass.{RegClass}
use Rattle.definition.specs.declared.Use.{Use}
use Rattle.definition.specs.Types.{Job, Segment, Piece}
use Rattle.definition.specs.RegInfo.{zero_f, class_at}
use Rattle.definition.specs.Entry.{insts_of}
use Rattle.definition.specs.LiveRange.{next_inst, touched, live_insts}
use Rattle.definition.specs.Weights.{sum_segs, weight_of}
use Rattle.definition.specs.Build.{as_own}
use Rattle.definition.specs.Place.{uses_of, segs_of, uses_of_pieces}
use Rattle.weights.specs.Costs.{weight_from}
use Rattle.weights.proofs.Sums.{weight_from_lem}
use Rattle.job.specs.declared.Layout.{Layout}
use Rattle.job.specs.Layout.{options_row}
use Rattle.live_range.specs.Ranges.{range_of, new_insts}
use Rattle.job.specs.Job.{job_by, job_of}
use Rattle.set_part.specs.declared.SetPart.{SetPart}
use Rattle.set_part.specs.declared.PartSeg.{PartSeg}
use Rattle.set_part.specs.Part.{use_bound, part_row, seg_by, marked_use, part_segs, PartOk}
use Rattle.set_part.proofs.Bounds.{bound_first, first_le_end}
use Rattle.set_part.proofs.Alike.{row_first}
use Rattle.set_part.proofs.Uses.{uses_from, part_uses}
use Rattle.virt_regs.specs.declared.OutLayout.{OutLayout}
use Rattle.virt_regs.specs.Each.{Each}
use Rattle.vreg_weight.specs.Weighed.{Inside, BitsOf}
use Rattle.vreg_weight.specs.Fair.{Fair, fair_insts, fair_inside}
use Rattle.pieces.proofs.PartRows.{segs_to, own_snoc, own_length, own_segs, own_uses_lem}
use Rattle.emit.specs.declared.tally.Tally.{Tally}
use Rattle.emit.specs.Told.{InsideRun, own_piece, range_in, counted_by, Told, PieceAdds}
use Rattle.emit.proofs.Pieces.{touched_more}

-- ---- the segments before segment i

-- a shorter run touches no more
touched_run : (g : ℕ → Segment) (n a k m : ℕ) → touched n (tab g a k) ≤ touched n (tab g a (k + m))
unfolding touched
touched_run g n a zero m = omega arith
touched_run g n a (suc k) m =
    let ih = touched_run g (next_inst (g a).to) (a + 1) k m in
    let e : suc k + m ≡ suc (k + m) = omega arith in
    rw e (omega arith)

module _ (f : ℕ → Use) (W : List ℕ) (lay : Layout) (sp : SetPart) (i : ℕ) (ok : PartOk W lay sp) (lo : sp.seg ≤ i) (hi : i ≤ sp.last) where
  -- where the uses of segment i begin, of those of the part
  first_at : uses_of_pieces (as_own (segs_to f W lay sp i)) ≡ use_bound W lay sp i - sp.first
  unfolding segs_to
  first_at =
      let e : sp.seg + (i - sp.seg) ≡ i = omega arith in
      own_uses_lem (tab (λ j. seg_by f (part_row W lay sp j)) sp.seg (i - sp.seg))
      ∙ ap length (uses_from W lay sp ok f (i - sp.seg) sp.seg (omega arith) (omega arith))
      ∙ length_tab f (use_bound W lay sp sp.seg) (use_bound W lay sp (sp.seg + (i - sp.seg)) - use_bound W lay sp sp.seg)
      ∙ rw (e, bound_first W lay sp)

  count_to : length (as_own (segs_to f W lay sp i)) ≡ i - sp.seg
  unfolding segs_to
  count_to = own_length (tab (λ j. seg_by f (part_row W lay sp j)) sp.seg (i - sp.seg)) ∙ length_tab (λ j. seg_by f (part_row W lay sp j)) sp.seg (i - sp.seg)

  segs_more : segs_to f W lay sp (i + 1) ≡ segs_to f W lay sp i ++ (seg_by f (part_row W lay sp i) ∷ [])
  unfolding segs_to
  segs_more =
      let g : ℕ → Segment = λ j. seg_by f (part_row W lay sp j) in
      let q : sp.seg + (i - sp.seg) ≡ i = omega arith in
      let m : i + 1 - sp.seg ≡ (i - sp.seg) + 1 = omega arith in
      ap (λ (k : ℕ). tab g sp.seg k) m ∙ tab_snoc g sp.seg (i - sp.seg)
      ∙ ap (λ (k : ℕ). tab g sp.seg (i - sp.seg) ++ (g k ∷ [])) q

  own_more : as_own (segs_to f W lay sp i) ++ (own_piece f (part_row W lay sp i) ∷ []) ≡ as_own (segs_to f W lay sp (i + 1))
  own_more = sym (ap (λ (l : List Segment). as_own l) segs_more ∙ own_snoc (segs_to f W lay sp i) (seg_by f (part_row W lay sp i)))

  -- one segment more
  pub told_next : (J : Job) (ol : OutLayout) (O O₁ O₂ : List ℕ) (p u k : ℕ) (s : PartSeg) (t t' : Tally)
      → Told J ol O p u (as_own (segs_to f W lay sp i)) O₁ t → s ≡ part_row W lay sp i
      → k ≡ u + (s.first - sp.first) → PieceAdds J ol (p + (i - sp.seg)) k (own_piece f s) O₁ t O₂ t'
      → Told J ol O p u (as_own (segs_to f W lay sp (i + 1))) O₂ t'
  told_next J ol O O₁ O₂ p u k s t t' told es ek add =
      let ef : k ≡ u + uses_of_pieces (as_own (segs_to f W lay sp i)) =
      ek ∙ ap (λ (x : PartSeg). u + (x.first - sp.first)) es ∙ ap (λ (j : ℕ). u + (j - sp.first)) (row_first W lay sp i)
      ∙ ap (λ (j : ℕ). u + j) (sym first_at) in
      subst (λ (ps : List Piece). Told J ol O p u ps O₂ t') own_more
      (subst (λ (x : PartSeg). Told J ol O p u (as_own (segs_to f W lay sp i) ++ (own_piece f x ∷ [])) O₂ t') es
      (add O p u (as_own (segs_to f W lay sp i)) told (ap (λ (j : ℕ). p + j) (sym count_to)) ef))

  -- its instructions are among those of the part
  room : (J : Job) (ol : OutLayout) (O O₁ : List ℕ) (p u : ℕ) (t : Tally)
      → Told J ol O p u (as_own (segs_to f W lay sp i)) O₁ t
      → touched 0 (tab (λ j. seg_by f (part_row W lay sp j)) sp.seg (sp.last + 1 - sp.seg)) ≤ 4096
      → t.insts + new_insts t.counted.0 (range_in (part_row W lay sp i)) ≤ 4096
  unfolding segs_to seg_by live_insts
  room J ol O O₁ p u t told most =
      let g : ℕ → Segment = λ j. seg_by f (part_row W lay sp j) in
      let ps : List Piece = as_own (segs_to f W lay sp i) in
      let q : Piece = own_piece f (part_row W lay sp i) in
      let e : segs_of (ps ++ (q ∷ [])) ≡ tab g sp.seg (i + 1 - sp.seg) = ap (λ (l : List Piece). segs_of l) own_more ∙ own_segs (segs_to f W lay sp (i + 1)) in
      let more : touched 0 (segs_of (ps ++ (q ∷ []))) ≡ touched 0 (segs_of ps) + new_insts (counted_by 0 (segs_of ps)) (range_of q.seg) = touched_more 0 ps q in
      let n : sp.last + 1 - sp.seg ≡ (i + 1 - sp.seg) + (sp.last - i) = omega arith in
      let run : touched 0 (tab g sp.seg (i + 1 - sp.seg)) ≤ touched 0 (tab g sp.seg ((i + 1 - sp.seg) + (sp.last - i))) = touched_run g 0 sp.seg (i + 1 - sp.seg) (sp.last - i) in
      let all : touched 0 (tab g sp.seg (sp.last + 1 - sp.seg)) ≡ touched 0 (tab g sp.seg ((i + 1 - sp.seg) + (sp.last - i))) = ap (λ (k : ℕ). touched 0 (tab g sp.seg k)) n in
      let here : touched 0 (segs_of (ps ++ (q ∷ []))) ≡ touched 0 (tab g sp.seg (i + 1 - sp.seg)) = ap (λ (l : List Segment). touched 0 l) e in
      let counted : new_insts t.counted.0 (range_of q.seg) ≡ new_insts (counted_by 0 (segs_of ps)) (range_of q.seg) = ap (λ (k : ℕ). new_insts k (range_of q.seg)) told.counted in
      let insts : t.insts ≡ touched 0 (segs_of ps) = told.insts in
      omega arith

pub told_start : (J : Job) (ol : OutLayout) (O : List ℕ) (p u : ℕ) (f : ℕ → Use) (W : List ℕ) (lay : Layout) (sp : SetPart) (t : Tally)
    → Told J ol O p u [] O t
    → Told J ol O p u (as_own (segs_to f W lay sp sp.seg)) O t
unfolding segs_to
told_start J ol O p u f W lay sp t h =
    let e : sp.seg - sp.seg ≡ 0 = omega arith in
    subst (λ (k : ℕ). Told J ol O p u (as_own (tab (λ j. seg_by f (part_row W lay sp j)) sp.seg k)) O t) (sym e) h

-- uses of the job's instructions, by number
pub inside_tab : (J : Job) (f : ℕ → Use) (a k : ℕ) → Inside J (tab f a k) → InsideRun J f a (a + k)
unfolding Inside Each
inside_tab J f a zero i n lo hi = absurd (omega arith)
inside_tab J f a (suc k) i n lo hi = go (ltb a n) refl (λ h. inside_tab J f (a + 1) k i.1 n h (omega arith))
  where
    go : (b : Bool) → ltb a n ≡ b → (a + 1 ≤ n → (f n).pos.0 < insts_of J.blocks) → (f n).pos.0 < insts_of J.blocks
    go true e r = r (let z = ltb-true a n e in omega arith)
    go false e r = let z : a ≡ n = (let y = ltb-false a n e in omega arith) in subst (λ (j : ℕ). (f j).pos.0 < insts_of J.blocks) z i.0

module _ (J : Job) (K W : List ℕ) (lay : Layout) (m : ℕ) (sp : SetPart) (ok : PartOk W lay sp) (fair : Fair J 4096 (as_own (part_segs K m W lay sp))) where
  -- the uses of a part that can be weighed are of instructions that the job has
  fair_run : InsideRun J (marked_use K m W lay) sp.first sp.end
  fair_run =
      let e : sp.first + (sp.end - sp.first) ≡ sp.end = omega (arith, first_le_end W lay sp ok) in
      let us : uses_of (segs_of (as_own (part_segs K m W lay sp))) ≡ tab (marked_use K m W lay) sp.first (sp.end - sp.first) =
      ap (λ (ss : List Segment). uses_of ss) (own_segs (part_segs K m W lay sp)) ∙ part_uses K m W lay sp ok in
      subst (λ (b : ℕ). InsideRun J (marked_use K m W lay) sp.first b) e
      (inside_tab J (marked_use K m W lay) sp.first (sp.end - sp.first) (subst (λ (l : List Use). Inside J l) us (fair_inside J 4096 (as_own (part_segs K m W lay sp)) fair)))

  pub fair_within : (c d : ℕ) → sp.first ≤ c → d ≤ sp.end → InsideRun J (marked_use K m W lay) c d
  fair_within c d l r n lo hi = fair_run n (omega arith) (omega arith)

  -- and it touches few
  fair_most : touched 0 (part_segs K m W lay sp) ≤ 4096
  unfolding live_insts
  fair_most =
      let n : touched 0 (segs_of (as_own (part_segs K m W lay sp))) ≡ touched 0 (part_segs K m W lay sp) = ap (λ (ss : List Segment). touched 0 ss) (own_segs (part_segs K m W lay sp)) in
      omega (arith, (fair_insts J 4096 (as_own (part_segs K m W lay sp)) fair).1)

  pub told_room : (ol : OutLayout) (O O₁ : List ℕ) (p u i : ℕ) (s : PartSeg) (t : Tally) → sp.seg ≤ i → i ≤ sp.last
      → Told J ol O p u (as_own (segs_to (marked_use K m W lay) W lay sp i)) O₁ t
      → s ≡ part_row W lay sp i → t.insts + new_insts t.counted.0 (range_in s) ≤ 4096
  unfolding part_segs
  told_room ol O O₁ p u i s t lo hi told es =
      subst (λ (x : PartSeg). t.insts + new_insts t.counted.0 (range_in x) ≤ 4096) (sym es) (room (marked_use K m W lay) W lay sp i ok lo hi J ol O O₁ p u t told fair_most)

-- at the end
pub told_all : (J : Job) (ol : OutLayout) (O O₁ : List ℕ) (p u : ℕ) (K : List ℕ) (m : ℕ) (W : List ℕ) (lay : Layout) (sp : SetPart) (i : ℕ) (t : Tally)
    → Told J ol O p u (as_own (segs_to (marked_use K m W lay) W lay sp i)) O₁ t → sp.last < i → i ≤ sp.last + 1
    → Told J ol O p u (as_own (part_segs K m W lay sp)) O₁ t
unfolding segs_to part_segs
told_all J ol O O₁ p u K m W lay sp i t told h l =
    let e : i ≡ sp.last + 1 = omega arith in
    subst (λ (k : ℕ). Told J ol O p u (as_own (tab (λ j. seg_by (marked_use K m W lay) (part_row W lay sp j)) sp.seg (k - sp.seg))) O₁ t) e told

-- ---- the weight

pub adjust_is : (W : List ℕ) (lay : Layout) → get_or W lay.opts 0 ≡ (job_of W lay).options.adjust
unfolding job_of job_by options_row
adjust_is W lay = refl

pub weight_bits : (J : Job) (c : RegClass) (total w : Float) (insts r k : ℕ) (d : ClassData) → k ≡ J.options.adjust
    → d ≡ class_at J c → w ≡ weight_from total insts k d.spillslots
    → r ≡ to_bits binary32 w → of_bits binary32 r ≡ w → (ss : List Segment) → total ≡ sum_segs J zero_f ss
    → insts ≡ live_insts ss → BitsOf r (weight_of J c ss)
weight_bits J c total w insts r k d ek ed ew er eb ss es ei =
    let e : w ≡ weight_of J c ss =
    ew
    ∙ ap (λ (y : Float). weight_from y insts k d.spillslots) es
    ∙ ap (λ (y : ℕ). weight_from (sum_segs J zero_f ss) y k d.spillslots) ei
    ∙ ap (λ (y : ℕ). weight_from (sum_segs J zero_f ss) (live_insts ss) y d.spillslots) ek
    ∙ ap (λ (y : ClassData). weight_from (sum_segs J zero_f ss) (live_insts ss) J.options.adjust y.spillslots) ed
    ∙ sym (weight_from_lem J c ss) in
    (er ∙ ap (to_bits binary32) e, eb ∙ e)
