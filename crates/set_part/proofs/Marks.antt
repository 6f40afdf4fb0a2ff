-- A use turned is a mark set, and other parts do not see it. Assumes nothing.
use mathlib.Core.Path.{◌≡◌, refl, sym, ap, ◌∙◌}
use mathlib.Core.Bool.{Bool, true, false, cond}
use mathlib.Core.List.{List, ◌∷◌}
use Prim.Native.Nat.{ℕ, zero, suc, ◌+◌, ◌-◌, ◌*◌, ◌≤◌, ◌<◌}
use native.Mathlib.Omega.{arith}
use lib.Dec.{ltb, eqb}
use lib.ListN.{length, get_or, set}
use lib.Seq.{get_or-set_same, get_or-set_other}
use borrow.Author.Tests.{lt-ltb, le-ltb, ltb-true, ltb-false}
use Rattle.words.specs.Tab.{tab, length_tab, tab_ext}
use Rattle.definition.specs.declared.Use.{Use}
use Rattle.definition.specs.Types.{Segment}
use Rattle.definition.specs.Build.{turned_use, with_uses, turn_in, turn_at}
use Rattle.uses.specs.Rows.{use_row}
use Rattle.job.specs.declared.Layout.{Layout}
use Rattle.set_part.specs.declared.SetPart.{SetPart}
use Rattle.set_part.specs.declared.PartSeg.{PartSeg}
use Rattle.set_part.specs.Part.{use_bound, part_row, marked_use, seg_by, part_segs, PartOk}
use Rattle.set_part.proofs.Bounds.{bound_first, bound_end}
use Rattle.set_part.proofs.Alike.{seg_alike, segs_alike, row_first, row_end}

-- ---- one mark more

pub mark_here : (K : List ℕ) (marks : ℕ) (W : List ℕ) (lay : Layout) (c : ℕ) → marks + c < length K
    → marked_use (set K (marks + c) 1) marks W lay c ≡ turned_use (marked_use K marks W lay c)
unfolding marked_use
mark_here K marks W lay c h = rw (get_or-set_same K (marks + c) 1 0 h) (go (eqb (get_or K (marks + c) 0) 0))
  where
    go : (t : Bool) → turned_use (use_row W (lay.uses.at + c * 6)) ≡ turned_use (cond t (use_row W (lay.uses.at + c * 6)) (turned_use (use_row W (lay.uses.at + c * 6))))
    go true = refl
    go false = refl

pub mark_other : (K : List ℕ) (marks : ℕ) (W : List ℕ) (lay : Layout) (c x j : ℕ) → (j ≡ c → ⊥) → marked_use (set K (marks + c) x) marks W lay j ≡ marked_use K marks W lay j
unfolding marked_use
mark_other K marks W lay c x j h = rw (get_or-set_other K (marks + c) (marks + j) x 0 (λ e. h (omega arith)))

-- ---- turning in a list of segments

turn_here : (n : ℕ) (s : Segment) (ss : List Segment) → n < length s.uses → turn_at n (s ∷ ss) ≡ with_uses (turn_in n s.uses) s ∷ ss
unfolding turn_at
turn_here n s ss h = rw (lt-ltb n (length s.uses) h, turn_at)

turn_later : (n : ℕ) (s : Segment) (ss : List Segment) → length s.uses ≤ n → turn_at n (s ∷ ss) ≡ s ∷ turn_at (n - length s.uses) ss
unfolding turn_at
turn_later n s ss h = rw (le-ltb n (length s.uses) h, turn_at)

-- how many uses a segment has
pub seg_uses : (f : ℕ → Use) (r : PartSeg) → length (seg_by f r).uses ≡ r.end - r.first
unfolding seg_by
seg_uses f r = length_tab f r.first (r.end - r.first)

-- g is f with the use of number c turned
module _ (f g : ℕ → Use) (c : ℕ) (here : g c ≡ turned_use (f c)) (other : (j : ℕ) → (j ≡ c → ⊥) → g j ≡ f j) where
  turn_tab : (k n a : ℕ) → n < k → a + n ≡ c → turn_in n (tab f a k) ≡ tab g a k
  unfolding turn_in
  turn_tab zero n a h e = absurd (omega arith)
  turn_tab (suc k) zero a h e =
      let q : a ≡ c = omega arith in
      let x : turned_use (f a) ≡ g a = ap (λ (j : ℕ). turned_use (f j)) q ∙ sym here ∙ ap (λ (j : ℕ). g j) (sym q) in
      let y : tab f (a + 1) k ≡ tab g (a + 1) k = tab_ext f g (a + 1) (a + 1) k (λ i l. sym (other (a + 1 + i) (λ u. omega arith))) in
      λ i. x i ∷ y i
  turn_tab (suc k) (suc n) a h e =
      let x : f a ≡ g a = sym (other a (λ u. omega arith)) in
      let y : turn_in n (tab f (a + 1) k) ≡ tab g (a + 1) k = turn_tab k n (a + 1) (omega arith) (omega arith) in
      λ i. x i ∷ y i

  turn_seg : (r : PartSeg) (n : ℕ) → n < r.end - r.first → r.first + n ≡ c → with_uses (turn_in n (seg_by f r).uses) (seg_by f r) ≡ seg_by g r
  unfolding seg_by
  turn_seg r n h e =
      ap (λ (us : List Use). record { value = r.value; «from» = r.«from»; to = r.to; flags = r.flags; uses = us }) (turn_tab (r.end - r.first) n r.first h e)

  module _ (W : List ℕ) (lay : Layout) (sp : SetPart) (ok : PartOk W lay sp) where
    abbrev segs : (ℕ → Use) → ℕ → ℕ → List Segment
    segs h i m = tab (λ j. seg_by h (part_row W lay sp j)) i m

    module _ (m i n : ℕ) (lo : sp.seg ≤ i) (hi : i + suc m ≤ sp.last + 1) (e : use_bound W lay sp i + n ≡ c) where
      abbrev row : PartSeg
      row = part_row W lay sp i

      turn_first : n < row.end - row.first → turn_at n (seg_by f row ∷ segs f (i + 1) m) ≡ seg_by g row ∷ segs g (i + 1) m
      turn_first h =
          turn_here n (seg_by f row) (segs f (i + 1) m) (omega (arith, seg_uses f row))
          ∙ ap (λ (s : Segment). s ∷ segs f (i + 1) m) (turn_seg row n h (omega (arith, row_first W lay sp i)))
          ∙ ap (λ (l : List Segment). seg_by g row ∷ l)
          (segs_alike W lay sp f g ok (i + 1) m (omega arith) (omega arith) (λ j a b. sym (other j (λ u. omega (arith, row_first W lay sp i, row_end W lay sp i)))))

      turn_rest : row.end - row.first ≤ n → turn_at (n - (row.end - row.first)) (segs f (i + 1) m) ≡ segs g (i + 1) m
          → turn_at n (seg_by f row ∷ segs f (i + 1) m) ≡ seg_by g row ∷ segs g (i + 1) m
      turn_rest h ih =
          turn_later n (seg_by f row) (segs f (i + 1) m) (omega (arith, seg_uses f row))
          ∙ ap (λ (k : ℕ). seg_by f row ∷ turn_at (n - k) (segs f (i + 1) m)) (seg_uses f row)
          ∙ ap (λ (l : List Segment). seg_by f row ∷ l) ih
          ∙ ap (λ (s : Segment). s ∷ segs g (i + 1) m)
          (seg_alike f g row (λ j a b. sym (other j (λ u. omega (arith, row_first W lay sp i, row_end W lay sp i)))))

    turn_from : (m i n : ℕ) → sp.seg ≤ i → i + m ≤ sp.last + 1 → use_bound W lay sp i + n ≡ c → c < use_bound W lay sp (i + m) → turn_at n (segs f i m) ≡ segs g i m
    turn_from zero i n lo hi e b = let q : i + 0 ≡ i = omega arith in absurd (omega (arith, ap (λ (j : ℕ). use_bound W lay sp j) q))
    turn_from (suc m) i n lo hi e b = go (ltb n ((part_row W lay sp i).end - (part_row W lay sp i).first)) refl (turn_from m (i + 1) (n - ((part_row W lay sp i).end - (part_row W lay sp i).first)) (omega arith) (omega arith))
      where
        go : (t : Bool) → ltb n ((part_row W lay sp i).end - (part_row W lay sp i).first) ≡ t
            → (use_bound W lay sp (i + 1) + (n - ((part_row W lay sp i).end - (part_row W lay sp i).first)) ≡ c → c < use_bound W lay sp (i + 1 + m)
            → turn_at (n - ((part_row W lay sp i).end - (part_row W lay sp i).first)) (segs f (i + 1) m) ≡ segs g (i + 1) m)
            → turn_at n (segs f i (suc m)) ≡ segs g i (suc m)
        go true q ih = turn_first m i n lo hi e (ltb-true n ((part_row W lay sp i).end - (part_row W lay sp i).first) q)
        go false q ih =
            let h = ltb-false n ((part_row W lay sp i).end - (part_row W lay sp i).first) q in
            let u : i + suc m ≡ i + 1 + m = omega arith in
            turn_rest m i n lo hi e h
            (ih (omega (arith, row_first W lay sp i, row_end W lay sp i, ok.rise i lo (omega arith))) (omega (arith, ap (λ (j : ℕ). use_bound W lay sp j) u)))

-- the use at place n of a part turned: its mark is set
pub turn_part : (K : List ℕ) (marks : ℕ) (W : List ℕ) (lay : Layout) (sp : SetPart) (n : ℕ) → PartOk W lay sp → sp.first + n < sp.end → marks + (sp.first + n) < length K
    → turn_at n (part_segs K marks W lay sp) ≡ part_segs (set K (marks + (sp.first + n)) 1) marks W lay sp
unfolding part_segs
turn_part K marks W lay sp n ok h l =
    let o = ok.order in
    let e : sp.seg + (sp.last + 1 - sp.seg) ≡ sp.last + 1 = omega arith in
    let c = sp.first + n in
    turn_from (marked_use K marks W lay) (marked_use (set K (marks + c) 1) marks W lay) c (mark_here K marks W lay c l) (λ j d. mark_other K marks W lay c 1 j d) W lay sp ok
    (sp.last + 1 - sp.seg) sp.seg n (omega arith) (omega arith) (ap (λ (k : ℕ). k + n) (bound_first W lay sp))
    (omega (arith, ap (λ (j : ℕ). use_bound W lay sp j) e, bound_end W lay sp (sp.last + 1) (omega arith) (omega arith)))
