-- What is kept of a use that is turned. Assumes nothing.
use mathlib.Core.Path.{◌≡◌, refl, sym, ap, ◌∙◌}
use mathlib.Core.Option.{Option, none, some}
use mathlib.Core.List.{List, ◌∷◌}
use Prim.Native.Nat.{ℕ, zero, suc, ◌+◌, ◌-◌, ◌≤◌, ◌<◌}
use native.Mathlib.Nat.{add-zero}
use native.Mathlib.Omega.{arith}
use lib.ListN.{length, get_or}
use borrow.Author.Tests.{lt-ltb, le-ltb}
use Rattle.words.specs.Tab.{tab, get_or_tab}
use Rattle.definition.specs.declared.Inst.{Inst}
use Rattle.definition.specs.declared.Use.{Use}
use Rattle.definition.specs.Types.{Segment, Turned}
use Rattle.definition.specs.Admit.{no_use}
use Rattle.definition.specs.Build.{param_at, turned_of, turned_at}
use Rattle.job.specs.declared.Layout.{Layout}
use Rattle.set_part.specs.declared.SetPart.{SetPart}
use Rattle.set_part.specs.declared.PartSeg.{PartSeg}
use Rattle.set_part.specs.Part.{use_bound, part_row, marked_use, seg_by, part_segs, PartOk}
use Rattle.set_part.proofs.Bounds.{bound_first, bounds_rise}
use Rattle.set_part.proofs.Alike.{row_first, row_end}
use Rattle.set_part.specs.Turned.{coded, param_by, param_here, holder, turned_in, turned_row, row_turned}
use Rattle.set_part.proofs.Holder.{Within, holder_holds}
use Rattle.set_part.proofs.Marks.{seg_uses}

-- ---- the definition's clauses

at_first : (n : ℕ) (s : Segment) (ss : List Segment) → n < length s.uses → turned_at n (s ∷ ss) ≡ turned_of n s
unfolding turned_at
at_first n s ss h = rw (lt-ltb n (length s.uses) h, turned_at)

at_later : (n : ℕ) (s : Segment) (ss : List Segment) → length s.uses ≤ n → turned_at n (s ∷ ss) ≡ turned_at (n - length s.uses) ss
unfolding turned_at
at_later n s ss h = rw (le-ltb n (length s.uses) h, turned_at)

-- the first use of a list that is not empty
param_first : (f : ℕ → Use) (p : Inst) (a k : ℕ) → 0 < k → param_at p (tab f a k) ≡ param_here p (f a)
unfolding param_at param_here
param_first f p a zero h = absurd (omega arith)
param_first f p a (suc k) h = refl

-- what the code's parameter stands for
stands_for : (o : Option ℕ) → param_by (coded o) ≡ o
stands_for none = refl
stands_for (some q) = refl

-- of use number c, by a function that gives the uses, in the segment r
abbrev kept_of : (ℕ → Use) → PartSeg → ℕ → Turned
kept_of f r c = record { value = r.value; use' = f c; param = param_here (f c).pos (f r.first) }

kept_seg : (f : ℕ → Use) (r : PartSeg) (n c : ℕ) → n < r.end - r.first → r.first + n ≡ c → turned_of n (seg_by f r) ≡ kept_of f r c
unfolding turned_of seg_by
kept_seg f r n c h e =
    let u : get_or (tab f r.first (r.end - r.first)) n no_use ≡ f c = get_or_tab f r.first (r.end - r.first) n no_use h ∙ ap (λ (j : ℕ). f j) e in
    ap (λ (x : Use). record { value = r.value; use' = x; param = param_at x.pos (tab f r.first (r.end - r.first)) }) u
    ∙ ap (λ (o : Option ℕ). record { value = r.value; use' = f c; param = o }) (param_first f (f c).pos r.first (r.end - r.first) (omega arith))

module _ (W : List ℕ) (lay : Layout) (sp : SetPart) (ok : PartOk W lay sp) (f : ℕ → Use) (c : ℕ) where
  abbrev segs : ℕ → ℕ → List Segment
  segs i m = tab (λ j. seg_by f (part_row W lay sp j)) i m

  -- segments whose uses come before number c are passed over
  kept_skip : (d i m n : ℕ) → sp.seg ≤ i → i + d ≤ sp.last → use_bound W lay sp i + n ≡ c → use_bound W lay sp (i + d) ≤ c
      → turned_at n (segs i (d + suc m)) ≡ turned_at (c - use_bound W lay sp (i + d)) (segs (i + d) (suc m))
  kept_skip zero i m n lo hi e b =
      let q : c - use_bound W lay sp i ≡ n = omega arith in
      let x : 0 + suc m ≡ suc m = omega arith in
      rw (add-zero i, q, x)
  kept_skip (suc d) i m n lo hi e b =
      let r = part_row W lay sp i in
      let x : suc d + suc m ≡ suc (d + suc m) = omega arith in
      let y : i + suc d ≡ i + 1 + d = omega arith in
      let s = ok.rise i lo (omega arith) in
      let t = bounds_rise W lay sp ok (i + 1) (i + 1 + d) (omega arith) (omega arith) (omega arith) in
      let z = ap (λ (j : ℕ). use_bound W lay sp j) y in
      let l : r.end - r.first ≤ n = omega (arith, row_first W lay sp i, row_end W lay sp i) in
      ap (λ (k : ℕ). turned_at n (segs i k)) x
      ∙ at_later n (seg_by f r) (segs (i + 1) (d + suc m)) (omega (arith, seg_uses f r))
      ∙ ap (λ (k : ℕ). turned_at (n - k) (segs (i + 1) (d + suc m))) (seg_uses f r)
      ∙ kept_skip d (i + 1) m (n - (r.end - r.first)) (omega arith) (omega arith) (omega (arith, row_first W lay sp i, row_end W lay sp i)) (omega arith)
      ∙ ap (λ (j : ℕ). turned_at (c - use_bound W lay sp j) (segs j (suc m))) (sym y)

  kept_at : (k n : ℕ) → Within W lay sp c k → use_bound W lay sp sp.seg + n ≡ c → turned_at n (segs sp.seg (sp.last + 1 - sp.seg)) ≡ kept_of f (part_row W lay sp k) c
  kept_at k n w e =
      let lo = w.behind in
      let hi = w.within in
      let a = w.after in
      let b = w.before in
      let r = part_row W lay sp k in
      let x : sp.last + 1 - sp.seg ≡ (k - sp.seg) + suc (sp.last - k) = omega arith in
      let y : sp.seg + (k - sp.seg) ≡ k = omega arith in
      ap (λ (m : ℕ). turned_at n (segs sp.seg m)) x
      ∙ kept_skip (k - sp.seg) sp.seg (sp.last - k) n (omega arith) (omega arith) e (omega (arith, ap (λ (j : ℕ). use_bound W lay sp j) y))
      ∙ ap (λ (j : ℕ). turned_at (c - use_bound W lay sp j) (segs j (suc (sp.last - k)))) y
      ∙ at_first (c - use_bound W lay sp k) (seg_by f r) (segs (k + 1) (sp.last - k)) (omega (arith, seg_uses f r, row_first W lay sp k, row_end W lay sp k))
      ∙ kept_seg f r (c - use_bound W lay sp k) c (omega (arith, row_first W lay sp k, row_end W lay sp k)) (omega (arith, row_first W lay sp k))

-- what is kept of the use at place n is what its row stands for
pub kept_part : (K : List ℕ) (marks : ℕ) (W : List ℕ) (lay : Layout) (sp : SetPart) (n : ℕ) → PartOk W lay sp → sp.first + n < sp.end
    → turned_at n (part_segs K marks W lay sp) ≡ row_turned K marks W lay (turned_row K marks W lay sp n)
unfolding part_segs row_turned turned_row turned_in
kept_part K marks W lay sp n ok h =
    let c = sp.first + n in
    let f = marked_use K marks W lay in
    let r = part_row W lay sp (holder W lay sp c) in
    kept_at W lay sp ok f c (holder W lay sp c) n (holder_holds W lay sp c ok.order (omega arith) h) (ap (λ (k : ℕ). k + n) (bound_first W lay sp))
    ∙ ap (λ (o : Option ℕ). record { value = r.value; use' = f c; param = o }) (sym (stands_for (param_here (f c).pos (f r.first))))
