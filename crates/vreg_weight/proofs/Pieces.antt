-- `sum_piece`, the loop of `sum_pieces`, and the weight. Assumes nothing.
use mathlib.Core.Path.{◌≡◌, refl, sym, ap, ◌∙◌, subst}
use mathlib.Core.List.{List, [], ◌∷◌}
use Prim.Native.Nat.{ℕ, ◌+◌, ◌-◌, ◌*◌, ◌≤◌, ◌<◌}
use native.Mathlib.Omega.{arith}
use lib.ListN.{length}
use lib.Ieee.{Float, binary32, to_bits, of_bits}
use Rattle.words.specs.RowsAt.{rows_at}
use Rattle.definition.specs.declared.ClassData.{ClassData}
use Rattle.definition.specs.declared.Options.{Options}
use Rattle.definition.specs.declared.RegClass.{RegClass}
use Rattle.definition.specs.Types.{Job, Piece}
use Rattle.definition.specs.RegInfo.{zero_f, class_at, value_at}
use Rattle.definition.specs.LiveRange.{live_insts}
use Rattle.definition.specs.Weights.{sum_uses, sum_segs, weight_of}
use Rattle.definition.specs.Place.{uses_of, segs_of}
use Rattle.weights.specs.Costs.{weight_from}
use Rattle.weights.proofs.Sums.{weight_from_lem}
use Rattle.live_range.specs.Ranges.{range_at, range_insts}
use Rattle.virt_regs.specs.declared.OutLayout.{OutLayout}
use Rattle.virt_regs.specs.Encoding.{seg_base}
use Rattle.vreg_weight.specs.Shown.{Shown, FirstShown, shown_first, shown_insts}
use Rattle.vreg_weight.specs.Weighed.{Inside, BitsOf}
use Rattle.vreg_weight.specs.Sound.{each_left, each_right}

-- what a piece adds
abbrev pub Adds : Job → OutLayout → List ℕ → ℕ → Float → Float → Type 0
Adds J ol O i sum x = (u : ℕ) (q : Piece) (ps : List Piece) → FirstShown ol O i u q ps → Inside J q.seg.uses → x ≡ sum_uses J (value_at J q.seg.value).remat sum q.seg.uses

-- ---- the pieces behind the first i

pub record Rest (J : Job) (ol : OutLayout) (O : List ℕ) (p n : ℕ) (ps : List Piece) (sum : Float) (i : ℕ) : Type 0 where
  pub first : ℕ
  pub rest : List Piece
  pub shown : Shown ol O (p + i) first rest
  pub long : length rest ≡ n - i
  pub inside : Inside J (uses_of (segs_of rest))
  pub is : sum_segs J zero_f (segs_of ps) ≡ sum_segs J sum (segs_of rest)

abbrev pub Pieces : Job → OutLayout → List ℕ → ℕ → ℕ → Float → ℕ → Type 0
Pieces J ol O p n sum i = (u : ℕ) (ps : List Piece) → Shown ol O p u ps → length ps ≡ n → Inside J (uses_of (segs_of ps)) → Rest J ol O p n ps sum i

rest_next : (J : Job) (ol : OutLayout) (O : List ℕ) (p n i : ℕ) (ps : List Piece) (sum x : Float) → i < n → Adds J ol O (p + i) sum x
    → (first : ℕ) (rest : List Piece) → Shown ol O (p + i) first rest → length rest ≡ n - i → Inside J (uses_of (segs_of rest))
    → sum_segs J zero_f (segs_of ps) ≡ sum_segs J sum (segs_of rest) → Rest J ol O p n ps x (i + 1)
unfolding Inside uses_of sum_segs
rest_next J ol O p n i ps sum x h a first [] s l ins e = absurd (omega arith)
rest_next J ol O p n i ps sum x h a first (q ∷ qs) s l ins e =
    let f : FirstShown ol O (p + i) first q qs = shown_first ol O (p + i) first q qs s in
    let k : p + i + 1 ≡ p + (i + 1) = omega arith in
    record {
      first = first + length q.seg.uses;
      rest = qs;
      shown = subst (λ (m : ℕ). Shown ol O m (first + length q.seg.uses) qs) k f.rest;
      long = omega arith;
      inside = each_right _ q.seg.uses (uses_of (segs_of qs)) ins;
      is = e ∙ ap (λ (y : Float). sum_segs J y (segs_of qs)) (sym (a first q qs f (each_left _ q.seg.uses (uses_of (segs_of qs)) ins)));
    }

pub pieces_next : (J : Job) (ol : OutLayout) (O : List ℕ) (p n i : ℕ) (sum x : Float) → i < n → Pieces J ol O p n sum i → Adds J ol O (p + i) sum x → Pieces J ol O p n x (i + 1)
pieces_next J ol O p n i sum x h r a u ps s l ins =
    let t = r u ps s l ins in
    rest_next J ol O p n i ps sum x h a t.first t.rest t.shown t.long t.inside t.is

pub pieces_end : (J : Job) (ol : OutLayout) (O : List ℕ) (p n i : ℕ) (sum : Float) → n ≤ i → Pieces J ol O p n sum i
    → (u : ℕ) (ps : List Piece) → Shown ol O p u ps → length ps ≡ n → Inside J (uses_of (segs_of ps)) → sum ≡ sum_segs J zero_f (segs_of ps)
unfolding sum_segs
pieces_end J ol O p n i sum h r u ps s l ins = let t = r u ps s l ins in sym (t.is ∙ none t.rest (omega (arith, t.long)))
  where
    none : (rest : List Piece) → length rest ≡ 0 → sum_segs J sum (segs_of rest) ≡ sum
    none [] e = refl
    none (q ∷ qs) e = absurd (omega arith)

-- ---- the weight

pub weight_is : (J : Job) (ol : OutLayout) (O : List ℕ) (p n : ℕ) (c : RegClass) (sum w : Float) (insts r : ℕ) (d : ClassData) (o : Options)
    → ((u : ℕ) (ps : List Piece) → Shown ol O p u ps → length ps ≡ n → Inside J (uses_of (segs_of ps)) → sum ≡ sum_segs J zero_f (segs_of ps))
    → (1 ≤ range_insts (rows_at range_at O (seg_base ol + p * 7) 7 n) → range_insts (rows_at range_at O (seg_base ol + p * 7) 7 n) ≤ 4096 → insts ≡ range_insts (rows_at range_at O (seg_base ol + p * 7) 7 n))
    → o ≡ J.options → d ≡ class_at J c → w ≡ weight_from sum insts o.adjust d.spillslots → r ≡ to_bits binary32 w → of_bits binary32 r ≡ w
    → (u : ℕ) (ps : List Piece) → Shown ol O p u ps → length ps ≡ n → Inside J (uses_of (segs_of ps)) → 1 ≤ live_insts (segs_of ps) → live_insts (segs_of ps) ≤ 4096
    → BitsOf r (weight_of J c (segs_of ps))
weight_is J ol O p n c sum w insts r d o es ei eo ed ew er eb u ps s l ins lo hi =
    let t : range_insts (rows_at range_at O (seg_base ol + p * 7) 7 n) ≡ live_insts (segs_of ps) =
    ap (λ (m : ℕ). range_insts (rows_at range_at O (seg_base ol + p * 7) 7 m)) (sym l) ∙ shown_insts ol O p u ps s in
    let m : insts ≡ live_insts (segs_of ps) = ei (omega arith) (omega arith) ∙ t in
    let e : w ≡ weight_of J c (segs_of ps) =
    ew
    ∙ ap (λ (y : Float). weight_from y insts o.adjust d.spillslots) (es u ps s l ins)
    ∙ ap (λ (y : ℕ). weight_from (sum_segs J zero_f (segs_of ps)) y o.adjust d.spillslots) m
    ∙ ap (λ (y : Options). weight_from (sum_segs J zero_f (segs_of ps)) (live_insts (segs_of ps)) y.adjust d.spillslots) eo
    ∙ ap (λ (y : ClassData). weight_from (sum_segs J zero_f (segs_of ps)) (live_insts (segs_of ps)) J.options.adjust y.spillslots) ed
    ∙ sym (weight_from_lem J c (segs_of ps)) in
    (er ∙ ap (to_bits binary32) e, eb ∙ e)
