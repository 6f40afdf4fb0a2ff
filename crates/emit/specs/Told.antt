-- What a walk over pieces tells: the rows that it wrote, and the tally of the pieces. Assumes nothing.
use Rattle.std.specs.Prelude.{◌≡◌, Bool, cond, ◌||◌, List, [], ◌∷◌, ◌++◌, ℕ, ◌+◌, ◌≤◌, ◌<◌, eqb, length, Float}
use Rattle.std.proofs.Common.{arith}
use Rattle.definition.specs.declared.BlockData.{BlockData}
use Rattle.definition.specs.declared.Use.{Use}
use Rattle.definition.specs.declared.Remat.{Remat}
use Rattle.definition.specs.declared.UseKind.TheVariants.{FixedDef}
use Rattle.definition.specs.declared.Origin.TheVariants.{Own}
use Rattle.definition.specs.Types.{Job, Segment, Piece, inst, cls}
use Rattle.definition.specs.RegInfo.{zero_f, class_at}
use Rattle.definition.specs.Uses.{half_f, cost_of}
use Rattle.definition.specs.LiveRange.{next_inst, live_insts}
use Rattle.definition.specs.Lines.{hint_in}
use Rattle.definition.specs.Entry.{insts_of}
use Rattle.definition.specs.SplitPlacement.{freq_at}
use Rattle.definition.specs.Weights.{scaled, add_cost, sum_uses, sum_segs}
use Rattle.definition.specs.Place.{uses_of, segs_of, uses_of_pieces}
use Rattle.uses.specs.Rows.{kind_of, reg}
use Rattle.live_range.specs.declared.insts.LiveRangeSegment.{LiveRangeSegment}
use Rattle.live_range.specs.Ranges.{new_insts}
use Rattle.set_part.specs.declared.PartSeg.{PartSeg}
use Rattle.set_part.specs.Part.{seg_by}
use Rattle.virt_regs.specs.declared.OutLayout.{OutLayout}
use Rattle.vregs_write.specs.Written.{Written}
use Rattle.vreg_weight.specs.Fair.{Fair, fair_insts}
use Rattle.emit.specs.declared.near.Near.{Near}
use Rattle.emit.specs.declared.tally.Costs.{Costs}
use Rattle.emit.specs.declared.tally.Tally.{Tally}

-- ---- the block of the last use

-- the frequency of every instruction from `low` up to `high` is `freq`
abbrev pub NearFits : List BlockData → Near → Type 0
NearFits bs nr = (i : ℕ) → nr.low.0 ≤ i → i < nr.high.0 → i < insts_of bs → freq_at bs i ≡ nr.freq.value

-- and it is that of instruction i
abbrev pub NearAt : List BlockData → ℕ → Near → Type 0
NearAt bs i nr = NearFits bs nr × (i < insts_of bs → freq_at bs i ≡ nr.freq.value)

-- ---- one use

-- the use of a kind's number, an instruction and four fields
abbrev pub kind_use : ℕ → ℕ → ℕ → ℕ → ℕ → ℕ → Use
kind_use k p a b c d = record { pos = inst p; kind = kind_of k a b c d }

-- what a use costs, by the words of its row: its kind's number and the first two fields
unfoldable pub cost_by : Job → ℕ → ℕ → ℕ → Float
unfolding cost_of class_at
cost_by J k a b =
    cond (eqb k 0) (cost_of J (FixedDef (reg a)))
    (cond (eqb k 1) (cost_of J (FixedDef (reg a)))
    (cond (eqb k 4) (class_at J (cls b)).cost
    (cond (eqb k 5) (class_at J (cls b)).cost
    (cond (eqb k 6) (class_at J (cls b)).cost
    (cond (eqb k 7) (class_at J (cls b)).cost
    (cond (eqb k 8) zero_f (cond (eqb k 9) zero_f half_f)))))))

-- the sum with one use more
abbrev pub use_adds : Job → Remat → Float → Use → Float
use_adds J r sum x = add_cost sum (scaled J.options r (cost_of J x.kind)) (freq_at J.blocks x.pos.0)

-- uses a to b - 1 are of instructions that the job has
abbrev pub InsideRun : Job → (ℕ → Use) → ℕ → ℕ → Type 0
InsideRun J f a b = (n : ℕ) → a ≤ n → n < b → (f n).pos.0 < insts_of J.blocks

-- A walk goes on with the uses xs of a piece, from use row u on, behind any pieces and uses that stand there: from the
-- words O₁ and the costs s to O₂ and t.
pub record UsesAdd (J : Job) (ol : OutLayout) (u : ℕ) (r : Remat) (xs : List Use) (O₁ : List ℕ) (s : Costs) (O₂ : List ℕ) (t : Costs) : Type 0 where
  pub near : NearFits J.blocks t.near
  pub sum : t.total.value ≡ sum_uses J r s.total.value xs
  pub written : (O : List ℕ) (p₀ u₀ : ℕ) (ps : List Piece) (us : List Use) → Written ol O p₀ u₀ ps us O₁
      → p₀ + length ps ≤ ol.segs → u ≡ u₀ + length us → Written ol O p₀ u₀ ps (us ++ xs) O₂

-- ---- pieces

abbrev pub own_piece : (ℕ → Use) → PartSeg → Piece
own_piece f s = record { origin = Own; seg = seg_by f s }

abbrev pub range_in : PartSeg → LiveRangeSegment
range_in s = record { «from» = s.«from»; to = s.to }

-- t with a piece more: its range, whether it has a fixed hint, and the costs that its uses brought
pub record Counted (t : Tally) (s : LiveRangeSegment) (h : Bool) (c : Costs) (t' : Tally) : Type 0 where
  pub costs : t'.costs ≡ c
  pub insts : t'.insts ≡ t.insts + new_insts t.counted.0 s
  pub counted : t'.counted.0 ≡ next_inst s.to
  pub hint : t'.hint ≡ t.hint || h

-- the instructions below which all is counted, behind segments that were counted from n on
unfoldable pub counted_by : ℕ → List Segment → ℕ
counted_by n [] = n
counted_by n (s ∷ ss) = counted_by (next_inst s.to) ss

-- O' is O with the rows of ps and of their uses, and t is what there is to tell of them
pub record Told (J : Job) (ol : OutLayout) (O : List ℕ) (p u : ℕ) (ps : List Piece) (O' : List ℕ) (t : Tally) : Type 0 where
  pub written : Written ol O p u ps (uses_of (segs_of ps)) O'
  pub sum : t.costs.total.value ≡ sum_segs J zero_f (segs_of ps)
  pub insts : t.insts ≡ live_insts (segs_of ps)
  pub hint : t.hint ≡ hint_in ps
  pub counted : t.counted.0 ≡ counted_by 0 (segs_of ps)
  pub near : NearFits J.blocks t.costs.near

-- the instructions of pieces that can be weighed
pub told_insts : {J : Job} {ol : OutLayout} {O O' : List ℕ} {p u : ℕ} {ps : List Piece} {t : Tally}
    → Told J ol O p u ps O' t → Fair J 4096 ps → (1 ≤ t.insts) × (t.insts ≤ 4096)
told_insts {J} {ps = ps} h f =
    let n = fair_insts J 4096 ps f in
    (omega (arith, h.insts, n.0), omega (arith, h.insts, n.1))

-- a walk that wrote any pieces before goes on with the piece q, as piece row p, its uses from use row u on
abbrev pub PieceAdds : Job → OutLayout → ℕ → ℕ → Piece → List ℕ → Tally → List ℕ → Tally → Type 0
PieceAdds J ol p u q O₁ t O₂ t' =
    (O : List ℕ) (p₀ u₀ : ℕ) (ps : List Piece) → Told J ol O p₀ u₀ ps O₁ t → p ≡ p₀ + length ps
    → u ≡ u₀ + uses_of_pieces ps → Told J ol O p₀ u₀ (ps ++ (q ∷ [])) O₂ t'
