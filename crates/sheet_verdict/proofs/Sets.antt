-- The sets of a job's segments, and the loop that compares them with the written ones. Assumes nothing.
use Prim.Native.Nat.{ℕ, zero, suc, ◌+◌, ◌*◌, ◌≤◌, ◌<◌}
use native.Mathlib.Omega.{arith}
use native.Mathlib.Nat.{zero-add}
use mathlib.Core.Path.{◌≡◌, refl, sym, ap, ◌∙◌}
use mathlib.Core.Bool.{false}
use mathlib.Core.List.{List, ◌∷◌, map}
use lib.ListN.{length, get_or, take, drop, length-drop}
use lib.Seq.{length-take-le, get_or-take, get_or-drop}
use Rattle.words.specs.Tab.{tab, length_tab, get_or_tab}
use Rattle.words.specs.Words.{word_count, words_of}
use Rattle.words.specs.Laws.{length_words}
use Rattle.definition.specs.declared.Value.{Value}
use Rattle.definition.specs.declared.ValueSet.{ValueSet}
use Rattle.definition.specs.Types.{Segment, Job}
use Rattle.definition.specs.Text.{same}
use Rattle.definition.specs.RegInfo.{set_of}
use Rattle.definition.specs.SheetForms.{implied_sets}
use Rattle.values.specs.ValueRows.{values_at}
use Rattle.uses.specs.Rows.{raw_row}
use Rattle.job.specs.declared.Layout.{Layout}
use Rattle.job.specs.declared.SegRow.{SegRow}
use Rattle.job.specs.Layout.{seg_row, segment_of}
use Rattle.job.specs.Job.{raw_job}
use Rattle.entry_function.proofs.Tables.{raw_values, raw_segments}
use Rattle.entry_ranges.proofs.SegmentTests.{seg_value}
use Rattle.sheet_verdict.proofs.Agree.{Agree, agree_start, agree_next, agree_stop}

-- ---- the implied ones

map_tab : {A : Type 0} (g : A → ℕ) (f : ℕ → A) (i k : ℕ) → map g (tab f i k) ≡ tab (λ m. g (f m)) i k
map_tab g f i zero = refl
map_tab g f i (suc k) = ap (λ (l : List ℕ). g (f i) ∷ l) (map_tab g f (i + 1) k)

module _ (W : List ℕ) (lay : Layout) where
  -- the sets of the job's segments
  abbrev pub sets_of : List ℕ
  sets_of = implied_sets (raw_job W lay)

  -- that of segment j
  abbrev set_at : ℕ → ℕ
  set_at j = (set_of (raw_job W lay) (segment_of raw_row W lay j).value).0

  implied_is : sets_of ≡ tab set_at 0 lay.segments.n
  unfolding implied_sets
  implied_is =
      let g : Segment → ℕ = λ s. (set_of (raw_job W lay) s.value).0 in
      ap (λ (ss : List Segment). map g ss) (raw_segments W lay)
      ∙ map_tab g (segment_of raw_row W lay) 0 lay.segments.n

  implied_long : length sets_of ≡ lay.segments.n
  implied_long = ap length implied_is ∙ length_tab set_at 0 lay.segments.n

  implied_at : (j : ℕ) → j < lay.segments.n → set_at j ≡ get_or sets_of j 0
  implied_at j h =
      sym (ap (λ (l : List ℕ). get_or l j 0) implied_is
      ∙ get_or_tab set_at 0 lay.segments.n j 0 h
      ∙ ap set_at (zero-add j))

-- what `set_for_value` gives for v is v's set in the job
abbrev pub IsSet : List ℕ → Layout → Value → ValueSet → Type 0
IsSet W lay v a = (job : Job) → job.values ≡ values_at W lay.values.at lay.values.n → a ≡ set_of job v

-- ---- the loop

-- the first j segments are compared with the written words X
pub record Comparing (X W : List ℕ) (lay : Layout) (j : ℕ) : Type 0 where
  pub agree : Agree (take lay.segments.n (drop 512 X)) (sets_of W lay) lay.segments.n j

pub sets_start : (x W : List ℕ) (lay : Layout) → 512 + lay.segments.n ≤ word_count x → Comparing (words_of x) W lay 0
sets_start x W lay h =
    let n = lay.segments.n in
    let l : n ≤ length (drop 512 (words_of x)) = simp length-drop (omega (arith, length_words x)) in
    record { agree = agree_start _ _ n (length-take-le n (drop 512 (words_of x)) l) (implied_long W lay) }

module _ {X W : List ℕ} {lay : Layout} {j : ℕ} (c : Comparing X W lay j) where
  -- s is the row of segment j, a the set of its value, and x the written one
  module _ (h : j < lay.segments.n) (s : SegRow) (p : s ≡ seg_row W (lay.segments.at + j * 5)) (a : ValueSet)
      (q : IsSet W lay s.value a) (x : ℕ) (e : x ≡ get_or X (512 + j) 0) where
    written_at : x ≡ get_or (take lay.segments.n (drop 512 X)) j 0
    written_at = e ∙ sym (get_or-take lay.segments.n (drop 512 X) j 0 h ∙ get_or-drop 512 X j 0)

    set_at_lem : a.0 ≡ get_or (sets_of W lay) j 0
    set_at_lem =
        ap (λ (y : ValueSet). y.0) (q (raw_job W lay) (raw_values W lay))
        ∙ ap (λ (v : Value). (set_of (raw_job W lay) v).0) (sym (seg_value W lay j s p))
        ∙ implied_at W lay j h

    pub sets_stop : (x ≡ a.0 → ⊥) → false ≡ same (take lay.segments.n (drop 512 X)) (sets_of W lay)
    sets_stop n = agree_stop c.agree h x a.0 written_at set_at_lem n

    pub sets_next : x ≡ a.0 → Comparing X W lay (j + 1)
    sets_next n = record { agree = agree_next c.agree h x a.0 written_at set_at_lem n }
