-- Every step brings the end nearer. Assumes nothing.
use Rattle.std.specs.Prelude.{◌≡◌, List, ◌∷◌, ℕ, ◌≤◌, ◌<◌}
use Rattle.std.proofs.Common.{sym, subst, ◌∙◌}
use Rattle.std.proofs.Math.Path.{ap}
use native.Mathlib.Omega.{arith}
use Rattle.definition.specs.Types.{Job}
use Rattle.definition.specs.JobSheet.{Word, seg, use', end, word_number, Record}
use Rattle.definition.specs.Conversion.{rec}
use Rattle.sheet_rules.specs.Places.{limits, limit_of}
use Rattle.job_pages.specs.Cursors.{Cursor, cursor, shown_row, passed_on, behind_row, phase, steps_left}
use Rattle.job_pages.specs.Left.{Going}

module _ (T : List ℕ) (c : Cursor) (x : ℕ) where
  -- by the cursor's key
  abbrev Falls : ℕ → Type 0
  Falls k =
      steps_left (behind_row T (cursor k c.row c.segs c.uses c.insts) x)
      < steps_left (cursor k c.row c.segs c.uses c.insts)

  at_key : (k : ℕ) → c.key ≡ k → Falls k → steps_left (behind_row T c x) < steps_left c
  at_key k q h = subst Falls (sym q) h

  -- behind a line
  pub line_falls : {job : Job} (w : Word) (ns : List ℕ) (rs : List Record) (g : Going T job c (rec w ns ∷ rs))
      → g.kind ≡ w → steps_left (behind_row T c x) < steps_left c
  unfolding behind_row steps_left phase shown_row limit_of limits
  line_falls seg ns rs g e =
      let s : c.segs ≤ 1024 = omega (
        arith,
        g.segs,
        g.counts seg (omega arith) (omega arith),
        g.few seg (omega arith) (omega arith),
      ) in
      at_key 9 (g.key ∙ ap word_number e) (omega (arith, g.low, s))
  line_falls use' ns rs g e =
      let u : c.uses ≤ 4096 = omega (
        arith,
        g.uses,
        g.counts use' (omega arith) (omega arith),
        g.few use' (omega arith) (omega arith),
      ) in
      at_key 10 (g.key ∙ ap word_number e) (omega (arith, g.low, u))
  line_falls w ns rs g e = at_key (word_number w) (g.key ∙ ap word_number e) (omega (arith, g.low))

-- behind a kind
module _ (c : Cursor) where
  abbrev Passes : ℕ → Type 0
  Passes k =
      steps_left (passed_on (cursor k c.row c.segs c.uses c.insts))
      < steps_left (cursor k c.row c.segs c.uses c.insts)

  by_key : (k : ℕ) → c.key ≡ k → Passes k → steps_left (passed_on c) < steps_left c
  by_key k q h = subst Passes (sym q) h

  pub pass_falls : {T : List ℕ} {job : Job} {rs : List Record} (g : Going T job c rs) → word_number g.kind ≤ 10
      → steps_left (passed_on c) < steps_left c
  unfolding passed_on steps_left phase
  pass_falls g h = go g.kind g.key h
    where
      go : (w : Word) → c.key ≡ word_number w → word_number w ≤ 10 → steps_left (passed_on c) < steps_left c
      go end q m = absurd (omega (arith, m))
      go w q m = by_key (word_number w) q (omega (arith, g.low))
