-- A use turned on tables: its row kept, and its mark. Assumes nothing.
use Rattle.std.specs.Prelude.{ℕ, ◌+◌, ◌*◌, ◌≤◌, cond, is_some, unwrap_or, List, [], ◌∷◌, set}
use Rattle.words.specs.Parts.{splice}
use Rattle.job.specs.declared.Layout.{Layout}
use Rattle.set_part.specs.declared.mark.TurnedRow.{TurnedRow}
use Rattle.job.specs.declared.work.WorkLayout.{WorkLayout}

-- value, use number, whether it has a parameter, the parameter
unfoldable pub turned_words : TurnedRow → List ℕ
turned_words t = t.value.0 ∷ t.number ∷ cond (is_some t.param) 1 0 ∷ unwrap_or t.param 0 ∷ []

-- the words K once t is kept as turned row n and its use is marked
unfoldable pub turned_once : List ℕ → WorkLayout → ℕ → TurnedRow → List ℕ
unfolding splice turned_words
turned_once K wl n t = set (splice K (wl.turned + n * 4) (turned_words t)) (wl.marks + t.number) 1

-- In a work slice of w words the marks lie behind the block starts, the turned rows behind the marks, and there is room for a row for each use.
pub record TurnRoom (w : ℕ) (lay : Layout) (wl : WorkLayout) : Type 0 where
  pub starts : wl.starts + lay.blocks.n * 2 + 2 ≤ wl.marks
  pub marks : wl.marks + lay.uses.n ≤ wl.turned
  pub room : wl.turned + lay.uses.n * 4 ≤ w
  pub few : lay.uses.n ≤ 4096
