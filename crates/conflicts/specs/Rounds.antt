-- A round over rows of turned uses, in place. Assumes nothing.
use Rattle.std.specs.Prelude.{ℕ, ◌+◌, ◌*◌, ◌≤◌, ◌<◌, ◌≡◌, List, [], ◌∷◌, length, get_or}
use Rattle.words.specs.Parts.{splice}
use Rattle.definition.specs.declared.RegClass.{RegClass}
use Rattle.definition.specs.Types.{Job, State, Turned}
use Rattle.definition.specs.Types as types
use Rattle.definition.specs.Admit.{fresh}
use Rattle.definition.specs.Build.{try}
use Rattle.definition.specs.Build as build
use Rattle.job.specs.declared.Layout.{Layout}
use Rattle.job.specs.declared.work.WorkLayout.{WorkLayout}
use Rattle.constraints.specs.Held.{held_of}
use Rattle.conflicts.specs.declared.round.Round.{Round}
use Rattle.conflicts.specs.declared.round.RowWords.{RowWords}
use Rattle.pieces.specs.Conflict.{turned_rows_of}

-- the words of the row that begins at word i
unfoldable pub row_words : List ℕ → ℕ → RowWords
row_words K i = record { value = get_or K i 0; number = get_or K (i + 1) 0; has = get_or K (i + 2) 0; param = get_or K (i + 3) 0 }

abbrev pub four_of : RowWords → List ℕ
four_of r = r.value ∷ r.number ∷ r.has ∷ r.param ∷ []

-- rows i and j trade places
unfoldable pub swap_rows : List ℕ → ℕ → ℕ → ℕ → List ℕ
unfolding row_words splice
swap_rows K turned i j = splice (splice K (turned + i * 4) (four_of (row_words K (turned + j * 4)))) (turned + j * 4) (four_of (row_words K (turned + i * 4)))

-- the turned rows lie behind the other parts of the work slice that admission reads
pub record TurnedApart (lay : Layout) (wl : WorkLayout) : Type 0 where
  pub index : wl.nexts + lay.operands.n ≤ wl.turned
  pub mapping : wl.mapping + lay.operands.n ≤ wl.turned
  pub starts : wl.starts + lay.blocks.n * 2 + 2 ≤ wl.turned

-- K' is K but for the words of rows a to b - 1
pub record Elsewhere (turned a b : ℕ) (K K' : List ℕ) : Type 0 where
  pub long : length K' ≡ length K
  pub before : (n : ℕ) → n < turned + a * 4 → get_or K' n 0 ≡ get_or K n 0
  pub behind : (n : ℕ) → turned + b * 4 ≤ n → get_or K' n 0 ≡ get_or K n 0

abbrev pub try_from : Job → State → types.Held → List Turned → build.Round
try_from job st h ts = try (length ts) job st h [] ts []

-- "From the top class, the turned uses are tried"
abbrev pub try_all : Job → State → RegClass → List Turned → build.Round
try_all job st top ts = try_from job st (fresh top) ts

-- the answer r with the words K of rows a to b - 1 stands for q
pub record Tried (K : List ℕ) (turned : ℕ) (W : List ℕ) (lay : Layout) (a b : ℕ) (r : Round) (q : build.Round) : Type 0 where
  pub taken : turned_rows_of K turned W lay a r.end ≡ q.taken
  pub left : turned_rows_of K turned W lay r.end b ≡ q.left
  pub held : held_of r.held ≡ q.held
