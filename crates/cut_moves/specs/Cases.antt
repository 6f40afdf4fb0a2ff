-- Answers computed over bytes: number, count and every byte of the list; the order of the refusals, 9 last of all.
-- Assumes nothing.
use Rattle.std.specs.Prelude.{ℕ, ◌≡◌, refl, List, [], ◌∷◌, map}
use Rattle.std.specs.Float.Ieee.{of_bits}
use Rattle.words.specs.Parts.{pad}
use Rattle.words.specs.RowsAt.{rows_at}
use Rattle.words.specs.Words.{words_of, bytes_of}
use Rattle.function.specs.Blocks.{block_row}
use Rattle.cut_moves.specs.declared.MovesEnd.{MovesEnd}
use Rattle.cut_moves.specs.Answer.{moves_end, list_left}

-- what is asked, and what is answered: the list's words, zeros behind them left out
record Case : Type 0 where
  blocks : List ℕ
  after : ℕ
  before : ℕ
  side : ℕ
  room : ℕ
  end : MovesEnd
  list : List ℕ

-- an accepted call
abbrev case : List ℕ → ℕ → ℕ → ℕ → ℕ → ℕ → List ℕ → Case
case bs a b d r n ws =
    record { blocks = bs; after = a; before = b; side = d; room = r; end = record { number = 0; count = n }; list = ws }

-- a refusal
abbrev no : ℕ → List ℕ → ℕ → ℕ → ℕ → ℕ → Case
no k bs a b d r =
    record { blocks = bs; after = a; before = b; side = d; room = r; end = record { number = k; count = 0 }; list = [] }

-- three blocks of frequencies 4, 2.5 and 3, the first two open
abbrev two_open : List ℕ
two_open = 3 ∷ 0x40800000 ∷ 2 ∷ 0x40200000 ∷ 1 ∷ 0x40400000 ∷ []

-- 01's F
abbrev F : List ℕ
F = 4 ∷ 0x40400000 ∷ 4 ∷ 0x40000000 ∷ 8 ∷ 0x40000000 ∷ []

-- an empty block and a NaN beside too many instructions
abbrev worst : List ℕ
worst = 0 ∷ 0x40400000 ∷ 4294967295 ∷ 0x7fc00000 ∷ []

abbrev cases : List Case
cases =
    case two_open 1 4 0 40 2 (0 ∷ 1 ∷ 6291456 ∷ 1 ∷ 0 ∷ 6291456 ∷ [])
    ∷ case F 1 13 0 36 3 (1 ∷ 0 ∷ 1 ∷ 2 ∷ 1 ∷ 1 ∷ 0 ∷ 1 ∷ 4194304 ∷ [])
    ∷ case F 1 13 1 39 3 (1 ∷ 1 ∷ 1 ∷ 2 ∷ 0 ∷ 1 ∷ 0 ∷ 1 ∷ 4194305 ∷ [])
    ∷ case F 1 3 0 36 0 []
    -- a byte short, though two are open, or none
    ∷ no 9 two_open 1 4 0 35
    ∷ no 9 F 1 3 0 0
    -- the lowest number comes, and 9 last
    ∷ no 4 two_open 4 4 0 0
    ∷ no 4 two_open 0 6 1 0
    ∷ no 2 worst 5 1 0 0
    ∷ no 1 worst 5 1 2 0
    ∷ no 1 [] 0 1 0 5
    ∷ []

answer : Case → MovesEnd × List ℕ
unfolding moves_end list_left
answer c =
    let s = bytes_of c.blocks in
    (moves_end s c.after c.before c.side c.room, list_left s c.after c.before c.side c.room)

expected : Case → MovesEnd × List ℕ
unfolding pad bytes_of
expected c = (c.end, pad c.room (bytes_of c.list))

cases_computed : map answer cases ≡ map expected cases
unfolding answer expected rows_at block_row words_of of_bits
cases_computed = refl
