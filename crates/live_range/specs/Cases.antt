-- Case H of document 01, read off tables: [2,4),[4,6) gives 2; [0,1),[1,2) gives 1. Assumes nothing.
use Rattle.std.specs.Prelude.{◌≡◌, refl, [], ◌∷◌, ℕ}
use Rattle.words.specs.RowsAt.{rows_at}
use Rattle.live_range.specs.Ranges.{range_at, range_insts}

abbrev touch : ℕ → ℕ → ℕ → ℕ → ℕ
touch a b c d = range_insts (rows_at range_at (0 ∷ a ∷ b ∷ 0 ∷ 0 ∷ 0 ∷ 0 ∷ 0 ∷ c ∷ d ∷ 0 ∷ 0 ∷ 0 ∷ 0 ∷ []) 0 7 2)

case_h : (touch 2 4 4 6 ≡ 2) × (touch 0 1 1 2 ≡ 1)
unfolding rows_at range_at range_insts
case_h = (refl, refl)
