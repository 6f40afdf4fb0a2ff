-- The lines that the program writes. Assumes nothing.
use Rattle.std.specs.Prelude.{List, [], ◌∷◌, ◌++◌, ℕ}
use Rattle.definition.specs.Text.{bytes, decimal, line_feed}

abbrev pub differs_line : ℕ → List ℕ
differs_line n = bytes "sample " ++ decimal n ++ (bytes " differs" ++ (line_feed ∷ []))

abbrev pub tally_line : ℕ → ℕ → ℕ → List ℕ
tally_line a d n =
    decimal a ++ bytes " samples agree, " ++ decimal d ++ bytes " differ, " ++ decimal n
    ++ (bytes " blocks have no partner" ++ (line_feed ∷ []))
