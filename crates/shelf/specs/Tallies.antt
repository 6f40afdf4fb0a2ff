-- The lines that the program writes. Assumes nothing.
use Rattle.std.specs.Prelude.{List, [], ◌∷◌, ◌++◌, ℕ}
use Rattle.definition.specs.Text.{bytes, decimal, line_feed}

-- n sheets, of which r are refused and k stand in the row; s of these are the same job as the one before, o neither go
-- behind it nor are the same, and in the row from behind d places have another job
abbrev pub tally_line : ℕ → ℕ → ℕ → ℕ → ℕ → ℕ → List ℕ
tally_line n r k s o d =
    decimal n ++ bytes " sheets: " ++ decimal r ++ bytes " refused, " ++ decimal k ++ bytes " on the shelf, "
    ++ decimal s ++ bytes " same as the one before, " ++ decimal o ++ bytes " out of order; from behind "
    ++ decimal d ++ (bytes " differ" ++ (line_feed ∷ []))

-- n sheets, and what follows is no frame
abbrev pub broken_line : ℕ → List ℕ
broken_line n = decimal n ++ (bytes " sheets, then no frame" ++ (line_feed ∷ []))
