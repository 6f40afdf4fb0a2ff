-- The lines that the program writes. Assumes nothing.
use Rattle.std.specs.Prelude.{List, [], ◌∷◌, ◌++◌, ℕ}
use Rattle.definition.specs.Text.{bytes, decimal, line_feed}

-- a sheet that differs
abbrev pub differs_line : ℕ → List ℕ
differs_line n = bytes "differs: " ++ decimal n ++ (line_feed ∷ [])

-- n sheets, of which h were moved and came home, r are refused and d differ
abbrev pub tally_line : ℕ → ℕ → ℕ → ℕ → List ℕ
tally_line h r d n =
    decimal n ++ bytes " sheets: " ++ decimal h ++ bytes " moved and home, " ++ decimal r ++ bytes " refused, "
    ++ decimal d ++ (bytes " differ" ++ (line_feed ∷ []))

-- n sheets, and what follows is no frame
abbrev pub broken_line : ℕ → List ℕ
broken_line n = decimal n ++ (bytes " sheets, then no frame" ++ (line_feed ∷ []))
