use mathlib.Core.Path.{◌≡◌}
use lib.ListN.{length}
use Rattle.words.specs.Words.{word_count, words_of}
use Rattle.split_placement.specs.Places.{bits_in}
use Rattle.cut_moves.proofs.Rows.{Putting}
use Rattle.cut_moves.proofs.put_moves.Given as goal

abbrev pub invariant-loop-i : goal.invariant-loop-i
invariant-loop-i l = (length l.list ≡ length l.initial.list)
    × Putting l.side (bits_in l.t) l.c.0 l.e l.initial.i l.i-end (word_count l.initial.list) l.k l.i (words_of l.list)
