use mathlib.Core.Path.{◌≡◌}
use lib.ListN.{length}
use Rattle.words.specs.Words.{words_of}
use Rattle.pieces.proofs.MapsGoing.{Run}
use Rattle.pieces.specs.Conflict.{row_use}
use Rattle.pieces.proofs.conflict.map_conflict.Given as goal

abbrev pub invariant-loop-i : goal.invariant-loop-i
invariant-loop-i l = Run (words_of l.fr.job.bytes.now) (words_of l.initial.work) l.fr.job.lay l.fr.wl l.g.group (row_use (words_of l.initial.work) l.fr.wl.turned (words_of l.fr.job.bytes.now) l.fr.job.lay) l.a l.b l.i (words_of l.work) × (length l.work ≡ length l.initial.work)
