use mathlib.Core.Path.{◌≡◌}
use lib.ListN.{length}
use Rattle.words.specs.Words.{words_of}
use Rattle.set_part.specs.Part.{marked_use}
use Rattle.pieces.proofs.MapsGoing.{Run}
use Rattle.pieces.proofs.maps.map_part.Given as goal

abbrev pub invariant-loop-i : goal.invariant-loop-i
invariant-loop-i l = Run (words_of l.fr.job.bytes.now) (words_of l.initial.work) l.fr.job.lay l.fr.wl l.g.group (marked_use (words_of l.initial.work) l.fr.wl.marks (words_of l.fr.job.bytes.now) l.fr.job.lay) l.fn.sp.first l.i-end l.i (words_of l.work) × (length l.work ≡ length l.initial.work)
