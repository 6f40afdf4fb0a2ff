use mathlib.Core.Path.{◌≡◌}
use Prim.Native.Nat.{◌-◌}
use lib.ListN.{length}
use Rattle.words.specs.Words.{words_of, word_count}
use Rattle.conflicts.proofs.Going.{Going}
use Rattle.conflicts.proofs.conflicts.Given as goal

abbrev pub invariant-loop-i : goal.invariant-loop-i
invariant-loop-i l = Going (word_count l.fr.job.bytes.now) (word_count l.initial.work) (word_count l.initial.out) (words_of l.fr.job.bytes.now) l.fr.job.lay l.fr.wl l.fr.ol l.set l.top l.n l.initial.k (words_of l.initial.work) (words_of l.initial.out) (words_of l.work) (words_of l.out) l.i l.k
    × (length l.work ≡ length l.initial.work)
    × (length l.out ≡ length l.initial.out)

abbrev pub decreases-loop-i : goal.decreases-loop-i
decreases-loop-i l = l.n - l.i
