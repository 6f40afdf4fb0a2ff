use mathlib.Core.Path.{◌≡◌}
use Prim.Native.Nat.{◌-◌}
use lib.ListN.{length}
use Rattle.words.specs.Words.{words_of, word_count}
use Rattle.build.proofs.All.{Setting}
use Rattle.build.proofs.sets.each_set.Given as goal

abbrev pub invariant-loop-a : goal.invariant-loop-a
invariant-loop-a l = Setting (word_count l.fr.job.bytes.now) (word_count l.initial.work) (word_count l.initial.out) (words_of l.fr.job.bytes.now) l.fr.job.lay l.fr.wl l.fr.ol (words_of l.work) (words_of l.out) l.a l.c × (length l.work ≡ length l.initial.work) × (length l.out ≡ length l.initial.out)

abbrev pub decreases-loop-a : goal.decreases-loop-a
decreases-loop-a l = l.n - l.a
