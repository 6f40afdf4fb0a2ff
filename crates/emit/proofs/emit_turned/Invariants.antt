use Rattle.std.specs.Prelude.{◌≡◌, ◌-◌, length}
use Rattle.words.specs.Words.{words_of}
use Rattle.words.specs.Tab.{tab}
use Rattle.emit.specs.InWalk.{turned_in, UsesAdd}
use Rattle.emit.proofs.emit_turned.Given as goal

abbrev pub invariant-loop-i : goal.invariant-loop-i
invariant-loop-i l =
    UsesAdd l.by l.u l.remat (tab (turned_in l.by) l.a (l.i - l.a)) (words_of l.initial.out) l.fn.costs (words_of l.out) l.s
    × (length l.out ≡ length l.initial.out)
