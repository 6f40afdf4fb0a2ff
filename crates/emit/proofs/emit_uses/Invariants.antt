use Rattle.std.specs.Prelude.{◌≡◌, ◌+◌, ◌-◌, ◌*◌, length}
use Rattle.words.specs.Words.{words_of}
use Rattle.words.specs.Tab.{tab}
use Rattle.virt_regs.specs.Encoding.{use_base}
use Rattle.emit.specs.InWalk.{tables_in, use_in, UsesAdd}
use Rattle.emit.proofs.emit_uses.Given as goal

abbrev pub invariant-loop-i : goal.invariant-loop-i
invariant-loop-i l =
    UsesAdd l.by l.u l.remat (tab (use_in l.by) l.a (l.i - l.a)) (words_of l.initial.out) l.fn.costs (words_of l.out) l.s
    × (length l.out ≡ length l.initial.out) × (l.row ≡ l.by.fr.now.job.lay.uses.at + l.i * 6)
    × (l.to ≡ use_base (tables_in l.by) + (l.u + (l.i - l.a)) * 6)
