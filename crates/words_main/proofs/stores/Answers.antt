use mathlib.Core.Path.{sym, ap, ◌∙◌}
use mathlib.Core.List.{List}
use Prim.Native.Nat.{ℕ}
use native.Mathlib.Omega.{arith}
use lib.ListN.{set}
use Rattle.words.specs.Words.{bytes_of}
use Rattle.words.specs.Laws.{bytes_words}
use Rattle.words_main.proofs.stores.Goals as goal

pub returns : goal.returns
unfolding bytes_of
returns c = c.same.ensures.1
    (sym (bytes_words c.put_word.new.s (λ i l. omega (arith, c.slice_known-2-1.given i)) (omega (arith, c.put_word.auto.s, c.requires.0)))
    ∙ ap bytes_of (c.put_word.ensures ∙ ap (λ (w : List ℕ). set w 1 0x89abcdef) c.requires.1))
