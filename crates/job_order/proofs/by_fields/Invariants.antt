use Rattle.std.specs.Prelude.{◌≡◌}
use Rattle.words.specs.Words.{words_of}
use Rattle.job_order.specs.Rows.{words_from}
use Rattle.job_order.proofs.Fields.{by_words, from_place}
use Rattle.job_order.proofs.by_fields.Given as goal

abbrev pub invariant-loop-i : goal.invariant-loop-i
invariant-loop-i l =
    by_words (words_from (words_of l.x) l.a l.n) (words_from (words_of l.y) l.a l.m)
    ≡ from_place (words_of l.x) (words_of l.y) l.a l.n l.m l.i
