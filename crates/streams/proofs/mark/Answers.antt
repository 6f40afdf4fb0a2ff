use borrow.Author.Rules.{rules}
use Rattle.std.proofs.lemmas.Slice.{overwrites}
use Rattle.streams.proofs.Steps.{write_again, write_some}
use Rattle.streams.proofs.mark.Goals as goal

pub returns-then-most-eq1 : goal.returns-then-most-eq1
returns-then-most-eq1 c = write_again _ _ _ _ c.requires (search rules)

pub returns : goal.returns
returns c =
    write_some _ _ _ _ _ _ (search rules) (search rules) (search (rules, overwrites)) (search rules)
