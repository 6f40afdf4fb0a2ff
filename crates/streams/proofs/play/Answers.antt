use native.Mathlib.Omega.{arith}
use borrow.Author.Rules.{rules}
use Rattle.std.proofs.lemmas.Slice.{overwrites}
use Rattle.streams.proofs.Steps.{read_again, read_some}
use Rattle.streams.proofs.play.Goals as goal

pub returns-then-most-eq1 : goal.returns-then-most-eq1
returns-then-most-eq1 c = read_again _ _ _ _ c.requires (search rules)

pub returns : goal.returns
returns c =
    read_some _ _ _ _ c.args.buf.now _ (search rules) (search rules) (search (rules, overwrites)) (λ q m. omega arith)
    (search rules)
