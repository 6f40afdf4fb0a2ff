use Rattle.std.proofs.Common.{rules, tests, ◌+◌, get_or, ℕ}
use Rattle.words.specs.Words.{words_of}
use Rattle.sheet_output.specs.Rows.{row_in}
use Rattle.sheet_output.proofs.Made.{made}
use Rattle.sheet_output.proofs.row.Goals as goal

pub returns : goal.returns
unfolding row_in
returns g c = made _ (λ (k : ℕ). get_or (words_of c.args.tables.now) (c.args.at + k) 0) _ (λ x b q k. search (rules, tests)) _ _ c.from_fn.ensures.items
