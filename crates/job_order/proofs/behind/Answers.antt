use Rattle.std.specs.Prelude.{ℕ}
use Rattle.std.proofs.Common.{ap, ◌∙◌, arith}
use Rattle.words.specs.Words.{words_of}
use Rattle.job_pages.specs.Cursors.{cursor_of, behind_row}
use Rattle.job_order.proofs.Asked.{ready_own}
use Rattle.job_order.proofs.behind.Goals as goal

pub behind-requires : goal.behind-requires
behind-requires c = let p = c.requires in
    let r = ready_own p.0 c.args.key p.1 p.2 c.first_word-w.ensures in (
      r.key,
      omega (arith, r.rows),
      omega (arith, r.segs),
      omega (arith, r.uses),
      λ q. (omega (arith, (r.block q).0, p.0.long), omega (arith, (r.block q).1)),
    )

pub returns : goal.returns
returns c =
    c.behind.ensures
    ∙ ap (λ (w : ℕ). behind_row (words_of c.args.x.now) (cursor_of c.args.cur) w) c.first_word-w.ensures
