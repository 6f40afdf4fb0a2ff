use native.Mathlib.Omega.{arith}
use mathlib.Core.Path.{refl}
use borrow.Author.Rules.{rules}
use Rattle.sheet_verdict.specs.Fed.{streamed_in}
use Rattle.streams.specs.Paper.{ran_unread, ran_written}
use Rattle.convert.proofs.Starts.{shows_read, put_all}
use Rattle.convert.proofs.run.convert.Goals as goal

pub returns-in_default : goal.returns-in_default
returns-in_default g c = ran_unread _ _ _ _ _ _ _ _ (λ y. (c.in_default.ensures.on_tape y).stopped refl)

pub verdict_on-verdict-requires : goal.verdict_on-verdict-requires
verdict_on-verdict-requires g c = let p = c.requires in (
  streamed_in _ _ _ p.3 p.4 c.in-Ok.ensures.streamed,
  omega (arith, p.3, c.feed_all.auto),
  omega (arith, p.4, c.feed_all.auto),
  search rules,
)

pub put-requires : goal.put-requires
put-requires g c = let p = c.requires in (
  shows_read _ _ _ _ _ (streamed_in _ _ _ p.3 p.4 c.in-Ok.ensures.streamed)
      (omega (arith, p.3, c.feed_all.auto)) c.verdict_on-verdict.ensures,
  omega (arith, p.2, c.feed_all.auto),
  p.1,
)

pub returns : goal.returns
returns g c = let p = c.requires in
    ran_written _ _ _ _ _ _ _ _ _ _ _ _ c.or.ensures
    (λ y. (c.in-Ok.ensures.on_tape y).passed refl)
    (put_all _ _ _ _ _ _ _ _ _ p.3 p.4 c.in-Ok.ensures _ _ _ _ _ _ _ _ c.verdict_on-verdict.ensures
    c.put.ensures)
