use mathlib.Core.Path.{refl}
use native.Mathlib.Omega.{arith}
use Rattle.sheet_verdict.specs.Fed.{streamed_in}
use Rattle.streams.specs.Paper.{ran_unread, ran_written}
use Rattle.vregs_answer.proofs.Starts.{prints_read, shown_all}
use Rattle.vregs_answer.proofs.run.answer.Goals as goal

pub returns-in_default : goal.returns-in_default
returns-in_default g c = ran_unread _ _ _ _ _ _ _ _ (λ y. (c.in_default.ensures.on_tape y).stopped refl)

pub print-requires : goal.print-requires
print-requires g c = let p = c.requires in
    let sp = c.args.space.now in (
      prints_read _ _ _ _ _ _ (streamed_in _ _ _ sp.job sp.fields c.in-Ok.ensures.streamed)
          c.answer_table-end.ensures,
      omega (arith, sp.page, c.feed_all.auto),
      p.1,
    )

pub returns : goal.returns
returns g c = let sp = c.args.space.now in
    ran_written _ _ _ _ _ _ _ _ _ _ _ _ c.or.ensures
    (λ y. (c.in-Ok.ensures.on_tape y).passed refl)
    (shown_all _ _ _ _ _ _ _ _ _ sp.job sp.fields c.in-Ok.ensures _ _ _ _ _ _ _ _ _ c.answer_table-end.ensures
    c.print.ensures)
