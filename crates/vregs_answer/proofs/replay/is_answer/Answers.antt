use native.Mathlib.Omega.{arith}
use Rattle.vregs_answer.proofs.Comparing.{prints_fed, is_vregs}
use borrow.Author.Rules.{rules}
use Rattle.vregs_answer.proofs.replay.is_answer.Goals as goal

pub answer_table-end-requires : goal.answer_table-end-requires
answer_table-end-requires c = let p = c.args.space.now in
    let f = c.feed_sheet-cur in (
      f.ensures.streamed,
      omega (arith, p.job, f.auto),
      omega (arith, p.fields, f.auto),
      p.results,
      p.rest,
    )

pub same_sheet-requires : goal.same_sheet-requires
same_sheet-requires c = (
  prints_fed _ _ _ _ _ _ _ c.feed_sheet-cur.ensures.leads c.answer_table-end.ensures,
  search rules,
)

pub returns : goal.returns
returns c =
    is_vregs _ _ _ _ _ _ _ c.feed_sheet-cur.ensures.leads c.answer_table-end.ensures c.args.answer.now _
    c.same_sheet.ensures
