use Rattle.sheet_output.specs.Laws.{fill_asked, fill_turned, refused_turned}
use borrow.Author.Rules.{rules}
use Rattle.sheet_output.proofs.answer.page.Goals as goal

pub fill-requires : goal.fill-requires
fill-requires c = fill_asked _ _ _ _ c.requires.0 c.if-end-eq0.true

pub returns-then-end-eq0 : goal.returns-then-end-eq0
returns-then-end-eq0 c = fill_turned _ _ _ _ _ _ c.if-end-eq0.true (search rules) c.fill.ensures

pub returns : goal.returns
returns c = refused_turned _ _ _ _ _ _ c.if-end-eq0.false c.refused_page.ensures
