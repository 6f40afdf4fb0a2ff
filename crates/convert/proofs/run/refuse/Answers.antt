use Rattle.convert.proofs.Pages.{refused_line_lem}
use Rattle.convert.proofs.run.refuse.Goals as goal

pub returns : goal.returns
returns g c = let l = c.requires.1 in
    rw (← c.number.ensures) (refused_line_lem _ _ _ _ _ _ _ _ _ _ l c.put_refused-n.ensures c.write_all.ensures)
