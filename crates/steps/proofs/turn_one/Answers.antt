use Rattle.steps.proofs.Read.{number_fits, put_once}
use Rattle.steps.proofs.turn_one.Goals as goal

pub put_turned-requires : goal.put_turned-requires
put_turned-requires c = number_fits _ c.args.fr.now.wl _ c.args.fr.now.job.lay c.args.sp c.args.i _ c.turned_at-row.ensures _ c.args.n c.requires.1 c.requires.0 c.requires.2 c.requires.3

pub returns : goal.returns
returns c = put_once _ c.args.fr.now.wl _ c.args.fr.now.job.lay c.args.sp c.args.i _ c.turned_at-row.ensures _ _ c.args.n
    c.put_turned.ensures c.mark.ensures
