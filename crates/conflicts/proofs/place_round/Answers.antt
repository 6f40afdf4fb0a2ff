use mathlib.Core.Path.{refl, ◌∙◌}
use Rattle.conflicts.proofs.RoundKept.{rows_now}
use Rattle.placing.specs.EndEnds.{err_kept}
use Rattle.conflicts.proofs.Kept.{rounded_tried}
use Rattle.conflicts.proofs.RoundLemmas.{tried_to, tried_requires, tried_none, tried_further, tried_rounded, tried_left, tried_on, tried_off}
use Rattle.conflicts.proofs.place_round.Goals as goal

pub returns-then-next-a : goal.returns-then-next-a
returns-then-next-a c = let r = c.try_rows-r in
    let d = tried_to _ _ _ _ _ _ _ _ c.args.work.now r.new.work _ r.auto.work r.ensures.parted r.ensures.tried in record {
      rounded = rounded_tried _ _ _ _ _ _ c.requires.0.apart r.ensures.parted.2;
      onto_next = tt;
      round_as = λ st t f q i. tried_none _ _ _ _ _ _ _ _ _ _ _ _ c.requires.0 _ _ _ d _ c.requires.1 t f st q c.if-next-a.true _ refl;
    }

pub place_conflict-requires : goal.place_conflict-requires
place_conflict-requires c = let r = c.try_rows-r in
    let d = tried_to _ _ _ _ _ _ _ _ c.args.work.now r.new.work _ r.auto.work r.ensures.parted r.ensures.tried in
    tried_requires _ c.args.work.now r.new.work _ _ _ _ _ _ _ _ _ c.args.x r.auto.work c.requires.0 d c.requires.2

pub returns-in_err-counts : goal.returns-in_err-counts
returns-in_err-counts c = let r = c.try_rows-r in
    let p = c.place_conflict in
    let z = c.if-next-a.false in
    let e = err_kept _ _ c.from_residual.ensures.1 in
    let d = tried_to _ _ _ _ _ _ _ _ c.args.work.now r.new.work _ r.auto.work r.ensures.parted r.ensures.tried in record {
      rounded = tried_rounded _ _ _ _ _ _ _ _ _ _ _ _ c.requires.0 _ _ _ d _ c.requires.1 z c.args.x _ _ _ p.ensures;
      onto_next = rw e tt;
      round_as = λ st t f q i. tried_off _ _ _ _ _ _ _ _ _ _ _ _ c.requires.0 _ _ _ d _ c.requires.1 z c.args.x _ _ _ p.ensures t f st q i _ c.in_err-counts.was _ e;
    }

pub returns : goal.returns
returns c = let r = c.try_rows-r in
    let p = c.place_conflict in
    let z = c.if-next-a.false in
    let d = tried_to _ _ _ _ _ _ _ _ c.args.work.now r.new.work _ r.auto.work r.ensures.parted r.ensures.tried in
    let ok = tried_left _ _ _ _ _ _ _ _ _ _ _ _ c.requires.0 _ _ _ d _ c.requires.1 z c.args.x _ _ _ p.ensures in record {
      rounded = tried_rounded _ _ _ _ _ _ _ _ _ _ _ _ c.requires.0 _ _ _ d _ c.requires.1 z c.args.x _ _ _ p.ensures;
      onto_next = (
        tried_further _ _ _ _ _ _ _ _ _ _ _ _ c.requires.0 _ _ _ d _ c.requires.1 z c.args.x _ _ _ p.ensures,
        r.ensures.parted.1,
        rows_now c.args.work.now p.new.work _ _ _ _ _ (p.auto.work ∙ r.auto.work) ok,
      );
      round_as = λ st t f q i. tried_on _ _ _ _ _ _ _ _ _ _ _ _ c.requires.0 _ _ _ d _ c.requires.1 z c.args.x _ _ _ p.ensures t f st q i _ c.in_ok-counts.was;
    }
