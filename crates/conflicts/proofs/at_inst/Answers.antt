use mathlib.Core.Path.{refl}
use native.Mathlib.Omega.{arith}
use Prim.Native.Nat.{◌-◌}
use Rattle.conflicts.proofs.Kept.{rounded_none}
use Rattle.conflicts.proofs.Reading.{first_inst, inst_differ, inst_alike, ends_by, ends_differ}
use Rattle.conflicts.proofs.at_inst.Goals as goal

pub returns-then-not-one_value : goal.returns-then-not-one_value
returns-then-not-one_value c = record { rounded = rounded_none _ _ _ _; ends_as = λ st q. ends_by _ _ _ _ _ _ _ _ _ _ (inst_differ _ _ _ _ st _ _ _ _ _ _ c.requires.1 _ (c.one_value.ensures _ _) c.if-not-one_value.true-raw) (ends_differ _ _ _ _ _ _ _ _ refl) }

pub first_at-x-requires : goal.first_at-x-requires
first_at-x-requires c = let g = c.requires.0 in
    (omega (arith, g.rows.within, c.requires.1), g.rows.known c.args.a (omega arith) c.requires.1)

pub place_rounds-requires : goal.place_rounds-requires
place_rounds-requires c = let g = c.requires.0 in
    (g, first_inst _ _ _ _ _ _ _ _ g.ready g.segments (g.rows.known c.args.a (omega arith) c.requires.1) c.first_at-x.ensures)

pub returns : goal.returns
returns c = let r = c.place_rounds in record {
  rounded = r.ensures.rounded;
  ends_as = λ st q. ends_by _ _ _ _ _ _ _ _ _ _ (inst_alike _ _ _ _ st _ _ _ _ _ _ c.requires.1 _ (c.one_value.ensures _ _) c.if-not-one_value.false-raw)
      (r.ensures.ends_as st _ (c.args.b - c.args.a) q c.first_at-x.ensures (omega arith));
}
