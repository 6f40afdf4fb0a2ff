use mathlib.Core.Path.{sym, ap}
use Prim.Native.Nat.{ℕ, ◌/◌}
use Rattle.placing.specs.EndEnds.{err_kept}
use Rattle.build.proofs.One.{set_laid, set_stop, set_turns, set_done}
use Rattle.build.proofs.sets.build_set.Goals as goal

pub build_part-requires : goal.build_part-requires
build_part-requires c = let p = c.requires in (set_laid _ _ _ _ _ _ _ _ _ _ _ _ p _ c.whole_part-sp.ensures, p.builds, (p.st, p.stands))

pub returns-in_err-r : goal.returns-in_err-r
returns-in_err-r c = let p = c.requires in
    let o = c.build_part.ensures in
    let both =
    set_stop _ _ _ _ _ _ _ _ _ _ _ _ p _ c.whole_part-sp.ensures _ _ c.set_at-set.ensures c.top_at-top.ensures _ _ _ o.changed.0 o.built_fit
    _ c.in_err-r.was _ (err_kept _ _ c.from_residual.ensures.1) in
    record { onward = both.0; ends_as = both.1 }

pub conflicts-requires : goal.conflicts-requires
conflicts-requires c = let p = c.requires in
    let r = c.build_part in
    let o = r.ensures in
    set_turns _ _ _ _ _ _ _ _ _ _ _ _ p _ c.whole_part-sp.ensures _ _ c.set_at-set.ensures c.top_at-top.ensures _ _ _ o.changed.0 o.built_fit _ _
    (ap (λ (n : ℕ). n / 4) (sym r.auto.work)) (ap (λ (n : ℕ). n / 4) (sym r.auto.out))
    _ c.in_ok-r.was c.in_ok-r.ensures.changed.1

pub returns : goal.returns
returns c = let p = c.requires in
    let o = c.build_part.ensures in
    let e = c.conflicts.ensures in
    let both =
    set_done _ _ _ _ _ _ _ _ _ _ _ _ p _ c.whole_part-sp.ensures _ _ c.set_at-set.ensures c.top_at-top.ensures _ _ _ o.changed.0 o.built_fit
    _ c.in_ok-r.was _ _ _ e.between e.ends_as in
    record { onward = both.0; ends_as = both.1 }
