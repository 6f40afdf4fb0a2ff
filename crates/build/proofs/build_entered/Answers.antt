use mathlib.Core.Path.{refl, ap, ◌∙◌}
use Prim.Native.Nat.{ℕ}
use native.Mathlib.Omega.{arith}
use lib.ListN.{replicate}
use Rattle.build.proofs.Shaped.{answered_as, sets_ready, built_counts, answered_built, answered_ended}
use Rattle.build.proofs.build_entered.Goals as goal

pub build_sets-requires : goal.build_sets-requires
build_sets-requires c = let p = c.requires in
    sets_ready _ _ _ _ _ _ p.0 p.1 _ _ p.2 p.3

pub returns-in-Err : goal.returns-in-Err
returns-in-Err c = let p = c.requires in
    let r = c.build_sets in
    let z = c.clear.ensures.zeroed ∙ ap (λ (n : ℕ). replicate n 0) r.auto.out in
    answered_as c.refuse.ensures (answered_ended _ _ _ _ _ _ p.0 p.1 _ _ _ r.ensures _ c.in-Err.is _ c.end_number-number.ensures _ _ z)

pub built-requires : goal.built-requires
built-requires c = let p = c.requires in
    built_counts _ _ _ _ _ _ p.0 p.1 _ _ _ c.build_sets.ensures _ c.in-Ok.is _ p.3

pub returns-in-Ok : goal.returns-in-Ok
returns-in-Ok c = let p = c.requires in
    let r = c.build_sets in
    answered_as c.built.ensures
    (answered_built _ _ _ _ _ _ p.0 p.1 _ _ _ r.ensures _ c.in-Ok.is _ _ p.3
    r.auto.out refl (λ i. omega (arith, c.slice_known-3-1.given i)))
