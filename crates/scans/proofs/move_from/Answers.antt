use native.Mathlib.Omega.{arith}
use mathlib.Core.Path.{refl}
use Rattle.scans.proofs.Scanning.{resume, ended_through, ended_before}
use Rattle.scans.proofs.Steps.{back_fresh, move_whole, move_halt, move_part}
use Rattle.scans.proofs.move_from.Goals as goal

pub returns-in_default : goal.returns-in_default
returns-in_default c = record {
  within = (omega (arith, c.requires.3), omega arith);
  moves = λ st hs p.
      let all = resume _ st _ _ _ _ _ _ _ c.requires.2 c.requires.3 p c.scan_uses-r.ensures.within (c.scan_uses-r.ensures.ends st hs) in
      (move_whole _ st _ _ _ refl _ _ all c.in_default.is, ended_through _ st _ _ _ _ _ all c.in_default.is);
}

pub scan_back-back-requires : goal.scan_back-back-requires
scan_back-back-requires c = let r = rw c.in-Some.is at c.scan_uses-r.ensures.within in
    (c.requires.0, c.requires.1, omega (arith, r.0, c.requires.2), omega (arith, r.1, c.requires.4), c.requires.5)

pub returns-in_default-failed : goal.returns-in_default-failed
returns-in_default-failed c = let r = rw c.in-Some.is at c.scan_uses-r.ensures.within in
    record {
      within = (r.0, omega (arith, r.1));
      moves = λ st hs p.
          let all = resume _ st _ _ _ _ _ _ _ c.requires.2 c.requires.3 p c.scan_uses-r.ensures.within (c.scan_uses-r.ensures.ends st hs) in
          let back = back_fresh _ st _ _ _ _ _ _ _ _ c.fresh_held-first.ensures (omega (arith, r.0, c.requires.2)) r.1 (c.scan_back-back.ensures.ends st hs) in (
            move_halt _ st _ _ _ refl _ _ all _ c.in-Some.is _ back c.in_default-failed.is,
            ended_before _ st _ _ _ _ _ all _ c.in-Some.is (omega (arith, r.0, c.requires.2)) (omega (arith, r.1)),
          );
    }

pub part_at-requires : goal.part_at-requires
part_at-requires c = let r = rw c.in-Some.is at c.scan_uses-r.ensures.within in
    let b = rw c.in-Some-failed.is at c.scan_back-back.ensures.within in
    (c.requires.0, omega (arith, b.1, r.1, c.requires.4), omega (arith, r.1, c.requires.4), c.requires.5)

pub returns : goal.returns
returns c = let r = rw c.in-Some.is at c.scan_uses-r.ensures.within in
    let b = rw c.in-Some-failed.is at c.scan_back-back.ensures.within in
    record {
      within = (r.0, omega (arith, r.1));
      moves = λ st hs p.
          let all = resume _ st _ _ _ _ _ _ _ c.requires.2 c.requires.3 p c.scan_uses-r.ensures.within (c.scan_uses-r.ensures.ends st hs) in
          let back = back_fresh _ st _ _ _ _ _ _ _ _ c.fresh_held-first.ensures (omega (arith, r.0, c.requires.2)) r.1 (c.scan_back-back.ensures.ends st hs) in (
            move_part _ st _ _ _ refl _ _ all _ c.in-Some.is _ back _ _ c.in-Some-failed.is b.0 b.1
                (rw c.cut_side-side.ensures at (c.part_at.ensures _ _ c.scan_uses-r.result.held b.0 (omega (arith, b.1, r.1)) (omega (arith, r.0, c.requires.2)) r.1)),
            ended_before _ st _ _ _ _ _ all _ c.in-Some.is (omega (arith, r.0, c.requires.2)) (omega (arith, r.1)),
          );
    }
