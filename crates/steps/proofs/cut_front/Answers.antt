use mathlib.Core.Path.{ap}
use Rattle.set_part.specs.declared.cuts.Parts.{Parts}
use Rattle.steps.proofs.Moved.{parts_are, front_range, front_held, front_passed}
use Rattle.steps.proofs.cut_front.Goals as goal

pub scan_uses-r-requires : goal.scan_uses-r-requires
scan_uses-r-requires c = let r = front_range _ c.args.fr.now.job.lay c.args.p c.args.sp _ c.requires.2 c.requires.3 c.requires.4 c.cut_part-parts.ensures in
    (c.requires.0, c.requires.1, r.0, r.1, r.2)

-- the front ends where what is held is known
pub returns-then-left-end : goal.returns-then-left-end
returns-then-left-end c = let e = c.cut_part-parts.ensures in
    let q = parts_are _ c.args.fr.now.job.lay c.args.p c.args.sp _ c.requires.2 c.requires.3 c.requires.4 e in record {
      parts = (ap (λ (x : Parts). x.left) q, ap (λ (x : Parts). x.right) q);
      top_held = λ st h a f m.
          front_passed _ c.args.fr.now.job.lay c.args.p c.args.sp _ c.requires.2 c.requires.3 c.requires.4 e _
          c.args.fr.now.wl.marks st c.args.top _ _ c.if-left-end.true a;
    }

pub returns : goal.returns
returns c = let e = c.cut_part-parts.ensures in
    let q = parts_are _ c.args.fr.now.job.lay c.args.p c.args.sp _ c.requires.2 c.requires.3 c.requires.4 e in record {
      parts = (ap (λ (x : Parts). x.left) q, ap (λ (x : Parts). x.right) q);
      top_held = λ st h a f m.
          front_held _ c.args.fr.now.job.lay c.args.p c.args.sp _ c.requires.2 c.requires.3 c.requires.4 e _
          c.args.fr.now.wl.marks st c.args.top _ _ c.fresh_held-first.ensures
          (c.scan_uses-r.ensures.ends st h).0 f m;
    }
