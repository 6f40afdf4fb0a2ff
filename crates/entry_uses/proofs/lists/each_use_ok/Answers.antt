use Prim.Native.Nat.{◌+◌, ◌*◌}
use native.Mathlib.Omega.{arith}
use mathlib.Core.Path.{◌≡◌}
use Rattle.std.proofs.Common.{rules, tests}
use Rattle.words.specs.Words.{words_of}
use Rattle.definition.specs.Entry.{use_ok}
use Rattle.uses.specs.Rows.{raw_row}
use Rattle.job.specs.Job.{raw_job}
use Rattle.function.specs.Every.{every_row_from_all}
use Rattle.entry_uses.specs.ListTests.{seg_of}
use Rattle.entry_uses.proofs.lists.each_use_ok.Goals as goal

pub returns : goal.returns
returns c = let W = words_of c.args.indexed.now.job.bytes.now in
    let lay = c.args.indexed.now.job.lay in
    let first = c.args.s.first in
    every_row_from_all (use_ok (raw_job W lay) (seg_of c.args.s)) raw_row W (lay.uses.at + first * 6) 6 c.args.n c.all.ensures.ran
    (λ k b q t. let z : lay.uses.at + first * 6 + k * 6 ≡ lay.uses.at + (first + k) * 6 = omega arith in rw z (search (rules, tests)))
