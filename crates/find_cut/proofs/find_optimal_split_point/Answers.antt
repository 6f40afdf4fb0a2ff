use mathlib.Core.Path.{sym}
use native.Mathlib.Omega.{arith}
use Rattle.words.specs.Words.{words_of}
use Rattle.find_cut.proofs.Tests.{was_passed}
use Rattle.find_cut.proofs.Answers.{was_admitted, rows_there, failed, cut_found}
use Rattle.find_cut.proofs.find_optimal_split_point.Goals as goal

pub returns-in-Err : goal.returns-in-Err
returns-in-Err c = let a = c.args in
    let both = failed a.blocks.now a.after a.before a.side (words_of a.work.now) _ _ (sym c.in-Err.ensures) c.number.ensures in
    record { value = both.0; work_after = both.1 }

pub overflow_cast-n : goal.overflow_cast-n
overflow_cast-n c = let a = c.args in
    let w = was_admitted a.blocks.now a.after a.before a.side _ (sym c.in-Ok.ensures) in
    omega (arith, (was_passed _ _ _ w.none_found).blocks_few)

pub cut_by-found-requires : goal.cut_by-found-requires
cut_by-found-requires c = let a = c.args in
    let w = was_admitted a.blocks.now a.after a.before a.side _ (sym c.in-Ok.ensures) in
    let p = was_passed _ _ _ w.none_found in
    (rows_there a.blocks.now a.side w.read, omega arith, omega (arith, p.blocks_few), p.order, p.within, p.insts_few, p.blocks_ok)

pub returns-in-Ok : goal.returns-in-Ok
returns-in-Ok c = let a = c.args in
    let both = cut_found a.blocks.now a.after a.before a.side (words_of a.work.now) _ _ _ (sym c.in-Ok.ensures) c.cut_by-found.ensures.0 c.cut_by-found.ensures.1 in
    record { value = both.0; work_after = both.1 }
