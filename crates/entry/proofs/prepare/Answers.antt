use native.Mathlib.Omega.{arith}
use Rattle.words.specs.Laws.{length_words}
use Rattle.entry.proofs.Preparing.{prepared_is}
use Rattle.entry.proofs.prepare.Goals as goal

pub returns : goal.returns
returns c =
    let both = prepared_is c.requires.0 (omega (arith, c.requires.1, length_words c.args.work.now)) c.clear_words.ensures c.put_starts.ensures c.clear_words-2.ensures
    (λ i. omega (arith, c.shared_slice_known-1.given i)) in
    record { work_after = both.0; accepted = both.1 }
