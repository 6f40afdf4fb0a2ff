use Prim.Native.Nat.{ℕ, ◌<◌}
use lib.ListN.{get_or}
use borrow.Author.Rules.{rules}
use Rattle.sheet_verdict.specs.Laws.{went, read_sheet, refused_sheet}
use Rattle.sheet_verdict.proofs.read.read_sheet.Goals as goal

pub returns-in-Err : goal.returns-in-Err
returns-in-Err c =
    let b : (i : ℕ) → get_or c.args.sheet.now i 0 < 256 = λ i. search rules in
    let whole = went _ _ _ _ _ _ _ _ _ b c.open-first.ensures c.feed-cur.ensures (search rules) (search rules) c.requires.0 c.requires.1 in
    let v = c.clear.ensures in
    let z = c.clear-in-Err.ensures in
    refused_sheet _ _ _ _ _ whole _ _ _ _ c.finish.ensures c.in-Err.is (record { bytes = v.zeroed; words = v.zero_words })
    (record { bytes = z.zeroed; words = z.zero_words })

pub returns : goal.returns
returns c =
    let b : (i : ℕ) → get_or c.args.sheet.now i 0 < 256 = λ i. search rules in
    let whole = went _ _ _ _ _ _ _ _ _ b c.open-first.ensures c.feed-cur.ensures (search rules) (search rules) c.requires.0 c.requires.1 in
    read_sheet _ _ _ _ _ whole _ c.finish.ensures c.in_default.is
