use Rattle.std.proofs.Common.{rules, tests}
use Rattle.words.specs.Words.{words_of}
use native.Mathlib.Omega.{arith}
use Rattle.entry_uses.proofs.ListTests.{use_pos, end_raw, use_far, use_kind, use_from, use_by}
use Rattle.entry_uses.proofs.lists.use_ok.Goals as goal

pub returns-then-count-pos : goal.returns-then-count-pos
returns-then-count-pos c = use_far _ _ _ _ _ _ c.word_at-pos.ensures c.args.indexed.now.ready.index.insts c.if-count-pos.true

pub returns-then-not-kind_ok : goal.returns-then-not-kind_ok
returns-then-not-kind_ok c = use_kind _ _ _ _ _ _ c.word_at-pos.ensures c.args.indexed.now.ready.index.insts c.if-count-pos.false _ c.kind_ok.ensures c.if-not-kind_ok.true-raw

pub returns-then-pos-s : goal.returns-then-pos-s
returns-then-pos-s c = use_from _ _ _ _ _ _ c.word_at-pos.ensures c.args.indexed.now.ready.index.insts c.if-count-pos.false _ c.kind_ok.ensures c.if-not-kind_ok.false-raw c.if-pos-s.true

pub end_point-requires : goal.end_point-requires
end_point-requires c = omega (arith, use_pos _ _ _ c.use_at.ensures, c.word_at-pos.ensures, c.if-count-pos.false, c.args.indexed.now.ready.index.insts, c.args.indexed.now.ready.within.insts)

pub returns : goal.returns
returns c = let e = use_by (words_of c.args.indexed.now.job.bytes.now) c.args.indexed.now.job.lay c.args.s _ _ _ c.word_at-pos.ensures c.args.indexed.now.ready.index.insts c.if-count-pos.false _ c.kind_ok.ensures c.if-not-kind_ok.false-raw c.if-pos-s.false _ (end_raw _ _ _ _ c.use_at.ensures c.end_point.ensures) in
    rw (← e) (search (rules, tests))
