use Rattle.std.specs.Prelude.{ℕ, List, ◌+◌, ◌≤◌, length}
use Rattle.std.proofs.Common.{sym, ◌∙◌, arith}
use Rattle.words.specs.Words.{word_count, words_of}
use Rattle.words.specs.Laws.{length_words}
use Rattle.job_order.proofs.Fields.{no_place, last_place, place_decides, place_same}
use Rattle.job_order.proofs.by_fields.Goals as goal

-- words that are in the bytes are among the words
within : (x : List ℕ) (a n : ℕ) → a + n ≤ word_count x → a + n ≤ length (words_of x)
within x a n h = omega (arith, h, length_words x)

pub loop-i-init : goal.loop-i-init
loop-i-init c = no_place (words_of c.args.x.now) (words_of c.args.y.now) c.args.a c.args.n c.args.m

pub returns-in_default : goal.returns-in_default
returns-in_default c = let p = c.requires in
    place_decides (words_of c.args.x.now) (words_of c.args.y.now) c.args.a c.args.n c.args.m c.loop-i.i
    c.word_at-p.result c.word_at-q.result (within c.args.x.now c.args.a c.args.n p.0)
    (within c.args.y.now c.args.a c.args.m p.1) (omega (arith, c.loop-i-test.true, c.min-i-end.ensures))
    c.word_at-p.ensures c.word_at-q.ensures c.loop-i.invariant c.by_number.result c.by_number.ensures
    c.in_default.not-Same

pub loop-i-preserved : goal.loop-i-preserved
loop-i-preserved c = let p = c.requires in
    place_same (words_of c.args.x.now) (words_of c.args.y.now) c.args.a c.args.n c.args.m c.loop-i.i
    c.word_at-p.result c.word_at-q.result (within c.args.x.now c.args.a c.args.n p.0)
    (within c.args.y.now c.args.a c.args.m p.1) (omega (arith, c.loop-i-test.true, c.min-i-end.ensures))
    c.word_at-p.ensures c.word_at-q.ensures c.loop-i.invariant c.by_number.result c.by_number.ensures c.in-Same.is

pub returns : goal.returns
returns c = let p = c.requires in
    c.by_number-2.ensures
    ∙ sym (last_place (words_of c.args.x.now) (words_of c.args.y.now) c.args.a c.args.n c.args.m c.loop-i.i
    (within c.args.x.now c.args.a c.args.n p.0) (within c.args.y.now c.args.a c.args.m p.1)
    (omega (arith, c.loop-i-test.false, c.min-i-end.ensures, c.loop-i.auto)))
    ∙ sym c.loop-i.invariant
