use Rattle.scans.proofs.Asking.{asks_low, asks_high, asks_turned, asks_class, asks_group}
use Rattle.scans.proofs.walk.asked_at.Goals as goal

pub returns-then-kind-lt4 : goal.returns-then-kind-lt4
returns-then-kind-lt4 c = asks_low _ _ _ c.args.fr.now.job.lay _ _ c.word_at-kind.ensures c.if-kind-lt4.true

pub returns-then-kind-gt7 : goal.returns-then-kind-gt7
returns-then-kind-gt7 c = asks_high _ _ _ c.args.fr.now.job.lay _ _ c.word_at-kind.ensures c.if-kind-gt7.true

pub returns-then-mark-ne0 : goal.returns-then-mark-ne0
returns-then-mark-ne0 c = asks_turned _ _ _ c.args.fr.now.job.lay _ _ c.word_at-kind.ensures _ c.word_at-mark.ensures c.if-mark-ne0.true

pub returns-then-kind-lt6 : goal.returns-then-kind-lt6
returns-then-kind-lt6 c =
    asks_class _ _ _ c.args.fr.now.job.lay _ _ c.word_at-kind.ensures _ c.word_at-mark.ensures _ c.if-mark-ne0.false c.if-kind-lt4.false c.if-kind-lt6.true c.word_at.ensures

pub returns : goal.returns
returns c =
    asks_group _ _ _ c.args.fr.now.job.lay _ _ c.word_at-kind.ensures _ c.word_at-mark.ensures c.if-mark-ne0.false c.if-kind-lt6.false c.if-kind-gt7.false
