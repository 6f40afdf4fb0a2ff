use Rattle.frames.proofs.Texts.{summary_cut, summary_equal, summary_differ}
use Rattle.frames.proofs.put_summary.Goals as goal

pub returns-then-not-whole : goal.returns-then-not-whole
returns-then-not-whole c = summary_cut _ _ _ c.put_count-a.ensures c.if-not-whole.true c.put_bytes.ensures

pub returns-then-differ-eq0 : goal.returns-then-differ-eq0
returns-then-differ-eq0 c = summary_equal _ _ _ c.put_count-a.ensures c.if-not-whole.false c.if-differ-eq0.true c.put_bytes-then-differ-eq0.ensures

pub returns : goal.returns
returns c = summary_differ _ _ _ c.put_count-a.ensures c.if-not-whole.false c.if-differ-eq0.false c.put_bytes-b.ensures c.put_count-c.ensures c.put_bytes-2.ensures
