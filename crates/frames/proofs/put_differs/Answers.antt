use Rattle.frames.proofs.Texts.{differs_none, differs_text}
use Rattle.frames.proofs.put_differs.Goals as goal

pub returns-then-same : goal.returns-then-same
returns-then-same c = differs_none _ _ _ c.if-same.true

pub returns : goal.returns
returns c = differs_text _ _ c.if-same.false c.put_bytes-a.ensures c.put_count-b.ensures c.put_bytes.ensures
