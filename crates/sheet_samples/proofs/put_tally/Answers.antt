use Rattle.sheet_samples.proofs.Puts.{tally_text}
use Rattle.sheet_samples.proofs.put_tally.Goals as goal

pub returns : goal.returns
returns c = tally_text _ _ _ c.put_count-a.ensures c.put_bytes-b.ensures c.put_count-c.ensures c.put_bytes-d.ensures
    c.put_count-e.ensures c.put_bytes.ensures
