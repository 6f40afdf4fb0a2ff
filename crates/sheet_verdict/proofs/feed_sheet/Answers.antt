use Prim.Native.Nat.{ℕ, ◌<◌}
use mathlib.Core.Path.{ap, ◌∙◌}
use native.Mathlib.Omega.{arith}
use lib.ListN.{get_or}
use Rattle.sheet.specs.Front.{Formed, run_form}
use Rattle.sheet_laws.specs.Agree.{all_bytes}
use Rattle.sheet_verdict.specs.Fed.{both_open}
use Rattle.sheet_verdict.proofs.feed_sheet.Goals as goal

pub returns : goal.returns
returns c = let p = c.requires in
    let b : (i : ℕ) → get_or c.args.sheet.now i 0 < 256 = λ i. omega (arith, c.type_inv.sheet i) in
    let e = c.feed.ensures
    ∙ ap (λ (k : Formed). run_form k c.args.sheet.now) (c.open-first.ensures ∙ both_open _ _ p.0 p.1) in
    record {
      leads = record { bytes = all_bytes _ b; is = e };
      streamed = record { bytes = c.args.sheet.now; small = b; is = e };
    }
