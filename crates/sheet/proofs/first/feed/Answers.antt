use mathlib.Core.Path.{◌≡◌, ◌∙◌}
use mathlib.Core.List.{List}
use Prim.Native.Nat.{ℕ, ◌+◌, ◌<◌}
use native.Mathlib.Numerals.{add-one}
use lib.ListN.{length, get_or, drop}
use lib.Seq.{drop-cons}
use Rattle.sheet.specs.Fields.{Fed}
use Rattle.sheet.specs.Machine.{push_of, run_of}
use Rattle.sheet.proofs.first.feed.Goals as goal

-- one turn of the loop
run_more : (f g : Fed) (bs : List ℕ) (i : ℕ) → i < length bs → g ≡ push_of f (get_or bs i 0) → run_of f (drop i bs) ≡ run_of g (drop (i + 1) bs)
unfolding run_of
run_more f g bs i h e = rw (add-one, e, drop-cons bs i 0)

pub loop-b-preserved : goal.loop-b-preserved
loop-b-preserved c = c.loop-b.invariant ∙ run_more _ _ _ _ c.loop-b-test.true c.push-at.ensures
