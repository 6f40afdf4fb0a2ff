-- Test 6 of one segment's points. Assumes nothing.
use Rattle.std.specs.Prelude.{ℕ, ◌*◌, ◌%◌, Bool, ◌&&◌, leb, ltb}
use Rattle.definition.specs.declared.LiveRangePoint.{LiveRangePoint}

-- a segment is not empty, has no slot 3 and does not go past the last of n instructions
unfoldable pub span_ok : LiveRangePoint → LiveRangePoint → ℕ → Bool
span_ok p q n = ltb p.0 q.0 && (ltb (p.0 % 4) 3 && (ltb (q.0 % 4) 3 && leb q.0 (4 * n)))
