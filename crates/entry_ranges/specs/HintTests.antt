-- Test 5 of one hint. Assumes nothing.
use Rattle.std.specs.Prelude.{Bool, ◌&&◌, leb, ltb, length}
use Rattle.definition.specs.declared.Hint.{Hint}
use Rattle.definition.specs.Types.{Job}
use Rattle.definition.specs.Entry.{insts}

-- "hint's value unknown, instruction above the count"
unfoldable pub hint_known : Job → Hint → Bool
hint_known job h = ltb h.value.0 (length job.values) && leb h.inst.0 (insts job)
