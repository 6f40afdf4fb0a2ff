-- hints.rs: whether a value has a hint between two keys. Assumes nothing.
use Rattle.std.specs.Prelude.{ℕ, ◌+◌, ◌*◌, Bool, false, ◌&&◌, ◌||◌, cond, List, [], ◌∷◌, leb, eqb}
use Rattle.definition.specs.Types.{Value, Hint}

-- "Only keys matter: value, instruction, incoming after outgoing."
abbrev pub as_key : Hint → ℕ
as_key h = 2 * h.inst.0 + cond h.incoming 1 0

-- value v has a hint from incoming at instruction a to outgoing at instruction b
unfoldable pub hinted : List Hint → Value → ℕ → ℕ → Bool
hinted [] v a b = false
hinted (h ∷ hs) v a b = (eqb h.value.0 v.0 && leb (2 * a + 1) (as_key h) && leb (as_key h) (2 * b)) || hinted hs v a b
