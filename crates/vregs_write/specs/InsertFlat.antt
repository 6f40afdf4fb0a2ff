-- What opening gaps stores in the rows that stay. Assumes nothing.
use Rattle.std.specs.Prelude.{Bool, true, false, List, ℕ, ◌+◌, ◌-◌, ◌*◌, ◌^◌, ◌≤◌, ◌<◌, get_or, set}
use Rattle.virt_regs.specs.declared.OutLayout.{OutLayout}
use Rattle.virt_regs.specs.declared.Counts.{Counts}
use Rattle.virt_regs.specs.Encoding.{seg_base}
use Rattle.vregs_write.specs.Raised.{raised}

-- a hint, or what the word says
abbrev pub or_word : Bool → ℕ → ℕ
or_word true w = 1
or_word false w = w

-- register v has n pieces more, and a hint if one of them has
unfoldable pub grown : ℕ → ℕ → Bool → List ℕ → List ℕ
grown v n hint O = set (set O (v * 8 + 7) (get_or O (v * 8 + 7) 0 + n)) (v * 8 + 5) (or_word hint (get_or O (v * 8 + 5) 0))

-- room is made for np pieces with nu uses before piece p, in register v: the later pieces' first uses, the later registers' first pieces, register v
unfoldable pub lifted : OutLayout → Counts → ℕ → ℕ → ℕ → ℕ → Bool → List ℕ → List ℕ
unfolding raised grown
lifted ol c v p np nu hint O =
    grown v np hint (raised np 8 (raised nu 7 O (seg_base ol + (p * 7 + 5)) (c.segs - p)) ((v + 1) * 8 + 6) (c.regs - (v + 1)))

-- what that asks of the words: the rows are there, and no word passes 32 bits
pub record Liftable (ol : OutLayout) (c : Counts) (v p np nu : ℕ) (O : List ℕ) : Type 0 where
  pub here : v < c.regs
  pub before : p ≤ c.segs
  pub regs : c.regs ≤ ol.regs
  pub segs : c.segs ≤ ol.segs
  pub count : get_or O (v * 8 + 7) 0 + np < 2 ^ 32
  pub firsts : (i : ℕ) → i < c.regs → get_or O (i * 8 + 6) 0 + np < 2 ^ 32
  pub uses : (i : ℕ) → i < c.segs → get_or O (seg_base ol + (i * 7 + 5)) 0 + nu < 2 ^ 32
