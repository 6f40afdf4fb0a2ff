-- What the answers of the scans stand for. Assumes nothing.
use Rattle.std.specs.Prelude.{ℕ, ◌+◌, ◌-◌, ◌≡◌, List, Option, Some, None}
use Rattle.definition.specs.declared.Use.{Use}
use Rattle.definition.specs.Types.{Job, State}
use Rattle.definition.specs.Types as types
use Rattle.definition.specs.Admit.{Scan, through, fails_at, scan, held_by, fresh, Move, whole, turn, cut, halt}
use Rattle.words.specs.Tab.{tab}
use Rattle.definition.specs.declared.RegClass.{RegClass}
use Rattle.constraints.specs.declared.Held.{Held}
use Rattle.constraints.specs.Held.{held_of}
use Rattle.scans.specs.declared.ScanAnswer.{ScanAnswer}
use Rattle.scans.specs.declared.Move as code
use Rattle.scans.specs.declared.Move.TheVariants.{Whole, Turn, Cut, Halt}

abbrev pub ended : Option ℕ → types.Held → (ℕ → ℕ) → Scan
ended None h place = through h
ended (Some n) h place = fails_at (place n)

-- a place counts from use number a on, or back from use number e
unfoldable pub scan_of : ℕ → ScanAnswer → Scan
unfolding held_of
scan_of a r = ended r.failed (held_of r.held) (λ n. n - a)

unfoldable pub back_of : ℕ → ScanAnswer → Scan
unfolding held_of
back_of e r = ended r.failed (held_of r.held) (λ n. e - n)

-- the scan over uses, from h on, ends as s, and g is then held
abbrev pub Ends : Job → State → List Use → types.Held → Scan → Held → Type 0
Ends job st us h s g = (s ≡ scan job st us h) × (held_of g ≡ held_by job st us h)

-- the uses f from number a on, of those below `at`, were passed from the top class, and h is held
abbrev pub Passed : Job → State → (ℕ → Use) → RegClass → (a at : ℕ) → Held → Type 0
Passed job st f top a at h = scan job st (tab f a (at - a)) (fresh top) ≡ through (held_of h)

-- the scan of what is left behind k uses
unfoldable pub shifted : ℕ → Scan → Scan
shifted k (through h) = through h
shifted k (fails_at n) = fails_at (k + n)

-- a step where h is held, by numbers from use number a on
unfoldable pub move_of : ℕ → Held → code.Move → Move
unfolding held_of
move_of a h Whole = whole (held_of h)
move_of a h (Turn n) = turn (n - a)
move_of a h (Cut p) = cut p
move_of a h (Halt s) = halt s
