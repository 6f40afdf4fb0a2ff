-- Behind the end. Assumes nothing.
use Rattle.std.specs.Prelude.{◌≡◌, Bool, true, false, List, [], ◌++◌, ℕ}
use Rattle.std.proofs.Common.{sym, ap, ◌∙◌, inl, inr, arith}
use Rattle.definition.specs.Types.{Job}
use Rattle.definition.specs.JobSheet.{Word, opt, word_number, Record}
use Rattle.definition.specs.Conversion.{lines_text, grown}
use Rattle.job_pages.specs.Cursors.{Cursor, front_text}
use Rattle.job_pages.specs.Left.{Left, text_left}

-- behind the end no record is left
pub over_none : {T : List ℕ} {job : Job} (c : Cursor) (rs : List Record) → c.key ≡ 12 → Left T job c rs → rs ≡ []
over_none c rs e (inl g) = absurd (few g.kind (sym g.key ∙ e))
  where
    few : (k : Word) → word_number k ≡ 12 → ⊥
    few opt q = omega (arith, q)
    few k q = omega (arith, q)
over_none c rs e (inr o) = o.none_left

-- and no text
pub over_text : (second : Bool) (T : List ℕ) (job : Job) (c : Cursor) (rs : List Record) → c.key ≡ 12 → Left T job c rs
    → text_left second job c rs ≡ []
unfolding text_left front_text lines_text grown
over_text true T job c rs e l =
    ap (λ (k : ℕ). front_text true k ++ lines_text true (grown c.insts job rs)) e
    ∙ ap (λ (l : List Record). lines_text true (grown c.insts job l)) (over_none c rs e l)
over_text false T job c rs e l = ap (λ (l : List Record). lines_text false l) (over_none c rs e l)
