-- What holds of an accepted job and of the work slice from its first set to its last. Assumes nothing.
use Rattle.std.specs.Prelude.{ℕ, ◌+◌, ◌≤◌, ◌<◌, ◌≡◌, refl, true, List, get_or}
use Rattle.std.proofs.Common.{arith, ◌∙◌}
use Rattle.std.proofs.Math.Option.{none}
use Rattle.words.specs.RowsAt.{rows_at}
use Rattle.definition.specs.Entry.{chained, not_after, entry}
use Rattle.hints.specs.Hints.{hint_at}
use Rattle.job.specs.declared.Layout.{Layout}
use Rattle.job.specs.Job.{job_of}
use Rattle.set_part.specs.declared.SetPart.{SetPart}
use Rattle.set_part.specs.Part.{CountsRise}
use Rattle.job.specs.declared.work.WorkLayout.{WorkLayout}
use Rattle.constraints.specs.Ready.{Ready}
use Rattle.constraints.proofs.Kept.{ready_kept}
use Rattle.pieces.specs.Maps.{MapApart, Outside}
use Rattle.conflicts.specs.Rounds.{TurnedApart, Elsewhere}
use Rattle.steps.specs.Turns.{TurnRoom}
use Rattle.steps.specs.Built.{Changed}

-- The job with the words W is accepted, and its parts of a work slice of w words lie one behind the other. No step of the builder changes any of it.
pub record Begun (w : ℕ) (W : List ℕ) (lay : Layout) (wl : WorkLayout) : Type 0 where
  pub accepted : entry (job_of W lay) ≡ none
  pub mapping : MapApart lay wl
  pub turns : TurnRoom w lay wl
  pub turned : TurnedApart lay wl
  pub hints : chained not_after (rows_at hint_at W lay.hints.at 3 lay.hints.n) ≡ true
  pub counts : CountsRise W lay

-- The work words K before a set whose first use is use f: the index of the operands and the block starts are there, and no use from f on is marked.
pub record Onward (t w : ℕ) (W K : List ℕ) (lay : Layout) (wl : WorkLayout) (f : ℕ) : Type 0 where
  pub ready : Ready t w W K lay wl
  pub marks : (u : ℕ) → f ≤ u → u < lay.uses.n → get_or K (wl.marks + u) 0 ≡ 0

-- K' is K in the index of the operands, the block starts, and the marks from use f on
pub record KeptFrom (wl : WorkLayout) (f : ℕ) (K K' : List ℕ) : Type 0 where
  pub index : (j : ℕ) → j < wl.mapping → get_or K' j 0 ≡ get_or K j 0
  pub starts : (j : ℕ) → wl.starts ≤ j → j < wl.marks → get_or K' j 0 ≡ get_or K j 0
  pub marks : (j : ℕ) → wl.marks + f ≤ j → j < wl.turned → get_or K' j 0 ≡ get_or K j 0

-- ---- what keeps them

pub kept_none : (wl : WorkLayout) (f : ℕ) (K : List ℕ) → KeptFrom wl f K K
kept_none wl f K = record { index = λ j h. refl; starts = λ j h l. refl; marks = λ j h l. refl }

pub kept_then : (wl : WorkLayout) (f : ℕ) (K K₁ K₂ : List ℕ) → KeptFrom wl f K K₁ → KeptFrom wl f K₁ K₂ → KeptFrom wl f K K₂
kept_then wl f K K₁ K₂ a b = record {
  index = λ j h. b.index j h ∙ a.index j h;
  starts = λ j h l. b.starts j h l ∙ a.starts j h l;
  marks = λ j h l. b.marks j h l ∙ a.marks j h l;
}

module _ {w : ℕ} {W : List ℕ} {lay : Layout} {wl : WorkLayout} (b : Begun w W lay wl) where
  -- a part that was built changes marks of its own uses alone
  pub kept_changed : (sp : SetPart) (n : ℕ) (K K' : List ℕ) → Changed lay wl sp n K K' → KeptFrom wl sp.end K K'
  kept_changed sp n K K' c = record {
    index = λ j h. c.before j h;
    starts = λ j h l. c.until j (omega (arith, b.mapping.starts)) (omega arith);
    marks = λ j h l. c.behind j h (omega arith);
  }

  -- so does what changes the mapping alone
  pub kept_outside : (f : ℕ) (K K' : List ℕ) → Outside lay wl K K' → KeptFrom wl f K K'
  kept_outside f K K' o = record {
    index = λ j h. o.before j h;
    starts = λ j h l. o.behind j (omega (arith, b.mapping.starts));
    marks = λ j h l. o.behind j (omega (arith, b.mapping.marks));
  }

  -- and what changes turned rows alone
  pub kept_elsewhere : (f m n : ℕ) (K K' : List ℕ) → Elsewhere wl.turned m n K K' → KeptFrom wl f K K'
  kept_elsewhere f m n K K' o = record {
    index = λ j h. o.before j (omega (arith, b.mapping.turned));
    starts = λ j h l. o.before j (omega (arith, b.turns.marks));
    marks = λ j h l. o.before j (omega arith);
  }

  -- from set to set
  pub onward_kept : (t f g : ℕ) (K K' : List ℕ) → f ≤ g → KeptFrom wl g K K' → Onward t w W K lay wl f → Onward t w W K' lay wl g
  onward_kept t f g K K' l k o =
      let i = b.mapping.index in
      record {
        ready =
            ready_kept K' o.ready (λ j h. k.index (wl.heads + j) (omega arith)) (λ j h. k.index (wl.nexts + j) (omega arith))
            (λ j h. k.starts (wl.starts + j) (omega arith) (omega (arith, b.turns.starts)));
        marks = λ u h m. k.marks (wl.marks + u) (omega arith) (omega (arith, b.turns.marks)) ∙ o.marks u (omega arith) m;
      }
