-- The words that the code writes for a turned use. Assumes nothing.
use mathlib.Core.Path.{◌≡◌, refl, sym, ap, ◌∙◌}
use Prim.Native.Nat.{ℕ, ◌+◌, ◌*◌, ◌≤◌, ◌<◌}
use native.Mathlib.Omega.{arith}
use Rattle.std.specs.Prelude.{is_some, unwrap_or}
use mathlib.Core.Bool.{Bool, true, false, cond}
use mir.Val.{bool_byte}
use mathlib.Core.List.{List, [], ◌∷◌}
use lib.ListN.{set}
use Rattle.words.specs.Parts.{splice}
use Rattle.job.specs.declared.Layout.{Layout}
use Rattle.set_part.specs.declared.SetPart.{SetPart}
use Rattle.set_part.specs.Part.{PartOk}
use Rattle.set_part.specs.declared.mark.TurnedRow.{TurnedRow}
use Rattle.set_part.specs.Turned.{turned_row}
use Rattle.job.specs.declared.work.WorkLayout.{WorkLayout}
use Rattle.steps.specs.Turns.{turned_words, turned_once, TurnRoom}
use Rattle.steps.proofs.Turn.{row_number}

-- a flag as a word
pub flag_word : (b : Bool) → bool_byte b ≡ cond b 1 0
flag_word true = refl
flag_word false = refl

pub put_row : (O' O : List ℕ) (i h q : ℕ) (t : TurnedRow) → h ≡ cond (is_some t.param) 1 0 → q ≡ unwrap_or t.param 0 → O' ≡ splice O i (t.value.0 ∷ t.number ∷ h ∷ q ∷ []) → O' ≡ splice O i (turned_words t)
unfolding turned_words
put_row O' O i h q t e f w = w ∙ λ j. splice O i (t.value.0 ∷ t.number ∷ e j ∷ f j ∷ [])

module _ (K : List ℕ) (wl : WorkLayout) (W : List ℕ) (lay : Layout) (sp : SetPart) (i : ℕ) (r : TurnedRow) (e : r ≡ turned_row K wl.marks W lay sp i) where
  number_is : r.number ≡ sp.first + i
  number_is = ap (λ (t : TurnedRow). t.number) e ∙ row_number K wl.marks W lay sp i

  pub number_fits : (w n : ℕ) → TurnRoom w lay wl → PartOk W lay sp → sp.first + i < sp.end → n < lay.uses.n → (wl.turned + n * 4 + 4 ≤ w) × (r.number < 4294967296)
  number_fits w n a ok l ln = (omega (arith, a.room), omega (arith, number_is, ok.fits, a.few))

  pub put_once : (K₁ K₂ : List ℕ) (n : ℕ) → K₁ ≡ splice K (wl.turned + n * 4) (turned_words r) → K₂ ≡ set K₁ (wl.marks + (sp.first + i)) 1 → K₂ ≡ turned_once K wl n (turned_row K wl.marks W lay sp i)
  unfolding turned_once
  put_once K₁ K₂ n e₁ e₂ =
      e₂
      ∙ ap (λ (k : List ℕ). set k (wl.marks + (sp.first + i)) 1) e₁
      ∙ ap (λ (j : ℕ). set (splice K (wl.turned + n * 4) (turned_words r)) (wl.marks + j) 1) (sym number_is)
      ∙ ap (λ (t : TurnedRow). set (splice K (wl.turned + n * 4) (turned_words t)) (wl.marks + t.number) 1) e
