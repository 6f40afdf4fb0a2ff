-- The group operands of a conflict piece mapped. Assumes nothing.
use mathlib.Core.Path.{◌≡◌, refl, sym, ap, ◌∙◌, subst}
use mathlib.Core.Bool.{Bool}
use mathlib.Core.Option.{Option, none, some}
use mathlib.Core.List.{List, [], ◌∷◌, ◌++◌}
use Prim.Native.Nat.{ℕ, ◌+◌, ◌-◌, ◌*◌, ◌≤◌, ◌<◌}
use native.Mathlib.Omega.{arith}
use lib.ListN.{get_or}
use Rattle.words.specs.Tab.{tab}
use Rattle.definition.specs.declared.Value.{Value}
use Rattle.definition.specs.declared.Inst.{Inst}
use Rattle.definition.specs.declared.Use.{Use}
use Rattle.definition.specs.declared.VirtRegGroup.{VirtRegGroup}
use Rattle.definition.specs.Types.{Mapped}
use Rattle.definition.specs.Build.{opening, conflict_piece}
use Rattle.definition.specs.Place.{map_uses, uses_of, segs_of}
use Rattle.job.specs.declared.Layout.{Layout}
use Rattle.job.specs.Job.{job_of}
use Rattle.job.specs.declared.work.WorkLayout.{WorkLayout}
use Rattle.constraints.specs.Ready.{Backed, Ready}
use Rattle.pieces.specs.Maps.{MapApart, Outside, MapsTo, Maps}
use Rattle.pieces.specs.Conflict.{row_use, turned_rows_of, RowsOk}
use Rattle.pieces.proofs.ConflictRows.{rows_uses, piece_uses}

module _ (lay : Layout) (wl : WorkLayout) (K K' : List ℕ) (o : Outside lay wl K K') (m : MapApart lay wl) where
  number_kept : (k : ℕ) → get_or K' (wl.turned + k * 4 + 1) 0 ≡ get_or K (wl.turned + k * 4 + 1) 0
  number_kept k = o.behind (wl.turned + k * 4 + 1) (omega (arith, m.turned))

  -- the rows are as they were
  pub row_kept : (W : List ℕ) (k : ℕ) → row_use K' wl.turned W lay k ≡ row_use K wl.turned W lay k
  unfolding row_use
  row_kept W k = rw (number_kept k)

  pub known_kept : (w a b k : ℕ) → RowsOk w K wl.turned lay a b → a ≤ k → k < b → get_or K' (wl.turned + k * 4 + 1) 0 < lay.uses.n
  known_kept w a b k r h l = omega (arith, r.known k h l, number_kept k)

-- the use of a row has its operand
pub backed_row : (t w : ℕ) (W K : List ℕ) (lay : Layout) (wl : WorkLayout) (k : ℕ) (u : Use) → Ready t w W K lay wl → 0 < lay.segments.n → get_or K (wl.turned + k * 4 + 1) 0 < lay.uses.n → u ≡ row_use K wl.turned W lay k
    → Backed (job_of W lay) u
unfolding row_use
backed_row t w W K lay wl k u r l h e = subst (λ (x : Use). Backed (job_of W lay) x) (sym e) (r.backed l (get_or K (wl.turned + k * 4 + 1) 0) h)

-- a BlockparamIn has no operand
map_opening : (g : VirtRegGroup) (p : Inst) (q : Option ℕ) (us : List Use) (ms : List Mapped) → map_uses g (opening p q ++ us) ms ≡ map_uses g us ms
unfolding map_uses
map_opening g p none us ms = refl
map_opening g p (some x) us ms = refl

pub maps_conflict : (W K : List ℕ) (lay : Layout) (wl : WorkLayout) (g : VirtRegGroup) (a b : ℕ) (r : Bool) (K₁ : List ℕ)
    → Maps W K lay wl (map_uses g (tab (row_use K wl.turned W lay) a (b - a))) r K₁
    → (v : Value) (p : Inst) (q : Option ℕ) → Maps W K lay wl (map_uses g (uses_of (segs_of (conflict_piece v p q (turned_rows_of K wl.turned W lay a b) ∷ [])))) r K₁
maps_conflict W K lay wl g a b r K₁ m v p q =
    let us : List Use = tab (row_use K wl.turned W lay) a (b - a) in
    let e : uses_of (segs_of (conflict_piece v p q (turned_rows_of K wl.turned W lay a b) ∷ [])) ≡ opening p q ++ us =
    piece_uses v p q (turned_rows_of K wl.turned W lay a b) ∙ ap (λ (l : List Use). opening p q ++ l) (rows_uses K wl.turned W lay a b) in
    record {
      outside = m.outside;
      answers =
          λ ms h.
          subst (λ (x : Option (List Mapped)). MapsTo W lay wl K₁ r x)
          (sym (ap (λ (l : List Use). map_uses g l ms) e ∙ map_opening g p q us ms)) (m.answers ms h);
    }
