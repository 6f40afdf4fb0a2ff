-- Uses mapped one after the other. Assumes nothing.
use mathlib.Core.Path.{◌≡◌, refl, sym, ap, ◌∙◌, subst}
use mathlib.Core.Bool.{Bool, true, false, not}
use mathlib.Core.Option.{Option, none, some}
use mathlib.Core.List.{List, [], ◌∷◌}
use Prim.Native.Nat.{ℕ, ◌+◌, ◌-◌, ◌/◌, ◌≤◌, ◌<◌}
use lib.ListN.{length}
use borrow.Author.Tests.{not-true, not-false}
use Rattle.words.specs.Tab.{tab, tab_more, tab_done}
use Rattle.words.specs.Words.{word_count, words_of}
use Rattle.definition.specs.declared.Use.{Use}
use Rattle.definition.specs.declared.VirtRegGroup.{VirtRegGroup}
use Rattle.definition.specs.Types.{Mapped}
use Rattle.definition.specs.Place.{on_mapping, map_uses, uses_of}
use Rattle.values.proofs.Twice.{never}
use Rattle.job.specs.declared.Layout.{Layout}
use Rattle.set_part.specs.declared.SetPart.{SetPart}
use Rattle.set_part.specs.Part.{PartOk, marked_use, part_segs}
use Rattle.set_part.proofs.Uses.{part_uses}
use Rattle.job.specs.declared.work.WorkLayout.{WorkLayout}
use Rattle.constraints.specs.Ready.{operands_in, Mapping, Ready}
use Rattle.pieces.specs.Maps.{MapApart, Outside, MapsTo, Maps, map_use}
use Rattle.pieces.proofs.Kept.{outside_none, outside_then, ready_kept}

-- the words hold ns, and mapping the uses `rest` from there gives what mapping the uses us gives from ms
pub record Onward (W : List ℕ) (lay : Layout) (wl : WorkLayout) (g : VirtRegGroup) (us : List Use) (ms : List Mapped) (rest : List Use) (K : List ℕ) : Type 0 where
  pub ns : List Mapped
  pub holds : Mapping K wl.mapping (operands_in W lay) ns
  pub same : map_uses g us ms ≡ map_uses g rest ns

-- of the uses us, mapped from the words K on, `rest` are left, and the words are K₁
pub record Going (W K : List ℕ) (lay : Layout) (wl : WorkLayout) (g : VirtRegGroup) (us rest : List Use) (K₁ : List ℕ) : Type 0 where
  pub outside : Outside lay wl K K₁
  pub on : (ms : List Mapped) → Mapping K wl.mapping (operands_in W lay) ms → Onward W lay wl g us ms rest K₁

map_step : (g : VirtRegGroup) (u : Use) (us : List Use) (ms : List Mapped) → map_uses g (u ∷ us) ms ≡ on_mapping (map_use g u ms) (λ ns. map_uses g us ns)
unfolding map_uses map_use
map_step g u us ms = refl

module _ (W K : List ℕ) (lay : Layout) (wl : WorkLayout) (g : VirtRegGroup) (us : List Use) where
  pub going_start : Going W K lay wl g us us K
  going_start = record { outside = outside_none lay wl K; on = λ ms m. record { ns = ms; holds = m; same = refl } }

  pub going_end : (K₁ : List ℕ) → Going W K lay wl g us [] K₁ → Maps W K lay wl (map_uses g us) true K₁
  unfolding MapsTo map_uses
  going_end K₁ v = record { outside = v.outside; answers = λ ms m. let o = v.on ms m in rw o.same (refl, o.holds) }

  module _ (u : Use) (rest : List Use) (K₁ K₂ : List ℕ) (r : Bool) (v : Going W K lay wl g us (u ∷ rest) K₁) (m : Maps W K₁ lay wl (map_use g u) r K₂) where
    pub going_next : r ≡ true → Going W K lay wl g us rest K₂
    unfolding MapsTo
    going_next e = record { outside = outside_then lay wl K K₁ K₂ v.outside m.outside; on = λ ms h. let o = v.on ms h in step ms o (map_use g u o.ns) refl (m.answers o.ns o.holds) }
      where
        step : (ms : List Mapped) (o : Onward W lay wl g us ms (u ∷ rest) K₁) (x : Option (List Mapped)) → map_use g u o.ns ≡ x → MapsTo W lay wl K₂ r x → Onward W lay wl g us ms rest K₂
        step ms o none q t = never (sym e ∙ t)
        step ms o (some ns) q t =
            record { ns = ns; holds = t.1; same = o.same ∙ map_step g u rest o.ns ∙ ap (λ (y : Option (List Mapped)). on_mapping y (λ l. map_uses g rest l)) q }

    pub going_stop : r ≡ false → Maps W K lay wl (map_uses g us) false K₂
    unfolding MapsTo
    going_stop e = record { outside = outside_then lay wl K K₁ K₂ v.outside m.outside; answers = λ ms h. let o = v.on ms h in step ms o (map_use g u o.ns) refl (m.answers o.ns o.holds) }
      where
        step : (ms : List Mapped) (o : Onward W lay wl g us ms (u ∷ rest) K₁) (x : Option (List Mapped)) → map_use g u o.ns ≡ x → MapsTo W lay wl K₂ r x → MapsTo W lay wl K₂ false (map_uses g us ms)
        step ms o none q t =
            subst (λ (y : Option (List Mapped)). MapsTo W lay wl K₂ false y)
            (sym (o.same ∙ map_step g u rest o.ns ∙ ap (λ (y : Option (List Mapped)). on_mapping y (λ l. map_uses g rest l)) q)) refl
        step ms o (some ns) q t = never (sym t.0 ∙ e)

-- ---- uses numbered a to b - 1, by a function that gives them

unfoldable pub Run : List ℕ → List ℕ → Layout → WorkLayout → VirtRegGroup → (ℕ → Use) → ℕ → ℕ → ℕ → List ℕ → Type 0
Run W K lay wl g f a b i K₁ = Going W K lay wl g (tab f a (b - a)) (tab f i (b - i)) K₁

pub run_start : (W K : List ℕ) (lay : Layout) (wl : WorkLayout) (g : VirtRegGroup) (f : ℕ → Use) (a b : ℕ) → Run W K lay wl g f a b a K
unfolding Run
run_start W K lay wl g f a b = going_start W K lay wl g (tab f a (b - a))

module _ (W K : List ℕ) (lay : Layout) (wl : WorkLayout) (g : VirtRegGroup) (f : ℕ → Use) (a b i : ℕ) (K₁ : List ℕ) (v : Run W K lay wl g f a b i K₁) where
  pub run_outside : Outside lay wl K K₁
  unfolding Run
  run_outside = v.outside

  pub run_end : b ≤ i → Maps W K lay wl (map_uses g (tab f a (b - a))) true K₁
  unfolding Run
  run_end h = going_end W K lay wl g (tab f a (b - a)) K₁ (subst (λ (l : List Use). Going W K lay wl g (tab f a (b - a)) l K₁) (tab_done f i b h) v)

  module _ (l : i < b) (u : Use) (e : u ≡ f i) (K₂ : List ℕ) (r : Bool) (m : Maps W K₁ lay wl (map_use g u) r K₂) where
    here : Going W K lay wl g (tab f a (b - a)) (u ∷ tab f (i + 1) (b - (i + 1))) K₁
    unfolding Run
    here = subst (λ (l : List Use). Going W K lay wl g (tab f a (b - a)) l K₁) (tab_more f i b l ∙ ap (λ (x : Use). x ∷ tab f (i + 1) (b - (i + 1))) (sym e)) v

    pub run_next : not r ≡ false → Run W K lay wl g f a b (i + 1) K₂
    unfolding Run
    run_next n = going_next W K lay wl g (tab f a (b - a)) u (tab f (i + 1) (b - (i + 1))) K₁ K₂ r here m (not-false r n)

    pub run_stop : not r ≡ true → Maps W K lay wl (map_uses g (tab f a (b - a))) false K₂
    run_stop n = going_stop W K lay wl g (tab f a (b - a)) u (tab f (i + 1) (b - (i + 1))) K₁ K₂ r here m (not-true r n)

-- what the code needs still holds
pub ready_run : (t : ℕ) (W s₀ s : List ℕ) (lay : Layout) (wl : WorkLayout) (g : VirtRegGroup) (f : ℕ → Use) (a b i : ℕ) → Run W (words_of s₀) lay wl g f a b i (words_of s) → MapApart lay wl
    → length s ≡ length s₀ → Ready t (word_count s₀) W (words_of s₀) lay wl → Ready t (word_count s) W (words_of s) lay wl
ready_run t W s₀ s lay wl g f a b i v m e r =
    subst (λ (n : ℕ). Ready t (n / 4) W (words_of s) lay wl) (sym e) (ready_kept lay wl (words_of s₀) (words_of s) (run_outside W (words_of s₀) lay wl g f a b i (words_of s) v) m t (word_count s₀) W r)

-- ---- of a part

pub maps_part : (W K : List ℕ) (lay : Layout) (wl : WorkLayout) (g : VirtRegGroup) (sp : SetPart) (r : Bool) (K₁ : List ℕ) → PartOk W lay sp
    → Maps W K lay wl (map_uses g (tab (marked_use K wl.marks W lay) sp.first (sp.end - sp.first))) r K₁ → Maps W K lay wl (map_uses g (uses_of (part_segs K wl.marks W lay sp))) r K₁
maps_part W K lay wl g sp r K₁ ok m =
    subst (λ (us : List Use). Maps W K lay wl (map_uses g us) r K₁) (sym (part_uses K wl.marks W lay sp ok)) m
