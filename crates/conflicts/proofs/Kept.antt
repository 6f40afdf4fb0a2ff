-- What stays where only words of the mapping and of turned rows change. Assumes nothing.
use mathlib.Core.Path.{◌≡◌, refl, sym, ◌∙◌, subst}
use mathlib.Core.List.{List}
use Prim.Native.Nat.{ℕ, ◌+◌, ◌-◌, ◌*◌, ◌/◌, ◌≤◌}
use native.Mathlib.Omega.{arith}
use lib.ListN.{length}
use Rattle.words.specs.Tab.{tab_ext}
use Rattle.words.specs.Words.{word_count}
use Rattle.job.specs.declared.Layout.{Layout}
use Rattle.virt_regs.specs.declared.OutLayout.{OutLayout}
use Rattle.virt_regs.specs.declared.Counts.{Counts}
use Rattle.job.specs.declared.work.WorkLayout.{WorkLayout}
use Rattle.constraints.specs.Ready.{Ready}
use Rattle.constraints.proofs.Kept.{ready_kept}
use Rattle.pieces.specs.Maps.{MapApart, Outside}
use Rattle.pieces.specs.Conflict.{turned_row_at, turned_rows_of, RowsOk}
use Rattle.conflicts.specs.Rounds.{row_words, TurnedApart, Elsewhere}
use Rattle.conflicts.proofs.RoundKept.{row_same, rows_equal, row_number}
use Rattle.steps.specs.Turns.{TurnRoom}
use Rattle.conflicts.specs.Conflicts.{Between, Rounded, Given}

pub turned_apart : (w : ℕ) (lay : Layout) (wl : WorkLayout) → MapApart lay wl → TurnRoom w lay wl → TurnedApart lay wl
turned_apart w lay wl m a = record { index = omega (arith, m.index, m.turned); mapping = m.turned; starts = omega (arith, a.starts, a.marks) }

pub between_none : (lay : Layout) (wl : WorkLayout) (K : List ℕ) → Between lay wl K K
between_none lay wl K = record { long = refl; before = λ j l. refl; until = λ j l m. refl }

pub between_then : (lay : Layout) (wl : WorkLayout) (K K₁ K₂ : List ℕ) → Between lay wl K K₁ → Between lay wl K₁ K₂ → Between lay wl K K₂
between_then lay wl K K₁ K₂ x y =
    record { long = y.long ∙ x.long; before = λ j l. y.before j l ∙ x.before j l; until = λ j l m. y.until j l m ∙ x.until j l m }

pub rounded_none : (lay : Layout) (wl : WorkLayout) (b : ℕ) (K : List ℕ) → Rounded lay wl b K K
rounded_none lay wl b K = record { between = between_none lay wl K; behind = λ j l. refl }

pub rounded_then : (lay : Layout) (wl : WorkLayout) (b : ℕ) (K K₁ K₂ : List ℕ) → Rounded lay wl b K K₁ → Rounded lay wl b K₁ K₂ → Rounded lay wl b K K₂
rounded_then lay wl b K K₁ K₂ x y =
    record { between = between_then lay wl K K₁ K₂ x.between y.between; behind = λ j l. y.behind j l ∙ x.behind j l }

-- rows have traded places
pub rounded_tried : (lay : Layout) (wl : WorkLayout) (a b : ℕ) (K K₁ : List ℕ) → MapApart lay wl → Elsewhere wl.turned a b K K₁ → Rounded lay wl b K K₁
rounded_tried lay wl a b K K₁ m e =
    record {
      between = record { long = e.long; before = λ j l. e.before j (omega (arith, m.turned)); until = λ j l h. e.before j (omega arith) };
      behind = e.behind;
    }

-- operands are mapped
pub rounded_placed : (lay : Layout) (wl : WorkLayout) (b : ℕ) (K K₁ : List ℕ) → MapApart lay wl → Outside lay wl K K₁ → Rounded lay wl b K K₁
rounded_placed lay wl b K K₁ m o =
    record { between = record { long = o.long; before = o.before; until = λ j l h. o.behind j l }; behind = λ j l. o.behind j (omega (arith, m.turned)) }

-- the index and the table of block starts are as they were
pub between_ready : (t w : ℕ) (W K K' : List ℕ) (lay : Layout) (wl : WorkLayout) → MapApart lay wl → TurnRoom w lay wl → Between lay wl K K' → Ready t w W K lay wl → Ready t w W K' lay wl
between_ready t w W K K' lay wl m a c r =
    ready_kept K' r (λ i l. c.before (wl.heads + i) (omega (arith, m.index))) (λ i l. c.before (wl.nexts + i) (omega (arith, m.index)))
    (λ i l. c.until (wl.starts + i) (omega (arith, m.starts)) (omega (arith, a.starts, a.marks)))

-- rows c to d - 1, behind row b - 1
module _ (lay : Layout) (wl : WorkLayout) (b c d : ℕ) (K K' : List ℕ) (o : Rounded lay wl b K K') (l : b ≤ c) where
  row_kept : (k : ℕ) → c ≤ k → row_words K' (wl.turned + k * 4) ≡ row_words K (wl.turned + k * 4)
  row_kept k m = row_same K K' (wl.turned + k * 4) (λ n x y. o.behind n (omega arith))

  pub rounded_rows : (W : List ℕ) → turned_rows_of K' wl.turned W lay c d ≡ turned_rows_of K wl.turned W lay c d
  unfolding turned_rows_of
  rounded_rows W =
      tab_ext (turned_row_at K' wl.turned W lay) (turned_row_at K wl.turned W lay) c c (d - c)
      (λ n x. rows_equal K K' wl.turned W lay (c + n) (c + n) (row_kept (c + n) (omega arith)))

  pub rounded_known : (w : ℕ) → RowsOk w K wl.turned lay c d → RowsOk w K' wl.turned lay c d
  rounded_known w r =
      record { order = r.order; within = r.within; known = λ k x y. omega (arith, row_number K K' wl.turned k k (row_kept k x), r.known k x y) }

-- slices keep their lengths
pub given_now : (t : ℕ) (W K O : List ℕ) (lay : Layout) (wl : WorkLayout) (ol : OutLayout) (a b : ℕ) (c : Counts) (s₀ s p₀ p : List ℕ) → length s ≡ length s₀ → length p ≡ length p₀
    → Given t (word_count s₀) (word_count p₀) W K O lay wl ol a b c → Given t (word_count s) (word_count p) W K O lay wl ol a b c
given_now t W K O lay wl ol a b c s₀ s p₀ p e f g =
    subst (λ (n : ℕ). Given t (n / 4) (length p / 4) W K O lay wl ol a b c) (sym e) (subst (λ (n : ℕ). Given t (length s₀ / 4) (n / 4) W K O lay wl ol a b c) (sym f) g)

-- rows a to e - 1 of them
pub given_part : (t w o : ℕ) (W K O : List ℕ) (lay : Layout) (wl : WorkLayout) (ol : OutLayout) (a b e : ℕ) (c : Counts) → a ≤ e → e ≤ b → Given t w o W K O lay wl ol a b c → Given t w o W K O lay wl ol a e c
given_part t w o W K O lay wl ol a b e c l m g =
    record {
      ready = g.ready;
      apart = g.apart;
      turns = g.turns;
      builds = g.builds;
      segments = g.segments;
      rows = record { order = l; within = omega (arith, g.rows.within); known = λ k x y. g.rows.known k x (omega arith) };
      st = g.st;
      stands = g.stands;
    }
