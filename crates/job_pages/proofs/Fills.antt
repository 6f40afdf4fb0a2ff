-- A page line by line. Assumes nothing.
use mathlib.Core.Path.{◌≡◌, sym, ap, subst, ◌∙◌}
use mathlib.Core.Logic.{◌⊎◌, inl, inr}
use mathlib.Core.Bool.{Bool, false}
use mathlib.Core.List.{List, []}
use Prim.Native.Nat.{ℕ, ◌+◌, ◌≤◌, ◌<◌}
use native.Mathlib.Omega.{arith}
use lib.Dec.{eqb}
use lib.ListN.{length}
use Rattle.words.specs.Words.{words_of}
use Rattle.job_pages.specs.Cursors.{Cursor, steps_left}
use Rattle.lines.specs.declared.Page.{Page}
use Rattle.job_pages.specs.Pages.{Shows, Goes, Stepped, Filled}

-- nothing was done, or a step was
abbrev Nearer : Cursor → Cursor → ℕ → Type 0
Nearer c₀ c at = ((c ≡ c₀) × (at ≡ 0)) ⊎ (steps_left c < steps_left c₀)

-- the first `at` bytes of B and what is left at the cursor c are what was left at c₀
pub record Filling (second : Bool) (x : List ℕ) (c₀ c : Cursor) (at : ℕ) (B : List ℕ) : Type 0 where
  pub within : at ≤ length B
  pub shows : Shows x c
  pub nearer : Nearer c₀ c at
  pub goes : Goes second (words_of x) c₀ 0 [] c at B

less : (c₀ c d : Cursor) (at : ℕ) → Nearer c₀ c at → steps_left d < steps_left c → steps_left d < steps_left c₀
less c₀ c d at (inl e) l = subst (λ (x : Cursor). steps_left d < steps_left x) e.0 l
less c₀ c d at (inr k) l = omega (arith, k, l)

module _ {second : Bool} {x : List ℕ} {c₀ c : Cursor} {at : ℕ} {B : List ℕ} (f : Filling second x c₀ c at B) where
  pub next : {B' : List ℕ} {r : Page Cursor} → Stepped second (words_of x) c at B r B' → at + 256 ≤ length B
      → length B' ≡ length B → Filling second x c₀ r.cur r.n B'
  next {r = r} s l e =
      let w = s.goes f.shows.job f.shows.records f.shows.left in
      record {
        within = omega (arith, s.most, l, e);
        shows = record { long = f.shows.long; job = f.shows.job; records = w.records; left = w.left };
        nearer = inr (less c₀ c r.cur at f.nearer s.fewer);
        goes = λ job rs k.
            let g = f.goes job rs k in
            let q = s.goes job g.records g.left in
            record { records = q.records; left = q.left; text = q.text ∙ g.text };
      }

  -- the end is written, or a line might have no room
  pub filled : (eqb c.key 12 ≡ false → length B < at + 256) → Filled second x c₀ (record { cur = c; n = at }) B
  filled h = record {
    within = f.within;
    full = h;
    shows = f.shows;
    fewer = go f.nearer;
    paged = λ job rs k.
        let g = f.goes job rs k in record { records = g.records; left = g.left; text = sym g.text };
  }
    where
      go : Nearer c₀ c at → eqb c₀.key 12 ≡ false → 256 ≤ length B → steps_left c < steps_left c₀
      go (inl q) o l =
          let z : length B < at + 256 = h (ap (λ (d : Cursor). eqb d.key 12) q.0 ∙ o) in
          absurd (omega (arith, q.1, l, z))
      go (inr k) o l = k
