-- The rows tried one after the other, in place. Assumes nothing.
use mathlib.Core.Path.{◌≡◌, refl, sym, ap, ◌∙◌, subst}
use mathlib.Core.Option.{Option, none, some}
use mathlib.Core.List.{List, [], ◌∷◌, ◌++◌, reverse-append, reverse-reverse}
use Prim.Native.Nat.{ℕ, zero, suc, ◌+◌, ◌-◌, ◌*◌, ◌≤◌, ◌<◌}
use native.Mathlib.Numerals.{add-one}
use native.Mathlib.Omega.{arith}
use lib.ListN.{length, get_or}
use Rattle.words.specs.Tab.{tab, length_tab, tab_more, tab_snoc, tab_ext}
use Rattle.definition.specs.declared.RegClass.{RegClass}
use Rattle.definition.specs.declared.Use.{Use}
use Rattle.definition.specs.Types.{Job, State, Turned}
use Rattle.definition.specs.Types as types
use Rattle.definition.specs.Admit.{fresh, admit}
use Rattle.definition.specs.Build.{last_first, last_first', try}
use Rattle.definition.specs.Build as build
use Rattle.job.specs.declared.Layout.{Layout}
use Rattle.job.specs.Job.{job_of}
use Rattle.constraints.specs.declared.Held.{Held}
use Rattle.std.specs.Prelude.{Some, None}
use Rattle.std.specs.Prelude as code
use Rattle.job.specs.declared.work.WorkLayout.{WorkLayout}
use Rattle.constraints.specs.Held.{held_of, admission_of}
use Rattle.constraints.specs.Ready.{Backed, Ready}
use Rattle.constraints.proofs.Admitted.{answer_yes, answer_no}
use Rattle.pieces.proofs.ConflictGoing.{backed_row}
use Rattle.pieces.specs.Conflict.{row_use, turned_row_at, turned_rows_of, RowsOk}
use Rattle.conflicts.specs.Rounds.{swap_rows, Elsewhere, try_from, try_all, Tried}
use Rattle.conflicts.proofs.RoundKept.{row_use_lem, rows_equal, elsewhere_none}
use Rattle.conflicts.proofs.Swap.{swap_first, swap_second, swap_under, swap_inside, swap_over, swap_known, elsewhere_swap}

-- ---- one step of `try`

pub last_first_lem : (xs : List Turned) (y : Turned) → last_first (xs ++ (y ∷ [])) ≡ y ∷ xs
last_first_lem xs y = ap last_first' (reverse-append xs (y ∷ [])) ∙ ap (λ (l : List Turned). y ∷ l) (reverse-reverse xs)

module _ (n : ℕ) (job : Job) (st : State) (h : types.Held) (taken : List Turned) (t : Turned) (us left : List Turned) where
  try_yes : (g : types.Held) → admit job st h t.use' ≡ some g → try (suc n) job st h taken (t ∷ us) left ≡ try n job st g (taken ++ (t ∷ [])) us left
  unfolding try
  try_yes g e = rw (e, try)

  try_no : admit job st h t.use' ≡ none → try (suc n) job st h taken (t ∷ us) left ≡ try n job st h taken (last_first us) (t ∷ left)
  unfolding try
  try_no e = rw (e, try)

try_end : (job : Job) (st : State) (h : types.Held) (taken us left : List Turned) → try 0 job st h taken us left ≡ record { held = h; taken = taken; left = left }
unfolding try
try_end job st h taken us left = refl

-- ---- rows by a function of their number: those from a on are taken, those from i on untried, those from j on left

abbrev tried : Job → State → (ℕ → Turned) → ℕ → ℕ → ℕ → ℕ → types.Held → build.Round
tried job st f a b i j h = try (j - i) job st h (tab f a (i - a)) (tab f i (j - i)) (tab f j (b - j))

module _ (job : Job) (st : State) (f : ℕ → Turned) (a b i j : ℕ) (h : types.Held) (la : a ≤ i) (l : i < j) (lb : j ≤ b) where
  one_more_lem : tried job st f a b i j h ≡ try (suc (j - (i + 1))) job st h (tab f a (i - a)) (f i ∷ tab f (i + 1) (j - (i + 1))) (tab f j (b - j))
  one_more_lem =
      let e : j - i ≡ suc (j - (i + 1)) = omega arith in
      ap (λ (n : ℕ). try n job st h (tab f a (i - a)) (tab f i n) (tab f j (b - j))) e

  -- admitted
  tried_yes : (g : types.Held) → admit job st h (f i).use' ≡ some g → tried job st f a b i j h ≡ tried job st f a b (i + 1) j g
  tried_yes g e =
      let n : i + 1 - a ≡ (i - a) + 1 = omega arith in
      let q : a + (i - a) ≡ i = omega arith in
      let s : tab f a (i - a) ++ (f i ∷ []) ≡ tab f a (i + 1 - a) =
      ap (λ (k : ℕ). tab f a (i - a) ++ (f k ∷ [])) (sym q) ∙ sym (tab_snoc f a (i - a)) ∙ ap (λ (k : ℕ). tab f a k) (sym n) in
      one_more_lem
      ∙ try_yes (j - (i + 1)) job st h (tab f a (i - a)) (f i) (tab f (i + 1) (j - (i + 1))) (tab f j (b - j)) g e
      ∙ ap (λ (ts : List Turned). try (j - (i + 1)) job st g ts (tab f (i + 1) (j - (i + 1))) (tab f j (b - j))) s

  -- not admitted: rows i and m = j - 1 trade places, and g are the rows then
  module _ (m : ℕ) (em : m ≡ j - 1) (g : ℕ → Turned) (first : g i ≡ f m) (second : g m ≡ f i) (under : (k : ℕ) → k < i → g k ≡ f k) (inside : (k : ℕ) → i < k → k < m → g k ≡ f k)
      (over : (k : ℕ) → m < k → g k ≡ f k) where
    no_taken : tab f a (i - a) ≡ tab g a (i - a)
    no_taken = tab_ext f g a a (i - a) (λ n o. sym (under (a + n) (omega arith)))

    no_untried : (n : ℕ) → m ≡ i + n → last_first (tab f (i + 1) n) ≡ tab g i n
    no_untried zero e = refl
    no_untried (suc n) e =
        let q : i + 1 + n ≡ m = omega arith in
        ap (λ (k : ℕ). last_first (tab f (i + 1) k)) (sym (add-one n))
        ∙ ap last_first (tab_snoc f (i + 1) n)
        ∙ last_first_lem (tab f (i + 1) n) (f (i + 1 + n))
        ∙ ap (λ (k : ℕ). f k ∷ tab f (i + 1) n) q
        ∙ ap (λ (t : Turned). t ∷ tab f (i + 1) n) (sym first)
        ∙ ap (λ (ts : List Turned). g i ∷ ts) (tab_ext f g (i + 1) (i + 1) n (λ k o. sym (inside (i + 1 + k) (omega arith) (omega arith))))

    no_left : f i ∷ tab f j (b - j) ≡ tab g m (b - m)
    no_left =
        let q : j ≡ m + 1 = omega arith in
        ap (λ (k : ℕ). f i ∷ tab f k (b - k)) q
        ∙ ap (λ (t : Turned). t ∷ tab f (m + 1) (b - (m + 1))) (sym second)
        ∙ ap (λ (ts : List Turned). g m ∷ ts) (tab_ext f g (m + 1) (m + 1) (b - (m + 1)) (λ k o. sym (over (m + 1 + k) (omega arith))))
        ∙ sym (tab_more g m b (omega arith))

    tried_no : admit job st h (f i).use' ≡ none → tried job st f a b i j h ≡ tried job st g a b i m h
    tried_no e =
        let q : j - (i + 1) ≡ m - i = omega arith in
        let z : m ≡ i + (m - i) = omega arith in
        one_more_lem
        ∙ try_no (j - (i + 1)) job st h (tab f a (i - a)) (f i) (tab f (i + 1) (j - (i + 1))) (tab f j (b - j)) e
        ∙ ap (λ (k : ℕ). try k job st h (tab f a (i - a)) (last_first (tab f (i + 1) k)) (f i ∷ tab f j (b - j))) q
        ∙ ap (λ (ts : List Turned). try (m - i) job st h ts (last_first (tab f (i + 1) (m - i))) (f i ∷ tab f j (b - j))) no_taken
        ∙ ap (λ (ts : List Turned). try (m - i) job st h (tab g a (i - a)) ts (f i ∷ tab f j (b - j))) (no_untried (m - i) z)
        ∙ ap (λ (ts : List Turned). try (m - i) job st h (tab g a (i - a)) (tab g i (m - i)) ts) no_left

-- ---- the loop

-- S: the slices at entry stand for the state
pub record Trying (S : State → Type 0) (J : Job) (h₀ : types.Held) (w : ℕ) (K₀ : List ℕ) (turned : ℕ) (W : List ℕ) (lay : Layout) (a b : ℕ) (K : List ℕ) (i j : ℕ) (h : types.Held) : Type 0 where
  pub low : a ≤ i
  pub mid : i ≤ j
  pub high : j ≤ b
  pub elsewhere : Elsewhere turned a b K₀ K
  pub rows : RowsOk w K turned lay a b
  pub on : (st : State) → S st → try_from J st h₀ (turned_rows_of K₀ turned W lay a b) ≡ tried J st (turned_row_at K turned W lay) a b i j h

module _ (S : State → Type 0) (J : Job) (w : ℕ) (K₀ : List ℕ) (turned : ℕ) (W : List ℕ) (lay : Layout) (a b : ℕ) where
  pub trying_start : (h : types.Held) → RowsOk w K₀ turned lay a b → Trying S J h w K₀ turned W lay a b K₀ a b h
  unfolding turned_rows_of
  trying_start h r =
      let f : ℕ → Turned = turned_row_at K₀ turned W lay in
      record {
        low = omega arith;
        mid = r.order;
        high = omega arith;
        elsewhere = elsewhere_none turned a b K₀;
        rows = r;
        on =
            λ st s.
            let z : a - a ≡ 0 = omega arith in
            let y : b - b ≡ 0 = omega arith in
            ap (λ (n : ℕ). try n J st h [] (tab f a (b - a)) []) (length_tab f a (b - a))
            ∙ ap (λ (n : ℕ). try (b - a) J st h (tab f a n) (tab f a (b - a)) []) (sym z)
            ∙ ap (λ (n : ℕ). try (b - a) J st h (tab f a (a - a)) (tab f a (b - a)) (tab f b n)) (sym y);
      }

  module _ (h₀ : types.Held) (K : List ℕ) (i j : ℕ) (h : Held) (v : Trying S J h₀ w K₀ turned W lay a b K i j (held_of h)) where
    all_tried : j ≤ i → (st : State) → S st → Tried K turned W lay a b (record { end = i; held = h }) (try_from J st h₀ (turned_rows_of K₀ turned W lay a b))
    unfolding turned_rows_of
    all_tried l st s =
        let f : ℕ → Turned = turned_row_at K turned W lay in
        let z : j - i ≡ 0 = omega arith in
        let y : j ≡ i = omega (arith, v.mid) in
        let e : try_from J st h₀ (turned_rows_of K₀ turned W lay a b) ≡ record { held = held_of h; taken = tab f a (i - a); left = tab f i (b - i) } =
        v.on st s
        ∙ ap (λ (n : ℕ). try n J st (held_of h) (tab f a (i - a)) (tab f i (j - i)) (tab f j (b - j))) z
        ∙ try_end J st (held_of h) (tab f a (i - a)) (tab f i (j - i)) (tab f j (b - j))
        ∙ ap (λ (k : ℕ). record { held = held_of h; taken = tab f a (i - a); left = tab f k (b - k) }) y in
        record {
          taken = sym (ap (λ (q : build.Round). q.taken) e);
          left = sym (ap (λ (q : build.Round). q.left) e);
          held = sym (ap (λ (q : build.Round). q.held) e);
        }

    pub trying_end : (top : RegClass) → h₀ ≡ fresh top → j ≤ i → (st : State) → S st → Tried K turned W lay a b (record { end = i; held = h }) (try_all J st top (turned_rows_of K₀ turned W lay a b))
    trying_end top e l st s =
        subst (λ (g : types.Held). Tried K turned W lay a b (record { end = i; held = h }) (try_from J st g (turned_rows_of K₀ turned W lay a b))) e (all_tried l st s)

    module _ (l : i < j) (r : code.Option Held) (ea : (st : State) → S st → admission_of r ≡ admit J st (held_of h) (row_use K turned W lay i)) where
      at_row : (st : State) → S st → admission_of r ≡ admit J st (held_of h) (turned_row_at K turned W lay i).use'
      at_row st s = ea st s ∙ ap (λ (u : Use). admit J st (held_of h) u) (sym (row_use_lem K turned W lay i))

      pub trying_yes : (g : Held) → r ≡ Some g → Trying S J h₀ w K₀ turned W lay a b K (i + 1) j (held_of g)
      trying_yes g q =
          record {
            low = omega (arith, v.low);
            mid = omega arith;
            high = v.high;
            elsewhere = v.elsewhere;
            rows = v.rows;
            on =
                λ st s.
                v.on st s
                ∙ tried_yes J st (turned_row_at K turned W lay) a b i j (held_of h) v.low l v.high (held_of g) (answer_yes r _ g (at_row st s) q);
          }

      pub trying_no : r ≡ None → (m : ℕ) → m ≡ j - 1 → (K₁ : List ℕ) → K₁ ≡ swap_rows K turned i m → w ≡ length K → Trying S J h₀ w K₀ turned W lay a b K₁ i m (held_of h)
      trying_no q m em K₁ ek ew =
          let x : i ≤ m = omega arith in
          let y : m < b = omega (arith, v.high) in
          let t : turned + m * 4 + 4 ≤ length K = omega (arith, v.rows.within) in
          let f : ℕ → Turned = turned_row_at K turned W lay in
          let g : ℕ → Turned = turned_row_at (swap_rows K turned i m) turned W lay in
          subst (λ (L : List ℕ). Trying S J h₀ w K₀ turned W lay a b L i m (held_of h)) (sym ek)
          (record {
            low = v.low;
            mid = x;
            high = omega arith;
            elsewhere = elsewhere_swap turned a b K₀ K i m v.elsewhere v.low x y (omega (arith, v.rows.within));
            rows = swap_known w K turned lay a b i m ew v.low x y v.rows;
            on =
                λ st s.
                v.on st s
                ∙ tried_no J st f a b i j (held_of h) v.low l v.high m em g
                (rows_equal K (swap_rows K turned i m) turned W lay i m (swap_first K turned i m t x))
                (rows_equal K (swap_rows K turned i m) turned W lay m i (swap_second K turned i m t x))
                (λ k o. rows_equal K (swap_rows K turned i m) turned W lay k k (swap_under K turned i m t x k o))
                (λ k o p. rows_equal K (swap_rows K turned i m) turned W lay k k (swap_inside K turned i m t x k o p))
                (λ k o. rows_equal K (swap_rows K turned i m) turned W lay k k (swap_over K turned i m t x k o))
                (answer_no r _ (at_row st s) q);
          })

-- ---- the use of a row

pub admit_is : (t w : ℕ) (W K : List ℕ) (lay : Layout) (wl : WorkLayout) (k : ℕ) (u : Use) (st : State) (h : types.Held) (o : Option types.Held) → Ready t w W K lay wl → 0 < lay.segments.n
    → get_or K (wl.turned + k * 4 + 1) 0 < lay.uses.n → u ≡ row_use K wl.turned W lay k → (Backed (job_of W lay) u → o ≡ admit (job_of W lay) st h u)
    → o ≡ admit (job_of W lay) st h (row_use K wl.turned W lay k)
admit_is t w W K lay wl k u st h o r s l e f = f (backed_row t w W K lay wl k u r s l e) ∙ ap (λ (x : Use). admit (job_of W lay) st h x) e
