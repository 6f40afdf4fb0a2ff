-- Scans, use by use: what is known of the first use and of the scan over the others. A first part that a scan gets past is admitted. Assumes nothing.
use mathlib.Core.Path.{◌≡◌, refl, ap, subst}
use Prim.Native.Nat.{ℕ, zero, suc, ◌≤◌}
use native.Mathlib.Omega.{arith}
use mathlib.Core.Option.{Option, none, some}
use mathlib.Core.List.{List, [], ◌∷◌, ◌++◌}
use lib.ListN.{length, take}
use Rattle.definition.specs.Types.{Held, Job, State, Use}
use Rattle.definition.specs.Admit.{Scan, admit, fails_at, held_by, later, on_admit, scan, through}

abbrev pub Admits : Job → State → List Use → Held → Type 0
Admits job st us h = (g : Held) × (scan job st us h ≡ through g)

-- what `later` gives, read back
later_through : (r : Scan) (g : Held) → later r ≡ through g → r ≡ through g
later_through (through h) g e = e
later_through (fails_at n) g e = let z : ◌≡◌ {A = ℕ} 0 1 = cc in absurd (omega arith)

later_fails : (r : Scan) (n : ℕ) → later r ≡ fails_at (suc n) → r ≡ fails_at n
later_fails (through h) n e = let z : ◌≡◌ {A = ℕ} 0 1 = cc in absurd (omega arith)
later_fails (fails_at m) n e = let z : suc m ≡ suc n = cc in ap fails_at (omega arith)

later_first : (r : Scan) → later r ≡ fails_at 0 → ⊥
later_first (through h) e = let z : ◌≡◌ {A = ℕ} 0 1 = cc in omega arith
later_first (fails_at m) e = let z : suc m ≡ 0 = cc in omega arith

module _ (job : Job) (st : State) where
  -- ---- a scan over a first use and others: the use is admitted, and the scan over the others goes on from what is then held

  pub scan_cons : (u : Use) (us : List Use) (h k g : Held) → admit job st h u ≡ some k → scan job st us k ≡ through g → scan job st (u ∷ us) h ≡ through g
  unfolding scan
  scan_cons u us h k g a e = rw (a, e)

  -- what is known of the scan over the others once the first is admitted
  abbrev pub Then : Use → List Use → Held → Scan → Type 0
  Then u us h r = (k : Held) × (admit job st h u ≡ some k) × (scan job st us k ≡ r)

  pub scan_step : (u : Use) (us : List Use) (h g : Held) → scan job st (u ∷ us) h ≡ through g → Then u us h (through g)
  unfolding scan
  scan_step u us h g e = go (admit job st h u) refl e
    where
      go : (o : Option Held) → admit job st h u ≡ o → on_admit o (λ k. scan job st us k) ≡ through g → Then u us h (through g)
      go none a f = let z : ◌≡◌ {A = ℕ} 0 1 = cc in absurd (omega arith)
      go (some k) a f = (k, a, later_through (scan job st us k) g f)

  pub scan_later : (u : Use) (us : List Use) (h : Held) (n : ℕ) → scan job st (u ∷ us) h ≡ fails_at (suc n) → Then u us h (fails_at n)
  unfolding scan
  scan_later u us h n e = go (admit job st h u) refl e
    where
      go : (o : Option Held) → admit job st h u ≡ o → on_admit o (λ k. scan job st us k) ≡ fails_at (suc n) → Then u us h (fails_at n)
      go none a f = let z : 0 ≡ suc n = cc in absurd (omega arith)
      go (some k) a f = (k, a, later_fails (scan job st us k) n f)

  pub scan_first : (u : Use) (us : List Use) (h : Held) → scan job st (u ∷ us) h ≡ fails_at 0 → admit job st h u ≡ none
  unfolding scan
  scan_first u us h e = go (admit job st h u) refl e
    where
      go : (o : Option Held) → admit job st h u ≡ o → on_admit o (λ k. scan job st us k) ≡ fails_at 0 → admit job st h u ≡ none
      go none a f = a
      go (some k) a f = absurd (later_first (scan job st us k) f)

  -- ---- a first part that a scan gets past is admitted

  pub scan_before : (us vs : List Use) (h : Held) (n : ℕ) → scan job st (us ++ vs) h ≡ fails_at n → length us ≤ n → Admits job st us h
  unfolding scan
  scan_before [] vs h n e l = (h, refl)
  scan_before (u ∷ us) vs h zero e l = absurd (omega arith)
  scan_before (u ∷ us) vs h (suc n) e l =
      let r = scan_later u (us ++ vs) h n e in
      let q = scan_before us vs r.0 n r.2 (omega arith) in
      (q.0, scan_cons u us h r.0 q.0 r.1 q.1)

  -- ---- what is held when a scan ends: what it went through with, or what the uses before the one that it can't admit
  -- leave

  pub held_through : (us : List Use) (h g : Held) → scan job st us h ≡ through g → held_by job st us h ≡ g
  unfolding scan held_by
  held_through [] h g e = cc
  held_through (u ∷ us) h g e = let r = scan_step u us h g e in rw (r.1, held_by) (held_through us r.0 g r.2)

  pub held_before : (us : List Use) (h : Held) (n : ℕ) → scan job st us h ≡ fails_at n
      → scan job st (take n us) h ≡ through (held_by job st us h)
  unfolding scan held_by
  held_before [] h n e = let z : ◌≡◌ {A = ℕ} 0 1 = cc in absurd (omega arith)
  held_before (u ∷ us) h zero e = rw (scan_first u us h e, held_by) refl
  held_before (u ∷ us) h (suc n) e =
      let r = scan_later u us h n e in
      rw (r.1, held_by) (ap later (held_before us r.0 n r.2))

  -- a fact on what is held that every admission keeps
  pub scan_keeps : (P : Held → Type 0) → ((h k : Held) (u : Use) → P h → admit job st h u ≡ some k → P k)
      → (us : List Use) (h g : Held) → P h → scan job st us h ≡ through g → P g
  unfolding scan
  scan_keeps P keep [] h g p e = let q : h ≡ g = cc in subst P q p
  scan_keeps P keep (u ∷ us) h g p e = let r = scan_step u us h g e in scan_keeps P keep us r.0 g (keep h r.0 u p r.1) r.2

  -- one use more
  pub scan_snoc : (us : List Use) (u : Use) (h g k : Held) → scan job st us h ≡ through g → admit job st g u ≡ some k → scan job st (us ++ (u ∷ [])) h ≡ through k
  unfolding scan
  scan_snoc [] u h g k e a = let q : h ≡ g = cc in rw (q, a)
  scan_snoc (w ∷ us) u h g k e a =
      let r = scan_step w us h g e in
      scan_cons w (us ++ (u ∷ [])) h r.0 k r.1 (scan_snoc us u r.0 g k r.2 a)
