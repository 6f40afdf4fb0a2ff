-- Turns of the loop that raises words, and what the stores come to. Assumes nothing.
use Rattle.std.specs.Prelude.{◌≡◌, refl, Bool, true, false, List, ℕ, zero, suc, ◌+◌, ◌-◌, ◌*◌, ◌^◌, ◌≤◌, ◌<◌, length, get_or, set}
use Rattle.std.proofs.Common.{sym, ap, ◌∙◌, subst, arith, add-one, take_all}
use Rattle.std.proofs.Math.Nat.{suc-mul, zero-mul}
use Rattle.std.proofs.lemmas.List.{set-get_or, get_or-set_other}
use Rattle.definition.specs.declared.VirtReg.{VirtReg}
use Rattle.definition.specs.Types.{Piece, State}
use Rattle.definition.specs.Place.{pieces_in, uses_in, uses_of, segs_of}
use Rattle.definition.specs.Admit.{register_at}
use Rattle.virt_regs.specs.declared.OutLayout.{OutLayout}
use Rattle.virt_regs.specs.declared.Counts.{Counts}
use Rattle.virt_regs.specs.Encoding.{seg_base, all_pieces, counts_of, Holds}
use Rattle.virt_regs.specs.Counting.{count_pieces, count_uses}
use Rattle.virt_regs.specs.Reads.{first_piece, first_use, first_held, pieces_in_lem, piece_word}
use Rattle.vregs_write.specs.Raised.{raised}
use Rattle.vregs_write.specs.InsertFlat.{grown, lifted, Liftable}
use Rattle.vregs_write.specs.Opened.{Opened, opened_of}
use Rattle.vregs_write.specs.Ask.{Ask, Gaps₂, first_use_le}

-- k of the n words from word `at` on have been raised
pub record Raising (m s n at : ℕ) (W : List ℕ) (k : ℕ) (V : List ℕ) : Type 0 where
  pub same : raised m s W at n ≡ raised m s V (at + k * s) (n - k)
  pub fits : (i : ℕ) → i < n - k → get_or V (at + k * s + i * s) 0 + m < 2 ^ 32

module _ {m s n at : ℕ} {W : List ℕ} {k : ℕ} {V : List ℕ} (r : Raising m s n at W k V) (h : k < n) where
  pub raise_fits : get_or V (at + k * s) 0 + m < 2 ^ 32
  raise_fits =
      let e : at + k * s + 0 * s ≡ at + k * s = rw zero-mul (omega arith) in
      rw e at (r.fits 0 (omega arith))

  pub raise_next : (V' : List ℕ) (f : ℕ) → 0 < s → f ≡ get_or V (at + k * s) 0 → V' ≡ set V (at + k * s) (f + m) → Raising m s n at W (k + 1) V'
  unfolding raised
  raise_next V' f hs ef e =
      let j : ℕ = at + k * s in
      let d : n - k ≡ suc (n - (k + 1)) = omega arith in
      let next : at + (k + 1) * s ≡ j + s = omega (arith, suc-mul k s, add-one k) in
      record {
        same = r.same ∙ rw (d, next, e, ef);
        fits = λ i l.
            let a : j + s + i * s ≡ j + suc i * s = omega (arith, suc-mul i s) in
            let g : get_or V' (j + s + i * s) 0 ≡ get_or V (j + suc i * s) 0 =
            rw e (get_or-set_other V j (j + s + i * s) (f + m) 0 (omega arith)) ∙ ap (λ (x : ℕ). get_or V x 0) a in
            rw (next, g) (r.fits (suc i) (omega arith));
      }

pub raise_last : {m s n at : ℕ} {W : List ℕ} {k : ℕ} {V : List ℕ} → Raising m s n at W k V → n ≤ k → V ≡ raised m s W at n
unfolding raised
raise_last {m} {s} {n} {at} {W} {k} {V} r h =
    let e : n - k ≡ 0 = omega arith in
    sym (r.same ∙ ap (raised m s V (at + k * s)) e)

-- ---- the first use of a piece

pub use_last : (ol : OutLayout) (O : List ℕ) (c : Counts) (i : ℕ) → i ≡ c.segs → (st : State) → Holds ol O st → c ≡ counts_of st → c.uses ≡ first_use st i
unfolding first_use
use_last ol O c i e st h ec =
    let A : List Piece = all_pieces st.registers in
    let n : i ≡ length A = e ∙ ap (λ (x : Counts). x.segs) ec ∙ count_pieces st in
    ap (λ (x : Counts). x.uses) ec ∙ count_uses st ∙ ap (λ (t : List Piece). length (uses_of (segs_of t))) (sym (take_all i A (omega arith)))

pub use_read : (ol : OutLayout) (O : List ℕ) (c : Counts) (i w : ℕ) → i ≤ c.segs → (i ≡ c.segs → ⊥) → w ≡ get_or O (seg_base ol + (i * 7 + 5)) 0
    → (st : State) → Holds ol O st → c ≡ counts_of st → w ≡ first_use st i
use_read ol O c i w l n e st h ec =
    let s : c.segs ≡ pieces_in st = ap (λ (x : Counts). x.segs) ec in
    e ∙ piece_word ol O st h i 5 (below (omega arith)) (omega arith)
  where
    below : (i < c.segs) → i < pieces_in st
    below q = let s : c.segs ≡ pieces_in st = ap (λ (x : Counts). x.segs) ec in omega arith

module _ (v n x : ℕ) (hint : Bool) (O O₁ : List ℕ) (ex : x ≡ get_or O (v * 8 + 7) 0) (e₁ : O₁ ≡ set O (v * 8 + 7) (x + n)) where
  pub grown_hint : hint ≡ true → (O₂ : List ℕ) → O₂ ≡ set O₁ (v * 8 + 5) 1 → O₂ ≡ grown v n hint O
  unfolding grown
  grown_hint h O₂ e = rw (e, e₁, ex, h)

  pub grown_as : hint ≡ false → O₁ ≡ grown v n hint O
  unfolding grown
  grown_as h =
      let k : get_or O₁ (v * 8 + 5) 0 ≡ get_or O (v * 8 + 5) 0 = rw e₁ (get_or-set_other O (v * 8 + 7) (v * 8 + 5) (x + n) 0 (omega arith)) in
      sym (set-get_or O₁ (v * 8 + 5) 0) ∙ rw (k, e₁, ex, h)

-- ---- the rows that stay

raised_before : (m s : ℕ) (t : List ℕ) (i k j : ℕ) → j < i → get_or (raised m s t i k) j 0 ≡ get_or t j 0
unfolding raised
raised_before m s t i zero j h = refl
raised_before m s t i (suc k) j h = raised_before m s (set t i (get_or t i 0 + m)) (i + s) k j (omega arith) ∙ get_or-set_other t i j (get_or t i 0 + m) 0 (omega arith)

module _ (ol : OutLayout) (c : Counts) (v p np nu : ℕ) (O : List ℕ) (a : Liftable ol c v p np nu O) where
  pub lift_uses : (k : ℕ) → k < c.segs - p → get_or O (seg_base ol + (p * 7 + 5) + k * 7) 0 + nu < 2 ^ 32
  lift_uses k l =
      let e : seg_base ol + ((p + k) * 7 + 5) ≡ seg_base ol + (p * 7 + 5) + k * 7 = omega arith in
      subst (λ (x : ℕ). get_or O x 0 + nu < 2 ^ 32) e (a.uses (p + k) (omega arith))

  module _ (W₁ : List ℕ) (e₁ : W₁ ≡ raised nu 7 O (seg_base ol + (p * 7 + 5)) (c.segs - p)) where
    pub lift_firsts : (k : ℕ) → k < c.regs - (v + 1) → get_or W₁ ((v + 1) * 8 + 6 + k * 8) 0 + np < 2 ^ 32
    lift_firsts k l =
        let i : ℕ = v + 1 + k in
        let e : i * 8 + 6 ≡ (v + 1) * 8 + 6 + k * 8 = omega arith in
        let g : get_or W₁ (i * 8 + 6) 0 ≡ get_or O (i * 8 + 6) 0 =
        ap (λ (t : List ℕ). get_or t (i * 8 + 6) 0) e₁ ∙ raised_before nu 7 O (seg_base ol + (p * 7 + 5)) (c.segs - p) (i * 8 + 6) (omega (arith, a.regs)) in
        subst (λ (x : ℕ). get_or W₁ x 0 + np < 2 ^ 32) e (subst (λ (x : ℕ). x + np < 2 ^ 32) (sym g) (a.firsts i (omega arith)))

    pub lift_count : (W₂ : List ℕ) (n : ℕ) → W₂ ≡ raised np 8 W₁ ((v + 1) * 8 + 6) n → get_or W₂ (v * 8 + 7) 0 + np < 2 ^ 32
    lift_count W₂ n e₂ =
        let g : get_or W₂ (v * 8 + 7) 0 ≡ get_or O (v * 8 + 7) 0 =
        ap (λ (t : List ℕ). get_or t (v * 8 + 7) 0) e₂ ∙ raised_before np 8 W₁ ((v + 1) * 8 + 6) n (v * 8 + 7) (omega arith)
        ∙ ap (λ (t : List ℕ). get_or t (v * 8 + 7) 0) e₁ ∙ raised_before nu 7 O (seg_base ol + (p * 7 + 5)) (c.segs - p) (v * 8 + 7) (omega (arith, a.here, a.regs)) in
        subst (λ (x : ℕ). x + np < 2 ^ 32) (sym g) a.count

pub lifted_of : (ol : OutLayout) (c : Counts) (v p np nu : ℕ) (hint : Bool) (O W₁ W₂ W₃ : List ℕ) → W₁ ≡ raised nu 7 O (seg_base ol + (p * 7 + 5)) (c.segs - p)
    → W₂ ≡ raised np 8 W₁ ((v + 1) * 8 + 6) (c.regs - (v + 1)) → W₃ ≡ grown v np hint W₂ → W₃ ≡ lifted ol c v p np nu hint O
unfolding lifted
lifted_of ol c v p np nu hint O W₁ W₂ W₃ e₁ e₂ e₃ =
    e₃ ∙ ap (λ (t : List ℕ). grown v np hint t) (e₂ ∙ ap (λ (t : List ℕ). raised np 8 t ((v + 1) * 8 + 6) (c.regs - (v + 1))) e₁)

-- ---- the gaps

module _ (ol : OutLayout) (O : List ℕ) (c : Counts) (v : VirtReg) (k np nu f u : ℕ) (ef : f ≡ get_or O (v.0 * 8 + 6) 0)
    (eu : (st : State) → Holds ol O st → c ≡ counts_of st → u ≡ first_use st (f + k)) where
  pub use_le : Ask ol O c v k np nu → u ≤ c.uses
  use_le a =
      let e : c.uses ≡ uses_in a.st = ap (λ (x : Counts). x.uses) a.counts in
      omega (arith, eu a.st a.holds a.counts, first_use_le a.st (f + k))

  pub opened_last : (O₁ O₃ : List ℕ) (hint : Bool) → O₁ ≡ lifted ol c v.0 (f + k) np nu hint O → Gaps₂ ol c (f + k) u np nu O₁ O₃ → c.segs + np ≤ ol.segs → c.uses + nu ≤ ol.uses
      → (st : State) → Holds ol O st → c ≡ counts_of st → v.0 < length st.registers → k ≤ length (register_at st v).pieces → Opened ol st c v k np nu hint (f + k) u O₃
  opened_last O₁ O₃ hint e₁ g fs fu st h ec here hk =
      let n : c.segs ≡ pieces_in st = ap (λ (x : Counts). x.segs) ec in
      let m : c.uses ≡ uses_in st = ap (λ (x : Counts). x.uses) ec in
      let first : f ≡ first_piece st v = ef ∙ first_held ol O st h v here in
      let e : u ≡ first_use st (f + k) = eu st h ec in
      opened_of ol O st h c ec v here (f + k) u np nu hint (omega (arith, pieces_in_lem ol O st h v here)) e O₁ g.mid O₃ k e₁ g.pieces g.uses (ap (λ (x : ℕ). x + k) first)
      (omega (arith, first_use_le st (f + k))) fs fu
