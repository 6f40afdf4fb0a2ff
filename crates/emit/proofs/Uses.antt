-- Uses of a piece written one by one, and their costs added. Assumes nothing.
use Rattle.std.specs.Prelude.{◌≡◌, refl, List, [], ◌∷◌, ◌++◌, ℕ, ◌+◌, ◌-◌, ◌*◌, ◌≤◌, ◌<◌, length, Float}
use Rattle.std.proofs.Common.{sym, ap, ◌∙◌, subst, arith, append-nil, length-append}
use mathlib.Core.List.{append_assoc}
use Rattle.words.specs.Tab.{tab, length_tab, tab_snoc}
use Rattle.words.specs.Parts.{splice}
use Rattle.definition.specs.declared.Remat.{Remat}
use Rattle.definition.specs.declared.Use.{Use}
use Rattle.definition.specs.Types.{Job}
use Rattle.definition.specs.Weights.{sum_uses}
use Rattle.weights.proofs.Sums.{uses_append}
use Rattle.virt_regs.specs.declared.OutLayout.{OutLayout}
use Rattle.virt_regs.specs.Encoding.{use_base, tables_end, use_words}
use Rattle.vregs_write.specs.Written.{Written, written_use}
use Rattle.emit.specs.declared.tally.Costs.{Costs}
use Rattle.emit.specs.Told.{NearFits, use_adds, UsesAdd}

module _ (J : Job) (ol : OutLayout) (u : ℕ) (r : Remat) where
  -- no uses
  pub uses_nil : (O : List ℕ) (s : Costs) → NearFits J.blocks s.near → UsesAdd J ol u r [] O s O s
  unfolding sum_uses
  uses_nil O s n = record {
    near = n;
    sum = refl;
    written = λ O₀ p₀ u₀ ps us w f e. subst (λ (l : List Use). Written ol O₀ p₀ u₀ ps l O) (sym (append-nil us)) w;
  }

  -- those of xs, then those of ys
  pub uses_both : (xs ys : List Use) (n : ℕ) (O₁ O₂ O₃ : List ℕ) (s₁ s₂ s₃ : Costs) → UsesAdd J ol u r xs O₁ s₁ O₂ s₂
      → n ≡ u + length xs → UsesAdd J ol n r ys O₂ s₂ O₃ s₃
      → UsesAdd J ol u r (xs ++ ys) O₁ s₁ O₃ s₃
  uses_both xs ys n O₁ O₂ O₃ s₁ s₂ s₃ a e b = record {
    near = b.near;
    sum = b.sum ∙ ap (λ (y : Float). sum_uses J r y ys) a.sum ∙ sym (uses_append J r s₁.total.value xs ys);
    written =
        λ O p₀ u₀ ps us w f eu.
        subst (λ (l : List Use). Written ol O p₀ u₀ ps l O₃) (append_assoc us xs ys)
        (b.written O p₀ u₀ ps (us ++ xs) (a.written O p₀ u₀ ps us w f eu) f (omega (arith, length-append us xs)));
  }

  -- one use
  pub uses_one : (x : Use) (O₁ O₂ : List ℕ) (s t : Costs) → tables_end ol ≤ length O₁ → u < ol.uses
      → O₂ ≡ splice O₁ (use_base ol + u * 6) (use_words x) → NearFits J.blocks t.near
      → t.total.value ≡ use_adds J r s.total.value x → UsesAdd J ol u r (x ∷ []) O₁ s O₂ t
  unfolding sum_uses
  uses_one x O₁ O₂ s t l h e n es = record {
    near = n;
    sum = es;
    written =
        λ O p₀ u₀ ps us w f eu.
        written_use ol O p₀ u₀ ps us O₁ O₂ x w (omega (arith, w.long)) f (omega arith) (e ∙ ap (λ (j : ℕ). splice O₁ (use_base ol + j * 6) (use_words x)) eu);
  }

module _ (J : Job) (ol : OutLayout) (u : ℕ) (r : Remat) (f : ℕ → Use) (a : ℕ) where
  pub uses_start : (O : List ℕ) (s : Costs) → NearFits J.blocks s.near → UsesAdd J ol u r (tab f a (a - a)) O s O s
  uses_start O s n =
      let z : a - a ≡ 0 = omega arith in
      subst (λ (k : ℕ). UsesAdd J ol u r (tab f a k) O s O s) (sym z) (uses_nil J ol u r O s n)

  -- use i more, whose words are put from word `to` on
  pub uses_next : (i to : ℕ) (x : List ℕ) (O₁ O₂ O₃ : List ℕ) (s₁ s₂ s₃ : Costs)
      → UsesAdd J ol u r (tab f a (i - a)) O₁ s₁ O₂ s₂ → a ≤ i → tables_end ol ≤ length O₂ → u + (i - a) < ol.uses
      → to ≡ use_base ol + (u + (i - a)) * 6 → x ≡ use_words (f i) → O₃ ≡ splice O₂ to x → NearFits J.blocks s₃.near
      → s₃.total.value ≡ use_adds J r s₂.total.value (f i)
      → UsesAdd J ol u r (tab f a (i + 1 - a)) O₁ s₁ O₃ s₃
  uses_next i to x O₁ O₂ O₃ s₁ s₂ s₃ w h l k et ex e n es =
      let m : i + 1 - a ≡ (i - a) + 1 = omega arith in
      let q : a + (i - a) ≡ i = omega arith in
      let more : tab f a (i - a) ++ (f i ∷ []) ≡ tab f a (i + 1 - a) =
      ap (λ (j : ℕ). tab f a (i - a) ++ (f j ∷ [])) (sym q) ∙ sym (tab_snoc f a (i - a))
      ∙ ap (λ (j : ℕ). tab f a j) (sym m) in
      let put : O₃ ≡ splice O₂ (use_base ol + (u + (i - a)) * 6) (use_words (f i)) =
      e ∙ ap (λ (j : ℕ). splice O₂ j x) et ∙ ap (λ (ws : List ℕ). splice O₂ (use_base ol + (u + (i - a)) * 6) ws) ex in
      let one : UsesAdd J ol (u + (i - a)) r (f i ∷ []) O₂ s₂ O₃ s₃ = uses_one J ol (u + (i - a)) r (f i) O₂ O₃ s₂ s₃ l k put n es in
      subst (λ (xs : List Use). UsesAdd J ol u r xs O₁ s₁ O₃ s₃) more
      (uses_both J ol u r (tab f a (i - a)) (f i ∷ []) (u + (i - a)) O₁ O₂ O₃ s₁ s₂ s₃ w (omega (arith, length_tab f a (i - a))) one)

  -- at the end
  pub uses_all : (b i : ℕ) (O₁ O₂ : List ℕ) (s₁ s₂ : Costs) → UsesAdd J ol u r (tab f a (i - a)) O₁ s₁ O₂ s₂ → i ≤ b
      → b ≤ i → UsesAdd J ol u r (tab f a (b - a)) O₁ s₁ O₂ s₂
  uses_all b i O₁ O₂ s₁ s₂ w h l =
      let e : i - a ≡ b - a = omega arith in
      subst (λ (n : ℕ). UsesAdd J ol u r (tab f a n) O₁ s₁ O₂ s₂) e w
