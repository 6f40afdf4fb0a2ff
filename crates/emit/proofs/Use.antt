-- One use: the words of its row, its cost off these words, its block. Assumes nothing.
use Rattle.std.specs.Prelude.{◌≡◌, refl, Bool, false, List, [], ◌∷◌, ℕ, ◌+◌, ◌*◌, ◌≤◌, ◌<◌, length, get_or, Float}
use Rattle.std.proofs.Common.{sym, ap, ◌∙◌, ne_eqb}
use Rattle.std.specs.Float.{binary32}
use Rattle.std.specs.Float.Ieee.{of_bits}
use Rattle.words.specs.Tab.{tab}
use Rattle.definition.specs.declared.BlockData.{BlockData}
use Rattle.definition.specs.declared.Inst.{Inst}
use Rattle.definition.specs.declared.Options.{Options}
use Rattle.definition.specs.declared.Remat.{Remat}
use Rattle.definition.specs.declared.Use.{Use}
use Rattle.definition.specs.declared.UseKind.{UseKind}
use Rattle.definition.specs.declared.UseKind.TheVariants.{FixedDef, FixedUse, TiedUse, ConstraintConflict, ClassUse, ClassDef, GroupClassUse, GroupClassDef, BlockparamIn, BlockparamOut}
use Rattle.definition.specs.Types.{Job}
use Rattle.definition.specs.Uses.{cost_of}
use Rattle.definition.specs.Entry.{insts_of}
use Rattle.definition.specs.SplitPlacement.{freq_at}
use Rattle.definition.specs.Weights.{scaled, add_cost}
use Rattle.definition.specs.Lines.{numbers_of}
use Rattle.definition.specs.Build.{turned_use}
use Rattle.weights.specs.Costs.{fixed_cost}
use Rattle.weights.specs.declared.plain.Plain.{Plain}
use Rattle.function.specs.Blocks.{Starts, block_of}
use Rattle.function.specs.BlockLaws.{block_holds, starts_frequency}
use Rattle.job.specs.declared.Layout.{Layout}
use Rattle.set_part.specs.Part.{marked_use}
use Rattle.uses.specs.Rows.{use_row}
use Rattle.vreg_weight.proofs.Reading.{near_here}
use Rattle.virt_regs.specs.Encoding.{use_words}
use Rattle.emit.specs.declared.near.Near.{Near}
use Rattle.emit.specs.Told.{NearFits, NearAt, cost_by, use_adds}

-- ---- the words

module _ (K : List ℕ) (marks : ℕ) (W : List ℕ) (lay : Layout) (n i m w : ℕ) (r : List ℕ) (ew : w ≡ get_or K m 0) (ei : i ≡ lay.uses.at + n * 6) (em : m ≡ marks + n) where
  here : get_or K (marks + n) 0 ≡ w
  here = ap (λ (k : ℕ). get_or K k 0) (sym em) ∙ sym ew

  -- a use without a mark
  pub plain_words : w ≡ 0 → r ≡ use_words (use_row W i) → r ≡ use_words (marked_use K marks W lay n)
  unfolding marked_use
  plain_words z e = rw (here ∙ z) (e ∙ ap (λ (k : ℕ). use_words (use_row W k)) ei)

turned_words : (W : List ℕ) (i p : ℕ) → p ≡ get_or W (i + 1) 0
    → ◌≡◌ {A = List ℕ} (3 ∷ p ∷ 0 ∷ 0 ∷ 0 ∷ 0 ∷ []) (use_words (turned_use (use_row W i)))
unfolding use_row
turned_words W i p ep = ap (λ (q : ℕ). 3 ∷ q ∷ 0 ∷ 0 ∷ 0 ∷ 0 ∷ []) ep

-- one with a mark
pub marked_turned : (K : List ℕ) (marks : ℕ) (W : List ℕ) (lay : Layout) (n i m w p : ℕ) → w ≡ get_or K m 0
    → i ≡ lay.uses.at + n * 6 → m ≡ marks + n → (w ≡ 0 → ⊥) → p ≡ get_or W (i + 1) 0
    → ◌≡◌ {A = List ℕ} (3 ∷ p ∷ 0 ∷ 0 ∷ 0 ∷ 0 ∷ []) (use_words (marked_use K marks W lay n))
unfolding marked_use
marked_turned K marks W lay n i m w p ew ei em z ep =
    let k : get_or K (marks + n) 0 ≡ 0 → ⊥ = λ q. z (ew ∙ ap (λ (j : ℕ). get_or K j 0) em ∙ q) in
    rw (ne_eqb (get_or K (marks + n) 0) 0 k) (turned_words W i p ep ∙ ap (λ (j : ℕ). use_words (turned_use (use_row W j))) ei)

-- ---- the cost

pub cost_reg : (J : Job) (r : ℕ) (m : Bool) (x : Float) → m ≡ get_or J.memory r false → x ≡ fixed_cost m
    → x ≡ cost_by J 0 r 0
unfolding cost_by cost_of
cost_reg J r m x em e = e ∙ ap fixed_cost em

abbrev field : UseKind → ℕ → ℕ → ℕ
field k p j = get_or (tab (λ i. get_or (numbers_of k p) i 0) 0 6) j 0

kind_cost : (J : Job) (k : UseKind) (p : ℕ) → cost_by J (field k p 0) (field k p 2) (field k p 3) ≡ cost_of J k
unfolding cost_by cost_of
kind_cost J (FixedDef r) p = refl
kind_cost J (FixedUse r) p = refl
kind_cost J (TiedUse u d c i) p = refl
kind_cost J ConstraintConflict p = refl
kind_cost J (ClassUse s c) p = refl
kind_cost J (ClassDef s c) p = refl
kind_cost J (GroupClassUse s c i) p = refl
kind_cost J (GroupClassDef s c i) p = refl
kind_cost J (BlockparamIn q) p = refl
kind_cost J BlockparamOut p = refl

kind_pos : (k : UseKind) (p : ℕ) → field k p 1 ≡ p
kind_pos (FixedDef r) p = refl
kind_pos (FixedUse r) p = refl
kind_pos (TiedUse u d c i) p = refl
kind_pos ConstraintConflict p = refl
kind_pos (ClassUse s c) p = refl
kind_pos (ClassDef s c) p = refl
kind_pos (GroupClassUse s c i) p = refl
kind_pos (GroupClassDef s c i) p = refl
kind_pos (BlockparamIn q) p = refl
kind_pos BlockparamOut p = refl

-- the law that joins rows and costs: the words of a use's row tell its cost and its instruction
words_cost : (J : Job) (u : Use) (x : List ℕ) → x ≡ use_words u
    → cost_by J (get_or x 0 0) (get_or x 2 0) (get_or x 3 0) ≡ cost_of J u.kind
words_cost J u x e = ap (λ (l : List ℕ). cost_by J (get_or l 0 0) (get_or l 2 0) (get_or l 3 0)) e ∙ kind_cost J u.kind u.pos.0

words_pos : (u : Use) (x : List ℕ) → x ≡ use_words u → get_or x 1 0 ≡ u.pos.0
words_pos u x e = ap (λ (l : List ℕ). get_or l 1 0) e ∙ kind_pos u.kind u.pos.0

-- the words of a block parameter
pub param_words : (p : Inst) (q : ℕ)
    → ◌≡◌ {A = List ℕ} (8 ∷ p.0 ∷ q ∷ 0 ∷ 0 ∷ 0 ∷ []) (use_words (record { pos = p; kind = BlockparamIn q }))
param_words p q = refl

-- ---- the block

found_frequency : (K : List ℕ) (at n b i : ℕ) (bs : List BlockData) → Starts K at bs → length bs ≡ n → i < insts_of bs
    → ((cs : List BlockData) → Starts K at cs → length cs ≡ n → i < insts_of cs → b ≡ block_of cs i)
    → freq_at bs i ≡ of_bits binary32 (get_or K (at + b * 2 + 1) 0)
found_frequency K at n b i bs s e h f = starts_frequency s (block_holds bs i h) ∙ ap (λ (k : ℕ). of_bits binary32 (get_or K (at + k * 2 + 1) 0)) (sym (f bs s e h))

-- a block that was found
pub near_found : (bs : List BlockData) (K : List ℕ) (at n b pos : ℕ) (low high : Inst) (freq : Plain) → Starts K at bs
    → length bs ≡ n
    → (b < n) × ((cs : List BlockData) → Starts K at cs → length cs ≡ n → pos < insts_of cs → b ≡ block_of cs pos)
    → low.0 ≡ get_or K (at + b * 2) 0 → high.0 ≡ get_or K (at + (b + 1) * 2) 0
    → freq.value ≡ of_bits binary32 (get_or K (at + b * 2 + 1) 0)
    → NearAt bs pos (record { low = low; high = high; freq = freq })
near_found bs K at n b pos low high freq s e f el eh ef = (
  λ i lo hi h. found_frequency K at n b i bs s e h (near_here K at n b low.0 high.0 i el eh f.0 lo hi).1 ∙ sym ef,
  λ h. found_frequency K at n b pos bs s e h f.1 ∙ sym ef,
)

-- the block at hand
pub near_kept : (bs : List BlockData) (nr : Near) (pos : ℕ) → nr.low.0 ≤ pos → pos < nr.high.0 → NearFits bs nr
    → NearAt bs pos nr
near_kept bs nr pos lo hi f = (f, λ h. f pos lo hi h)

-- ---- the sum with it

pub use_sum : (J : Job) (x : List ℕ) (o : Options) (r : Remat) (sum cost total : Float) (nr : Near) → o ≡ J.options
    → cost ≡ cost_by J (get_or x 0 0) (get_or x 2 0) (get_or x 3 0)
    → NearAt J.blocks (get_or x 1 0) nr → total ≡ add_cost sum (scaled o r cost) nr.freq.value
    → (u : Use) → x ≡ use_words u → u.pos.0 < insts_of J.blocks → total ≡ use_adds J r sum u
use_sum J x o r sum cost total nr eo ec near et u e h =
    let p : get_or x 1 0 ≡ u.pos.0 = words_pos u x e in
    let f : nr.freq.value ≡ freq_at J.blocks u.pos.0 = sym (near.1 (rw p h)) ∙ ap (λ (i : ℕ). freq_at J.blocks i) p in
    et
    ∙ ap (λ (y : Options). add_cost sum (scaled y r cost) nr.freq.value) eo
    ∙ ap (λ (y : Float). add_cost sum (scaled J.options r y) nr.freq.value) (ec ∙ words_cost J u x e)
    ∙ ap (λ (y : Float). add_cost sum (scaled J.options r (cost_of J u.kind)) y) f
